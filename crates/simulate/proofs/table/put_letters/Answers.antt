use Rattle.std.proofs.Common.{[], ◌∷◌, ◌++◌, map, string_bytes, ap, ◌∙◌, arith}
use Rattle.std.proofs.lemmas.List.{take_all}
use Rattle.simulate.specs.Tables.{holder_of, letter_of}
use Rattle.simulate.proofs.Texts.{mapped_push}
use Rattle.simulate.proofs.table.put_letters.Goals as goal

pub loop-answer-preserved : goal.loop-answer-preserved
loop-answer-preserved c =
    mapped_push (λ a. letter_of (holder_of c.args.phase a)) (string_bytes c.args.text.now) c.args.answers.now c.loop-answer.answer-index _ (omega arith)
    c.loop-answer.invariant
    (c.in_ok-push.ensures.bytes ∙ ap (λ z. string_bytes c.loop-answer.text ++ z) (c.in_ok-push.ensures.ascii c.letter.ensures.ascii) ∙ ap (λ n. string_bytes c.loop-answer.text ++ (n ∷ [])) (c.letter.ensures.value ∙ ap letter_of c.holder.ensures))

pub returns : goal.returns
returns c =
    c.loop-answer.invariant
    ∙ ap (λ xs. string_bytes c.args.text.now ++ map (λ a. letter_of (holder_of c.args.phase a)) xs)
    (take_all c.loop-answer.answer-index c.args.answers.now (omega arith))
