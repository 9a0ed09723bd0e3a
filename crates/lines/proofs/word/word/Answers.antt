use Rattle.std.proofs.Common.{◌≡◌, ◌+◌, ◌-◌, sym, ap, ◌∙◌}
use Rattle.lines.specs.Words.{word_in}
use Rattle.lines.proofs.Words.{word-words, word_here, word_on}
use Rattle.lines.proofs.word.word.Goals as goal

pub loop-passed-preserved : goal.loop-passed-preserved
loop-passed-preserved c =
    ap (λ rest. word_in rest (c.args.number - (c.loop-passed._passed + 1))) c.after_word-rest.ensures
    ∙ sym (word_on c.loop-passed.rest.now c.args.number c.loop-passed._passed c.loop-passed-test.true)
    ∙ c.loop-passed.invariant

pub returns : goal.returns
returns c =
    let value : c.first_word.result.now ≡ word_in c.args.line.now c.args.number =
    c.first_word.ensures ∙ sym (word_here c.loop-passed.rest.now c.args.number c.loop-passed._passed c.loop-passed-test.false)
    ∙ c.loop-passed.invariant
    in record { value = value; pieces = value ∙ sym (word-words c.args.line.now c.args.number) }
