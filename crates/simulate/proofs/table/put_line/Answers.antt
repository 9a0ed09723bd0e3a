use Rattle.std.proofs.Common.{[], ◌∷◌, ◌++◌, map, string_bytes, ap, ◌∙◌}
use Rattle.simulate.specs.Tables.{holder_of, letter_of, line_of, name_of}
use Rattle.simulate.proofs.Texts.{then3}
use Rattle.simulate.proofs.table.put_line.Goals as goal

pub returns : goal.returns
unfolding line_of lib.Utf8.encode
returns c =
    then3 (string_bytes c.args.text.now) (name_of c.args.phase) (map (λ a. letter_of (holder_of c.args.phase a)) c.args.answers.now) (10 ∷ [])
    (c.in_ok-push_str.ensures.bytes ∙ ap (λ z. string_bytes c.args.text.now ++ z) c.name.ensures) c.in_ok-put_letters.ensures
    c.in_ok-push.ensures.bytes
