use Rattle.std.proofs.Common.{◌≡◌, sym, refl, rules, subst}
use Rattle.std.specs.Str.{all_ascii_digits}
use Rattle.std.specs.Str.Parse.{ParsesUnsigned}
use Rattle.lines.proofs.Fields.{no-number, number-read}
use Rattle.lines.proofs.field.number.Goals as goal

pub returns-in_default : goal.returns-in_default
returns-in_default c = no-number c.args.word.now (sym c.if-is_empty.ensures) c.in_default.ensures.cases.0 (all_ascii_digits c.args.word.now) refl

pub returns : goal.returns
returns c =
    let same : c.in-Ok.digits.now ≡ c.args.word.now = c.in-Ok.ensures.cases.0
    in number-read c.args.word.now c.parse.result c.map_err.result (sym c.if-is_empty.ensures) (sym c.if-not-all_digits.ensures)
    (subst (λ bs. ParsesUnsigned 32 10 bs c.parse.result) same c.parse.ensures.value.0) (search rules)
