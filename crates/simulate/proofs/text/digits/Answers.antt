use Rattle.std.proofs.Common.{◌≡◌, length, sym, ap, arith}
use Rattle.std.proofs.lemmas.Fmt.{decimal_digit}
use Rattle.simulate.proofs.Columns.{length-decimal}
use Rattle.simulate.proofs.text.digits.Goals as goal

pub returns-in-Some : goal.returns-in-Some
returns-in-Some c = sym (length-decimal c.args.n c.in-Some.tens (omega arith) c.in-Some.ensures.power_le c.in-Some.ensures.next_power_gt)

pub returns-in-None : goal.returns-in-None
returns-in-None c =
    let none : c.args.n ≡ 0 = c.in-None.ensures.none in
    sym (ap length (decimal_digit c.args.n (omega (arith, none))))
