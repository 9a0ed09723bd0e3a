-- What a text of digits writes.
use Rattle.std.proofs.Common.{◌≡◌, ℕ, true, eqb, List, get_or, arith}
use Rattle.std.proofs.lemmas.Str.Parse.{digit_at}
use Rattle.std.proofs.lemmas.Bool.{eqb-true}
use Rattle.std.specs.Str.Parse.{IsNumeral}

-- a plus sign is no digit
pub no_plus : (bs : List ℕ) → eqb (get_or bs 0 0) 43 ≡ true → IsNumeral 10 bs → ⊥
no_plus bs e n = omega (arith, eqb-true (get_or bs 0 0) 43 e, digit_at bs 0 n.1 n.0)
