use Rattle.std.proofs.Common.{ℕ, ◌+◌, ◌-◌, ◌*◌, ◌<◌, div-lt_iff_lt-mul, add-mul, one-mul, arith}
use native.Mathlib.Nat.{lt-div-mul-add}
use Rattle.rating.specs.Quotients.{RoundsUp, ceil}

-- the quotient, rounded up, is the least number of pieces that suffices
pub ceil-law : (a b : ℕ) → 0 < b → RoundsUp a b (ceil a b)
ceil-law a b some = record {
  enough = omega (arith, lt-div-mul-add {a = a + (b - 1)} {b = b} some);
  least = λ p h.
      let more : a + (b - 1) < (p + 1) * b = omega (arith, add-mul p 1 b, one-mul b)
      in let below : ceil a b < p + 1 = (div-lt_iff_lt-mul {k = b} {x = a + (b - 1)} {y = p + 1} some).1 more
      in omega arith;
}
