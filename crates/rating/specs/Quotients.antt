use Rattle.std.specs.Prelude.{ℕ, zero, suc, ◌+◌, ◌-◌, ◌*◌, ◌/◌, ◌≤◌}
use Rattle.std.proofs.Math.Nat.{div-zero}
use Rattle.std.proofs.Common.{div-mul-le_self, le-div_iff_mul-le, le_trans, arith}

-- a divided by b, rounded up
abbrev pub ceil : ℕ → ℕ → ℕ
ceil a b = (a + (b - 1)) / b

-- q is the least number of pieces of length b that cover a
pub record RoundsUp (a b q : ℕ) : Type 0 where
  pub enough : a ≤ q * b
  pub least : (p : ℕ) → a ≤ p * b → q ≤ p

-- a larger number has no smaller quotient
quotient_rises : (v w b : ℕ) → v ≤ w → v / b ≤ w / b
quotient_rises v w zero h = rw (div-zero v) (omega arith)
quotient_rises v w (suc b) h = (le-div_iff_mul-le (omega arith)).1 (le_trans (div-mul-le_self v (suc b)) h)

-- what covers more takes no fewer pieces
pub ceil-rises : (v w b : ℕ) → v ≤ w → ceil v b ≤ ceil w b
ceil-rises v w b h = quotient_rises (v + (b - 1)) (w + (b - 1)) b (omega arith)
