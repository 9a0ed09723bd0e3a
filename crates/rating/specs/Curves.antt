use Rattle.std.specs.Prelude.{◌≡◌, ℕ, zero, suc, ◌+◌, ◌<◌, ◌≤◌, cond, Some, None, Option, ◌==◌, ◌≢◌}

-- how much work is asked in a length of steps; a longer length never asks less
pub record Rising : Type 0 where
  pub work : ℕ → ℕ
  pub rises : (v w : ℕ) → v ≤ w → work v ≤ work w

-- the first length from v on, among the next n, whose work is the length itself
unfoldable pub first_solution : (ℕ → ℕ) → ℕ → ℕ → Option ℕ
first_solution work v zero = None
first_solution work v (suc n) = cond (work v == v) (Some v) (first_solution work (v + 1) n)

-- the first length from 0 up to the ceiling whose work is the length itself
abbrev pub least_within : (ℕ → ℕ) → ℕ → Option ℕ
least_within work ceiling = first_solution work 0 (ceiling + 1)

-- w is within the ceiling, its work is w itself, and that holds of nothing below it
pub record LeastAt (work : ℕ → ℕ) (ceiling w : ℕ) : Type 0 where
  pub within : w ≤ ceiling
  pub solves : work w ≡ w
  pub first : (v : ℕ) → v < w → work v ≢ v

-- the answer of a search for the least solution up to the ceiling: that solution, or none where there is none
abbrev pub Least : (ℕ → ℕ) → ℕ → Option ℕ → Type 0
Least work ceiling (Some w) = LeastAt work ceiling w
Least work ceiling None = (w : ℕ) → w ≤ ceiling → work w ≢ w

-- the least solution under no ceiling
pub record LeastSolution (work : ℕ → ℕ) (w : ℕ) : Type 0 where
  pub solves : work w ≡ w
  pub first : (v : ℕ) → v < w → work v ≢ v
