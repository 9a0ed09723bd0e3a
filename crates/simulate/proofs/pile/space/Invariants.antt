use Rattle.std.proofs.Common.{◌≡◌, ℕ, ◌<◌, ◌≤◌}
use Rattle.layers.specs.Gates.{Spaced, spacing}
use Rattle.rating.specs.Bounds.{row_of}
use Rattle.simulate.proofs.pile.space.Given as goal

-- the marks of the rows passed are spaced, and the others are not
abbrev pub invariant-loop-i : goal.invariant-loop-i
invariant-loop-i g l = (l.layer.below ≡ l.initial.layer.below)
    × ((k : ℕ) → k < l.i → Spaced (spacing l.layer k) (row_of l.rows k).period 0)
    × ((k : ℕ) → l.i ≤ k → Spaced (spacing l.layer k) 1 0)
