use Rattle.std.proofs.Common.{◌≡◌, ℕ, ◌<◌, ◌≤◌}
use Rattle.layers.specs.Cuts.{Capped, cut}
use Rattle.rating.specs.Bounds.{row_of}
use Rattle.simulate.proofs.pile.cut.Given as goal

-- the marks of the rows passed are cut, and the others are not
abbrev pub invariant-loop-i : goal.invariant-loop-i
invariant-loop-i g l = (l.layer.below ≡ l.initial.layer.below)
    × ((k : ℕ) → k < l.i → Capped (cut l.layer k) (row_of l.rows k).memory (row_of l.rows k).compute)
    × ((k : ℕ) → l.i ≤ k → Capped (cut l.layer k) 1000000 1000000)
