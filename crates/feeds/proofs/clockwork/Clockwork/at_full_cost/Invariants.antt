use Rattle.std.proofs.Common.{ℕ, ◌<◌, ◌≤◌, true, false}
use Rattle.rating.specs.Bounds.{row_of}
use Rattle.feeds.specs.Clocks.{Has, entry_of}
use Rattle.feeds.proofs.clockwork.Clockwork.at_full_cost.Given as goal

-- the marks of the rows passed are started, and the others are unset
abbrev pub invariant-loop-i : goal.invariant-loop-i
invariant-loop-i g l = ((k : ℕ) → k < l.i → Has (entry_of l.clock k) true 0 (row_of l.rows k).period (row_of l.rows k).memory (row_of l.rows k).compute)
    × ((k : ℕ) → l.i ≤ k → Has (entry_of l.clock k) false 0 1000000 0 1)
