use Rattle.std.proofs.Common.{ℕ, ◌<◌}
use Rattle.feeds.specs.Fits.{Meets}
use Rattle.rating.specs.Bounds.{row_of}
use Rattle.feeds.proofs.fit.fit.Given as goal

-- the rows passed are kept
abbrev pub invariant-loop-i : goal.invariant-loop-i
invariant-loop-i g l = (k : ℕ) → k < l.i → Meets (g.P.Pledge.view l.pledge) k (row_of l.row-items k)
