use Rattle.std.proofs.Common.{◌≡◌, ℕ, ◌<◌, ◌≤◌, length, get_or, take, Some}
use Rattle.rating.specs.Bounds.{bound_of, figure_at}
use Rattle.rating.specs.Demands.{sources_of}
use Rattle.rating.specs.Rankings.{Permutes, front_of}
use Rattle.rating.proofs.Bases.{Base}
use Rattle.rating.proofs.Phases.{sources_for}
use Rattle.rating.proofs.ranked.RankedDraft.phase_bounds.Given as goal

-- the rows passed are the sources gathered, each of them has its bound, and the last one is a base; the order has each row once
abbrev pub invariant-loop-k : goal.invariant-loop-k
invariant-loop-k l =
    (length l.found ≡ 32)
    × (sources_of l.demand ≡ sources_for l.phase l.rows (figure_at l.late) (take l.k-index l.order))
    × ((q : ℕ) → q < l.k-index
    → bound_of l.phase l.rows (figure_at l.late) (front_of l.order) (get_or l.order q 0)
    ≡ Some (figure_at l.found (get_or l.order q 0)))
    × Base (sources_of l.demand) l.base × (l.base ≤ 1000000) × Permutes (length l.rows) l.order
