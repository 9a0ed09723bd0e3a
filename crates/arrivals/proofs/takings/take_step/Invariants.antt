use Rattle.std.proofs.Common.{◌≡◌, ◌++◌, vec_items}
use Rattle.arrivals.specs.Takings.{TakenBelow, takings_below}
use Rattle.arrivals.proofs.takings.take_step.Given as goal

-- what the marks passed offered is taken
abbrev pub invariant-loop-k : goal.invariant-loop-k
invariant-loop-k g l =
    (vec_items l.takings ≡ vec_items l.initial.takings ++ takings_below l.step (g.F.Pledge.view l.initial.feed).offer l.k-index)
    × TakenBelow l.k-index (g.F.Pledge.view l.initial.feed) (g.F.Pledge.view l.feed)
