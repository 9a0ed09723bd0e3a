use Rattle.std.proofs.Common.{vec_items}
use Rattle.arrivals.specs.Takings.{Runs}
use Rattle.arrivals.proofs.takings.take_steps.Given as goal

abbrev pub invariant-loop-step : goal.invariant-loop-step
invariant-loop-step g l = Runs l.wanted (g.F.Pledge.view l.initial.feed) l.step (vec_items l.takings) (g.F.Pledge.view l.feed)
