use Rattle.std.proofs.Common.{◌≡◌, ◌+◌}
use Rattle.simulate.specs.Counts.{Tells}
use Rattle.simulate.proofs.stepping.Simulation.advance.Given as goal

abbrev pub invariant-loop-step : goal.invariant-loop-step
invariant-loop-step g l = (l.self.run.number ≡ l.initial.self.run.number + l._step)
    × ((r : _) → Tells g.P.Pledge.view r l.initial.self.run l.initial.self.journal → Tells g.P.Pledge.view r l.self.run l.self.journal)
