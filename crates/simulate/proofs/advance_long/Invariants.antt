use Rattle.std.proofs.Common.{◌-◌, ◌*◌, ◌/◌}
use Rattle.simulate.specs.Counts.{Simulated}
use Rattle.simulate.proofs.advance_long.Given as goal

abbrev pub invariant-loop-tenth : goal.invariant-loop-tenth
invariant-loop-tenth g l =
    Simulated g.P.Pledge.view (l.steps / 10 * (l.tenth-counter - 1)) l.initial.simulation.run l.initial.simulation.journal l.simulation.run
    l.simulation.journal
