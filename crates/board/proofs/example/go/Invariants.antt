use Rattle.board.specs.Example.{Gone}
use Rattle.board.proofs.example.go.Given as goal

-- so far as many steps as turns
abbrev pub invariant-loop-step : goal.invariant-loop-step
invariant-loop-step g l = Gone g.P.Pledge.view l.initial.run l._step l.run
