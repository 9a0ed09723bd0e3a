use Rattle.board.specs.Rules.{Entered}
use Rattle.board.proofs.run.Run.admit.Given as goal

-- the rows passed have their place after the first rule, and the others are as they were
abbrev pub invariant-loop-mark : goal.invariant-loop-mark
invariant-loop-mark g l = Entered g.P.Pledge.view l.mark-index l.initial.self l.self
