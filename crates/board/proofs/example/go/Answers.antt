use Rattle.board.proofs.Going.{gone_none, gone_on}
use Rattle.board.proofs.example.go.Goals as goal

pub loop-step-init : goal.loop-step-init
loop-step-init g c = gone_none g.P.Pledge.view c.args.run.now c.requires

pub loop-step-preserved : goal.loop-step-preserved
loop-step-preserved g c = gone_on g.P.Pledge.view c.args.run.now _ _ _ _ c.loop-step.invariant c.step.ensures
