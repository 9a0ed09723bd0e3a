use Rattle.std.proofs.Common.{arith}
use Rattle.rating.specs.Sources.{asked}
use Rattle.rating.proofs.Demands.{asked-there, jobs_small, sound_there}
use Rattle.rating.proofs.demand.rules.DemandCurve.ask.Goals as goal

pub loop-source-init : goal.loop-source-init
unfolding asked
loop-source-init c = (omega arith, omega arith)

-- one more source is in the sum
pub loop-source-preserved : goal.loop-source-preserved
loop-source-preserved c =
    let lent = c.as_slice-source-items.ensures.value
    in let at = sound_there c.args.self.now c.as_slice-source-items.result.now lent c.loop-source.source-index c.loop-source-test.true
    in let more = asked-there c.args.self.now c.as_slice-source-items.result.now lent c.loop-source.source-index c.loop-source-test.true c.args.w
    c.rounded_up-jobs.result c.rounded_up-jobs.ensures.value
    in (
      omega (arith, more, c.loop-source.invariant.0),
      omega (arith, jobs_small c.rounded_up-jobs.result _ c.rounded_up-jobs.ensures.small at.cheap, c.loop-source.invariant.1),
    )
