use Rattle.std.proofs.Common.{arith, rules}
use Rattle.simulate.specs.Counts.{Simulated}
use Rattle.simulate.proofs.Promises.{keeps-bounds}
use Rattle.simulate.proofs.Walks.{tells_on}
use Rattle.simulate.proofs.stepping.Simulation.advance.Goals as goal

pub loop-step-preserved : goal.loop-step-preserved
loop-step-preserved g c =
    let s = c.loop-step.self in
    let u = c.step.new.self in (
      omega (arith, c.loop-step.invariant.0, c.in-Ok.ensures.stepped.number),
      λ r t. tells_on g.P.Pledge.view r s.run u.run s.journal u.journal c.in-Ok.ensures (c.loop-step.invariant.1 r t),
    )

pub returns-after-loop-step : goal.returns-after-loop-step
returns-after-loop-step g c =
    let s = c.args.self.now in
    let u = c.loop-step.self in
    let done : Simulated g.P.Pledge.view c.args.steps s.run s.journal u.run u.journal = record {
      number = omega (arith, c.loop-step.invariant.0, u.run.time);
      tells = c.loop-step.invariant.1;
    } in
    record { done = done; kept = keeps-bounds g.P.Pledge.view c.args.steps s.run u.run s.journal u.journal done }

pub returns-in_default : goal.returns-in_default
returns-in_default g c =
    let s = c.args.self.now in
    let u = c.step.new.self in
    let done : Simulated g.P.Pledge.view c.args.steps s.run s.journal u.run u.journal = search rules in
    record { done = done; kept = keeps-bounds g.P.Pledge.view c.args.steps s.run u.run s.journal u.journal done }
