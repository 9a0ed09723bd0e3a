use Rattle.std.proofs.Common.{◌<◌, ◌≤◌, length, vec_items, arith}
use Rattle.arrivals.proofs.Steps.{none-run, run_on}
use Rattle.arrivals.proofs.takings.take_steps.Goals.{else-loop-step-test, then-loop-step-test+then-len-wanted}
use Rattle.arrivals.proofs.takings.take_steps.Goals as goal

pub loop-step-init : goal.loop-step-init
loop-step-init g c = none-run _ _ _ c.new-takings.ensures.items

pub loop-step-preserved : goal.loop-step-preserved
loop-step-preserved g c =
    let made = c.in_ok-take_step.ensures
    in run_on _ _ _ _ _ _ _ c.loop-step.invariant
    (record { few = omega (arith, c.len.ensures, c.loop-step.takings.ok.0, c.if-len-wanted.false); between = _; taken = made.taken; listed = made.listed; advanced = c.advance.ensures })

pub returns : goal.returns
returns g c =
    let ended : c.loop-step.step < 1000000 → c.args.wanted ≤ length (vec_items c.loop-step.takings) =
    λ h. elim c.loop-step-test.branch [
      | else-loop-step-test w ↦ absurd (omega (arith, h, w.loop-step-test.false))
      | then-loop-step-test+then-len-wanted w ↦ omega (arith, w.len.ensures, c.loop-step.takings.ok.0, w.if-len-wanted.true)
    ]
    in record { steps = c.loop-step.step; runs = c.loop-step.invariant; most = c.loop-step.auto.step-end; ended = ended }
