use Rattle.std.proofs.Common.{◌≡◌, ◌/◌, arith}
use Rattle.simulate.proofs.Promises.{keeps-bounds}
use Rattle.simulate.proofs.Walks.{all_tenths, tenth_more}
use Rattle.simulate.proofs.advance_long.Goals as goal

pub loop-tenth-preserved : goal.loop-tenth-preserved
loop-tenth-preserved g c =
    let s = c.advance.new.self in
    let t = c.loop-tenth.simulation in
    let u = c.advance-in-loop-tenth.new.self in
    tenth_more g.P.Pledge.view (c.args.steps / 10) c.loop-tenth.tenth-counter s.run t.run u.run s.journal t.journal u.journal (omega arith)
    c.loop-tenth.invariant c.advance-in-loop-tenth.ensures.done

pub returns : goal.returns
returns g c =
    let s = c.args.simulation.now in
    let t = c.advance.new.self in
    let u = c.loop-tenth.simulation in
    let last : c.loop-tenth.tenth-counter ≡ 11 = omega arith in
    let done =
    all_tenths g.P.Pledge.view c.args.steps c.loop-tenth.tenth-counter s.run t.run u.run s.journal t.journal u.journal last c.advance.ensures.done
    c.loop-tenth.invariant in
    record { done = done; kept = keeps-bounds g.P.Pledge.view c.args.steps s.run u.run s.journal u.journal done }
