use Rattle.std.proofs.Common.{sym, ap, append-nil}
use Rattle.arrivals.specs.Takings.{takings_below}
use Rattle.arrivals.proofs.Steps.{mark_on, none-taken}
use Rattle.arrivals.proofs.takings.take_step.Goals as goal

pub loop-k-init : goal.loop-k-init
unfolding takings_below
loop-k-init g c = (sym (append-nil _), none-taken _)

pub loop-k-preserved : goal.loop-k-preserved
loop-k-preserved g c =
    let made = c.in_ok-take_mark.ensures
    in let i = c.loop-k.k-index
    in let mark = c.all-k-items.ensures c.k-item.result i c.loop-k-test.true
    in mark_on c.args.step i _ _ _ _ _ _ c.loop-k.invariant.0 c.loop-k.invariant.1 _ mark made.taken
    (λ none. ap g.F.Pledge.view (made.idle none)) made.listed
