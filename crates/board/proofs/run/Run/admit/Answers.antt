use Rattle.std.proofs.Common.{◌≡◌, subst, arith}
use Rattle.board.specs.Rules.{EnteredAt}
use Rattle.board.proofs.Entering.{entered_more}
use Rattle.board.proofs.Marks.{front_mark}
use Rattle.board.proofs.run.Run.admit.Goals as goal

-- the mark of this turn has the number of the turn
pub loop-mark-preserved : goal.loop-mark-preserved
loop-mark-preserved g c =
    let i = c.loop-mark.mark-index in
    let mark = c.mark-item.result in
    let at : mark.value ≡ i = front_mark c.all.result _ i mark _ c.mark-item.is c.loop-mark-test.true (omega arith) (c.all.ensures _) in
    entered_more g.P.Pledge.view i c.args.self.now c.loop-mark.self c.admit_row.new.self c.loop-mark.invariant
    (subst (λ k. EnteredAt g.P.Pledge.view k c.loop-mark.self c.admit_row.new.self) at c.admit_row.ensures)
