use Rattle.std.proofs.Common.{refl, ◌∙◌}
use Rattle.lines.specs.Fields.{end_of, label_of, number_of, rank_of}
use Rattle.lines.specs.Lines.{row_in}
use Rattle.lines.proofs.Rows.{at, on, refused, stop}
use Rattle.lines.proofs.parse.row.Goals as goal

pub returns-in_err-label : goal.returns-in_err-label
unfolding row_in
returns-in_err-label c = refused _ c.from_residual.ensures.1 ∙ stop _ (at label_of _ 0 c.in_err-label.ensures)

pub returns-in_err-memory : goal.returns-in_err-memory
unfolding row_in
returns-in_err-memory c = refused _ c.from_residual-in_err-memory.ensures.1 ∙ on _ (at label_of _ 0 c.in_ok-label.ensures) (stop _ (at number_of _ 1 c.in_err-memory.ensures))

pub returns-in_err-compute : goal.returns-in_err-compute
unfolding row_in
returns-in_err-compute c = refused _ c.from_residual-in_err-compute.ensures.1 ∙ on _ (at label_of _ 0 c.in_ok-label.ensures) (on _ (at number_of _ 1 c.in_ok-memory.ensures) (stop _ (at number_of _ 2 c.in_err-compute.ensures)))

pub returns-in_err-deadline : goal.returns-in_err-deadline
unfolding row_in
returns-in_err-deadline c = refused _ c.from_residual-in_err-deadline.ensures.1 ∙ on _ (at label_of _ 0 c.in_ok-label.ensures) (on _ (at number_of _ 1 c.in_ok-memory.ensures) (on _ (at number_of _ 2 c.in_ok-compute.ensures) (stop _ (at number_of _ 3 c.in_err-deadline.ensures))))

pub returns-in_err-period : goal.returns-in_err-period
unfolding row_in
returns-in_err-period c = refused _ c.from_residual-in_err-period.ensures.1 ∙ on _ (at label_of _ 0 c.in_ok-label.ensures) (on _ (at number_of _ 1 c.in_ok-memory.ensures) (on _ (at number_of _ 2 c.in_ok-compute.ensures) (on _ (at number_of _ 3 c.in_ok-deadline.ensures) (stop _ (at number_of _ 4 c.in_err-period.ensures)))))

pub returns-in_err-memory_rank : goal.returns-in_err-memory_rank
unfolding row_in
returns-in_err-memory_rank c = refused _ c.from_residual-in_err-memory_rank.ensures.1 ∙ on _ (at label_of _ 0 c.in_ok-label.ensures) (on _ (at number_of _ 1 c.in_ok-memory.ensures) (on _ (at number_of _ 2 c.in_ok-compute.ensures) (on _ (at number_of _ 3 c.in_ok-deadline.ensures) (on _ (at number_of _ 4 c.in_ok-period.ensures) (stop _ (at rank_of _ 5 c.in_err-memory_rank.ensures))))))

pub returns-in_err-processor_rank : goal.returns-in_err-processor_rank
unfolding row_in
returns-in_err-processor_rank c = refused _ c.from_residual-in_err-processor_rank.ensures.1 ∙ on _ (at label_of _ 0 c.in_ok-label.ensures) (on _ (at number_of _ 1 c.in_ok-memory.ensures) (on _ (at number_of _ 2 c.in_ok-compute.ensures) (on _ (at number_of _ 3 c.in_ok-deadline.ensures) (on _ (at number_of _ 4 c.in_ok-period.ensures) (on _ (at rank_of _ 5 c.in_ok-memory_rank.ensures) (stop _ (at rank_of _ 6 c.in_err-processor_rank.ensures)))))))

pub returns-in_err-field : goal.returns-in_err-field
unfolding row_in
returns-in_err-field c = refused _ c.from_residual-in_err-field.ensures.1 ∙ on _ (at label_of _ 0 c.in_ok-label.ensures) (on _ (at number_of _ 1 c.in_ok-memory.ensures) (on _ (at number_of _ 2 c.in_ok-compute.ensures) (on _ (at number_of _ 3 c.in_ok-deadline.ensures) (on _ (at number_of _ 4 c.in_ok-period.ensures) (on _ (at rank_of _ 5 c.in_ok-memory_rank.ensures) (on _ (at rank_of _ 6 c.in_ok-processor_rank.ensures) (stop _ (at end_of _ 7 c.in_err-field.ensures))))))))

pub returns : goal.returns
unfolding row_in
returns c = on _ (at label_of _ 0 c.in_ok-label.ensures) (on _ (at number_of _ 1 c.in_ok-memory.ensures) (on _ (at number_of _ 2 c.in_ok-compute.ensures) (on _ (at number_of _ 3 c.in_ok-deadline.ensures) (on _ (at number_of _ 4 c.in_ok-period.ensures) (on _ (at rank_of _ 5 c.in_ok-memory_rank.ensures) (on _ (at rank_of _ 6 c.in_ok-processor_rank.ensures) (on _ (at end_of _ 7 c.in_ok-field.ensures) refl)))))))
