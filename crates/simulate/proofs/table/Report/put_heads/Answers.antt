use Rattle.std.proofs.Common.{◌∷◌, ◌++◌, get_or, string_bytes, ap, ◌∙◌, arith}
use Rattle.simulate.specs.Tables.{at_right, columns, head_in, head_of}
use Rattle.simulate.specs.declared.column.Column.TheVariants.{Admitted}
use Rattle.simulate.proofs.Texts.{in_turn-more}
use Rattle.simulate.proofs.table.Report.put_heads.Goals as goal

pub loop-column-preserved : goal.loop-column-preserved
loop-column-preserved g c =
    in_turn-more (head_in c.args.self.now.rating.now c.args.self.now.journal.now) (string_bytes c.args.text.now) columns c.loop-column.column-index Admitted
    (omega arith) c.loop-column.invariant
    (c.in_ok-put_head.ensures ∙ ap (λ w. string_bytes c.loop-column.text ++ (32 ∷ at_right w (head_of (get_or columns c.loop-column.column-index Admitted)))) c.width.ensures)
