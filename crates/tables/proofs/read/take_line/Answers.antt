use Rattle.std.proofs.Common.{[], length, eqb-true, sym, ap, ◌∙◌}
use Rattle.std.proofs.lemmas.List.{nil_from_length}
use Rattle.lines.specs.Lines.{line_of}
use Rattle.rows.specs.Drafts.{rows_of}
use Rattle.tables.specs.Tables.{after_line, in_line}
use Rattle.tables.proofs.Taken.{empty_line}
use Rattle.tables.proofs.read.take_line.Goals as goal

pub returns-then-is_empty : goal.returns-then-is_empty
returns-then-is_empty c =
    let empty = nil_from_length c.args.line.now (eqb-true (length c.args.line.now) 0 (sym c.is_empty.ensures ∙ c.if-is_empty.true)) in
    sym (ap (λ o. in_line c.args.number (after_line (rows_of c.args.draft.now) o)) (ap line_of empty ∙ empty_line))
