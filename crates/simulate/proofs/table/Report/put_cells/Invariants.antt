use Rattle.std.proofs.Common.{◌≡◌, ◌++◌, take, string_bytes}
use Rattle.simulate.specs.Tables.{cell_in, columns, in_turn}
use Rattle.simulate.proofs.table.Report.put_cells.Given as goal

abbrev pub invariant-loop-column : goal.invariant-loop-column
invariant-loop-column g l = string_bytes l.text ≡ string_bytes l.initial.text ++ in_turn (cell_in l.self.rating.now l.self.journal.now l.k) (take l.column-index columns)
