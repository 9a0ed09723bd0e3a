use Rattle.std.proofs.Common.{◌≡◌, ◌++◌, string_bytes}
use Rattle.simulate.specs.Tables.{row_text, up_to}
use Rattle.simulate.proofs.table.Report.put_rows.Given as goal

abbrev pub invariant-loop-k : goal.invariant-loop-k
invariant-loop-k g l = string_bytes l.text ≡ string_bytes l.initial.text ++ up_to (row_text l.self.rating.now l.self.journal.now) l.k
