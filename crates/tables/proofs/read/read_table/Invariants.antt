use Rattle.std.proofs.Common.{◌≡◌, ◌+◌, drop, length}
use Rattle.rows.specs.Drafts.{rows_of}
use Rattle.tables.proofs.Texts.{pieces}
use Rattle.tables.specs.Tables.{table_from, table_of}
use Rattle.tables.proofs.read.read_table.Given as goal

-- the lines passed stand in the draft, and those to come decide
abbrev pub invariant-loop-passed : goal.invariant-loop-passed
invariant-loop-passed l = table_from (length l.yielded + 1) (rows_of l.draft) (drop (length l.yielded) (pieces l.text)) ≡ table_of l.text
