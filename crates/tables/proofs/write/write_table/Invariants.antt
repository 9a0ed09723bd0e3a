use Rattle.std.proofs.Common.{◌≡◌, ℕ, ◌<◌, get_or, take, vec_items}
use Rattle.lines.specs.Prints.{ParsesBack}
use Rattle.rows.specs.Rows.{blank}
use Rattle.tables.specs.Written.{table_text}
use Rattle.tables.proofs.write.write_table.Given as goal

abbrev pub invariant-loop-row : goal.invariant-loop-row
invariant-loop-row l =
    (vec_items l.table ≡ table_text (take l.row-index l.row-items))
    × ((i : ℕ) → i < l.row-index → ParsesBack (get_or l.row-items i blank))
