use Rattle.std.specs.Prelude.{ℕ, ◌+◌, List, [], ◌∷◌, ◌++◌, Some, None, Ok, Err, Option, Result}
use Rattle.lines.specs.Faults.{and_then}
use Rattle.lines.specs.Lines.{line_of}
use Rattle.lines.specs.declared.fault.BadWord.{BadWord}
use Rattle.rows.specs.Drafts.{has_room, permitted, rows_of}
use Rattle.rows.specs.Rows.{checked}
use Rattle.rows.specs.declared.draft.Draft.{Draft}
use Rattle.rows.specs.declared.fault.EditFault.{EditFault}
use Rattle.rows.specs.declared.row.Row.{Row}
use Rattle.tables.specs.Texts.{lines_in}
use Rattle.tables.specs.declared.fault.BadLine.{BadLine}
use Rattle.tables.specs.declared.fault.LineFault.{LineFault}
use Rattle.tables.specs.declared.fault.LineFault.TheVariants.{Edit, Word}

-- the rows with one more, if it is permitted
abbrev pub added : List Row → Row → Result Unit EditFault → Result (List Row) LineFault
added rows row (Ok _) = Ok (rows ++ row ∷ [])
added rows row (Err fault) = Err (Edit fault)

-- the rows of a table after one more line
abbrev pub after_line : List Row → Result (Option Row) BadWord → Result (List Row) LineFault
after_line rows (Ok None) = Ok rows
after_line rows (Ok (Some row)) = added rows row (permitted (has_room rows) (checked row))
after_line rows (Err bad) = Err (Word bad)

-- a line's number beside its fault
abbrev pub in_line : {A : Type 0} → ℕ → Result A LineFault → Result A BadLine
in_line n (Ok x) = Ok x
in_line n (Err fault) = Err record { line = n; fault = fault }

-- the rows of a table of which so many are read, with the lines to come from line n on; the first fault decides
unfoldable pub table_from : ℕ → List Row → List (List ℕ) → Result (List Row) BadLine
table_from n rows [] = Ok rows
table_from n rows (line ∷ lines) = and_then (in_line n (after_line rows (line_of line))) (λ more. table_from (n + 1) more lines)

-- the rows that a text writes
abbrev pub table_of : List ℕ → Result (List Row) BadLine
table_of text = table_from 1 [] (lines_in text)

-- what a call did to a draft: it has these rows, or the call refused
abbrev pub told : {E : Type 0} → List Row → Result Unit E → Result (List Row) E
told rows (Ok _) = Ok rows
told rows (Err fault) = Err fault

abbrev pub drafted : {E : Type 0} → Result Draft E → Result (List Row) E
drafted (Ok draft) = Ok (rows_of draft)
drafted (Err fault) = Err fault
