use Rattle.std.specs.Prelude.{◌≡◌, ℕ, ◌-◌, Bool, true, not, ◌&&◌, List, [], ◌∷◌, ◌++◌, length, replicate, Some, Ok, decimal, ◌==◌}
use Rattle.lines.specs.Lines.{line_of}
use Rattle.rows.specs.Rows.{is_labelled, label_bytes}
use Rattle.rows.specs.declared.row.Row.{Row}

-- a number in decimal at the end of a column, with at least one space (32) before it
abbrev pub column : ℕ → ℕ → List ℕ
column width n = 32 ∷ (replicate (width - length (decimal n)) 32 ++ decimal n)

-- the six numbers of a row, in columns
abbrev pub numbers_text : Row → List ℕ
numbers_text r =
    column 10 r.memory
    ++ (column 7 r.compute ++ (column 7 r.deadline ++ (column 7 r.period ++ (column 11 r.memory_rank ++ column 14 r.processor_rank))))

-- the line of a row: its label and its numbers
unfoldable pub row_text : Row → List ℕ
row_text r = label_bytes r.label ++ numbers_text r

-- no byte is a line's end (10)
abbrev pub is_one_line : List ℕ → Bool
is_one_line [] = true
is_one_line (b ∷ bs) = not (b == 10) && is_one_line bs

-- the line of a row is one line, and parsing it gives the row back
pub record LineBack (row : Row) : Type 0 where
  pub single : is_one_line (row_text row) ≡ true
  pub parsed : line_of (row_text row) ≡ Ok (Some row)

-- so it is if the label can stand in a line
abbrev pub ParsesBack : Row → Type 0
ParsesBack row = is_labelled row.label ≡ true → LineBack row
