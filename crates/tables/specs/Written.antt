use Rattle.std.specs.Prelude.{ℕ, List, [], ◌∷◌, ◌++◌, codes}
use Rattle.std.specs.List.{flat_map}
use Rattle.lines.specs.Prints.{row_text}
use Rattle.rows.specs.declared.row.Row.{Row}

-- the first line of a table, which is a comment over its columns
abbrev pub header : List ℕ
header = codes "# LABEL       M       C       D       T MEMORY-RANK PROCESSOR-RANK"

-- the line of a row with its end (10)
abbrev pub row_line : Row → List ℕ
row_line row = row_text row ++ 10 ∷ []

-- the table of rows
unfoldable pub table_text : List Row → List ℕ
table_text rows = header ++ 10 ∷ flat_map row_line rows
