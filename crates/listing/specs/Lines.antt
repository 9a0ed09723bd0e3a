use Rattle.std.specs.Prelude.{ℕ, ◌+◌, List, [], ◌∷◌, ◌++◌, decimal}
use Rattle.listing.specs.Text.{two_digits}
use Rattle.rows.specs.Rows.{label_bytes}
use Rattle.rows.specs.declared.row.Label.{Label}
use Rattle.rows.specs.declared.row.Row.{Row}

-- the head of a line: the number, a space (32) and the label
abbrev pub head_of : ℕ → Label → List ℕ
head_of number label = two_digits number ++ (32 ∷ label_bytes label)

-- a figure of a line: a space (32) before the number in decimal
abbrev pub figure : ℕ → List ℕ
figure n = 32 ∷ decimal n

-- the line of a row with its two bounds: its head, the bounds, their sum, the deadline and the line's end (10)
abbrev pub line_of : ℕ → Row → ℕ × ℕ → List ℕ
line_of number row b =
    head_of number row.label ++ (figure b.0 ++ (figure b.1 ++ (figure (b.0 + b.1) ++ (figure row.deadline ++ (10 ∷ [])))))
