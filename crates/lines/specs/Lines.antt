use Rattle.std.specs.Prelude.{ℕ, Bool, cond, ◌&&◌, ◌||◌, List, length, Some, None, Ok, Option, Result, ◌==◌, slice_index}
use Rattle.lines.specs.Faults.{and_then, placed}
use Rattle.lines.specs.Fields.{end_of, label_of, number_of, rank_of}
use Rattle.lines.specs.Words.{word_in}
use Rattle.lines.specs.declared.fault.BadWord.{BadWord}
use Rattle.rows.specs.declared.row.Label.{Label}
use Rattle.rows.specs.declared.row.Row.{Row}

-- what stands in a line at a word's place
abbrev pub label_at : List ℕ → ℕ → Result Label BadWord
label_at line n = placed n (label_of (word_in line n))

abbrev pub number_at : List ℕ → ℕ → Result ℕ BadWord
number_at line n = placed n (number_of (word_in line n))

abbrev pub rank_at : List ℕ → ℕ → Result ℕ BadWord
rank_at line n = placed n (rank_of (word_in line n))

-- no word stands there
abbrev pub end_at : List ℕ → ℕ → Result Unit BadWord
end_at line n = placed n (end_of (word_in line n))

-- the row of what the words read as, or the first fault
abbrev pub row_from : Result Label BadWord → Result ℕ BadWord → Result ℕ BadWord → Result ℕ BadWord → Result ℕ BadWord → Result ℕ BadWord → Result ℕ BadWord
    → Result Unit BadWord → Result Row BadWord
row_from label memory compute deadline period rank other end =
    and_then label (λ l. and_then memory (λ m. and_then compute (λ c. and_then deadline (λ d. and_then period (λ t. and_then rank (λ p. and_then other (λ q. and_then end (λ _.
    Ok record { memory = m; compute = c; deadline = d; period = t; memory_rank = p; processor_rank = q; label = l }))))))))

-- the row that the seven words of a line write
unfoldable pub row_in : List ℕ → Result Row BadWord
row_in line =
    row_from (label_at line 0) (number_at line 1) (number_at line 2) (number_at line 3) (number_at line 4) (rank_at line 5) (rank_at line 6) (end_at line 7)

-- a line without words, or a comment: its first word is the sign # (35) alone
abbrev pub is_comment : List ℕ → Bool
is_comment word = length word == 0 || (length word == 1 && slice_index word 0 == 35)

-- what a line writes: no row, a row, or a fault
abbrev pub line_of : List ℕ → Result (Option Row) BadWord
line_of line = cond (is_comment (word_in line 0)) (Ok None) (and_then (row_in line) (λ row. Ok (Some row)))
