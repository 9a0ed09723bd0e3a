use Rattle.std.specs.Prelude.{ℕ, zero, suc, ◌+◌, ◌-◌, max, cond, List, [], ◌∷◌, ◌++◌, map, length, replicate, Some, None, codes, decimal, Option, nat_lt}
use Rattle.rows.specs.Drafts.{rows_of}
use Rattle.rows.specs.Rows.{label_bytes}
use Rattle.rating.specs.Bounds.{row_of}
use Rattle.rating.specs.Ratings.{bounds_at, draft_in, verdict_in}
use Rattle.rating.specs.declared.rating.Rating.{Rating}
use Rattle.rating.specs.declared.verdict.Phase.{Phase}
use Rattle.rating.specs.declared.verdict.Phase.TheVariants.{Memory as OnMemory, Processor as OnProcessor}
use Rattle.rating.specs.declared.verdict.Verdict.{Verdict}
use Rattle.rating.specs.declared.verdict.Verdict.TheVariants.{Accepted, Late}
use Rattle.listing.specs.Text.{two_digits}
use Rattle.board.specs.declared.run.Answer.{Answer}
use Rattle.simulate.specs.Counts.{tally_at}
use Rattle.simulate.specs.Timelines.{answers_in}
use Rattle.simulate.specs.declared.column.Column.{Column}
use Rattle.simulate.specs.declared.column.Column.TheVariants.{Admitted, Finished, Load, MemoryBound, Response, WholeBound, Memory, Processor}
use Rattle.simulate.specs.declared.journal.Journal.{Journal}
use Rattle.simulate.specs.declared.tally.Tally.{Tally}

-- What the program prints of a run.

-- the columns behind number and label
abbrev pub columns : List Column
columns = Admitted ∷ Finished ∷ Load ∷ MemoryBound ∷ Response ∷ WholeBound ∷ Memory ∷ Processor ∷ []

-- the word above a column
abbrev pub head_of : Column → List ℕ
head_of Admitted = codes "admitted"
head_of Finished = codes "finished"
head_of Load = codes "load"
head_of MemoryBound = codes "RM"
head_of Response = codes "response"
head_of WholeBound = codes "RM+RC"
head_of Memory = codes "memory"
head_of Processor = codes "processor"

abbrev pub memory_part : Option (ℕ × ℕ) → Option ℕ
memory_part None = None
memory_part (Some b) = Some b.0

abbrev pub whole_part : Option (ℕ × ℕ) → Option ℕ
whole_part None = None
whole_part (Some b) = Some (b.0 + b.1)

-- the figure in a column of a row with its tally and its bounds, if there is one
abbrev pub figure_of : Column → Tally → Option (ℕ × ℕ) → Option ℕ
figure_of Admitted x b = Some x.admitted
figure_of Finished x b = Some x.finished
figure_of Load x b = Some x.load
figure_of MemoryBound x b = memory_part b
figure_of Response x b = Some x.response
figure_of WholeBound x b = whole_part b
figure_of Memory x b = Some x.memory
figure_of Processor x b = Some x.processor

-- a figure in decimal, and a dash (45) for none
abbrev pub word_of : Option ℕ → List ℕ
word_of None = 45 ∷ []
word_of (Some n) = decimal n

-- a word at the right of a field of w bytes, with spaces (32) before it
abbrev pub at_right : ℕ → List ℕ → List ℕ
at_right w word = replicate (w - length word) 32 ++ word

-- the greatest length of the first n texts, at least w
abbrev pub widest : (ℕ → List ℕ) → ℕ → ℕ → ℕ
widest texts w zero = w
widest texts w (suc n) = max (widest texts w n) (length (texts n))

-- texts in turn
abbrev pub in_turn : {X : Type 0} → (X → List ℕ) → List X → List ℕ
in_turn text [] = []
in_turn text (x ∷ xs) = text x ++ in_turn text xs

-- the lines of the first n rows
abbrev pub up_to : (ℕ → List ℕ) → ℕ → List ℕ
up_to line zero = []
up_to line (suc n) = up_to line n ++ line n

-- the character of a row that holds a resource: 0 to 9, then a to v; a point (46) for none
abbrev pub letter_of : Option ℕ → ℕ
letter_of None = 46
letter_of (Some k) = cond (nat_lt k 10) (48 + k) (cond (nat_lt k 32) (87 + k) 63)

abbrev pub holder_of : Phase → Answer → Option ℕ
holder_of OnMemory answer = answer.memory
holder_of OnProcessor answer = answer.processor

-- the name before the time line of a resource
abbrev pub name_of : Phase → List ℕ
name_of OnMemory = codes "memory    "
name_of OnProcessor = codes "processor "

-- the time line of a resource: a character for each step, and the line's end (10)
unfoldable pub line_of : Phase → List Answer → List ℕ
line_of phase answers = name_of phase ++ (map (λ a. letter_of (holder_of phase a)) answers ++ (10 ∷ []))

-- what is said of a late rating
abbrev pub note_of : Verdict → List ℕ
note_of Accepted = []
note_of (Late phase k) = 10 ∷ (codes "nothing is promised for a late rating" ++ (10 ∷ []))

module _ {A B : Type 0} (r : Rating A B) (y : Journal) where
  abbrev pub figure_at : Column → ℕ → Option ℕ
  figure_at column k = figure_of column (tally_at y.tallies k) (bounds_at r k)

  -- a column is as wide as its longest word
  abbrev pub width_in : Column → ℕ
  width_in column = widest (λ k. word_of (figure_at column k)) (length (head_of column)) (length (rows_of (draft_in r)))

  -- a space, and the word of a column at the right
  abbrev pub cell_in : ℕ → Column → List ℕ
  cell_in k column = 32 ∷ at_right (width_in column) (word_of (figure_at column k))

  abbrev pub head_in : Column → List ℕ
  head_in column = 32 ∷ at_right (width_in column) (head_of column)

  -- the line above the rows
  unfoldable pub header_text : List ℕ
  header_text = codes "no label" ++ (in_turn head_in columns ++ (10 ∷ []))

  -- the line of row k: number, label and columns
  unfoldable pub row_text : ℕ → List ℕ
  row_text k = two_digits k ++ (codes "  " ++ (label_bytes (row_of (rows_of (draft_in r)) k).label ++ (in_turn (cell_in k) columns ++ (10 ∷ []))))

  -- all that is printed behind the listing
  abbrev pub report_text : List ℕ
  report_text =
      (10 ∷ [])
      ++ (header_text
      ++ (up_to row_text (length (rows_of (draft_in r)))
      ++ ((10 ∷ []) ++ (line_of OnMemory (answers_in y.timeline) ++ (line_of OnProcessor (answers_in y.timeline) ++ note_of (verdict_in r))))))
