use Rattle.std.specs.Prelude.{ℕ, zero, suc, cond, List, [], ◌∷◌, ◌++◌, length, drop, Some, None, Ok, Err, codes, decimal, Option, Result, nat_le}
use Rattle.listing.specs.Lines.{line_of}
use Rattle.listing.specs.Text.{two_digits}
use Rattle.listing.specs.declared.fault.ListingFault.{ListingFault}
use Rattle.listing.specs.declared.fault.ListingFault.TheVariants.{ShortBuffer}
use Rattle.rating.specs.Bounds.{row_of}
use Rattle.rating.specs.Ratings.{bounds_at, draft_in, verdict_in}
use Rattle.rating.specs.declared.rating.Rating.{Rating}
use Rattle.rating.specs.declared.verdict.Phase.{Phase}
use Rattle.rating.specs.declared.verdict.Phase.TheVariants.{Memory, Processor}
use Rattle.rating.specs.declared.verdict.Verdict.{Verdict}
use Rattle.rating.specs.declared.verdict.Verdict.TheVariants.{Accepted, Late}
use Rattle.rows.specs.Drafts.{rows_of}
use Rattle.rows.specs.Refusals.{refusal_of, refusal_text}
use Rattle.rows.specs.declared.fault.LoadFault.{LoadFault}
use Rattle.rows.specs.declared.row.Row.{Row}

-- the line of a row that has bounds
abbrev pub bound_line : ℕ → Row → Option (ℕ × ℕ) → List ℕ
bound_line i row (Some b) = line_of i row b
bound_line i row None = []

-- the word for a phase, with a space behind it
abbrev pub phase_word : Phase → List ℕ
phase_word Memory = codes "memory "
phase_word Processor = codes "processor "

-- what a late rating shows: the phase, the row and the line's end (10)
abbrev pub late_text : Phase → ℕ → List ℕ
late_text phase row = codes "late " ++ (phase_word phase ++ (two_digits row ++ (10 ∷ [])))

-- the last line of an accepted rating: the count of its rows
abbrev pub count_text : ℕ → List ℕ
count_text n = codes "accepted " ++ (decimal n ++ (10 ∷ []))

module _ {A B : Type 0} where
  -- the line of row i
  abbrev pub line_at : Rating A B → ℕ → List ℕ
  line_at r i = bound_line i (row_of (rows_of (draft_in r)) i) (bounds_at r i)

  -- the lines of the first n rows
  unfoldable pub lines_of : Rating A B → ℕ → List ℕ
  lines_of r zero = []
  lines_of r (suc n) = lines_of r n ++ line_at r n

  -- what an accepted rating shows: the line of every row, and their count
  abbrev pub accepted_text : Rating A B → List ℕ
  accepted_text r = lines_of r (length (rows_of (draft_in r))) ++ count_text (length (rows_of (draft_in r)))

  abbrev pub verdict_text : Rating A B → Verdict → List ℕ
  verdict_text r Accepted = accepted_text r
  verdict_text r (Late phase row) = late_text phase row

  -- the text of a rating
  unfoldable pub rating_text : Rating A B → List ℕ
  rating_text r = verdict_text r (verdict_in r)

-- the text of a fault of a load: its refusal and the line's end (10)
unfoldable pub fault_text : LoadFault → List ℕ
fault_text fault = refusal_text (refusal_of fault) ++ (10 ∷ [])

-- the answer of a call that writes a text into a buffer: its length, or a fault if the buffer is shorter than 1292 bytes
abbrev pub answer_of : List ℕ → List ℕ → Result ℕ ListingFault
answer_of text out = cond (nat_le 1292 (length out)) (Ok (length text)) (Err ShortBuffer)

-- the buffer after it: the text and, behind it, what stood there, or all as it was
abbrev pub buffer_after : List ℕ → List ℕ → List ℕ
buffer_after text out = cond (nat_le 1292 (length out)) (text ++ drop (length text) out) out
