use Rattle.std.specs.Prelude.{◌≡◌, ℕ, zero, suc, ◌+◌, ◌*◌, ◌/◌, ◌%◌, ◌<◌, Bool, true, false, cond, ◌&&◌, List, [], ◌∷◌, ◌++◌, length, Ok, Err, Result, ◌==◌, slice_index}
use Rattle.rows.specs.Drafts.{room_for}
use Rattle.rows.specs.Rows.{checked}
use Rattle.rows.specs.declared.fault.BadRecord.{BadRecord}
use Rattle.rows.specs.declared.fault.BookFault.{BookFault}
use Rattle.rows.specs.declared.fault.BookFault.TheVariants.{Length, Record}
use Rattle.rows.specs.declared.fault.DraftFault.{DraftFault}
use Rattle.rows.specs.declared.fault.LoadFault.{LoadFault}
use Rattle.rows.specs.declared.fault.LoadFault.TheVariants.{Book}
use Rattle.rows.specs.declared.fault.RecordFault.{RecordFault}
use Rattle.rows.specs.declared.fault.RecordFault.TheVariants as bad
use Rattle.rows.specs.declared.fault.RowFault.{RowFault}
use Rattle.rows.specs.declared.row.Row.{Row}

-- the big-endian number of four bytes
abbrev pub word_at : List ℕ → ℕ → ℕ
word_at bs at = slice_index bs at * 16777216 + slice_index bs (at + 1) * 65536 + slice_index bs (at + 2) * 256 + slice_index bs (at + 3)

-- the row of the 24 bytes from a place on
abbrev pub row_at : List ℕ → ℕ → Row
row_at bs at = record {
  memory = word_at bs at;
  compute = word_at bs (at + 4);
  deadline = word_at bs (at + 8);
  period = word_at bs (at + 12);
  memory_rank = slice_index bs (at + 16);
  processor_rank = slice_index bs (at + 17);
  label = record { first = slice_index bs (at + 20); second = slice_index bs (at + 21); third = slice_index bs (at + 22); fourth = slice_index bs (at + 23) };
}

-- a record is sound if its row is and, which is checked after it, its reserved bytes are zeros
abbrev pub sound : Result Unit RowFault → Bool → Row → Result Row RecordFault
sound (Err fault) zeros row = Err (bad.Row fault)
sound (Ok _) false row = Err bad.Reserved
sound (Ok _) true row = Ok row

-- what a record reads as
abbrev pub read_at : List ℕ → ℕ → Result Row RecordFault
read_at bs at = sound (checked (row_at bs at)) (slice_index bs (at + 18) == 0 && slice_index bs (at + 19) == 0) (row_at bs at)

-- a record is taken in if there is room for it and, which is checked after that, it is sound
abbrev pub taken : Result Unit DraftFault → Result Row RecordFault → Result Unit RecordFault
taken (Err fault) row = Err (bad.Draft fault)
taken (Ok _) (Err fault) = Err fault
taken (Ok _) (Ok _) = Ok tt

-- what becomes of a record by its number, where a draft has n rows
abbrev pub record_at : ℕ → List ℕ → ℕ → Result Unit RecordFault
record_at n bs number = taken (room_for n) (read_at bs (24 * number))

abbrev pub numbered : ℕ → Result Unit RecordFault → Result Unit (BadRecord RecordFault)
numbered i (Ok _) = Ok tt
numbered i (Err fault) = Err record { number = i; fault = fault }

abbrev pub go_on : Result Unit (BadRecord RecordFault) → Result Unit BookFault → Result Unit BookFault
go_on (Ok _) rest = rest
go_on (Err fault) rest = Err (Record fault)

-- the first fault from record i on, with so many records to come, where a draft has n rows
unfoldable pub scanned : ℕ → List ℕ → ℕ → ℕ → Result Unit BookFault
scanned n bs i zero = Ok tt
scanned n bs i (suc more) = go_on (numbered i (record_at n bs i)) (scanned (n + 1) bs (i + 1) more)

-- what becomes of a book that is loaded into a draft of n rows
abbrev pub book_of : ℕ → List ℕ → Result Unit BookFault
book_of n bs = cond (length bs % 24 == 0) (scanned n bs 0 (length bs / 24)) (Err Length)

abbrev pub in_book : Result Unit BookFault → Result Unit LoadFault
in_book (Ok _) = Ok tt
in_book (Err fault) = Err (Book fault)

abbrev pub load_of : ℕ → List ℕ → Result Unit LoadFault
load_of n bs = in_book (book_of n bs)

-- the rows of the first records of a book
unfoldable pub first_rows : List ℕ → ℕ → List Row
first_rows bs zero = []
first_rows bs (suc n) = first_rows bs n ++ row_at bs (24 * n) ∷ []

-- The same in the words of the rule: a book is loaded if its length is a multiple of 24 and each of its records is
-- taken in; otherwise the length decides, or the first record that is not taken in, with its number and its fault.

-- record i of a book that is loaded into a draft of n rows meets n + i rows
abbrev pub meets : ℕ → List ℕ → ℕ → Result Unit RecordFault
meets n bs i = record_at (n + i) bs i

pub record FirstFault (n : ℕ) (bs : List ℕ) (fault : BadRecord RecordFault) : Type 0 where
  pub whole : length bs % 24 ≡ 0
  pub within : fault.number < length bs / 24
  pub here : meets n bs fault.number ≡ Err fault.fault
  pub before : (j : ℕ) → j < fault.number → meets n bs j ≡ Ok tt

abbrev pub Loads : ℕ → List ℕ → Result Unit LoadFault → Type 0
Loads n bs (Ok _) = (length bs % 24 ≡ 0) × ((j : ℕ) → j < length bs / 24 → meets n bs j ≡ Ok tt)
Loads n bs (Err (Book Length)) = length bs % 24 ≡ 0 → ⊥
Loads n bs (Err (Book (Record fault))) = FirstFault n bs fault
