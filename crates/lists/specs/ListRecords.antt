use Rattle.std.specs.Prelude.{◌≡◌, ℕ, zero, suc, ◌+◌, ◌-◌, ◌*◌, ◌/◌, ◌%◌, ◌<◌, ◌≤◌, Bool, false, cond, ◌&&◌, List, length, is_ok, Ok, Err, Result, ◌==◌, ◌≢◌, nat_le, nat_lt, slice_index, take, drop}
use Rattle.std.specs.Simd.{first_chunks}
use Rattle.rows.specs.Books.{word_at}
use Rattle.rows.specs.declared.fault.BadRecord.{BadRecord}
use Rattle.lists.specs.declared.records.record.Arrival.{Arrival}
use Rattle.lists.specs.declared.records.fault.CheckFault.{CheckFault}
use Rattle.lists.specs.declared.records.fault.CheckFault.TheVariants.{List as InList}
use Rattle.lists.specs.declared.records.fault.ListFault.{ListFault}
use Rattle.lists.specs.declared.records.fault.ListFault.TheVariants.{Length, Record}
use Rattle.lists.specs.declared.records.fault.ListRecordFault.{ListRecordFault}
use Rattle.lists.specs.declared.records.fault.ListRecordFault.TheVariants.{RowAbove, StepBack, ProcessorRange, MemoryAbove, Reserved}

-- the bytes of record i
abbrev pub record_at : List ℕ → ℕ → List ℕ
record_at bs i = take 16 (drop (16 * i) bs)

-- the first n records, each with its bytes
abbrev pub records_of : List ℕ → ℕ → List (List ℕ)
records_of bs n = first_chunks 16 n bs

-- the step of record i
abbrev pub step_at : List ℕ → ℕ → ℕ
step_at bs i = word_at bs (16 * i)

-- the row of record i
abbrev pub row_at : List ℕ → ℕ → ℕ
row_at bs i = slice_index bs (16 * i + 12)

-- whether a record, by its bytes, is of a row
abbrev pub is_of : ℕ → List ℕ → Bool
is_of row r = slice_index r 12 == row

-- the arrival that record i writes down
abbrev pub arrival_at : List ℕ → ℕ → Arrival
arrival_at bs i = record { step = step_at bs i; memory = word_at bs (16 * i + 4); processor = word_at bs (16 * i + 8); row = row_at bs i }

-- the step of the record before record i; before the first it is 0, below which no step is
abbrev pub step_before : List ℕ → ℕ → ℕ
step_before bs i = cond (i == 0) 0 (step_at bs (i - 1))

-- the bytes behind the row are zeros
abbrev pub is_padded : List ℕ → ℕ → Bool
is_padded bs i = slice_index bs (16 * i + 13) == 0 && (slice_index bs (16 * i + 14) == 0 && slice_index bs (16 * i + 15) == 0)

-- the first fault of a record: its row, its step, which may not be below the earlier one, its figures, its last bytes
abbrev pub checked : Arrival → ℕ → Bool → Result Unit ListRecordFault
checked a earlier padded =
    cond (nat_le a.row 31)
    (cond (nat_le earlier a.step)
    (cond (nat_le 1 a.processor && nat_le a.processor 1000000)
    (cond (nat_le a.memory 1000000) (cond padded (Ok tt) (Err Reserved)) (Err MemoryAbove))
    (Err ProcessorRange))
    (Err StepBack))
    (Err RowAbove)

-- the first fault of record i
unfoldable pub checked_at : List ℕ → ℕ → Result Unit ListRecordFault
checked_at bs i = checked (arrival_at bs i) (step_before bs i) (is_padded bs i)

-- from record i on, with so many records to come, the number of the first faulty one, or that of the end
unfoldable pub sound_from : List ℕ → ℕ → ℕ → ℕ
sound_from bs i zero = i
sound_from bs i (suc more) = cond (is_ok (checked_at bs i)) (sound_from bs (i + 1) more) i

-- how many records stand before the first faulty one; a last record that is cut short counts as none
abbrev pub sound_count : List ℕ → ℕ
sound_count bs = sound_from bs 0 (length bs / 16)

-- The same in the words of the rule: every record before is without fault, and this one is not.
pub record FirstFaulty (bs : List ℕ) (n : ℕ) : Type 0 where
  pub within : n ≤ length bs / 16
  pub before : (j : ℕ) → j < n → checked_at bs j ≡ Ok tt
  pub here : n < length bs / 16 → is_ok (checked_at bs n) ≡ false

-- from record i on, with so many records to come, the number of the first of a row, or that of the end
unfoldable pub seek_from : List ℕ → ℕ → ℕ → ℕ → ℕ
seek_from bs row i zero = i
seek_from bs row i (suc more) = cond (row_at bs i == row) i (seek_from bs row (i + 1) more)

-- the first record of a row from record i on, among the first n, or n itself if there is none
abbrev pub sought : List ℕ → ℕ → ℕ → ℕ → ℕ
sought bs n row i = seek_from bs row i (n - i)

-- The same in the words of the rule: no record passed is of the row, and this one is.
pub record FirstOfRow (bs : List ℕ) (n row i first : ℕ) : Type 0 where
  pub behind : i ≤ first
  pub within : first ≤ n
  pub before : (j : ℕ) → i ≤ j → j < first → row_at bs j ≢ row
  pub here : first < n → row_at bs first ≡ row

-- What a walk over the first n records tells: how many there are if each is without fault, and otherwise the first that is not.
abbrev pub Walked : List ℕ → ℕ → Result ℕ (BadRecord ListRecordFault) → Type 0
Walked bs n (Ok m) = (m ≡ n) × ((j : ℕ) → j < n → checked_at bs j ≡ Ok tt)
Walked bs n (Err bad) = (bad.number < n) × (checked_at bs bad.number ≡ Err bad.fault) × ((j : ℕ) → j < bad.number → checked_at bs j ≡ Ok tt)

-- a record's fault with the record's number
abbrev pub numbered : ℕ → Result Unit ListRecordFault → Result Unit (BadRecord ListRecordFault)
numbered i (Ok _) = Ok tt
numbered i (Err fault) = Err record { number = i; fault = fault }

-- a list of n sound records goes on with a record that is checked
abbrev pub ends_at : ℕ → Result Unit (BadRecord ListRecordFault) → Result ℕ ListFault
ends_at n (Ok _) = Ok n
ends_at n (Err bad) = Err (Record bad)

-- what a check finds: the length decides, and then the first faulty record; without either, all records are sound
abbrev pub list_of : List ℕ → Result ℕ ListFault
list_of bs =
    cond (length bs % 16 == 0)
    (cond (nat_lt (sound_count bs) (length bs / 16)) (ends_at (sound_count bs) (numbered (sound_count bs) (checked_at bs (sound_count bs)))) (Ok (sound_count bs)))
    (Err Length)

-- the fault of a check names the kind of file
abbrev pub in_list : Result ℕ ListFault → Result ℕ CheckFault
in_list (Ok n) = Ok n
in_list (Err fault) = Err (InList fault)

abbrev pub checked_list : List ℕ → Result ℕ CheckFault
checked_list bs = in_list (list_of bs)

-- The same in the words of the rule: a list is without fault if its length is a multiple of 16 and each of its records
-- is without fault; otherwise the length decides, or the first faulty record, with its number and its fault.

pub record FirstFault (bs : List ℕ) (bad : BadRecord ListRecordFault) : Type 0 where
  pub whole : length bs % 16 ≡ 0
  pub within : bad.number < length bs / 16
  pub here : checked_at bs bad.number ≡ Err bad.fault
  pub before : (j : ℕ) → j < bad.number → checked_at bs j ≡ Ok tt

pub record Faultless (bs : List ℕ) (n : ℕ) : Type 0 where
  pub whole : length bs ≡ 16 * n
  pub each : (j : ℕ) → j < n → checked_at bs j ≡ Ok tt

abbrev pub Checks : List ℕ → Result ℕ CheckFault → Type 0
Checks bs (Ok n) = Faultless bs n
Checks bs (Err (InList Length)) = length bs % 16 ≡ 0 → ⊥
Checks bs (Err (InList (Record bad))) = FirstFault bs bad
