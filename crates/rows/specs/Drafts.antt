use Rattle.std.specs.Prelude.{◌≡◌, ℕ, ◌+◌, ◌<◌, cond, List, ◌++◌, length, take, drop, Ok, Err, Result, ◌≢◌, nat_lt, slice_index_or}
use Rattle.rows.specs.Rows.{Valid, blank}
use Rattle.rows.specs.declared.draft.Draft.{Draft}
use Rattle.rows.specs.declared.fault.DraftFault.{DraftFault}
use Rattle.rows.specs.declared.fault.DraftFault.TheVariants.{Full, NoSuchRow}
use Rattle.rows.specs.declared.fault.EditFault.{EditFault}
use Rattle.rows.specs.declared.fault.EditFault.TheVariants as edit
use Rattle.rows.specs.declared.fault.RowFault.{RowFault}
use Rattle.rows.specs.declared.row.Row.{Row}

-- the rows of a draft, by their numbers
abbrev pub rows_of : Draft → List Row
rows_of d = take d.count d.table.rows

abbrev pub EachValid : List Row → Type 0
EachValid rows = (i : ℕ) → i < length rows → Valid (slice_index_or rows i blank)

-- the row of a number
abbrev pub gotten : List Row → ℕ → Result Row DraftFault
gotten rows i = cond (nat_lt i (length rows)) (Ok (slice_index_or rows i blank)) (Err NoSuchRow)

-- a draft of n rows has room for one more
abbrev pub room_for : ℕ → Result Unit DraftFault
room_for n = cond (nat_lt n 32) (Ok tt) (Err Full)

abbrev pub has_room : List Row → Result Unit DraftFault
has_room rows = room_for (length rows)

-- a draft has a row of a number
abbrev pub has_row : List Row → ℕ → Result Unit DraftFault
has_row rows i = cond (nat_lt i (length rows)) (Ok tt) (Err NoSuchRow)

-- an edit is permitted if the draft has the place and the row is without fault; the draft's fault comes first
abbrev pub permitted : Result Unit DraftFault → Result Unit RowFault → Result Unit EditFault
permitted (Err fault) r = Err (edit.Draft fault)
permitted (Ok _) (Err fault) = Err (edit.Row fault)
permitted (Ok _) (Ok _) = Ok tt

-- the rows without row i: the later ones move down by one
abbrev pub without : List Row → ℕ → List Row
without rows i = take i rows ++ drop (i + 1) rows

-- every row but row i is as it was
abbrev pub OthersStay : List Row → List Row → ℕ → Type 0
OthersStay xs ys i = (length ys ≡ length xs) × ((j : ℕ) → (j ≢ i) → slice_index_or ys j blank ≡ slice_index_or xs j blank)
