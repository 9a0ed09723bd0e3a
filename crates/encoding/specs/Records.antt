use Rattle.std.specs.Prelude.{◌≡◌, ℕ, ◌/◌, ◌%◌, ◌<◌, ◌≤◌, List, [], ◌∷◌, ◌++◌, length, Ok, slice_index}
use Rattle.std.specs.List.{flat_map}
use Rattle.rows.specs.Books.{first_rows, load_of}
use Rattle.rows.specs.Drafts.{EachValid}
use Rattle.rows.specs.declared.row.Row.{Row}

-- the four bytes of a number of 32 bits, the most significant first
abbrev pub word_bytes : ℕ → List ℕ
word_bytes n = (n / 16777216 % 256) ∷ (n / 65536 % 256) ∷ (n / 256 % 256) ∷ (n % 256) ∷ []

-- the record of a row: its figures, its ranks, two zeros and its label
abbrev pub record_of : Row → List ℕ
record_of r =
    word_bytes r.memory
    ++ (word_bytes r.compute
    ++ (word_bytes r.deadline
    ++ (word_bytes r.period
    ++ (r.memory_rank ∷ r.processor_rank ∷ 0 ∷ 0 ∷ r.label.first ∷ r.label.second ∷ r.label.third ∷ r.label.fourth ∷ []))))

-- the records of rows, one behind the other
unfoldable pub bytes_of : List Row → List ℕ
bytes_of rows = flat_map record_of rows

-- loading these bytes into an empty draft takes in exactly these rows
pub record LoadsAs (bs : List ℕ) (rows : List Row) : Type 0 where
  pub taken : load_of 0 bs ≡ Ok tt
  pub exact : first_rows bs (length bs / 24) ≡ rows

-- so it is with the records of any list of at most 32 valid rows
abbrev pub LoadsBack : Type 0
LoadsBack = (rows : List Row) → length rows ≤ 32 → EachValid rows → LoadsAs (bytes_of rows) rows

abbrev pub EachByte : List ℕ → Type 0
EachByte bs = (i : ℕ) → i < length bs → slice_index bs i < 256

-- whatever book the rows were loaded from, these bytes are that book
abbrev pub SameBook : List ℕ → List Row → Type 0
SameBook bs rows = (book : List ℕ) → EachByte book → LoadsAs book rows → bs ≡ book
