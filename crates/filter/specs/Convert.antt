use Rattle.std.specs.Prelude.{◌≡◌, ℕ, ◌/◌, List, length, Ok, Err, vec_items, Result, Vec}
use Rattle.std.specs.declared.alloc.Global.{Global}
use Rattle.encoding.specs.Records.{LoadsAs, bytes_of}
use Rattle.rows.specs.Books.{first_rows, load_of}
use Rattle.rows.specs.declared.row.Row.{Row}
use Rattle.tables.specs.Tables.{table_of}
use Rattle.tables.specs.Written.{table_text}
use Rattle.filter.specs.declared.fault.ConvertFault.{ConvertFault}
use Rattle.filter.specs.declared.fault.ConvertFault.TheVariants.{Input, Memory}
use Rattle.rows.specs.declared.fault.LoadFault.{LoadFault}
use Rattle.tables.specs.declared.fault.BadLine.{BadLine}

-- The book of a table: the records of its rows, which loading takes in again.
pub record BookOf (text book : List ℕ) : Type 0 where
  pub rows : List Row
  pub read : table_of text ≡ Ok rows
  pub bytes : book ≡ bytes_of rows
  pub loads : LoadsAs book rows

abbrev pub Makes : List ℕ → Result (Vec ℕ Global) (ConvertFault BadLine) → Type 0
Makes text (Ok book) = BookOf text (vec_items book)
Makes text (Err (Input bad)) = table_of text ≡ Err bad
Makes text (Err Memory) = Unit {0}

-- The table of a book: the lines of its rows, which reading takes in again.
pub record TableOf (book text : List ℕ) : Type 0 where
  pub taken : load_of 0 book ≡ Ok tt
  pub lines : text ≡ table_text (first_rows book (length book / 24))
  pub read : table_of text ≡ Ok (first_rows book (length book / 24))

abbrev pub Shows : List ℕ → Result (Vec ℕ Global) (ConvertFault LoadFault) → Type 0
Shows book (Ok text) = TableOf book (vec_items text)
Shows book (Err (Input fault)) = load_of 0 book ≡ Err fault
Shows book (Err Memory) = Unit {0}
