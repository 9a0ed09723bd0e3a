use Rattle.std.proofs.Common.{◌≡◌, ℕ, zero, suc, ◌+◌, ◌*◌, ◌/◌, ◌%◌, ◌<◌, ◌≤◌, true, ltb, List, [], ◌∷◌, ◌++◌, length, get_or, take, drop, Ok, Err, Result, sym, refl, ap, ◌∙◌, add_assoc, add-one, arith}
use Rattle.std.proofs.lemmas.List.{get_or-drop, flat_map_more, length-append, take_more, take_all}
use Rattle.std.proofs.lemmas.Bool.{lt-ltb}
use Rattle.std.proofs.lemmas.Bool.Decides.{nat_tests}
use Rattle.encoding.specs.Records.{LoadsAs, bytes_of, record_of}
use Rattle.encoding.proofs.Words.{row_back}
use Rattle.rows.proofs.Chunks.{read_drop, row_drop}
use Rattle.rows.proofs.Scans.{loads}
use Rattle.rows.specs.Books.{Loads, first_rows, load_of, meets, read_at, row_at, sound}
use Rattle.rows.specs.Drafts.{EachValid}
use Rattle.rows.specs.Rows.{Valid, blank, checked}
use Rattle.rows.specs.declared.fault.BookFault.TheVariants.{Length, Record}
use Rattle.rows.specs.declared.fault.LoadFault.{LoadFault}
use Rattle.rows.specs.declared.fault.LoadFault.TheVariants.{Book}
use Rattle.rows.specs.declared.row.Row.{Row}

pub length-bytes : (rows : List Row) → length (bytes_of rows) ≡ 24 * length rows
unfolding bytes_of
length-bytes [] = refl
length-bytes (r ∷ rows) = length-append (record_of r) (bytes_of rows) ∙ ap (λ n. 24 + n) (length-bytes rows) ∙ (let z : 24 + 24 * length rows ≡ 24 * suc (length rows) = omega arith in z)

-- record i is the record of row i
pub read_in : (rows : List Row) (i : ℕ) → i < length rows → read_at (bytes_of rows) (24 * i) ≡ read_at (record_of (get_or rows i blank)) 0
unfolding bytes_of
read_in [] i h = absurd (omega arith)
read_in (r ∷ rows) zero h = refl
read_in (r ∷ rows) (suc i) h =
    let next : 24 * suc i ≡ 24 + 24 * i = omega arith
    in ap (read_at (bytes_of (r ∷ rows))) next ∙ read_drop (bytes_of (r ∷ rows)) 24 (24 * i) ∙ read_in rows i (omega arith)

pub row_in : (rows : List Row) (i : ℕ) → i < length rows → row_at (bytes_of rows) (24 * i) ≡ row_at (record_of (get_or rows i blank)) 0
unfolding bytes_of
row_in [] i h = absurd (omega arith)
row_in (r ∷ rows) zero h = refl
row_in (r ∷ rows) (suc i) h =
    let next : 24 * suc i ≡ 24 + 24 * i = omega arith
    in ap (row_at (bytes_of (r ∷ rows))) next ∙ row_drop (bytes_of (r ∷ rows)) 24 (24 * i) ∙ row_in rows i (omega arith)

-- the record of a valid row gives the row back, without fault
pub back : (r : Row) → Valid r → row_at (record_of r) 0 ≡ r
back r v = row_back r (omega (arith, v)) (omega (arith, v)) (omega (arith, v)) (omega (arith, v))

checked-valid : (r : Row) → Valid r → checked r ≡ Ok tt
checked-valid r v = grind (arith, nat_tests)

pub read_valid : (r : Row) → Valid r → read_at (record_of r) 0 ≡ Ok r
read_valid r v = ap (λ x. sound (checked x) true x) (back r v) ∙ ap (λ o. sound o true r) (checked-valid r v)

-- the rows that stand in the records
pub first_rows-bytes_of : (rows : List Row) → EachValid rows → (n : ℕ) → n ≤ length rows → first_rows (bytes_of rows) n ≡ take n rows
unfolding first_rows
first_rows-bytes_of rows v zero h = refl
first_rows-bytes_of rows v (suc n) h =
    let here : n < length rows = omega arith
    in ap (λ xs. xs ++ row_at (bytes_of rows) (24 * n) ∷ []) (first_rows-bytes_of rows v n (omega arith))
    ∙ ap (λ r. take n rows ++ r ∷ []) (row_in rows n here ∙ back (get_or rows n blank) (v n here))
    ∙ sym (take_more rows n blank here)
    ∙ ap (λ k. take k rows) (add-one n)

-- a book of which every record is taken in is loaded
pub load_taken : (n : ℕ) (bs : List ℕ) → length bs % 24 ≡ 0 → ((j : ℕ) → j < length bs / 24 → meets n bs j ≡ Ok tt) → load_of n bs ≡ Ok tt
load_taken n bs whole each = go (load_of n bs) (loads n bs)
  where
    go : (r : Result Unit LoadFault) → Loads n bs r → r ≡ Ok tt
    go (Ok _) l = refl
    go (Err (Book Length)) l = absurd (l whole)
    go (Err (Book (Record f))) l = let one = each f.number l.within in let two = l.here in let z : ◌≡◌ {A = ℕ} 0 1 = cc in absurd (omega arith)

-- loading the records of valid rows, at most 32 of them, takes in exactly these rows
pub loads-back : (rows : List Row) → length rows ≤ 32 → EachValid rows → LoadsAs (bytes_of rows) rows
loads-back rows few v =
    let long = length-bytes rows
    in let n : length (bytes_of rows) / 24 ≡ length rows = omega arith
    in record {
      taken = load_taken 0 (bytes_of rows) (omega arith) (λ j h.
          let j' : j < length rows = omega arith
          in let room : ltb (0 + j) 32 ≡ true = lt-ltb (0 + j) 32 (omega arith)
          in rw (read_in rows j j', read_valid (get_or rows j blank) (v j j'), room) refl);
      exact = ap (first_rows (bytes_of rows)) n ∙ first_rows-bytes_of rows v (length rows) (omega arith) ∙ take_all (length rows) rows (omega arith);
    }

-- one record more
pub bytes_more : (rows : List Row) (i : ℕ) → i < length rows → bytes_of (take i rows) ++ record_of (get_or rows i blank) ≡ bytes_of (take (i + 1) rows)
unfolding bytes_of
bytes_more rows i h = flat_map_more record_of [] (take i rows) (get_or rows i blank) ∙ ap bytes_of (sym (take_more rows i blank h))

pub bytes_none : [] ≡ bytes_of []
unfolding bytes_of
bytes_none = refl
