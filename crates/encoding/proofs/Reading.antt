use Rattle.std.proofs.Common.{◌≡◌, ℕ, zero, suc, ◌+◌, ◌*◌, ◌/◌, ◌<◌, ◌≤◌, Bool, true, false, List, [], ◌∷◌, ◌++◌, length, get_or, take, drop, Ok, Err, Result, sym, refl, ap, ◌∙◌, subst, add-zero, arith, lit<, take-add}
use Rattle.std.proofs.lemmas.List.{drop_more, get_or-drop, flat_map_more, length-drop, take_all}
use Rattle.std.proofs.lemmas.Bool.{and_parts, eqb-true}
use Rattle.encoding.specs.Records.{EachByte, SameBook, bytes_of, record_of, word_bytes}
use Rattle.rows.proofs.Chunks.{row_drop}
use Rattle.encoding.proofs.Words.{word_forth}
use Rattle.rows.proofs.Scans.{loads}
use Rattle.rows.specs.Books.{Loads, first_rows, meets, row_at, sound, taken, word_at}
use Rattle.rows.specs.Rows.{checked}
use Rattle.rows.specs.declared.fault.DraftFault.{DraftFault}
use Rattle.rows.specs.declared.fault.RowFault.{RowFault}
use Rattle.rows.specs.declared.row.Row.{Row}

-- n elements from place i on, one by one
abbrev listed : ℕ → ℕ → List ℕ → List ℕ
listed i zero xs = []
listed i (suc n) xs = get_or xs i 0 ∷ listed (i + 1) n xs

take-listed : (n i : ℕ) (xs : List ℕ) → i + n ≤ length xs → take n (drop i xs) ≡ listed i n xs
take-listed zero i xs h = refl
take-listed (suc n) i xs h =
    ap (take (suc n)) (drop_more xs i 0 (omega arith)) ∙ ap (λ ys. get_or xs i 0 ∷ ys) (take-listed n (i + 1) xs (omega arith))

-- a record that is taken in has zeros behind its ranks
zeros : (n : Result Unit DraftFault) (o : Result Unit RowFault) (z : Bool) (r : Row) → taken n (sound o z r) ≡ Ok tt → z ≡ true
zeros (Err f) o z r e = let q : ◌≡◌ {A = ℕ} 0 1 = cc in absurd (omega arith)
zeros (Ok _) (Err f) z r e = let q : ◌≡◌ {A = ℕ} 0 1 = cc in absurd (omega arith)
zeros (Ok _) (Ok _) true r e = refl
zeros (Ok _) (Ok _) false r e = let q : ◌≡◌ {A = ℕ} 0 1 = cc in absurd (omega arith)

five : {a b c d e a' b' c' d' e' : List ℕ} → a ≡ a' → b ≡ b' → c ≡ c' → d ≡ d' → e ≡ e' → a ++ (b ++ (c ++ (d ++ e))) ≡ a' ++ (b' ++ (c' ++ (d' ++ e')))
five p q r s t = cc

-- the record of the row in 24 bytes is these bytes
record_forth : (xs : List ℕ) → 24 ≤ length xs → EachByte xs → get_or xs 18 0 ≡ 0 → get_or xs 19 0 ≡ 0 → record_of (row_at xs 0) ≡ take 24 xs
record_forth xs long byte z y =
    let b : (i : ℕ) → i < 24 → get_or xs i 0 < 256 = λ i h. byte i (omega arith)
    in let w : (i : ℕ) → i + 3 < 24 → word_bytes (word_at xs i) ≡ get_or xs i 0 ∷ get_or xs (i + 1) 0 ∷ get_or xs (i + 2) 0 ∷ get_or xs (i + 3) 0 ∷ [] = λ i h.
    word_forth (get_or xs i 0) (get_or xs (i + 1) 0) (get_or xs (i + 2) 0) (get_or xs (i + 3) 0) (b i (omega arith)) (b (i + 1) (omega arith)) (b (i + 2) (omega arith))
    (b (i + 3) h)
    in five (w 0 (lit< tt)) (w 4 (lit< tt)) (w 8 (lit< tt)) (w 12 (lit< tt)) (tail (sym z) (sym y)) ∙ sym (take-listed 24 0 xs long)
  where
    tail : 0 ≡ get_or xs 18 0 → 0 ≡ get_or xs 19 0
        → get_or xs 16 0 ∷ get_or xs 17 0 ∷ 0 ∷ 0 ∷ get_or xs 20 0 ∷ get_or xs 21 0 ∷ get_or xs 22 0 ∷ get_or xs 23 0 ∷ [] ≡ listed 16 8 xs
    tail p q = cc

-- the records of the first rows of a book are the front of the book
front_forth : (book : List ℕ) → EachByte book → ((j : ℕ) → j < length book / 24 → meets 0 book j ≡ Ok tt) → (n : ℕ) → n ≤ length book / 24 → bytes_of (first_rows book n) ≡ take (24 * n) book
unfolding bytes_of first_rows
front_forth book byte each zero h = refl
front_forth book byte each (suc n) h =
    let at = 24 * n
    in let xs = drop at book
    in let here = each n (omega arith)
    in let long : 24 ≤ length xs = omega (arith, length-drop at book)
    in let byte' : EachByte xs = λ i l. subst (λ b. b < 256) (sym (get_or-drop at book i 0)) (byte (at + i) (omega (arith, length-drop at book)))
    in let zs = and_parts _ _ (zeros _ (checked (row_at book at)) _ (row_at book at) here)
    in let z : get_or xs 18 0 ≡ 0 = get_or-drop at book 18 0 ∙ eqb-true _ 0 zs.0
    in let y : get_or xs 19 0 ≡ 0 = get_or-drop at book 19 0 ∙ eqb-true _ 0 zs.1
    in let row : row_at book at ≡ row_at xs 0 = ap (row_at book) (sym (add-zero at)) ∙ row_drop book at 0
    in let next : at + 24 ≡ 24 * suc n = omega arith
    in sym (flat_map_more record_of [] (first_rows book n) (row_at book at))
    ∙ ap (λ ys. ys ++ record_of (row_at book at)) (front_forth book byte each n (omega arith))
    ∙ ap (λ ys. take at book ++ ys) (ap record_of row ∙ record_forth xs long byte' z y)
    ∙ sym (take-add at 24 book)
    ∙ ap (λ k. take k book) next

-- the records of the rows that a book was loaded as are that book
pub same-book : (rows : List Row) → SameBook (bytes_of rows) rows
same-book rows book byte l =
    let told : Loads 0 book (Ok tt) = subst (Loads 0 book) l.taken (loads 0 book)
    in let whole : 24 * (length book / 24) ≡ length book = omega (arith, told.0)
    in ap bytes_of (sym l.exact) ∙ front_forth book byte told.1 (length book / 24) (omega arith)
    ∙ ap (λ k. take k book) whole ∙ take_all (length book) book (omega arith)
