use Rattle.std.proofs.Common.{◌≡◌, ℕ, zero, suc, ◌+◌, ◌*◌, ◌<◌, List, [], ◌∷◌, ◌++◌, length, Result, get_or, take, drop, ap, ◌∙◌, sym, arith, add-zero, add_assoc, lit<, drop-drop}
use Rattle.std.proofs.lemmas.List.{get_or-take, get_or-drop}
use Rattle.std.specs.Simd.{first_chunks}
use Rattle.std.specs.Prelude.{◌&&◌, ◌==◌}
use Rattle.rows.specs.Books.{read_at, row_at, record_at, sound, taken}
use Rattle.rows.specs.Drafts.{has_room}
use Rattle.rows.specs.declared.fault.RecordFault.{RecordFault}
use Rattle.rows.specs.Rows.{checked}
use Rattle.rows.specs.declared.row.Row.{Row}

-- what stands behind k bytes reads as it does at its place
pub read_drop : (bs : List ℕ) (k at : ℕ) → read_at bs (k + at) ≡ read_at (drop k bs) at
read_drop bs k at = simp (get_or-drop, add_assoc)

pub row_drop : (bs : List ℕ) (k at : ℕ) → row_at bs (k + at) ≡ row_at (drop k bs) at
row_drop bs k at = simp (get_or-drop, add_assoc)

-- and so does what stands in the first 24 bytes
row_front : (bs : List ℕ) → row_at (take 24 bs) 0 ≡ row_at bs 0
row_front bs = let front : (j : ℕ) → j < 24 → get_or (take 24 bs) j 0 ≡ get_or bs j 0 = λ j h. get_or-take 24 bs j 0 h in
    simp (
      front 0 (lit< tt),
      front 1 (lit< tt),
      front 2 (lit< tt),
      front 3 (lit< tt),
      front 4 (lit< tt),
      front 5 (lit< tt),
      front 6 (lit< tt),
      front 7 (lit< tt),
      front 8 (lit< tt),
      front 9 (lit< tt),
      front 10 (lit< tt),
      front 11 (lit< tt),
      front 12 (lit< tt),
      front 13 (lit< tt),
      front 14 (lit< tt),
      front 15 (lit< tt),
      front 16 (lit< tt),
      front 17 (lit< tt),
      front 20 (lit< tt),
      front 21 (lit< tt),
      front 22 (lit< tt),
      front 23 (lit< tt),
    )

same_read : {r s : Row} {a b a' b' : ℕ} → r ≡ s → a ≡ a' → b ≡ b' → sound (checked r) (a == 0 && b == 0) r ≡ sound (checked s) (a' == 0 && b' == 0) s
same_read p q s = cc

read_front : (bs : List ℕ) → read_at (take 24 bs) 0 ≡ read_at bs 0
read_front bs = same_read (row_front bs) (get_or-take 24 bs 18 0 (lit< tt)) (get_or-take 24 bs 19 0 (lit< tt))

-- chunk i of a list
chunk : (n k i : ℕ) (xs : List ℕ) (d : List ℕ) → i < k → get_or (first_chunks n k xs) i d ≡ take n (drop (n * i) xs)
chunk n zero i xs d h = absurd (omega arith)
chunk n (suc k) zero xs d h = ap (λ m. take n (drop m xs)) (let z : 0 ≡ n * 0 = omega arith in z)
chunk n (suc k) (suc i) xs d h = chunk n k i (drop n xs) d (omega arith) ∙ ap (take n) (drop-drop (n * i) n xs ∙ ap (λ m. drop m xs) (let z : n + n * i ≡ n * suc i = omega arith in z))

-- the record in a chunk of 24 bytes is the record that starts at the chunk's place
row_in_chunk : (k i : ℕ) (xs : List ℕ) (d : List ℕ) → i < k → row_at (get_or (first_chunks 24 k xs) i d) 0 ≡ row_at xs (24 * i)
row_in_chunk k i xs d h = ap (λ ys. row_at ys 0) (chunk 24 k i xs d h) ∙ row_front (drop (24 * i) xs) ∙ sym (row_drop xs (24 * i) 0) ∙ ap (row_at xs) (add-zero (24 * i))

read_in_chunk : (k i : ℕ) (xs : List ℕ) (d : List ℕ) → i < k → read_at (get_or (first_chunks 24 k xs) i d) 0 ≡ read_at xs (24 * i)
read_in_chunk k i xs d h = ap (λ ys. read_at ys 0) (chunk 24 k i xs d h) ∙ read_front (drop (24 * i) xs) ∙ sym (read_drop xs (24 * i) 0) ∙ ap (read_at xs) (add-zero (24 * i))

-- so what becomes of the chunk is what becomes of the record of its number
pub taken_chunk : (rows : List Row) (xs : List ℕ) (k i : ℕ) (cs : List (List ℕ)) (r : Result Unit RecordFault) → cs ≡ first_chunks 24 k xs → i < k
    → r ≡ taken (has_room rows) (read_at (get_or cs i []) 0) → r ≡ record_at (length rows) xs i
taken_chunk rows xs k i cs r front h e =
    e ∙ ap (λ zs. taken (has_room rows) (read_at (get_or zs i []) 0)) front ∙ ap (taken (has_room rows)) (read_in_chunk k i xs [] h)

pub pushed_chunk : (rows new : List Row) (xs : List ℕ) (k i : ℕ) (cs : List (List ℕ)) → cs ≡ first_chunks 24 k xs → i < k
    → new ≡ rows ++ row_at (get_or cs i []) 0 ∷ [] → new ≡ rows ++ row_at xs (24 * i) ∷ []
pushed_chunk rows new xs k i cs front h e =
    e ∙ ap (λ zs. rows ++ row_at (get_or zs i []) 0 ∷ []) front ∙ ap (λ row. rows ++ row ∷ []) (row_in_chunk k i xs [] h)
