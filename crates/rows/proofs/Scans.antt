use Rattle.std.proofs.Common.{◌≡◌, ℕ, zero, suc, ◌+◌, ◌-◌, ◌*◌, ◌/◌, ◌%◌, ◌<◌, ◌≤◌, List, true, is_ok, true≢false, [], ◌∷◌, ◌++◌, length, Ok, Err, Result, sym, refl, ap, ◌∙◌, subst, inl, inr, add-zero, add-one, arith}
use Rattle.std.specs.Result.{IsErrAnd}
use Rattle.std.proofs.lemmas.Bool.{cond-true, eq-eqb}
use Rattle.std.proofs.lemmas.Bool.Decides.{eqb_tells}
use Rattle.std.proofs.lemmas.List.{append_assoc, append-nil}
use Rattle.rows.specs.Books.{Loads, book_of, first_rows, go_on, in_book, load_of, meets, numbered, record_at, row_at, scanned}
use Rattle.rows.specs.declared.fault.BadRecord.{BadRecord}
use Rattle.rows.specs.declared.fault.BookFault.{BookFault}
use Rattle.rows.specs.declared.fault.BookFault.TheVariants.{Length, Record}
use Rattle.rows.specs.declared.fault.LoadFault.{LoadFault}
use Rattle.rows.specs.declared.fault.LoadFault.TheVariants.{Book}
use Rattle.rows.specs.declared.fault.RecordFault.{RecordFault}
use Rattle.rows.specs.declared.row.Row.{Row}

-- what a record is told as
pub numbered_ok : (i : ℕ) (r : Result Unit RecordFault) → true ≡ is_ok r → Ok tt ≡ numbered i r
numbered_ok i (Ok _) e = refl
numbered_ok i (Err fault) e = absurd (true≢false e)

pub numbered_err : (i : ℕ) (r : Result Unit RecordFault) (bad : BadRecord RecordFault) → IsErrAnd r (λ fault. bad ≡ record { number = i; fault = fault }) → Err bad ≡ numbered i r
numbered_err i (Ok _) bad e = absurd e
numbered_err i (Err fault) bad e = ap Err e

-- one record on
pub scanned-step : (n : ℕ) (bs : List ℕ) (i m : ℕ) → i < m → scanned n bs i (m - i) ≡ go_on (numbered i (record_at n bs i)) (scanned (n + 1) bs (i + 1) (m - (i + 1)))
unfolding scanned
scanned-step n bs i m h = let e : m - i ≡ suc (m - (i + 1)) = omega arith in rw e refl

pub scanned-end : (n : ℕ) (bs : List ℕ) (i m : ℕ) → m ≤ i → scanned n bs i (m - i) ≡ Ok tt
unfolding scanned
scanned-end n bs i m h = let e : m - i ≡ 0 = omega arith in rw e refl

pub first_rows-more : (bs : List ℕ) (n : ℕ) → first_rows bs (n + 1) ≡ first_rows bs n ++ row_at bs (24 * n) ∷ []
unfolding first_rows
first_rows-more bs n = rw (add-one n) refl

pub first_rows-none : (xs : List Row) (bs : List ℕ) → xs ++ first_rows bs 0 ≡ xs
unfolding first_rows
first_rows-none xs bs = append-nil xs

-- a record that is taken in stands behind those before it, and the rest of the book decides
pub rows_on : (xs ys zs : List Row) (bs : List ℕ) (i : ℕ) → zs ≡ ys ++ row_at bs (24 * i) ∷ [] → ys ≡ xs ++ first_rows bs i → zs ≡ xs ++ first_rows bs (i + 1)
rows_on xs ys zs bs i here before =
    here ∙ ap (λ ws. ws ++ row_at bs (24 * i) ∷ []) before ∙ append_assoc xs (first_rows bs i) (row_at bs (24 * i) ∷ []) ∙ ap (λ ws. xs ++ ws) (sym (first_rows-more bs i))

pub scan_on : (m n l : ℕ) (bs : List ℕ) (i : ℕ) → l ≡ n + 1 → i < length bs / 24 → Ok tt ≡ numbered i (record_at n bs i)
    → scanned n bs i (length bs / 24 - i) ≡ scanned m bs 0 (length bs / 24) → scanned l bs (i + 1) (length bs / 24 - (i + 1)) ≡ scanned m bs 0 (length bs / 24)
scan_on m n l bs i long h here left =
    ap (λ k. scanned k bs (i + 1) (length bs / 24 - (i + 1))) long ∙ ap (λ o. go_on o (scanned (n + 1) bs (i + 1) (length bs / 24 - (i + 1)))) here
    ∙ sym (scanned-step n bs i (length bs / 24) h)
    ∙ left

-- a record that is not taken in decides the book
pub book_ends : (m n : ℕ) (bs : List ℕ) (i : ℕ) (fault : BadRecord RecordFault) (y : BookFault) → length bs % 24 ≡ 0 → i < length bs / 24
    → scanned n bs i (length bs / 24 - i) ≡ scanned m bs 0 (length bs / 24) → Err fault ≡ numbered i (record_at n bs i) → y ≡ Record fault → Err y ≡ book_of m bs
book_ends m n bs i fault y whole h left here is =
    ap Err is ∙ ap (λ o. go_on o (scanned (n + 1) bs (i + 1) (length bs / 24 - (i + 1)))) here ∙ sym (scanned-step n bs i (length bs / 24) h) ∙ left
    ∙ sym (cond-true _ (scanned m bs 0 (length bs / 24)) (Err Length) (eq-eqb (length bs % 24) 0 whole))

-- What a scan from record i on tells, in the words of the rule.
Tells : ℕ → List ℕ → ℕ → ℕ → Result Unit BookFault → Type 0
Tells n bs i more (Ok _) = (j : ℕ) → i ≤ j → j < i + more → meets n bs j ≡ Ok tt
Tells n bs i more (Err Length) = ⊥
Tells n bs i more (Err (Record f)) =
    (i ≤ f.number) × (f.number < i + more) × (meets n bs f.number ≡ Err f.fault)
    × ((j : ℕ) → i ≤ j → j < f.number → meets n bs j ≡ Ok tt)

-- a record that is taken in goes before
widen : (n : ℕ) (bs : List ℕ) (i more : ℕ) (r : Result Unit BookFault) → meets n bs i ≡ Ok tt → Tells n bs (i + 1) more r → Tells n bs i (suc more) r
unfolding Tells
widen n bs i more (Ok _) e t = λ j a b.
    elim (eqb_tells i j) [
      | inl s ↦ subst (λ k. meets n bs k ≡ Ok tt) s.1 e
      | inr s ↦ t j (omega (arith, s.1)) (omega arith)
    ]
widen n bs i more (Err Length) e t = t
widen n bs i more (Err (Record f)) e t = (
  omega (arith, t.0),
  omega (arith, t.1),
  t.2,
  (λ j a b.
      elim (eqb_tells i j) [
        | inl s ↦ subst (λ k. meets n bs k ≡ Ok tt) s.1 e
        | inr s ↦ t.3 j (omega (arith, s.1)) b
      ]),
)

tells : (n : ℕ) (bs : List ℕ) (more i : ℕ) → Tells n bs i more (scanned (n + i) bs i more)
unfolding Tells scanned
tells n bs zero i = λ j a b. absurd (omega arith)
tells n bs (suc more) i = go (meets n bs i) refl (tells n bs more (i + 1))
  where
    go : (o : Result Unit RecordFault) → meets n bs i ≡ o → Tells n bs (i + 1) more (scanned (n + (i + 1)) bs (i + 1) more)
        → Tells n bs i (suc more) (go_on (numbered i o) (scanned (n + i + 1) bs (i + 1) more))
    go (Err fault) e later = (omega arith, omega arith, e, (λ j a b. absurd (omega arith)))
    go (Ok _) e later =
        let same : n + i + 1 ≡ n + (i + 1) = omega arith
        in rw same (widen n bs i more (scanned (n + (i + 1)) bs (i + 1) more) e later)

loads-scan : (n : ℕ) (bs : List ℕ) (r : Result Unit BookFault) → length bs % 24 ≡ 0 → Tells n bs 0 (length bs / 24) r → Loads n bs (in_book r)
unfolding Tells
loads-scan n bs (Ok _) w t = (w, (λ j h. t j (omega arith) (omega arith)))
loads-scan n bs (Err Length) w t = absurd t
loads-scan n bs (Err (Record f)) w t = record { whole = w; within = omega (arith, t.1); here = t.2; before = λ j h. t.3 j (omega arith) h }

-- the definition of a load is the rule
pub loads : (n : ℕ) (bs : List ℕ) → Loads n bs (load_of n bs)
loads n bs =
    elim (eqb_tells (length bs % 24) 0) [
      | inl e ↦ rw e.0 (loads-scan n bs _ e.1 (rw (add-zero n) at (tells n bs (length bs / 24) 0)))
      | inr e ↦ rw e.0 e.1
    ]

-- a book whose records are all passed is loaded
pub book_done : (m n : ℕ) (bs : List ℕ) (i : ℕ) → length bs % 24 ≡ 0 → length bs / 24 ≤ i
    → scanned n bs i (length bs / 24 - i) ≡ scanned m bs 0 (length bs / 24) → Ok tt ≡ book_of m bs
book_done m n bs i whole h left =
    sym (scanned-end n bs i (length bs / 24) h) ∙ left ∙ sym (cond-true _ (scanned m bs 0 (length bs / 24)) (Err Length) (eq-eqb (length bs % 24) 0 whole))

-- a fault of the book is the load's
pub load_ends : (m : ℕ) (bs : List ℕ) (f : BookFault) (y : LoadFault) → Err f ≡ book_of m bs → y ≡ Book f → Err y ≡ load_of m bs
load_ends m bs f y e is = ap Err is ∙ ap in_book e
