use Rattle.std.proofs.Common.{◌≡◌, ℕ, ◌+◌, ◌-◌, ◌<◌, ◌≤◌, true, cond, IfOk, ltb, List, length, get_or, take, drop, set, Ok, Err, Result, sym, ap, ◌∙◌, subst, inl, inr, arith, length-append, length-drop, length-set}
use Rattle.std.proofs.lemmas.Bool.Decides.{eqb_tells}
use Rattle.std.proofs.lemmas.List.{length-take-le, get_or-take, get_or-drop, get_or_append_left, get_or-append_right, same_lists, get_or-set_same, get_or-set_other}
use Rattle.rows.specs.Rows.{Valid, is_valid, blank}
use Rattle.rows.specs.Tables.{GapClosed}
use Rattle.rows.specs.Drafts.{rows_of, without, EachValid, gotten, OthersStay}
use Rattle.std.proofs.lemmas.Bool.{cases_lt, cond-true, cond-false, le-ltb, lt-ltb}
use Rattle.rows.specs.declared.fault.DraftFault.{DraftFault}
use Rattle.rows.specs.declared.fault.DraftFault.TheVariants.{NoSuchRow}
use Rattle.rows.specs.declared.row.Row.{Row}
use Rattle.rows.specs.declared.draft.Draft.{Draft}
use Rattle.rows.proofs.Validity.{true_valid, valid_true}

pub length-rows : (d : Draft) → length (rows_of d) ≡ d.count
length-rows d = length-take-le d.count d.table.rows (omega (arith, d.few, d.full))

pub row_at_number : (d : Draft) (i : ℕ) → i < d.count → get_or (rows_of d) i blank ≡ get_or d.table.rows i blank
row_at_number d i h = get_or-take d.count d.table.rows i blank h

pub row-valid : (d : Draft) (i : ℕ) → i < d.count → Valid (get_or (rows_of d) i blank)
row-valid d i h = rw (row_at_number d i h) (true_valid _ (d.valid i blank h))

-- what is valid below n, with a valid row written at i, is valid below m
pub valid_written : (xs : List Row) (n m i : ℕ) (r : Row) → i < length xs → ((k : ℕ) (d : Row) → k < n → is_valid (get_or xs k d) ≡ true)
    → Valid r → ((k : ℕ) → k < m → (k ≡ i → ⊥) → k < n) → (k : ℕ) (d : Row) → k < m → is_valid (get_or (set xs i r) k d) ≡ true
valid_written xs n m i r within old new cover k d h =
    elim (eqb_tells k i) [
      | inl e ↦ rw (e.1, get_or-set_same xs i r d within) (valid_true r new)
      | inr e ↦ rw (get_or-set_other xs i k r d e.1) (old k d (cover k h e.1))
    ]

pub valid_closed : (xs ys : List Row) (n i : ℕ) → GapClosed xs ys i (n - 1) → ((k : ℕ) (d : Row) → k < n → is_valid (get_or xs k d) ≡ true)
    → (k : ℕ) (d : Row) → k < n - 1 → is_valid (get_or ys k d) ≡ true
valid_closed xs ys n i c old k d h =
    elim (cases_lt k i) [
      | inl e ↦ rw (c.below k d e) (old k d (omega arith))
      | inr e ↦ rw (c.moved k d e h) (old (k + 1) d (omega arith))
    ]

pub take-closed : (xs ys : List Row) (n i : ℕ) → n ≤ length xs → i < n → GapClosed xs ys i (n - 1) → take (n - 1) ys ≡ without (take n xs) i
take-closed xs ys n i long h c =
    let front : length (take i (take n xs)) ≡ i = length-take-le i (take n xs) (omega (arith, length-take-le n xs long))
    in same_lists (take (n - 1) ys) (without (take n xs) i)
    (simp (length-append, length-drop, front) (omega (arith, length-take-le n xs long, length-take-le (n - 1) ys (omega (arith, c.long)))))
    (λ k d q.
    let q' : k < n - 1 = omega (arith, q, length-take-le (n - 1) ys (omega (arith, c.long)))
    in elim (cases_lt k i) [
      | inl e ↦
          get_or-take (n - 1) ys k d q' ∙ c.below k d e ∙ sym (get_or-take n xs k d (omega arith)) ∙ sym (get_or-take i (take n xs) k d e)
          ∙ sym (get_or_append_left (take i (take n xs)) (drop (i + 1) (take n xs)) d k (omega (arith, front)))
      | inr e ↦
          get_or-take (n - 1) ys k d q' ∙ c.moved k d e q' ∙ sym (get_or-take n xs (k + 1) d (omega arith))
          ∙ ap (λ j. get_or (take n xs) j d) (let z : k + 1 ≡ i + 1 + (k - i) = omega arith in z)
          ∙ sym (get_or-drop (i + 1) (take n xs) (k - i) d)
          ∙ sym (get_or-append_right (take i (take n xs)) (drop (i + 1) (take n xs)) i k d front e)
    ])

-- what a slice of a draft's rows keeps
pub rows-valid : (d : Draft) (xs : List Row) → xs ≡ rows_of d → EachValid xs
rows-valid d xs e i h =
    let n : i < d.count = omega (arith, ap length e, length-rows d)
    in subst Valid (ap (λ ys. get_or ys i blank) (sym e)) (row-valid d i n)

-- a row that is gotten is valid
pub gotten-valid : (xs : List Row) (i : ℕ) (r : Result Row DraftFault) → EachValid xs → r ≡ gotten xs i → IfOk r Valid
gotten-valid xs i r each e =
    elim (cases_lt i (length xs)) [
      | inl h ↦ subst (λ o. IfOk o Valid) (sym (e ∙ cond-true _ _ _ (lt-ltb i (length xs) h))) (each i h)
      | inr h ↦ subst (λ o. IfOk o Valid) (sym (e ∙ cond-false _ _ _ (le-ltb i (length xs) h))) tt
    ]

-- writing one row of a list leaves every other
pub others_stay : (xs : List Row) (i : ℕ) (r : Row) → OthersStay xs (set xs i r) i
others_stay xs i r = (length-set xs i r, λ j h. get_or-set_other xs i j r blank h)

-- a number at which the draft does not refuse is that of a row
pub has_row_if_ok : {A : Type 0} (d : Draft) (i : ℕ) (x y : A) → ◌≡◌ {A = Result A DraftFault} (Ok x) (cond (ltb i (length (rows_of d))) (Ok y) (Err NoSuchRow)) → i < d.count
has_row_if_ok {A} d i x y e =
    elim (cases_lt i d.count) [
      | inl h ↦ h
      | inr h ↦
          (let none : ◌≡◌ {A = Result A DraftFault} (Ok x) (Err NoSuchRow) = e ∙ cond-false _ (Ok y) (Err NoSuchRow) (le-ltb i (length (rows_of d)) (omega (arith, length-rows d)))
          in let z : ◌≡◌ {A = ℕ} 0 1 = cc in absurd (omega arith))
    ]
