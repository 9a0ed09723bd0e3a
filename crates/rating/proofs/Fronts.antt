use Rattle.std.proofs.Common.{◌≡◌, ℕ, zero, suc, ◌<◌, ◌≤◌, true, false, cond, not, eqb, List, [], ◌∷◌, length, get_or, take, sym, refl, ap, ◌∙◌, subst, inl, inr, arith}
use Rattle.rows.specs.Rows.{blank}
use Rattle.rows.specs.declared.row.Row.{Row}
use Rattle.std.proofs.lemmas.Bool.{both_ways, cases_order, cond-true, cond-false, eq-eqb, ne_eqb}
use Rattle.rating.specs.Orders.{Sequence, comes}
use Rattle.rating.specs.Rankings.{sum_over, up_to, front_of, rows_before, Agrees}
use Rattle.rating.proofs.Sums.{sum_over-keep, sum_over-front}

-- where no number stands twice, what stands before the number at place p are the first p
pub front_at : (rs : List ℕ) → ((p q : ℕ) → p < q → q < length rs → get_or rs p 0 ≡ get_or rs q 0 → ⊥) → (p : ℕ) → p < length rs → front_of rs (get_or rs p 0) ≡ take p rs
unfolding front_of
front_at [] once p h = absurd (omega arith)
front_at (x ∷ xs) once zero h = cond-true (eqb x x) [] (x ∷ front_of xs x) (eq-eqb x x refl)
front_at (x ∷ xs) once (suc p) h =
    cond-false (eqb x (get_or xs p 0)) [] (x ∷ front_of xs (get_or xs p 0)) (ne_eqb x (get_or xs p 0) (once 0 (suc p) (omega arith) h))
    ∙ ap (λ ys. x ∷ ys) (front_at xs (λ i j l m. once (suc i) (suc j) (omega arith) (omega arith)) p (omega arith))

module _ (s : Sequence) (rows : List Row) (rs : List ℕ) (a : Agrees s.before rows rs) where
  -- what stands at a place does not go before what stands at an earlier place, nor before itself
  not_before : (p q : ℕ) → p ≤ q → q < length rows → comes s.before rows (get_or rs q 0) (get_or rs p 0) ≡ false
  not_before p q h l =
      elim (cases_order p q) [
        | inl e ↦ rw e (s.irreflexive (get_or rs q 0) (get_or rows (get_or rs q 0) blank))
        | inr (inl g) ↦
            s.exactly_one (get_or rs p 0) (get_or rs q 0) (get_or rows (get_or rs p 0) blank) (get_or rows (get_or rs q 0) blank) (a.permutes.once p q g l)
            ∙ ap not (a.ascends p q g l)
        | inr (inr g) ↦ absurd (omega arith)
      ]

  -- what goes before the number at place p stands at a place before p
  pub place_before : (p q : ℕ) → p < length rows → q < length rows → comes s.before rows (get_or rs q 0) (get_or rs p 0) ≡ true → q < p
  place_before p q hp hq e =
      elim (cases_order q p) [
        | inl g ↦ absurd (both_ways _ (not_before p q (omega arith) hq) e)
        | inr (inl g) ↦ g
        | inr (inr g) ↦ absurd (both_ways _ (not_before p q (omega arith) hq) e)
      ]

  -- f of a row that goes before row k, and 0 of any other
  abbrev counted : (ℕ → ℕ) → ℕ → ℕ → ℕ
  counted f k i = cond (comes s.before rows i k) (f i) 0

  -- the sum at the number of a place
  sum_place : ((h : ℕ → ℕ) → sum_over h rs ≡ sum_over h (up_to (length rows))) → (p : ℕ) → p < length rows → (f : ℕ → ℕ)
      → sum_over f (front_of rs (get_or rs p 0)) ≡ sum_over f (rows_before s.before rows (get_or rs p 0))
  sum_place sums p h f =
      ap (sum_over f) (front_at rs (λ i j l m. a.permutes.once i j l (omega (arith, a.permutes.long))) p (omega (arith, a.permutes.long)))
      ∙ sym (sum_over-front f (counted f (get_or rs p 0)) rs p
      (λ q l m. cond-true (comes s.before rows (get_or rs q 0) (get_or rs p 0)) (f (get_or rs q 0)) 0 (a.ascends q p l h))
      (λ q l m. cond-false (comes s.before rows (get_or rs q 0) (get_or rs p 0)) (f (get_or rs q 0)) 0 (not_before p q l (omega (arith, a.permutes.long)))))
      ∙ sums (counted f (get_or rs p 0))
      ∙ sym (sum_over-keep f (λ i. comes s.before rows i (get_or rs p 0)) (up_to (length rows)))

  -- a sum over what stands before row k is the sum over the rows that go before it
  pub sum_front : ((h : ℕ → ℕ) → sum_over h rs ≡ sum_over h (up_to (length rows))) → (k : ℕ) → k < length rows → (f : ℕ → ℕ)
      → sum_over f (front_of rs k) ≡ sum_over f (rows_before s.before rows k)
  sum_front sums k h f =
      let z : (p : ℕ) × ((p < length rows) × (get_or rs p 0 ≡ k)) = a.permutes.each k h
      in subst (λ (i : ℕ). sum_over f (front_of rs i) ≡ sum_over f (rows_before s.before rows i)) z.1.1 (sum_place sums z.0 z.1.0 f)
