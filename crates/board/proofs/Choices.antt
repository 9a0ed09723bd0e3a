-- The row that a resource serves: along a ranking, and by the relation that the ranking agrees with.
use Rattle.std.proofs.Common.{◌≡◌, ℕ, suc, ◌<◌, ◌≤◌, Bool, true, false, List, [], ◌∷◌, length, get_or, Some, None, Option, sym, ap, ◌∙◌, subst, inl, inr, arith}
use Rattle.std.proofs.lemmas.List.{length-take-le}
use Rattle.std.proofs.lemmas.Bool.{both_ways, cases_Bool, lt-ltb, or_left}
use Rattle.std.specs.List.{find, position_or_len, slice_get}
use Rattle.std.specs.Option.{IfSome}
use Rattle.std.proofs.lemmas.List.Folds.{find_at}
use Rattle.std.proofs.lemmas.List.Sums.{fails_before_first, passes_at_first}
use Rattle.std.proofs.lemmas.Option.{get_or_from_slice_get, slice_get_cases, slice_get_within}
use Rattle.rows.specs.declared.row.Row.{Row}
use Rattle.rating.specs.Figures.{earlier, earlier-never, earlier-one, earlier-through}
use Rattle.rating.specs.Orders.{Sequence, comes}
use Rattle.rating.specs.Rankings.{Agrees, Permutes, front_of}
use Rattle.rating.proofs.Fronts.{front_at, place_before}
use Rattle.schedule.specs.Resources.{Chosen}
use Rattle.board.specs.Runs.{Along, FirstBy}

-- what holds of each number of a list holds of the first that passes
pub found : (P : ℕ → Type 0) (passes : ℕ → Bool) (xs : List ℕ) → ((i : ℕ) → i < length xs → P (get_or xs i 0)) → IfSome (find passes xs) P
found P passes [] h = tt
found P passes (x ∷ xs) h =
    elim (cases_Bool (passes x)) [ inl y ↦ rw y (h 0 (omega arith)) | inr y ↦ rw y (found P passes xs (λ i l. h (suc i) (omega arith))) ]

-- where the first number that passes stands
record FirstAt (passes : ℕ → Bool) (xs : List ℕ) (i : ℕ) : Type 0 where
  at : ℕ
  within : at < length xs
  here : get_or xs at 0 ≡ i
  passed : passes i ≡ true
  before : (q : ℕ) → q < at → passes (get_or xs q 0) ≡ false

first-at : (passes : ℕ → Bool) (xs : List ℕ) (i : ℕ) → find passes xs ≡ Some i → FirstAt passes xs i
first-at passes xs i e =
    let at : ℕ = position_or_len passes xs in
    let there : slice_get xs at ≡ Some i = sym (find_at passes xs) ∙ e in
    let within = slice_get_within xs at i there in
    let here = get_or_from_slice_get xs at i 0 there in
    record {
      at = at;
      within = within;
      here = here;
      passed = subst (λ j. passes j ≡ true) here (passes_at_first passes xs 0 within);
      before = λ q l. fails_before_first passes xs q 0 l;
    }

none_passes : (passes : ℕ → Bool) (xs : List ℕ) → find passes xs ≡ None → (q : ℕ) → q < length xs → passes (get_or xs q 0) ≡ false
none_passes passes xs e q l =
    elim (slice_get_cases xs (position_or_len passes xs)).1 [
      | inl x ↦ absurd (some_none (sym x.2 ∙ sym (find_at passes xs) ∙ e))
      | inr x ↦ fails_before_first passes xs q 0 (omega (arith, x.0))
    ]
  where
    some_none : {x : ℕ} → Some x ≡ None → ⊥
    some_none e = cc

-- the choice along a ranking that agrees with an order is the order's own
module _ (s : Sequence) (rows : List Row) (rs : List ℕ) (a : Agrees s.before rows rs) (waits : ℕ → Bool) where
  chosen_row : (i : ℕ) → FirstAt waits rs i → Chosen (length rows) (comes s.before rows) waits (Some i)
  chosen_row i f =
      let placed : f.at < length rows = omega (arith, f.within, a.permutes.long) in (
        subst (λ j. j < length rows) f.here (a.permutes.number f.at placed),
        f.passed,
        λ k l w c.
            let q = a.permutes.each k l in
            let sooner : q.0 < f.at =
            place_before s rows rs a f.at q.0 placed q.1.0
            (subst (λ j. comes s.before rows j (get_or rs f.at 0) ≡ true) (sym q.1.1) (subst (λ j. comes s.before rows k j ≡ true) (sym f.here) c)) in
            both_ways (waits k) (subst (λ j. waits j ≡ false) q.1.1 (f.before q.0 sooner)) w,
      )

  pub along_chosen : (o : Option ℕ) → Along rs waits o → FirstBy s.before rows waits o
  along_chosen None e = λ k l.
      let q = a.permutes.each k l in
      subst (λ j. waits j ≡ false) q.1.1 (none_passes waits rs (sym e) q.0 (omega (arith, q.1.0, a.permutes.long)))
  along_chosen (Some i) e = chosen_row i (first-at waits rs i (sym e))

-- The order in which a ranking stands, as a relation: the earlier place first. A number that isn't there stands behind all.
abbrev place_in : List ℕ → ℕ → ℕ
place_in rs i = length (front_of rs i)

abbrev pub by_place : List ℕ → Sequence
by_place rs = record {
  before = λ i a j b. earlier (place_in rs i) i (place_in rs j) j;
  irreflexive = λ i a. earlier-never (place_in rs i) i;
  exactly_one = λ i j a b. earlier-one (place_in rs i) i (place_in rs j) j;
  transitive = λ i j k a b c. earlier-through (place_in rs i) i (place_in rs j) j (place_in rs k) k;
}

module _ (rows : List Row) (rs : List ℕ) (permutes : Permutes (length rows) rs) where
  place_is : (p : ℕ) → p < length rows → place_in rs (get_or rs p 0) ≡ p
  place_is p h =
      let short : p ≤ length rs = omega (arith, permutes.long) in
      ap length (front_at rs (λ i j l m. permutes.once i j l (omega (arith, permutes.long))) p (omega (arith, permutes.long)))
      ∙ length-take-le p rs short

  pub agrees_places : Agrees (by_place rs).before rows rs
  agrees_places = record {
    permutes = permutes;
    ascends = λ p q h l.
        or_left _ _ (lt-ltb (place_in rs (get_or rs p 0)) (place_in rs (get_or rs q 0)) (omega (arith, place_is p (omega arith), place_is q l)));
  }
