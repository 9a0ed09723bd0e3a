use Rattle.std.proofs.Common.{not, Option, ◌≡◌, ℕ, zero, suc, ◌+◌, ◌-◌, ◌≤◌, ◌≢◌, List, [], length, drop, Bool, inl, inr, refl, sym, ap, ◌∙◌, subst, ⊎_elim, arith}
use Rattle.std.specs.List.{position, position_or_len}
use Rattle.std.specs.Option.{unwrap_or}
use Rattle.std.proofs.lemmas.Bool.{cases_lt, eq-eqb, eqb-false, eqb-true, le-ltb, lt-ltb, ne_eqb}
use Rattle.std.proofs.lemmas.List.{length-drop}
use Rattle.std.proofs.lemmas.List.Sums.{fails_before_first, passes_at_first, prefix_len-le-length}
use Rattle.lists.specs.ListRecords.{FirstOfRow, is_of, records_of, row_at, sought}
use Rattle.lists.specs.Walks.{seek_ends, seek_on, seek_stops}
use Rattle.lists.proofs.Slices.{length-records, row-of}

-- the rule of the first record of a row names the one that the walk ends at
reaches : (bs : List ℕ) (n row m i r : ℕ) → i + m ≡ r → FirstOfRow bs n row i r → r ≡ sought bs n row i
reaches bs n row zero i r e f =
    let same : i ≡ r = omega (arith, e)
    in ⊎_elim (λ l. sym same ∙ sym (seek_stops bs n row i l (eq-eqb _ _ (subst (λ k. row_at bs k ≡ row) (sym same) (f.here (omega (arith, same)))))))
    (λ l. sym same ∙ sym (seek_ends bs n row i l))
    (cases_lt i n)
reaches bs n row (suc m) i r e f =
    let on : FirstOfRow bs n row (i + 1) r = record { behind = omega (arith, e); within = f.within; before = λ j a b. f.before j (omega arith) b; here = f.here }
    in reaches bs n row m (i + 1) r (omega (arith, e)) on ∙ sym (seek_on bs n row i (omega (arith, e, f.within)) (ne_eqb _ _ (f.before i (omega arith) (omega (arith, e)))))

pub first-sought : (bs : List ℕ) (n row i r : ℕ) → FirstOfRow bs n row i r → r ≡ sought bs n row i
first-sought bs n row i r f = reaches bs n row (r - i) i r (omega (arith, f.behind)) f

-- what is passed over before the first of a row, behind some other records
first-of : (bs : List ℕ) (n row from : ℕ) → from ≤ n → FirstOfRow bs n row from (from + position_or_len (is_of row) (drop from (records_of bs n)))
first-of bs n row from h =
    let later = drop from (records_of bs n)
    in let more : length later ≡ n - from = length-drop from (records_of bs n) ∙ ap (λ m. m - from) (length-records n bs)
    in let most = prefix_len-le-length (λ r. not (is_of row r)) later
    in record {
      behind = omega arith;
      within = omega (arith, more, most);
      before = λ j a b.
          let here : from + (j - from) ≡ j = omega arith
          in subst (λ k. row_at bs k ≢ row) here
          (subst (λ k. k ≢ row) (row-of bs n from (j - from) (omega (arith, more, most))) (eqb-false _ row (fails_before_first (is_of row) later (j - from) [] (omega arith))));
      here = λ l. sym (row-of bs n from _ l) ∙ eqb-true _ row (passes_at_first (is_of row) later [] (omega (arith, more)));
    }

-- the place that a search tells is what it passes over
passed-is : (p : List ℕ → Bool) (xs : List (List ℕ)) → unwrap_or (position p xs) (length xs) ≡ position_or_len p xs
passed-is p xs =
    elim (cases_lt (position_or_len p xs) (length xs)) [
      | inl h ↦ rw (lt-ltb _ _ h) refl
      | inr h ↦ rw (le-ltb _ _ h) (omega (arith, prefix_len-le-length (λ x. not (p x)) xs))
    ]

-- where a search behind some other records ends, found or not
pub found : (bs : List ℕ) (n row from : ℕ) (later : List (List ℕ)) (o : Option ℕ) → from ≤ n → later ≡ drop from (records_of bs n) → o ≡ position (is_of row) later
    → FirstOfRow bs n row from (from + unwrap_or o (length later))
found bs n row from later o h same e =
    let passed : position_or_len (is_of row) later ≡ unwrap_or o (length later) =
    sym (ap (λ (o : Option ℕ). unwrap_or o (length later)) e ∙ passed-is (is_of row) later)
    in subst (λ m. FirstOfRow bs n row from (from + m)) passed
    (subst (λ (rs : List (List ℕ)). FirstOfRow bs n row from (from + position_or_len (is_of row) rs)) (sym same) (first-of bs n row from h))
