use Rattle.std.specs.Prelude.{◌≡◌, ℕ, zero, suc, ◌+◌, ◌-◌, ◌/◌, ◌<◌, ◌≤◌, Bool, true, false, List, length, is_ok, Ok, Err, Result, ◌==◌, ◌≢◌, refl}
use Rattle.std.proofs.Common.{inl, inr, ⊎_elim, subst, arith}
use Rattle.std.proofs.lemmas.Bool.{both_ways, cases_Bool, cases_lt, cond-false, cond-true, eqb-false, eqb-true}
use Rattle.std.proofs.lemmas.Bool.Decides.{eqb_tells, leb_tells}
use Rattle.lists.specs.ListRecords.{FirstFaulty, FirstOfRow, arrival_at, checked, checked_at, is_padded, row_at, seek_from, sound_count, sound_from, sought, step_before}
use Rattle.lists.specs.declared.records.record.Arrival.{Arrival}
use Rattle.lists.specs.declared.records.fault.ListRecordFault.{ListRecordFault}

-- What the walks over the records of a list do: one step on, a stop, the end, and what they passed over.

pub sound-on : (bs : List ℕ) (i n : ℕ) → i < n → is_ok (checked_at bs i) ≡ true → sound_from bs i (n - i) ≡ sound_from bs (i + 1) (n - (i + 1))
unfolding sound_from
sound-on bs i n h e = let m : n - i ≡ suc (n - (i + 1)) = omega arith in rw m (cond-true _ _ _ e)

pub sound-stops : (bs : List ℕ) (i n : ℕ) → i < n → is_ok (checked_at bs i) ≡ false → sound_from bs i (n - i) ≡ i
unfolding sound_from
sound-stops bs i n h e = let m : n - i ≡ suc (n - (i + 1)) = omega arith in rw m (cond-false _ _ _ e)

pub sound-ends : (bs : List ℕ) (i n : ℕ) → n ≤ i → sound_from bs i (n - i) ≡ i
unfolding sound_from
sound-ends bs i n h = let m : n - i ≡ 0 = omega arith in rw m refl

pub seek_on : (bs : List ℕ) (n row i : ℕ) → i < n → (row_at bs i == row) ≡ false → sought bs n row i ≡ sought bs n row (i + 1)
unfolding seek_from
seek_on bs n row i h e = let m : n - i ≡ suc (n - (i + 1)) = omega arith in rw m (cond-false _ _ _ e)

pub seek_stops : (bs : List ℕ) (n row i : ℕ) → i < n → (row_at bs i == row) ≡ true → sought bs n row i ≡ i
unfolding seek_from
seek_stops bs n row i h e = let m : n - i ≡ suc (n - (i + 1)) = omega arith in rw m (cond-true _ _ _ e)

pub seek_ends : (bs : List ℕ) (n row i : ℕ) → n ≤ i → sought bs n row i ≡ i
unfolding seek_from
seek_ends bs n row i h = let m : n - i ≡ 0 = omega arith in rw m refl

ok_tells : (r : Result Unit ListRecordFault) → is_ok r ≡ true → r ≡ Ok tt
ok_tells (Ok _) e = refl
ok_tells (Err _) e = absurd (both_ways false refl e)

-- each record before the first faulty one is without fault
pub sound-before : (bs : List ℕ) (more i j : ℕ) → i ≤ j → j < sound_from bs i more → is_ok (checked_at bs j) ≡ true
unfolding sound_from
sound-before bs zero i j a b = absurd (omega arith)
sound-before bs (suc more) i j a b =
    ⊎_elim
    (λ e.
    ⊎_elim (λ l. sound-before bs more (i + 1) j (omega arith) (rw (cond-true (is_ok (checked_at bs i)) (sound_from bs (i + 1) more) i e) at b))
    (λ l. let s : i ≡ j = omega arith in subst (λ k. is_ok (checked_at bs k) ≡ true) s e)
    (cases_lt i j))
    (λ e. absurd (let z = rw (cond-false (is_ok (checked_at bs i)) (sound_from bs (i + 1) more) i e) at b in omega arith))
    (cases_Bool (is_ok (checked_at bs i)))

-- no more records stand before it than there are
pub sound-most : (bs : List ℕ) (more i : ℕ) → sound_from bs i more ≤ i + more
unfolding sound_from
sound-most bs zero i = omega arith
sound-most bs (suc more) i =
    ⊎_elim (λ e. rw (cond-true (is_ok (checked_at bs i)) (sound_from bs (i + 1) more) i e) (omega (arith, sound-most bs more (i + 1))))
    (λ e. rw (cond-false (is_ok (checked_at bs i)) (sound_from bs (i + 1) more) i e) (omega arith))
    (cases_Bool (is_ok (checked_at bs i)))

-- and it is faulty itself, unless it is the end
pub sound-not : (bs : List ℕ) (more i : ℕ) → sound_from bs i more < i + more → is_ok (checked_at bs (sound_from bs i more)) ≡ false
unfolding sound_from
sound-not bs zero i h = absurd (omega arith)
sound-not bs (suc more) i h =
    ⊎_elim
    (λ e.
    let same = cond-true (is_ok (checked_at bs i)) (sound_from bs (i + 1) more) i e
    in rw same (sound-not bs more (i + 1) (let z = rw same at h in omega arith)))
    (λ e. rw (cond-false (is_ok (checked_at bs i)) (sound_from bs (i + 1) more) i e) e)
    (cases_Bool (is_ok (checked_at bs i)))

-- a walk that stands at a record of its row, or at the end, stays there
pub seek_stays : (bs : List ℕ) (n row more i : ℕ) → n - i ≡ more → sought bs n row (seek_from bs row i more) ≡ seek_from bs row i more
unfolding seek_from
seek_stays bs n row zero i m = seek_ends bs n row i (omega arith)
seek_stays bs n row (suc more) i m =
    ⊎_elim (λ e. rw (cond-true (row_at bs i == row) i (seek_from bs row (i + 1) more) e) (seek_stops bs n row i (omega arith) e))
    (λ e. rw (cond-false (row_at bs i == row) i (seek_from bs row (i + 1) more) e) (seek_stays bs n row more (i + 1) (omega arith)))
    (cases_Bool (row_at bs i == row))

-- an arrival without fault is within the ceilings
figures : (a : Arrival) (earlier : ℕ) (padded : Bool) → is_ok (checked a earlier padded) ≡ true
    → (a.memory ≤ 1000000) × (1 ≤ a.processor) × (a.processor ≤ 1000000)
figures a earlier padded e =
    elim (leb_tells a.row 31) [
      | inr r ↦ absurd (both_ways false refl (rw r.0 at e))
      | inl r ↦ elim (leb_tells earlier a.step) [
        | inr s ↦ absurd (both_ways false refl (rw (r.0, s.0) at e))
        | inl s ↦ elim (leb_tells 1 a.processor) [
          | inr l ↦ absurd (both_ways false refl (rw (r.0, s.0, l.0) at e))
          | inl l ↦ elim (leb_tells a.processor 1000000) [
            | inr h ↦ absurd (both_ways false refl (rw (r.0, s.0, l.0, h.0) at e))
            | inl h ↦ elim (leb_tells a.memory 1000000) [
              | inr m ↦ absurd (both_ways false refl (rw (r.0, s.0, l.0, h.0, m.0) at e))
              | inl m ↦ (m.1, l.1, h.1)
            ]
          ]
        ]
      ]
    ]

-- what a record without fault costs
pub sound-figures : (bs : List ℕ) (i : ℕ) → is_ok (checked_at bs i) ≡ true
    → ((arrival_at bs i).memory ≤ 1000000) × (1 ≤ (arrival_at bs i).processor) × ((arrival_at bs i).processor ≤ 1000000)
unfolding checked_at
sound-figures bs i e = figures (arrival_at bs i) (step_before bs i) (is_padded bs i) e

-- the walk to the first faulty record is the rule
pub sound-first : (bs : List ℕ) → FirstFaulty bs (sound_count bs)
sound-first bs = record {
  within = omega (arith, sound-most bs (length bs / 16) 0);
  before = λ j h. ok_tells _ (sound-before bs (length bs / 16) 0 j (omega arith) h);
  here = λ h. sound-not bs (length bs / 16) 0 (omega arith);
}

-- a record of another row goes before
widen : (bs : List ℕ) (n row i first : ℕ) → (row_at bs i ≢ row) → FirstOfRow bs n row (i + 1) first → FirstOfRow bs n row i first
widen bs n row i first other later = record {
  behind = omega (arith, later.behind);
  within = later.within;
  before = λ j a b. elim (eqb_tells i j) [ inl s ↦ subst (λ k. row_at bs k ≢ row) s.1 other | inr s ↦ later.before j (omega (arith, s.1)) b ];
  here = later.here;
}

first_of : (bs : List ℕ) (n row more i : ℕ) → i + more ≡ n → FirstOfRow bs n row i (seek_from bs row i more)
unfolding seek_from
first_of bs n row zero i m = record { behind = omega arith; within = omega arith; before = λ j a b. absurd (omega arith); here = λ h. absurd (omega arith) }
first_of bs n row (suc more) i m =
    ⊎_elim
    (λ e.
    rw (cond-true (row_at bs i == row) i (seek_from bs row (i + 1) more) e)
    (record { behind = omega arith; within = omega arith; before = λ j a b. absurd (omega arith); here = λ h. eqb-true (row_at bs i) row e }))
    (λ e.
    rw (cond-false (row_at bs i == row) i (seek_from bs row (i + 1) more) e)
    (widen bs n row i (seek_from bs row (i + 1) more) (eqb-false (row_at bs i) row e) (first_of bs n row more (i + 1) (omega arith))))
    (cases_Bool (row_at bs i == row))

-- the walk to the first record of a row is the rule
pub seek_first : (bs : List ℕ) (n row i : ℕ) → i ≤ n → FirstOfRow bs n row i (sought bs n row i)
seek_first bs n row i h = first_of bs n row (n - i) i (omega arith)

-- what is found before the end is a record of the row
pub seek_own : (bs : List ℕ) (n row i : ℕ) → sought bs n row i < n → row_at bs (sought bs n row i) ≡ row
seek_own bs n row i h =
    ⊎_elim (λ (l : i < n). (seek_first bs n row i (omega arith)).here h) (λ (l : n ≤ i). absurd (omega (arith, seek_ends bs n row i l))) (cases_lt i n)
