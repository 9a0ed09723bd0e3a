use Rattle.std.proofs.Common.{◌≡◌, ℕ, ◌+◌, ◌-◌, ◌/◌, ◌%◌, ◌<◌, false, eqb, List, length, is_ok, Ok, Err, Result, sym, refl, ap, ◌∙◌, subst, inl, inr, arith}
use Rattle.std.proofs.lemmas.Bool.{both_ways, cases_lt, le-ltb, lt-ltb, ne_eqb, eq-eqb}
use Rattle.lists.specs.ListRecords.{FirstFaulty, Walked, arrival_at, checked, checked_at, is_padded, list_of, numbered, record_at, sound_count, step_at, step_before}
use Rattle.lists.specs.Walks.{sound-first}
use Rattle.lists.specs.declared.records.fault.ListFault.{ListFault}
use Rattle.lists.specs.declared.records.fault.ListFault.TheVariants.{Record}
use Rattle.lists.specs.declared.records.fault.ListRecordFault.{ListRecordFault}
use Rattle.rows.specs.declared.fault.BadRecord.{BadRecord}
use Rattle.lists.proofs.Slices.{arrival-of, padded-of, step-of}

-- the fault of a record of a list
abbrev pub Bad : Type 0
Bad = BadRecord ListRecordFault

-- a record that is checked where it lies is checked
pub checked-of : (bs : List ℕ) (i earlier : ℕ) (r : List ℕ) → r ≡ record_at bs i → earlier ≡ step_before bs i
    → checked (arrival_at r 0) earlier (is_padded r 0) ≡ checked_at bs i
unfolding checked_at
checked-of bs i earlier r here e =
    ap (λ r. checked (arrival_at r 0) earlier (is_padded r 0)) here
    ∙ ap (λ a. checked a earlier (is_padded (record_at bs i) 0)) (arrival-of bs i)
    ∙ ap (λ e. checked (arrival_at bs i) e (is_padded (record_at bs i) 0)) e
    ∙ ap (checked (arrival_at bs i) (step_before bs i)) (padded-of bs i)

-- its step is that before the next one
pub step-on : (bs : List ℕ) (i : ℕ) (r : List ℕ) → r ≡ record_at bs i → step_at r 0 ≡ step_before bs (i + 1)
step-on bs i r here =
    let ne : eqb (i + 1) 0 ≡ false = ne_eqb (i + 1) 0 (λ e. absurd (omega (arith, e)))
    in let back : i + 1 - 1 ≡ i = omega arith
    in ap (λ r. step_at r 0) here ∙ step-of bs i ∙ rw (ne, back) refl

pub numbered-sound : (i : ℕ) (r : Result Unit ListRecordFault) {o : Unit {0}} → numbered i r ≡ Ok o → r ≡ Ok tt
numbered-sound i (Ok _) e = refl
numbered-sound i (Err fault) e = absurd (both_ways false refl (ap is_ok e))

abbrev bad_of : Bad → Result Unit Bad → Bad
bad_of other (Ok _) = other
bad_of other (Err bad) = bad

pub numbered-bad : (i : ℕ) (r : Result Unit ListRecordFault) (bad : Bad) → numbered i r ≡ Err bad → (bad.number ≡ i) × (r ≡ Err bad.fault)
numbered-bad i (Ok _) bad e = absurd (both_ways _ (ap is_ok e) refl)
numbered-bad i (Err fault) bad e = let same = ap (bad_of bad) e in (sym (ap (λ (b : Bad). b.number) same), ap (λ (b : Bad). Err b.fault) same)

pub faulty : (bs : List ℕ) (n i : ℕ) (bad : Bad) → bad.number ≡ i → i < n → checked_at bs i ≡ Err bad.fault → ((j : ℕ) → j < i → checked_at bs j ≡ Ok tt) → Walked bs n (Err bad)
faulty bs n i bad e = subst (λ i. i < n → checked_at bs i ≡ Err bad.fault → ((j : ℕ) → j < i → checked_at bs j ≡ Ok tt) → Walked bs n (Err bad)) e (λ within here before. (within, here, before))

-- where a walk over the records ends
abbrev pub stop : Result ℕ Bad → ℕ
stop (Ok n) = n
stop (Err bad) = bad.number

ended : (bs : List ℕ) (r : Result ℕ Bad) → Walked bs (length bs / 16) r → FirstFaulty bs (stop r)
ended bs (Ok m) w = record { within = omega (arith, w.0); before = λ j h. w.1 j (omega (arith, w.0)); here = λ h. absurd (omega (arith, w.0)) }
ended bs (Err bad) w = record { within = omega (arith, w.0); before = w.2; here = λ h. ap is_ok w.1 }

whole : (bs file : List ℕ) (n : ℕ) (r : Result ℕ Bad) → file ≡ bs → n ≡ length bs / 16 → Walked file n r → Walked bs (length bs / 16) r
whole bs file n r same count w = subst (λ n. Walked bs n r) count (subst (λ file. Walked file n r) same w)

pub walked : (bs file : List ℕ) (n : ℕ) (r : Result ℕ Bad) → file ≡ bs → n ≡ length bs / 16 → Walked file n r → FirstFaulty bs (stop r)
walked bs file n r same count w = ended bs r (whole bs file n r same count w)

-- the rule of the first faulty record names one
pub first-sound : (bs : List ℕ) (n : ℕ) → FirstFaulty bs n → n ≡ sound_count bs
first-sound bs n f =
    let s = sound-first bs
    in elim (cases_lt n (sound_count bs)) [
      | inl h ↦ absurd (both_ways _ (f.here (omega (arith, s.within))) (ap is_ok (s.before n h)))
      | inr h ↦ elim (cases_lt (sound_count bs) n) [
        | inl l ↦ absurd (both_ways _ (s.here (omega (arith, f.within))) (ap is_ok (f.before (sound_count bs) l)))
        | inr l ↦ omega arith
      ]
    ]

abbrev in_walk : Result ℕ Bad → Result ℕ ListFault
in_walk (Ok n) = Ok n
in_walk (Err bad) = Err (Record bad)

told : (bs : List ℕ) → length bs % 16 ≡ 0 → (r : Result ℕ Bad) → Walked bs (length bs / 16) r → in_walk r ≡ list_of bs
told bs w (Ok m) h =
    let n = first-sound bs m (ended bs (Ok m) h)
    in rw (eq-eqb _ _ w, le-ltb (sound_count bs) (length bs / 16) (omega (arith, n, h.0))) (ap Ok n)
told bs w (Err bad) h =
    let n = first-sound bs bad.number (ended bs (Err bad) h)
    in let fault : checked_at bs (sound_count bs) ≡ Err bad.fault = subst (λ k. checked_at bs k ≡ Err bad.fault) n h.1
    in rw (eq-eqb _ _ w, lt-ltb (sound_count bs) (length bs / 16) (omega (arith, n, h.0)), fault) (ap (λ k. Err (Record record { number = k; fault = bad.fault })) n)

pub listed : (bs file : List ℕ) (n : ℕ) (r : Result ℕ Bad) → length bs % 16 ≡ 0 → file ≡ bs → n ≡ length bs / 16 → Walked file n r → in_walk r ≡ list_of bs
listed bs file n r w same count h = told bs w r (whole bs file n r same count h)
