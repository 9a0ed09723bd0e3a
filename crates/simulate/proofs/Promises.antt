-- No time that a journal shows is above its bound, where the guarantee holds.
use Rattle.std.proofs.Common.{◌≡◌, ℕ, ◌+◌, ◌-◌, ◌*◌, ◌<◌, ◌≤◌, Bool, true, false, cond, eqb, [], ◌∷◌, length, Some, None, Option, unwrap_or, sym, refl, subst, inl, inr, mul-zero, arith}
use native.Mathlib.Nat.{div-eq_of_lt}
use Rattle.std.proofs.lemmas.Bool.{both_ways, cases_Bool, cases_lt, cond_both}
use Rattle.rows.proofs.RowLists.{rows-valid}
use Rattle.rating.specs.Bounds.{is_accepted, row_of}
use Rattle.rating.specs.Quotients.{ceil}
use Rattle.rating.specs.Ratings.{draft_in, verdict_in}
use Rattle.feeds.specs.Fits.{Fitting}
use Rattle.feeds.specs.Meanings.{View}
use Rattle.schedule.specs.Places.{LivesIn, LoadsIn, admitted, names}
use Rattle.schedule.specs.Resources.{gets}
use Rattle.schedule.specs.declared.place.Slot.{Slot}
use Rattle.schedule.specs.declared.place.Slot.TheVariants.{Empty, Loading, Computing}
use Rattle.board.specs.Chains.{Reached, new, stayed, stepped}
use Rattle.board.specs.Guarantee.{BoundsOf, Guarantee, Past}
use Rattle.board.specs.Runs.{Along, New, Stepped, memory_ranking, offered, place, placed, processor_ranking, rows_in}
use Rattle.board.specs.declared.run.Answer.{Answer}
use Rattle.board.specs.declared.run.Run.{Run}
use Rattle.board.proofs.Rankings.{guarantee_stands}
use Rattle.simulate.specs.Counts.{InBounds, KeepsBounds, Simulated, Tells, loaded_in, told}
use Rattle.simulate.specs.Tallies.{response_of}
use Rattle.simulate.specs.declared.journal.Journal.{Journal}
use Rattle.simulate.proofs.Entries.{ending, responds}

-- a row that got a step has a bound above 0
some-bound : (g c R T : ℕ) → 1 ≤ g → 1 ≤ T → g ≤ c * ceil (1 + R - 1) T → 1 ≤ R
some-bound g c R T one period h =
    elim (cases_lt R 1) [
      | inl l ↦
          let none : ceil (1 + R - 1) T ≡ 0 = div-eq_of_lt (omega arith) in
          let less : g ≤ c * 0 = subst (λ n. g ≤ c * n) none h in
          absurd (omega (arith, rw mul-zero at less))
      | inr l ↦ l
    ]

got_one : (o : Option ℕ) (k : ℕ) → names o k ≡ true → 1 ≤ gets o k
got_one None k h = absurd (both_ways false refl h)
got_one (Some j) k h = rw h (omega arith)

-- one step of a job that is younger than R
last_step : (b : Bool) (t R since : ℕ) → 1 ≤ R → since ≤ t → t - since < R → cond b (t + 1 - since) 0 ≤ R
last_step true t R since one h l = omega arith
last_step false t R since one h l = omega arith

load_kept : (t R : ℕ) (offer : Option (ℕ × ℕ)) (p : Slot) → 1 ≤ R → LoadsIn R t p → loaded_in t (admitted t offer p) ≤ R
load_kept t R None Empty one h = omega arith
load_kept t R (Some q) Empty one h =
    cond_both (eqb q.0 0) (Computing q.1 t) (Loading q.0 q.1 t) (λ s. loaded_in t s ≤ R) (λ _. omega arith)
    (λ _. last_step (eqb q.0 1) t R t one (omega arith) (omega arith))
load_kept t R None (Loading left compute since) one h = last_step (eqb left 1) t R since one h.0 h.1
load_kept t R (Some q) (Loading left compute since) one h = last_step (eqb left 1) t R since one h.0 h.1
load_kept t R None (Computing left since) one h = omega arith
load_kept t R (Some q) (Computing left since) one h = omega arith

last_response : (b : Bool) (t R since : ℕ) → 1 ≤ R → since ≤ t → t - since < R → unwrap_or (cond b (Some (t + 1 - since)) None) 0 ≤ R
last_response true t R since one h l = omega arith
last_response false t R since one h l = omega arith

response-kept : (t R : ℕ) (offer : Option (ℕ × ℕ)) (p : Slot) → 1 ≤ R → LivesIn R t p → unwrap_or (ending t (admitted t offer p)) 0 ≤ R
response-kept t R None Empty one h = omega arith
response-kept t R (Some q) Empty one h =
    cond_both (eqb q.0 0) (Computing q.1 t) (Loading q.0 q.1 t) (λ s. unwrap_or (ending t s) 0 ≤ R)
    (λ _. last_response (eqb q.1 1) t R t one (omega arith) (omega arith)) (λ _. omega arith)
response-kept t R None (Loading left compute since) one h = omega arith
response-kept t R (Some q) (Loading left compute since) one h = omega arith
response-kept t R None (Computing left since) one h = last_response (eqb left 1) t R since one h.0 h.1
response-kept t R (Some q) (Computing left since) one h = last_response (eqb left 1) t R since one h.0 h.1

module _ {A B P : Type 0} (view : P → View) (r : Run A B P) (begun : New r) (accepted : is_accepted (verdict_in r.rating) ≡ true)
    (fits : Fitting (view r.pile) (rows_in r)) (RM RC : ℕ → ℕ) (bounds : BoundsOf r RM RC) where
  abbrev Step : Run A B P → Answer → Run A B P → Type 0
  Step = Stepped view (Along (memory_ranking r)) (Along (processor_ranking r))

  keeps : (past : Past A B P) (s : Run A B P) → Reached Step r past s → Guarantee view (rows_in r) RM RC past s
  keeps past s h = guarantee_stands A B P view r begun accepted fits RM RC bounds past s h

  period : (k : ℕ) → k < length (rows_in r) → 1 ≤ (row_of (rows_in r) k).period
  period k l = (rows-valid (draft_in r.rating) (rows_in r) refl k l).some_period

  module _ (past : Past A B P) (s u : Run A B P) (answer : Answer) (h : Reached Step r past s) (m : Step s answer u) (k : ℕ) (l : k < length (rows_in r)) where
    before : Guarantee view (rows_in r) RM RC past s
    before = keeps past s h

    after : Guarantee view (rows_in r) RM RC ((s, answer) ∷ past) u
    after = keeps ((s, answer) ∷ past) u (stepped h m)

    memory_has_bound : names answer.memory k ≡ true → 1 ≤ RM k
    memory_has_bound y =
        let share = after.memory_share [] ((s, answer) ∷ []) past refl (omega arith) k l in
        some-bound (gets answer.memory k) (row_of (rows_in r) k).memory (RM k) (row_of (rows_in r) k).period (got_one answer.memory k y) (period k l) (omega (arith, share))

    processor_has_bound : names answer.processor k ≡ true → 1 ≤ RM k + RC k
    processor_has_bound y =
        let share = after.processor_share [] ((s, answer) ∷ []) past refl (omega arith) k l in
        let same : 1 + RM k + RC k - 1 ≡ 1 + (RM k + RC k) - 1 = omega arith in
        some-bound (gets answer.processor k) (row_of (rows_in r) k).compute (RM k + RC k) (row_of (rows_in r) k).period (got_one answer.processor k y) (period k l)
        (omega (arith, rw same at share))

    load_now : cond (names answer.memory k) (loaded_in s.number (placed view s k)) 0 ≤ RM k
    load_now =
        elim (cases_Bool (names answer.memory k)) [
          | inl y ↦ rw y (load_kept s.number (RM k) (offered view s k) (place s k) (memory_has_bound y) (before.loading k l))
          | inr y ↦ rw y (omega arith)
        ]

    response_now : unwrap_or (response_of answer k) 0 ≤ RM k + RC k
    response_now =
        rw (responds view s answer k m.finishes) (elim (cases_Bool (names answer.processor k)) [
          | inl y ↦ rw y (response-kept s.number (RM k + RC k) (offered view s k) (place s k) (processor_has_bound y) (before.living k l))
          | inr y ↦ rw y (omega arith)
        ])

  worst : {past : Past A B P} {s : Run A B P} → Reached Step r past s → (k : ℕ) → k < length (rows_in r)
      → ((told view k past).load ≤ RM k) × ((told view k past).response ≤ RM k + RC k)
  worst new k l = (omega arith, omega arith)
  worst (stepped {past} {s} {u} {answer} h m) k l =
      let so_far = worst h k l in
      (omega (arith, so_far.0, load_now past s u answer h m k l), omega (arith, so_far.1, response_now past s u answer h m k l))
  worst (stayed {past} {s} {u} h e) k l = worst h k l

  pub in_bounds : (u : Run A B P) (y : Journal) → Tells view r u y → InBounds view RM RC r y
  in_bounds u y t k l =
      let far = worst t.reached k l in
      (subst (λ z. z.load ≤ RM k) (sym (t.rows k l)) far.0, subst (λ z. z.response ≤ RM k + RC k) (sym (t.rows k l)) far.1)

-- a journal that goes on telling all steps has no time above the bounds
pub keeps-bounds : {A B P : Type 0} (view : P → View) (n : ℕ) (s u : Run A B P) (x y : Journal) → Simulated view n s x u y → KeepsBounds view s x y
keeps-bounds view n s u x y m r begun accepted fits RM RC bounds t = in_bounds view r begun accepted fits RM RC bounds u y (m.tells r t)
