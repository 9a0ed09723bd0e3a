-- That what a journal notes of a step, from its answer and the places, is what the step did.
use Rattle.std.proofs.Common.{◌≡◌, ℕ, ◌+◌, ◌-◌, ◌<◌, max, Bool, true, false, cond, ◌&&◌, ◌||◌, eqb, List, [], ◌∷◌, length, is_some, Some, None, Option, unwrap_or, sym, refl, ap, ◌∙◌, subst, inl, inr, arith}
use Rattle.std.proofs.lemmas.Bool.{both_ways, cases_Bool, eqb-true}
use Rattle.std.specs.List.{find}
use Rattle.feeds.specs.Meanings.{View}
use Rattle.schedule.specs.Places.{admitted, is_loading, job, moved, names, takes}
use Rattle.schedule.specs.declared.place.Slot.{Slot}
use Rattle.schedule.specs.declared.place.Slot.TheVariants.{Empty, Loading, Computing}
use Rattle.board.specs.Runs.{Along, Stepped, finished, memory_ranking, offered, place, placed, processor_ranking, response, rows_in}
use Rattle.board.specs.declared.run.Answer.{Answer}
use Rattle.board.specs.declared.run.Run.{Run}
use Rattle.simulate.specs.Counts.{counted, loaded_in}
use Rattle.simulate.specs.Tallies.{has_entered, is_free, is_taken, load_in, load_of, noted, one, response_in, response_of}
use Rattle.simulate.specs.declared.tally.Tally.{Tally}

-- the response of a job, if it computes its last step in step t
abbrev pub ending : ℕ → Slot → Option ℕ
ending t Empty = None
ending t (Loading left compute since) = None
ending t (Computing left since) = cond (eqb left 1) (Some (t + 1 - since)) None

nothing : (b : Bool) → ◌≡◌ {A = Option ℕ} None (cond b None None)
nothing true = refl
nothing false = refl

none_or : (b : Bool) (j v k : ℕ) → response_in (cond b (Some (j, v)) None) k ≡ cond (eqb j k) (cond b (Some v) None) None
none_or true j v k = refl
none_or false j v k = nothing (eqb j k)

response-in : (t j k : ℕ) (p : Slot) → response_in (response t j p) k ≡ cond (eqb j k) (ending t p) None
response-in t j k Empty = nothing (eqb j k)
response-in t j k (Loading left compute since) = nothing (eqb j k)
response-in t j k (Computing left since) = none_or (eqb left 1) j (t + 1 - since) k

-- a job that is there after the first rule is there after the step, or it finished
loading-stays : (a x : Bool) (left compute since : ℕ) → is_taken (cond a (cond x (Computing compute since) (Loading (left - 1) compute since)) (Loading left compute since)) ≡ true
loading-stays true true left compute since = refl
loading-stays true false left compute since = refl
loading-stays false x left compute since = refl

computing-shows : (b x : Bool) (left since v : ℕ)
    → (is_some (cond b (cond x (Some v) None) None) || is_taken (cond b (cond x Empty (Computing (left - 1) since)) (Computing left since))) ≡ true
computing-shows true true left since v = refl
computing-shows true false left since v = refl
computing-shows false x left since v = refl

shows : (a b : Bool) (t : ℕ) (p : Slot) → is_taken p ≡ true → (is_some (cond b (ending t p) None) || is_taken (moved a b p)) ≡ true
shows a b t Empty h = absurd (both_ways false refl h)
shows a b t (Loading left compute since) h =
    elim b as (λ y. (is_some (cond y None None) || is_taken (moved a b (Loading left compute since))) ≡ true) [
      | true ↦ loading-stays a (eqb left 1) left compute since
      | false ↦ loading-stays a (eqb left 1) left compute since
    ]
shows a b t (Computing left since) h = computing-shows b (eqb left 1) left since (t + 1 - since)

-- an empty place stays empty without an arrival
shows-none : (a b : Bool) (t : ℕ) → (is_some (cond b (ending t Empty) None) || is_taken (moved a b Empty)) ≡ false
shows-none a true t = refl
shows-none a false t = refl

job-taken : (b : Bool) (c m t : ℕ) → is_taken (cond b (Computing c t) (Loading m c t)) ≡ true
job-taken true c m t = refl
job-taken false c m t = refl

-- an arrival is seen to be admitted exactly if an offer was taken
entered : (a b : Bool) (t : ℕ) (offer : Option (ℕ × ℕ)) (p : Slot)
    → (is_free p && (is_some (cond b (ending t (admitted t offer p)) None) || is_taken (moved a b (admitted t offer p)))) ≡ takes offer p
entered a b t None Empty = shows-none a b t
entered a b t (Some q) Empty = shows a b t (job q t) (job-taken (eqb q.0 0) q.1 q.0 t)
entered a b t None (Loading left compute since) = refl
entered a b t (Some q) (Loading left compute since) = refl
entered a b t None (Computing left since) = refl
entered a b t (Some q) (Computing left since) = refl

-- the first number that passes does pass
passed : (passes : ℕ → Bool) (xs : List ℕ) (k : ℕ) → find passes xs ≡ Some k → passes k ≡ true
passed passes [] k e = absurd (let z : ◌≡◌ {A = ℕ} 0 1 = cc in omega arith)
passed passes (x ∷ xs) k e =
    elim (cases_Bool (passes x)) [
      | inl y ↦
          let q : Some x ≡ Some k = rw y at e in
          let same : x ≡ k = cc in
          subst (λ j. passes j ≡ true) same y
      | inr y ↦ passed passes xs k (rw y at e)
    ]

-- whom the memory serves was loading
named : (o : Option ℕ) (passes : ℕ → Bool) (xs : List ℕ) (k : ℕ) → o ≡ find passes xs → names o k ≡ true → passes k ≡ true
named None passes xs k e h = absurd (both_ways false refl h)
named (Some j) passes xs k e h = subst (λ i. passes i ≡ true) (eqb-true j k h) (passed passes xs j (sym e))

load_ends : (x : Bool) (t left compute since : ℕ) → load_in t (cond x (Computing compute since) (Loading (left - 1) compute since)) ≡ cond x (t + 1 - since) 0
load_ends true t left compute since = refl
load_ends false t left compute since = refl

loads : (a b : Bool) (t : ℕ) (p : Slot) → (a ≡ true → is_loading p ≡ true) → cond a (load_in t (moved a b p)) 0 ≡ cond a (loaded_in t p) 0
loads false b t p h = refl
loads true b t Empty h = refl
loads true b t (Loading left compute since) h = load_ends (eqb left 1) t left compute since
loads true b t (Computing left since) h = absurd (both_ways false refl (h refl))

-- the response of row k in a step is that of its job, if the processor serves it for the last time
module _ {A B P : Type 0} (view : P → View) (s : Run A B P) (answer : Answer) (k : ℕ) where
  pub responds : answer.finished ≡ finished view s answer.processor
      → response_of answer k ≡ cond (names answer.processor k) (ending s.number (placed view s k)) None
  responds e = ap (λ f. response_in f k) e ∙ go answer.processor
    where
      go : (o : Option ℕ) → response_in (finished view s o) k ≡ cond (names o k) (ending s.number (placed view s k)) None
      go None = refl
      go (Some j) =
          response-in s.number j k (placed view s j) ∙ elim (cases_Bool (eqb j k)) [
            | inl y ↦ rw y (ap (λ i. ending s.number (placed view s i)) (eqb-true j k y))
            | inr y ↦ rw y
          ]

module _ {A B P : Type 0} (view : P → View) (s : Run A B P) (answer : Answer) (u : Run A B P)
    (m : Stepped view (Along (memory_ranking s)) (Along (processor_ranking s)) s answer u) (k : ℕ) (l : k < length (rows_in s)) where
  enters : has_entered k (is_free (place s k)) answer (place u k) ≡ takes (offered view s k) (place s k)
  enters =
      ap (λ o. is_free (place s k) && (is_some o || is_taken (place u k))) (responds view s answer k m.finishes)
      ∙ ap (λ q. is_free (place s k) && (is_some (cond (names answer.processor k) (ending s.number (placed view s k)) None) || is_taken q)) (m.places k l)
      ∙ entered (names answer.memory k) (names answer.processor k) s.number (offered view s k) (place s k)

  loaded : load_of k answer (place u k) ≡ cond (names answer.memory k) (loaded_in s.number (placed view s k)) 0
  loaded =
      ap (λ q. cond (names answer.memory k) (load_in answer.step q) 0) (m.places k l)
      ∙ ap (λ t. cond (names answer.memory k) (load_in t (moved (names answer.memory k) (names answer.processor k) (placed view s k))) 0) m.step
      ∙ loads (names answer.memory k) (names answer.processor k) s.number (placed view s k)
      (named answer.memory (λ j. is_loading (placed view s j)) (memory_ranking s) k m.memory)

  pub noted_counted : (x : Tally) → noted k (is_free (place s k)) answer (place u k) x ≡ counted view k s answer x
  noted_counted x =
      ap (λ b. record {
        admitted = x.admitted + one b;
        finished = x.finished + one (is_some (response_of answer k));
        load = max x.load (load_of k answer (place u k));
        response = max x.response (unwrap_or (response_of answer k) 0);
        memory = x.memory + one (names answer.memory k);
        processor = x.processor + one (names answer.processor k);
      }) enters
      ∙ ap (λ n. record {
        admitted = x.admitted + one (takes (offered view s k) (place s k));
        finished = x.finished + one (is_some (response_of answer k));
        load = max x.load n;
        response = max x.response (unwrap_or (response_of answer k) 0);
        memory = x.memory + one (names answer.memory k);
        processor = x.processor + one (names answer.processor k);
      }) loaded
