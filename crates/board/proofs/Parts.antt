-- The rules of a step, put together.
use Rattle.std.proofs.Common.{◌≡◌, ℕ, suc, ◌+◌, ◌-◌, ◌<◌, Bool, true, false, cond, List, [], ◌∷◌, length, get_or, Some, None, Option, refl, ap, ◌∙◌, subst, inl, inr, arith}
use Rattle.std.proofs.lemmas.Bool.{both_ways, cases_lt, eqb-true}
use Rattle.std.specs.List.{find}
use Rattle.std.specs.Option.{IfSome}
use Rattle.rows.specs.declared.row.Row.{Row}
use Rattle.rating.specs.Ranked.{ranked}
use Rattle.rating.specs.Ratings.{ranking_in}
use Rattle.rating.specs.declared.ranking.Ranking.{Ranking}
use Rattle.rating.specs.declared.ranked.RankedDraft.{RankedDraft}
use Rattle.rating.specs.declared.verdict.Phase.{Phase}
use Rattle.rating.specs.declared.verdict.Phase.TheVariants.{Memory, Processor}
use Rattle.rating.proofs.Rankings.{permutes, ranked-small}
use Rattle.feeds.specs.Meanings.{Advanced, View}
use Rattle.schedule.specs.Places.{is_computing, is_loading, moved, names}
use Rattle.schedule.specs.declared.place.Slot.{Slot}
use Rattle.schedule.specs.declared.place.Slot.TheVariants.{Empty, Loading, Computing}
use Rattle.board.specs.Rules.{Entered, ends, served_on, waits_for}
use Rattle.board.specs.Runs.{Along, FirstBy, Stepped, finished, memory_ranking, place, placed, processor_ranking, rows_in, taking}
use Rattle.board.specs.declared.run.Answer.{Answer}
use Rattle.board.specs.declared.run.Run.{Run}
use Rattle.board.proofs.Choices.{along_chosen, by_place, found}
use Rattle.board.proofs.Rankings.{agrees}

never : false ≡ true → ⊥
never e = both_ways false refl e

-- one resource after the other: no row is served on both
served-both : (x y : Bool) (s : Slot) → (x ≡ true → is_loading s ≡ true) → (y ≡ true → is_computing s ≡ true)
    → cond y (served_on Processor (cond x (served_on Memory s) s)) (cond x (served_on Memory s) s) ≡ moved x y s
served-both true true Empty h g = refl
served-both true false Empty h g = refl
served-both false true Empty h g = refl
served-both false false Empty h g = refl
served-both true true (Loading left compute since) h g = absurd (never (g refl))
served-both true false (Loading left compute since) h g = refl
served-both false true (Loading left compute since) h g = absurd (never (g refl))
served-both false false (Loading left compute since) h g = refl
served-both true true (Computing left since) h g = absurd (never (h refl))
served-both true false (Computing left since) h g = absurd (never (h refl))
served-both false true (Computing left since) h g = refl
served-both false false (Computing left since) h g = refl

-- the choice along a list asks only of the numbers that stand in it
first-same : (p q : ℕ → Bool) (xs : List ℕ) → ((i : ℕ) → i < length xs → p (get_or xs i 0) ≡ q (get_or xs i 0)) → find p xs ≡ find q xs
first-same p q [] h = refl
first-same p q (x ∷ xs) h = rw (h 0 (omega arith), first-same p q xs (λ i l. h (suc i) (omega arith)))

-- a ranking of the rows
module _ (rows : List Row) (x : Ranking) (e : x.count ≡ length rows) where
  below : (i : ℕ) → i < length (ranked x) → get_or (ranked x) i 0 < length rows
  below i l = let z = permutes x in omega (arith, e, z.long, z.number i (omega (arith, z.long)))

  first_rows : (p q : ℕ → Bool) → ((k : ℕ) → k < length rows → p k ≡ q k) → find p (ranked x) ≡ find q (ranked x)
  first_rows p q same = first-same p q (ranked x) (λ i l. same (get_or (ranked x) i 0) (below i l))

  -- who is served is a row that waits
  serves : (waits : ℕ → Bool) (o : Option ℕ) → Along (ranked x) waits o → FirstBy (by_place (ranked x)).before rows waits o
  serves waits o = along_chosen (by_place (ranked x)) rows (ranked x) (agrees rows x e) waits o

  named-waits : (waits : ℕ → Bool) (o : Option ℕ) → Along (ranked x) waits o → (k : ℕ) → names o k ≡ true → waits k ≡ true
  named-waits waits None a k h = absurd (never h)
  named-waits waits (Some i) a k h = subst (λ j. waits j ≡ true) (eqb-true i k h) (serves waits (Some i) a).1

-- the rules one after another: v is the run after the first, u after all
pub record Parts {A B P : Type 0} (view : P → View) (s v : Run A B P) (answer : Answer) (u : Run A B P) : Type 0 where
  pub entered : Entered view (length (rows_in s)) s v
  pub step : answer.step ≡ v.number
  pub memory : answer.memory ≡ find (λ k. is_loading (place v k)) (memory_ranking v)
  pub processor : answer.processor ≡ find (λ k. is_computing (place v k)) (processor_ranking v)
  pub finishes : answer.finished ≡ ends v.number v.places answer.processor
  pub middle : ℕ → Slot
  pub loads : (k : ℕ) → middle k ≡ cond (names answer.memory k) (served_on Memory (place v k)) (place v k)
  pub computes : (k : ℕ) → place u k ≡ cond (names answer.processor k) (served_on Processor (middle k)) (middle k)
  pub advanced : Advanced (view v.pile) (view u.pile)
  pub number : u.number ≡ v.number + 1
  pub rating : u.rating ≡ v.rating

module _ {A B P : Type 0} (view : P → View) (s v : Run A B P) (answer : Answer) (u : Run A B P) (parts : Parts view s v answer u) where
  abbrev x : RankedDraft
  x = s.rating.analysis.ranked

  placed_there : (k : ℕ) → k < length (rows_in s) → place v k ≡ placed view s k
  placed_there k l = parts.entered.done k l

  on_memory : Along (memory_ranking s) (λ k. is_loading (placed view s k)) answer.memory
  on_memory =
      parts.memory ∙ ap (λ r. find (λ k. is_loading (place v k)) (ranked (ranking_in r Memory))) parts.entered.same.rating
      ∙ first_rows (rows_in s) x.memory x.memory_rows (λ k. is_loading (place v k)) (λ k. is_loading (placed view s k)) (λ k l. ap is_loading (placed_there k l))

  on_processor : Along (processor_ranking s) (λ k. is_computing (placed view s k)) answer.processor
  on_processor =
      parts.processor ∙ ap (λ r. find (λ k. is_computing (place v k)) (ranked (ranking_in r Processor))) parts.entered.same.rating
      ∙ first_rows (rows_in s) x.processor x.processor_rows (λ k. is_computing (place v k)) (λ k. is_computing (placed view s k)) (λ k l. ap is_computing (placed_there k l))

  ended : (o : Option ℕ) → Along (processor_ranking s) (λ k. is_computing (placed view s k)) o → ends v.number v.places o ≡ finished view s o
  ended None a = refl
  ended (Some k) a =
      rw (parts.entered.same.number, placed_there k (serves (rows_in s) x.processor x.processor_rows (λ k. is_computing (placed view s k)) (Some k) a).0)

  moved_there : (k : ℕ) → k < length (rows_in s) → place u k ≡ moved (names answer.memory k) (names answer.processor k) (placed view s k)
  moved_there k l =
      parts.computes k
      ∙ ap (λ z. cond (names answer.processor k) (served_on Processor z) z)
      (parts.loads k ∙ ap (λ z. cond (names answer.memory k) (served_on Memory z) z) (placed_there k l))
      ∙ served-both (names answer.memory k) (names answer.processor k) (placed view s k)
      (named-waits (rows_in s) x.memory x.memory_rows (λ k. is_loading (placed view s k)) answer.memory on_memory k)
      (named-waits (rows_in s) x.processor x.processor_rows (λ k. is_computing (placed view s k)) answer.processor on_processor k)

  untaken : (k : ℕ) → (k < length (rows_in s) → taking view s k ≡ false) → (view v.pile).rest k ≡ (view s.pile).rest k
  untaken k h = elim (cases_lt k (length (rows_in s))) [ inl l ↦ parts.entered.left k l (h l) | inr l ↦ (parts.entered.ahead k l).1 ]

  pub went : Stepped view (Along (memory_ranking s)) (Along (processor_ranking s)) s answer u
  went = record {
    step = parts.step ∙ parts.entered.same.number;
    memory = on_memory;
    processor = on_processor;
    finishes = parts.finishes ∙ ended answer.processor on_processor;
    places = moved_there;
    number = omega (arith, parts.number, parts.entered.same.number);
    rating = parts.rating ∙ parts.entered.same.rating;
    drawn = (v.pile, (parts.entered.drawn, parts.advanced));
    pledged = record {
      distance = λ k. parts.advanced.kept.distance k ∙ parts.entered.pledged.distance k;
      memory = λ k. parts.advanced.kept.memory k ∙ parts.entered.pledged.memory k;
      processor = λ k. parts.advanced.kept.processor k ∙ parts.entered.pledged.processor k;
    };
    taken = λ k l e. parts.advanced.rested k ∙ ap (λ n. n - 1) (parts.entered.taken k l e);
    others = λ k h. parts.advanced.rested k ∙ ap (λ n. n - 1) (untaken k h);
  }

-- the row that a resource serves is below 32
pub small : {A B P : Type 0} (s : Run A B P) (phase : Phase) (o : Option ℕ) → o ≡ find (λ k. waits_for phase (place s k)) (ranked (ranking_in s.rating phase))
    → IfSome o (λ k. k < 32)
small s phase o e = rw e (found (λ k. k < 32) _ _ (ranked-small (ranking_in s.rating phase)))
