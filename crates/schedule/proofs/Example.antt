use Rattle.std.proofs.Common.{◌≡◌, ℕ, zero, suc, ◌+◌, ◌-◌, ◌<◌, ◌≤◌, Bool, true, false, cond, eqb, ltb, ◌⊎◌, get_or, Some, None, refl, ap, ◌∙◌, inl, inr, arith}
use Rattle.std.proofs.lemmas.Bool.{both_ways, cond_both, cond-false, cond-true, eqb-true, lt-ltb, ltb-true}
use Rattle.schedule.specs.Example.{Example, State, after, before, choice, compute_bound, load_bound, next, offer_in, rank, rest_in, rows, state, takes_in, trace}
use Rattle.schedule.specs.Places.{Within, is_computing, is_loading}
use Rattle.schedule.specs.Resources.{Chosen, Priority}
use Rattle.schedule.specs.Traces.{Solved, TwoPhase, held}
use Rattle.schedule.specs.declared.place.Slot.{Slot}
use Rattle.schedule.specs.declared.place.Slot.TheVariants.{Empty}

-- The example keeps the laws, its bounds solve the equations, and its first jobs end as it says.

-- what holds of rows 0, 1 and 2 holds of every row
pub three : (Q : ℕ → Type 0) → Q 0 → Q 1 → Q 2 → (k : ℕ) → k < 3 → Q k
three Q a b c zero h = a
three Q a b c (suc zero) h = b
three Q a b c (suc (suc zero)) h = c
three Q a b c (suc (suc (suc k))) h = absurd (omega arith)

never : false ≡ true → ⊥
never e = both_ways false refl e

abbrev Ordered : ℕ → ℕ → Type 0
Ordered i j = (before i j ≡ true) ⊎ ((i ≡ j) ⊎ (before j i ≡ true))

ordered : (i j : ℕ) → i < 3 → j < 3 → Ordered i j
ordered i j l m =
    three (λ i. Ordered i j) (three (Ordered 0) (inr (inl refl)) (inr (inr refl)) (inl refl) j m)
    (three (Ordered 1) (inl refl) (inr (inl refl)) (inl refl) j m) (three (Ordered 2) (inr (inr refl)) (inr (inr refl)) (inr (inl refl)) j m) i l

ltb-goes_on : (a b c : ℕ) → ltb a b ≡ true → ltb b c ≡ true → ltb a c ≡ true
ltb-goes_on a b c g h = lt-ltb a c (omega (arith, ltb-true a b g, ltb-true b c h))

priority : Priority 3 before
priority = record {
  strict = three (λ i. before i i ≡ false) refl refl refl;
  total = ordered;
  transitive = λ i j k a b c. ltb-goes_on (rank i) (rank j) (rank k);
}

chosen : (waits : ℕ → Bool) → Chosen 3 before waits (choice waits)
chosen waits = go (waits 1) (waits 0) (waits 2) refl refl refl
  where
    go : (a b c : Bool) → waits 1 ≡ a → waits 0 ≡ b → waits 2 ≡ c → Chosen 3 before waits (cond a (Some 1) (cond b (Some 0) (cond c (Some 2) None)))
    go true b c p q r = (omega arith, p, three (λ k. waits k ≡ true → before k 1 ≡ true → ⊥) (λ w. never) (λ w. never) (λ w. never))
    go false true c p q r =
        (omega arith, q, three (λ k. waits k ≡ true → before k 0 ≡ true → ⊥) (λ w. never) (λ w h. both_ways (waits 1) p w) (λ w. never))
    go false false true p q r =
        (omega arith, r, three (λ k. waits k ≡ true → before k 2 ≡ true → ⊥) (λ w h. both_ways (waits 0) q w) (λ w h. both_ways (waits 1) p w) (λ w. never))
    go false false false p q r = three (λ k. waits k ≡ false) q p r

works : (k : ℕ) → k < 3 → 1 ≤ rows.compute k
works = three (λ k. 1 ≤ rows.compute k) (omega arith) (omega arith) (omega arith)

within : (s : State) (k : ℕ) → k < 3 → Within (offer_in s k) (rest_in s k) (rows.load k) (rows.compute k)
within s k l =
    cond_both (eqb (rest_in s k) 0) (Some (rows.load k, rows.compute k)) None (λ o. Within o (rest_in s k) (rows.load k) (rows.compute k))
    (λ e. (eqb-true (rest_in s k) 0 e, omega arith, works k l, omega arith)) (λ e. tt)

after-at : (t : ℕ) (s : State) (k : ℕ) → k < 3 → get_or (next t s) k (0, Empty) ≡ after t s k
after-at t s = three (λ k. get_or (next t s) k (0, Empty) ≡ after t s k) refl refl refl

rest_after : (t k : ℕ) → k < 3 → rest_in (state (suc t)) k ≡ cond (takes_in (state t) k) (rows.period k - 1) (rest_in (state t) k - 1)
rest_after t k l = ap (λ (a : ℕ × Slot). a.0) (after-at t (state t) k l)

keeps : (H : ℕ) → TwoPhase rows before before rows.period H trace
keeps H = record {
  starts = three (λ k. trace.place 0 k ≡ Empty) refl refl refl;
  apart = λ k l. omega arith;
  offers = λ t k h l. within (state t) k l;
  memory = λ t h. chosen (λ k. is_loading (held trace t k));
  processor = λ t h. chosen (λ k. is_computing (held trace t k));
  places = λ t k h l. ap (λ (a : ℕ × Slot). a.1) (after-at t (state t) k l);
  taken = λ t k h l e. rest_after t k l ∙ cond-true (takes_in (state t) k) (rows.period k - 1) (rest_in (state t) k - 1) e;
  others = λ t k h l e. rest_after t k l ∙ cond-false (takes_in (state t) k) (rows.period k - 1) (rest_in (state t) k - 1) e;
}

solved : Solved rows before before load_bound compute_bound
solved = record {
  memory = priority;
  processor = priority;
  periods = three (λ k. 1 ≤ rows.period k) (omega arith) (omega arith) (omega arith);
  works = works;
  loads = three _ refl refl refl;
  computes = three _ refl refl refl;
  in_period = three (λ k. load_bound k + compute_bound k ≤ rows.period k) (omega arith) (omega arith) (omega arith);
}

pub example : Example
example = record {
  solved = solved;
  keeps = keeps;
  loads_0 = refl;
  loads_2 = refl;
  last_0 = refl;
  last_1 = refl;
  last_2 = refl;
  ended_0 = refl;
  ended_1 = refl;
  ended_2 = refl;
}
