use Rattle.std.specs.Prelude.{◌≡◌, ℕ, zero, suc, ◌-◌, Bool, cond, List, [], ◌∷◌, Some, None, Option, ◌==◌, nat_lt, slice_index_or}
use Rattle.schedule.specs.Places.{admitted, is_computing, is_loading, moved, names, takes}
use Rattle.schedule.specs.Traces.{Solved, Tasks, Trace, TwoPhase}
use Rattle.schedule.specs.declared.place.Slot.{Slot}
use Rattle.schedule.specs.declared.place.Slot.TheVariants.{Empty, Loading, Computing}

-- Three rows, and a trace that keeps the laws for ever: each row is offered a job of its full costs whenever it has rested.

-- a for row 0, b for row 1, c for row 2
abbrev pub each : ℕ → ℕ → ℕ → ℕ → ℕ
each a b c k = cond (k == 0) a (cond (k == 1) b c)

abbrev pub rows : Tasks
rows = record { count = 3; load = each 9 1 5; compute = each 1 9 5; period = each 20 24 35 }

abbrev pub load_bound : ℕ → ℕ
load_bound = each 10 1 15

abbrev pub compute_bound : ℕ → ℕ
compute_bound = each 10 9 16

-- both resources serve row 1 first, then row 0, then row 2
abbrev pub rank : ℕ → ℕ
rank = each 1 0 2

abbrev pub before : ℕ → ℕ → Bool
before i k = nat_lt (rank i) (rank k)

abbrev pub choice : (ℕ → Bool) → Option ℕ
choice waits = cond (waits 1) (Some 1) (cond (waits 0) (Some 0) (cond (waits 2) (Some 2) None))

-- for each row how long it still rests and what its place holds, as a step begins
abbrev pub State : Type 0
State = List (ℕ × Slot)

abbrev pub rest_in : State → ℕ → ℕ
rest_in s k = (slice_index_or s k (0, Empty)).0

abbrev pub place_in : State → ℕ → Slot
place_in s k = (slice_index_or s k (0, Empty)).1

abbrev pub offer_in : State → ℕ → Option (ℕ × ℕ)
offer_in s k = cond (rest_in s k == 0) (Some (rows.load k, rows.compute k)) None

abbrev pub takes_in : State → ℕ → Bool
takes_in s k = takes (offer_in s k) (place_in s k)

abbrev pub held_in : ℕ → State → ℕ → Slot
held_in t s k = admitted t (offer_in s k) (place_in s k)

abbrev pub memory_in : ℕ → State → Option ℕ
memory_in t s = choice (λ k. is_loading (held_in t s k))

abbrev pub processor_in : ℕ → State → Option ℕ
processor_in t s = choice (λ k. is_computing (held_in t s k))

-- row k after step t
abbrev pub after : ℕ → State → ℕ → ℕ × Slot
after t s k = (
  cond (takes_in s k) (rows.period k - 1) (rest_in s k - 1),
  moved (names (memory_in t s) k) (names (processor_in t s) k) (held_in t s k),
)

abbrev pub next : ℕ → State → State
next t s = after t s 0 ∷ (after t s 1 ∷ (after t s 2 ∷ []))

abbrev pub state : ℕ → State
state zero = (0, Empty) ∷ ((0, Empty) ∷ ((0, Empty) ∷ []))
state (suc t) = next t (state t)

abbrev pub trace : Trace
trace = record {
  offer = λ t k. offer_in (state t) k;
  rest = λ t k. rest_in (state t) k;
  place = λ t k. place_in (state t) k;
  memory = λ t. memory_in t (state t);
  processor = λ t. processor_in t (state t);
}

-- The first jobs of rows 0 and 2 load as long as their bounds 10 and 15 allow: a step of the load is left in steps 9 and 14.
-- The first jobs of the three rows end with steps 10, 9 and 19: a step of the work is left in each of these, and none after.
pub record Example : Type 0 where
  pub solved : Solved rows before before load_bound compute_bound
  pub keeps : (H : ℕ) → TwoPhase rows before before rows.period H trace
  pub loads_0 : trace.place 9 0 ≡ Loading 1 1 0
  pub loads_2 : trace.place 14 2 ≡ Loading 1 5 0
  pub last_0 : trace.place 10 0 ≡ Computing 1 0
  pub last_1 : trace.place 9 1 ≡ Computing 1 0
  pub last_2 : trace.place 19 2 ≡ Computing 1 0
  pub ended_0 : trace.place 11 0 ≡ Empty
  pub ended_1 : trace.place 10 1 ≡ Empty
  pub ended_2 : trace.place 20 2 ≡ Empty
