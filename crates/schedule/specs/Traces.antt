use Rattle.std.specs.Prelude.{◌≡◌, ℕ, suc, ◌+◌, ◌-◌, ◌*◌, ◌<◌, ◌≤◌, Bool, true, false, Some, Option}
use Rattle.rating.specs.Quotients.{ceil}
use Rattle.schedule.specs.Places.{LivesIn, LoadsIn, Within, admitted, is_computing, is_loading, job, moved, names, takes}
use Rattle.schedule.specs.Resources.{Chosen, Priority, gets}
use Rattle.schedule.specs.Windows.{sum_before, window}
use Rattle.schedule.specs.declared.place.Slot.{Slot}
use Rattle.schedule.specs.declared.place.Slot.TheVariants.{Empty}

-- Jobs of two phases on two resources: each first loads through the memory, then computes.

-- for each row the memory and processor steps of a job, at most, and the least distance between two arrivals
pub record Tasks : Type 0 where
  pub count : ℕ
  pub load : ℕ → ℕ
  pub compute : ℕ → ℕ
  pub period : ℕ → ℕ

-- The bounds RM and RC solve the memory and the processor equation of every row, where m and p are the orders of the two
-- resources, and both together are within the row's period.
pub record Solved (x : Tasks) (m p : ℕ → ℕ → Bool) (RM RC : ℕ → ℕ) : Type 0 where
  pub memory : Priority x.count m
  pub processor : Priority x.count p
  pub periods : (k : ℕ) → k < x.count → 1 ≤ x.period k
  pub works : (k : ℕ) → k < x.count → 1 ≤ x.compute k
  pub loads : (k : ℕ) → k < x.count → RM k ≡ x.load k + sum_before m k (λ i. x.load i * ceil (RM k) (x.period i)) x.count
  pub computes : (k : ℕ) → k < x.count → RC k ≡ x.compute k + sum_before p k (λ i. x.compute i * ceil (RC k + RM i) (x.period i)) x.count
  pub in_period : (k : ℕ) → k < x.count → RM k + RC k ≤ x.period k

-- A trace, for each step t and row k: what is offered to the row and how long it still rests, and what its place holds, as
-- the step begins; and which row has each resource in the step.
pub record Trace : Type 0 where
  pub offer : ℕ → ℕ → Option (ℕ × ℕ)
  pub rest : ℕ → ℕ → ℕ
  pub place : ℕ → ℕ → Slot
  pub memory : ℕ → Option ℕ
  pub processor : ℕ → Option ℕ

-- what the place of row k holds after the arrivals of step t
abbrev pub held : Trace → ℕ → ℕ → Slot
held c t k = admitted t (c.offer t k) (c.place t k)

-- The laws of a trace below the horizon H, where an admission of row k sets its rest to `distance k`: places are empty at
-- first; an offer keeps to the row's costs and comes at rest 0; an empty place takes what is offered; each resource serves
-- the first waiting row in its order; who is served loses a step of its phase; rests are set and fall.
pub record TwoPhase (x : Tasks) (m p : ℕ → ℕ → Bool) (distance : ℕ → ℕ) (H : ℕ) (c : Trace) : Type 0 where
  pub starts : (k : ℕ) → k < x.count → c.place 0 k ≡ Empty
  pub apart : (k : ℕ) → k < x.count → x.period k ≤ distance k
  pub offers : (t k : ℕ) → t ≤ H → k < x.count → Within (c.offer t k) (c.rest t k) (x.load k) (x.compute k)
  pub memory : (t : ℕ) → t < H → Chosen x.count m (λ k. is_loading (held c t k)) (c.memory t)
  pub processor : (t : ℕ) → t < H → Chosen x.count p (λ k. is_computing (held c t k)) (c.processor t)
  pub places : (t k : ℕ) → t < H → k < x.count → c.place (suc t) k ≡ moved (names (c.memory t) k) (names (c.processor t) k) (held c t k)
  pub taken : (t k : ℕ) → t < H → k < x.count → takes (c.offer t k) (c.place t k) ≡ true → c.rest (suc t) k ≡ distance k - 1
  pub others : (t k : ℕ) → t < H → k < x.count → takes (c.offer t k) (c.place t k) ≡ false → c.rest (suc t) k ≡ c.rest t k - 1

-- What then holds up to the horizon: a job that loads is younger than RM, a living job younger than RM + RC; what is offered
-- finds an empty place, and holds it after the arrivals; and in any L ≥ 1 consecutive steps a row gets no more than its share
-- of either resource.
pub record InBounds (x : Tasks) (RM RC : ℕ → ℕ) (H : ℕ) (c : Trace) : Type 0 where
  pub loading : (t k : ℕ) → t ≤ H → k < x.count → LoadsIn (RM k) t (c.place t k)
  pub living : (t k : ℕ) → t ≤ H → k < x.count → LivesIn (RM k + RC k) t (c.place t k)
  pub admits : (t k : ℕ) → t < H → k < x.count → (p : ℕ × ℕ) → c.offer t k ≡ Some p → (c.place t k ≡ Empty) × (held c t k ≡ job p t)
  pub memory_share : (k b L : ℕ) → k < x.count → 1 ≤ L → b + L ≤ H
      → window (λ t. gets (c.memory t) k) b L ≤ x.load k * ceil (L + RM k - 1) (x.period k)
  pub processor_share : (k b L : ℕ) → k < x.count → 1 ≤ L → b + L ≤ H
      → window (λ t. gets (c.processor t) k) b L ≤ x.compute k * ceil (L + (RM k + RC k) - 1) (x.period k)

-- Two phases.
abbrev pub TwoPhases : Type 0
TwoPhases = (x : Tasks) (m p : ℕ → ℕ → Bool) (RM RC : ℕ → ℕ) → Solved x m p RM RC
    → (distance : ℕ → ℕ) (H : ℕ) (c : Trace) → TwoPhase x m p distance H c → InBounds x RM RC H c
