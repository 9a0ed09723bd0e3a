use Rattle.std.proofs.Common.{◌≡◌, ℕ, ◌+◌, ◌<◌, ◌≤◌, Bool, Some, refl, arith}
use Rattle.schedule.specs.Places.{LivesIn, LoadsIn, Within, job}
use Rattle.schedule.specs.Traces.{Solved, Tasks, Trace, TwoPhase, TwoPhases, held}
use Rattle.schedule.specs.declared.place.Slot.{Slot}
use Rattle.schedule.specs.declared.place.Slot.TheVariants.{Empty, Loading, Computing}
use Rattle.schedule.proofs.Computes.{live_young}
use Rattle.schedule.proofs.Loads.{load_young}
use Rattle.schedule.proofs.Places.{Since, budget, gets-one, lives, lives-before, lives-young, load_left, loads, loads-before, loads-young}
use Rattle.schedule.proofs.Shares.{Stay, shared}
use Rattle.schedule.proofs.Traces.{CameIn, came_in, enters, held_measures, measures, memory_works, processor_works, steps}

-- The bounds of both phases over every trace that keeps the laws.

module _ {x : Tasks} {m p : ℕ → ℕ → Bool} {RM RC : ℕ → ℕ} (solved : Solved x m p RM RC)
    {distance : ℕ → ℕ} {H : ℕ} {c : Trace} (laws : TwoPhase x m p distance H c) where
  loading : (t k : ℕ) → t ≤ H → k < x.count → LoadsIn (RM k) t (c.place t k)
  loading t k h l = loads-before (RM k) t t (c.offer t k) (c.place t k) (load_young solved laws t k h l)

  living : (t k : ℕ) → t ≤ H → k < x.count → LivesIn (RM k + RC k) t (c.place t k)
  living t k h l = lives-before (RM k + RC k) t t (c.offer t k) (c.place t k) (live_young solved laws t k h l)

  -- a row to which a job is offered has rested for its distance, so the last job is gone
  admits : (t k : ℕ) → t < H → k < x.count → (j : ℕ × ℕ) → c.offer t k ≡ Some j → (c.place t k ≡ Empty) × (held c t k ≡ job j t)
  admits t k h l j e = go (c.place t k) refl (came_in laws t k (omega arith) l) (living t k (omega arith) l)
    where
      rested : c.rest t k ≡ 0
      rested = let w = laws.offers t k (omega arith) l in let v : Within (Some j) (c.rest t k) (x.load k) (x.compute k) = rw e at w in v.0

      go : (s : Slot) → c.place t k ≡ s → Since (CameIn laws t k) s → LivesIn (RM k + RC k) t s → (c.place t k ≡ Empty) × (held c t k ≡ job j t)
      go Empty q s y = (q, rw (e, q))
      go (Loading n d a) q s y = absurd (omega (arith, rested, s.rests, solved.in_period k l, laws.apart k l))
      go (Computing n a) q s y = absurd (omega (arith, rested, s.rests, solved.in_period k l, laws.apart k l))

  on_memory : (k : ℕ) → k < x.count → Stay c H k (x.load k) (RM k) loads load_left c.memory
  on_memory k l = record {
    fits = omega (arith, solved.loads k l);
    empty = refl;
    living = λ t h. (measures laws t k h l).loads_live;
    young = λ t h o. loads-young (RM k) t (c.place t k) (loading t k h l) o;
    comes = λ t h. (enters laws t k (omega arith) l).loads_come;
    falls = λ t h. (steps laws t k h l).loads_fall;
    within = λ t h. (measures laws t k (omega arith) l).load_budget;
    brings = λ t h. (enters laws t k (omega arith) l).load_comes;
    spends = λ t h.
        let z = held_measures laws t k (omega arith) l in
        let w = memory_works laws t k h in
        omega (arith, gets-one (c.memory t) k, (steps laws t k h l).load_falls (omega arith));
  }

  on_processor : (k : ℕ) → k < x.count → Stay c H k (x.compute k) (RM k + RC k) lives (budget (x.compute k)) c.processor
  on_processor k l = record {
    fits = omega (arith, solved.computes k l);
    empty = refl;
    living = λ t h. omega arith;
    young = λ t h o. lives-young (RM k + RC k) t (c.place t k) (living t k h l);
    comes = λ t h. (enters laws t k (omega arith) l).lives_come;
    falls = λ t h. (steps laws t k h l).lives_fall;
    within = λ t h. (measures laws t k (omega arith) l).compute_budget;
    brings = λ t h. (enters laws t k (omega arith) l).budget_comes;
    spends = λ t h.
        let z = held_measures laws t k (omega arith) l in
        let w = processor_works laws t k h in
        omega (arith, gets-one (c.processor t) k, (steps laws t k h l).budget_falls (omega arith));
  }

pub two_phases_stand : TwoPhases
two_phases_stand x m p RM RC solved distance H c laws = record {
  loading = loading solved laws;
  living = living solved laws;
  admits = admits solved laws;
  memory_share = λ k b L l. shared solved laws l (on_memory solved laws k l) b L;
  processor_share = λ k b L l. shared solved laws l (on_processor solved laws k l) b L;
}
