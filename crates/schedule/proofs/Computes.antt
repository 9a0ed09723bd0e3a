use Rattle.std.proofs.Common.{◌≡◌, ℕ, zero, suc, ◌+◌, ◌-◌, ◌*◌, ◌<◌, ◌≤◌, Bool, true, false, eqb, refl, ap, arith}
use Rattle.std.proofs.lemmas.Bool.{cond_both}
use Rattle.rating.specs.Quotients.{ceil}
use Rattle.schedule.specs.Arrivals.{Passes}
use Rattle.schedule.specs.Places.{LivesIn, LoadsIn, Young, admitted, is_computing, moved, names}
use Rattle.schedule.specs.Resources.{gets}
use Rattle.schedule.specs.Traces.{Solved, Tasks, Trace, TwoPhase, held}
use Rattle.schedule.specs.Windows.{Bounded}
use Rattle.schedule.specs.declared.place.Slot.{Slot}
use Rattle.schedule.specs.declared.place.Slot.TheVariants.{Empty, Loading, Computing}
use Rattle.schedule.proofs.Ages.{RanIn, ran_in, ran_starts}
use Rattle.schedule.proofs.Arrivals.{out_bounded}
use Rattle.schedule.proofs.Loads.{load_young}
use Rattle.schedule.proofs.Phases.{Phase, ran_age, ran_on}
use Rattle.schedule.proofs.Places.{Since, Sized, budget, compute_left, gets-one, loads, loads-young, not_computing, one, the_step}
use Rattle.schedule.proofs.Stages.{Stage, leaves, passes}
use Rattle.schedule.proofs.Traces.{CameIn, adm, arrived, came_by_now, enters, held_came_in, held_measures, held_sized, processor_works, steps}

-- The processor's phase: a job that is loaded computes for fewer steps than its row's bound.

abbrev backlog : Trace → ℕ → ℕ → ℕ
backlog c t k = compute_left (held c t k)

abbrev computing : Trace → ℕ → ℕ → Bool
computing c t k = is_computing (held c t k)

-- 1 if a job of row k was admitted before step t and was not ready for the processor before it: it loaded in the step before
abbrev waiting : Trace → ℕ → ℕ → ℕ
waiting c k zero = 0
waiting c k (suc t) = loads (held c t k)

-- 1 if a job of row k is ready for the processor in step t, and was not before
abbrev ready : Trace → ℕ → ℕ → ℕ
ready c t k = leaves (λ u. adm c u k) (waiting c k) t

module _ {x : Tasks} {m p : ℕ → ℕ → Bool} {RM RC : ℕ → ℕ} (solved : Solved x m p RM RC)
    {distance : ℕ → ℕ} {H : ℕ} {c : Trace} (laws : TwoPhase x m p distance H c) where
  -- jobs pass through the memory one at a time, each in at most RM steps
  waits : (k : ℕ) → k < x.count → Stage (RM k) H (λ t. adm c t k) (waiting c k)
  waits k l = record { starts = refl; grows = grows; alone = alone; young = young }
    where
      grows : (t : ℕ) → t < H → loads (held c t k) ≤ waiting c k t + adm c t k
      grows zero h = omega (arith, (enters laws 0 k (omega arith) l).loads_come, ap loads (laws.starts k l))
      grows (suc t) h = omega (arith, (enters laws (suc t) k (omega arith) l).loads_come, (steps laws t k (omega arith) l).loads_fall)

      alone : (t : ℕ) → t < H → waiting c k t + adm c t k ≤ 1
      alone zero h = omega (arith, (enters laws 0 k (omega arith) l).alone)
      alone (suc t) h = omega (arith, (enters laws (suc t) k (omega arith) l).alone, (steps laws t k (omega arith) l).stays)

      young : (t : ℕ) → t ≤ H → 1 ≤ waiting c k t → (a : ℕ) × (a < t) × (adm c a k ≡ 1) × (t ≤ a + RM k)
      young zero h o = absurd (omega arith)
      young (suc t) h o =
          let z = held_measures laws t k (omega arith) l in
          let (a, s, y) = the_step (CameIn laws (suc t) k) (Young (RM k) t) (held c t k) (omega arith) (held_came_in laws t k h l)
          (loads-young (RM k) t (held c t k) (load_young solved laws t k (omega arith) l) o) in
          (a, s.below, s.came, omega arith)

  waits_pass : (k : ℕ) → k < x.count → Passes (RM k) H (λ t. adm c t k) (λ t. ready c t k) (waiting c k)
  waits_pass k l = passes (waits k l)

  curves : (k : ℕ) → k < x.count → Bounded H (λ t. ready c t k) (λ w. ceil (w + RM k) (x.period k))
  curves k l =
      out_bounded (RM k) H (λ t. adm c t k) (λ t. ready c t k) (waiting c k) (waits_pass k l) (x.period k) (solved.periods k l)
      (arrived laws solved k l)

  lasts : (t k : ℕ) → suc t < H → k < x.count → backlog c t k ≤ backlog c (suc t) k + gets (c.processor t) k
  lasts t k h l =
      let s = steps laws t k (omega arith) l in
      let e = enters laws (suc t) k (omega arith) l in
      omega (arith, gets-one (c.processor t) k)

  brings : (t k : ℕ) → suc t < H → k < x.count
      → backlog c (suc t) k + gets (c.processor t) k ≤ backlog c t k + x.compute k * ready c (suc t) k
  brings t k h l =
      let s = steps laws t k (omega arith) l in
      let e = enters laws (suc t) k (omega arith) l in
      let z = held_measures laws t k (omega arith) l in
      let w = processor_works laws t k (omega arith) in
      omega (
        arith,
        gets-one (c.processor t) k,
        s.budget_falls (omega arith),
        e.budget_comes,
        ap (λ n. x.compute k * n) ((waits_pass k l).goes_on (suc t) h),
      )

  begins : (k : ℕ) → 0 < H → k < x.count → backlog c 0 k ≤ x.compute k * ready c 0 k
  begins k h l =
      omega (
        arith,
        (enters laws 0 k (omega arith) l).budget_comes,
        ap (budget (x.compute k)) (laws.starts k l),
        ap (λ n. x.compute k * n) ((waits_pass k l).goes_on 0 h),
      )

  phase : Phase x.count H p x.compute RC (λ k w. ceil (w + RM k) (x.period k)) (computing c) (backlog c) (ready c) c.processor
  phase = record {
    order = solved.processor;
    bounds = solved.computes;
    curves = curves;
    chosen = laws.processor;
    works = λ t k h l. (held_measures laws t k (omega arith) l).compute_works;
    idles = λ t k h l. not_computing (held c t k);
    small = λ t k h l. (held_measures laws t k h l).compute_small;
    lasts = lasts;
    starts = begins;
    brings = brings;
  }

  -- what a step leaves of the work on the processor; a load that ends in it makes new work
  ran_moves : (k t : ℕ) (a b : Bool) (s : Slot) → names (c.processor t) k ≡ b → Sized (x.load k) (x.compute k) s
      → LoadsIn (RM k) t s → c.place (suc t) k ≡ moved a b s
      → RanIn compute_left c.processor c (RM k) k t s → RanIn compute_left c.processor c (RM k) k (suc t) (moved a b s)
  ran_moves k t a b Empty e z h q r = λ o. tt
  ran_moves k t true b (Loading l d a) e z h q r =
      cond_both (eqb l 1) (Computing d a) (Loading (l - 1) d a)
      (λ s. c.place (suc t) k ≡ s → RanIn compute_left c.processor c (RM k) k (suc t) s)
      (λ y q. ran_starts compute_left c.processor c (RM k) k (suc t) (Computing d a) (ap (admitted (suc t) (c.offer (suc t) k)) q) (omega arith))
      (λ y q o. absurd (omega arith)) q
  ran_moves k t false b (Loading l d a) e z h q r = λ o. absurd (omega arith)
  ran_moves k t a true (Computing l s) e z h q r =
      cond_both (eqb l 1) Empty (Computing (l - 1) s) (RanIn compute_left c.processor c (RM k) k (suc t)) (λ y o. tt)
      (λ y o. ran_on (backlog c) c.processor (RM k) k t l s (l - 1) (omega (arith, gets-one (c.processor t) k, ap one e)) (r (omega arith)))
  ran_moves k t a false (Computing l s) e z h q r =
      λ o. ran_on (backlog c) c.processor (RM k) k t l s l (omega (arith, gets-one (c.processor t) k, ap one e)) (r o)

  ran : (k : ℕ) → k < x.count → (t : ℕ) → t ≤ H → RanIn compute_left c.processor c (RM k) k t (held c t k)
  ran k l =
      ran_in compute_left c.processor c (RM k) k H (laws.starts k l)
      (λ t h r. rw (laws.places t k h l)
      (ran_moves k t (names (c.memory t) k) (names (c.processor t) k) (held c t k) refl (held_sized laws t k (omega arith) l)
      (load_young solved laws t k (omega arith) l) (laws.places t k h l) r))

  young : (k t : ℕ) → t ≤ H → k < x.count → (s : Slot) → Sized (x.load k) (x.compute k) s → Since (λ a. a ≤ t) s → LoadsIn (RM k) t s
      → RanIn compute_left c.processor c (RM k) k t s → LivesIn (RM k + RC k) t s
  young k t h l Empty z o y r = tt
  young k t h l (Loading d e a) z o y r = omega arith
  young k t h l (Computing d a) z o y r = omega (arith, ran_age phase (RM k) k t d a h l z.0 (r z.0))

  pub live_young : (t k : ℕ) → t ≤ H → k < x.count → LivesIn (RM k + RC k) t (held c t k)
  live_young t k h l =
      young k t h l (held c t k) (held_sized laws t k h l) (came_by_now laws t k h l) (load_young solved laws t k h l) (ran k l t h)
