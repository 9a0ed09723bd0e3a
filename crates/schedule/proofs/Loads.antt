use Rattle.std.proofs.Common.{◌≡◌, ℕ, suc, ◌+◌, ◌-◌, ◌*◌, ◌<◌, ◌≤◌, Bool, true, false, eqb, refl, ap, arith}
use Rattle.std.proofs.lemmas.Bool.{cond_both}
use Rattle.rating.specs.Quotients.{ceil}
use Rattle.schedule.specs.Places.{LoadsIn, is_loading, moved, names}
use Rattle.schedule.specs.Resources.{gets}
use Rattle.schedule.specs.Traces.{Solved, Tasks, Trace, TwoPhase, held}
use Rattle.schedule.specs.declared.place.Slot.{Slot}
use Rattle.schedule.specs.declared.place.Slot.TheVariants.{Empty, Loading, Computing}
use Rattle.schedule.proofs.Ages.{RanIn, ran_in}
use Rattle.schedule.proofs.Phases.{Phase, ran_age, ran_on}
use Rattle.schedule.proofs.Places.{Since, Sized, gets-one, load_left, not_loading, one}
use Rattle.schedule.proofs.Traces.{adm, arrived, came_by_now, enters, held_measures, held_sized, memory_works, steps}

-- The memory's phase: a job loads for fewer steps than its row's bound.

abbrev backlog : Trace → ℕ → ℕ → ℕ
backlog c t k = load_left (held c t k)

abbrev loading : Trace → ℕ → ℕ → Bool
loading c t k = is_loading (held c t k)

module _ {x : Tasks} {m p : ℕ → ℕ → Bool} {RM RC : ℕ → ℕ} (solved : Solved x m p RM RC)
    {distance : ℕ → ℕ} {H : ℕ} {c : Trace} (laws : TwoPhase x m p distance H c) where
  lasts : (t k : ℕ) → suc t < H → k < x.count → backlog c t k ≤ backlog c (suc t) k + gets (c.memory t) k
  lasts t k h l =
      let s = steps laws t k (omega arith) l in
      let e = enters laws (suc t) k (omega arith) l in
      omega (arith, gets-one (c.memory t) k)

  brings : (t k : ℕ) → suc t < H → k < x.count → backlog c (suc t) k + gets (c.memory t) k ≤ backlog c t k + x.load k * adm c (suc t) k
  brings t k h l =
      let s = steps laws t k (omega arith) l in
      let e = enters laws (suc t) k (omega arith) l in
      let z = held_measures laws t k (omega arith) l in
      let w = memory_works laws t k (omega arith) in
      omega (arith, gets-one (c.memory t) k, s.load_falls (omega arith))

  begins : (k : ℕ) → 0 < H → k < x.count → backlog c 0 k ≤ x.load k * adm c 0 k
  begins k h l = omega (arith, (enters laws 0 k (omega arith) l).load_comes, ap load_left (laws.starts k l))

  phase : Phase x.count H m x.load RM (λ k w. ceil w (x.period k)) (loading c) (backlog c) (adm c) c.memory
  phase = record {
    order = solved.memory;
    bounds = solved.loads;
    curves = arrived laws solved;
    chosen = laws.memory;
    works = λ t k h l. (held_measures laws t k (omega arith) l).load_works;
    idles = λ t k h l. not_loading (held c t k);
    small = λ t k h l. (held_measures laws t k h l).load_small;
    lasts = lasts;
    starts = begins;
    brings = brings;
  }

  -- what a step leaves of a load
  ran_moves : (k t : ℕ) (a b : Bool) (s : Slot) → names (c.memory t) k ≡ a → Sized (x.load k) (x.compute k) s
      → RanIn load_left c.memory c 0 k t s → RanIn load_left c.memory c 0 k (suc t) (moved a b s)
  ran_moves k t a b Empty e z r = λ h. tt
  ran_moves k t true b (Loading l d a) e z r =
      cond_both (eqb l 1) (Computing d a) (Loading (l - 1) d a) (RanIn load_left c.memory c 0 k (suc t)) (λ q h. absurd (omega arith))
      (λ q h. ran_on (backlog c) c.memory 0 k t l a (l - 1) (omega (arith, gets-one (c.memory t) k, ap one e)) (r (omega arith)))
  ran_moves k t false b (Loading l d a) e z r =
      λ h. ran_on (backlog c) c.memory 0 k t l a l (omega (arith, gets-one (c.memory t) k, ap one e)) (r h)
  ran_moves k t a true (Computing l s) e z r =
      cond_both (eqb l 1) Empty (Computing (l - 1) s) (RanIn load_left c.memory c 0 k (suc t)) (λ q h. tt) (λ q h. absurd (omega arith))
  ran_moves k t a false (Computing l s) e z r = λ h. absurd (omega arith)

  ran : (k : ℕ) → k < x.count → (t : ℕ) → t ≤ H → RanIn load_left c.memory c 0 k t (held c t k)
  ran k l =
      ran_in load_left c.memory c 0 k H (laws.starts k l)
      (λ t h r. rw (laws.places t k h l)
      (ran_moves k t (names (c.memory t) k) (names (c.processor t) k) (held c t k) refl (held_sized laws t k (omega arith) l) r))

  young : (k t : ℕ) → t ≤ H → k < x.count → (s : Slot) → Sized (x.load k) (x.compute k) s → Since (λ a. a ≤ t) s
      → RanIn load_left c.memory c 0 k t s → LoadsIn (RM k) t s
  young k t h l Empty z o r = tt
  young k t h l (Loading d e a) z o r = omega (arith, ran_age phase 0 k t d a h l z.0 (r z.0))
  young k t h l (Computing d a) z o r = tt

  pub load_young : (t k : ℕ) → t ≤ H → k < x.count → LoadsIn (RM k) t (held c t k)
  load_young t k h l = young k t h l (held c t k) (held_sized laws t k h l) (came_by_now laws t k h l) (ran k l t h)
