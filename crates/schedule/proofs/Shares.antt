use Rattle.std.proofs.Common.{◌≡◌, ℕ, suc, ◌+◌, ◌-◌, ◌*◌, ◌<◌, ◌≤◌, Bool, Option, ap, ◌∙◌, inl, inr, arith}
use Rattle.std.proofs.lemmas.Bool.{cases_lt}
use Rattle.rating.specs.Quotients.{ceil}
use Rattle.schedule.specs.Arrivals.{Served}
use Rattle.schedule.specs.Places.{Young}
use Rattle.schedule.specs.Resources.{gets}
use Rattle.schedule.specs.Traces.{Solved, Tasks, Trace, TwoPhase, held}
use Rattle.schedule.specs.Windows.{window}
use Rattle.schedule.specs.declared.place.Slot.{Slot}
use Rattle.schedule.specs.declared.place.Slot.TheVariants.{Empty}
use Rattle.schedule.proofs.Arrivals.{share}
use Rattle.schedule.proofs.Places.{Since, lives, the_step}
use Rattle.schedule.proofs.Stages.{Stage, leaves, passes}
use Rattle.schedule.proofs.Traces.{CameIn, adm, arrived, came_in, enters}

-- How much of a resource a row gets in any window of steps of a trace.

-- Row k on the resource that `owner` has: inside s is 1 if the job in place s may still be served, and budget s what it may
-- still get; a job gets at most E steps, and is inside only while it is younger than Q.
pub record Stay (c : Trace) (H k E Q : ℕ) (inside budget : Slot → ℕ) (owner : ℕ → Option ℕ) : Type 0 where
  pub fits : E ≤ Q
  pub empty : inside Empty ≡ 0
  pub living : (t : ℕ) → t ≤ H → inside (c.place t k) ≤ lives (c.place t k)
  pub young : (t : ℕ) → t ≤ H → 1 ≤ inside (c.place t k) → Since (Young Q t) (c.place t k)
  pub comes : (t : ℕ) → t < H → inside (held c t k) ≤ inside (c.place t k) + adm c t k
  pub falls : (t : ℕ) → t < H → inside (c.place (suc t) k) ≤ inside (held c t k)
  pub within : (t : ℕ) → t < H → budget (c.place t k) ≤ E * inside (c.place t k)
  pub brings : (t : ℕ) → t < H → budget (held c t k) ≤ budget (c.place t k) + E * adm c t k
  pub spends : (t : ℕ) → t < H → budget (c.place (suc t) k) + gets (owner t) k ≤ budget (held c t k)

module _ {x : Tasks} {m p : ℕ → ℕ → Bool} {RM RC : ℕ → ℕ} (solved : Solved x m p RM RC)
    {distance : ℕ → ℕ} {H : ℕ} {c : Trace} (laws : TwoPhase x m p distance H c)
    {k E Q : ℕ} {inside budget : Slot → ℕ} {owner : ℕ → Option ℕ} (below : k < x.count) (stay : Stay c H k E Q inside budget owner) where
  stage : (J : ℕ) → Q ≤ suc J → Stage J H (λ t. adm c t k) (λ t. inside (c.place t k))
  stage J le = record {
    starts = ap inside (laws.starts k below) ∙ stay.empty;
    grows = λ t h. omega (arith, stay.comes t h, stay.falls t h);
    alone = λ t h. omega (arith, stay.living t (omega arith), (enters laws t k (omega arith) below).alone);
    young = λ t h o.
        let one : 1 ≤ lives (c.place t k) = omega (arith, stay.living t h) in
        let (a, s, y) = the_step (CameIn laws t k) (Young Q t) (c.place t k) one (came_in laws t k h below) (stay.young t h o) in
        (a, s.below, s.came, omega arith);
  }

  served : Served E H (λ t. adm c t k) (λ t. inside (c.place t k)) (λ t. gets (owner t) k) (λ t. budget (c.place t k))
  served = record { within = stay.within; goes_on = λ t h. omega (arith, stay.brings t h, stay.spends t h) }

  shared_by : (R : ℕ) → 1 ≤ R → Q ≤ R → (b L : ℕ) → 1 ≤ L → b + L ≤ H → window (λ t. gets (owner t) k) b L ≤ E * ceil (L + R - 1) (x.period k)
  shared_by R some le =
      share E R H (λ t. adm c t k) (leaves (λ t. adm c t k) (λ t. inside (c.place t k))) (λ t. inside (c.place t k)) (λ t. gets (owner t) k)
      (λ t. budget (c.place t k)) some (passes (stage (R - 1) (omega arith))) served (x.period k) (solved.periods k below) (arrived laws solved k below)

  -- if Q is 0, so is E, and the row gets nothing
  pub shared : (b L : ℕ) → 1 ≤ L → b + L ≤ H → window (λ t. gets (owner t) k) b L ≤ E * ceil (L + Q - 1) (x.period k)
  shared b L more h =
      elim (cases_lt 0 Q) [
        | inl some ↦ shared_by Q some (omega arith) b L more h
        | inr none ↦
            let e : E ≡ 0 = omega (arith, stay.fits) in
            let z = shared_by 1 (omega arith) (omega arith) b L more h in
            rw e (omega (arith, rw e at z))
      ]
