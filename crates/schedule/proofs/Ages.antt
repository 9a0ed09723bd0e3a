use Rattle.std.proofs.Common.{◌≡◌, ℕ, zero, suc, ◌+◌, ◌<◌, ◌≤◌, Option, sym, refl, ap, arith}
use Rattle.schedule.specs.Traces.{Trace, held}
use Rattle.schedule.specs.declared.place.Slot.{Slot}
use Rattle.schedule.specs.declared.place.Slot.TheVariants.{Empty, Loading, Computing}
use Rattle.schedule.proofs.Phases.{Ran, ran_new}
use Rattle.schedule.proofs.Places.{Since, since_admitted}

-- How much of its work in one phase the job in a place has had, step by step.

-- left: what a place has left in the phase. owner: the row that has the phase's resource
module _ (left : Slot → ℕ) (owner : ℕ → Option ℕ) (c : Trace) (J k : ℕ) where
  abbrev pub RanIn : ℕ → Slot → Type 0
  RanIn t s = 1 ≤ left s → Since (λ a. Ran (λ u i. left (held c u i)) owner J k t (left s) a) s

  -- a job that is new in the phase in step t
  pub ran_starts : (t : ℕ) (z : Slot) → held c t k ≡ z → Since (λ a. t ≤ a + J) z → RanIn t z
  ran_starts t Empty e h = λ o. tt
  ran_starts t (Loading l x a) e h = λ o. ran_new (λ u i. left (held c u i)) owner J k t (left (Loading l x a)) a h (ap left (sym e))
  ran_starts t (Computing l a) e h = λ o. ran_new (λ u i. left (held c u i)) owner J k t (left (Computing l a)) a h (ap left (sym e))

  -- the arrivals of a step
  ran_enters : (t : ℕ) → RanIn t (c.place t k) → RanIn t (held c t k)
  ran_enters t = go (c.place t k) refl
    where
      go : (s : Slot) → c.place t k ≡ s → RanIn t s → RanIn t (held c t k)
      go Empty e r =
          ran_starts t (held c t k) refl
          (since_admitted (λ a. t ≤ a + J) (λ a. t ≤ a + J) t (c.offer t k) (c.place t k) (λ y. omega arith) (λ y a q. q) (rw e tt))
      go (Loading l x a) e r = rw e r
      go (Computing l a) e r = rw e r

  -- if service keeps it, it holds in every step
  pub ran_in : (H : ℕ) → c.place 0 k ≡ Empty → ((t : ℕ) → t < H → RanIn t (held c t k) → RanIn (suc t) (c.place (suc t) k))
      → (t : ℕ) → t ≤ H → RanIn t (held c t k)
  ran_in H starts on zero h = ran_enters 0 (rw starts (λ o. tt))
  ran_in H starts on (suc t) h = ran_enters (suc t) (on t h (ran_in H starts on t (omega arith)))
