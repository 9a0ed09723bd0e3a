use Rattle.std.proofs.Common.{◌≡◌, ℕ, zero, suc, ◌+◌, ◌-◌, ◌<◌, ◌≤◌, Bool, true, false, Some, None, Option, refl, ap, arith}
use Rattle.std.proofs.lemmas.Bool.{eqb-true}
use Rattle.rating.specs.Quotients.{ceil}
use Rattle.schedule.specs.Arrivals.{Spaced}
use Rattle.schedule.specs.Places.{Within, is_computing, is_loading, names, takes}
use Rattle.schedule.specs.Resources.{Chosen}
use Rattle.schedule.specs.Traces.{Solved, Tasks, Trace, TwoPhase, held}
use Rattle.schedule.specs.Windows.{Bounded}
use Rattle.schedule.specs.declared.place.Slot.{Slot}
use Rattle.schedule.specs.declared.place.Slot.TheVariants.{Empty, Loading, Computing}
use Rattle.schedule.proofs.Arrivals.{arrivals}
use Rattle.schedule.proofs.Places.{Admitted, Measured, Moved, Since, Sized, admits, comes, measured, moves, one}
use Rattle.schedule.proofs.Places.{since_admitted, since_moved, sized_admitted, sized_moved}

-- What the laws of a trace say of each row in each step.

-- 1 if a job of row k is admitted in step t
abbrev pub adm : Trace → ℕ → ℕ → ℕ
adm c t k = comes (c.offer t k) (c.place t k)

is_one : (x : Bool) → one x ≡ 1 → x ≡ true
is_one true e = refl
is_one false e = absurd (omega arith)

is_none : (x : Bool) → one x ≡ 0 → x ≡ false
is_none true e = absurd (omega arith)
is_none false e = refl

one-le : (x : Bool) → one x ≤ 1
one-le true = omega arith
one-le false = omega arith

-- who has the resource waits for it
named-waits : (n : ℕ) (before : ℕ → ℕ → Bool) (waits : ℕ → Bool) (o : Option ℕ) (k : ℕ) → Chosen n before waits o → one (names o k) ≤ one (waits k)
named-waits n before waits None k h = omega arith
named-waits n before waits (Some j) k h = go (names (Some j) k) refl
  where
    go : (x : Bool) → names (Some j) k ≡ x → one x ≤ one (waits k)
    go true e = omega (arith, ap one h.1, ap (λ i. one (waits i)) (eqb-true j k e))
    go false e = omega arith

-- what is taken was offered, so nothing was left to rest
rested : (o : Option (ℕ × ℕ)) (s : Slot) (r M C : ℕ) → Within o r M C → takes o s ≡ true → r ≡ 0
rested (Some p) s r M C w e = w.0
rested None Empty r M C w e = absurd (omega (arith, ap one e))
rested None (Loading l c a) r M C w e = absurd (omega (arith, ap one e))
rested None (Computing l a) r M C w e = absurd (omega (arith, ap one e))

module _ {x : Tasks} {m p : ℕ → ℕ → Bool} {distance : ℕ → ℕ} {H : ℕ} {c : Trace} (laws : TwoPhase x m p distance H c) where
  sized : (t k : ℕ) → t ≤ H → k < x.count → Sized (x.load k) (x.compute k) (c.place t k)
  sized zero k h l = rw (laws.starts k l) tt
  sized (suc t) k h l =
      rw (laws.places t k h l)
      (sized_moved (x.load k) (x.compute k) (names (c.memory t) k) (names (c.processor t) k) (held c t k)
      (sized_admitted (x.load k) (x.compute k) (c.rest t k) t (c.offer t k) (c.place t k) (laws.offers t k (omega arith) l)
      (sized t k (omega arith) l)))

  pub held_sized : (t k : ℕ) → t ≤ H → k < x.count → Sized (x.load k) (x.compute k) (held c t k)
  held_sized t k h l =
      sized_admitted (x.load k) (x.compute k) (c.rest t k) t (c.offer t k) (c.place t k) (laws.offers t k h l) (sized t k h l)

  pub measures : (t k : ℕ) → t ≤ H → k < x.count → Measured (x.load k) (x.compute k) (c.place t k)
  measures t k h l = measured (x.load k) (x.compute k) (c.place t k) (sized t k h l)

  pub held_measures : (t k : ℕ) → t ≤ H → k < x.count → Measured (x.load k) (x.compute k) (held c t k)
  held_measures t k h l = measured (x.load k) (x.compute k) (held c t k) (held_sized t k h l)

  -- what the arrivals of a step do, and what service does
  pub enters : (t k : ℕ) → t ≤ H → k < x.count → Admitted (x.load k) (x.compute k) (c.offer t k) (c.place t k) (held c t k)
  enters t k h l = admits (x.load k) (x.compute k) (c.rest t k) t (c.offer t k) (c.place t k) (laws.offers t k h l)

  pub steps : (t k : ℕ) → t < H → k < x.count
      → Moved (x.compute k) (names (c.memory t) k) (names (c.processor t) k) (held c t k) (c.place (suc t) k)
  steps t k h l =
      rw (laws.places t k h l)
      (moves (x.load k) (x.compute k) (names (c.memory t) k) (names (c.processor t) k) (held c t k) (held_sized t k (omega arith) l))

  pub memory_works : (t k : ℕ) → t < H → one (names (c.memory t) k) ≤ one (is_loading (held c t k))
  memory_works t k h = named-waits x.count m (λ i. is_loading (held c t i)) (c.memory t) k (laws.memory t h)

  pub processor_works : (t k : ℕ) → t < H → one (names (c.processor t) k) ≤ one (is_computing (held c t k))
  processor_works t k h = named-waits x.count p (λ i. is_computing (held c t i)) (c.processor t) k (laws.processor t h)

  -- a job that is in the place as step t begins was admitted in step a, and its row has rested since
  pub record CameIn (t k a : ℕ) : Type 0 where
    pub below : a < t
    pub came : adm c a k ≡ 1
    pub rests : distance k ≤ c.rest t k + (t - a)

  came_on : (t k : ℕ) → t < H → k < x.count → Since (CameIn t k) (c.place t k) → Since (CameIn (suc t) k) (held c t k)
  came_on t k h l =
      since_admitted (CameIn t k) (CameIn (suc t) k) t (c.offer t k) (c.place t k)
      (λ e. record { below = omega arith; came = ap one e; rests = omega (arith, laws.taken t k h l e) })
      (λ e a s. record { below = omega (arith, s.below); came = s.came; rests = omega (arith, laws.others t k h l e, s.below, s.rests) })

  pub came_in : (t k : ℕ) → t ≤ H → k < x.count → Since (CameIn t k) (c.place t k)
  came_in zero k h l = rw (laws.starts k l) tt
  came_in (suc t) k h l =
      rw (laws.places t k h l)
      (since_moved (CameIn (suc t) k) (names (c.memory t) k) (names (c.processor t) k) (held c t k) (came_on t k h l (came_in t k (omega arith) l)))

  pub held_came_in : (t k : ℕ) → t < H → k < x.count → Since (CameIn (suc t) k) (held c t k)
  held_came_in t k h l = came_on t k h l (came_in t k (omega arith) l)

  pub came_by_now : (t k : ℕ) → t ≤ H → k < x.count → Since (λ a. a ≤ t) (held c t k)
  came_by_now t k h l =
      since_admitted (CameIn t k) (λ a. a ≤ t) t (c.offer t k) (c.place t k) (λ e. omega arith) (λ e a s. omega (arith, s.below)) (came_in t k h l)

  spaced : (k : ℕ) → k < x.count → Spaced (distance k) H (λ t. adm c t k) (λ t. c.rest t k)
  spaced k l = record {
    once = λ t h. one-le (takes (c.offer t k) (c.place t k));
    rested = λ t h e.
        rested (c.offer t k) (c.place t k) (c.rest t k) (x.load k) (x.compute k) (laws.offers t k (omega arith) l)
        (is_one (takes (c.offer t k) (c.place t k)) e);
    sets = λ t h e. laws.taken t k h l (is_one (takes (c.offer t k) (c.place t k)) e);
    falls = λ t h e. laws.others t k h l (is_none (takes (c.offer t k) (c.place t k)) e);
  }

  pub arrived : {RM RC : ℕ → ℕ} → Solved x m p RM RC → (k : ℕ) → k < x.count → Bounded H (λ t. adm c t k) (λ w. ceil w (x.period k))
  arrived solved k l =
      arrivals (distance k) H (λ t. adm c t k) (λ t. c.rest t k) (spaced k l) (x.period k) (solved.periods k l) (laws.apart k l)
