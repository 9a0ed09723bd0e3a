use Rattle.std.proofs.Common.{◌≡◌, ℕ, ◌+◌, ◌-◌, ◌*◌, ◌≤◌, Bool, true, false, cond, eqb, Some, None, Option, refl, ap, arith}
use Rattle.std.proofs.lemmas.Bool.{eqb-true, eqb-false, cond_both}
use Rattle.schedule.specs.Places.{LivesIn, LoadsIn, Within, Young, admitted, is_computing, is_loading, moved, names, takes}
use Rattle.schedule.specs.Resources.{gets}
use Rattle.schedule.specs.declared.place.Slot.{Slot}
use Rattle.schedule.specs.declared.place.Slot.TheVariants.{Empty, Loading, Computing}

-- What one step does to a place, in numbers.

abbrev pub one : Bool → ℕ
one b = cond b 1 0

-- the steps left on the memory, and on the processor
abbrev pub load_left : Slot → ℕ
load_left Empty = 0
load_left (Loading left compute since) = left
load_left (Computing left since) = 0

abbrev pub compute_left : Slot → ℕ
compute_left Empty = 0
compute_left (Loading left compute since) = 0
compute_left (Computing left since) = left

-- 1 if a job loads; if it loads or computes
abbrev pub loads : Slot → ℕ
loads s = one (is_loading s)

abbrev pub lives : Slot → ℕ
lives Empty = 0
lives (Loading left compute since) = 1
lives (Computing left since) = 1

-- 1 if the place takes a job
abbrev pub comes : Option (ℕ × ℕ) → Slot → ℕ
comes o s = one (takes o s)

-- what a job may still compute: C steps while it loads, then those that are left
abbrev pub budget : ℕ → Slot → ℕ
budget C s = C * loads s + compute_left s

-- Q holds of the step in which the job in the place, if any, was admitted
abbrev pub Since : (ℕ → Type 0) → Slot → Type 0
Since Q Empty = Unit {0}
Since Q (Loading left compute a) = Q a
Since Q (Computing left a) = Q a

-- work is left of a job in the place, and at most M and C
abbrev pub Sized : ℕ → ℕ → Slot → Type 0
Sized M C Empty = Unit {0}
Sized M C (Loading left compute a) = (1 ≤ left) × (left ≤ M) × (1 ≤ compute) × (compute ≤ C)
Sized M C (Computing left a) = (1 ≤ left) × (left ≤ C)

pub gets-one : (o : Option ℕ) (k : ℕ) → gets o k ≡ one (names o k)
gets-one None k = refl
gets-one (Some j) k = refl

-- A place s before its step and z after it, where x says whether the memory serves it and y whether the processor does.
pub record Moved (C : ℕ) (x y : Bool) (s z : Slot) : Type 0 where
  pub load_lasts : load_left s ≤ load_left z + one x
  pub load_falls : one x ≤ load_left s → load_left z + one x ≤ load_left s
  pub compute_lasts : compute_left s ≤ compute_left z + one y
  pub budget_falls : one y ≤ compute_left s → budget C z + one y ≤ budget C s
  pub loads_fall : loads z ≤ loads s
  pub lives_fall : lives z ≤ lives s
  pub stays : loads s ≤ lives z

pub moves : (M C : ℕ) (x y : Bool) (s : Slot) → Sized M C s → Moved C x y s (moved x y s)
moves M C x y Empty h = omega arith
moves M C true y (Loading l c a) h =
    cond_both (eqb l 1) (Computing c a) (Loading (l - 1) c a) (Moved C true y (Loading l c a)) (λ e. omega (arith, eqb-true l 1 e)) (λ e. omega arith)
moves M C false y (Loading l c a) h = omega arith
moves M C x true (Computing l a) h =
    cond_both (eqb l 1) Empty (Computing (l - 1) a) (Moved C x true (Computing l a)) (λ e. omega (arith, eqb-true l 1 e)) (λ e. omega arith)
moves M C x false (Computing l a) h = omega arith

-- A place s before the arrivals of its step and z after them, with the offer o.
pub record Admitted (M C : ℕ) (o : Option (ℕ × ℕ)) (s z : Slot) : Type 0 where
  pub load_lasts : load_left s ≤ load_left z
  pub load_comes : load_left z ≤ load_left s + M * comes o s
  pub compute_lasts : compute_left s ≤ compute_left z
  pub budget_comes : budget C z ≤ budget C s + C * comes o s
  pub loads_come : loads z ≤ loads s + comes o s
  pub lives_come : lives z ≤ lives s + comes o s
  pub alone : lives s + comes o s ≤ 1

pub admits : (M C r t : ℕ) (o : Option (ℕ × ℕ)) (s : Slot) → Within o r M C → Admitted M C o s (admitted t o s)
admits M C r t None Empty h = omega arith
admits M C r t (Some p) Empty h =
    cond_both (eqb p.0 0) (Computing p.1 t) (Loading p.0 p.1 t) (Admitted M C (Some p) Empty) (λ e. omega arith) (λ e. omega arith)
admits M C r t o (Loading l c a) h = omega arith
admits M C r t o (Computing l a) h = omega arith

-- what the sizes of a job tell
pub record Measured (M C : ℕ) (s : Slot) : Type 0 where
  pub load_small : load_left s ≤ M
  pub compute_small : compute_left s ≤ C
  pub load_budget : load_left s ≤ M * loads s
  pub compute_budget : budget C s ≤ C * lives s
  pub loads_live : loads s ≤ lives s
  pub load_works : loads s ≤ load_left s
  pub compute_works : one (is_computing s) ≤ compute_left s

pub measured : (M C : ℕ) (s : Slot) → Sized M C s → Measured M C s
measured M C Empty h = omega arith
measured M C (Loading l c a) h = omega arith
measured M C (Computing l a) h = omega arith

-- who does not wait for a resource has nothing to do on it
pub not_loading : (s : Slot) → is_loading s ≡ false → load_left s ≡ 0
not_loading Empty e = refl
not_loading (Loading l c a) e = absurd (omega (arith, ap one e))
not_loading (Computing l a) e = refl

pub not_computing : (s : Slot) → is_computing s ≡ false → compute_left s ≡ 0
not_computing Empty e = refl
not_computing (Loading l c a) e = refl
not_computing (Computing l a) e = absurd (omega (arith, ap one e))

-- the sizes stay
pub sized_moved : (M C : ℕ) (x y : Bool) (s : Slot) → Sized M C s → Sized M C (moved x y s)
sized_moved M C x y Empty h = tt
sized_moved M C true y (Loading l c a) h =
    cond_both (eqb l 1) (Computing c a) (Loading (l - 1) c a) (Sized M C) (λ e. omega arith) (λ e. omega (arith, eqb-false l 1 e))
sized_moved M C false y (Loading l c a) h = h
sized_moved M C x true (Computing l a) h =
    cond_both (eqb l 1) Empty (Computing (l - 1) a) (Sized M C) (λ e. tt) (λ e. omega (arith, eqb-false l 1 e))
sized_moved M C x false (Computing l a) h = h

pub sized_admitted : (M C r t : ℕ) (o : Option (ℕ × ℕ)) (s : Slot) → Within o r M C → Sized M C s → Sized M C (admitted t o s)
sized_admitted M C r t None Empty w h = tt
sized_admitted M C r t (Some p) Empty w h =
    cond_both (eqb p.0 0) (Computing p.1 t) (Loading p.0 p.1 t) (Sized M C) (λ e. omega arith) (λ e. omega (arith, eqb-false p.0 0 e))
sized_admitted M C r t o (Loading l c a) w h = h
sized_admitted M C r t o (Computing l a) w h = h

-- so does the step of admission
pub since_moved : (Q : ℕ → Type 0) (x y : Bool) (s : Slot) → Since Q s → Since Q (moved x y s)
since_moved Q x y Empty h = tt
since_moved Q true y (Loading l c a) h = cond_both (eqb l 1) (Computing c a) (Loading (l - 1) c a) (Since Q) (λ e. h) (λ e. h)
since_moved Q false y (Loading l c a) h = h
since_moved Q x true (Computing l a) h = cond_both (eqb l 1) Empty (Computing (l - 1) a) (Since Q) (λ e. tt) (λ e. h)
since_moved Q x false (Computing l a) h = h

pub since_admitted : (Q R : ℕ → Type 0) (t : ℕ) (o : Option (ℕ × ℕ)) (s : Slot)
    → (takes o s ≡ true → R t) → (takes o s ≡ false → (a : ℕ) → Q a → R a) → Since Q s → Since R (admitted t o s)
since_admitted Q R t None Empty new on h = tt
since_admitted Q R t (Some p) Empty new on h =
    cond_both (eqb p.0 0) (Computing p.1 t) (Loading p.0 p.1 t) (Since R) (λ e. new refl) (λ e. new refl)
since_admitted Q R t o (Loading l c a) new on h = on refl a h
since_admitted Q R t o (Computing l a) new on h = on refl a h

-- a job in the place has a step of admission, of which all that is said holds
pub the_step : (P Q : ℕ → Type 0) (s : Slot) → 1 ≤ lives s → Since P s → Since Q s → (a : ℕ) × P a × Q a
the_step P Q Empty o p q = absurd (omega arith)
the_step P Q (Loading l c a) o p q = (a, p, q)
the_step P Q (Computing l a) o p q = (a, p, q)

-- the bounds on ages, said of the step of admission
pub loads-young : (R t : ℕ) (s : Slot) → LoadsIn R t s → 1 ≤ loads s → Since (Young R t) s
loads-young R t Empty h o = tt
loads-young R t (Loading l c a) h o = h
loads-young R t (Computing l a) h o = absurd (omega arith)

pub lives-young : (R t : ℕ) (s : Slot) → LivesIn R t s → Since (Young R t) s
lives-young R t Empty h = tt
lives-young R t (Loading l c a) h = h
lives-young R t (Computing l a) h = h

-- who is in the place before the arrivals is there after them
pub loads-before : (R t u : ℕ) (o : Option (ℕ × ℕ)) (s : Slot) → LoadsIn R t (admitted u o s) → LoadsIn R t s
loads-before R t u o Empty h = tt
loads-before R t u o (Loading l c a) h = h
loads-before R t u o (Computing l a) h = tt

pub lives-before : (R t u : ℕ) (o : Option (ℕ × ℕ)) (s : Slot) → LivesIn R t (admitted u o s) → LivesIn R t s
lives-before R t u o Empty h = tt
lives-before R t u o (Loading l c a) h = h
lives-before R t u o (Computing l a) h = h
