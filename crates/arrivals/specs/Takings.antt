use Rattle.std.specs.Prelude.{◌≡◌, ℕ, zero, suc, ◌<◌, ◌≤◌, true, List, [], ◌∷◌, ◌++◌, length, is_some, Some, None, Option}
use Rattle.feeds.specs.Meanings.{Advanced, SamePledge, View}
use Rattle.layers.specs.Gates.{Spaced, spacing}
use Rattle.layers.specs.declared.gate.Gate.{Gate}
use Rattle.arrivals.specs.declared.takings.Taking.{Taking}

-- a gate over f that is open and has distance d at every mark
pub record GateOver {F : Type 0} (f : F) (d : ℕ) (y : Gate F) : Type 0 where
  pub below : y.below ≡ f
  pub spacings : (k : ℕ) → k < 32 → Spaced (spacing y k) d 0

-- what an offer at mark k gives in step t: the arrival that is taken, or nothing
abbrev pub taking_of : ℕ → ℕ → Option (ℕ × ℕ) → List Taking
taking_of t k None = []
taking_of t k (Some p) = record { step = t; mark = k; memory = p.0; processor = p.1 } ∷ []

-- what is taken in step t at the marks below k, from 0 upward, where `offer` tells what is offered as the step starts
unfoldable pub takings_below : ℕ → (ℕ → Option (ℕ × ℕ)) → ℕ → List Taking
takings_below t offer zero = []
takings_below t offer (suc k) = takings_below t offer k ++ taking_of t k (offer k)

-- Once the offers at the marks below n are taken, v has become w: where there was one, the mark rests for its distance; every
-- other mark keeps rest and offer.
pub record TakenBelow (n : ℕ) (v w : View) : Type 0 where
  pub rested : (k : ℕ) → k < n → is_some (v.offer k) ≡ true → w.rest k ≡ v.distance k
  pub idle : (k : ℕ) → k < n → v.offer k ≡ None → (w.rest k ≡ v.rest k) × (w.offer k ≡ None)
  pub later : (k : ℕ) → n ≤ k → (w.rest k ≡ v.rest k) × (w.offer k ≡ v.offer k)
  pub kept : SamePledge v w

abbrev pub StepTaken : View → View → Type 0
StepTaken v w = TakenBelow 32 v w

-- In step t, with fewer than `wanted` arrivals taken before it, whatever is offered is taken, and then the feed goes on by a
-- step. It shows v as the step starts and w as the next one does.
pub record StepMade (wanted t : ℕ) (v : View) (before : List Taking) (ts : List Taking) (w : View) : Type 0 where
  pub few : length before < wanted
  pub between : View
  pub taken : StepTaken v between
  pub listed : ts ≡ before ++ takings_below t v.offer 32
  pub advanced : Advanced between w

-- From v such steps were made, t of them from step 0 on; the arrivals ts were taken in them, and w is what is shown then.
unfoldable pub Runs : ℕ → View → ℕ → List Taking → View → Type 0
Runs wanted v zero ts w = (ts ≡ []) × (w ≡ v)
Runs wanted v (suc t) ts w =
    (before : List Taking) × ((u : View) × (Runs wanted v t before u × StepMade wanted t u before ts w))

-- the steps end with the one in which as many as wanted are taken, or after 1,000,000 of them
pub record Journal (wanted : ℕ) (v : View) (ts : List Taking) (w : View) : Type 0 where
  pub steps : ℕ
  pub runs : Runs wanted v steps ts w
  pub most : steps ≤ 1000000
  pub ended : steps < 1000000 → wanted ≤ length ts
