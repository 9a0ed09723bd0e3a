use Rattle.std.specs.Prelude.{◌≡◌, ℕ, ◌-◌, max, cond, Some, None, Ok, Err, Option, Result, ◌==◌}
use Rattle.std.proofs.Common.{lit≤, arith}
use Rattle.std.proofs.lemmas.Bool.{cond_both, eqb-true}
use Rattle.feeds.specs.Meanings.{Advanced, Offered, Taken, View}
use Rattle.feeds.specs.declared.fault.SettingFault.{SettingFault}
use Rattle.feeds.specs.PerMarks.{OthersKept, at_mark}
use Rattle.layers.specs.declared.gate.Gate.{Gate}
use Rattle.layers.specs.declared.gate.Spacing.{Spacing}

-- the spacing of a mark that was never set
abbrev pub fresh : Spacing
fresh = record { distance = record { steps = 1; range = (lit≤ tt, lit≤ tt) }; rest = 0 }

-- the gate's own spacing at mark k
abbrev pub spacing : {F : Type 0} → Gate F → ℕ → Spacing
spacing x = at_mark fresh x.spacings

-- a spacing has distance d and rest r
pub record Spaced (e : Spacing) (d r : ℕ) : Type 0 where
  pub distance : e.distance.steps ≡ d
  pub rest : e.rest ≡ r

-- the same spacing one step later
abbrev pub spacing_later : Spacing → Spacing
spacing_later e = record { distance = e.distance; rest = e.rest - 1 }

-- f is e one step later
abbrev pub Lowered : Spacing → Spacing → Type 0
Lowered e f = Spaced f e.distance.steps (e.rest - 1)

-- a new gate stands open over f
pub record GateMade {F : Type 0} (f : F) (y : Gate F) : Type 0 where
  pub below : y.below ≡ f
  pub spacings : (k : ℕ) → Spaced (spacing y k) 1 0

-- setting the distance of mark k leaves its rest, and every other mark
pub record DistanceSet {F : Type 0} (x : Gate F) (k distance : ℕ) (y : Gate F) : Type 0 where
  pub below : y.below ≡ x.below
  pub here : Spaced (spacing y k) distance (spacing x k).rest
  pub others : OthersKept fresh x.spacings k y.spacings

-- a distance is set, or nothing is altered
abbrev pub GateSet : {F : Type 0} → Gate F → ℕ → ℕ → Result Unit SettingFault → Gate F → Type 0
GateSet x k distance (Ok _) y = DistanceSet x k distance y
GateSet x k distance (Err _) y = y ≡ x

-- at rest 0 a gate lets through what is below, otherwise nothing
abbrev pub passed : ℕ → Option (ℕ × ℕ) → Option (ℕ × ℕ)
passed rest o = cond (rest == 0) o None

-- what comes through keeps to the greater rest
pub passed-offered : (own : ℕ) (o : Option (ℕ × ℕ)) (rest memory processor : ℕ) → Offered o rest memory processor →
    Offered (passed own o) (max own rest) memory processor
passed-offered own None rest memory processor h =
    cond_both (own == 0) None None (λ o. Offered o (max own rest) memory processor) (λ z. tt) (λ z. tt)
passed-offered own (Some p) rest memory processor h =
    cond_both (own == 0) (Some p) None (λ o. Offered o (max own rest) memory processor)
    (λ z. (omega (arith, eqb-true own 0 z, h.0), h.1, h.2, h.3)) (λ z. tt)

-- what spacings show over what is below: the greater distance and the greater rest
abbrev pub gated : (ℕ → Spacing) → View → View
gated e v = record {
  distance = λ k. max (e k).distance.steps (v.distance k);
  memory = v.memory;
  processor = v.processor;
  rest = λ k. max (e k).rest (v.rest k);
  offer = λ k. passed (e k).rest (v.offer k);
  distances = λ k. (omega (arith, v.distances k), omega (arith, v.distances k, (e k).distance.range));
  memories = v.memories;
  processors = v.processors;
  offers = λ k. passed-offered (e k).rest (v.offer k) (v.rest k) (v.memory k) (v.processor k) (v.offers k);
}

-- what a gate shows, where `view` tells what is below
abbrev pub gate_view : {F : Type 0} → (F → View) → Gate F → View
gate_view view x = gated (spacing x) (view x.below)

-- Taking an arrival p at mark k takes it below too, and rests the gate for its own distance there; the other marks keep
-- their spacing.
pub record PassageTaken {F : Type 0} (view : F → View) (x : Gate F) (k : ℕ) (p : ℕ × ℕ) (y : Gate F) : Type 0 where
  pub below : Taken (view x.below) k (Some p) (view y.below)
  pub here : Spaced (spacing y k) (spacing x k).distance.steps (spacing x k).distance.steps
  pub others : OthersKept fresh x.spacings k y.spacings

-- an arrival is taken, or nothing is altered
abbrev pub GateTaken : {F : Type 0} → (F → View) → Gate F → ℕ → Option (ℕ × ℕ) → Gate F → Type 0
GateTaken view x k None y = y ≡ x
GateTaken view x k (Some p) y = PassageTaken view x k p y

-- the gate and what is below go on by one step
pub record GateAdvanced {F : Type 0} (view : F → View) (x y : Gate F) : Type 0 where
  pub below : Advanced (view x.below) (view y.below)
  pub spacings : (k : ℕ) → Lowered (spacing x k) (spacing y k)
