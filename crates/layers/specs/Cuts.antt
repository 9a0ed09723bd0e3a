use Rattle.std.specs.Prelude.{◌≡◌, ℕ, min, Some, None, Ok, Err, Option, Result}
use Rattle.std.proofs.Common.{lit≤, arith}
use Rattle.feeds.specs.Meanings.{Advanced, Offered, Taken, View}
use Rattle.feeds.specs.PerMarks.{OthersKept, at_mark}
use Rattle.layers.specs.declared.cutoff.CutOff.{CutOff}
use Rattle.feeds.specs.declared.fault.SettingFault.{SettingFault}
use Rattle.feeds.specs.declared.terms.Ceilings.{Ceilings}

-- the cut of a mark that was never set
abbrev pub uncut : Ceilings
uncut = record { memory = 1000000; processor = 1000000; memories = lit≤ tt; processors = (lit≤ tt, lit≤ tt) }

-- the cut-off's own cut at mark k
abbrev pub cut : {F : Type 0} → CutOff F → ℕ → Ceilings
cut x = at_mark uncut x.cuts

-- a cut has the ceilings m and c
pub record Capped (e : Ceilings) (m c : ℕ) : Type 0 where
  pub memory : e.memory ≡ m
  pub processor : e.processor ≡ c

-- a new cut-off cuts nothing of f
pub record CutOffMade {F : Type 0} (f : F) (y : CutOff F) : Type 0 where
  pub below : y.below ≡ f
  pub cuts : (k : ℕ) → Capped (cut y k) 1000000 1000000

-- setting the ceilings of mark k leaves every other mark
pub record CeilingsSet {F : Type 0} (x : CutOff F) (k memory processor : ℕ) (y : CutOff F) : Type 0 where
  pub below : y.below ≡ x.below
  pub here : Capped (cut y k) memory processor
  pub others : OthersKept uncut x.cuts k y.cuts

-- ceilings are set, or nothing is altered
abbrev pub CutOffSet : {F : Type 0} → CutOff F → ℕ → ℕ → ℕ → Result Unit SettingFault → CutOff F → Type 0
CutOffSet x k memory processor (Ok _) y = CeilingsSet x k memory processor y
CutOffSet x k memory processor (Err _) y = y ≡ x

-- what a cut leaves of an offer: the smaller figures
abbrev pub trimmed : Ceilings → Option (ℕ × ℕ) → Option (ℕ × ℕ)
trimmed e None = None
trimmed e (Some p) = Some (min e.memory p.0, min e.processor p.1)

-- what is left keeps to the smaller ceilings
pub trimmed-offered : (e : Ceilings) (o : Option (ℕ × ℕ)) (rest memory processor : ℕ) → Offered o rest memory processor →
    Offered (trimmed e o) rest (min e.memory memory) (min e.processor processor)
trimmed-offered e None rest memory processor h = tt
trimmed-offered e (Some p) rest memory processor h =
    (h.0, omega (arith, h.1), omega (arith, h.2, e.processors), omega (arith, h.3))

-- what cuts show over what is below: the smaller figures and the smaller ceilings
abbrev pub trimming : (ℕ → Ceilings) → View → View
trimming e v = record {
  distance = v.distance;
  memory = λ k. min (e k).memory (v.memory k);
  processor = λ k. min (e k).processor (v.processor k);
  rest = v.rest;
  offer = λ k. trimmed (e k) (v.offer k);
  distances = v.distances;
  memories = λ k. omega (arith, v.memories k);
  processors = λ k. (omega (arith, v.processors k, (e k).processors), omega (arith, v.processors k));
  offers = λ k. trimmed-offered (e k) (v.offer k) (v.rest k) (v.memory k) (v.processor k) (v.offers k);
}

-- what a cut-off shows, where `view` tells what is below
abbrev pub cut_off_view : {F : Type 0} → (F → View) → CutOff F → View
cut_off_view view x = trimming (cut x) (view x.below)

-- taking at mark k takes the offer below, and leaves the cuts
pub record CutOffTaken {F : Type 0} (view : F → View) (x : CutOff F) (k : ℕ) (y : CutOff F) : Type 0 where
  pub below : Taken (view x.below) k ((view x.below).offer k) (view y.below)
  pub cuts : y.cuts ≡ x.cuts

-- what is below goes on by one step, and the cuts are left
pub record CutOffAdvanced {F : Type 0} (view : F → View) (x y : CutOff F) : Type 0 where
  pub below : Advanced (view x.below) (view y.below)
  pub cuts : y.cuts ≡ x.cuts
