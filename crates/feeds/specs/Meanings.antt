use Rattle.std.specs.Prelude.{◌≡◌, ℕ, ◌-◌, ◌≤◌, true, is_some, Some, None, Option, ◌≢◌}

-- an offer (m, c) comes only at rest 0, with m within the memory ceiling and c from 1 to the processor ceiling
abbrev pub Offered : Option (ℕ × ℕ) → ℕ → ℕ → ℕ → Type 0
Offered None rest memory processor = Unit {0}
Offered (Some p) rest memory processor = (rest ≡ 0) × (p.0 ≤ memory) × (1 ≤ p.1) × (p.1 ≤ processor)

-- what a feed shows at a moment, at each mark, and what holds of all that feeds show
pub record View : Type 0 where
  pub distance : ℕ → ℕ
  pub memory : ℕ → ℕ
  pub processor : ℕ → ℕ
  pub rest : ℕ → ℕ
  pub offer : ℕ → Option (ℕ × ℕ)
  pub distances : (k : ℕ) → (1 ≤ distance k) × (distance k ≤ 1000000)
  pub memories : (k : ℕ) → memory k ≤ 1000000
  pub processors : (k : ℕ) → (1 ≤ processor k) × (processor k ≤ 1000000)
  pub offers : (k : ℕ) → Offered (offer k) (rest k) (memory k) (processor k)

-- the pledge of w is that of v
pub record SamePledge (v w : View) : Type 0 where
  pub distance : (j : ℕ) → w.distance j ≡ v.distance j
  pub memory : (j : ℕ) → w.memory j ≡ v.memory j
  pub processor : (j : ℕ) → w.processor j ≡ v.processor j

-- Taking at mark k shows v before and w after: the answer is the offer, which rests the mark for its distance; the other
-- marks keep rest and offer.
pub record Taken (v : View) (k : ℕ) (r : Option (ℕ × ℕ)) (w : View) : Type 0 where
  pub answered : r ≡ v.offer k
  pub rested : is_some (v.offer k) ≡ true → w.rest k ≡ v.distance k
  pub others : (j : ℕ) → (j ≢ k) → (w.rest j ≡ v.rest j) × (w.offer j ≡ v.offer j)
  pub kept : SamePledge v w

-- Advancing shows v before and w after: every rest above 0 is lowered by one. What is offered then is free.
pub record Advanced (v w : View) : Type 0 where
  pub rested : (j : ℕ) → w.rest j ≡ v.rest j - 1
  pub kept : SamePledge v w
