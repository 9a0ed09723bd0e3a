use Rattle.std.proofs.Common.{◌≡◌, ℕ, zero, suc, ◌+◌, ◌-◌, ◌<◌, ◌≤◌, inl, inr, add-zero, add-suc, arith}
use Rattle.std.proofs.lemmas.Bool.{cases_lt}
use Rattle.schedule.specs.Arrivals.{Passes}
use Rattle.schedule.specs.Windows.{window}
use Rattle.schedule.proofs.Windows.{sum-rises, term_le}

-- A stage through which jobs pass one at a time, told by who is inside alone.

-- how many leave for step t
abbrev pub leaves : (ℕ → ℕ) → (ℕ → ℕ) → ℕ → ℕ
leaves adm inside t = inside t + adm t - inside (suc t)

-- whoever is inside as step t begins was admitted at most J steps before
pub record Stage (J H : ℕ) (adm inside : ℕ → ℕ) : Type 0 where
  pub starts : inside 0 ≡ 0
  pub grows : (t : ℕ) → t < H → inside (suc t) ≤ inside t + adm t
  pub alone : (t : ℕ) → t < H → inside t + adm t ≤ 1
  pub young : (t : ℕ) → t ≤ H → 1 ≤ inside t → (a : ℕ) × (a < t) × (adm a ≡ 1) × (t ≤ a + J)

module _ {J H : ℕ} {adm inside : ℕ → ℕ} (stage : Stage J H adm inside) where
  -- while none leaves, all that come stay
  stay : (a w : ℕ) → a + w ≤ H → window (leaves adm inside) a w ≡ 0 → inside (a + w) ≡ inside a + window adm a w
  stay a zero h z = rw (add-zero a) (omega arith)
  stay a (suc w) h z = rw (add-suc a w) (omega (arith, stay a w (omega arith) (omega arith), stage.grows (a + w) (omega arith)))

  first_stays : (a w : ℕ) → a + suc w ≤ H → adm a ≡ 1 → window (leaves adm inside) a (suc w) ≡ 0 → 1 ≤ inside (a + suc w)
  first_stays a w h e z =
      let l = term_le (λ x. adm (a + x)) (suc w) 0 (omega arith) in
      omega (arith, stay a (suc w) h z, rw (add-zero a) at l)

  -- who has not left in w steps is the one inside, and so was admitted at most J steps before
  in_time : (a w : ℕ) → a + w ≤ H → adm a ≡ 1 → window (leaves adm inside) a w ≡ 0 → w ≤ J
  in_time a zero h e z = omega arith
  in_time a (suc w) h e z =
      let (s, below, came, in_reach) = stage.young (a + suc w) h (first_stays a w h e z) in
      elim (cases_lt a s) [
        | inl l ↦
            let v : ℕ = s - suc a in
            let is : a + suc v ≡ s = omega arith in
            let none : window (leaves adm inside) a (suc v) ≡ 0 = omega (arith, sum-rises (λ x. leaves adm inside (a + x)) (suc v) (suc w) (omega arith)) in
            let two = first_stays a v (omega arith) e none in
            absurd (omega (arith, stage.alone s (omega arith), rw is at two))
        | inr l ↦ omega arith
      ]

  pub passes : Passes J H adm (leaves adm inside) inside
  passes = record {
    starts = stage.starts;
    goes_on = λ t h. omega (arith, stage.grows t h);
    alone = stage.alone;
    in_time = in_time;
  }
