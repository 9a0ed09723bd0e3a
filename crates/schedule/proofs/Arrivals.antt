use Rattle.std.proofs.Common.{◌≡◌, ℕ, zero, suc, ◌+◌, ◌-◌, ◌*◌, ◌<◌, ◌≤◌, min, ap, inl, inr, add-zero, add-suc, mul-le-mul_left, le-div_iff_mul-le, arith}
use Rattle.std.proofs.lemmas.Bool.{cases_lt}
use Rattle.rating.specs.Quotients.{ceil, ceil-rises}
use Rattle.schedule.specs.Arrivals.{Delayed, Passes, Served, Spaced}
use Rattle.schedule.specs.Windows.{Bounded, sum, window}
use Rattle.schedule.proofs.Windows.{sum-le, sum-mul, sum-rises, sum-split}

-- How often jobs come, in any window of steps, and how much of a resource they take.

module _ (d H : ℕ) (adm rest : ℕ → ℕ) (spaced : Spaced d H adm rest) (T : ℕ) (one : 1 ≤ T) (le : T ≤ d) where
  -- each job takes T steps; those of the last that lie behind the window are within its rest
  covers : (b w : ℕ) → b + w ≤ H → window adm b w * T ≤ w + min (rest (b + w)) (T - 1)
  covers b zero h = omega arith
  covers b (suc w) h =
      let so_far = covers b w (omega arith) in
      let l : b + w < H = omega arith in
      rw (add-suc b w)
      (elim (cases_lt (adm (b + w)) 1) [
        | inl y ↦ let e : adm (b + w) ≡ 0 = omega arith in rw e (omega (arith, so_far, spaced.falls (b + w) l e))
        | inr y ↦
            let e : adm (b + w) ≡ 1 = omega (arith, spaced.once (b + w) l) in
            rw e (omega (arith, so_far, spaced.rested (b + w) l e, spaced.sets (b + w) l e))
      ])

  pub arrivals : Bounded H adm (λ w. ceil w T)
  arrivals b w h = (le-div_iff_mul-le one).1 (omega (arith, covers b w h))

-- what comes brings at most C units of work each
pub demand : (H C : ℕ) (comes fresh α : ℕ → ℕ) → Bounded H comes α → ((t : ℕ) → t < H → fresh t ≤ C * comes t) → Bounded H fresh (λ w. C * α w)
demand H C comes fresh α bound brings b w h =
    omega (
      arith,
      sum-le (λ x. fresh (b + x)) (λ x. C * comes (b + x)) w (λ x l. brings (b + x) (omega arith)),
      sum-mul C (λ x. comes (b + x)) w,
      mul-le-mul_left C (bound b w h),
    )

module _ (J H : ℕ) (adm out inside : ℕ → ℕ) (passes : Passes J H adm out inside) where
  -- who was admitted is inside or out
  balance : (x : ℕ) → x ≤ H → inside x + sum out x ≡ sum adm x
  balance zero h = omega (arith, passes.starts)
  balance (suc x) h = omega (arith, balance x (omega arith), passes.goes_on x h)

  leaves_in_time : (a : ℕ) → adm a ≡ 1 → a + suc J ≤ H → 1 ≤ window out a (suc J)
  leaves_in_time a e h =
      elim (cases_lt 0 (window out a (suc J))) [
        | inl l ↦ l
        | inr l ↦ absurd (omega (arith, passes.in_time a (suc J) h e (omega arith)))
      ]

  -- what was admitted J steps ago is out
  caught_up : (x : ℕ) → x + J ≤ H → sum adm x ≤ sum out (x + J)
  caught_up zero h = omega arith
  caught_up (suc x) h =
      let alone = passes.alone x (omega arith) in
      let q : suc x + J ≡ x + suc J = omega arith in
      elim (cases_lt (adm x) 1) [
        | inl y ↦ omega (arith, caught_up x (omega arith), sum-rises out (x + J) (suc x + J) (omega arith))
        | inr y ↦
            omega (
              arith,
              leaves_in_time x (omega (arith, alone)) (omega arith),
              balance x (omega arith),
              alone,
              sum-split out x (suc J),
              ap (sum out) q,
            )
      ]

  long_ago : (b : ℕ) → b ≤ H → sum adm (b - J) ≤ sum out b
  long_ago b h =
      elim (cases_lt b J) [
        | inl l ↦ let e : b - J ≡ 0 = omega arith in omega (arith, ap (sum adm) e)
        | inr l ↦ let e : b - J + J ≡ b = omega arith in omega (arith, caught_up (b - J) (omega arith), ap (sum out) e)
      ]

  module _ (T : ℕ) (one : 1 ≤ T) (bound : Bounded H adm (λ w. ceil w T)) where
    -- who is inside in the course of a window was admitted in it, or in the J steps before it
    in_window : (b w : ℕ) → b + w ≤ H → inside b + window adm b w ≤ ceil (w + J) T
    in_window b w h =
        let v : ℕ = b + w - (b - J) in
        let e : b - J + v ≡ b + w = omega arith in
        omega (
          arith,
          long_ago b (omega arith),
          balance b (omega arith),
          sum-split adm b w,
          sum-split adm (b - J) v,
          ap (sum adm) e,
          bound (b - J) v (omega arith),
          ceil-rises v (w + J) T (omega arith),
        )

    pub out_bounded : Bounded H out (λ w. ceil (w + J) T)
    out_bounded b w h = omega (arith, in_window b w h, balance b (omega arith), balance (b + w) h, sum-split adm b w, sum-split out b w)

    pub jitter : (C : ℕ) (fresh : ℕ → ℕ) → Delayed J H T C out fresh
    jitter C fresh = record { jobs = out_bounded; work = demand H C out fresh (λ w. ceil (w + J) T) out_bounded }

module _ (E Q H : ℕ) (adm out inside served budget : ℕ → ℕ) (some : 1 ≤ Q)
    (passes : Passes (Q - 1) H adm out inside) (keeps : Served E H adm inside served budget) where
  -- service is paid for by what was left of the budgets and by those that came
  paid : (b w : ℕ) → b + w ≤ H → budget (b + w) + window served b w ≤ budget b + E * window adm b w
  paid b zero h = rw (add-zero b) (omega arith)
  paid b (suc w) h = rw (add-suc b w) (omega (arith, paid b w (omega arith), keeps.goes_on (b + w) (omega arith)))

  pub share : (T : ℕ) → 1 ≤ T → Bounded H adm (λ w. ceil w T) → (b L : ℕ) → 1 ≤ L → b + L ≤ H → window served b L ≤ E * ceil (L + Q - 1) T
  share T one bound b L more h =
      let e : L + Q - 1 ≡ L + (Q - 1) = omega arith in
      let jobs = in_window (Q - 1) H adm out inside passes T one bound b L h in
      rw e (omega (arith, paid b L h, keeps.within b (omega arith), mul-le-mul_left E jobs))
