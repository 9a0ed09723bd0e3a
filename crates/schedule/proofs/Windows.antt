use Rattle.std.proofs.Common.{◌≡◌, ℕ, zero, suc, ◌+◌, ◌*◌, ◌<◌, ◌≤◌, refl, ap, inl, inr, add-zero, add-suc, arith}
use Rattle.std.proofs.lemmas.Bool.{cases_lt}
use Rattle.schedule.specs.Windows.{sum, window}

-- The laws of sums over steps and over rows.

pub sum-le : (f g : ℕ → ℕ) (n : ℕ) → ((i : ℕ) → i < n → f i ≤ g i) → sum f n ≤ sum g n
sum-le f g zero h = omega arith
sum-le f g (suc n) h = omega (arith, h n (omega arith), sum-le f g n (λ i l. h i (omega arith)))

pub sum-const : (c n : ℕ) → sum (λ i. c) n ≡ n * c
sum-const c zero = omega arith
sum-const c (suc n) = omega (arith, sum-const c n)

pub sum-add : (f g : ℕ → ℕ) (n : ℕ) → sum (λ i. f i + g i) n ≡ sum f n + sum g n
sum-add f g zero = refl
sum-add f g (suc n) = omega (arith, sum-add f g n)

pub sum-mul : (c : ℕ) (f : ℕ → ℕ) (n : ℕ) → sum (λ i. c * f i) n ≡ c * sum f n
sum-mul c f zero = omega arith
sum-mul c f (suc n) = omega (arith, sum-mul c f n)

pub sum-swap : (f : ℕ → ℕ → ℕ) (w n : ℕ) → sum (λ x. sum (f x) n) w ≡ sum (λ i. sum (λ x. f x i) w) n
sum-swap f zero n = omega (arith, sum-const 0 n)
sum-swap f (suc w) n = omega (arith, sum-swap f w n, sum-add (λ i. sum (λ x. f x i) w) (f w) n)

-- no term is more than the sum
pub term_le : (f : ℕ → ℕ) (n i : ℕ) → i < n → f i ≤ sum f n
term_le f zero i h = omega arith
term_le f (suc n) i h =
    elim (cases_lt i n) [ inl l ↦ omega (arith, term_le f n i l) | inr l ↦ let e : i ≡ n = omega arith in omega (arith, ap f e) ]

-- a sum that is not 0 has a term that is not 0
pub some-term : (f : ℕ → ℕ) (n : ℕ) → 1 ≤ sum f n → (i : ℕ) × (i < n) × (1 ≤ f i)
some-term f zero h = (0, omega arith, omega arith)
some-term f (suc n) h =
    elim (cases_lt 0 (f n)) [
      | inl l ↦ (n, omega arith, l)
      | inr l ↦ let r : (i : ℕ) × (i < n) × (1 ≤ f i) = some-term f n (omega arith) in (r.0, omega arith, r.2)
    ]

-- more terms, no smaller sum
pub sum-rises : (f : ℕ → ℕ) (n m : ℕ) → n ≤ m → sum f n ≤ sum f m
sum-rises f n zero h = let e : n ≡ 0 = omega arith in omega (arith, ap (sum f) e)
sum-rises f n (suc m) h =
    elim (cases_lt n (suc m)) [
      | inl l ↦ omega (arith, sum-rises f n m (omega arith))
      | inr l ↦ let e : n ≡ suc m = omega arith in omega (arith, ap (sum f) e)
    ]

-- a window is the difference of two sums from the first step
pub sum-split : (f : ℕ → ℕ) (b w : ℕ) → sum f (b + w) ≡ sum f b + window f b w
sum-split f b zero = rw (add-zero b) (omega arith)
sum-split f b (suc w) = rw (add-suc b w) (omega (arith, sum-split f b w))
