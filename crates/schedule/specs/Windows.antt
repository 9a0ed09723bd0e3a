use Rattle.std.specs.Prelude.{ℕ, zero, suc, ◌+◌, ◌≤◌, Bool, cond}

-- f 0 + f 1 + .. + f (n - 1)
abbrev pub sum : (ℕ → ℕ) → ℕ → ℕ
sum f zero = 0
sum f (suc n) = sum f n + f n

-- f over a window: the w consecutive steps that begin with step b
abbrev pub window : (ℕ → ℕ) → ℕ → ℕ → ℕ
window f b w = sum (λ x. f (b + x)) w

-- f over the rows below n that go before row k
abbrev pub sum_before : (ℕ → ℕ → Bool) → ℕ → (ℕ → ℕ) → ℕ → ℕ
sum_before before k f n = sum (λ i. cond (before i k) (f i) 0) n

-- in any w consecutive steps below the horizon H, f comes to at most α w
abbrev pub Bounded : ℕ → (ℕ → ℕ) → (ℕ → ℕ) → Type 0
Bounded H f α = (b w : ℕ) → b + w ≤ H → window f b w ≤ α w
