use Rattle.std.proofs.Common.{◌≡◌, ℕ, zero, suc, ◌+◌, ◌-◌, ◌<◌, ◌≤◌, Bool, true, false, cond, eqb, ◌⊎◌, Some, None, Option, refl, ap, inl, inr, add-zero, add-suc, arith}
use Rattle.std.proofs.lemmas.Bool.{cases_lt, cases_Bool, eq-eqb, ne_eqb, eqb-true, both_ways}
use Rattle.schedule.specs.Resources.{Priority, Service, Unfinished, done, gets}
use Rattle.schedule.specs.Windows.{Bounded, sum, sum_before, window}
use Rattle.schedule.proofs.Windows.{some-term, sum-add, sum-const, sum-le, sum-rises, sum-split, sum-swap, term_le}

-- How long a job waits for a resource that serves rows in a fixed order.

-- a term of a sum over the rows before k that is not 0
kept : (b : Bool) (x : ℕ) → 1 ≤ cond b x 0 → (b ≡ true) × (1 ≤ x)
kept true x h = (refl, h)
kept false x h = absurd (omega arith)

before-le : (before : ℕ → ℕ → Bool) (k : ℕ) (f : ℕ → ℕ) (n i : ℕ) → i < n → before i k ≡ true → f i ≤ sum_before before k f n
before-le before k f n i l e = let h = term_le (λ j. cond (before j k) (f j) 0) n i l in rw e at h

module _ (n H : ℕ) (before : ℕ → ℕ → Bool) (backlog fresh : ℕ → ℕ → ℕ) (held : ℕ → Option ℕ)
    (order : Priority n before) (service : Service n before H backlog fresh held) where
  -- what is done was there to do
  done_le : (t i : ℕ) → t < H → done held t i ≤ backlog t i
  done_le t i h = go (held t) refl
    where
      go : (o : Option ℕ) → held t ≡ o → gets o i ≤ backlog t i
      go None e = omega arith
      go (Some j) e =
          elim (cases_Bool (eqb j i)) [
            | inl y ↦ rw y (omega (arith, service.has_work t j h e, ap (backlog t) (eqb-true j i y)))
            | inr y ↦ rw y (omega arith)
          ]

  -- what is left and what is done was there or came
  conserved : (i b w : ℕ) → i < n → b + w < H
      → backlog (b + w) i + window (λ t. done held t i) b w + fresh b i ≡ backlog b i + window (λ t. fresh t i) b (suc w)
  conserved i b zero l h = rw (add-zero b) (omega arith)
  conserved i b (suc w) l h =
      rw (add-suc b w) (omega (arith, conserved i b w l (omega arith), service.goes_on (b + w) i l (omega arith)))

  -- from a step in which all backlog is fresh no more is done than comes
  done_le_fresh : (i b w : ℕ) → i < n → b + w ≤ H → backlog b i ≡ fresh b i
      → window (λ t. done held t i) b w ≤ window (λ t. fresh t i) b w
  done_le_fresh i b zero l h e = omega arith
  done_le_fresh i b (suc w) l h e = omega (arith, conserved i b w l (omega arith), done_le (b + w) i (omega arith))

  -- while row j has work, it or a row before it is served
  holder : (t j : ℕ) → t < H → j < n → 1 ≤ backlog t j → (i : ℕ) × (held t ≡ Some i) × ((i ≡ j) ⊎ (before i j ≡ true))
  holder t j h l b = go (held t) refl
    where
      first : (i : ℕ) → held t ≡ Some i → (i ≡ j) ⊎ (before i j ≡ true)
      first i e =
          elim (order.total i j (service.is_row t i h e) l) [
            | inl y ↦ inr y
            | inr o ↦ elim o [ inl y ↦ inl y | inr y ↦ absurd (service.is_first t i j h e l b y) ]
          ]

      go : (o : Option ℕ) → held t ≡ o → (i : ℕ) × (held t ≡ Some i) × ((i ≡ j) ⊎ (before i j ≡ true))
      go None e = absurd (omega (arith, service.is_idle t j h e l))
      go (Some i) e = (i, e, first i e)

  module _ (k : ℕ) (below : k < n) where
    -- in each step from b on and below f a row before k has work
    abbrev Busy : ℕ → ℕ → Type 0
    Busy b f = (t : ℕ) → b ≤ t → t < f → 1 ≤ sum_before before k (backlog t) n

    -- the rows before k have nothing from before step b
    abbrev Quiet : ℕ → Type 0
    Quiet b = b < H → (i : ℕ) → i < n → before i k ≡ true → backlog b i ≡ fresh b i

    served_before : (t i : ℕ) → t < H → held t ≡ Some i → before i k ≡ true → (1 ≤ sum_before before k (done held t) n) × (done held t k ≡ 0)
    served_before t i h e y =
        let one : done held t i ≡ 1 = rw (e, eq-eqb i i refl) in
        let other : i ≡ k → ⊥ = λ q. both_ways (before k k) (order.strict k below) (rw q at y) in
        (omega (arith, before-le before k (done held t) n i (service.is_row t i h e) y), rw (e, ne_eqb i k other))

    -- while a row before k has work, such a row is served, and not k
    not_yet : (t : ℕ) → t < H → 1 ≤ sum_before before k (backlog t) n → (1 ≤ sum_before before k (done held t) n) × (done held t k ≡ 0)
    not_yet t h b =
        let (j, l, m) = some-term (λ j. cond (before j k) (backlog t j) 0) n b in
        let (y, c) = kept (before j k) (backlog t j) m in
        let (i, e, o) = holder t j h l c in
        served_before t i h e (elim o [ inl q ↦ rw q y | inr z ↦ order.transitive i j k (service.is_row t i h e) l below z y ])

    -- while k has work, it or a row before it is served
    turned : (t : ℕ) → t < H → 1 ≤ backlog t k → 1 ≤ sum_before before k (done held t) n + done held t k
    turned t h b =
        let (i, e, o) = holder t k h below b in
        elim o [
          | inl q ↦ let one : done held t k ≡ 1 = rw (e, eq-eqb i k q) in omega arith
          | inr y ↦ omega (arith, (served_before t i h e y).0)
        ]

    module _ (E R : ℕ) (α : ℕ → ℕ → ℕ) (curves : (i : ℕ) → i < n → before i k ≡ true → Bounded H (λ t. fresh t i) (α i))
        (fits : E + sum_before before k (λ i. α i R) n ≤ R)
        (f s : ℕ) (after : f ≤ s) (known : s ≤ H) (small : backlog f k ≤ E) (left : Unfinished backlog held k f s) where
      -- k has work as long as the job is unfinished
      pending : (t : ℕ) → f ≤ t → t < s → 1 ≤ backlog t k
      pending t l m =
          let e : f + (t - f) ≡ t = omega arith in
          let first = term_le (λ x. fresh (f + x) k) (suc (t - f)) 0 (omega arith) in
          omega (
            arith,
            rw (add-zero f) at first,
            sum-rises (λ x. done held (f + x) k) (t - f) (s - f) (omega arith),
            ap (λ u. backlog u k) e,
            conserved k f (t - f) below (omega arith),
          )

      -- no busy window of R steps ends by step s
      module _ (b : ℕ) (l : b ≤ f) (busy : Busy b f) (quiet : Quiet b) (long : b + R ≤ s) where
        -- in each step of it k or a row before k is served
        each : (x : ℕ) → x < R → 1 ≤ sum_before before k (done held (b + x)) n + done held (b + x) k
        each x m =
            elim (cases_lt (b + x) f) [
              | inl h ↦ omega (arith, (not_yet (b + x) (omega arith) (busy (b + x) (omega arith) h)).0)
              | inr h ↦ turned (b + x) (omega arith) (pending (b + x) h (omega arith))
            ]

        none_yet : (x : ℕ) → x < f - b → done held (b + x) k ≤ 0
        none_yet x m = omega (arith, (not_yet (b + x) (omega arith) (busy (b + x) (omega arith) (omega arith))).1)

        -- of k no more is done in it than of the job
        own : window (λ t. done held t k) b R ≤ window (λ t. done held t k) f (s - f)
        own =
            let d : ℕ → ℕ = λ t. done held t k in
            let e : b + (f - b) ≡ f = omega arith in
            let q : f + (s - f) ≡ s = omega arith in
            omega (
              arith,
              sum-le (λ x. d (b + x)) (λ x. 0) (f - b) none_yet,
              sum-const 0 (f - b),
              sum-rises d (b + R) s long,
              ap (sum d) e,
              ap (sum d) q,
              sum-split d b R,
              sum-split d b (f - b),
              sum-split d f (s - f),
            )

        -- of a row before k no more is done in it than comes in R steps
        row : (i : ℕ) → i < n → sum (λ x. cond (before i k) (done held (b + x) i) 0) R ≤ cond (before i k) (α i R) 0
        row i m = go (before i k) refl
          where
            go : (y : Bool) → before i k ≡ y → sum (λ x. cond y (done held (b + x) i) 0) R ≤ cond y (α i R) 0
            go true e = omega (arith, done_le_fresh i b R m (omega arith) (quiet (omega arith) i m e), curves i m e b R (omega arith))
            go false e = omega (arith, sum-const 0 R)

        too_long : ⊥
        too_long =
            omega (
              arith,
              own,
              sum-le (λ x. 1) (λ x. sum_before before k (done held (b + x)) n + done held (b + x) k) R each,
              sum-const 1 R,
              sum-add (λ x. sum_before before k (done held (b + x)) n) (λ x. done held (b + x) k) R,
              sum-swap (λ x i. cond (before i k) (done held (b + x) i) 0) R n,
              sum-le (λ i. sum (λ x. cond (before i k) (done held (b + x) i) 0) R) (λ i. cond (before i k) (α i R) 0) n row,
            )

      ends : (b : ℕ) → b ≤ f → Busy b f → Quiet b → s < b + R
      ends b l busy quiet = elim (cases_lt s (b + R)) [ inl h ↦ h | inr h ↦ absurd (too_long b l busy quiet h) ]

      -- the window reaches back as long as a row before k has work
      reach : (b : ℕ) → b ≤ f → Busy b f → s < b + R
      reach zero l busy = ends 0 l busy (λ h i m e. service.starts i m h)
      reach (suc b) l busy =
          elim (cases_lt 0 (sum_before before k (backlog b) n)) [
            | inl y ↦
                let longer : Busy b f = λ t p q. elim (cases_lt b t) [ inl m ↦ busy t m q | inr m ↦ let e : t ≡ b = omega arith in rw e y ] in
                omega (arith, reach b (omega arith) longer)
            | inr y ↦
                ends (suc b) l busy
                (λ h i m e. omega (arith, service.goes_on b i m h, done_le b i (omega arith), before-le before k (backlog b) n i m e))
          ]

      pub response : s < f + R
      response = reach f (omega arith) (λ t l m. absurd (omega arith))
