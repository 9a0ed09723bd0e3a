use Rattle.std.specs.Prelude.{◌≡◌, ℕ, suc, ◌+◌, ◌-◌, ◌<◌, ◌≤◌, Bool, true, false, cond, ◌⊎◌, Some, None, Option, ◌==◌, ◌≢◌}
use Rattle.schedule.specs.Windows.{Bounded, sum_before, window}

-- One resource that serves rows in a fixed order, one unit of work in a step. Rows are the numbers below n; what is said of
-- steps is said below a horizon H.

-- a strict total order of the rows: before i j says that row i goes first
pub record Priority (n : ℕ) (before : ℕ → ℕ → Bool) : Type 0 where
  pub strict : (i : ℕ) → i < n → before i i ≡ false
  pub total : (i j : ℕ) → i < n → j < n → (before i j ≡ true) ⊎ ((i ≡ j) ⊎ (before j i ≡ true))
  pub transitive : (i j k : ℕ) → i < n → j < n → k < n → before i j ≡ true → before j k ≡ true → before i k ≡ true

-- who has the resource, if the rows that pass a test wait for it: the first of them, and none only if no row waits
abbrev pub Chosen : ℕ → (ℕ → ℕ → Bool) → (ℕ → Bool) → Option ℕ → Type 0
Chosen n before waits None = (k : ℕ) → k < n → waits k ≡ false
Chosen n before waits (Some i) = (i < n) × (waits i ≡ true) × ((k : ℕ) → k < n → waits k ≡ true → before k i ≢ true)

-- how much of row i is done in a step, by the row that has the resource
abbrev pub gets : Option ℕ → ℕ → ℕ
gets (Some j) i = cond (j == i) 1 0
gets None i = 0

abbrev pub done : (ℕ → Option ℕ) → ℕ → ℕ → ℕ
done held t i = gets (held t) i

-- backlog t i: the work of row i that can be done in step t. fresh t i: the part of it that is new in step t. held t: the row
-- that has the resource in step t, and does one unit of its work. A resource that a later row may keep for some steps would
-- weaken `is_first` alone.
pub record Service (n : ℕ) (before : ℕ → ℕ → Bool) (H : ℕ) (backlog fresh : ℕ → ℕ → ℕ) (held : ℕ → Option ℕ) : Type 0 where
  pub starts : (i : ℕ) → i < n → 0 < H → backlog 0 i ≡ fresh 0 i
  pub goes_on : (t i : ℕ) → i < n → suc t < H → backlog (suc t) i + done held t i ≡ backlog t i + fresh (suc t) i
  pub is_row : (t i : ℕ) → t < H → held t ≡ Some i → i < n
  pub has_work : (t i : ℕ) → t < H → held t ≡ Some i → 1 ≤ backlog t i
  pub is_first : (t i j : ℕ) → t < H → held t ≡ Some i → j < n → 1 ≤ backlog t j → before j i ≢ true
  pub is_idle : (t j : ℕ) → t < H → held t ≡ None → j < n → backlog t j ≡ 0

-- a job of row k that became ready for step f, with all the backlog that the row has then, is not done before step s
abbrev pub Unfinished : (ℕ → ℕ → ℕ) → (ℕ → Option ℕ) → ℕ → ℕ → ℕ → Type 0
Unfinished backlog held k f s = window (λ t. done held t k) f (s - f) < backlog f k

-- Response. α i w: at most so much work comes to row i in w consecutive steps. If what a job of row k brings, at most E, and
-- all that can come to the rows before it in R steps fit into R steps, then a job of row k that became ready for step f and
-- is unfinished after step s - 1 has s < f + R.
abbrev pub Response : Type 0
Response = (n H : ℕ) (before : ℕ → ℕ → Bool) (backlog fresh : ℕ → ℕ → ℕ) (held : ℕ → Option ℕ)
    → Priority n before → Service n before H backlog fresh held
    → (k : ℕ) → k < n → (E R : ℕ) (α : ℕ → ℕ → ℕ)
    → ((i : ℕ) → i < n → before i k ≡ true → Bounded H (λ t. fresh t i) (α i))
    → E + sum_before before k (λ i. α i R) n ≤ R
    → (f s : ℕ) → f ≤ s → s ≤ H → backlog f k ≤ E → Unfinished backlog held k f s → s < f + R
