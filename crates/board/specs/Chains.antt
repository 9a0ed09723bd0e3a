use Rattle.std.specs.Prelude.{◌≡◌, ℕ, ◌+◌, List, [], ◌∷◌, Option}
use Rattle.schedule.specs.Resources.{gets}

-- What steps and readings can bring a new run r into, and its past steps, the newest first: of each the state in which it
-- began, and its answer. S are the states, A the answers; a call that is refused, and a reading, leave the state as it is.
pub data Reached {S A : Type 0} (Step : S → A → S → Type 0) (r : S) : List (S × A) → S → Type 0 where
  new : Reached Step r [] r
  stepped : {past : List (S × A)} {s u : S} {answer : A} → Reached Step r past s → Step s answer u → Reached Step r ((s, answer) ∷ past) u
  stayed : {past : List (S × A)} {s u : S} → Reached Step r past s → u ≡ s → Reached Step r past u

-- in how many of the past steps row k held a resource; `of` tells the row that an answer names there
abbrev pub served : {S A : Type 0} → (A → Option ℕ) → ℕ → List (S × A) → ℕ
served of k [] = 0
served of k (e ∷ es) = gets (of e.1) k + served of k es
