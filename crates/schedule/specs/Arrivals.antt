use Rattle.std.specs.Prelude.{◌≡◌, ℕ, suc, ◌+◌, ◌-◌, ◌*◌, ◌<◌, ◌≤◌}
use Rattle.rating.specs.Quotients.{ceil}
use Rattle.schedule.specs.Windows.{Bounded, window}

-- How often the jobs of a row come, how often they come to a later resource, and how much of a resource they take, in any
-- window of steps. Each function of the step counts what happens in it: adm t is 1 if a job is admitted in step t, else 0.

-- An admission sets the rest to d steps from its own step on; the rest falls by one a step, down to 0; only rest 0 admits.
-- rest t: how many steps from step t on must pass before the next admission.
pub record Spaced (d H : ℕ) (adm rest : ℕ → ℕ) : Type 0 where
  pub once : (t : ℕ) → t < H → adm t ≤ 1
  pub rested : (t : ℕ) → t < H → adm t ≡ 1 → rest t ≡ 0
  pub sets : (t : ℕ) → t < H → adm t ≡ 1 → rest (suc t) ≡ d - 1
  pub falls : (t : ℕ) → t < H → adm t ≡ 0 → rest (suc t) ≡ rest t - 1

-- Arrivals. Any w consecutive steps admit at most ⌈w / T⌉ jobs, for every T from 1 to d.
abbrev pub Arrivals : Type 0
Arrivals = (d H : ℕ) (adm rest : ℕ → ℕ) → Spaced d H adm rest → (T : ℕ) → 1 ≤ T → T ≤ d → Bounded H adm (λ w. ceil w T)

-- Jobs pass through a stage one at a time, each out of it at most J steps after the step in which it was admitted. out t is
-- 1 if a job leaves the stage for step t. inside t: how many were admitted before step t and have not left for a step before.
pub record Passes (J H : ℕ) (adm out inside : ℕ → ℕ) : Type 0 where
  pub starts : inside 0 ≡ 0
  pub goes_on : (t : ℕ) → t < H → inside (suc t) + out t ≡ inside t + adm t
  pub alone : (t : ℕ) → t < H → inside t + adm t ≤ 1
  pub in_time : (a w : ℕ) → a + w ≤ H → adm a ≡ 1 → window out a w ≡ 0 → w ≤ J

-- Jitter. If every job becomes ready at most J steps after its admission, one job at a time, any w consecutive steps see at
-- most ⌈(w + J) / T⌉ jobs become ready; and with at most C of work each, at most C times that in fresh work.
pub record Delayed (J H T C : ℕ) (ready fresh : ℕ → ℕ) : Type 0 where
  pub jobs : Bounded H ready (λ w. ceil (w + J) T)
  pub work : ((t : ℕ) → t < H → fresh t ≤ C * ready t) → Bounded H fresh (λ w. C * ceil (w + J) T)

abbrev pub Jitter : Type 0
Jitter = (J H : ℕ) (adm ready waiting : ℕ → ℕ) → Passes J H adm ready waiting
    → (T : ℕ) → 1 ≤ T → Bounded H adm (λ w. ceil w T) → (C : ℕ) (fresh : ℕ → ℕ) → Delayed J H T C ready fresh

-- Each job is served at most E steps in all, and only from its admission until it leaves: an admission brings a budget of E,
-- service spends it, and what leaves takes its budget along. budget t: what the jobs inside have left of it as step t begins.
pub record Served (E H : ℕ) (adm inside served budget : ℕ → ℕ) : Type 0 where
  pub within : (t : ℕ) → t < H → budget t ≤ E * inside t
  pub goes_on : (t : ℕ) → t < H → budget (suc t) + served t ≤ budget t + E * adm t

-- Share. If whatever holds the resource in a step was admitted less than Q steps earlier, and each job is served at most E
-- steps, then any L ≥ 1 consecutive steps give the row at most E × ⌈(L + Q - 1) / T⌉ of them.
abbrev pub Share : Type 0
Share = (E Q H : ℕ) (adm out inside served budget : ℕ → ℕ) → 1 ≤ Q → Passes (Q - 1) H adm out inside → Served E H adm inside served budget
    → (T : ℕ) → 1 ≤ T → Bounded H adm (λ w. ceil w T) → (b L : ℕ) → 1 ≤ L → b + L ≤ H → window served b L ≤ E * ceil (L + Q - 1) T
