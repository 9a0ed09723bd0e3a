use Rattle.std.proofs.Common.{◌≡◌, ℕ, zero, suc, ◌+◌, ◌-◌, ◌*◌, ◌<◌, ◌≤◌, Bool, true, false, Some, None, Option, refl, ap, arith}
use Rattle.schedule.specs.Resources.{Chosen, Priority, Service, done, gets}
use Rattle.schedule.specs.Windows.{Bounded, sum_before, window}
use Rattle.schedule.proofs.Arrivals.{demand}
use Rattle.schedule.proofs.Places.{one}
use Rattle.schedule.proofs.Response.{response}

-- One phase of the jobs: rows that wait for its resource, the row that has it, and how long a job is in the phase.

-- the work of row k that is new in step t
abbrev fresh : (ℕ → ℕ → ℕ) → (ℕ → Option ℕ) → ℕ → ℕ → ℕ
fresh backlog held zero k = backlog 0 k
fresh backlog held (suc t) k = backlog (suc t) k + done held t k - backlog t k

-- in step t row k has l steps left of a job that came to the phase at most J steps after step a
pub record Ran (backlog : ℕ → ℕ → ℕ) (held : ℕ → Option ℕ) (J k t l a : ℕ) : Type 0 where
  pub ready : ℕ
  pub before_now : ready ≤ t
  pub soon : ready ≤ a + J
  pub rest : l + window (λ u. done held u k) ready (t - ready) ≡ backlog ready k

module _ (backlog : ℕ → ℕ → ℕ) (held : ℕ → Option ℕ) (J k t l a : ℕ) where
  pub ran_new : t ≤ a + J → l ≡ backlog t k → Ran backlog held J k t l a
  ran_new h e =
      let z : t - t ≡ 0 = omega arith in
      record { ready = t; before_now = omega arith; soon = h; rest = rw z (omega arith) }

  pub ran_on : (m : ℕ) → m + gets (held t) k ≡ l → Ran backlog held J k t l a → Ran backlog held J k (suc t) m a
  ran_on m e r =
      let b = r.before_now in
      let z : suc t - r.ready ≡ suc (t - r.ready) = omega arith in
      let y : r.ready + (t - r.ready) ≡ t = omega arith in
      record { ready = r.ready; before_now = omega arith; soon = r.soon; rest = rw (z, y) (omega (arith, r.rest)) }

-- waits t k: row k wants the resource in step t. comes t k: how many jobs, of at most E k, came to it for step t
pub record Phase (n H : ℕ) (before : ℕ → ℕ → Bool) (E R : ℕ → ℕ) (α : ℕ → ℕ → ℕ)
    (waits : ℕ → ℕ → Bool) (backlog comes : ℕ → ℕ → ℕ) (held : ℕ → Option ℕ) : Type 0 where
  pub order : Priority n before
  pub bounds : (k : ℕ) → k < n → R k ≡ E k + sum_before before k (λ i. E i * α i (R k)) n
  pub curves : (k : ℕ) → k < n → Bounded H (λ t. comes t k) (α k)
  pub chosen : (t : ℕ) → t < H → Chosen n before (waits t) (held t)
  pub works : (t k : ℕ) → t < H → k < n → one (waits t k) ≤ backlog t k
  pub idles : (t k : ℕ) → t < H → k < n → waits t k ≡ false → backlog t k ≡ 0
  pub small : (t k : ℕ) → t ≤ H → k < n → backlog t k ≤ E k
  pub lasts : (t k : ℕ) → suc t < H → k < n → backlog t k ≤ backlog (suc t) k + gets (held t) k
  pub starts : (k : ℕ) → 0 < H → k < n → backlog 0 k ≤ E k * comes 0 k
  pub brings : (t k : ℕ) → suc t < H → k < n → backlog (suc t) k + gets (held t) k ≤ backlog t k + E k * comes (suc t) k

module _ {n H : ℕ} {before : ℕ → ℕ → Bool} {E R : ℕ → ℕ} {α : ℕ → ℕ → ℕ}
    {waits : ℕ → ℕ → Bool} {backlog comes : ℕ → ℕ → ℕ} {held : ℕ → Option ℕ} (phase : Phase n H before E R α waits backlog comes held) where
  serves : (t i : ℕ) → t < H → held t ≡ Some i → Chosen n before (waits t) (Some i)
  serves t i h e = rw e at (phase.chosen t h)

  idle : (t : ℕ) → t < H → held t ≡ None → Chosen n before (waits t) None
  idle t h e = rw e at (phase.chosen t h)

  -- who has work waits
  busy : (t j : ℕ) → t < H → j < n → 1 ≤ backlog t j → waits t j ≡ true
  busy t j h l b = go (waits t j) refl
    where
      go : (x : Bool) → waits t j ≡ x → x ≡ true
      go true e = refl
      go false e = absurd (omega (arith, phase.idles t j h l e))

  service : Service n before H backlog (fresh backlog held) held
  service = record {
    starts = λ i l h. refl;
    goes_on = λ t i l h. omega (arith, phase.lasts t i h l);
    is_row = λ t i h e. (serves t i h e).0;
    has_work = λ t i h e. omega (arith, phase.works t i h (serves t i h e).0, ap one (serves t i h e).1);
    is_first = λ t i j h e l b y. (serves t i h e).2 j l (busy t j h l b) y;
    is_idle = λ t j h e l. phase.idles t j h l (idle t h e j l);
  }

  fresh_le : (t k : ℕ) → t < H → k < n → fresh backlog held t k ≤ E k * comes t k
  fresh_le zero k h l = phase.starts k h l
  fresh_le (suc t) k h l = omega (arith, phase.brings t k h l)

  fresh_bounded : (k : ℕ) → k < n → Bounded H (λ t. fresh backlog held t k) (λ w. E k * α k w)
  fresh_bounded k l = demand H (E k) (λ t. comes t k) (λ t. fresh backlog held t k) (α k) (phase.curves k l) (λ t h. fresh_le t k h l)

  -- as long as some of such a job is left, its age is bounded
  pub ran_age : (J k t l a : ℕ) → t ≤ H → k < n → 1 ≤ l → Ran backlog held J k t l a → t < a + J + R k
  ran_age J k t l a h below some r =
      let b = r.before_now in
      let soon : t < r.ready + R k =
      response n H before backlog (fresh backlog held) held phase.order service k below (E k) (R k) (λ i w. E i * α i w)
      (λ i m e. fresh_bounded i m) (omega (arith, phase.bounds k below)) r.ready t b h
      (phase.small r.ready k (omega arith) below) (omega (arith, r.rest)) in
      omega (arith, r.soon)
