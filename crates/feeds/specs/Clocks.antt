use Rattle.std.specs.Prelude.{◌≡◌, ℕ, ◌-◌, Bool, true, cond, is_some, Some, None, Ok, Err, Option, Result, ◌==◌, ◌≢◌}
use Rattle.std.proofs.Common.{lit≤, arith}
use Rattle.std.proofs.lemmas.Bool.{cond_both, eqb-true}
use Rattle.feeds.specs.Meanings.{Offered, View}
use Rattle.feeds.specs.PerMarks.{at_mark}
use Rattle.feeds.specs.declared.clockwork.Clockwork.{Clockwork}
use Rattle.feeds.specs.declared.clockwork.Rest.{Rest}
use Rattle.feeds.specs.declared.fault.SettingFault.{SettingFault}
use Rattle.feeds.specs.declared.terms.Terms.{Terms}

-- the arrivals of one mark: they rest until the next of them, and then come one at each interval, all of the same cost
pub record Beat : Type 0 where
  pub rest : ℕ
  pub terms : Terms

-- these terms, if there are any, at this rest
abbrev pub beat_at : Rest → Option Terms → Option Beat
beat_at r None = None
beat_at r (Some t) = Some (record { rest = r.steps; terms = t })

-- what is at a mark: nothing, if it was never set
abbrev pub entry_of : Clockwork → ℕ → Option Beat
entry_of x k = beat_at (at_mark (record { steps = 0 }) x.rests k) (at_mark None x.terms k)

-- the same rest one step later
abbrev pub rest_later : Rest → Rest
rest_later r = record { steps = r.steps - 1 }

-- the rest of a mark; one that was never set does not rest
abbrev pub rest_of : Option Beat → ℕ
rest_of None = 0
rest_of (Some b) = b.rest

-- the terms of a mark; one that was never set has no arrivals, and so the greatest distance and the lowest ceilings
abbrev pub terms_of : Option Beat → Terms
terms_of None = record {
  distance = record { steps = 1000000; range = (lit≤ tt, lit≤ tt) };
  ceilings = record { memory = 0; processor = 1; memories = lit≤ tt; processors = (lit≤ tt, lit≤ tt) };
}
terms_of (Some b) = b.terms

-- a mark is set or not, has rest r and interval i, and its arrivals cost m and c
pub record Has (e : Option Beat) (b : Bool) (r i m c : ℕ) : Type 0 where
  pub set : is_some e ≡ b
  pub rest : rest_of e ≡ r
  pub interval : (terms_of e).distance.steps ≡ i
  pub memory : (terms_of e).ceilings.memory ≡ m
  pub processor : (terms_of e).ceilings.processor ≡ c

-- f is e but for its rest, which is r
abbrev pub Rests : Option Beat → ℕ → Option Beat → Type 0
Rests e r f = Has f (is_some e) r (terms_of e).distance.steps (terms_of e).ceilings.memory (terms_of e).ceilings.processor

-- every mark but k has the entry that it had
abbrev pub OthersStay : Clockwork → ℕ → Clockwork → Type 0
OthersStay x k y = (j : ℕ) → (j ≢ k) → entry_of y j ≡ entry_of x j

-- Setting mark k shows x before and y after: an accepted setting stands at its mark, which rests for the offset, and
-- every other mark keeps its entry; a refused one alters nothing.
abbrev pub ClockSet : Clockwork → ℕ → ℕ → ℕ → ℕ → ℕ → Result Unit SettingFault → Clockwork → Type 0
ClockSet x k offset i m c (Ok _) y = Has (entry_of y k) true offset i m c × OthersStay x k y
ClockSet x k offset i m c (Err _) y = y ≡ x

-- the offer of a mark: its costs, if it is set and at rest 0
abbrev pub due : Option Beat → Option (ℕ × ℕ)
due None = None
due (Some b) = cond (b.rest == 0) (Some (b.terms.ceilings.memory, b.terms.ceilings.processor)) None

-- Taking at mark k: if there was an offer, the mark rests for its interval; nothing else changes.
pub record ClockTaken (x : Clockwork) (k : ℕ) (y : Clockwork) : Type 0 where
  pub rested : is_some (due (entry_of x k)) ≡ true → Rests (entry_of x k) (terms_of (entry_of x k)).distance.steps (entry_of y k)
  pub others : OthersStay x k y

-- Advancing: every rest above 0 falls by one; nothing else changes.
abbrev pub ClockAdvanced : Clockwork → Clockwork → Type 0
ClockAdvanced x y = (k : ℕ) → Rests (entry_of x k) (rest_of (entry_of x k) - 1) (entry_of y k)

-- a mark's offer is one that a view may show
pub due-offered : (e : Option Beat) → Offered (due e) (rest_of e) (terms_of e).ceilings.memory (terms_of e).ceilings.processor
due-offered None = tt
due-offered (Some b) =
    let m = b.terms.ceilings.memory in
    let c = b.terms.ceilings.processor in
    cond_both (b.rest == 0) (Some (m, c)) None (λ o. Offered o b.rest m c)
    (λ h. (eqb-true b.rest 0 h, omega arith, b.terms.ceilings.processors.0, omega arith))
    (λ _. tt)

-- what a clockwork shows
abbrev pub clock_view : Clockwork → View
clock_view x = record {
  distance = λ k. (terms_of (entry_of x k)).distance.steps;
  memory = λ k. (terms_of (entry_of x k)).ceilings.memory;
  processor = λ k. (terms_of (entry_of x k)).ceilings.processor;
  rest = λ k. rest_of (entry_of x k);
  offer = λ k. due (entry_of x k);
  distances = λ k. (terms_of (entry_of x k)).distance.range;
  memories = λ k. (terms_of (entry_of x k)).ceilings.memories;
  processors = λ k. (terms_of (entry_of x k)).ceilings.processors;
  offers = λ k. due-offered (entry_of x k);
}
