use Rattle.std.specs.Prelude.{◌≡◌, ℕ, ◌+◌, ◌-◌, ◌<◌, ◌≤◌, min, max, true, cond, List, [], ◌∷◌, length, is_some, Ok, Err, Result, ◌==◌, slice_index_or}
use Rattle.std.specs.Option.{unwrap_or}
use Rattle.rating.specs.Bounds.{is_accepted}
use Rattle.rating.specs.Ratings.{verdict_in}
use Rattle.feeds.specs.Fits.{Fitting}
use Rattle.feeds.specs.Meanings.{View}
use Rattle.schedule.specs.Places.{names, takes}
use Rattle.schedule.specs.declared.place.Slot.{Slot}
use Rattle.schedule.specs.declared.place.Slot.TheVariants.{Empty, Loading, Computing}
use Rattle.board.specs.Chains.{Reached}
use Rattle.board.specs.Guarantee.{BoundsOf, Past}
use Rattle.board.specs.Runs.{Along, New, Stepped, memory_ranking, offered, place, placed, processor_ranking, rows_in}
use Rattle.board.specs.declared.fault.StepFault.{StepFault}
use Rattle.board.specs.declared.run.Answer.{Answer}
use Rattle.board.specs.declared.run.Run.{Run}
use Rattle.simulate.specs.Tallies.{AtMost, one, response_of, unmarked}
use Rattle.simulate.specs.Timelines.{answers_in, joined}
use Rattle.simulate.specs.declared.journal.Journal.{Journal}
use Rattle.simulate.specs.declared.tally.Tally.{Tally}

-- What a journal counts, said by the steps of a run.

abbrev pub tally_at : List Tally → ℕ → Tally
tally_at xs k = slice_index_or xs k unmarked

-- a journal of no steps
pub record Blank (x : Journal) : Type 0 where
  pub rows : (k : ℕ) → tally_at x.tallies k ≡ unmarked
  pub line : answers_in x.timeline ≡ []

-- the load time, at the end of step t, of a job that the memory serves: it is over if one memory step was left
abbrev pub loaded_in : ℕ → Slot → ℕ
loaded_in t Empty = 0
loaded_in t (Loading left compute since) = cond (left == 1) (t + 1 - since) 0
loaded_in t (Computing left since) = 0

-- the answers of the first 64 of the past steps, in their order
abbrev pub drawn : {S : Type 0} → List (S × Answer) → List Answer
drawn [] = []
drawn (e ∷ older) = joined (drawn older) e.1

module _ {A B P : Type 0} (view : P → View) where
  -- The tally of row k after a step that began in s: an arrival that was offered to its empty place is admitted; a job that
  -- finishes has its response; loading ends with the last memory step; and the row holds the resources that the answer says.
  abbrev pub counted : ℕ → Run A B P → Answer → Tally → Tally
  counted k s answer x = record {
    admitted = x.admitted + one (takes (offered view s k) (place s k));
    finished = x.finished + one (is_some (response_of answer k));
    load = max x.load (cond (names answer.memory k) (loaded_in s.number (placed view s k)) 0);
    response = max x.response (unwrap_or (response_of answer k) 0);
    memory = x.memory + one (names answer.memory k);
    processor = x.processor + one (names answer.processor k);
  }

  -- the tally of row k over past steps
  abbrev pub told : ℕ → Past A B P → Tally
  told k [] = unmarked
  told k (e ∷ older) = counted k e.0 e.1 (told k older)

  -- a step from s to u is taken into the journal x, which becomes y
  pub record Noted (s : Run A B P) (x : Journal) (u : Run A B P) (y : Journal) : Type 0 where
    pub answer : Answer
    pub stepped : Stepped view (Along (memory_ranking s)) (Along (processor_ranking s)) s answer u
    pub rows : (k : ℕ) → k < length (rows_in s) → tally_at y.tallies k ≡ counted k s answer (tally_at x.tallies k)
    pub others : (k : ℕ) → length (rows_in s) ≤ k → tally_at y.tallies k ≡ tally_at x.tallies k
    pub line : answers_in y.timeline ≡ joined (answers_in x.timeline) answer

  -- or it is refused at the last number, and then run and journal are as they were
  abbrev pub NotedOrLast : Run A B P → Journal → Result Unit StepFault → Run A B P → Journal → Type 0
  NotedOrLast s x (Ok _) u y = Noted s x u y
  NotedOrLast s x (Err _) u y = (s.number ≡ 2000000000) × (u ≡ s) × (y ≡ x)

  -- a journal tells all the steps that brought the run r to u
  pub record Tells (r u : Run A B P) (y : Journal) : Type 0 where
    pub past : Past A B P
    pub reached : Reached (Stepped view (Along (memory_ranking r)) (Along (processor_ranking r))) r past u
    pub long : length past + r.number ≡ u.number
    pub rating : u.rating ≡ r.rating
    pub rows : (k : ℕ) → k < length (rows_in r) → tally_at y.tallies k ≡ told k past
    pub line : answers_in y.timeline ≡ drawn past

  -- stepping a run from s to u n times, or up to the last number, and taking the steps into the journal x, which becomes y
  pub record Simulated (n : ℕ) (s : Run A B P) (x : Journal) (u : Run A B P) (y : Journal) : Type 0 where
    pub number : u.number ≡ min (s.number + n) 2000000000
    pub tells : (r : Run A B P) → Tells r s x → Tells r u y

  -- no time of a journal is above the bounds RM and RC of its row
  abbrev pub InBounds : (ℕ → ℕ) → (ℕ → ℕ) → Run A B P → Journal → Type 0
  InBounds RM RC r y = (k : ℕ) → k < length (rows_in r)
      → ((tally_at y.tallies k).load ≤ RM k) × ((tally_at y.tallies k).response ≤ RM k + RC k)

  -- Where r is a new run with an accepted rating, and its pile fits, a journal y that goes on from one that tells all the
  -- steps from r to s has no time above the bounds that the rating answers.
  abbrev pub KeepsBounds : Run A B P → Journal → Journal → Type 0
  KeepsBounds s x y = (r : Run A B P) → New r → is_accepted (verdict_in r.rating) ≡ true → Fitting (view r.pile) (rows_in r)
      → (RM RC : ℕ → ℕ) → BoundsOf r RM RC → Tells r s x → InBounds RM RC r y

-- no count of a journal is above the number of steps of a run
abbrev pub Fair : {A B P : Type 0} → Run A B P → Journal → Type 0
Fair s x = (k : ℕ) → AtMost s.number (tally_at x.tallies k)
