use Rattle.std.specs.Prelude.{ℕ, ◌+◌, ◌-◌, ◌≤◌, max, Bool, true, false, cond, ◌&&◌, ◌||◌, is_some, Some, None, Option, ◌==◌}
use Rattle.std.specs.Option.{unwrap_or}
use Rattle.schedule.specs.Places.{names}
use Rattle.schedule.specs.declared.place.Slot.{Slot}
use Rattle.schedule.specs.declared.place.Slot.TheVariants.{Empty, Loading, Computing}
use Rattle.board.specs.declared.run.Answer.{Answer}
use Rattle.simulate.specs.declared.tally.Tally.{Tally}

-- What one step shows of a row, by its answer and by the row's place before and after it.

abbrev pub is_free : Slot → Bool
is_free Empty = true
is_free (Loading left compute since) = false
is_free (Computing left since) = false

abbrev pub is_taken : Slot → Bool
is_taken Empty = false
is_taken (Loading left compute since) = true
is_taken (Computing left since) = true

abbrev pub one : Bool → ℕ
one b = cond b 1 0

-- the response of row k among what finished in a step
abbrev pub response_in : Option (ℕ × ℕ) → ℕ → Option ℕ
response_in None k = None
response_in (Some p) k = cond (p.0 == k) (Some p.1) None

abbrev pub response_of : Answer → ℕ → Option ℕ
response_of answer k = response_in answer.finished k

-- an arrival was admitted: the place was free, and now it has a job, or the job finished at once
abbrev pub has_entered : ℕ → Bool → Answer → Slot → Bool
has_entered k free answer after = free && (is_some (response_of answer k) || is_taken after)

-- the time from its admission to the end of step t of a job that computes next
abbrev pub load_in : ℕ → Slot → ℕ
load_in t Empty = 0
load_in t (Loading left compute since) = 0
load_in t (Computing left since) = t + 1 - since

-- the load time of the job of row k, if the memory served it for the last time
abbrev pub load_of : ℕ → Answer → Slot → ℕ
load_of k answer after = cond (names answer.memory k) (load_in answer.step after) 0

-- a tally after a step: what happened to row k in it is counted, and the worst times are kept
abbrev pub noted : ℕ → Bool → Answer → Slot → Tally → Tally
noted k free answer after x = record {
  admitted = x.admitted + one (has_entered k free answer after);
  finished = x.finished + one (is_some (response_of answer k));
  load = max x.load (load_of k answer after);
  response = max x.response (unwrap_or (response_of answer k) 0);
  memory = x.memory + one (names answer.memory k);
  processor = x.processor + one (names answer.processor k);
}

-- nothing noted yet
abbrev pub unmarked : Tally
unmarked = record { admitted = 0; finished = 0; load = 0; response = 0; memory = 0; processor = 0 }

-- each count is at most n
pub record AtMost (n : ℕ) (x : Tally) : Type 0 where
  pub admitted : x.admitted ≤ n
  pub finished : x.finished ≤ n
  pub memory : x.memory ≤ n
  pub processor : x.processor ≤ n
