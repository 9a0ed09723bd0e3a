use Rattle.std.specs.Prelude.{◌≡◌, ℕ, ◌<◌, cond, length, Some, None, Ok, Err, Option, Result, nat_lt}
use Rattle.feeds.specs.Meanings.{View}
use Rattle.schedule.specs.declared.place.Slot.{Slot}
use Rattle.board.specs.Runs.{Along, Stepped, memory_ranking, place, processor_ranking, rows_in}
use Rattle.board.specs.declared.fault.StepFault.{StepFault}
use Rattle.board.specs.declared.run.Answer.{Answer}
use Rattle.board.specs.declared.run.Run.{Run}

-- What the calls of a run do.

-- a step is taken along the rankings of the rating, or it is refused at the last number, and then the run is as it was
abbrev pub Went : {A B P : Type 0} → (P → View) → Run A B P → Result Answer StepFault → Run A B P → Type 0
Went view s (Ok answer) u = (s.number < 2000000000) × Stepped view (Along (memory_ranking s)) (Along (processor_ranking s)) s answer u
Went view s (Err _) u = (s.number ≡ 2000000000) × (u ≡ s)

-- the place of a row, or none without such a row
abbrev pub place_at : {A B P : Type 0} → Run A B P → ℕ → Option Slot
place_at s k = cond (nat_lt k (length (rows_in s))) (Some (place s k)) None
