use Rattle.std.specs.Prelude.{◌≡◌, ℕ, ◌<◌, min, true, List, [], ◌∷◌, length, Ok, Err, Result}
use Rattle.rows.specs.Drafts.{rows_of}
use Rattle.rows.specs.declared.draft.Draft.{Draft}
use Rattle.rows.specs.declared.fault.EditFault.{EditFault}
use Rattle.rows.specs.declared.row.Label.{Label}
use Rattle.rows.specs.declared.row.Row.{Row}
use Rattle.rating.specs.Bounds.{is_accepted, row_of}
use Rattle.rating.specs.Ratings.{verdict_in}
use Rattle.rating.specs.declared.order.ByMemoryRank.{ByMemoryRank}
use Rattle.rating.specs.declared.order.ByProcessorRank.{ByProcessorRank}
use Rattle.feeds.specs.Clocks.{Has, clock_view, entry_of}
use Rattle.feeds.specs.Fits.{Fitting}
use Rattle.feeds.specs.Meanings.{View}
use Rattle.feeds.specs.declared.clockwork.Clockwork.{Clockwork}
use Rattle.board.specs.Chains.{Reached}
use Rattle.board.specs.Guarantee.{Past}
use Rattle.board.specs.Runs.{Along, New, Stepped, memory_ranking, processor_ranking, rows_in}
use Rattle.board.specs.declared.run.Run.{Run}

-- That the guarantee does not speak of nothing: Book A over its clockwork meets what it asks for, and states with any number
-- of past steps are reached.

-- a row whose deadline is its period, with one rank for both resources
abbrev pub task_of : Label → ℕ → ℕ → ℕ → ℕ → Row
task_of label m c t rank = record { memory = m; compute = c; deadline = t; period = t; memory_rank = rank; processor_rank = rank; label = label }

-- the rows of Book A: TAGS, CENT and DARK
abbrev pub book_a : List Row
book_a =
    task_of record { first = 84; second = 65; third = 71; fourth = 83 } 9 1 20 1
    ∷ task_of record { first = 67; second = 69; third = 78; fourth = 84 } 1 9 24 0
    ∷ task_of record { first = 68; second = 65; third = 82; fourth = 75 } 5 5 35 2
    ∷ []

-- its draft is made
abbrev pub DraftMade : Result Draft EditFault → Type 0
DraftMade (Ok d) = rows_of d ≡ book_a
DraftMade (Err _) = ⊥

-- the run s is reached from the run r by n steps, or by as many as there are step numbers
pub record Gone {A B P : Type 0} (view : P → View) (r : Run A B P) (n : ℕ) (s : Run A B P) : Type 0 where
  pub past : Past A B P
  pub reached : Reached (Stepped view (Along (memory_ranking r)) (Along (processor_ranking r))) r past s
  pub long : length past ≡ min n 2000000000
  pub number : s.number ≡ length past
  pub rating : s.rating ≡ r.rating

-- the run s is reached by n steps from a new run of Book A over its clockwork at full cost, which meets what the guarantee
-- asks for
pub record Meets {A B : Type 0} (n : ℕ) (s : Run A B Clockwork) : Type 0 where
  pub start : Run A B Clockwork
  pub begun : New start
  pub rows : rows_in start ≡ book_a
  pub clock : (k : ℕ) → k < 3 → Has (entry_of start.pile k) true 0 (row_of book_a k).period (row_of book_a k).memory (row_of book_a k).compute
  pub accepted : is_accepted (verdict_in start.rating) ≡ true
  pub fits : Fitting (clock_view start.pile) (rows_in start)
  pub gone : Gone clock_view start n s

abbrev pub PremisesMet : ℕ → Result (Run ByMemoryRank ByProcessorRank Clockwork) EditFault → Type 0
PremisesMet n (Ok s) = Meets n s
PremisesMet n (Err _) = ⊥
