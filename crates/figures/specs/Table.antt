use Rattle.std.specs.Prelude.{◌≡◌, ℕ, ◌+◌, ◌<◌, ◌≤◌, List, [], ◌∷◌, length, Err, slice_index_or}
use Rattle.rows.specs.Faults.{row_number}
use Rattle.rows.specs.Rows.{checked}
use Rattle.rows.specs.declared.row.Label.{Label}
use Rattle.rows.specs.declared.row.Row.{Row}
use Rattle.rows.specs.declared.fault.RowFault.{RowFault}
use Rattle.rating.specs.Bounds.{figure_at, memory_work, processor_work, row_of}
use Rattle.rating.specs.Closing.{LateBy}
use Rattle.rating.specs.Curves.{LeastSolution}
use Rattle.rating.specs.Orders.{by_memory_rank, by_processor_rank}
use Rattle.rating.specs.Rankings.{rows_before}
use Rattle.rating.specs.declared.verdict.Phase.TheVariants.{Processor}
use Rattle.rating.specs.declared.verdict.Verdict.{Verdict}
use Rattle.rating.specs.declared.verdict.Verdict.TheVariants.{Accepted, Late}

-- a row by its label and figures, with one rank for both phases
abbrev pub row : Label → ℕ → ℕ → ℕ → ℕ → ℕ → Row
row label m c d t rank = record {
  memory = m;
  compute = c;
  deadline = d;
  period = t;
  memory_rank = rank;
  processor_rank = rank;
  label = label;
}

-- a row with the label TASK
abbrev pub task : ℕ → ℕ → ℕ → ℕ → ℕ → Row
task = row record { first = 84; second = 65; third = 83; fourth = 75 }

-- Book A, with the ranks of its three rows: TAGS, CENT and DARK
abbrev pub book_a : ℕ → ℕ → ℕ → List Row
book_a x y z =
    row record { first = 84; second = 65; third = 71; fourth = 83 } 9 1 20 20 x
    ∷ row record { first = 67; second = 69; third = 78; fourth = 84 } 1 9 24 24 y
    ∷ row record { first = 68; second = 65; third = 82; fourth = 75 } 5 5 35 35 z
    ∷ []

-- a worked figure: rows, what closing them under the two rank orders says, and the least solution of each row's memory
-- and processor equation, under no ceiling
pub record Figure : Type 0 where
  pub rows : List Row
  pub verdict : Verdict
  pub memory : List ℕ
  pub processor : List ℕ

-- accepted figures are within their deadlines; late ones have the first row of the phase without a solution in its ceiling
abbrev pub Says : List Row → (ℕ → ℕ) → (ℕ → ℕ) → Verdict → Type 0
Says rows late bound Accepted = (k : ℕ) → k < length rows → late k + bound k ≤ (row_of rows k).deadline
Says rows late bound (Late phase k) = LateBy rows by_memory_rank by_processor_rank (Late phase k)

pub record Right (f : Figure) : Type 0 where
  pub memory : (k : ℕ) → k < length f.rows → LeastSolution (memory_work f.rows (rows_before by_memory_rank f.rows k) k) (figure_at f.memory k)
  pub processor : (k : ℕ) → k < length f.rows
      → LeastSolution (processor_work f.rows (figure_at f.memory) (rows_before by_processor_rank f.rows k) k) (figure_at f.processor k)
  pub verdict : Says f.rows (figure_at f.memory) (figure_at f.processor) f.verdict

-- Book A in two orders; no rows; one row; a full row; and a row without loading before another.
abbrev pub figures : List Figure
figures =
    record {
      rows = book_a 1 0 2;
      verdict = Accepted;
      memory = 10 ∷ 1 ∷ 15 ∷ [];
      processor = 10 ∷ 9 ∷ 16 ∷ [];
    }
    ∷ record {
      rows = book_a 0 1 2;
      verdict = Late Processor 2;
      memory = 9 ∷ 10 ∷ 15 ∷ [];
      processor = 1 ∷ 10 ∷ 25 ∷ [];
    }
    ∷ record { rows = []; verdict = Accepted; memory = []; processor = [] }
    ∷ record { rows = task 0 1 1 1 0 ∷ []; verdict = Accepted; memory = 0 ∷ []; processor = 1 ∷ [] }
    ∷ record { rows = task 2 3 5 5 0 ∷ []; verdict = Accepted; memory = 2 ∷ []; processor = 3 ∷ [] }
    ∷ record { rows = task 0 2 4 4 0 ∷ task 1 1 8 8 1 ∷ []; verdict = Accepted; memory = 0 ∷ 1 ∷ []; processor = 2 ∷ 3 ∷ [] }
    ∷ []

abbrev pub no_figure : Figure
no_figure = record { rows = []; verdict = Accepted; memory = []; processor = [] }

-- a row whose costs pass its deadline is refused with 14
abbrev pub Refused : Row → ℕ → Type 0
Refused row number = (fault : RowFault) × ((checked row ≡ Err fault) × (row_number fault ≡ number))

pub record FiguresStand : Type 0 where
  pub each : (i : ℕ) → i < length figures → Right (slice_index_or figures i no_figure)
  pub refused : Refused (task 2 3 4 5 0) 14
