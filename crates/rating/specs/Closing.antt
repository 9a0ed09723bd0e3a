use Rattle.std.specs.Prelude.{◌≡◌, ℕ, ◌+◌, ◌<◌, ◌≤◌, true, List, length, Some, Option, ◌≢◌}
use Rattle.rows.specs.declared.row.Row.{Row}
use Rattle.rating.specs.Bounds.{ceiling_of, memory_work, never, processor_work, row_of, work_of}
use Rattle.rating.specs.Curves.{LeastAt, LeastSolution}
use Rattle.rating.specs.Orders.{Before, comes}
use Rattle.rating.specs.Rankings.{rows_before}
use Rattle.rating.specs.declared.verdict.Phase.{Phase}
use Rattle.rating.specs.declared.verdict.Phase.TheVariants.{Memory, Processor}
use Rattle.rating.specs.declared.verdict.Verdict.{Verdict}
use Rattle.rating.specs.declared.verdict.Verdict.TheVariants.{Accepted, Late}

-- What closing promises, said by the rows and the two orders' own relations alone.

-- every row has a least solution of its memory equation and one of its processor equation, under no ceiling, and
-- together they are within its deadline
pub record InTime (rows : List Row) (m p : Before) (late bound : ℕ → ℕ) : Type 0 where
  pub memory : (k : ℕ) → k < length rows → LeastSolution (memory_work rows (rows_before m rows k) k) (late k)
  pub processor : (k : ℕ) → k < length rows → LeastSolution (processor_work rows late (rows_before p rows k) k) (bound k)
  pub in_time : (k : ℕ) → k < length rows → late k + bound k ≤ (row_of rows k).deadline

-- there are such solutions
pub record Accepts (rows : List Row) (m p : Before) : Type 0 where
  pub late : ℕ → ℕ
  pub bound : ℕ → ℕ
  pub each : InTime rows m p late bound

-- the bounds that are read are these solutions
pub record BoundsRead (rows : List Row) (m p : Before) (bounds : ℕ → Option (ℕ × ℕ)) : Type 0 where
  pub late : ℕ → ℕ
  pub bound : ℕ → ℕ
  pub each : InTime rows m p late bound
  pub read : (k : ℕ) → k < length rows → bounds k ≡ Some (late k, bound k)

-- row k has no solution within its ceiling in a phase, and each row before it in the order has one
pub record FirstLate (phase : Phase) (rows : List Row) (late : ℕ → ℕ) (b : Before) (k : ℕ) : Type 0 where
  pub within : k < length rows
  pub none : (w : ℕ) → w ≤ ceiling_of phase (row_of rows k) (late k) → work_of phase rows late (rows_before b rows k) k w ≢ w
  pub before : (j : ℕ) → j < length rows → comes b rows j k ≡ true → (w : ℕ) × LeastAt (work_of phase rows late (rows_before b rows j) j) (ceiling_of phase (row_of rows j) (late j)) w

-- every row has a memory bound within its ceiling
abbrev pub MemoryInTime : List Row → Before → (ℕ → ℕ) → Type 0
MemoryInTime rows m late = (k : ℕ) → k < length rows → LeastAt (memory_work rows (rows_before m rows k) k) (ceiling_of Memory (row_of rows k) 0) (late k)

-- a late verdict names the phase and the first row in its order without a solution; the processor comes after the memory
abbrev pub LateBy : List Row → Before → Before → Verdict → Type 0
LateBy rows m p Accepted = Unit {0}
LateBy rows m p (Late Memory k) = FirstLate Memory rows never m k
LateBy rows m p (Late Processor k) = (late : ℕ → ℕ) × (MemoryInTime rows m late × FirstLate Processor rows late p k)
