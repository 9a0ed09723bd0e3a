use Rattle.std.specs.Prelude.{◌≡◌, ℕ, ◌+◌, ◌-◌, ◌*◌, ◌<◌, Bool, true, false, cond, List, [], ◌∷◌, length, Some, None, Ok, Err, Option, Result, ◌==◌, slice_index, slice_index_or}
use Rattle.std.specs.Option.{unwrap_or}
use Rattle.rows.specs.Rows.{blank}
use Rattle.rows.specs.declared.row.Row.{Row}
use Rattle.rating.specs.Curves.{least_within}
use Rattle.rating.specs.Quotients.{ceil}
use Rattle.rating.specs.Rankings.{front_of, sum_over}
use Rattle.rating.specs.declared.demand.Source.{Source}
use Rattle.rating.specs.declared.verdict.NoBound.{NoBound}
use Rattle.rating.specs.declared.verdict.Phase.{Phase}
use Rattle.rating.specs.declared.verdict.Phase.TheVariants.{Memory, Processor}
use Rattle.rating.specs.declared.verdict.Verdict.{Verdict}
use Rattle.rating.specs.declared.verdict.Verdict.TheVariants.{Accepted, Late}

-- the row of a number
abbrev pub row_of : List Row → ℕ → Row
row_of rows i = slice_index_or rows i blank

-- what row i asks of the memory in w steps
abbrev pub memory_asked : List Row → ℕ → ℕ → ℕ
memory_asked rows w i = ceil w (row_of rows i).period * (row_of rows i).memory

-- what row i, whose jobs become ready at most `late i` steps after they came, asks of the processor in w steps
abbrev pub processor_asked : List Row → (ℕ → ℕ) → ℕ → ℕ → ℕ
processor_asked rows late w i = ceil (w + late i) (row_of rows i).period * (row_of rows i).compute

-- the memory curve of row k, where `front` are the rows before it
abbrev pub memory_work : List Row → List ℕ → ℕ → ℕ → ℕ
memory_work rows front k w = (row_of rows k).memory + sum_over (memory_asked rows w) front

-- its processor curve
abbrev pub processor_work : List Row → (ℕ → ℕ) → List ℕ → ℕ → ℕ → ℕ
processor_work rows late front k w = (row_of rows k).compute + sum_over (processor_asked rows late w) front

abbrev pub work_of : Phase → List Row → (ℕ → ℕ) → List ℕ → ℕ → ℕ → ℕ
work_of Memory rows late = memory_work rows
work_of Processor rows late = processor_work rows late

abbrev pub cost_of : Phase → Row → ℕ
cost_of Memory row = row.memory
cost_of Processor row = row.compute

-- the highest bound that a row may have: what the other phase leaves of its deadline
abbrev pub ceiling_of : Phase → Row → ℕ → ℕ
ceiling_of Memory row late = row.deadline - row.compute
ceiling_of Processor row late = row.deadline - late

-- what a row asks of later ones: at the memory it is never late
abbrev pub source_of : Phase → Row → ℕ → Source
source_of Memory row late = record { cost = row.memory; period = row.period; delay = 0 }
source_of Processor row late = record { cost = row.compute; period = row.period; delay = late }

-- where a search may start that comes after a row with a bound, and that bound as it rises
abbrev pub start_of : ℕ → ℕ → ℕ
start_of own base = cond (own == 0) 0 (base + own)

abbrev pub raised_to : ℕ → ℕ → ℕ → ℕ
raised_to own base w = cond (own == 0) base w

-- the bound of row k in a phase: the least solution of its curve within its ceiling
abbrev pub bound_of : Phase → List Row → (ℕ → ℕ) → (ℕ → List ℕ) → ℕ → Option ℕ
bound_of phase rows late front k = least_within (work_of phase rows late (front k) k) (ceiling_of phase (row_of rows k) (late k))

abbrev pub or_else : Option ℕ → ℕ → Option ℕ → Option ℕ
or_else None k later = Some k
or_else (Some _) k later = later

-- the first number of a list at which there is none
unfoldable pub first_none : (ℕ → Option ℕ) → List ℕ → Option ℕ
first_none bound [] = None
first_none bound (k ∷ ks) = or_else (bound k) k (first_none bound ks)

-- the figure at a number
abbrev pub figure_at : List ℕ → ℕ → ℕ
figure_at figures i = slice_index figures i

-- what goes through the rows in the order rs finds: the bound of every row, or the first row that has none
abbrev pub Found : Phase → List Row → (ℕ → ℕ) → List ℕ → Result (List ℕ) NoBound → Type 0
Found phase rows late rs (Ok found) =
    (length found ≡ 32) × ((k : ℕ) → k < length rows → bound_of phase rows late (front_of rs) k ≡ Some (figure_at found k))
Found phase rows late rs (Err none) = (none.phase ≡ phase) × (first_none (bound_of phase rows late (front_of rs)) rs ≡ Some none.row)

-- The bounds that two rankings give: those of the memory come first, and make the rows late at the processor.

abbrev pub never : ℕ → ℕ
never i = 0

abbrev pub memory_bound : List Row → List ℕ → ℕ → Option ℕ
memory_bound rows ms = bound_of Memory rows never (front_of ms)

abbrev pub memory_figure_of : List Row → List ℕ → ℕ → ℕ
memory_figure_of rows ms k = unwrap_or (memory_bound rows ms k) 0

abbrev pub processor_bound : List Row → List ℕ → List ℕ → ℕ → Option ℕ
processor_bound rows ms ps = bound_of Processor rows (memory_figure_of rows ms) (front_of ps)

abbrev pub processor_figure_of : List Row → List ℕ → List ℕ → ℕ → ℕ
processor_figure_of rows ms ps k = unwrap_or (processor_bound rows ms ps k) 0

abbrev pub judged : Option ℕ → Option ℕ → Verdict
judged (Some k) second = Late Memory k
judged None (Some k) = Late Processor k
judged None None = Accepted

-- the first row in memory order without a memory bound makes it late; if there is none, the first in processor order
-- without a processor bound; if there is none, it is accepted
abbrev pub verdict_of : List Row → List ℕ → List ℕ → Verdict
verdict_of rows ms ps = judged (first_none (memory_bound rows ms) ms) (first_none (processor_bound rows ms ps) ps)

abbrev pub is_accepted : Verdict → Bool
is_accepted Accepted = true
is_accepted (Late _ _) = false
