use Rattle.std.specs.Prelude.{◌≡◌, ℕ, ◌<◌, List, length, Some, Ok, Err, Result}
use Rattle.rows.specs.declared.row.Row.{Row}
use Rattle.rating.specs.Bounds.{figure_at, memory_bound, processor_bound}
use Rattle.rating.specs.declared.rating.Bounds.{Bounds}
use Rattle.rating.specs.declared.verdict.NoBound.{NoBound}
use Rattle.rating.specs.declared.verdict.Verdict.{Verdict}
use Rattle.rating.specs.declared.verdict.Verdict.TheVariants.{Accepted, Late}

-- the verdict on a draft, by what its analysis found
abbrev pub verdict_found : Result Bounds NoBound → Verdict
verdict_found (Ok _) = Accepted
verdict_found (Err none) = Late none.phase none.row

-- the bounds are those that two rankings give every row
abbrev pub AreBounds : List Row → List ℕ → List ℕ → Bounds → Type 0
AreBounds rows ms ps b =
    (k : ℕ) → k < length rows → (memory_bound rows ms k ≡ Some (figure_at b.memory k)) × (processor_bound rows ms ps k ≡ Some (figure_at b.processor k))
