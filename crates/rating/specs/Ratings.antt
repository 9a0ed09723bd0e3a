use Rattle.std.specs.Prelude.{ℕ, ◌<◌, cond, ◌&&◌, List, length, Some, None, Option, nat_lt}
use Rattle.rows.specs.Drafts.{rows_of}
use Rattle.rows.specs.declared.draft.Draft.{Draft}
use Rattle.rows.specs.declared.row.Row.{Row}
use Rattle.rating.specs.Bounds.{is_accepted, memory_figure_of, processor_figure_of}
use Rattle.rating.specs.Found.{verdict_found}
use Rattle.rating.specs.Ranked.{ranked}
use Rattle.rating.specs.declared.ranked.RankedDraft.{RankedDraft}
use Rattle.rating.specs.declared.ranking.Ranking.{Ranking}
use Rattle.rating.specs.declared.rating.Analysis.{Analysis}
use Rattle.rating.specs.declared.rating.Rating.{Rating}
use Rattle.rating.specs.declared.verdict.Phase.{Phase}
use Rattle.rating.specs.declared.verdict.Phase.TheVariants.{Memory, Processor}
use Rattle.rating.specs.declared.verdict.Verdict.{Verdict}
use Rattle.rating.specs.declared.verdict.Verdict.TheVariants.{Accepted, Late}

-- a late verdict names one of the rows
abbrev pub LateRow : List Row → Verdict → Type 0
LateRow rows Accepted = Unit {0}
LateRow rows (Late _ k) = k < length rows

-- the bounds that an analysis has of a row
abbrev pub bounds_of : Analysis → ℕ → Option (ℕ × ℕ)
bounds_of x i =
    cond (is_accepted (verdict_found x.found) && nat_lt i (length (rows_of x.ranked.draft)))
    (Some (
      memory_figure_of (rows_of x.ranked.draft) (ranked x.ranked.memory) i,
      processor_figure_of (rows_of x.ranked.draft) (ranked x.ranked.memory) (ranked x.ranked.processor) i,
    ))
    None

-- the ranking of a phase
abbrev pub ranking_of : RankedDraft → Phase → Ranking
ranking_of d Memory = d.memory
ranking_of d Processor = d.processor

module _ {A B : Type 0} where
  abbrev pub verdict_in : Rating A B → Verdict
  verdict_in r = verdict_found r.analysis.found

  abbrev pub draft_in : Rating A B → Draft
  draft_in r = r.analysis.ranked.draft

  abbrev pub ranking_in : Rating A B → Phase → Ranking
  ranking_in r = ranking_of r.analysis.ranked

  abbrev pub bounds_at : Rating A B → ℕ → Option (ℕ × ℕ)
  bounds_at r i = bounds_of r.analysis i
