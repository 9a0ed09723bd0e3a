use Rattle.std.specs.Prelude.{◌≡◌, ℕ, ◌<◌, ◌≤◌, List, length}
use Rattle.layers.specs.Cuts.{Capped, cut}
use Rattle.layers.specs.Gates.{Spaced, spacing}
use Rattle.layers.specs.declared.cutoff.CutOff.{CutOff}
use Rattle.layers.specs.declared.gate.Gate.{Gate}
use Rattle.rating.specs.Bounds.{row_of}
use Rattle.rows.specs.declared.row.Row.{Row}

-- a cut-off over f has each row's costs as ceilings, and cuts nothing at the other marks
pub record CutTo {F : Type 0} (rows : List Row) (f : F) (x : CutOff F) : Type 0 where
  pub below : x.below ≡ f
  pub here : (k : ℕ) → k < length rows → Capped (cut x k) (row_of rows k).memory (row_of rows k).compute
  pub others : (k : ℕ) → length rows ≤ k → Capped (cut x k) 1000000 1000000

-- a gate over f stands open with each row's period as distance, and holds nothing back at the other marks
pub record SpacedBy {F : Type 0} (rows : List Row) (f : F) (x : Gate F) : Type 0 where
  pub below : x.below ≡ f
  pub here : (k : ℕ) → k < length rows → Spaced (spacing x k) (row_of rows k).period 0
  pub others : (k : ℕ) → length rows ≤ k → Spaced (spacing x k) 1 0
