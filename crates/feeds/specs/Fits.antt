use Rattle.std.specs.Prelude.{◌≡◌, ℕ, ◌<◌, ◌≤◌, List, length, Ok, Err, Result}
use Rattle.rating.specs.Bounds.{row_of}
use Rattle.rows.specs.declared.row.Row.{Row}
use Rattle.feeds.specs.Meanings.{View}
use Rattle.feeds.specs.declared.fit.Misfit.{Misfit}

abbrev pub fit_number : Misfit → ℕ
fit_number _ = 62

-- what is shown at mark k keeps a row's figures
pub record Meets (v : View) (k : ℕ) (row : Row) : Type 0 where
  pub distance : row.period ≤ v.distance k
  pub memory : v.memory k ≤ row.memory
  pub processor : v.processor k ≤ row.compute

-- a pledge fits rows if it keeps the figures of each of them
abbrev pub Fitting : View → List Row → Type 0
Fitting v rows = (k : ℕ) → k < length rows → Meets v k (row_of rows k)

-- the first row that it does not keep, and the letter of its kind
pub record FirstMisfit (v : View) (own : ℕ) (rows : List Row) (e : Misfit) : Type 0 where
  pub within : e.row < length rows
  pub before : (k : ℕ) → k < e.row → Meets v k (row_of rows k)
  pub fails : Meets v e.row (row_of rows e.row) → ⊥
  pub letter : e.letter ≡ own

abbrev pub Fits : View → ℕ → List Row → Result Unit Misfit → Type 0
Fits v letter rows (Ok _) = Fitting v rows
Fits v letter rows (Err e) = FirstMisfit v letter rows e
