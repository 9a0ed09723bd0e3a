use Rattle.std.specs.Prelude.{◌≡◌, ℕ, ◌+◌, ◌<◌, ◌≤◌, List, length, slice_index_or}
use Rattle.rows.specs.declared.row.Row.{Row}

-- the rows behind place i, up to place m, have moved down by one, and nothing else has changed
pub record GapClosed (xs ys : List Row) (i m : ℕ) : Type 0 where
  pub long : length ys ≡ length xs
  pub below : (k : ℕ) (d : Row) → k < i → slice_index_or ys k d ≡ slice_index_or xs k d
  pub moved : (k : ℕ) (d : Row) → i ≤ k → k < m → slice_index_or ys k d ≡ slice_index_or xs (k + 1) d
  pub above : (k : ℕ) (d : Row) → m ≤ k → slice_index_or ys k d ≡ slice_index_or xs k d
