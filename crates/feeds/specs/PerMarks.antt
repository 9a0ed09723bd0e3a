use Rattle.std.specs.Prelude.{◌≡◌, ℕ, ◌≢◌, slice_index_or}
use Rattle.feeds.specs.declared.per_mark.PerMark.{PerMark}

-- the value of mark k; past the last mark it is d
abbrev pub at_mark : {T : Type 0} → T → PerMark T → ℕ → T
at_mark d x k = slice_index_or x.entries k d

-- every mark but k has the same value in y as in x
abbrev pub OthersKept : {T : Type 0} → T → PerMark T → ℕ → PerMark T → Type 0
OthersKept d x k y = (j : ℕ) → (j ≢ k) → at_mark d y j ≡ at_mark d x j
