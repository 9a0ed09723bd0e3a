use Rattle.std.specs.Prelude.{◌≡◌, ℕ, ◌-◌, ◌<◌, List, ◌≢◌}
use Rattle.lists.specs.ListRecords.{sought}
use Rattle.lists.specs.declared.list.places.Place.{Place}
use Rattle.feeds.specs.PerMarks.{at_mark}
use Rattle.feeds.specs.declared.per_mark.PerMark.{PerMark}

-- the place of zeros, which stands behind the last mark
abbrev pub blank : Place
blank = record { cursor = 0; rest = 0 }

abbrev pub place_of : PerMark Place → ℕ → Place
place_of p k = at_mark blank p k

-- the place of a mark that stands at its first record among the first n, and does not rest
abbrev pub first_place : List ℕ → ℕ → ℕ → Place
first_place bs n k = record { cursor = sought bs n k 0; rest = 0 }

pub record Placed (bs : List ℕ) (n : ℕ) (p : PerMark Place) : Type 0 where
  pub marks : (k : ℕ) → k < 32 → place_of p k ≡ first_place bs n k
  pub rests : (k : ℕ) → (place_of p k).rest ≡ 0

-- mark k has moved, and no other
pub record Moved (p : PerMark Place) (k : ℕ) (place : Place) (q : PerMark Place) : Type 0 where
  pub here : place_of q k ≡ place
  pub others : (j : ℕ) → (j ≢ k) → place_of q j ≡ place_of p j

-- a place one step later
abbrev pub lower : Place → Place
lower place = record { cursor = place.cursor; rest = place.rest - 1 }
