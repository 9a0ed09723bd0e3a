use Rattle.std.specs.Prelude.{ℕ, ◌<◌, List, [], ◌∷◌, length, slice_index_or}
use Rattle.figures.specs.Passages.{Gates, GatesRight, Passage, PassageRight, twice}

-- a figure of gates and lists
pub data Pile : Type 0 where
  gates : Gates → Pile
  passage : Passage → Pile

abbrev pub PileRight : Pile → Type 0
PileRight (gates f) = GatesRight f
PileRight (passage f) = PassageRight f

-- Two gates above a list, and a list of two arrivals through a gate.
abbrev pub piles : List Pile
piles =
    gates record { lower = 5; upper = 7; pledged = 7 }
    ∷ gates record { lower = 7; upper = 5; pledged = 7 }
    ∷ passage record { bytes = twice; mark = 0; distance = 5; steps = 12; taken = 3 ∷ 8 ∷ [] }
    ∷ passage record { bytes = twice; mark = 0; distance = 1; steps = 12; taken = 3 ∷ 4 ∷ [] }
    ∷ passage record { bytes = twice; mark = 1; distance = 5; steps = 12; taken = [] }
    ∷ []

abbrev pub no_pile : Pile
no_pile = gates record { lower = 1; upper = 1; pledged = 1 }

pub record PilesStand : Type 0 where
  pub each : (i : ℕ) → i < length piles → PileRight (slice_index_or piles i no_pile)
