use Rattle.std.specs.Prelude.{◌≡◌, ℕ, ◌+◌, true, List, [], ◌∷◌, ◌++◌, length, is_some, Some, None, Option}
use Rattle.feeds.specs.Meanings.{Taken}
use Rattle.layers.specs.Gates.{GateAdvanced, GateTaken, Spaced, gate_view, spacing}
use Rattle.layers.specs.declared.gate.Gate.{Gate}
use Rattle.lists.specs.Lists.{Drawn, Later, ListMade, listing}
use Rattle.lists.specs.declared.list.List.{List as Listed}

-- Two gates above a list: their distances at a mark, and what the pile pledges there.
pub record Gates : Type 0 where
  pub lower : ℕ
  pub upper : ℕ
  pub pledged : ℕ

pub record GatesRight (f : Gates) : Type 0 where
  pub distance : (x : Gate (Gate Listed)) (k : ℕ) → (spacing x.below k).distance.steps ≡ f.lower → (spacing x k).distance.steps ≡ f.upper
      → (gate_view (gate_view listing) x).distance k ≡ f.pledged

-- A gate above a list, and what is taken at a mark if every step takes what is offered there and then advances.

-- a taking from a gate above a list: what the contract of the gate says, and what that of the list says of what is below
pub record PileTaken (x : Gate Listed) (k : ℕ) (r : Option (ℕ × ℕ)) (y : Gate Listed) : Type 0 where
  pub whole : Taken (gate_view listing x) k r (gate_view listing y)
  pub gate : GateTaken listing x k r y
  pub list : is_some r ≡ true → Drawn x.below k y.below

-- and an advance, likewise
pub record PileAdvanced (x y : Gate Listed) : Type 0 where
  pub gate : GateAdvanced listing x y
  pub list : Later x.below y.below

-- from x on, the steps answer rs at mark k
abbrev pub Answers : ℕ → Gate Listed → List (Option (ℕ × ℕ)) → Type 0
Answers k x [] = Unit {0}
Answers k x (r ∷ rs) =
    (y : Gate Listed) × ((z : Gate Listed) × ((PileTaken x k r y × PileAdvanced y z) × Answers k z rs))

-- the numbers, from t on, of the steps in which something is taken
abbrev pub taken_from : ℕ → List (Option (ℕ × ℕ)) → List ℕ
taken_from t [] = []
taken_from t (None ∷ rs) = taken_from (t + 1) rs
taken_from t (Some p ∷ rs) = t ∷ taken_from (t + 1) rs

-- a list, a mark from 0 to 31, the gate's distance there, a number of steps, and those of them in which something is taken
pub record Passage : Type 0 where
  pub bytes : List ℕ
  pub mark : ℕ
  pub distance : ℕ
  pub steps : ℕ
  pub taken : List ℕ

-- a gate of distance d at mark k, open there, above a new list of bytes
pub record NewPile (bs : List ℕ) (k d : ℕ) (x : Gate Listed) : Type 0 where
  pub list : ListMade bs x.below
  pub spaced : Spaced (spacing x k) d 0

pub record PassageRight (f : Passage) : Type 0 where
  pub taken : (x : Gate Listed) (rs : List (Option (ℕ × ℕ))) → NewPile f.bytes f.mark f.distance x → length rs ≡ f.steps
      → Answers f.mark x rs → taken_from 0 rs ≡ f.taken

-- a record of small figures
abbrev pub arrival : ℕ → ℕ → ℕ → ℕ → List ℕ
arrival step m c row = 0 ∷ 0 ∷ 0 ∷ step ∷ 0 ∷ 0 ∷ 0 ∷ m ∷ 0 ∷ 0 ∷ 0 ∷ c ∷ row ∷ 0 ∷ 0 ∷ 0 ∷ []

-- row 0 at steps 3 and 4
abbrev pub twice : List ℕ
twice = arrival 3 1 1 0 ++ arrival 4 1 1 0
