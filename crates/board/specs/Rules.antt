use Rattle.std.specs.Prelude.{◌≡◌, ℕ, ◌<◌, ◌≤◌, Bool, true, false, List, Some, None, Option, ◌≢◌, slice_index_or}
use Rattle.rating.specs.declared.verdict.Phase.{Phase}
use Rattle.rating.specs.declared.verdict.Phase.TheVariants.{Memory, Processor}
use Rattle.feeds.specs.Meanings.{SamePledge, View}
use Rattle.schedule.specs.Places.{is_computing, is_loading, moved}
use Rattle.schedule.specs.declared.place.Slot.{Slot}
use Rattle.schedule.specs.declared.place.Slot.TheVariants.{Empty}
use Rattle.board.specs.Runs.{Drawn, DrawnAt, offered, place, placed, response, taking}
use Rattle.board.specs.declared.run.Run.{Run}

-- The rules of a step one by one, as the parts of a step show them.

module _ {A B P : Type 0} (view : P → View) where
  -- u is s but for its pile and its places
  pub record Same (s u : Run A B P) : Type 0 where
    pub rating : u.rating ≡ s.rating
    pub number : u.number ≡ s.number

  -- the first rule at row k
  pub record EnteredAt (k : ℕ) (s u : Run A B P) : Type 0 where
    pub here : place u k ≡ placed view s k
    pub elsewhere : (j : ℕ) → (j ≢ k) → place u j ≡ place s j
    pub drawn : DrawnAt view k (taking view s k) s.pile u.pile
    pub pledged : SamePledge (view s.pile) (view u.pile)
    pub taken : taking view s k ≡ true → (view u.pile).rest k ≡ (view s.pile).distance k
    pub left : taking view s k ≡ false → (view u.pile).rest k ≡ (view s.pile).rest k
    pub others : (j : ℕ) → (j ≢ k) → ((view u.pile).rest j ≡ (view s.pile).rest j) × (offered view u j ≡ offered view s j)
    pub same : Same s u

  -- the first rule at the rows below i
  pub record Entered (i : ℕ) (s u : Run A B P) : Type 0 where
    pub done : (k : ℕ) → k < i → place u k ≡ placed view s k
    pub ahead : (k : ℕ) → i ≤ k → (place u k ≡ place s k) × ((view u.pile).rest k ≡ (view s.pile).rest k) × (offered view u k ≡ offered view s k)
    pub drawn : Drawn view i (taking view s) s.pile u.pile
    pub pledged : SamePledge (view s.pile) (view u.pile)
    pub taken : (k : ℕ) → k < i → taking view s k ≡ true → (view u.pile).rest k ≡ (view s.pile).distance k
    pub left : (k : ℕ) → k < i → taking view s k ≡ false → (view u.pile).rest k ≡ (view s.pile).rest k
    pub same : Same s u

-- who waits for the resource of a phase
abbrev pub waits_for : Phase → Slot → Bool
waits_for Memory s = is_loading s
waits_for Processor s = is_computing s

-- a place that is served on the resource of a phase
abbrev pub served_on : Phase → Slot → Slot
served_on Memory s = moved true false s
served_on Processor s = moved false true s

abbrev pub slot_at : List Slot → ℕ → Slot
slot_at places k = slice_index_or places k Empty

-- which row finishes in step t, if the processor serves a row
abbrev pub ends : ℕ → List Slot → Option ℕ → Option (ℕ × ℕ)
ends t places None = None
ends t places (Some k) = response t k (slot_at places k)
