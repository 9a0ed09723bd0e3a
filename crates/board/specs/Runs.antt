use Rattle.std.specs.Prelude.{◌≡◌, ℕ, zero, suc, ◌+◌, ◌-◌, ◌<◌, Bool, true, false, cond, List, length, Some, None, Option, ◌==◌, slice_index_or}
use Rattle.std.specs.List.{find}
use Rattle.rows.specs.Drafts.{rows_of}
use Rattle.rows.specs.declared.row.Row.{Row}
use Rattle.rating.specs.Orders.{Before, comes}
use Rattle.rating.specs.Ranked.{ranked}
use Rattle.rating.specs.Ratings.{draft_in, ranking_in}
use Rattle.rating.specs.declared.verdict.Phase.TheVariants.{Memory, Processor}
use Rattle.feeds.specs.Meanings.{Advanced, SamePledge, Taken, View}
use Rattle.schedule.specs.Places.{admitted, is_computing, is_loading, moved, names, takes}
use Rattle.schedule.specs.Resources.{Chosen}
use Rattle.schedule.specs.declared.place.Slot.{Slot}
use Rattle.schedule.specs.declared.place.Slot.TheVariants.{Empty, Loading, Computing}
use Rattle.board.specs.declared.run.Answer.{Answer}
use Rattle.board.specs.declared.run.Run.{Run}

-- One step of a run.

-- how a resource chooses among the rows that pass a test, those that wait for it
abbrev pub Choice : Type 1
Choice = (ℕ → Bool) → Option ℕ → Type 0

-- along a ranking: the first number that passes
abbrev pub Along : List ℕ → Choice
Along rs waits o = o ≡ find waits rs

-- by an order's own relation: no waiting row comes before the one that is served
abbrev pub FirstBy : Before → List Row → Choice
FirstBy b rows = Chosen (length rows) (comes b rows)

-- the response of row k, if it computes its last step in step t
abbrev pub response : ℕ → ℕ → Slot → Option (ℕ × ℕ)
response t k Empty = None
response t k (Loading left compute since) = None
response t k (Computing left since) = cond (left == 1) (Some (k, t + 1 - since)) None

module _ {P : Type 0} (view : P → View) where
  -- at mark k the pile x is taken from if told so, and otherwise left alone; y is the pile after that
  pub record DrawnAt (k : ℕ) (told : Bool) (x y : P) : Type 0 where
    pub taken : told ≡ true → Taken (view x) k ((view x).offer k) (view y)
    pub left : told ≡ false → y ≡ x

  -- the same at the marks below n, from 0 upward
  abbrev pub Drawn : ℕ → (ℕ → Bool) → P → P → Type 0
  Drawn zero told x y = y ≡ x
  Drawn (suc n) told x y = (z : P) × (Drawn n told x z × DrawnAt n (told n) z y)

module _ {A B P : Type 0} where
  -- the rows of a run, and what the place of a row holds
  abbrev pub rows_in : Run A B P → List Row
  rows_in s = rows_of (draft_in s.rating)

  abbrev pub place : Run A B P → ℕ → Slot
  place s k = slice_index_or s.places k Empty

  -- the rows in the order of each resource
  abbrev pub memory_ranking : Run A B P → List ℕ
  memory_ranking s = ranked (ranking_in s.rating Memory)

  abbrev pub processor_ranking : Run A B P → List ℕ
  processor_ranking s = ranked (ranking_in s.rating Processor)

  -- a run that has just begun
  pub record New (r : Run A B P) : Type 0 where
    pub number : r.number ≡ 0
    pub places : (k : ℕ) → place r k ≡ Empty

  module _ (view : P → View) where
    -- what the pile offers row k as a step begins
    abbrev pub offered : Run A B P → ℕ → Option (ℕ × ℕ)
    offered s k = (view s.pile).offer k

    -- what the place of row k holds after the first rule
    abbrev pub placed : Run A B P → ℕ → Slot
    placed s k = admitted s.number (offered s k) (place s k)

    -- which row finishes, if the processor serves a row
    abbrev pub finished : Run A B P → Option ℕ → Option (ℕ × ℕ)
    finished s None = None
    finished s (Some k) = response s.number k (placed s k)

    -- whether row k takes in a step
    abbrev pub taking : Run A B P → ℕ → Bool
    taking s k = takes (offered s k) (place s k)

    -- The step from s to u with its answer, where the two resources choose as told. In turn: empty places take what is
    -- offered, and the pile is taken from at these rows alone; each resource serves a row; the two lose a step, which may
    -- finish a job; the pile goes on by one step, and so does the number. So a row whose job was admitted rests for the
    -- pile's distance, counted from this step on, and every other rest falls by one.
    pub record Stepped (by_memory by_processor : Choice) (s : Run A B P) (answer : Answer) (u : Run A B P) : Type 0 where
      pub step : answer.step ≡ s.number
      pub memory : by_memory (λ k. is_loading (placed s k)) answer.memory
      pub processor : by_processor (λ k. is_computing (placed s k)) answer.processor
      pub finishes : answer.finished ≡ finished s answer.processor
      pub places : (k : ℕ) → k < length (rows_in s) → place u k ≡ moved (names answer.memory k) (names answer.processor k) (placed s k)
      pub number : u.number ≡ s.number + 1
      pub rating : u.rating ≡ s.rating
      pub drawn : (y : P) × (Drawn view (length (rows_in s)) (taking s) s.pile y × Advanced (view y) (view u.pile))
      pub pledged : SamePledge (view s.pile) (view u.pile)
      pub taken : (k : ℕ) → k < length (rows_in s) → taking s k ≡ true → (view u.pile).rest k ≡ (view s.pile).distance k - 1
      pub others : (k : ℕ) → (k < length (rows_in s) → taking s k ≡ false) → (view u.pile).rest k ≡ (view s.pile).rest k - 1
