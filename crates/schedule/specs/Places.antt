use Rattle.std.specs.Prelude.{◌≡◌, ℕ, ◌-◌, ◌<◌, ◌≤◌, Bool, true, false, cond, Some, None, Option, ◌==◌}
use Rattle.schedule.specs.declared.place.Slot.{Slot}
use Rattle.schedule.specs.declared.place.Slot.TheVariants.{Empty, Loading, Computing}

-- What one step does to the place of a row.

-- a job of m memory and c processor steps that is admitted in step t: one that has nothing to load computes at once
abbrev pub job : ℕ × ℕ → ℕ → Slot
job p t = cond (p.0 == 0) (Computing p.1 t) (Loading p.0 p.1 t)

-- an empty place takes what is offered in step t
abbrev pub admitted : ℕ → Option (ℕ × ℕ) → Slot → Slot
admitted t (Some p) Empty = job p t
admitted t None Empty = Empty
admitted t offer (Loading left compute since) = Loading left compute since
admitted t offer (Computing left since) = Computing left since

-- whether it does
abbrev pub takes : Option (ℕ × ℕ) → Slot → Bool
takes (Some p) Empty = true
takes None Empty = false
takes offer (Loading left compute since) = false
takes offer (Computing left since) = false

-- who waits for the memory, and who for the processor
abbrev pub is_loading : Slot → Bool
is_loading Empty = false
is_loading (Loading left compute since) = true
is_loading (Computing left since) = false

abbrev pub is_computing : Slot → Bool
is_computing Empty = false
is_computing (Loading left compute since) = false
is_computing (Computing left since) = true

-- whether a resource is held by row k
abbrev pub names : Option ℕ → ℕ → Bool
names None k = false
names (Some j) k = j == k

-- a step on the memory, if `loads`, or on the processor, if `computes`: loading with none left becomes computing, and
-- computing with none left leaves the place empty
abbrev pub moved : Bool → Bool → Slot → Slot
moved loads computes Empty = Empty
moved loads computes (Loading left compute since) =
    cond loads (cond (left == 1) (Computing compute since) (Loading (left - 1) compute since)) (Loading left compute since)
moved loads computes (Computing left since) = cond computes (cond (left == 1) Empty (Computing (left - 1) since)) (Computing left since)

-- an offer comes only at rest 0, with at most M memory steps and from 1 to C processor steps
abbrev pub Within : Option (ℕ × ℕ) → ℕ → ℕ → ℕ → Type 0
Within None rest M C = Unit {0}
Within (Some p) rest M C = (rest ≡ 0) × (p.0 ≤ M) × (1 ≤ p.1) × (p.1 ≤ C)

-- at step t a job that was admitted in step a is younger than the bound; its age is t less a
abbrev pub Young : ℕ → ℕ → ℕ → Type 0
Young bound t a = (a ≤ t) × (t - a < bound)

-- a job that still loads is younger than the bound; a job that still loads or computes is
abbrev pub LoadsIn : ℕ → ℕ → Slot → Type 0
LoadsIn bound t Empty = Unit {0}
LoadsIn bound t (Loading left compute since) = Young bound t since
LoadsIn bound t (Computing left since) = Unit {0}

abbrev pub LivesIn : ℕ → ℕ → Slot → Type 0
LivesIn bound t Empty = Unit {0}
LivesIn bound t (Loading left compute since) = Young bound t since
LivesIn bound t (Computing left since) = Young bound t since
