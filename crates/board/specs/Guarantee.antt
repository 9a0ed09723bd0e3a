use Rattle.std.specs.Prelude.{◌≡◌, ℕ, ◌+◌, ◌-◌, ◌*◌, ◌<◌, ◌≤◌, true, List, ◌∷◌, ◌++◌, length, Some}
use Rattle.rows.specs.declared.row.Row.{Row}
use Rattle.rating.specs.Bounds.{is_accepted, row_of}
use Rattle.rating.specs.Closing.{Accepts}
use Rattle.rating.specs.Orders.{Before, Sequence}
use Rattle.rating.specs.Quotients.{ceil}
use Rattle.rating.specs.Ratings.{bounds_at, verdict_in}
use Rattle.feeds.specs.Fits.{Fitting}
use Rattle.feeds.specs.Meanings.{View}
use Rattle.schedule.specs.Places.{LivesIn, LoadsIn, job}
use Rattle.schedule.specs.declared.place.Slot.TheVariants.{Empty}
use Rattle.board.specs.Chains.{Reached, served}
use Rattle.board.specs.Runs.{Along, Choice, FirstBy, New, Stepped, memory_ranking, offered, place, placed, processor_ranking, rows_in}
use Rattle.board.specs.declared.run.Answer.{Answer}
use Rattle.board.specs.declared.run.Run.{Run}

-- the past steps of a run, the newest first
abbrev pub Past : Type 0 → Type 0 → Type 0 → Type 0
Past A B P = List (Run A B P × Answer)

-- What holds of a run s and its past steps, where `view` tells what a pile shows, and RM and RC are the bounds of the rows.
pub record Guarantee {A B P : Type 0} (view : P → View) (rows : List Row) (RM RC : ℕ → ℕ) (past : Past A B P) (s : Run A B P) : Type 0 where
  -- whatever was offered to a row in a past step found the row's place empty, and was admitted in that step: it became the
  -- row's job, with its memory and processor steps and the number of the step
  pub admits : (newer older : Past A B P) (v : Run A B P) (answer : Answer) → past ≡ newer ++ ((v, answer) ∷ older)
      → (k : ℕ) → k < length rows → (p : ℕ × ℕ) → offered view v k ≡ Some p → (place v k ≡ Empty) × (placed view v k ≡ job p v.number)
  -- a job that still loads is younger than RM, and one that still loads or computes is younger than RM + RC
  pub loading : (k : ℕ) → k < length rows → LoadsIn (RM k) s.number (place s k)
  pub living : (k : ℕ) → k < length rows → LivesIn (RM k + RC k) s.number (place s k)
  -- in any L ≥ 1 consecutive past steps a row held the memory in at most M × ⌈(L + RM - 1) / T⌉ of them, and the processor
  -- in at most C × ⌈(L + RM + RC - 1) / T⌉
  pub memory_share : (newer steps older : Past A B P) → past ≡ newer ++ (steps ++ older) → 1 ≤ length steps
      → (k : ℕ) → k < length rows
      → served (λ a. a.memory) k steps ≤ (row_of rows k).memory * ceil (length steps + RM k - 1) (row_of rows k).period
  pub processor_share : (newer steps older : Past A B P) → past ≡ newer ++ (steps ++ older) → 1 ≤ length steps
      → (k : ℕ) → k < length rows
      → served (λ a. a.processor) k steps ≤ (row_of rows k).compute * ceil (length steps + RM k + RC k - 1) (row_of rows k).period

-- whatever the run r of these rows reaches by steps in which the resources choose as told keeps the guarantee
abbrev pub AlwaysKeeps : {A B P : Type 0} → (P → View) → List Row → Choice → Choice → (ℕ → ℕ) → (ℕ → ℕ) → Run A B P → Type 0
AlwaysKeeps {A} {B} {P} view rows by_memory by_processor RM RC r =
    (past : Past A B P) (s : Run A B P) → Reached (Stepped view by_memory by_processor) r past s → Guarantee view rows RM RC past s

-- RM and RC are the bounds that the rating of a run answers for its rows
abbrev pub BoundsOf : {A B P : Type 0} → Run A B P → (ℕ → ℕ) → (ℕ → ℕ) → Type 0
BoundsOf r RM RC = (k : ℕ) → k < length (rows_in r) → bounds_at r.rating k ≡ Some (RM k, RC k)

-- if the rating of the run r is accepted and its pile fits it, whatever r reaches keeps the guarantee, with the bounds that
-- the rating answers
abbrev pub Assured : {A B P : Type 0} → (P → View) → Run A B P → Type 0
Assured view r = is_accepted (verdict_in r.rating) ≡ true → Fitting (view r.pile) (rows_in r)
    → (RM RC : ℕ → ℕ) → BoundsOf r RM RC
    → AlwaysKeeps view (rows_in r) (Along (memory_ranking r)) (Along (processor_ranking r)) RM RC r

-- The same for rows under two orders, said by their own relations: if both equations of every row have least solutions in
-- time and the pile fits the rows, whatever r reaches while each resource serves the first waiting row in its order keeps
-- the guarantee, with these solutions as bounds.
abbrev pub AssuredBy : {A B P : Type 0} → (P → View) → List Row → Before → Before → Run A B P → Type 0
AssuredBy view rows m p r = (a : Accepts rows m p) → Fitting (view r.pile) rows
    → AlwaysKeeps view rows (FirstBy m rows) (FirstBy p rows) a.late a.bound r

-- each step along the rankings of the run r serves the first waiting rows in the two orders
abbrev pub ServesBy : {A B P : Type 0} → (P → View) → List Row → Before → Before → Run A B P → Type 0
ServesBy {A} {B} {P} view rows m p r = (past : Past A B P) (s : Run A B P)
    → Reached (Stepped view (Along (memory_ranking r)) (Along (processor_ranking r))) r past s → Reached (Stepped view (FirstBy m rows) (FirstBy p rows)) r past s

-- The guarantee, for every feed, told by its view alone: for every run that is new, and, where it is of these rows, for any
-- two orders.
abbrev pub GuaranteeStands : Type 0 → Type 0 → Type 0 → Type 0
GuaranteeStands A B P = (view : P → View) (r : Run A B P) → New r → Assured view r

abbrev pub OrdersStand : Type 0 → Type 0 → Type 0 → Type 0
OrdersStand A B P = (view : P → View) (r : Run A B P) → New r → (m p : Sequence) → AssuredBy view (rows_in r) m.before p.before r
