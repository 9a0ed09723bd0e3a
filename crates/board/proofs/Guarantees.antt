-- The guarantee: whatever a new run reaches is a trace of the theory.
use Rattle.std.proofs.Common.{◌≡◌, ℕ, zero, suc, ◌+◌, ◌-◌, ◌*◌, ◌<◌, ◌≤◌, List, ◌∷◌, ◌++◌, length, Some, None, Option, sym, refl, ap, ◌∙◌, subst, arith, length-append}
use Rattle.rows.specs.Drafts.{rows_of}
use Rattle.rows.specs.declared.row.Row.{Row}
use Rattle.rows.proofs.RowLists.{rows-valid}
use Rattle.rating.specs.Bounds.{row_of}
use Rattle.rating.specs.Closing.{InTime}
use Rattle.rating.specs.Orders.{Sequence, comes}
use Rattle.rating.specs.Quotients.{ceil}
use Rattle.rating.specs.Ratings.{draft_in}
use Rattle.feeds.specs.Fits.{Fitting}
use Rattle.feeds.specs.Meanings.{Offered, SamePledge, View}
use Rattle.schedule.specs.Places.{LivesIn, LoadsIn, Within, admitted, is_computing, is_loading, job, moved, names}
use Rattle.schedule.specs.Resources.{Chosen}
use Rattle.schedule.specs.declared.place.Slot.TheVariants.{Empty}
use Rattle.schedule.specs.Traces.{InBounds, Trace, TwoPhase}
use Rattle.schedule.proofs.TwoPhases.{two_phases_stand}
use Rattle.board.specs.Chains.{Reached, served}
use Rattle.board.specs.Guarantee.{Guarantee, OrdersStand, Past}
use Rattle.board.specs.Runs.{FirstBy, New, Stepped, offered, place, placed, rows_in}
use Rattle.board.specs.declared.run.Answer.{Answer}
use Rattle.board.specs.declared.run.Run.{Run}
use Rattle.board.proofs.Chains.{answers, begins, follow, last_state, state_at, states, window_sum}
use Rattle.board.proofs.Tasks.{solved, tasks_of}

-- an offer within the pledge's ceilings is within a row's costs, where the pledge fits the row
wider : (o : Option (ℕ × ℕ)) (rest m c M C : ℕ) → m ≤ M → c ≤ C → Offered o rest m c → Within o rest M C
wider None rest m c M C h g w = tt
wider (Some p) rest m c M C h g w = omega arith

-- stands for the answer of a step that is not there
abbrev nothing : Answer
nothing = record { step = 0; memory = None; processor = None; finished = None }

module _ {A B P : Type 0} (view : P → View) (r : Run A B P) (begun : New r) (fits : Fitting (view r.pile) (rows_in r))
    (m p : Sequence) (RM RC : ℕ → ℕ) (in_time : InTime (rows_in r) m.before p.before RM RC) where
  abbrev rows : List Row
  rows = rows_in r

  abbrev Step : Run A B P → Answer → Run A B P → Type 0
  Step = Stepped view (FirstBy m.before rows) (FirstBy p.before rows)

  module _ (past : Past A B P) (s : Run A B P) (reached : Reached Step r past s) where
    abbrev H : ℕ
    H = length past

    abbrev at : ℕ → Run A B P
    at t = states s past t

    abbrev trace : Trace
    trace = record {
      offer = λ t k. offered view (at t) k;
      rest = λ t k. (view (at t).pile).rest k;
      place = λ t k. place (at t) k;
      memory = λ t. (answers nothing past t).memory;
      processor = λ t. (answers nothing past t).processor;
    }

    step : (t : ℕ) → t < H → Step (at t) (answers nothing past t) (at (suc t))
    step t h = follow Step nothing r reached t h

    number : (t : ℕ) → t ≤ H → (at t).number ≡ t
    number zero h = ap (λ x. x.number) (begins Step nothing r reached) ∙ begun.number
    number (suc t) h = omega (arith, (step t h).number, number t (omega arith))

    -- the rating stays, and so do the rows
    rating : (t : ℕ) → t ≤ H → (at t).rating ≡ r.rating
    rating zero h = ap (λ x. x.rating) (begins Step nothing r reached)
    rating (suc t) h = (step t h).rating ∙ rating t (omega arith)

    row : (t k : ℕ) → t ≤ H → k < length rows → k < length (rows_in (at t))
    row t k h l = subst (λ x. k < length (rows_of (draft_in x))) (sym (rating t h)) l

    -- the pledge stays
    kept : (g : View → ℕ) → ((v w : View) → SamePledge v w → g w ≡ g v) → (t : ℕ) → t ≤ H → g (view (at t).pile) ≡ g (view r.pile)
    kept g same zero h = ap (λ x. g (view x.pile)) (begins Step nothing r reached)
    kept g same (suc t) h = same (view (at t).pile) (view (at (suc t)).pile) (step t h).pledged ∙ kept g same t (omega arith)

    two_phase : TwoPhase (tasks_of rows) (comes m.before rows) (comes p.before rows) (λ k. (view r.pile).distance k) H trace
    two_phase = record {
      starts = λ k l. ap (λ x. place x k) (begins Step nothing r reached) ∙ begun.places k;
      apart = λ k l. (fits k l).distance;
      offers = λ t k h l.
          wider (offered view (at t) k) ((view (at t).pile).rest k) ((view (at t).pile).memory k) ((view (at t).pile).processor k) (row_of rows k).memory (row_of rows k).compute
          (omega (arith, kept (λ v. v.memory k) (λ v w q. q.memory k) t h, (fits k l).memory))
          (omega (arith, kept (λ v. v.processor k) (λ v w q. q.processor k) t h, (fits k l).processor)) ((view (at t).pile).offers k);
      memory = λ t h.
          subst (λ x. Chosen (length rows) (comes m.before rows) (λ k. is_loading (admitted x (offered view (at t) k) (place (at t) k))) (answers nothing past t).memory)
          (number t (omega arith)) (step t h).memory;
      processor = λ t h.
          subst (λ x. Chosen (length rows) (comes p.before rows) (λ k. is_computing (admitted x (offered view (at t) k) (place (at t) k))) (answers nothing past t).processor)
          (number t (omega arith)) (step t h).processor;
      places = λ t k h l.
          subst (λ x. place (at (suc t)) k ≡ moved (names (answers nothing past t).memory k) (names (answers nothing past t).processor k) (admitted x (offered view (at t) k) (place (at t) k)))
          (number t (omega arith)) ((step t h).places k (row t k (omega arith) l));
      taken = λ t k h l e.
          (step t h).taken k (row t k (omega arith) l) e ∙ ap (λ d. d - 1) (kept (λ v. v.distance k) (λ v w q. q.distance k) t (omega arith));
      others = λ t k h l e. (step t h).others k (λ i. e);
    }

    in_bounds : InBounds (tasks_of rows) RM RC H trace
    in_bounds =
        two_phases_stand (tasks_of rows) (comes m.before rows) (comes p.before rows) RM RC (solved rows (rows-valid (draft_in r.rating) rows refl) m p RM RC in_time)
        (λ k. (view r.pile).distance k) H trace two_phase

    admits : (t : ℕ) → t < H → (k : ℕ) → k < length rows → (q : ℕ × ℕ) → offered view (at t) k ≡ Some q
        → (place (at t) k ≡ Empty) × (placed view (at t) k ≡ job q (at t).number)
    admits t h k l q e =
        subst (λ x. (place (at t) k ≡ Empty) × (admitted x (offered view (at t) k) (place (at t) k) ≡ job q x)) (sym (number t (omega arith))) (in_bounds.admits t k h l q e)

    loading : (k : ℕ) → k < length rows → LoadsIn (RM k) (at H).number (place (at H) k)
    loading k l = subst (λ x. LoadsIn (RM k) x (place (at H) k)) (sym (number H (omega arith))) (in_bounds.loading H k (omega arith) l)

    living : (k : ℕ) → k < length rows → LivesIn (RM k + RC k) (at H).number (place (at H) k)
    living k l = subst (λ x. LivesIn (RM k + RC k) x (place (at H) k)) (sym (number H (omega arith))) (in_bounds.living H k (omega arith) l)

    module _ (newer steps older : Past A B P) (is : past ≡ newer ++ (steps ++ older)) (some : 1 ≤ length steps) (k : ℕ) (l : k < length rows) where
      inside : length older + length steps ≤ H
      inside = omega (arith, ap length is, length-append newer (steps ++ older), length-append steps older)

      memory_share : served (λ a. a.memory) k steps ≤ (row_of rows k).memory * ceil (length steps + RM k - 1) (row_of rows k).period
      memory_share =
          omega (arith, in_bounds.memory_share k (length older) (length steps) l some inside, window_sum nothing (λ a. a.memory) k past newer steps older is)

      processor_share : served (λ a. a.processor) k steps ≤ (row_of rows k).compute * ceil (length steps + RM k + RC k - 1) (row_of rows k).period
      processor_share =
          let q : length steps + (RM k + RC k) - 1 ≡ length steps + RM k + RC k - 1 = omega arith in
          let share = in_bounds.processor_share k (length older) (length steps) l some inside in
          omega (arith, rw q at share, window_sum nothing (λ a. a.processor) k past newer steps older is)

    pub guarantee : Guarantee view rows RM RC past s
    guarantee = record {
      admits = λ newer older v answer is k l q.
          subst (λ x. offered view x k ≡ Some q → (place x k ≡ Empty) × (placed view x k ≡ job q x.number)) (ap (λ z. states s z (length older)) is ∙ state_at s newer (v, answer) older)
          (admits (length older) (omega (arith, ap length is, length-append newer ((v, answer) ∷ older))) k l q);
      loading = λ k l. subst (λ x. LoadsIn (RM k) x.number (place x k)) (last_state s past) (loading k l);
      living = λ k l. subst (λ x. LivesIn (RM k + RC k) x.number (place x k)) (last_state s past) (living k l);
      memory_share = memory_share;
      processor_share = processor_share;
    }

pub orders_stand : (A B P : Type 0) → OrdersStand A B P
orders_stand A B P view r begun m p a fits past s reached = guarantee view r begun fits m p a.late a.bound a.each past s reached
