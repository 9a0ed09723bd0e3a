use Rattle.std.proofs.Common.{◌≡◌, ℕ, ◌+◌, ◌*◌, ◌<◌, true, List, length, get_or, is_some, Some, None, Option, unwrap_or, sym, refl, ap, ◌∙◌, subst, arith}
use Rattle.rows.specs.declared.row.Row.{Row}
use Rattle.rating.specs.Bounds.{bound_of, ceiling_of, first_none, is_accepted, judged, memory_asked, memory_bound, memory_figure_of, memory_work, never, processor_asked, processor_bound, processor_figure_of, processor_work, row_of, verdict_of, work_of}
use Rattle.rating.specs.Closing.{Accepts, FirstLate, InTime, LateBy}
use Rattle.rating.specs.Curves.{least_within}
use Rattle.rating.specs.Orders.{Sequence, comes}
use Rattle.rating.specs.Quotients.{ceil}
use Rattle.rating.specs.Rankings.{Agrees, Permutes, front_of, rows_before, sum_over, up_to}
use Rattle.rating.specs.declared.verdict.Phase.{Phase}
use Rattle.rating.specs.declared.verdict.Phase.TheVariants.{Memory, Processor}
use Rattle.rating.specs.declared.verdict.Verdict.TheVariants.{Accepted, Late}
use Rattle.rating.proofs.Below.{Below, below-before, below-front, below-permutes, sum_same}
use Rattle.rating.proofs.Curves.{found_least, least_found, least_within-none, least_within-same, least_within-some}
use Rattle.rating.proofs.Firsts.{all-some, first-at, some-value}
use Rattle.rating.proofs.Fronts.{place_before, sum_front}
use Rattle.rating.proofs.Verdicts.{all-bounded, each-some, within-deadline}

-- A curve depends on how late the rows of its front are, and on no other row.
work_late : (phase : Phase) (rows : List Row) (d e : ℕ → ℕ) (front : List ℕ) (k w n : ℕ) → Below n front → ((i : ℕ) → i < n → d i ≡ e i)
    → work_of phase rows d front k w ≡ work_of phase rows e front k w
work_late Memory rows d e front k w n a h = refl
work_late Processor rows d e front k w n a h =
    ap (λ x. (row_of rows k).compute + x)
    (sum_same n (processor_asked rows d w) (processor_asked rows e w) front a (λ i l. ap (λ x. ceil (w + x) (row_of rows i).period * (row_of rows i).compute) (h i l)))

pub bound-late : (phase : Phase) (rows : List Row) (d e : ℕ → ℕ) (front : ℕ → List ℕ) (k n : ℕ) → k < n → Below n (front k) → ((i : ℕ) → i < n → d i ≡ e i)
    → bound_of phase rows d front k ≡ bound_of phase rows e front k
bound-late phase rows d e front k n within a h =
    least_within-same (work_of phase rows d (front k) k) (work_of phase rows e (front k) k) (ceiling_of phase (row_of rows k) (d k)) (λ w. work_late phase rows d e (front k) k w n a h)
    ∙ ap (λ x. least_within (work_of phase rows e (front k) k) (ceiling_of phase (row_of rows k) x)) (h k within)

no_none : (rows : List Row) (rs : List ℕ) → Permutes (length rows) rs → (bound : ℕ → Option ℕ) (b : ℕ → ℕ) → ((k : ℕ) → k < length rows → bound k ≡ Some (b k))
    → first_none bound rs ≡ None
no_none rows rs r bound b f =
    all-some bound rs (λ p h. ap is_some (f (get_or rs p 0) (r.number p (let l : p < length rows = omega (arith, r.long) in l))))

-- A ranking that agrees with an order gives the bounds that the order's own relation gives.
module _ (s : Sequence) (rows : List Row) (rs : List ℕ) (a : Agrees s.before rows rs) (sums : (h : ℕ → ℕ) → sum_over h rs ≡ sum_over h (up_to (length rows))) where
  work_agrees : (phase : Phase) (late : ℕ → ℕ) (k : ℕ) → k < length rows → (w : ℕ)
      → work_of phase rows late (front_of rs k) k w ≡ work_of phase rows late (rows_before s.before rows k) k w
  work_agrees Memory late k h w = ap (λ x. (row_of rows k).memory + x) (sum_front s rows rs a sums k h (memory_asked rows w))
  work_agrees Processor late k h w = ap (λ x. (row_of rows k).compute + x) (sum_front s rows rs a sums k h (processor_asked rows late w))

  pub bound_agrees : (phase : Phase) (late : ℕ → ℕ) (k : ℕ) → k < length rows
      → bound_of phase rows late (front_of rs) k ≡ bound_of phase rows late (rows_before s.before rows) k
  bound_agrees phase late k h =
      least_within-same (work_of phase rows late (front_of rs k) k) (work_of phase rows late (rows_before s.before rows k) k) _ (work_agrees phase late k h)

  -- the first number of the ranking without a bound is the first row in the order without a solution
  pub first_late_is : (phase : Phase) (late : ℕ → ℕ) (k : ℕ) → first_none (bound_of phase rows late (front_of rs)) rs ≡ Some k → FirstLate phase rows late s.before k
  first_late_is phase late k e =
      let f = first-at (bound_of phase rows late (front_of rs)) rs k e
      in let placed : f.place < length rows = omega (arith, f.within, a.permutes.long)
      in let here : k < length rows = subst (λ i. i < length rows) f.here (a.permutes.number f.place placed)
      in record {
        within = here;
        none = least_within-none (work_of phase rows late (rows_before s.before rows k) k) _ (sym (bound_agrees phase late k here) ∙ f.none);
        before = λ j l c.
            let q = a.permutes.each j l
            in let sooner : q.0 < f.place
            = place_before s rows rs a f.place q.0 placed q.1.0 (subst (λ i. comes s.before rows i (get_or rs f.place 0) ≡ true) (sym q.1.1) (subst (λ i. comes s.before rows j i ≡ true) (sym f.here) c))
            in let some = subst (λ i. is_some (bound_of phase rows late (front_of rs) i) ≡ true) q.1.1 (f.before q.0 sooner)
            in (
              unwrap_or (bound_of phase rows late (front_of rs) j) 0,
              least_within-some (work_of phase rows late (rows_before s.before rows j) j) _ _ (sym (bound_agrees phase late j l) ∙ some-value (bound_of phase rows late (front_of rs) j) some),
            );
      }

-- where every row has both bounds, the verdict is accepted
pub accepted_by : (rows : List Row) (ms ps : List ℕ) → Permutes (length rows) ms → Permutes (length rows) ps → (m p : ℕ → ℕ)
    → ((k : ℕ) → k < length rows → memory_bound rows ms k ≡ Some (m k)) → ((k : ℕ) → k < length rows → processor_bound rows ms ps k ≡ Some (p k))
    → verdict_of rows ms ps ≡ Accepted
accepted_by rows ms ps am ap' m p f g =
    ap (λ o. judged o (first_none (processor_bound rows ms ps) ps)) (no_none rows ms am (memory_bound rows ms) m f)
    ∙ ap (λ o. judged None o) (no_none rows ps ap' (processor_bound rows ms ps) p g)

-- where every row has a memory bound, the first without a processor bound makes it late
pub late-at_processor : (rows : List Row) (ms ps : List ℕ) → Permutes (length rows) ms → (m : ℕ → ℕ)
    → ((k : ℕ) → k < length rows → memory_bound rows ms k ≡ Some (m k)) → (k : ℕ) → first_none (processor_bound rows ms ps) ps ≡ Some k → verdict_of rows ms ps ≡ Late Processor k
late-at_processor rows ms ps am m f k e =
    ap (λ o. judged o (first_none (processor_bound rows ms ps) ps)) (no_none rows ms am (memory_bound rows ms) m f) ∙ ap (λ o. judged None o) e

-- the bounds found at the memory are what the processor's rows are late by
pub processor_late : (rows : List Row) (ms ps : List ℕ) → Permutes (length rows) ps → (m : ℕ → ℕ)
    → ((k : ℕ) → k < length rows → memory_bound rows ms k ≡ Some (m k)) → (k : ℕ) → k < length rows
    → bound_of Processor rows m (front_of ps) k ≡ processor_bound rows ms ps k
processor_late rows ms ps ap' m f k h =
    bound-late Processor rows m (memory_figure_of rows ms) (front_of ps) k (length rows) h (below-front (length rows) ps k (below-permutes (length rows) ps ap'))
    (λ i l. sym (ap (λ o. unwrap_or o 0) (f i l)))

-- Two rankings that agree with two orders.
module _ (rows : List Row) (s t : Sequence) (ms ps : List ℕ) (am : Agrees s.before rows ms) (ap' : Agrees t.before rows ps)
    (sm : (h : ℕ → ℕ) → sum_over h ms ≡ sum_over h (up_to (length rows))) (sp : (h : ℕ → ℕ) → sum_over h ps ≡ sum_over h (up_to (length rows))) where
  -- the solutions that an accepted table has
  pub in_time : is_accepted (verdict_of rows ms ps) ≡ true → InTime rows s.before t.before (memory_figure_of rows ms) (processor_figure_of rows ms ps)
  in_time e =
      let all = all-bounded rows ms ps am.permutes ap'.permutes e
      in record {
        memory = λ k h. found_least (memory_work rows (rows_before s.before rows k) k) _ _ (sym (bound_agrees s rows ms am sm Memory never k h) ∙ (all k h).memory);
        processor = λ k h.
            found_least (processor_work rows (memory_figure_of rows ms) (rows_before t.before rows k) k) _ _
            (sym (bound_agrees t rows ps ap' sp Processor (memory_figure_of rows ms) k h) ∙ (all k h).processor);
        in_time = λ k h. within-deadline rows ms ps k _ _ (all k h).memory (all k h).processor;
      }

  -- solutions within the deadlines are found, since a processor bound leaves no less than the row's own cost
  module _ (late bound : ℕ → ℕ) (i : InTime rows s.before t.before late bound) where
    memory_found : (k : ℕ) → k < length rows → memory_bound rows ms k ≡ Some (late k)
    memory_found k h =
        bound_agrees s rows ms am sm Memory never k h
        ∙ least_found (memory_work rows (rows_before s.before rows k) k) (ceiling_of Memory (row_of rows k) 0) (late k) (i.memory k h)
        (omega (arith, i.in_time k h, (i.processor k h).solves))

    memory_is : (k : ℕ) → k < length rows → memory_figure_of rows ms k ≡ late k
    memory_is k h = ap (λ o. unwrap_or o 0) (memory_found k h)

    processor_found : (k : ℕ) → k < length rows → processor_bound rows ms ps k ≡ Some (bound k)
    processor_found k h =
        bound_agrees t rows ps ap' sp Processor (memory_figure_of rows ms) k h
        ∙ bound-late Processor rows (memory_figure_of rows ms) late (rows_before t.before rows) k (length rows) h (below-before t.before rows k) memory_is
        ∙ least_found (processor_work rows late (rows_before t.before rows k) k) (ceiling_of Processor (row_of rows k) (late k)) (bound k) (i.processor k h)
        (omega (arith, i.in_time k h))

  pub accepts : Accepts rows s.before t.before → is_accepted (verdict_of rows ms ps) ≡ true
  accepts x =
      ap is_accepted (accepted_by rows ms ps am.permutes ap'.permutes x.late x.bound (memory_found x.late x.bound x.each) (processor_found x.late x.bound x.each))

  pub late_by : LateBy rows s.before t.before (verdict_of rows ms ps)
  late_by = go (first_none (memory_bound rows ms) ms) refl (first_none (processor_bound rows ms ps) ps) refl
    where
      go : (o : Option ℕ) → first_none (memory_bound rows ms) ms ≡ o → (q : Option ℕ) → first_none (processor_bound rows ms ps) ps ≡ q
          → LateBy rows s.before t.before (judged o q)
      go (Some k) e q f = first_late_is s rows ms am sm Memory never k e
      go None e (Some k) f = (
        memory_figure_of rows ms,
        (
          (λ j h.
              least_within-some (memory_work rows (rows_before s.before rows j) j) _ _
              (sym (bound_agrees s rows ms am sm Memory never j h) ∙ each-some (memory_bound rows ms) (length rows) ms am.permutes e j h)),
          first_late_is t rows ps ap' sp Processor (memory_figure_of rows ms) k f,
        ),
      )
      go None e None f = tt
