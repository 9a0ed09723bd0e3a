use Rattle.std.proofs.Common.{◌≡◌, ℕ, true, ltb, List, length, Some, None, Decides, sym, subst}
use Rattle.std.proofs.lemmas.Bool.{and_from, cond-true, lt-ltb}
use Rattle.rows.specs.Drafts.{rows_of}
use Rattle.rows.specs.declared.row.Row.{Row}
use Rattle.rating.specs.Bounds.{is_accepted, memory_figure_of, processor_figure_of}
use Rattle.rating.specs.Closing.{Accepts, BoundsRead, LateBy}
use Rattle.rating.specs.Found.{verdict_found}
use Rattle.rating.specs.Orders.{Before, Sequence}
use Rattle.rating.specs.Ranked.{ranked}
use Rattle.rating.specs.Rankings.{Agrees, sum_over, up_to}
use Rattle.rating.specs.Ratings.{bounds_of}
use Rattle.rating.specs.declared.rating.Analysis.{Analysis}
use Rattle.rating.proofs.Exact.{accepts, in_time, late_by}
use Rattle.rating.proofs.Rankings.{sum-ranked}

-- what an analysis says of its rows under two orders
pub record Rates (x : Analysis) (rows : List Row) (m p : Before) : Type 0 where
  pub exact : Decides (is_accepted (verdict_found x.found)) (Accepts rows m p)
  pub bounds : is_accepted (verdict_found x.found) ≡ true → BoundsRead rows m p (bounds_of x)
  pub late : LateBy rows m p (verdict_found x.found)

-- an analysis whose rankings agree with the orders
module _ (x : Analysis) (s t : Sequence) (am : Agrees s.before (rows_of x.ranked.draft) (ranked x.ranked.memory)) (ap' : Agrees t.before (rows_of x.ranked.draft) (ranked x.ranked.processor)) where
  abbrev rows : List Row
  rows = rows_of x.ranked.draft

  abbrev ms : List ℕ
  ms = ranked x.ranked.memory

  abbrev ps : List ℕ
  ps = ranked x.ranked.processor

  sums_m : (h : ℕ → ℕ) → sum_over h ms ≡ sum_over h (up_to (length rows))
  sums_m = sum-ranked x.ranked.memory (length rows) x.ranked.memory_rows

  sums_p : (h : ℕ → ℕ) → sum_over h ps ≡ sum_over h (up_to (length rows))
  sums_p = sum-ranked x.ranked.processor (length rows) x.ranked.processor_rows

  in_time_here : is_accepted (verdict_found x.found) ≡ true → BoundsRead rows s.before t.before (bounds_of x)
  in_time_here e = record {
    late = memory_figure_of rows ms;
    bound = processor_figure_of rows ms ps;
    each = in_time rows s t ms ps am ap' sums_m sums_p (subst (λ v. is_accepted v ≡ true) x.rated e);
    read = λ k h. cond-true _ (Some (_, _)) None (and_from (is_accepted (verdict_found x.found)) (ltb k (length rows)) e (lt-ltb k (length rows) h));
  }

  pub rates : Rates x rows s.before t.before
  rates = record {
    exact = (
      (λ e. let b = in_time_here e in record { late = b.late; bound = b.bound; each = b.each }),
      (λ a. subst (λ v. is_accepted v ≡ true) (sym x.rated) (accepts rows s t ms ps am ap' sums_m sums_p a)),
    );
    bounds = in_time_here;
    late = subst (LateBy rows s.before t.before) (sym x.rated) (late_by rows s t ms ps am ap' sums_m sums_p);
  }
