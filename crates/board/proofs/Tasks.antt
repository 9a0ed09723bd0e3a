-- The rows of a draft as the tasks of the theory, and their bounds as solutions of its equations.
use Rattle.std.proofs.Common.{◌≡◌, ℕ, zero, suc, ◌+◌, ◌*◌, Bool, true, cond, not, ◌⊎◌, List, [], ◌∷◌, length, sym, refl, ap, ◌∙◌, inl, inr, mul_comm, arith}
use Rattle.std.proofs.lemmas.Bool.{cases_Bool, cases_eq}
use Rattle.rows.specs.Drafts.{EachValid}
use Rattle.rows.specs.declared.row.Row.{Row}
use Rattle.rating.specs.Bounds.{memory_asked, processor_asked, row_of}
use Rattle.rating.specs.Closing.{InTime}
use Rattle.rating.specs.Orders.{Sequence, comes}
use Rattle.rating.specs.Quotients.{ceil}
use Rattle.rating.specs.Rankings.{keep, sum_over, up_to}
use Rattle.rating.proofs.Sums.{sum_over-append, sum_over-keep}
use Rattle.schedule.specs.Resources.{Priority}
use Rattle.schedule.specs.Traces.{Solved, Tasks}
use Rattle.schedule.specs.Windows.{sum, sum_before}

abbrev pub tasks_of : List Row → Tasks
tasks_of rows = record {
  count = length rows;
  load = λ k. (row_of rows k).memory;
  compute = λ k. (row_of rows k).compute;
  period = λ k. (row_of rows k).period;
}

-- a sum over the numbers below n, written in two ways
sum-up : (f g : ℕ → ℕ) (n : ℕ) → ((i : ℕ) → f i ≡ g i) → sum_over f (up_to n) ≡ sum g n
unfolding sum_over up_to
sum-up f g zero same = refl
sum-up f g (suc n) same = omega (arith, sum_over-append f (up_to n) (n ∷ []), sum-up f g n same, same n)

-- a sum over the numbers that go before k
sum_kept : (before : ℕ → ℕ → Bool) (k n : ℕ) (f g : ℕ → ℕ) → ((i : ℕ) → f i ≡ g i) → sum_over f (keep (λ i. before i k) (up_to n)) ≡ sum_before before k g n
sum_kept before k n f g same =
    sum_over-keep f (λ i. before i k) (up_to n)
    ∙ sum-up (λ i. cond (before i k) (f i) 0) (λ i. cond (before i k) (g i) 0) n (λ i. ap (λ x. cond (before i k) x 0) (same i))

-- an order's relation on the rows is a strict total order of their numbers
pub priority : (s : Sequence) (rows : List Row) → Priority (length rows) (comes s.before rows)
priority s rows = record {
  strict = λ i l. s.irreflexive i (row_of rows i);
  total = λ i j l m. elim (cases_eq i j) [ inl e ↦ inr (inl e) | inr d ↦ other i j d ];
  transitive = λ i j k a b c. s.transitive i j k (row_of rows i) (row_of rows j) (row_of rows k);
}
  where
    other : (i j : ℕ) → (i ≡ j → ⊥) → (comes s.before rows i j ≡ true) ⊎ ((i ≡ j) ⊎ (comes s.before rows j i ≡ true))
    other i j d =
        elim (cases_Bool (comes s.before rows i j)) [
          | inl y ↦ inl y
          | inr y ↦ inr (inr (s.exactly_one i j (row_of rows i) (row_of rows j) d ∙ ap not y))
        ]

-- the least solutions of valid rows, in time, are bounds as the theory asks for them
pub solved : (rows : List Row) → EachValid rows → (m p : Sequence) (RM RC : ℕ → ℕ) → InTime rows m.before p.before RM RC
    → Solved (tasks_of rows) (comes m.before rows) (comes p.before rows) RM RC
solved rows valid m p RM RC i = record {
  memory = priority m rows;
  processor = priority p rows;
  periods = λ k l. (valid k l).some_period;
  works = λ k l. (valid k l).some_compute;
  loads = λ k l.
      sym (i.memory k l).solves
      ∙ ap (λ x. (row_of rows k).memory + x)
      (sum_kept (comes m.before rows) k (length rows) (memory_asked rows (RM k)) (λ j. (row_of rows j).memory * ceil (RM k) (row_of rows j).period)
      (λ j. mul_comm (ceil (RM k) (row_of rows j).period) (row_of rows j).memory));
  computes = λ k l.
      sym (i.processor k l).solves
      ∙ ap (λ x. (row_of rows k).compute + x)
      (sum_kept (comes p.before rows) k (length rows) (processor_asked rows RM (RC k)) (λ j. (row_of rows j).compute * ceil (RC k + RM j) (row_of rows j).period)
      (λ j. mul_comm (ceil (RC k + RM j) (row_of rows j).period) (row_of rows j).compute));
  in_period = λ k l. omega (arith, i.in_time k l, (valid k l).in_time);
}
