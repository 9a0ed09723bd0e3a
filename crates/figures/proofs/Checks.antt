use Rattle.std.proofs.Common.{◌≡◌, ℕ, zero, suc, ◌+◌, ◌<◌, Bool, true, false, not, ◌&&◌, ◌||◌, eqb, ltb, leb, List, length, is_some, Some, None, Option, unwrap_or, sym, refl, ap, subst, inl, inr, arith}
use Rattle.std.proofs.lemmas.Bool.{and_parts, cases_eq, eqb-true, leb-true, ltb-true}
use Rattle.std.specs.List.{list_all}
use Rattle.figures.proofs.Entries.{each}
use Rattle.rows.specs.declared.fault.RowFault.TheVariants.{CostAboveDeadline}
use Rattle.rows.specs.declared.row.Row.{Row}
use Rattle.rating.specs.Bounds.{ceiling_of, figure_at, memory_work, never, processor_work, row_of, work_of}
use Rattle.rating.specs.Closing.{FirstLate}
use Rattle.rating.specs.Curves.{LeastSolution, first_solution, least_within}
use Rattle.rating.specs.Orders.{Before, by_memory_rank, by_processor_rank, comes}
use Rattle.rating.specs.Rankings.{keep, rows_before, sum_over, up_to}
use Rattle.rating.specs.declared.verdict.Phase.{Phase}
use Rattle.rating.specs.declared.verdict.Phase.TheVariants.{Memory, Processor}
use Rattle.rating.specs.declared.verdict.Verdict.{Verdict}
use Rattle.rating.specs.declared.verdict.Verdict.TheVariants.{Accepted, Late}
use Rattle.rating.proofs.Firsts.{some-value}
use Rattle.rating.proofs.Curves.{found_least, least_within-none, least_within-some}
use Rattle.figures.specs.Table.{Figure, FiguresStand, Right, Says, figures, no_figure}

-- The rule of a figure as a test that is computed, and what the test tells.

-- the test passes at each number below n
abbrev all : (ℕ → Bool) → ℕ → Bool
all t zero = true
all t (suc n) = t n && all t n

at : (t : ℕ → Bool) (n : ℕ) → all t n ≡ true → (k : ℕ) → k < n → t k ≡ true
at t zero e k h = absurd (omega arith)
at t (suc n) e k h =
    let both = and_parts (t n) (all t n) e
    in elim (cases_eq k n) [
      | inl same ↦ subst (λ i. t i ≡ true) (sym same) both.0
      | inr other ↦ at t n both.1 k (omega arith)
    ]

abbrev is_value : Option ℕ → ℕ → Bool
is_value None w = false
is_value (Some v) w = eqb v w

value : (o : Option ℕ) (w : ℕ) → is_value o w ≡ true → o ≡ Some w
value None w e = absurd (let z : false ≡ true = e in search arith)
value (Some v) w e = ap Some (eqb-true v w e)

-- w is the least solution
abbrev solved : (ℕ → ℕ) → ℕ → Bool
solved work w = is_value (least_within work w) w

solution : (work : ℕ → ℕ) (w : ℕ) → solved work w ≡ true → LeastSolution work w
solution work w e = found_least work w w (value (least_within work w) w e)

none : (o : Option ℕ) → not (is_some o) ≡ true → o ≡ None
none None e = refl
none (Some v) e = absurd (let z : false ≡ true = e in search arith)

-- the bound of a row within its ceiling, by an order's relation
abbrev bounded : Phase → List Row → (ℕ → ℕ) → Before → ℕ → Option ℕ
bounded phase rows late b k = least_within (work_of phase rows late (rows_before b rows k) k) (ceiling_of phase (row_of rows k) (late k))

-- row k is the first in the order without a bound
abbrev first_late : Phase → List Row → (ℕ → ℕ) → Before → ℕ → Bool
first_late phase rows late b k =
    ltb k (length rows)
    && (not (is_some (bounded phase rows late b k)) && all (λ j. not (comes b rows j k) || is_some (bounded phase rows late b j)) (length rows))

passed : (c o : Bool) → c ≡ true → (not c || o) ≡ true → o ≡ true
passed true o c e = e
passed false o c e = absurd (let z : false ≡ true = c in search arith)

first_late_is : (phase : Phase) (rows : List Row) (late : ℕ → ℕ) (b : Before) (k : ℕ) → first_late phase rows late b k ≡ true → FirstLate phase rows late b k
first_late_is phase rows late b k e =
    let parts = and_parts (ltb k (length rows)) _ e
    in let more = and_parts (not (is_some (bounded phase rows late b k))) _ parts.1
    in record {
      within = ltb-true k (length rows) parts.0;
      none = least_within-none (work_of phase rows late (rows_before b rows k) k) _ (none (bounded phase rows late b k) more.0);
      before = λ j h c.
          let here = at (λ i. not (comes b rows i k) || is_some (bounded phase rows late b i)) (length rows) more.1 j h
          in let w = some-value (bounded phase rows late b j) (passed (comes b rows j k) (is_some (bounded phase rows late b j)) c here)
          in (unwrap_or (bounded phase rows late b j) 0, least_within-some (work_of phase rows late (rows_before b rows j) j) _ _ w);
    }

abbrev says : List Row → (ℕ → ℕ) → (ℕ → ℕ) → Verdict → Bool
says rows late bound Accepted = all (λ k. leb (late k + bound k) (row_of rows k).deadline) (length rows)
says rows late bound (Late Memory k) = first_late Memory rows never by_memory_rank k
says rows late bound (Late Processor k) =
    all (λ j. is_value (bounded Memory rows never by_memory_rank j) (late j)) (length rows) && first_late Processor rows late by_processor_rank k

told : (rows : List Row) (late bound : ℕ → ℕ) (v : Verdict) → says rows late bound v ≡ true → Says rows late bound v
told rows late bound Accepted e = λ k h. leb-true _ _ (at (λ i. leb (late i + bound i) (row_of rows i).deadline) (length rows) e k h)
told rows late bound (Late Memory k) e = first_late_is Memory rows never by_memory_rank k e
told rows late bound (Late Processor k) e =
    let parts = and_parts (all (λ j. is_value (bounded Memory rows never by_memory_rank j) (late j)) (length rows)) _ e
    in (
      late,
      (
        (λ j h.
            least_within-some (memory_work rows (rows_before by_memory_rank rows j) j) _ _
            (value (bounded Memory rows never by_memory_rank j) (late j) (at (λ i. is_value (bounded Memory rows never by_memory_rank i) (late i)) (length rows) parts.0 j h))),
        first_late_is Processor rows late by_processor_rank k parts.1,
      ),
    )

abbrev memory_right : Figure → ℕ → Bool
memory_right f k = solved (memory_work f.rows (rows_before by_memory_rank f.rows k) k) (figure_at f.memory k)

abbrev processor_right : Figure → ℕ → Bool
processor_right f k = solved (processor_work f.rows (figure_at f.memory) (rows_before by_processor_rank f.rows k) k) (figure_at f.processor k)

abbrev is_right : Figure → Bool
is_right f =
    all (memory_right f) (length f.rows)
    && (all (processor_right f) (length f.rows) && says f.rows (figure_at f.memory) (figure_at f.processor) f.verdict)

right : (f : Figure) → is_right f ≡ true → Right f
right f e =
    let parts = and_parts (all (memory_right f) (length f.rows)) _ e
    in let more = and_parts (all (processor_right f) (length f.rows)) _ parts.1
    in record {
      memory = λ k h. solution (memory_work f.rows (rows_before by_memory_rank f.rows k) k) (figure_at f.memory k) (at (memory_right f) (length f.rows) parts.0 k h);
      processor = λ k h.
          solution (processor_work f.rows (figure_at f.memory) (rows_before by_processor_rank f.rows k) k) (figure_at f.processor k)
          (at (processor_right f) (length f.rows) more.0 k h);
      verdict = told f.rows (figure_at f.memory) (figure_at f.processor) f.verdict more.1;
    }

-- the test passes at every figure of the table
computed : list_all is_right figures ≡ true
unfolding first_solution keep sum_over up_to
computed = refl

pub figures-stand : FiguresStand
figures-stand = record { each = each is_right Right right no_figure figures computed; refused = (CostAboveDeadline, (refl, refl)) }
