-- Book A is accepted under its two rank orders.
use Rattle.std.proofs.Common.{ℕ, ◌+◌, ◌≤◌, [], ◌∷◌, refl, arith}
use Rattle.rating.specs.Bounds.{figure_at, memory_work, processor_work, row_of}
use Rattle.rating.specs.Closing.{Accepts}
use Rattle.rating.specs.Curves.{LeastSolution, first_solution}
use Rattle.rating.specs.Orders.{by_memory_rank, by_processor_rank}
use Rattle.rating.specs.Rankings.{keep, rows_before, sum_over, up_to}
use Rattle.rating.proofs.Curves.{found_least}
use Rattle.schedule.proofs.Example.{three}
use Rattle.board.specs.Example.{book_a}

abbrev late : ℕ → ℕ
late = figure_at (10 ∷ 1 ∷ 15 ∷ [])

abbrev bound : ℕ → ℕ
bound = figure_at (10 ∷ 9 ∷ 16 ∷ [])

pub accepts : Accepts book_a by_memory_rank by_processor_rank
unfolding first_solution keep sum_over up_to
accepts = record {
  late = late;
  bound = bound;
  each = record {
    memory = three (λ k. LeastSolution (memory_work book_a (rows_before by_memory_rank book_a k) k) (late k)) (found_least _ 10 10 refl) (found_least _ 1 1 refl) (found_least _ 15 15 refl);
    processor =
        three (λ k. LeastSolution (processor_work book_a late (rows_before by_processor_rank book_a k) k) (bound k)) (found_least _ 10 10 refl) (found_least _ 9 9 refl) (found_least _ 16 16 refl);
    in_time = three (λ k. late k + bound k ≤ (row_of book_a k).deadline) (omega arith) (omega arith) (omega arith);
  };
}
