use Rattle.std.proofs.Common.{◌≡◌, ℕ, ◌<◌, true, length, sym, ap, ◌∙◌, subst}
use Rattle.rating.specs.Bounds.{is_accepted, row_of}
use Rattle.rating.specs.Closing.{Accepts}
use Rattle.rating.specs.Ratings.{draft_in, verdict_in}
use Rattle.rows.specs.Drafts.{rows_of}
use Rattle.feeds.specs.Clocks.{Has, clock_view, entry_of}
use Rattle.feeds.specs.Fits.{Fitting}
use Rattle.board.specs.Example.{book_a}
use Rattle.rating.specs.Orders.{by_memory_rank, by_processor_rank}
use Rattle.board.proofs.BookA.{accepts}
use Rattle.board.proofs.example.book_a_run.Goals as goal

-- what closing and the clockwork promise holds of the run that is begun with them
pub returns : goal.returns
returns c =
    let begun = c.begin-run.ensures.new in
    let back = sym begun.1.0 in
    let kept = ap rows_of c.close-rating.ensures.kept.0 ∙ c.in_ok-book_a_draft.ensures in
    record {
      start = c.begin-run.result;
      begun = begun.0;
      rows = ap (λ x. rows_of (draft_in x)) begun.1.0 ∙ kept;
      clock =
          subst (λ y. (k : ℕ) → k < 3 → Has (entry_of y k) true 0 (row_of book_a k).period (row_of book_a k).memory (row_of book_a k).compute) (sym begun.1.1)
          (subst (λ rows. (k : ℕ) → k < length rows → Has (entry_of c.at_full_cost-clock.result k) true 0 (row_of rows k).period (row_of rows k).memory (row_of rows k).compute) kept
          c.at_full_cost-clock.ensures.rows);
      accepted =
          subst (λ x. is_accepted (verdict_in x) ≡ true) back
          (c.close-rating.ensures.exact.1 (subst (λ rows. Accepts rows by_memory_rank by_processor_rank) (sym c.in_ok-book_a_draft.ensures) accepts));
      fits =
          subst (λ x. Fitting (clock_view c.begin-run.result.pile) (rows_of (draft_in x))) back
          (subst (λ y. Fitting (clock_view y) (rows_of (draft_in c.close-rating.result))) (sym begun.1.1) c.at_full_cost-clock.ensures.fits);
      gone = c.go.ensures;
    }
