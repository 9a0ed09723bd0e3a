use Rattle.std.proofs.Common.{◌≡◌, ◌/◌, true, ◌++◌, length, Decides, sym, ap, ◌∙◌, subst}
use Rattle.rating.specs.Bounds.{is_accepted}
use Rattle.rating.specs.Closing.{Accepts, BoundsRead, LateBy}
use Rattle.rating.specs.Orders.{by_memory_rank, by_processor_rank}
use Rattle.rating.specs.Ratings.{bounds_at, verdict_in}
use Rattle.rows.specs.Books.{first_rows, load_of}
use Rattle.rows.specs.Drafts.{rows_of}
use Rattle.rate.specs.Listed.{Shows}
use Rattle.rate.proofs.list_book.Goals as goal

pub returns-in-Ok-clause-shows : goal.returns-in-Ok-clause-shows
returns-in-Ok-clause-shows c =
    let bs = c.args.book.now
    in let x = c.close-rating.result
    in let same = sym c.close-rating.ensures.kept.0
    in let loaded = c.in-Ok.ensures.value ∙ ap (λ rows. load_of (length rows) bs) c.new-draft.ensures
    in subst (λ l. Shows l bs c.args.out.now c.list_rating.new.out c.list_rating.result) loaded record {
      rating = x;
      rows =
          ap rows_of (sym same) ∙ c.in-Ok.ensures.rows
          ∙ ap (λ rows. rows ++ first_rows bs (length bs / 24)) c.new-draft.ensures;
      exact = subst (λ d. Decides (is_accepted (verdict_in x)) (Accepts (rows_of d) by_memory_rank by_processor_rank)) same c.close-rating.ensures.exact;
      bounds =
          subst (λ d. is_accepted (verdict_in x) ≡ true → BoundsRead (rows_of d) by_memory_rank by_processor_rank (bounds_at x)) same
          c.close-rating.ensures.bounds;
      late = subst (λ d. LateBy (rows_of d) by_memory_rank by_processor_rank (verdict_in x)) same c.close-rating.ensures.late;
      value = c.list_rating.ensures.value;
      buffer = c.list_rating.ensures.buffer;
    }
