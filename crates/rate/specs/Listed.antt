use Rattle.std.specs.Prelude.{◌≡◌, ℕ, ◌/◌, true, List, length, Ok, Err, Decides, Result}
use Rattle.listing.specs.Listings.{answer_of, buffer_after, fault_text, rating_text}
use Rattle.listing.specs.declared.fault.ListingFault.{ListingFault}
use Rattle.rating.specs.Bounds.{is_accepted}
use Rattle.rating.specs.Closing.{Accepts, BoundsRead, LateBy}
use Rattle.rating.specs.Orders.{by_memory_rank, by_processor_rank}
use Rattle.rating.specs.Ratings.{bounds_at, draft_in, verdict_in}
use Rattle.rating.specs.declared.order.ByMemoryRank.{ByMemoryRank}
use Rattle.rating.specs.declared.order.ByProcessorRank.{ByProcessorRank}
use Rattle.rating.specs.declared.rating.Rating.{Rating}
use Rattle.rows.specs.Books.{first_rows}
use Rattle.rows.specs.Drafts.{rows_of}
use Rattle.rows.specs.declared.fault.LoadFault.{LoadFault}

-- The buffer shows a rating of the book's rows under the two rank orders, and the rating is right: accepted exactly when
-- both equations of every row have least solutions in time, with these as bounds, and late by the first row without one.
pub record ShowsRating (bs out after : List ℕ) (r : Result ℕ ListingFault) : Type 0 where
  pub rating : Rating ByMemoryRank ByProcessorRank
  pub rows : rows_of (draft_in rating) ≡ first_rows bs (length bs / 24)
  pub exact : Decides (is_accepted (verdict_in rating)) (Accepts (rows_of (draft_in rating)) by_memory_rank by_processor_rank)
  pub bounds : is_accepted (verdict_in rating) ≡ true → BoundsRead (rows_of (draft_in rating)) by_memory_rank by_processor_rank (bounds_at rating)
  pub late : LateBy (rows_of (draft_in rating)) by_memory_rank by_processor_rank (verdict_in rating)
  pub value : r ≡ answer_of (rating_text rating) out
  pub buffer : after ≡ buffer_after (rating_text rating) out

-- What the program makes of a book, by what loading it into an empty draft answers.
abbrev pub Shows : Result Unit LoadFault → List ℕ → List ℕ → List ℕ → Result ℕ ListingFault → Type 0
Shows (Ok _) bs out after r = ShowsRating bs out after r
Shows (Err fault) bs out after r = (r ≡ answer_of (fault_text fault) out) × (after ≡ buffer_after (fault_text fault) out)
