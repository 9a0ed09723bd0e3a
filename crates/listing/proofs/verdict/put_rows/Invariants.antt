use Rattle.std.proofs.Common.{◌≡◌, ◌*◌, ◌≤◌, length}
use Rattle.listing.proofs.verdict.put_rows.Given as goal
use Rattle.listing.specs.Listings.{lines_of}

abbrev pub invariant-loop-i : goal.invariant-loop-i
invariant-loop-i g l = record { text : l.page.bytes.items ≡ lines_of l.rating l.i; most : length l.page.bytes.items ≤ 40 * l.i }
