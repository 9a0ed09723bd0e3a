use Rattle.std.proofs.Common.{◌≡◌, ℕ, ◌<◌, ◌≤◌}
use Rattle.lists.specs.Places.{blank, first_place, place_of}
use Rattle.lists.proofs.list.places.first_places.Given as goal

-- the marks passed stand at their first records
abbrev pub invariant-loop-k : goal.invariant-loop-k
invariant-loop-k l =
    ((k : ℕ) → k < l.k-index → place_of l.places k ≡ first_place l.records.bytes.now l.records.count k)
    × ((k : ℕ) → l.k-index ≤ k → place_of l.places k ≡ blank)
