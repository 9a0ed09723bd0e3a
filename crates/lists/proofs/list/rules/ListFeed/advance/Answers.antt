use Rattle.std.proofs.Common.{◌≡◌, ℕ, arith}
use Rattle.std.proofs.lemmas.Grind.{common_steps}
use Rattle.lists.specs.Places.{lower, place_of}
use Rattle.lists.proofs.list.rules.ListFeed.advance.Goals as goal

-- no mark has moved
pub invariant_of-self : goal.invariant_of-self
invariant_of-self c =
    let x = c.args.self.now in
    let low : (k : ℕ) → place_of c.advance.new.self k ≡ lower (place_of x.places k) = grind (arith, common_steps) in
    record { counted = x.counted; within = x.within; standing = λ k h. rw (low k) (x.standing k h) }
