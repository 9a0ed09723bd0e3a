use Rattle.std.proofs.Common.{◌≡◌, ℕ, ◌≤◌, Some, None, arith}
use Rattle.rating.specs.Curves.{LeastAt}
use Rattle.rating.proofs.Curves.{least_is}
use Rattle.rating.proofs.curve.least_from.Goals as goal

-- a solution is not below the length, and so asks for more than the ceiling
pub returns-then-asked-ceiling : goal.returns-then-asked-ceiling
returns-then-asked-ceiling g c =
    let curve = g.C.Curve.rising c.args.curve.now
    in let none : (w : ℕ) → w ≤ c.args.ceiling → curve.work w ≡ w → ⊥ = λ w within e.
    let up = curve.rises c.loop-asked.w w (c.loop-asked.invariant.1 w e) in omega (arith, c.ask-asked.ensures, up, e)
    in record { value = least_is curve.work c.args.ceiling None none; least = none }

-- the length asks for itself, and no solution is below it
pub returns-then-asked-w : goal.returns-then-asked-w
returns-then-asked-w g c =
    let curve = g.C.Curve.rising c.args.curve.now
    in let at : LeastAt curve.work c.args.ceiling c.loop-asked.w = record {
      within = omega (arith, c.loop-asked.invariant.0, c.ask-asked.ensures);
      solves = omega (arith, c.ask-asked.ensures, c.loop-asked.invariant.0);
      first = λ v less e. let low = c.loop-asked.invariant.1 v e in omega (arith, low);
    }
    in record { value = least_is curve.work c.args.ceiling (Some c.loop-asked.w) at; least = at }
