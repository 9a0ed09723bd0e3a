use Rattle.std.proofs.Common.{◌≡◌, ℕ, ◌-◌, ◌≤◌}
use Rattle.rating.proofs.curve.least_from.Given as goal

-- the length asks for itself at least, and no solution is below it
abbrev pub invariant-loop-asked : goal.invariant-loop-asked
invariant-loop-asked g l =
    (l.w ≤ (g.C.Curve.rising l.curve).work l.w)
    × ((v : ℕ) → (g.C.Curve.rising l.curve).work v ≡ v → l.w ≤ v)

abbrev pub decreases-loop-asked : goal.decreases-loop-asked
decreases-loop-asked g l = l.ceiling - l.w
