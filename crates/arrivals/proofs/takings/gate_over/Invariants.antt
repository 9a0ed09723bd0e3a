use Rattle.std.proofs.Common.{◌≡◌, ℕ, ◌<◌}
use Rattle.layers.specs.Gates.{Spaced, spacing}
use Rattle.arrivals.proofs.takings.gate_over.Given as goal

-- the marks passed have the distance, and every mark is open
abbrev pub invariant-loop-k : goal.invariant-loop-k
invariant-loop-k g l =
    (l.gate.below ≡ l.initial.gate.below) × ((k : ℕ) → k < l.k-index → Spaced (spacing l.gate k) l.distance 0)
    × ((k : ℕ) → (spacing l.gate k).rest ≡ 0)
