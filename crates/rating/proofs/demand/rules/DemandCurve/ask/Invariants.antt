use Rattle.std.proofs.Common.{◌≡◌, ◌+◌, ◌*◌, ◌^◌, ◌≤◌, take}
use Rattle.rating.specs.Sources.{asked}
use Rattle.rating.proofs.demand.rules.DemandCurve.ask.Given as goal

-- the sum over the sources passed, and a bound on it
abbrev pub invariant-loop-source : goal.invariant-loop-source
invariant-loop-source l =
    (l.sum ≡ l.self.own + asked (take l.source-index l.self.sources.items) l.w)
    × (l.sum ≤ 2 ^ 32 + l.source-index * (2 ^ 33 * 1000000))
