use Rattle.std.proofs.Common.{◌≡◌, map, take, drop, ◌++◌}
use Rattle.feeds.proofs.per_mark.PerMark.advance.Given as goal

-- the marks below the index are a step later, the others are as they were
abbrev pub invariant-loop-own : goal.invariant-loop-own
invariant-loop-own g l = l.own-items ≡ map g.T.Timed.later (take l.own-index l.initial.own-items) ++ drop l.own-index l.initial.own-items
