use Rattle.std.proofs.Common.{◌≡◌, ℕ, ◌<◌, Ok}
use Rattle.lists.specs.ListRecords.{checked_at, step_before}
use Rattle.lists.proofs.records.Records.check.Given as goal

-- the records passed are without fault, and the last of them is of the earlier step
abbrev pub invariant-loop-number : goal.invariant-loop-number
invariant-loop-number l =
    (l.earlier ≡ step_before l.self.bytes.now l.number)
    × ((j : ℕ) → j < l.number → checked_at l.self.bytes.now j ≡ Ok tt)
