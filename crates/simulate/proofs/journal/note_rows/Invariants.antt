use Rattle.std.proofs.Common.{◌≡◌, ℕ, ◌<◌, ◌≤◌, false, length, get_or}
use Rattle.board.specs.Runs.{place, rows_in}
use Rattle.simulate.specs.Counts.{tally_at}
use Rattle.simulate.specs.Tallies.{noted}
use Rattle.simulate.proofs.journal.note_rows.Given as goal

-- the rows passed are noted, and the others are as they were
abbrev pub invariant-loop-k : goal.invariant-loop-k
invariant-loop-k g l = (length l.tallies ≡ 32)
    × ((j : ℕ) → j < l.k → j < length (rows_in l.run) → tally_at l.tallies j ≡ noted j (get_or l.free j false) l.answer (place l.run j) (tally_at l.initial.tallies j))
    × ((j : ℕ) → j < l.k → length (rows_in l.run) ≤ j → tally_at l.tallies j ≡ tally_at l.initial.tallies j)
    × ((j : ℕ) → l.k ≤ j → tally_at l.tallies j ≡ tally_at l.initial.tallies j)
