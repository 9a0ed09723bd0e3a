use Rattle.std.proofs.Common.{◌≡◌, ℕ, ◌<◌, false, length, get_or}
use Rattle.board.specs.Runs.{place, rows_in}
use Rattle.simulate.specs.Tallies.{is_free}
use Rattle.simulate.proofs.stepping.free_places.Given as goal

abbrev pub invariant-loop-k : goal.invariant-loop-k
invariant-loop-k g l = (length l.place-items ≡ 32) × ((j : ℕ) → j < l.k → j < length (rows_in l.run) → get_or l.place-items j false ≡ is_free (place l.run j))
