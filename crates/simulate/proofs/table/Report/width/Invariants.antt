use Rattle.std.proofs.Common.{◌≡◌, length}
use Rattle.simulate.specs.Tables.{figure_at, head_of, widest, word_of}
use Rattle.simulate.proofs.table.Report.width.Given as goal

abbrev pub invariant-loop-k : goal.invariant-loop-k
invariant-loop-k g l = l.widest ≡ widest (λ j. word_of (figure_at l.self.rating.now l.self.journal.now l.column j)) (length (head_of l.column)) l.k
