use Rattle.std.proofs.Common.{◌≡◌, ◌-◌}
use Rattle.lines.specs.Words.{word_in}
use Rattle.lines.proofs.word.word.Given as goal

-- the word is sought in what stands behind the words passed
abbrev pub invariant-loop-passed : goal.invariant-loop-passed
invariant-loop-passed l = word_in l.rest (l.number - l._passed) ≡ word_in l.line l.number
