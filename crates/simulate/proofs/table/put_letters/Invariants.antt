use Rattle.std.proofs.Common.{◌≡◌, ◌++◌, map, take, string_bytes}
use Rattle.simulate.specs.Tables.{holder_of, letter_of}
use Rattle.simulate.proofs.table.put_letters.Given as goal

abbrev pub invariant-loop-answer : goal.invariant-loop-answer
invariant-loop-answer l = string_bytes l.text ≡ string_bytes l.initial.text ++ map (λ a. letter_of (holder_of l.phase a)) (take l.answer-index l.answers)
