use Rattle.std.proofs.Common.{◌≡◌, ◌++◌, drop, string_bytes}
use Rattle.arrivals.specs.Texts.{lines_text}
use Rattle.arrivals.proofs.report.put_takings.Given as goal

-- with the lines to come, the text is the whole
abbrev pub invariant-loop-taking : goal.invariant-loop-taking
invariant-loop-taking l =
    string_bytes l.text ++ lines_text (drop l.taking-index l.takings) ≡ string_bytes l.initial.text ++ lines_text l.takings
