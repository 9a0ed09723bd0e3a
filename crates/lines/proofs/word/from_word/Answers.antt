use Rattle.std.proofs.Common.{drop, ap, ◌∙◌}
use Rattle.std.proofs.lemmas.List.{take_rest}
use Rattle.lines.proofs.word.from_word.Goals as goal

pub returns : goal.returns
returns c = take_rest c.args.line.now c.blanks.result ∙ ap (λ n. drop n c.args.line.now) c.blanks.ensures.value
