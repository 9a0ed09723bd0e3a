use Rattle.std.proofs.Common.{drop, ap, ◌∙◌}
use Rattle.std.proofs.lemmas.List.{take_rest}
use Rattle.std.specs.List.{prefix_len}
use Rattle.lines.specs.Words.{is_solid}
use Rattle.lines.proofs.word.after_word.Goals as goal

pub returns : goal.returns
returns c =
    take_rest c.from_word-rest.result.now c.solids.result ∙ ap (λ n. drop n c.from_word-rest.result.now) c.solids.ensures.value
    ∙ ap (λ rest. drop (prefix_len is_solid rest) rest) c.from_word-rest.ensures
