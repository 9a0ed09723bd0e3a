use Rattle.std.proofs.Common.{rules, tests, ◌∙◌}
use Rattle.std.proofs.lemmas.Iterator.Consumers.{nth_from_yields_List}
use Rattle.std.proofs.lemmas.Iterator.Splits.{YieldsList-from_slice_split}
use Rattle.lines.proofs.Words.{taken}
use Rattle.tables.proofs.Texts.{is_end, line-piece, pieces}
use Rattle.tables.proofs.split.line.Goals as goal

pub returns : goal.returns
returns c =
    let text = c.args.text.now
    in taken c.nth.result c.unwrap_or_default.result (pieces text) _ c.unwrap_or_default.ensures
    (nth_from_yields_List c.nth.result c.nth.new.self _ c.nth.ensures.ran
    (YieldsList-from_slice_split _ is_end text c.split.ensures.rest c.split.ensures.done c.split.ensures.closure (λ x r q k. search (rules, tests))))
    ∙ line-piece text c.args.number
