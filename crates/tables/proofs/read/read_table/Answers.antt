use Rattle.std.proofs.Common.{◌+◌, drop, length, rules, tests, ap, ◌∙◌, arith}
use Rattle.std.proofs.lemmas.Iterator.Consumers.{YieldsList-at, YieldsList-end, YieldsList-from_enumerate, YieldsList-turn}
use Rattle.std.proofs.lemmas.Iterator.Splits.{YieldsList-from_slice_split}
use Rattle.std.proofs.lemmas.List.{length_push}
use Rattle.std.proofs.lemmas.List.FromFn.{length-enumerate_from}
use Rattle.rows.specs.Drafts.{rows_of}
use Rattle.lines.proofs.Rows.{refused}
use Rattle.tables.specs.Tables.{drafted, table_from}
use Rattle.tables.proofs.Taken.{at_turn, table_ends, table_next, table_pieces, table_stops}
use Rattle.tables.proofs.Texts.{is_end, pieces}
use Rattle.tables.proofs.read.read_table.Goals as goal

pub loop-passed-init : goal.loop-passed-init
loop-passed-init c = ap (λ rows. table_from 1 rows (pieces c.args.text.now)) c.new-draft.ensures ∙ table_pieces c.args.text.now

pub loop-passed-preserved : goal.loop-passed-preserved
loop-passed-preserved c =
    let turn =
    at_turn (pieces c.args.text.now) (length c.loop-passed.yielded) c.in-Some.passed c.in-Some.line.now
    (YieldsList-turn
    (YieldsList-at c.into_iter-passed-iterator.ensures.into_iter_gives
    (YieldsList-from_enumerate
    (YieldsList-at c.enumerate-passed-items.ensures.source
    (YieldsList-from_slice_split _ is_end c.args.text.now c.split.ensures.rest c.split.ensures.done c.split.ensures.closure (λ x r q k. search (rules, tests))))
    c.enumerate-passed-items.ensures.count))
    c.loop-passed.yielded _ c.loop-passed.yielded_by _ _ (c.in-Some.passed, c.in-Some.line) c.in-Some.is c.next.ensures.steps)
    in ap (λ j. table_from (j + 1) (rows_of c.take_line.new.draft) (drop j (pieces c.args.text.now))) (length_push c.loop-passed.yielded (c.in-Some.passed, c.in-Some.line))
    ∙ table_next (length c.loop-passed.yielded) c.in-Some.passed (rows_of c.loop-passed.draft) (rows_of c.take_line.new.draft) (pieces c.args.text.now) c.in-Some.line.now turn
    c.in_ok-take_line.ensures
    ∙ c.loop-passed.invariant

pub returns-in_err-take_line : goal.returns-in_err-take_line
returns-in_err-take_line c =
    let turn =
    at_turn (pieces c.args.text.now) (length c.loop-passed.yielded) c.in-Some.passed c.in-Some.line.now
    (YieldsList-turn
    (YieldsList-at c.into_iter-passed-iterator.ensures.into_iter_gives
    (YieldsList-from_enumerate
    (YieldsList-at c.enumerate-passed-items.ensures.source
    (YieldsList-from_slice_split _ is_end c.args.text.now c.split.ensures.rest c.split.ensures.done c.split.ensures.closure (λ x r q k. search (rules, tests))))
    c.enumerate-passed-items.ensures.count))
    c.loop-passed.yielded _ c.loop-passed.yielded_by _ _ (c.in-Some.passed, c.in-Some.line) c.in-Some.is c.next.ensures.steps)
    in ap drafted (refused c.from_residual.result c.from_residual.ensures.1)
    ∙ table_stops (length c.loop-passed.yielded) c.in-Some.passed (rows_of c.loop-passed.draft) c.in_err-take_line.field-0.0 (pieces c.args.text.now) c.in-Some.line.now turn
    c.in_err-take_line.ensures
    ∙ c.loop-passed.invariant

pub returns : goal.returns
returns c =
    let ends =
    YieldsList-end
    (YieldsList-at c.into_iter-passed-iterator.ensures.into_iter_gives
    (YieldsList-from_enumerate
    (YieldsList-at c.enumerate-passed-items.ensures.source
    (YieldsList-from_slice_split _ is_end c.args.text.now c.split.ensures.rest c.split.ensures.done c.split.ensures.closure (λ x r q k. search (rules, tests))))
    c.enumerate-passed-items.ensures.count))
    c.loop-passed.yielded _ c.loop-passed.yielded_by _ _ c.in-None.is c.next.ensures.steps
    in table_ends (length c.loop-passed.yielded + 1) (length c.loop-passed.yielded) (rows_of c.loop-passed.draft) (pieces c.args.text.now)
    (omega (arith, ends.1, length-enumerate_from 0 (pieces c.args.text.now)))
    ∙ c.loop-passed.invariant
