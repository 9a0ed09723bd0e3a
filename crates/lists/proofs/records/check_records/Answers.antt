use Rattle.std.proofs.Common.{Ok, Err, ap, ◌∙◌}
use Rattle.std.proofs.lemmas.Result.{err_from_is_err_and}
use Rattle.lists.proofs.Sounding.{listed}
use Rattle.lists.proofs.records.check_records.Goals as goal

pub returns-in_err-check : goal.returns-in_err-check
returns-in_err-check c =
    let p = err_from_is_err_and c.from_residual.result c.from_residual.ensures.1
    in p.1 ∙ ap Err p.2
    ∙ listed c.args.bytes.now c.all.result.bytes.now c.all.result.count (Err c.in_err-check.field-0.0) c.if-bytes-ne0.false c.all.ensures.bytes c.all.ensures.count (c.in_err-check.ensures)

pub returns : goal.returns
returns c =
    listed c.args.bytes.now c.all.result.bytes.now c.all.result.count (Ok c.in_ok-check.field-0) c.if-bytes-ne0.false c.all.ensures.bytes c.all.ensures.count (c.in_ok-check.ensures)
