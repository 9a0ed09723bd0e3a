use Rattle.std.proofs.Common.{Err, sym, ap, ◌∙◌, subst}
use Rattle.std.proofs.lemmas.Result.{err_from_is_err_and}
use Rattle.lists.specs.ListRecords.{Checks, in_list}
use Rattle.lists.proofs.ListChecks.{checks}
use Rattle.lists.proofs.records.check_list.Goals as goal

pub returns-in_err-check_records : goal.returns-in_err-check_records
returns-in_err-check_records c =
    let p = err_from_is_err_and c.from_residual.result c.from_residual.ensures.1
    in let value = p.1 ∙ ap Err p.2 ∙ ap in_list c.in_err-check_records.ensures
    in record { value = value; first = subst (Checks c.args.bytes.now) (sym value) (checks c.args.bytes.now) }

pub returns : goal.returns
returns c =
    let value = ap in_list c.in_ok-check_records.ensures
    in record { value = value; first = subst (Checks c.args.bytes.now) (sym value) (checks c.args.bytes.now) }
