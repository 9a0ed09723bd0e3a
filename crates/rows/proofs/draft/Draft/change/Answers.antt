use Rattle.std.proofs.Common.{◌<◌, arith, length-set, rules}
use lib.Seq.{take-set-lt}
use Rattle.rows.specs.Drafts.{rows_of}
use Rattle.rows.proofs.RowLists.{has_row_if_ok, others_stay, valid_written}
use Rattle.rows.proofs.draft.Draft.change.Goals as goal

pub invariant_of-self : goal.invariant_of-self
invariant_of-self c =
    let here : c.args.i < c.args.self.now.count = has_row_if_ok c.args.self.now c.args.i c.in_ok-row.field-0 _ c.in_ok-row.ensures.value
    in record {
      full = simp (c.put.ensures, length-set) c.args.self.now.full;
      few = c.args.self.now.few;
      valid = simp c.put.ensures
          (valid_written c.args.self.now.table.rows c.args.self.now.count _ c.args.i c.args.row
          (omega (arith, c.args.self.now.few, c.args.self.now.full)) c.args.self.now.valid c.in_ok-check.ensures.valid (λ k h g. h));
    }

pub returns : goal.returns
returns c =
    let here : c.args.i < c.args.self.now.count = has_row_if_ok c.args.self.now c.args.i c.in_ok-row.field-0 _ c.in_ok-row.ensures.value
    in let rows = take-set-lt c.args.self.now.count c.args.self.now.table.rows c.args.i c.args.row here
    in record {
      value = search rules;
      rows = simp c.put.ensures rows;
      others = simp (c.put.ensures, rows) (others_stay (rows_of c.args.self.now) c.args.i c.args.row);
      refused = search rules;
    }
