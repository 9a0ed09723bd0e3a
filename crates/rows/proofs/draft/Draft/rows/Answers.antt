use Rattle.std.proofs.Common.{◌≡◌, ◌-◌, length, ap, arith, rules}
use borrow.Rule.Slice.PartMut.{mid_of}
use Rattle.rows.specs.Drafts.{rows_of}
use Rattle.rows.proofs.RowLists.{length-rows, rows-valid}
use Rattle.rows.proofs.draft.Draft.rows.Goals as goal

pub returns : goal.returns
returns c =
    let front : mid_of 0 (c.args.self.now.count - 0) c.args.self.now.table.rows ≡ rows_of c.args.self.now = search rules
    in record {
      value = front;
      few = omega (arith, ap length front, length-rows c.args.self.now, c.args.self.now.few);
      valid = rows-valid c.args.self.now _ front;
    }
