use Rattle.std.proofs.Common.{◌<◌, ◌∙◌, arith, rules}
use Rattle.rows.proofs.RowLists.{has_row_if_ok, valid_closed, take-closed}
use Rattle.rows.proofs.draft.Draft.remove.Goals as goal

pub invariant_of-self : goal.invariant_of-self
invariant_of-self c = record {
  full = c.close_gap.ensures.long ∙ c.args.self.now.full;
  few = omega (arith, c.args.self.now.few);
  valid = valid_closed c.args.self.now.table.rows c.close_gap.new.self.rows c.args.self.now.count c.args.i c.close_gap.ensures
      c.args.self.now.valid;
}

pub returns : goal.returns
returns c =
    let here : c.args.i < c.args.self.now.count = has_row_if_ok c.args.self.now c.args.i c.in_ok-gone.gone _ c.in_ok-gone.ensures.value
    in record {
      value = search rules;
      rows =
          take-closed c.args.self.now.table.rows c.close_gap.new.self.rows c.args.self.now.count c.args.i
          (omega (arith, c.args.self.now.few, c.args.self.now.full)) here c.close_gap.ensures;
      refused = search rules;
    }
