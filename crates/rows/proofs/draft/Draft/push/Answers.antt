use Rattle.std.proofs.Common.{◌<◌, arith, length-set}
use Rattle.std.proofs.lemmas.List.{take_more_set}
use Rattle.rows.proofs.RowLists.{length-rows, valid_written}
use Rattle.rows.proofs.draft.Draft.push.Goals as goal

pub invariant_of-self : goal.invariant_of-self
invariant_of-self c =
    let room : c.args.self.now.count < 32 = omega (arith, c.requires.room, length-rows c.args.self.now)
    in record {
      full = simp (c.put.ensures, length-set) c.args.self.now.full;
      few = omega arith;
      valid = simp c.put.ensures
          (valid_written c.args.self.now.table.rows c.args.self.now.count _ c.args.self.now.count c.args.row
          (omega (arith, c.args.self.now.full)) c.args.self.now.valid c.requires.valid (λ k h g. omega arith));
    }

pub returns : goal.returns
returns c =
    simp c.put.ensures
    (take_more_set c.args.self.now.table.rows c.args.self.now.count c.args.row
    (omega (arith, c.requires.room, length-rows c.args.self.now, c.args.self.now.full)))
