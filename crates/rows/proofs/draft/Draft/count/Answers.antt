use Rattle.std.proofs.Common.{sym}
use Rattle.rows.proofs.RowLists.{length-rows}
use Rattle.rows.proofs.draft.Draft.count.Goals as goal

pub returns : goal.returns
returns c = record { value = sym (length-rows c.args.self.now); few = c.args.self.now.few }
