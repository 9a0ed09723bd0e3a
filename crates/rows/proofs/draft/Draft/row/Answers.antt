use Rattle.std.proofs.Common.{◌≡◌, refl, rules}
use Rattle.rows.specs.Drafts.{gotten, rows_of}
use Rattle.rows.proofs.RowLists.{gotten-valid, rows-valid}
use Rattle.rows.proofs.draft.Draft.row.Goals as goal

pub returns-clause-valid : goal.returns-clause-valid
returns-clause-valid c =
    let value : c.ok_or.result ≡ gotten (rows_of c.args.self.now) c.args.i = search rules
    in gotten-valid (rows_of c.args.self.now) c.args.i c.ok_or.result (rows-valid c.args.self.now (rows_of c.args.self.now) refl) value
