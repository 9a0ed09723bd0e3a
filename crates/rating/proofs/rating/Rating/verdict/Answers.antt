use Rattle.std.proofs.Common.{sym, subst}
use Rattle.rows.specs.Drafts.{rows_of}
use Rattle.rating.specs.Ratings.{LateRow}
use Rattle.rating.proofs.Verdicts.{late-row}
use Rattle.rating.proofs.rating.Rating.verdict.Goals as goal

pub returns-clause-row : goal.returns-clause-row
returns-clause-row g c = subst (LateRow (rows_of (c.args.self.now.analysis.ranked.draft))) (sym c.verdict.ensures) (late-row c.args.self.now.analysis)
