use Rattle.std.proofs.Common.{arith}
use Rattle.rows.specs.Drafts.{rows_of}
use Rattle.rating.specs.Ranked.{ranked}
use Rattle.rating.proofs.Verdicts.{within-deadline}
use Rattle.rating.proofs.rating.Analysis.bounds.Goals as goal

pub returns-clause-within : goal.returns-clause-within
returns-clause-within c =
    let x = c.args.self.now
    in let b = x.known c.in-Ok.bounds c.in-Ok.is c.args.i (omega (arith, c.count.ensures.value, c.if-i-count.false))
    in within-deadline (rows_of x.ranked.draft) (ranked x.ranked.memory) (ranked x.ranked.processor) c.args.i _ _ b.0 b.1
