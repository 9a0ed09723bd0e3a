use Rattle.arrivals.proofs.Lines.{line_on, lines_end}
use Rattle.arrivals.proofs.report.put_takings.Goals as goal

pub loop-taking-preserved : goal.loop-taking-preserved
loop-taking-preserved c = line_on c.args.takings.now c.loop-taking.taking-index _ _ _ _ c.loop-taking-test.true c.in_ok-put_taking.ensures c.loop-taking.invariant

pub returns : goal.returns
returns c = lines_end c.args.takings.now c.loop-taking.taking-index _ _ c.loop-taking-test.false c.loop-taking.invariant
