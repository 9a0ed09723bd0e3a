use Rattle.std.proofs.Common.{rules}
use Rattle.lines.proofs.Put.{column-styled}
use Rattle.lines.proofs.print.numbers.Goals as goal

pub returns : goal.returns
returns c = search (rules, column-styled)
