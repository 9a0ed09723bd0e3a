use Rattle.schedule.proofs.Example.{example}
use Rattle.schedule.proofs.theorems.example_stands.Goals as goal

pub returns : goal.returns
returns c = example
