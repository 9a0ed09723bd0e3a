use Rattle.schedule.proofs.Arrivals.{jitter}
use Rattle.schedule.proofs.theorems.jitter_stands.Goals as goal

pub returns : goal.returns
returns c = jitter
