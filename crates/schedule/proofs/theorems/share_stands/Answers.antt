use Rattle.schedule.proofs.Arrivals.{share}
use Rattle.schedule.proofs.theorems.share_stands.Goals as goal

pub returns : goal.returns
returns c = share
