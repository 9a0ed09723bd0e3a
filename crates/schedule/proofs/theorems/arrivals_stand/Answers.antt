use Rattle.schedule.proofs.Arrivals.{arrivals}
use Rattle.schedule.proofs.theorems.arrivals_stand.Goals as goal

pub returns : goal.returns
returns c = arrivals
