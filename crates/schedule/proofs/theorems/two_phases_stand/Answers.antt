use Rattle.schedule.proofs.TwoPhases.{two_phases_stand}
use Rattle.schedule.proofs.theorems.two_phases_stand.Goals as goal

pub returns : goal.returns
returns c = two_phases_stand
