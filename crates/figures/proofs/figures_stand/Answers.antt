use Rattle.std.proofs.Common.{refl}
use Rattle.figures.proofs.Checks.{figures-stand}
use Rattle.figures.proofs.figures_stand.Goals as goal

pub returns : goal.returns
returns c = record { stand = figures-stand; count = refl }
