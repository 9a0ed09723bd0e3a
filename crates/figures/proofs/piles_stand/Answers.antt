use Rattle.std.proofs.Common.{refl}
use Rattle.figures.proofs.Piles.{piles-stand}
use Rattle.figures.proofs.piles_stand.Goals as goal

pub returns : goal.returns
returns c = record { stand = piles-stand; count = refl }
