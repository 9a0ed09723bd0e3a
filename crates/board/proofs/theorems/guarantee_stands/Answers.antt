use Rattle.board.proofs.Rankings.{guarantee_stands}
use Rattle.board.proofs.theorems.guarantee_stands.Goals as goal

pub returns : goal.returns
returns g c = guarantee_stands _ _ _
