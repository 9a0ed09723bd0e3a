use Rattle.board.proofs.Guarantees.{orders_stand}
use Rattle.board.proofs.theorems.orders_stand.Goals as goal

pub returns : goal.returns
returns g c = orders_stand _ _ _
