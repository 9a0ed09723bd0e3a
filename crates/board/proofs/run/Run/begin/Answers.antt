use Rattle.std.proofs.Common.{refl}
use Rattle.board.proofs.Going.{none-placed}
use Rattle.board.proofs.Rankings.{guarantee_stands}
use Rattle.board.proofs.run.Run.begin.Goals as goal

pub returns : goal.returns
returns g c = record {
  new = (record { number = refl; places = none-placed 32 }, (refl, refl));
  assured = guarantee_stands _ _ _ g.P.Pledge.view _ record { number = refl; places = none-placed 32 };
}
