use Rattle.std.proofs.Common.{refl}
use Rattle.rows.specs.Books.{first_rows, scanned}
use Rattle.simulate.proofs.request.sample.Goals as goal

pub returns : goal.returns
unfolding first_rows scanned
returns c = record { loads = refl; rows = refl }
