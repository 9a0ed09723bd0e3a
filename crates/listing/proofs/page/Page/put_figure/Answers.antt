use Rattle.std.proofs.Common.{[], ◌∷◌, decimal}
use Rattle.listing.proofs.Written.{put_on}
use Rattle.listing.proofs.page.Page.put_figure.Goals as goal

-- the digits are put right behind the space
pub returns-clause-at : goal.returns-clause-at
returns-clause-at c = put_on (32 ∷ []) (decimal c.args.n) _ _ _ c.put.ensures.at c.put_decimal.ensures.at
