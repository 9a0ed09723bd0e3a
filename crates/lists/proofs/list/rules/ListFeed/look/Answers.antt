use Rattle.std.proofs.Common.{◌≡◌, Some, sym, subst, rules}
use Rattle.lists.specs.Lists.{OfMark, offer_of}
use Rattle.lists.proofs.Standing.{offer_own}
use Rattle.lists.proofs.list.rules.ListFeed.look.Goals as goal

pub returns : goal.returns
returns c =
    let x = c.args.self.now
    in let k = c.args.k.value
    in let value : Some c.figures.result ≡ offer_of x k = search rules
    in record { value = value; own = subst (OfMark x k) (sym value) (offer_own x k) }
