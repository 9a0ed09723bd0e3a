use Rattle.std.proofs.Common.{decimal, codes, arith}
use Rattle.listing.proofs.Decimals.{length_count}
use Rattle.listing.proofs.Lengths.{longer}
use Rattle.listing.proofs.page.Page.put_count.Goals as goal

pub put_decimal-requires : goal.put_decimal-requires
put_decimal-requires c =
    omega (arith, longer c.args.self.now.bytes.items (codes "accepted ") _ c.put.ensures.text, length_count c.args.rows c.requires.0)

pub put-requires-2 : goal.put-requires-2
put-requires-2 c =
    omega (
      arith,
      longer c.args.self.now.bytes.items (codes "accepted ") _ c.put.ensures.text,
      longer c.put.new.self.bytes.items (decimal c.args.rows) _ c.put_decimal.ensures.text,
      length_count c.args.rows c.requires.0,
    )
