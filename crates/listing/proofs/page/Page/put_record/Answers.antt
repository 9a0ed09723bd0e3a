use Rattle.std.proofs.Common.{decimal, codes, arith}
use Rattle.listing.proofs.Decimals.{length_word}
use Rattle.listing.proofs.Lengths.{longer}
use Rattle.listing.proofs.page.Page.put_record.Goals as goal

pub put_decimal-requires : goal.put_decimal-requires
put_decimal-requires c =
    omega (arith, longer c.args.self.now.bytes.items (codes " record ") _ c.put.ensures.text, length_word c.in-Some.number (omega arith))

pub returns-in-Some-clause-most : goal.returns-in-Some-clause-most
returns-in-Some-clause-most c =
    omega (
      arith,
      longer c.args.self.now.bytes.items (codes " record ") _ c.put.ensures.text,
      longer c.put.new.self.bytes.items (decimal c.in-Some.number) _ c.put_decimal.ensures.text,
      length_word c.in-Some.number (omega arith),
    )
