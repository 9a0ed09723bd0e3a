use Rattle.std.proofs.Common.{arith}
use Rattle.listing.proofs.Lengths.{longer}
use Rattle.listing.proofs.Lines.{length_row}
use Rattle.listing.proofs.page.Page.put_row.Goals as goal
use Rattle.listing.specs.Lines.{line_of}

pub put_line-requires-clause-room : goal.put_line-requires-clause-room
put_line-requires-clause-room c =
    let within = rw c.in-Some.is at c.requires.within
    in omega (arith, length_row c.args.number c.args.row.now c.in-Some.bounds c.requires.valid within)

pub returns-in-Some-clause-most : goal.returns-in-Some-clause-most
returns-in-Some-clause-most c =
    let within = rw c.in-Some.is at c.requires.within
    in omega (
      arith,
      longer c.args.self.now.bytes.items (line_of c.args.number c.args.row.now c.in-Some.bounds) _ c.put_line.ensures.text,
      length_row c.args.number c.args.row.now c.in-Some.bounds c.requires.valid within,
    )
