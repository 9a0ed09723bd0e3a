use Rattle.std.proofs.Common.{◌≡◌, ◌/◌, length, take, ap, ◌∙◌, arith}
use Rattle.lists.specs.ListRecords.{records_of}
use Rattle.lists.proofs.Slices.{length-records, take-records}
use Rattle.lists.proofs.records.Records.items.Goals as goal

pub returns : goal.returns
returns c =
    let x = c.args.self.now
    in let value : take x.count c.as_chunks.result.0.now ≡ records_of x.bytes.now x.count =
    ap (take x.count) c.as_chunks.ensures.front ∙ take-records x.count (length x.bytes.now / 16) x.bytes.now (omega (arith, x.within))
    in record { value = value; length = ap length value ∙ length-records x.count x.bytes.now }
