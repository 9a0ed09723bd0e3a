use Rattle.std.proofs.Common.{◌≡◌, take, vec_items}
use Rattle.encoding.specs.Records.{bytes_of}
use Rattle.encoding.proofs.record.encode_draft.Given as goal

abbrev pub invariant-loop-row : goal.invariant-loop-row
invariant-loop-row l = vec_items l.book ≡ bytes_of (take l.row-index l.row-items)
