use Rattle.std.proofs.Common.{sym, subst}
use Rattle.lists.specs.ListRecords.{FirstFaulty}
use Rattle.lists.specs.Walks.{sound-first}
use Rattle.lists.proofs.list.List.count.Goals as goal

pub returns : goal.returns
returns c =
    let x = c.args.self.now
    in record { value = x.counted; first = subst (FirstFaulty x.bytes.now) (sym x.counted) (sound-first x.bytes.now) }
