use Rattle.std.proofs.Common.{Ok, Err}
use Rattle.lists.proofs.Sounding.{first-sound, walked}
use Rattle.lists.proofs.records.sound_count.Goals as goal

pub returns-in-Ok : goal.returns-in-Ok
returns-in-Ok c =
    let first = walked c.args.bytes.now c.all.result.bytes.now c.all.result.count (Ok c.in-Ok.count) c.all.ensures.bytes c.all.ensures.count (c.in-Ok.ensures)
    in record { value = first-sound c.args.bytes.now _ first; first = first }

pub returns-in-Err : goal.returns-in-Err
returns-in-Err c =
    let first = walked c.args.bytes.now c.all.result.bytes.now c.all.result.count (Err c.in-Err.bad) c.all.ensures.bytes c.all.ensures.count (c.in-Err.ensures)
    in record { value = first-sound c.args.bytes.now _ first; first = first }
