use Rattle.std.proofs.Common.{arith}
use Rattle.lists.proofs.Standing.{placed-standing}
use Rattle.lists.proofs.list.List.new.Goals as goal

pub invariant_of-result : goal.invariant_of-result
invariant_of-result c = record { counted = c.sound_count-count.ensures.value; within = omega (arith, c.sound_count-count.ensures.first.within); standing = placed-standing c.args.bytes.now c.sound_count-count.result c.first_places.result (rw (c.first.ensures.bytes, c.first.ensures.count) at c.first_places.ensures) }
