use Rattle.lists.proofs.Standing.{moved-standing, put-moved}
use Rattle.lists.proofs.list.rules.ListFeed.take.Goals as goal

pub invariant_of-self : goal.invariant_of-self
invariant_of-self c =
    let x = c.args.self.now
    in let standing = moved-standing x.bytes.now x.count x.places c.args.k.value _ _ c.set.new.self (rw (c.records.ensures.bytes, c.records.ensures.count, c.index.ensures.value) at c.seek-cursor.ensures.value)
    (put-moved x.places c.args.k.value _ c.set.new.self c.args.k.small c.set.ensures) x.standing
    in record { counted = x.counted; within = x.within; standing = standing }
