-- `intern` meets its contract.
use Rattle.interning.proofs.Counting.{entries-counted, room-counted, interned-counted}
use Rattle.interning.proofs.intern.Goals as goal

pub number_at-requires : goal.number_at-requires
number_at-requires c =
    let e = c.args.entries.now in record { entries = rw c.count.ensures (entries-counted e c.args.pool.now c.count.result c.requires.entries); has_room = rw c.count.ensures (room-counted e c.args.pool.now c.count.result c.requires.has_room); within = c.requires.within; length_nonzero = c.requires.length_nonzero }

pub returns : goal.returns
returns c =
    record { entries_2 = c.number_at.ensures.entries_2; interned = interned-counted c.args.entries.now c.args.pool.now c.count.result (rw c.count.ensures at c.number_at.ensures.interned) }
