use Rattle.std.proofs.Common.{◌-◌, length, sym, arith}
use Rattle.packed_pool.proofs.Writing.{begun-less, begun_all}
use Rattle.packed_pool.proofs.write.Goals as goal

pub returns : goal.returns
returns c =
    begun_all c.args.out.now c.args.at c.args.name.now c.requires (omega arith) (c.write_four-2.ensures c.args.out.now (sym c.loop-four.auto.out) (begun-less c.args.out.now c.args.at c.args.name.now c.requires (length c.args.name.now - 4) (omega arith) c.loop-four.invariant))
