-- `pack` meets its contract.
use Rattle.bundle_packing.proofs.pack.Goals as goal

pub pack_few-requires : goal.pack_few-requires
pack_few-requires c = c.has_many_rows.ensures c.if-has_many_rows.false
