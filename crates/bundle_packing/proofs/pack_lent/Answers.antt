-- `pack_lent` meets its contract.
use native.Mathlib.Omega.{arith}
use Rattle.packer.proofs.Outcome.{drawn-refused, drawn-accepted, lent-enough, named-noted}
use Rattle.packed_bundle.proofs.Leaving.{check-left}
use Rattle.bundle_packing.proofs.pack_lent.Goals as goal

pub pack-requires : goal.pack-requires
pack-requires c =
    let named = c.check_numbered.ensures.named c.in-Ok.is in record { enough = lent-enough c.requires.lent (drawn-accepted c.args.table.now c.args.pool.now c.check_numbered.ensures.value c.in-Ok.is) c.check_numbered.auto.notes c.requires.table_in_bounds (omega arith); dictionary = (named.right, c.requires.lent.blank); by_index = (_, _, named-noted named) }

pub returns-in-Err : goal.returns-in-Err
returns-in-Err c =
    check-left c.args.table.now c.args.pool.now _ _ (drawn-refused c.args.table.now c.args.pool.now c.check_numbered.ensures.value _ c.in-Err.is) (c.refuse.ensures.value, c.refuse.ensures.out_after)
