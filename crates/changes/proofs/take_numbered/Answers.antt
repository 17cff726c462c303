-- `changes::take_numbered` meets its contract.
use native.Mathlib.Omega.{arith}
use Rattle.rules.proofs.Bounds.{numbered-length}
use Rattle.changes.proofs.Writes.{named-numbered}
use Rattle.changes.proofs.take_numbered.Goals as goal

pub append_numbered-length-requires : goal.append_numbered-length-requires
append_numbered-length-requires c = omega (arith, numbered-length c.args.k c.requires.attribute_in_bounds.2)

pub overflow_cast-place-2 : goal.overflow_cast-place-2
overflow_cast-place-2 c =
    record { fits = omega (arith, c.append_numbered-length.ensures.value, numbered-length c.args.k c.requires.attribute_in_bounds.2) }

pub overflow_add-result : goal.overflow_add-result
overflow_add-result c =
    record { fits = omega (arith, c.append_numbered-length.ensures.value, numbered-length c.args.k c.requires.attribute_in_bounds.2) }

pub returns : goal.returns
returns c =
    named-numbered _ _ _ _ _ _ _ c.append_numbered-length.ensures.value c.append_numbered-length.ensures.pool_after c.set_place.ensures c.set_name.ensures
