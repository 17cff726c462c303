-- `fill` meets its contract.
use mathlib.Core.Path.{refl}
use native.Mathlib.Omega.{arith}
use lib.ListN.{length-set}
use Rattle.name_slots.specs.Slots.{remembered}
use Rattle.name_slots.proofs.fill.Goals as goal

pub bounds-known-slot-2 : goal.bounds-known-slot-2
bounds-known-slot-2 c = simp length-set (omega arith)

pub bounds-known-slot-3 : goal.bounds-known-slot-3
bounds-known-slot-3 c = simp length-set (omega arith)

pub returns : goal.returns
unfolding remembered
returns c = refl
