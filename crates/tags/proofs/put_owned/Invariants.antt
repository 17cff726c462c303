-- `tags::put_owned` meets its contract. The invariant: what is left to put makes the whole.
use Prim.Native.Nat.{◌<◌}
use Rattle.rules.specs.Table.{row_count}
use Rattle.tags.specs.Links.{Linked, left}
use Rattle.tags.proofs.Owned.{Left}
use Rattle.tags.proofs.put_owned.Given as goal

abbrev pub invariant-loop-position : goal.invariant-loop-position
invariant-loop-position l = (linked : Linked l.table l.links) × (row : l.element < row_count l.table) × Left l.table l.pool l.links l.element linked row l.initial.out l.at l.out l.to l.position

abbrev pub decreases-loop-position : goal.decreases-loop-position
decreases-loop-position l = left (row_count l.table) l.position
