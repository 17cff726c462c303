-- `kind_at` meets its contract.
use mathlib.Core.Path.{ap, ◌∙◌}
use native.Mathlib.Omega.{arith}
use Rattle.kinds.specs.Kinds.{kind_of}
use Rattle.entries.proofs.PoolTables.{placed, tables-lent}
use Rattle.interning.proofs.kind_at.Goals as goal

pub kind_at-requires : goal.kind_at-requires
kind_at-requires c =
    rw (tables-lent c.args.entries.now) record { tables = c.requires.entries.tables; start_le_end = (omega arith, c.requires.within.0, c.requires.within.1) }

pub returns : goal.returns
returns c = c.kind_at.ensures ∙ ap (kind_of) (placed c.args.pool.now c.args.place.offset.0 c.args.place.length)
