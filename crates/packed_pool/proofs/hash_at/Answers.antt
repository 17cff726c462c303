-- `hash_at` meets its contract.
use mathlib.Core.Path.{◌∙◌}
use native.Mathlib.Omega.{arith}
use Rattle.marks.specs.Marks.{between}
use Rattle.tables.proofs.Hashes.{plain-hash}
use Rattle.packed_pool.proofs.hash_at.Goals as goal

pub keyed_hash_at-requires : goal.keyed_hash_at-requires
keyed_hash_at-requires c = record { tables = (c.requires.tables, omega arith); start_le_end = c.requires.start_le_end }

pub returns-then-tables-gt0 : goal.returns-then-tables-gt0
returns-then-tables-gt0 c = c.keyed_hash_at.ensures

pub returns : goal.returns
returns c =
    c.hash_of.ensures ∙ plain-hash c.args.tables.now (between c.args.pool.now c.args.start c.args.end) (let left = c.if-tables-gt0.false in omega arith)
