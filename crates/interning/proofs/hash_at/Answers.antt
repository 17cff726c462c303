-- `hash_at` meets its contract.
use Prim.Native.Nat.{ℕ, ◌+◌}
use mathlib.Core.Path.{ap, ◌∙◌}
use mathlib.Core.List.{List}
use native.Mathlib.Omega.{arith}
use Rattle.marks.specs.Marks.{between}
use Rattle.tables.specs.Tables.{hash_in}
use Rattle.entries.specs.Entries.{tables_of}
use Rattle.entries.proofs.PoolTables.{placed, tables-lent}
use Rattle.interning.proofs.hash_at.Goals as goal

pub hash_at-requires : goal.hash_at-requires
hash_at-requires c =
    rw (tables-lent c.args.entries.now) record { tables = c.requires.entries.tables; start_le_end = (omega arith, c.requires.within.0, c.requires.within.1) }

pub returns : goal.returns
returns c =
    c.hash_at.ensures ∙ ap (λ (t : List ℕ). hash_in t (between c.args.pool.now c.args.place.offset.0 (c.args.place.offset.0 + c.args.place.length))) (tables-lent c.args.entries.now) ∙ ap (hash_in (tables_of c.args.entries.now)) (placed c.args.pool.now c.args.place.offset.0 c.args.place.length)
