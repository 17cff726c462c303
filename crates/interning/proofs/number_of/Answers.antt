-- `number_of` meets its contract.
use Prim.Native.Nat.{ℕ}
use mathlib.Core.Path.{ap, ◌∙◌}
use mathlib.Core.List.{List}
use Rattle.tables.specs.Tables.{hash_in}
use Rattle.entries.proofs.PoolTables.{tables-lent}
use Rattle.interning.proofs.number_of.Goals as goal

pub hash_of-hash-requires : goal.hash_of-hash-requires
hash_of-hash-requires c = rw (tables-lent c.args.entries.now) c.requires.tables.room

pub find-requires : goal.find-requires
find-requires c =
    record { entries = c.requires; hash_value = c.hash_of-hash.ensures ∙ ap (λ (t : List ℕ). hash_in t c.args.name.now) (tables-lent c.args.entries.now) }

pub returns : goal.returns
returns c = c.find.ensures
