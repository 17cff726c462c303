-- `hash_of` meets its contract.
use mathlib.Core.Path.{◌∙◌}
use Rattle.tables.proofs.Hashes.{plain-hash, keyed-hash}
use Rattle.tables.proofs.hash_of.Goals as goal

pub returns-then-tables-eq0 : goal.returns-then-tables-eq0
returns-then-tables-eq0 c = c.hash_of.ensures ∙ plain-hash c.args.tables.now c.args.name.now c.if-tables-eq0.true

pub returns : goal.returns
returns c =
    c.keyed_hash.ensures ∙ keyed-hash c.args.tables.now c.args.name.now c.if-tables-eq0.false c.pair_at.ensures.0 c.pair_at.ensures.1
