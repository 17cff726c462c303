-- `is_named` meets its contract.
use mathlib.Core.Path.{◌∙◌}
use Rattle.packed_index.proofs.Finding.{other-hash, other_length}
use Rattle.packed_index.proofs.is_named.Goals as goal

pub returns-then-word-hash : goal.returns-then-word-hash
returns-then-word-hash c =
    other-hash c.requires.by_index.0 c.args.index.now c.args.pool.now c.requires.by_index.1 c.args.name.now c.args.hash c.requires.by_index.2 c.args.number.0 c.requires.number_nonzero.0 c.requires.number_nonzero.1 (λ e. c.if-word-hash.true (c.word.ensures ∙ e))

pub returns-then-word-name : goal.returns-then-word-name
returns-then-word-name c =
    other_length c.requires.by_index.0 c.args.index.now c.args.pool.now c.requires.by_index.1 c.args.name.now c.args.number.0 c.requires.number_nonzero.0 c.requires.number_nonzero.1 (λ e. c.if-word-name.true (c.word-2.ensures ∙ e))

pub returns : goal.returns
returns c = c.same.ensures ∙ rw c.name_of-own.ensures
