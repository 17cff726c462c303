-- `is_named` meets its contract.
use mathlib.Core.Path.{◌∙◌}
use Rattle.entries.proofs.Finding.{other-hash, other_length}
use Rattle.entries.proofs.is_named.Goals as goal

pub returns-then-word-hash : goal.returns-then-word-hash
returns-then-word-hash c =
    let n = c.requires.number_nonzero in
    other-hash c.args.entries.now c.args.pool.now c.requires.entries c.args.name.now c.args.hash c.requires.hash_value c.args.number.0 n.0 n.1 (λ e. c.if-word-hash.true (c.word.ensures ∙ e))

pub returns-then-word-name : goal.returns-then-word-name
returns-then-word-name c =
    let n = c.requires.number_nonzero in
    other_length c.args.entries.now c.args.pool.now c.requires.entries c.args.name.now c.args.number.0 n.0 n.1 (λ e. c.if-word-name.true (c.word-2.ensures ∙ e))

pub returns : goal.returns
returns c = c.same.ensures ∙ rw c.name_of-own.ensures
