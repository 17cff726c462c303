-- `check` meets its contract.
use mathlib.Core.Path.{ap, ◌∙◌}
use mathlib.Core.Bool.{not}
use Rattle.rules.specs.Table.{node_at}
use Rattle.name_refusals.proofs.Drawn.{good-refused, good-passed}
use Rattle.name_refusals.proofs.check.Goals as goal

pub returns-then-not-formed : goal.returns-then-not-formed
returns-then-not-formed c =
    let n = node_at c.args.table.now c.args.pool.now c.args.row.0 in
    c.malformed.ensures ∙ good-refused c.args.row.0 n (c.is_plain.ensures n c.kind.ensures c.requires.kinds_value c.if-is_plain.true) (ap not c.requires.formed_value) c.if-not-formed.true-raw

pub returns-then-is_plain : goal.returns-then-is_plain
returns-then-is_plain c =
    let n = node_at c.args.table.now c.args.pool.now c.args.row.0 in
    good-passed c.args.row.0 n (c.is_plain.ensures n c.kind.ensures c.requires.kinds_value c.if-is_plain.true) (ap not c.requires.formed_value) c.if-not-formed.false-raw
