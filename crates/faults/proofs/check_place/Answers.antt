-- `check_place` meets its contract.
use mathlib.Core.Path.{sym, ◌∙◌}
use Rattle.faults.proofs.Laws.{place-structure, place-fields}
use Rattle.faults.proofs.check_place.Goals as goal

pub returns-then-bad : goal.returns-then-bad
returns-then-bad c =
    place-structure c.args.table.now c.args.pool.now c.args.row.0 c.requires.row_bound.0 (sym (c.bad.ensures c.args.pool.now) ∙ c.if-bad.true)

pub returns : goal.returns
returns c =
    place-fields c.args.table.now c.args.pool.now c.args.row.0 c.requires.row_bound.0 (sym (c.bad.ensures c.args.pool.now) ∙ c.if-bad.false) c.check.ensures
