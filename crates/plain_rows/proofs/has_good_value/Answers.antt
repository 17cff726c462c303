-- `has_good_value` meets its contract.
use mathlib.Core.Path.{refl, sym, ◌∙◌}
use Rattle.rules.proofs.Lists.{true-not-false}
use Rattle.plain_rows.proofs.Laws.{value-formed, value-ascii}
use Rattle.plain_rows.proofs.has_good_value.Goals as goal

pub returns-then-not-place-within : goal.returns-then-not-place-within
returns-then-not-place-within c = λ e. absurd (true-not-false e refl)

pub returns-then-ascii : goal.returns-then-ascii
returns-then-ascii c =
    λ e. value-ascii c.args.table.now c.args.pool.now c.args.row.0 c.place-place.ensures c.is_within-within.ensures c.is_nothing-nothing.ensures (c.if-not-place-within.false) (sym c.requires.ascii_value ∙ c.if-ascii.true)

pub returns-then-place-gt-SHORT : goal.returns-then-place-gt-SHORT
returns-then-place-gt-SHORT c = λ e. absurd (true-not-false e refl)

pub returns : goal.returns
returns c =
    λ e. value-formed c.args.table.now c.args.pool.now c.args.row.0 c.place-place.ensures c.is_within-within.ensures c.is_nothing-nothing.ensures (c.if-not-place-within.false) (rw (← c.field.ensures) (sym c.well_formed-2.ensures ∙ e))
