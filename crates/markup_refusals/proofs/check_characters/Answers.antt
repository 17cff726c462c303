-- `markup_refusals::check_characters` meets its contract.
use mathlib.Core.Path.{sym, ◌∙◌}
use native.Mathlib.Omega.{arith}
use Rattle.markup_refusals.proofs.Tests.{pool-bound}
use Rattle.markup_refusals.proofs.Parts.{clean-accepted}
use Rattle.markup_refusals.proofs.check_characters.Goals as goal

pub make-requires : goal.make-requires
make-requires c = (omega arith, pool-bound c.args.table.now c.args.pool.now c.requires.pool_value)

pub check_values-requires : goal.check_values-requires
check_values-requires c =
    record { pool_value = c.requires.pool_value; in_bounds = (omega (arith, c.make.ensures.reaches_len_unchanged), c.make.ensures.reached); table_in_bounds = c.requires.table_in_bounds }

pub returns : goal.returns
returns c =
    λ e flagged. clean-accepted c.args.table.now c.args.pool.now c.requires.pool_value (sym c.holds_forbidden.ensures ∙ c.if-holds_forbidden.false) e
