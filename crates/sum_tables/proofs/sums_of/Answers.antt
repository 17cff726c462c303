-- `sum_tables::sums_of` meets its contract.
use mathlib.Core.Path.{◌∙◌}
use native.Mathlib.Omega.{arith}
use Rattle.keyed.proofs.Sums.{part-told}
use Rattle.sum_tables.proofs.sums_of.Goals as goal

pub returns : goal.returns
returns c =
    record { one_value = c.taken_off.ensures ∙ part-told c.args.bases.one c.args.pool.now c.args.start c.args.end c.until-whole.result.one c.until-before.result.one c.power-power1.result (omega arith) (omega arith) c.until-whole.ensures.one_value.0 c.until-before.ensures.one_value.0 c.power-power1.ensures; two_value = c.taken_off-2.ensures ∙ part-told c.args.bases.two c.args.pool.now c.args.start c.args.end c.until-whole.result.two c.until-before.result.two c.power-power2.result (omega arith) (omega arith) c.until-whole.ensures.two_value.0 c.until-before.ensures.two_value.0 c.power-power2.ensures }
