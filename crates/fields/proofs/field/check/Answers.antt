-- `field::check` meets its contract.
use mathlib.Core.Path.{sym, ap}
use Rattle.rules.specs.Refusals.{verdict}
use Rattle.fields.proofs.field.check.Goals as goal

pub returns-then-is_plain : goal.returns-then-is_plain
returns-then-is_plain c = ap verdict (sym (c.is_plain.ensures c.if-is_plain.true))
