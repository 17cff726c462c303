-- `kind_of` meets its contract.
use mathlib.Core.Path.{sym, ◌∙◌}
use Rattle.kinds.proofs.kind_of.Goals as goal

pub plain_kind-requires : goal.plain_kind-requires
plain_kind-requires c = sym c.is_plain.ensures ∙ c.if-is_plain.true
