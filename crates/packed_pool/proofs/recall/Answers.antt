-- `recall` meets its contract.
use mathlib.Core.Path.{sym, ◌∙◌}
use native.Mathlib.Omega.{arith}
use Rattle.packed_pool.proofs.Marking.{seen-marks}
use Rattle.packed_pool.proofs.recall.Goals as goal

pub returns-then-is_seen : goal.returns-then-is_seen
returns-then-is_seen c =
    λ hashed pool names g. seen-marks c.slot_of-slot.result c.args.place.offset.0 c.args.place.length g c.slot_of-slot.ensures (sym c.is_seen.ensures ∙ c.if-is_seen.true) c.seen.ensures

pub returns : goal.returns
returns c = λ hashed pool names g h. absurd (omega arith)
