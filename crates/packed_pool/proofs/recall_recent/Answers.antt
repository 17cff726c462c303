-- `recall_recent` meets its contract. A place that is not found tells nothing.
use Rattle.std.proofs.Common.{sym, ◌∙◌, arith}
use Rattle.packed_pool.proofs.Marking.{seen-marks}
use Rattle.packed_pool.proofs.recall_recent.Goals as goal

pub returns-then-is_seen : goal.returns-then-is_seen
returns-then-is_seen c =
    λ hashed pool names g. seen-marks c.loop-slot.slot c.args.place.offset.0 c.args.place.length g (omega arith) (sym c.is_seen.ensures ∙ c.if-is_seen.true) c.seen.ensures
