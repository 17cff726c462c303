-- `recall` meets its contract.
use native.Mathlib.Omega.{arith}
use Rattle.dictionary.proofs.Places.{seen-denotes}
use Rattle.dictionary.proofs.recall.Goals as goal

pub returns-then-is_seen : goal.returns-then-is_seen
returns-then-is_seen c =
    λ pool g h. seen-denotes g c.slot_of-slot.result c.slot_of-slot.ensures c.args.place.offset.0 c.args.place.length c.is_seen.ensures c.if-is_seen.true c.seen.ensures

pub returns : goal.returns
returns c = λ pool g h. absurd (omega arith)
