-- `text_room::complete` meets its contract.
use native.Mathlib.Omega.{arith}
use Rattle.text_room.proofs.Room.{completed-past, completed-within}
use Rattle.text_room.proofs.complete.Goals as goal

pub returns-then-end-out : goal.returns-then-end-out
returns-then-end-out c =
    let all = completed-past _ _ (omega (arith, c.if-end-out.true)) (c.refuse.ensures.value, c.refuse.ensures.out_after) in record { value = all.0; out_after = all.1 }

pub returns : goal.returns
returns c =
    let all = completed-within _ _ (omega arith) c.clear_bytes.ensures in record { value = all.0; out_after = all.1 }
