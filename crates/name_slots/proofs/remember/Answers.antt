-- `remember` meets its contract.
use Rattle.name_slots.proofs.remember.Goals as goal

pub returns : goal.returns
returns c =
    (c.slot_of-slot.result, c.slot_of-slot.ensures, rw (c.name-prefix.ensures, c.name-uri.ensures) at c.fill.ensures)
