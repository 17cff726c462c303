-- `holds` meets its contract.
use Rattle.name_slots.proofs.holds.Goals as goal

pub returns : goal.returns
returns c = (cc)
