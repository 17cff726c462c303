-- `changes::note_declaration` meets its contract.
use Rattle.changes.proofs.Writes.{noted-for}
use Rattle.changes.proofs.note_declaration.Goals as goal

pub returns : goal.returns
returns c =
    noted-for _ _ _ c.name-prefix.ensures c.name-uri.ensures c.set_name.ensures c.set_name-2.ensures c.set_name-3.ensures c.set_name-4.ensures
