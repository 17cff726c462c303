-- `notes::set_note` meets its contract.
use mathlib.Core.Path.{refl}
use Rattle.notes.specs.Notes.{noted}
use Rattle.notes.proofs.set_note.Goals as goal

pub returns : goal.returns
unfolding noted
returns c = refl
