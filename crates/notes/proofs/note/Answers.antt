-- `notes::note` meets its contract.
use mathlib.Core.Path.{refl}
use Rattle.notes.specs.Notes.{note_at}
use Rattle.notes.proofs.note.Goals as goal

pub returns : goal.returns
unfolding note_at
returns c = refl
