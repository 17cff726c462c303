-- `children::first` meets its contract.
use mathlib.Core.Path.{ap, ◌∙◌}
use Rattle.notes.specs.Notes.{note_at}
use Rattle.children.proofs.first.Goals as goal

pub returns : goal.returns
returns c = c.link.ensures ∙ ap (note_at c.args.links.now c.args.row.0) c.first_word.ensures.0
