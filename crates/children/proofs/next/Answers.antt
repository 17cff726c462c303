-- `children::next` meets its contract.
use Prim.Native.Nat.{◌+◌}
use mathlib.Core.Path.{ap, ◌∙◌}
use Rattle.notes.specs.Notes.{note_at}
use Rattle.children.proofs.next.Goals as goal

pub returns : goal.returns
returns c = c.link.ensures ∙ ap (λ k. note_at c.args.links.now c.args.row.0 (k + 1)) c.first_word.ensures.0
