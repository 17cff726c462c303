-- `notes::link_at` meets its contract.
use Prim.Native.Nat.{ℕ}
use mathlib.Core.Path.{ap, ◌∙◌}
use Rattle.notes.specs.Notes.{note_at}
use Rattle.notes.proofs.link_at.Goals as goal

pub returns : goal.returns
returns c = c.link.ensures ∙ ap (λ (r : ℕ). note_at c.args.notes.now r c.args.k) c.row_at.ensures
