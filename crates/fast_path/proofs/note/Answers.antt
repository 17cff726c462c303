-- `note` meets its contract.
use Prim.Native.Nat.{ℕ}
use mathlib.Core.Path.{ap, ◌∙◌}
use mathlib.Core.List.{List}
use Rattle.notes.specs.Notes.{LOCAL_NAME, URI, VALUE, noted}
use Rattle.fast_path.specs.Passing.{named}
use Rattle.fast_path.proofs.note.Goals as goal

pub returns : goal.returns
unfolding named
returns c =
    let r = c.args.row.0 in
    let local = c.set_name-2.ensures ∙ ap (λ (n : List ℕ). noted n r LOCAL_NAME c.args.local.0) c.set_name.ensures in
    let uri = c.set_name-3.ensures ∙ ap (λ (n : List ℕ). noted n r URI c.args.uri.0) local in
    c.set_name-4.ensures ∙ ap (λ (n : List ℕ). noted n r VALUE 0) uri
