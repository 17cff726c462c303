-- `scopes::link` meets its contract.
use native.Mathlib.Omega.{arith}
use Rattle.scopes.proofs.Linking.{link-passed, link-both}
use mathlib.Core.Path.{refl, ap, ◌∙◌}
use Rattle.notes.specs.Notes.{LATEST, noted}
use Rattle.scopes.proofs.link.Goals as goal

pub returns-then-owner-row : goal.returns-then-owner-row
returns-then-owner-row c =
    let all = link-both c.args.table.now c.args.notes.now c.args.row.0 (omega arith) c.requires.linked c.owner_of-owner.result.0 c.link-before.result.0 (omega arith) c.owner_of-owner.ensures (omega arith) c.link-before.ensures
    c.set_link.new.notes c.set_link-then-owner-row.new.notes c.set_link.ensures (c.set_link-then-owner-row.ensures ∙ ap (noted c.set_link.new.notes c.owner_of-owner.result.0 LATEST) c.position_of.ensures) in record { linked_2 = all.0; relinked = all.1 }

pub returns-else-owner-row : goal.returns-else-owner-row
returns-else-owner-row c =
    record { linked_2 = link-passed c.args.table.now c.args.notes.now c.args.row.0 (omega arith) c.requires.linked (omega arith); relinked = λ r k h a b. refl }
