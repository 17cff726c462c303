-- `attributes::link_attributes` meets its contract.
use Rattle.rules.specs.Table.{row_count}
use Rattle.notes.specs.Notes.{FIRST}
use Rattle.attributes.specs.Following.{LinkedFrom, SameBefore}
use Rattle.attributes.proofs.link_attributes.Given as goal

abbrev pub invariant-loop-r : goal.invariant-loop-r
invariant-loop-r l = LinkedFrom l.table l.notes (row_count l.table) l.r × SameBefore FIRST l.initial.notes l.notes
