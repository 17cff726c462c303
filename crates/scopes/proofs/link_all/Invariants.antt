-- `scopes::link_all` meets its contract. The invariant: the rows so far are linked, and no other word is changed.
use Rattle.scopes.specs.Standing.{Linked, Relinked}
use Rattle.scopes.proofs.link_all.Given as goal

abbrev pub invariant-loop-r : goal.invariant-loop-r
invariant-loop-r l = Linked l.table l.notes l.r × Relinked l.initial.notes l.notes
