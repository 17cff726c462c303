-- `content::put_element` meets its contract. The invariants: what is left to put makes the whole; each turn puts one piece of it.
use Prim.Native.Nat.{◌-◌, ◌≤◌, ◌<◌}
use lib.ListN.{length}
use Rattle.rules.specs.Lists.{gathered}
use Rattle.markup.specs.Markup.{markup}
use Rattle.tags.specs.Links.{Linked}
use Rattle.content.proofs.Rest.{whole, tree, rest, opened, Ready, Inside}
use Rattle.content.proofs.put_element.Given as goal

abbrev pub invariant-loop-position : goal.invariant-loop-position
invariant-loop-position l =
    (linked : Linked l.table l.links) × (0 < l.depth)
    × Inside l.table l.pool l.links linked (gathered whole (rest l.table l.pool l.links (l.initial.depth - 1) l.initial.element l.initial.position)) l.initial.out l.initial.to l.out l.to l.element (l.depth - 1) l.position
    × (length (rest l.table l.pool l.links (l.depth - 1) l.element l.position) ≤ length (rest l.table l.pool l.links (l.initial.depth - 1) l.initial.element l.initial.position))

abbrev pub decreases-loop-position : goal.decreases-loop-position
decreases-loop-position l = length (rest l.table l.pool l.links (l.depth - 1) l.element l.position)

abbrev pub invariant-loop-out : goal.invariant-loop-out
invariant-loop-out l = (linked : Linked l.table l.links) × Ready l.table l.pool l.links linked (markup (tree l.table l.pool l.links l.initial.element)) l.initial.out l.at l.out l.to l.element l.depth

abbrev pub decreases-loop-out : goal.decreases-loop-out
decreases-loop-out l = length (opened l.table l.pool l.links l.depth l.element)
