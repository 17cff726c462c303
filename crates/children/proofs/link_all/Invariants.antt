-- `children::link_all` meets its contract. The invariant: the rows of both kinds from `r` on are linked.
use Rattle.children.proofs.Linking.{BothListed}
use Rattle.children.proofs.link_all.Given as goal

abbrev pub invariant-loop-r : goal.invariant-loop-r
invariant-loop-r l = BothListed l.table l.links l.r
