-- `ancestors::start` meets its contract: a law for each arm.
use mathlib.Core.Path.{◌∙◌}
use Rattle.ancestors.proofs.StartElement.{start-self, start-owner, start-child, start_none, start-fragment, start-ancestor}
use Rattle.ancestors.proofs.start.Goals as goal

pub returns-in-1 : goal.returns-in-1
returns-in-1 c =
    λ pool. start-self c.args.table.now pool c.args.row.0 c.requires.0 c.kind-kind.result c.kind-kind.ensures c.in-1.is

pub returns-in-2 : goal.returns-in-2
returns-in-2 c =
    λ pool. c.parent.ensures ∙ start-owner c.args.table.now pool c.args.row.0 c.requires.0 c.kind-kind.result c.kind-kind.ensures c.in-2.is

pub returns-in-9 : goal.returns-in-9
returns-in-9 c =
    λ pool. c.element_child.ensures pool ∙ start-child c.args.table.now pool c.args.row.0 c.requires.0 c.kind-kind.result c.kind-kind.ensures c.in-9.is

pub returns-in-6 : goal.returns-in-6
returns-in-6 c =
    λ pool. start_none c.args.table.now pool c.args.row.0 c.requires.0 c.kind-kind.result c.kind-kind.ensures c.in-6.is

pub returns-in-11 : goal.returns-in-11
returns-in-11 c =
    λ pool. start-fragment c.args.table.now pool c.args.row.0 c.requires.0 c.kind-kind.result c.kind-kind.ensures c.in-11.is

pub returns-in_default : goal.returns-in_default
returns-in_default c =
    λ pool. let n = c.in_default.in_default-own.rest in
    c.ancestor.ensures pool ∙ start-ancestor c.args.table.now pool c.args.row.0 c.requires.0 c.kind-kind.result c.kind-kind.ensures n.0.0.0.0.1 n.0.0.0.1 n.0.0.1 n.0.1 n.1
