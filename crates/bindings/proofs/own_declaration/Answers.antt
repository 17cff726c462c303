-- `bindings::own_declaration` meets its contract.
use Rattle.bindings.proofs.Asking.{own-none, top_within, own-here, own-other}
use Rattle.bindings.proofs.own_declaration.Goals as goal

pub returns-then-top-eq0 : goal.returns-then-top-eq0
returns-then-top-eq0 c = own-none _ _ _ _ c.name-prefix.ensures c.nearest-top.ensures c.if-top-eq0.true

pub parent-owner-requires : goal.parent-owner-requires
parent-owner-requires c =
    top_within c.args.table.now c.args.notes.now c.args.tops.now c.args.element.0 c.name-prefix.ensures c.nearest-top.ensures c.if-top-eq0.false c.requires.element_bound c.row_at.ensures

pub returns-then-owner-element : goal.returns-then-owner-element
returns-then-owner-element c =
    own-here _ _ _ _ c.name-prefix.ensures c.nearest-top.ensures c.if-top-eq0.false c.row_at.ensures c.parent-owner.ensures c.if-owner-element.true

pub returns : goal.returns
returns c =
    own-other _ _ _ _ c.name-prefix.ensures c.nearest-top.ensures c.if-top-eq0.false c.row_at.ensures c.parent-owner.ensures c.if-owner-element.false
