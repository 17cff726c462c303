-- `repair::repair_element` meets its contract.
use Rattle.changes.proofs.Writes.{count-part}
use Rattle.working.proofs.Own.{element-rows}
use Rattle.repair.proofs.Elements.{element-asked, element-tops, element-kept, own-here, own-set, none_here, own-appended}
use Rattle.repair.proofs.repair_element.Goals as goal

pub element_settled-requires : goal.element_settled-requires
element_settled-requires c = element-asked c.requires.3

pub returns-then-element_settled : goal.returns-then-element_settled
returns-then-element_settled c = λ pool bytes names h. element-kept h c.element_settled.ensures c.if-element_settled.true

pub slice_bounds-own_declaration-end-2 : goal.slice_bounds-own_declaration-end-2
slice_bounds-own_declaration-end-2 c = count-part _ _ (element-rows c.requires.3).2

pub own_declaration-own-requires : goal.own_declaration-own-requires
own_declaration-own-requires c = record { by_index = (_, element-asked c.requires.3); element_bound = element-tops c.requires.3 }

pub set_own-requires : goal.set_own-requires
set_own-requires c =
    own-here c.requires.3 c.element_settled.ensures c.if-element_settled.false c.own_declaration-own.ensures c.if-own-gt0.true c.row_at.ensures

pub returns-then-own-gt0 : goal.returns-then-own-gt0
returns-then-own-gt0 c =
    λ pool bytes names h.
    let own = own-here h c.element_settled.ensures c.if-element_settled.false c.own_declaration-own.ensures c.if-own-gt0.true c.row_at.ensures in
    own-set h c.element_settled.ensures c.if-element_settled.false c.own_declaration-own.ensures c.if-own-gt0.true c.row_at.ensures c.set_own.auto.tops (c.set_own.ensures.good own) c.set_own.ensures.same_attributes

pub append_own-requires : goal.append_own-requires
append_own-requires c =
    (_, none_here c.requires.3 c.element_settled.ensures c.if-element_settled.false c.own_declaration-own.ensures c.if-own-gt0.false)

pub returns : goal.returns
returns c =
    λ pool bytes names h.
    let none_of = none_here h c.element_settled.ensures c.if-element_settled.false c.own_declaration-own.ensures c.if-own-gt0.false in
    own-appended h c.element_settled.ensures c.if-element_settled.false c.own_declaration-own.ensures c.if-own-gt0.false (c.append_own.ensures _ none_of)
