use Rattle.std.proofs.Common.{sym, ap, ◌∙◌, arith}
use borrow.Author.Tests.{ltb-true, ltb-false}
use Rattle.rules.specs.Table.{NONE}
use Rattle.rules.specs.Lookups.{declares}
use Rattle.declarations.proofs.Rows.{found_none}
use Rattle.declarations.proofs.Path.{own-declaration}
use Rattle.deciders.specs.Deciding.{decided}
use Rattle.deciders.proofs.Decided.{declared-decides, named-decides}
use Rattle.outward.proofs.Left.{left-own, left-declared, left-next, left_end}
use Rattle.outward.proofs.deciding.Goals as goal

pub returns-then-named : goal.returns-then-named
returns-then-named c =
    λ pool name meant ordinary. let element = c.requires.elements _ c.loop-element-test.true in
    let named = sym (c.names_uri-named.ensures pool name meant) ∙ c.if-named.true in
    named-decides _ pool _ element.within name named
    ∙ left-own _ pool _ _ _ (c.loop-element.invariant pool name meant ordinary) c.loop-element-test.true element named

pub returns-then-declared : goal.returns-then-declared
returns-then-declared c =
    λ pool name meant ordinary. let element = c.requires.elements _ c.loop-element-test.true in
    let other = sym (c.names_uri-named.ensures pool name meant) ∙ c.if-named.false in
    let within = ltb-true _ _ (sym c.has_row-declared.ensures ∙ c.if-declared.true) in
    let own = c.own-own.ensures pool name meant in
    declared-decides _ pool _ within (own-declaration _ pool _ within (declares name) _ own)
    ∙ left-declared _ pool _ _ _ (c.loop-element.invariant pool name meant ordinary) c.loop-element-test.true element other _ own within

pub loop-element-preserved : goal.loop-element-preserved
loop-element-preserved c =
    λ pool name meant ordinary. let element = c.requires.elements _ c.loop-element-test.true in
    let other = sym (c.names_uri-named.ensures pool name meant) ∙ c.if-named.false in
    left-next _ pool _ _ _ (c.loop-element.invariant pool name meant ordinary) c.loop-element-test.true element other _ (c.own-own.ensures pool name meant) (ltb-false _ _ (sym c.has_row-declared.ensures ∙ c.if-declared.false))

pub returns : goal.returns
returns c =
    λ pool name meant ordinary. let few = c.requires.ready.few in
    ap decided (found_none _ pool NONE (omega (arith, few)))
    ∙ left_end _ pool _ _ _ (c.loop-element.invariant pool name meant ordinary) (omega arith)
