use Rattle.std.proofs.Common.{sym, ap, ◌∙◌, arith, Some}
use borrow.Author.Tests.{ltb-true, ltb-false}
use Rattle.rules.specs.Lookups.{or_unbound, bound}
use Rattle.rules.specs.declared.Bound.{Bound}
use Rattle.deciders.proofs.Tests.{prefix-empty, prefix-asked}
use Rattle.outward.proofs.Left.{left-own, left-declared, left-next, left_end}
use Rattle.rules.specs.declared.Place.{Place}
use Rattle.prefixes.proofs.prefix_of_uri.Goals as goal

pub returns-then-number-eq0 : goal.returns-then-number-eq0
returns-then-number-eq0 c = λ pool meant. prefix-empty meant _ _ c.if-number-eq0.true

pub returns-then-names_prefix : goal.returns-then-names_prefix
returns-then-names_prefix c =
    λ pool meant. let element = c.requires.along.elements _ c.loop-element-test.true in
    let named = sym (c.names_prefix.ensures pool _ meant c.is_xml_uri-xml.ensures) ∙ c.if-names_prefix.true in
    ap (λ (p : Place). Some (Bound.At p)) c.place.ensures
    ∙ ap (λ o. bound (or_unbound o)) (left-own _ pool _ _ _ (c.loop-element.invariant pool meant) c.loop-element-test.true element named ∙ prefix-asked meant _ _ c.if-number-eq0.false)

pub returns-then-has_row : goal.returns-then-has_row
returns-then-has_row c =
    λ pool meant. let element = c.requires.along.elements _ c.loop-element-test.true in
    let other = sym (c.names_prefix.ensures pool _ meant c.is_xml_uri-xml.ensures) ∙ c.if-names_prefix.false in
    let within = ltb-true _ _ (sym c.has_row.ensures ∙ c.if-has_row.true) in
    let own = c.own_giving-own.ensures pool _ meant c.is_xml_uri-xml.ensures in
    ap (λ (p : Place). Some (Bound.At p)) c.place-then-has_row.ensures
    ∙ ap (λ o. bound (or_unbound o)) (left-declared _ pool _ _ _ (c.loop-element.invariant pool meant) c.loop-element-test.true element other _ own within ∙ prefix-asked meant _ _ c.if-number-eq0.false)

pub loop-element-preserved : goal.loop-element-preserved
loop-element-preserved c =
    λ pool meant. let element = c.requires.along.elements _ c.loop-element-test.true in
    let other = sym (c.names_prefix.ensures pool _ meant c.is_xml_uri-xml.ensures) ∙ c.if-names_prefix.false in
    let own = c.own_giving-own.ensures pool _ meant c.is_xml_uri-xml.ensures in
    left-next _ pool _ _ _ (c.loop-element.invariant pool meant) c.loop-element-test.true element other _ own (ltb-false _ _ (sym c.has_row.ensures ∙ c.if-has_row.false))

pub returns : goal.returns
returns c =
    λ pool meant. ap (λ o. bound (or_unbound o)) (left_end _ pool _ _ _ (c.loop-element.invariant pool meant) (omega arith) ∙ prefix-asked meant _ _ c.if-number-eq0.false)
