-- `in_scope::in_scope_prefix` meets its contract.
use native.Mathlib.Omega.{arith}
use mathlib.Core.Path.{sym, ap, ◌∙◌}
use borrow.Author.Tests.{ltb-true, ltb-false}
use Rattle.rules.specs.Lookups.{prefix_of, bound}
use Rattle.in_scope.proofs.Answers.{prefix-empty, prefix-xml, prefix-xmlns, prefix-serving, prefix-place, prefix-missing}
use Rattle.in_scope.proofs.in_scope_prefix.Goals as goal

pub returns-then-uri-eq0 : goal.returns-then-uri-eq0
returns-then-uri-eq0 c = λ pool meant. ap bound (prefix-empty _ _ c.if-uri-eq0.true)

pub returns-then-is_xml_uri : goal.returns-then-is_xml_uri
returns-then-is_xml_uri c = λ pool meant. ap bound (prefix-xml _ _ c.if-uri-eq0.false (sym c.is_xml_uri.ensures ∙ c.if-is_xml_uri.true))

pub returns-then-is_xmlns_uri : goal.returns-then-is_xmlns_uri
returns-then-is_xmlns_uri c =
    λ pool meant. ap bound (prefix-xmlns _ _ c.if-uri-eq0.false (sym c.is_xml_uri.ensures ∙ c.if-is_xml_uri.false) (sym c.is_xmlns_uri.ensures ∙ c.if-is_xmlns_uri.true))

pub place-requires : goal.place-requires
place-requires c = (ltb-true _ _ (sym c.has_row.ensures ∙ c.if-has_row.true), omega arith)

pub returns-then-has_row : goal.returns-then-has_row
returns-then-has_row c =
    λ pool meant. let other = sym c.is_xml_uri.ensures ∙ c.if-is_xml_uri.false in
    prefix-place _ pool _ (ltb-true _ _ (sym c.has_row.ensures ∙ c.if-has_row.true)) _ c.place.ensures
    ∙ ap (λ d. bound (prefix_of d)) (c.serving-row.ensures pool _ meant other)
    ∙ ap bound (prefix-serving _ _ c.if-uri-eq0.false other (sym c.is_xmlns_uri.ensures ∙ c.if-is_xmlns_uri.false))

pub returns : goal.returns
returns c =
    λ pool meant. let other = sym c.is_xml_uri.ensures ∙ c.if-is_xml_uri.false in
    prefix-missing _ pool _ (ltb-false _ _ (sym c.has_row.ensures ∙ c.if-has_row.false))
    ∙ ap (λ d. bound (prefix_of d)) (c.serving-row.ensures pool _ meant other)
    ∙ ap bound (prefix-serving _ _ c.if-uri-eq0.false other (sym c.is_xmlns_uri.ensures ∙ c.if-is_xmlns_uri.false))
