-- `outward::uri_of_prefix` meets its contract.
use native.Mathlib.Omega.{arith}
use mathlib.Core.Path.{sym, ap, ◌∙◌}
use Rattle.rules.specs.Lookups.{bound}
use Rattle.deciders.proofs.Decided.{number-within, decided-none, decided-value, decided-uri, uri-xml, uri-xmlns}
use Rattle.outward.proofs.uri_of_prefix.Goals as goal

pub returns-then-is_xml : goal.returns-then-is_xml
returns-then-is_xml c = λ pool meant. uri-xml _ _ _ c.requires.start (sym c.is_xml.ensures ∙ c.if-is_xml.true)

pub returns-then-is_xmlns : goal.returns-then-is_xmlns
returns-then-is_xmlns c =
    λ pool meant. uri-xmlns _ _ _ c.requires.start (sym c.is_xml.ensures ∙ c.if-is_xml.false) (sym c.is_xmlns.ensures ∙ c.if-is_xmlns.true)

pub uri_number-requires : goal.uri_number-requires
uri_number-requires c = c.requires.along.ready.noted

pub returns-then-uri_number-eq0 : goal.returns-then-uri_number-eq0
returns-then-uri_number-eq0 c =
    λ pool meant. decided-none meant _ _ c.uri_number.ensures c.if-uri_number-eq0.true ∙ ap bound (c.deciding-row.ensures pool _ meant (record { not_xml = sym c.is_xml.ensures ∙ c.if-is_xml.false; not_xmlns = sym c.is_xmlns.ensures ∙ c.if-is_xmlns.false }))

pub kind-requires : goal.kind-requires
kind-requires c = number-within _ _ _ (λ z. c.if-uri_number-eq0.false (c.uri_number.ensures ∙ z))

pub place-requires : goal.place-requires
place-requires c = (number-within _ _ _ (λ z. c.if-uri_number-eq0.false (c.uri_number.ensures ∙ z)), omega arith)

pub returns-then-kind-eq-DECLARATION : goal.returns-then-kind-eq-DECLARATION
returns-then-kind-eq-DECLARATION c =
    λ pool meant. decided-value meant _ _ c.uri_number.ensures c.if-uri_number-eq0.false (sym c.kind.ensures ∙ c.if-kind-eq-DECLARATION.true) _ c.place.ensures
    ∙ ap bound (c.deciding-row.ensures pool _ meant (record { not_xml = sym c.is_xml.ensures ∙ c.if-is_xml.false; not_xmlns = sym c.is_xmlns.ensures ∙ c.if-is_xmlns.false }))

pub place-requires-2 : goal.place-requires-2
place-requires-2 c = (number-within _ _ _ (λ z. c.if-uri_number-eq0.false (c.uri_number.ensures ∙ z)), omega arith)

pub returns : goal.returns
returns c =
    λ pool meant. decided-uri meant _ _ c.uri_number.ensures c.if-uri_number-eq0.false (λ is. c.if-kind-eq-DECLARATION.false (c.kind.ensures ∙ is)) _ c.place-2.ensures
    ∙ ap bound (c.deciding-row.ensures pool _ meant (record { not_xml = sym c.is_xml.ensures ∙ c.if-is_xml.false; not_xmlns = sym c.is_xmlns.ensures ∙ c.if-is_xmlns.false }))
