-- `in_scope::in_scope_uri` meets its contract.
use native.Mathlib.Omega.{arith}
use mathlib.Core.Path.{sym, ap, ◌∙◌}
use Rattle.rules.specs.Lookups.{declares, or_unbound, value_of, bound}
use Rattle.declarations.proofs.Path.{scope-declaration}
use Rattle.declarations.proofs.Served.{in-scope-means}
use Rattle.in_scope.proofs.Answers.{in-scope-xml, in-scope-xmlns, value_none, value-at, value-within}
use Rattle.in_scope.proofs.in_scope_uri.Goals as goal

pub returns-then-is_xml : goal.returns-then-is_xml
returns-then-is_xml c = λ pool meant. ap bound (in-scope-xml _ _ (sym c.is_xml.ensures ∙ c.if-is_xml.true))

pub returns-then-is_xmlns : goal.returns-then-is_xmlns
returns-then-is_xmlns c =
    λ pool meant. ap bound (in-scope-xmlns _ _ (sym c.is_xml.ensures ∙ c.if-is_xml.false) (sym c.is_xmlns.ensures ∙ c.if-is_xmlns.true))

pub value_of-requires : goal.value_of-requires
value_of-requires c = c.requires.ready.noted

pub returns-then-value_of-eq0 : goal.returns-then-value_of-eq0
returns-then-value_of-eq0 c =
    λ pool meant. let near = c.nearest-row.ensures pool _ meant in
    value_none meant _ (λ within. scope-declaration _ pool _ within (declares c.args.prefix.now) c.args.path.now near) _ c.value_of.ensures c.if-value_of-eq0.true
    ∙ ap (λ d. bound (or_unbound (value_of d))) near
    ∙ ap bound (in-scope-means _ _ (sym c.is_xml.ensures ∙ c.if-is_xml.false) (sym c.is_xmlns.ensures ∙ c.if-is_xmlns.false))

pub place-requires : goal.place-requires
place-requires c =
    (value-within c.args.table.now c.args.notes.now c.nearest-row.result.0 _ c.value_of.ensures c.if-value_of-eq0.false, omega arith)

pub returns : goal.returns
returns c =
    λ pool meant. let near = c.nearest-row.ensures pool _ meant in
    value-at meant _ (λ within. scope-declaration _ pool _ within (declares c.args.prefix.now) c.args.path.now near) _ c.value_of.ensures (value-within c.args.table.now c.args.notes.now c.nearest-row.result.0 _ c.value_of.ensures c.if-value_of-eq0.false) c.if-value_of-eq0.false _ c.place.ensures
    ∙ ap (λ d. bound (or_unbound (value_of d))) near
    ∙ ap bound (in-scope-means _ _ (sym c.is_xml.ensures ∙ c.if-is_xml.false) (sym c.is_xmlns.ensures ∙ c.if-is_xmlns.false))
