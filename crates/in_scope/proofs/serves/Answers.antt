-- `in_scope::serves` meets its contract.
use mathlib.Core.Path.{ap, ◌∙◌}
use native.Mathlib.Omega.{arith}
use Rattle.rules.specs.Lists.{same_bytes}
use Rattle.rules.specs.Table.{nodes, node_at}
use Rattle.rules.specs.Lookups.{declares, scope_of, or_unbound, value_of, uri_bytes}
use Rattle.declarations.proofs.Meanings.{local-names, meant-too}
use Rattle.declarations.proofs.Path.{scope-declaration}
use Rattle.declarations.proofs.Served.{value-asked, serves-other, serves-default, serves_by}
use Rattle.in_scope.proofs.serves.Goals as goal

pub name-requires : goal.name-requires
name-requires c = omega (arith, c.requires.along.ready.noted, c.requires.declaration_bound.0)

pub name-prefix-requires : goal.name-prefix-requires
name-prefix-requires c = omega (arith, c.requires.along.ready.noted, c.requires.declaration_bound.0)

pub returns-then-prefix-eq0 : goal.returns-then-prefix-eq0
returns-then-prefix-eq0 c =
    λ pool name meant other. serves-default meant _ _ c.requires.declaration_bound.0 c.requires.declaration_bound.1 _ c.name-prefix.ensures c.if-prefix-eq0.true

pub nearest-requires : goal.nearest-requires
nearest-requires c = c.requires.along

pub value_of-requires : goal.value_of-requires
value_of-requires c = c.requires.along.ready.noted

pub returns-then-name-uri : goal.returns-then-name-uri
returns-then-name-uri c =
    λ pool name meant other. let table = c.args.table.now in
    let scope = scope_of (nodes table pool) c.args.path.now in
    let r = c.args.declaration.0 in
    let d = c.nearest.result.0 in
    let prefix = (node_at table pool r).local.bytes in
    let near = c.nearest.ensures pool prefix (rw (← c.name-prefix.ensures) at (meant-too meant (local-names meant r c.requires.declaration_bound.0))) in
    serves_by meant scope r c.requires.declaration_bound.0 c.requires.declaration_bound.1 _ c.name-prefix.ensures _ c.name.ensures c.if-name-uri.true c.if-prefix-eq0.false other _
    (value-asked meant d (λ within. scope-declaration table pool d within (declares prefix) c.args.path.now near) _ c.value_of.ensures
    ∙ ap (λ o. same_bytes (uri_bytes (or_unbound (value_of o))) name) near)

pub returns : goal.returns
returns c =
    λ pool name meant other. serves-other meant _ _ c.requires.declaration_bound.0 c.requires.declaration_bound.1 _ c.name.ensures c.if-name-uri.false
