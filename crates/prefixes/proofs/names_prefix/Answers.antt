-- `prefixes::names_prefix` meets its contract.
use native.Mathlib.Omega.{arith}
use mathlib.Core.Path.{◌∙◌}
use Rattle.declarations.proofs.Meanings.{prefix-names, meant-too}
use Rattle.deciders.proofs.Tests.{names-prefix-by, names-together, names-prefix-other}
use Rattle.prefixes.proofs.names_prefix.Goals as goal

pub kind-named-requires : goal.kind-named-requires
kind-named-requires c = c.requires.element_bound

pub name-requires : goal.name-requires
name-requires c = omega (arith, c.requires.started.along.ready.noted, c.requires.element_bound)

pub name-prefix-requires : goal.name-prefix-requires
name-prefix-requires c = omega (arith, c.requires.started.along.ready.noted, c.requires.element_bound)

pub leads_to-requires : goal.leads_to-requires
leads_to-requires c = c.requires.started

pub returns-then-named-name : goal.returns-then-named-name
returns-then-named-name c =
    λ pool name meant xml. let own = prefix-names meant _ c.requires.element_bound in
    let together = names-together meant _ c.requires.element_bound _ c.kind-named.ensures c.args.path.now _ c.name.ensures c.if-named-name.true _ xml in
    c.leads_to.ensures pool name _ meant (rw (← c.name-prefix.ensures) at (meant-too meant own)) together
    ∙ names-prefix-by meant _ c.requires.element_bound _ c.kind-named.ensures c.args.path.now _ c.name.ensures c.if-named-name.true

pub returns : goal.returns
returns c =
    λ pool name meant xml. names-prefix-other meant _ c.requires.element_bound _ c.kind-named.ensures c.args.path.now _ c.name.ensures c.if-named-name.false
