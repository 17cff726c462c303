-- `prefixes::gives_prefix` meets its contract.
use native.Mathlib.Omega.{arith}
use mathlib.Core.Path.{◌∙◌}
use Rattle.declarations.proofs.Meanings.{local-names, meant-too}
use Rattle.deciders.proofs.Tests.{gives-by, gives-together, gives_other}
use Rattle.prefixes.proofs.gives_prefix.Goals as goal

pub name-requires : goal.name-requires
name-requires c = omega (arith, c.requires.started.along.ready.noted, c.requires.declaration_bound.0)

pub name-prefix-requires : goal.name-prefix-requires
name-prefix-requires c = omega (arith, c.requires.started.along.ready.noted, c.requires.declaration_bound.0)

pub leads_to-requires : goal.leads_to-requires
leads_to-requires c = c.requires.started

pub returns-then-name-uri : goal.returns-then-name-uri
returns-then-name-uri c =
    λ pool name meant xml. let own = local-names meant _ c.requires.declaration_bound.0 in
    let together = gives-together meant _ c.requires.declaration_bound.0 c.requires.declaration_bound.1 c.args.path.now _ c.name.ensures c.if-name-uri.true _ xml in
    c.leads_to.ensures pool name _ meant (rw (← c.name-prefix.ensures) at (meant-too meant own)) together
    ∙ gives-by meant _ c.requires.declaration_bound.0 c.requires.declaration_bound.1 c.args.path.now _ c.name.ensures c.if-name-uri.true

pub returns : goal.returns
returns c =
    λ pool name meant xml. gives_other meant _ c.requires.declaration_bound.0 c.requires.declaration_bound.1 c.args.path.now _ c.name.ensures c.if-name-uri.false
