-- `deciders::names_uri` meets its contract.
use native.Mathlib.Omega.{arith}
use Rattle.deciders.proofs.Tests.{names-uri}
use Rattle.deciders.proofs.names_uri.Goals as goal

pub kind-requires : goal.kind-requires
kind-requires c = c.requires.0

pub name-requires : goal.name-requires
name-requires c = omega (arith, c.requires.0, c.requires.1)

pub name-requires-2 : goal.name-requires-2
name-requires-2 c = omega (arith, c.requires.0, c.requires.1)

pub returns : goal.returns
returns c = λ pool name meant. names-uri meant _ c.requires.0 _ c.kind.ensures _ _ c.name.ensures c.name-2.ensures
