-- `runs::ends_run` meets its contract: a law for each arm.
use mathlib.Core.Logic.{inl, inr}
use Rattle.runs.proofs.Runs.{ends-everywhere, ends-in-quotes, ends_nowhere}
use Rattle.runs.proofs.ends_run.Goals as goal

pub returns-in-13 : goal.returns-in-13
returns-in-13 c = ends-everywhere _ _ c.in-13.is

pub returns-in-9 : goal.returns-in-9
returns-in-9 c = ends-in-quotes _ _ (inl c.in-9.is)

pub returns-in-10 : goal.returns-in-10
returns-in-10 c = ends-in-quotes _ _ (inr c.in-10.is)

pub returns-in_default : goal.returns-in_default
returns-in_default c = let n = c.in_default.in_default-own.rest in ends_nowhere _ _ n.0.0.1 n.0.1 n.1
