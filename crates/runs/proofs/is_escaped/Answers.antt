-- `runs::is_escaped` meets its contract.
use mathlib.Core.Path.{sym}
use Rattle.runs.proofs.Runs.{escaped-asked}
use Rattle.runs.proofs.is_escaped.Goals as goal

pub returns : goal.returns
returns c = sym (escaped-asked c.args.quoted c.args.b)
