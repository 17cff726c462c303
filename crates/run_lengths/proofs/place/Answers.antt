-- `run_lengths::place` meets its contract.
use mathlib.Core.Path.{refl}
use Rattle.run_lengths.proofs.Lengths.{bool_small}
use Rattle.run_lengths.proofs.place.Goals as goal

pub returns : goal.returns
returns c = (refl, bool_small c.args.quoted)
