-- `fates::note` meets its contract.
use mathlib.Core.Path.{ap}
use lib.ListN.{set}
use Rattle.refusal_numbers.specs.declared.Number.{Number}
use Rattle.fates.proofs.note.Goals as goal

pub returns : goal.returns
returns c = ap (λ (n : Number). set c.args.fates.now c.args.row.0 n.number) c.from-told.ensures
