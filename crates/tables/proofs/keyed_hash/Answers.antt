-- `keyed_hash` meets its contract.
use mathlib.Core.Path.{refl}
use Rattle.tables.proofs.Hashes.{keyed-folded}
use Rattle.tables.proofs.keyed_hash.Goals as goal

pub returns : goal.returns
returns c =
    keyed-folded c.args.bases.one c.args.bases.two c.args.name.now refl c.summed-sums.ensures.one_value c.summed-sums.ensures.two_value
