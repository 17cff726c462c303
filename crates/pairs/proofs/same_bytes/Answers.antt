-- `same_bytes` meets its contract.
use mathlib.Core.Path.{refl}
use Rattle.pairs.proofs.Laws.{compared, cut}
use Rattle.pairs.proofs.same_bytes.Goals as goal

pub returns : goal.returns
returns c =
    compared c.same.ensures (cut c.args.other.now c.args.second.offset.0 c.args.first.length c.args.second.length c.requires.length_value) (cut c.args.pool.now c.args.first.offset.0 c.args.first.length c.args.first.length refl)
