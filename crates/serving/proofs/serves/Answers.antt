-- `serving::serves` meets its contract.
use Rattle.stacks.proofs.Reading.{serves-read}
use Rattle.serving.proofs.serves.Goals as goal

pub returns : goal.returns
returns c =
    serves-read c.args.notes.now c.args.tops.now c.args.position.0 c.name_at-prefix.result.0 c.nearest.result.0 c.name_at-prefix.ensures c.nearest.ensures
