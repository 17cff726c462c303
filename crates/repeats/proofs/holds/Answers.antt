-- `holds` meets its contract.
use Rattle.repeats.proofs.Repeating.{held}
use Rattle.repeats.proofs.holds.Goals as goal

pub returns : goal.returns
returns c =
    held c.args.index.now _ _ _ c.args.place.offset.0 c.args.place.length c.wide-start.ensures.0 c.wide-step.ensures.0 c.wide.ensures.0
