-- `short_strings::same_four` meets its contract.
use Rattle.short_strings.proofs.Bytes.{same-four}
use Rattle.short_strings.proofs.same_four.Goals as goal

pub returns : goal.returns
returns c = same-four c.args.a.now c.args.b.now c.args.i c.requires.0 c.requires.1
