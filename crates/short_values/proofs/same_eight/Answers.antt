-- `same_eight` meets its contract.
use Rattle.short_values.proofs.Groups.{same-eight}
use Rattle.short_values.proofs.same_eight.Goals as goal

pub returns : goal.returns
returns c = rw (c.same_four.ensures, c.same_four-2.ensures) (same-eight c.args.a.now c.args.b.now c.args.i)
