-- `escaped_runs::copy_short` meets its contract.
use mathlib.Core.Path.{refl}
use Rattle.escaped_runs.proofs.Writing.{block-put, none-put}
use Rattle.escaped_runs.proofs.copy_short.Goals as goal

pub returns-then-n-eq0 : goal.returns-then-n-eq0
returns-then-n-eq0 c = none-put c.args.value.now c.args.i c.args.n c.args.out.now c.args.at c.if-n-eq0.true

pub returns : goal.returns
returns c =
    (refl, block-put c.args.value.now c.args.i c.args.n c.args.out.now c.args.at c.requires.1 c.requires.0 c.requires.2 c.write_bytes.ensures.out_after c.write_bytes-2.ensures.out_after)
