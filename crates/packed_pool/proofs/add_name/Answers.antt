-- `add_name` meets its contract.
use mathlib.Core.Path.{refl}
use Rattle.packed_pool.proofs.Marking.{added-past, added_new}
use Rattle.packed_pool.proofs.add_name.Goals as goal

pub returns-then-end-limit : goal.returns-then-end-limit
returns-then-end-limit c =
    added-past c.args.index.now c.args.out.now c.args.place.offset.0 c.args.place.length c.args.hash c.args.name.now c.args.limit c.used-used.result c.used-used.ensures.0 c.requires.2 c.if-end-limit.true

pub returns : goal.returns
returns c =
    added_new c.args.index.now c.args.out.now c.args.place.offset.0 c.args.place.length c.args.hash c.args.name.now c.args.limit c.used-used.result c.used-used.ensures.0 c.requires.2 c.if-end-limit.false c.enter.ensures refl c.put.ensures
