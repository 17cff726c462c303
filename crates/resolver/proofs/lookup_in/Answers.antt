-- `resolver::lookup_in` meets its contract.
use Rattle.questions.proofs.Going.{way}
use Rattle.resolver.proofs.lookup_in.Goals as goal

pub begin-begun-requires : goal.begin-begun-requires
begin-begun-requires g c = c.requires.blank

pub lookup_begun-requires : goal.lookup_begun-requires
lookup_begun-requires g c = way c.args.table.now c.args.pool.now _ _ _ _ _ c.requires.rows_few c.begin-begun.ensures

pub returns : goal.returns
returns g c = c.lookup_begun.ensures _ c.begin-begun.ensures
