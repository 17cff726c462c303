-- `beginning::climb` meets its contract.
use native.Mathlib.Omega.{arith}
use Rattle.beginning.proofs.Beginning.{climb-along}
use Rattle.beginning.proofs.climb.Goals as goal

pub link_all-requires : goal.link_all-requires
link_all-requires c =
    record { table_bound = (c.requires.unlinked.few, c.requires.unlinked.noted); by_index = c.requires.unlinked.none }

pub lookup_elements-requires : goal.lookup_elements-requires
lookup_elements-requires c =
    record { row_bound = c.requires.row_bound.0; table_in_bounds = (c.requires.row_bound.1, omega (arith, c.requires.unlinked.few)) }

pub returns : goal.returns
returns c =
    record { upper_bound = c.lookup_elements.ensures.path_of.room; along = climb-along c.args.table.now c.args.notes.now _ _ _ c.requires.unlinked c.link_all.auto.notes c.link_all.ensures.linked c.lookup_elements.ensures.path_of; by_index = c.lookup_elements.ensures.by_index; relinked = c.link_all.ensures.relinked }
