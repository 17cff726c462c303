-- `normal_form::make_result` meets its contract.
use mathlib.Core.Path.{sym}
use lib.Seq.{length-take-le}
use Rattle.normal_form.proofs.Start.{part-fits, part-few, part-noted, start-working, start-finished}
use Rattle.normal_form.proofs.make_result.Goals as goal

pub slice_bounds-link_rows-end-2 : goal.slice_bounds-link_rows-end-2
slice_bounds-link_rows-end-2 c = sym (length-take-le _ _ (part-fits c.requires))

pub link_rows-requires : goal.link_rows-requires
link_rows-requires c = record { table_bound = (part-few c.requires, part-noted c.requires); by_index = c.requires.prepared.unlinked }

pub normalize_rows-requires : goal.normalize_rows-requires
normalize_rows-requires c =
    start-working c.requires c.most_rows.ensures c.link_rows.auto.notes c.link_rows.ensures.linked c.link_rows.ensures.linked_from c.link_rows.ensures.by_index_2

pub returns : goal.returns
returns c = start-finished c.requires c.most_rows.ensures c.normalize_rows.ensures
