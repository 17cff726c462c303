-- `normal_form::link_rows` meets its contract.
use mathlib.Core.Path.{◌∙◌}
use native.Mathlib.Omega.{arith}
use Rattle.notes.specs.Notes.{LATEST, FIRST}
use Rattle.normal_form.proofs.Start.{declarations-kept}
use Rattle.normal_form.proofs.link_rows.Goals as goal

pub link_all-requires : goal.link_all-requires
link_all-requires c =
    record { table_bound = c.requires.table_bound; by_index = λ e. c.requires.by_index e LATEST (omega arith) (omega arith) }

pub link_attributes-requires : goal.link_attributes-requires
link_attributes-requires c =
    record { table_bound = (c.requires.table_bound.0, rw c.link_all.auto.notes c.requires.table_bound.1); by_index = λ e less. c.link_all.ensures.relinked e FIRST (omega arith) (λ z. omega arith) (λ z. omega arith) ∙ c.requires.by_index e FIRST (omega arith) (omega arith) }

pub returns : goal.returns
returns c =
    record { linked = declarations-kept c.args.table.now _ _ c.link_all.ensures.linked c.link_attributes.ensures.same_before; linked_from = c.link_attributes.ensures.linked_from; by_index_2 = λ r k below. c.link_attributes.ensures.same_before r k (omega arith) ∙ c.link_all.ensures.relinked r k (omega arith) (λ z. omega arith) (λ z. omega arith) }
