-- `number_names` meets its contract.
use mathlib.Core.Path.{refl, ◌∙◌}
use native.Mathlib.Omega.{arith}
use Rattle.rules.specs.Table.{node_at}
use Rattle.notes.specs.Notes.{PREFIX, LOCAL_NAME, URI, VALUE}
use Rattle.numbering.proofs.Numbering.{room-left, word-inside, inside-prefix, inside-local, inside-uri, no_value, empty-numbered, row-numbered, kinds-named}
use Rattle.numbering.proofs.number_names.Goals as goal

pub number_field-prefix-requires : goal.number_field-prefix-requires
number_field-prefix-requires c =
    record { has_field = (c.requires.row_bound.0, omega arith); inside = inside-prefix c.args.table.now c.args.pool.now c.args.row.0 c.requires.pool_len_bound.0 c.requires.pool_len_bound.1; dictionary = c.requires.dictionary; has_room = room-left 0 1 c.requires.has_room (omega arith) (omega arith) refl; k_bound = (omega arith, word-inside c.args.table.now c.args.row.0 PREFIX c.requires.row_bound.0 c.requires.row_bound.1 (refl) (omega arith)) }

pub number_field-local-requires : goal.number_field-local-requires
number_field-local-requires c =
    record { has_field = (c.requires.row_bound.0, omega arith); inside = inside-local c.args.table.now c.args.pool.now c.args.row.0 c.requires.pool_len_bound.0 c.requires.pool_len_bound.1; dictionary = c.number_field-prefix.ensures.field_numbered.right; has_room = room-left 1 1 c.requires.has_room c.number_field-prefix.ensures.field_numbered.few (omega arith) c.number_field-prefix.auto.dictionary; k_bound = (omega arith, word-inside c.args.table.now c.args.row.0 LOCAL_NAME c.requires.row_bound.0 c.requires.row_bound.1 c.number_field-prefix.auto.notes (omega arith)) }

pub number_field-uri-requires : goal.number_field-uri-requires
number_field-uri-requires c =
    let f₁ = c.number_field-prefix.ensures.field_numbered.few in
    let f₂ = c.number_field-local.ensures.field_numbered.few in record { has_field = (c.requires.row_bound.0, omega arith); inside = inside-uri c.args.table.now c.args.pool.now c.args.row.0 c.requires.pool_len_bound.0 c.requires.pool_len_bound.1; dictionary = c.number_field-local.ensures.field_numbered.right; has_room = room-left 2 1 c.requires.has_room (omega arith) (omega arith) (c.number_field-local.auto.dictionary ∙ c.number_field-prefix.auto.dictionary); k_bound = (omega arith, word-inside c.args.table.now c.args.row.0 URI c.requires.row_bound.0 c.requires.row_bound.1 (c.number_field-local.auto.notes ∙ c.number_field-prefix.auto.notes) (omega arith)) }

pub set_name-requires : goal.set_name-requires
set_name-requires c =
    word-inside c.args.table.now c.args.row.0 VALUE c.requires.row_bound.0 c.requires.row_bound.1 (c.number_field-uri.auto.notes ∙ c.number_field-local.auto.notes ∙ c.number_field-prefix.auto.notes) (omega arith)

pub returns : goal.returns
returns c =
    let n = node_at c.args.table.now c.args.pool.now c.args.row.0 in record {
      row_numbered = row-numbered n (omega arith) c.number_field-prefix.ensures.field_numbered c.number_field-local.ensures.field_numbered c.number_field-uri.ensures.field_numbered
          (empty-numbered _ c.args.row.0 VALUE (word-inside c.args.table.now c.args.row.0 VALUE c.requires.row_bound.0 c.requires.row_bound.1 (c.number_field-uri.auto.notes ∙ c.number_field-local.auto.notes ∙ c.number_field-prefix.auto.notes) (omega arith)) c.set_name.ensures c.number_field-uri.ensures.field_numbered.right (no_value n c.requires.fact));
      value = kinds-named n c.number_field-prefix.ensures.value c.number_field-local.ensures.value c.number_field-uri.ensures.value c.requires.fact;
    }
