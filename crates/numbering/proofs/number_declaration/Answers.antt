-- `number_declaration` meets its contract.
use mathlib.Core.Path.{refl, ◌∙◌}
use native.Mathlib.Omega.{arith}
use Rattle.rules.specs.Table.{node_at}
use Rattle.notes.specs.Notes.{PREFIX, LOCAL_NAME, URI, VALUE}
use Rattle.numbering.proofs.Numbering.{room-left, word-inside, inside-local, inside-value, declaration-empty, no-prefix, no-uri, empty-numbered, value-numbered, row-numbered, kinds-declared}
use Rattle.numbering.proofs.number_declaration.Goals as goal

pub set_name-requires : goal.set_name-requires
set_name-requires c =
    word-inside c.args.table.now c.args.row.0 PREFIX c.requires.row_bound.0 c.requires.row_bound.1 (refl) (omega arith)

pub number_new-local-requires : goal.number_new-local-requires
number_new-local-requires c =
    record { has_field = (c.requires.row_bound.0, omega arith); inside = inside-local c.args.table.now c.args.pool.now c.args.row.0 c.requires.pool_len_bound.0 c.requires.pool_len_bound.1; dictionary = c.requires.dictionary; has_room = room-left 0 1 c.requires.has_room (omega arith) (omega arith) refl; k_bound = (omega arith, word-inside c.args.table.now c.args.row.0 LOCAL_NAME c.requires.row_bound.0 c.requires.row_bound.1 c.set_name.auto.notes (omega arith)) }

pub set_name-requires-2 : goal.set_name-requires-2
set_name-requires-2 c =
    word-inside c.args.table.now c.args.row.0 URI c.requires.row_bound.0 c.requires.row_bound.1 (c.number_new-local.auto.notes ∙ c.set_name.auto.notes) (omega arith)

pub number_new-value-requires : goal.number_new-value-requires
number_new-value-requires c =
    record { has_field = (c.requires.row_bound.0, omega arith); inside = inside-value c.args.table.now c.args.pool.now c.args.row.0 c.requires.pool_len_bound.0 c.requires.pool_len_bound.1; dictionary = c.number_new-local.ensures.field_numbered.right; has_room = room-left 1 1 c.requires.has_room c.number_new-local.ensures.field_numbered.few (omega arith) c.number_new-local.auto.dictionary; k_bound = (omega arith, word-inside c.args.table.now c.args.row.0 VALUE c.requires.row_bound.0 c.requires.row_bound.1 (c.set_name-2.auto.notes ∙ c.number_new-local.auto.notes ∙ c.set_name.auto.notes) (omega arith)) }

pub returns : goal.returns
returns c =
    let t = c.requires.row_value in
    let n = node_at c.args.table.now c.args.pool.now c.args.row.0 in
    let must = declaration-empty t in
    let prefix = no-prefix c.args.table.now c.args.pool.now c.args.row.0 c.requires.pool_len_bound.0 c.requires.pool_len_bound.1 must.0 in
    let uri = no-uri c.args.table.now c.args.pool.now c.args.row.0 c.requires.pool_len_bound.0 c.requires.pool_len_bound.1 must.1 in record {
      row_numbered = row-numbered n (omega arith) (empty-numbered _ c.args.row.0 PREFIX (word-inside c.args.table.now c.args.row.0 PREFIX c.requires.row_bound.0 c.requires.row_bound.1 (refl) (omega arith)) c.set_name.ensures c.requires.dictionary prefix) c.number_new-local.ensures.field_numbered
          (empty-numbered _ c.args.row.0 URI (word-inside c.args.table.now c.args.row.0 URI c.requires.row_bound.0 c.requires.row_bound.1 (c.number_new-local.auto.notes ∙ c.set_name.auto.notes) (omega arith)) c.set_name-2.ensures c.number_new-local.ensures.field_numbered.right uri) (value-numbered n t c.number_new-value.ensures.field_numbered);
      value = kinds-declared n c.number_new-local.ensures.value t prefix uri c.number_new-value.ensures.value;
    }
