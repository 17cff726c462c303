-- `number` meets its contract.
use mathlib.Core.Path.{◌≡◌, refl, sym, ◌∙◌}
use native.Mathlib.Omega.{arith}
use Rattle.rules.specs.Table.{DECLARATION, node_at}
use Rattle.notes.specs.Notes.{PREFIX, LOCAL_NAME, URI, VALUE}
use Rattle.numbering.proofs.Numbering.{word-inside, nameless-empty, no-prefix, no_local, no-uri, no_value, empty-numbered, row-numbered, kinds-none}
use Rattle.numbering.proofs.number.Goals as goal

pub number_declaration-requires : goal.number_declaration-requires
number_declaration-requires c =
    record { row_bound = c.requires.row_bound; pool_len_bound = c.requires.pool_len_bound; dictionary = c.requires.dictionary; has_room = c.requires.has_room; row_value = sym c.kind-row_type.ensures ∙ c.if-row_type-eq-DECLARATION.true }

pub number_names-requires : goal.number_names-requires
number_names-requires c =
    record { row_bound = c.requires.row_bound; pool_len_bound = c.requires.pool_len_bound; dictionary = c.requires.dictionary; has_room = c.requires.has_room; fact = λ e. c.if-row_type-eq-DECLARATION.false (c.kind-row_type.ensures ∙ e) }

pub set_name-requires : goal.set_name-requires
set_name-requires c =
    word-inside c.args.table.now c.args.row.0 PREFIX c.requires.row_bound.0 c.requires.row_bound.1 (refl) (omega arith)

pub set_name-requires-2 : goal.set_name-requires-2
set_name-requires-2 c =
    word-inside c.args.table.now c.args.row.0 LOCAL_NAME c.requires.row_bound.0 c.requires.row_bound.1 c.set_name.auto.notes (omega arith)

pub set_name-requires-3 : goal.set_name-requires-3
set_name-requires-3 c =
    word-inside c.args.table.now c.args.row.0 URI c.requires.row_bound.0 c.requires.row_bound.1 (c.set_name-2.auto.notes ∙ c.set_name.auto.notes) (omega arith)

pub set_name-requires-4 : goal.set_name-requires-4
set_name-requires-4 c =
    word-inside c.args.table.now c.args.row.0 VALUE c.requires.row_bound.0 c.requires.row_bound.1 (c.set_name-3.auto.notes ∙ c.set_name-2.auto.notes ∙ c.set_name.auto.notes) (omega arith)

pub returns : goal.returns
returns c =
    let n = node_at c.args.table.now c.args.pool.now c.args.row.0 in
    let t : n.type ≡ DECLARATION → ⊥ = λ e. c.if-row_type-eq-DECLARATION.false (c.kind-row_type.ensures ∙ e) in
    let must = rw c.kind-row_type.ensures at (nameless-empty c.kind-row_type.result c.if-row_type-eq-DECLARATION.false c.is_level1.ensures c.if-row_type-is_level1.false) in
    let prefix = no-prefix c.args.table.now c.args.pool.now c.args.row.0 c.requires.pool_len_bound.0 c.requires.pool_len_bound.1 must.0 in
    let local = no_local c.args.table.now c.args.pool.now c.args.row.0 c.requires.pool_len_bound.0 c.requires.pool_len_bound.1 must.1 in
    let uri = no-uri c.args.table.now c.args.pool.now c.args.row.0 c.requires.pool_len_bound.0 c.requires.pool_len_bound.1 must.2 in
    let g = c.requires.dictionary in record {
      row_numbered = row-numbered n (omega arith) (empty-numbered _ c.args.row.0 PREFIX (word-inside c.args.table.now c.args.row.0 PREFIX c.requires.row_bound.0 c.requires.row_bound.1 (refl) (omega arith)) c.set_name.ensures g prefix)
          (empty-numbered _ c.args.row.0 LOCAL_NAME (word-inside c.args.table.now c.args.row.0 LOCAL_NAME c.requires.row_bound.0 c.requires.row_bound.1 c.set_name.auto.notes (omega arith)) c.set_name-2.ensures g local)
          (empty-numbered _ c.args.row.0 URI (word-inside c.args.table.now c.args.row.0 URI c.requires.row_bound.0 c.requires.row_bound.1 (c.set_name-2.auto.notes ∙ c.set_name.auto.notes) (omega arith)) c.set_name-3.ensures g uri)
          (empty-numbered _ c.args.row.0 VALUE (word-inside c.args.table.now c.args.row.0 VALUE c.requires.row_bound.0 c.requires.row_bound.1 (c.set_name-3.auto.notes ∙ c.set_name-2.auto.notes ∙ c.set_name.auto.notes) (omega arith)) c.set_name-4.ensures g (no_value n t));
      value = kinds-none n prefix local uri t;
    }
