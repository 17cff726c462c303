-- `check` meets its contract.
use mathlib.Core.Path.{refl}
use Rattle.faults.proofs.Laws.{not-accepted, refused-place, passed-fields, drawn-names, links-kept}
use Rattle.numbering.proofs.Numbering.{inside-value}
use Rattle.std.proofs.Common.{sym, ap, ◌∙◌, Err}
use Rattle.std.proofs.lemmas.Result.{err_from_is_err_and}
use Rattle.faults.proofs.check.Goals as goal

pub check_place-requires : goal.check_place-requires
check_place-requires c = record { row_bound = (c.requires.row_bound.0, c.requires.table_bound); right = c.requires.right }

pub returns-in_err-check_place : goal.returns-in_err-check_place
returns-in_err-check_place c =
    let p = err_from_is_err_and c.from_residual.result c.from_residual.ensures.1 in
    rw (p.1 ∙ ap Err p.2 ∙ sym c.in_err-check_place.was)
    (record { value = refused-place c.args.table.now c.args.pool.now c.args.row.0 c.requires.row_bound.0 c.check_place.ensures _ c.in_err-check_place.was; row_numbered = not-accepted _ c.in_err-check_place.was; by_index = λ q k l h. refl })

pub number-kinds-requires : goal.number-kinds-requires
number-kinds-requires c =
    record { row_bound = c.requires.row_bound; pool_len_bound = (c.requires.pool_len_bound, passed-fields c.args.table.now c.args.pool.now c.args.row.0 c.requires.row_bound.0 c.check_place.ensures c.in_ok-check_place.was); dictionary = c.requires.dictionary; has_room = c.requires.has_room }

pub is_well_formed-formed-requires : goal.is_well_formed-formed-requires
is_well_formed-formed-requires c =
    let fields = passed-fields c.args.table.now c.args.pool.now c.args.row.0 c.requires.row_bound.0 c.check_place.ensures c.in_ok-check_place.was in record { row_bound = c.requires.row_bound.0; judging = c.requires.judging; row_in_bounds = (inside-value c.args.table.now c.args.pool.now c.args.row.0 c.requires.pool_len_bound fields).within }

pub check-requires : goal.check-requires
check-requires c =
    record { row_bound = c.requires.row_bound.0; formed_value = c.is_well_formed-formed.ensures; kinds_value = c.number-kinds.ensures.value }

pub returns : goal.returns
returns c =
    record { value = drawn-names c.args.table.now c.args.pool.now c.args.row.0 c.requires.row_bound.0 c.check_place.ensures c.in_ok-check_place.was c.check.ensures; row_numbered = λ a. c.number-kinds.ensures.row_numbered; by_index = links-kept c.number-kinds.ensures.row_numbered }
