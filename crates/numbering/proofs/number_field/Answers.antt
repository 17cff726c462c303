-- `number_field` meets its contract.
use mathlib.Core.Path.{◌≡◌}
use Rattle.dictionary.proofs.Places.{has-places, empty-interned}
use Rattle.dictionary.proofs.Laws.{has_words}
use Rattle.numbering.proofs.Numbering.{recalled, empty-kind, field-numbered}
use Rattle.numbering.proofs.number_field.Goals as goal

pub returns-then-place-eq0 : goal.returns-then-place-eq0
returns-then-place-eq0 c =
    let g = c.requires.dictionary in
    let none : c.place-place.result.length ≡ 0 = c.if-place-eq0.true in
    let interned = rw c.place-place.ensures at (empty-interned g c.place-place.result.offset.0 c.place-place.result.length none) in record { field_numbered = field-numbered c.args.notes.now c.args.row.0 c.args.k c.requires.k_bound.1 c.set_name.ensures g interned; value = empty-kind c.args.table.now c.args.pool.now c.args.row.0 c.args.field c.place-place.ensures none }

pub recall-number-requires : goal.recall-number-requires
recall-number-requires c = has-places c.requires.dictionary

pub name_kind-requires : goal.name_kind-requires
name_kind-requires c =
    has_words c.requires.dictionary c.recall-number.result.0 (c.recall-number.ensures c.args.pool.now c.requires.dictionary c.if-number-gt0.true)

pub returns-then-number-gt0 : goal.returns-then-number-gt0
returns-then-number-gt0 c =
    let g = c.requires.dictionary in
    let interned = rw c.place-place.ensures at (recalled g c.place-place.result.offset.0 c.place-place.result.length c.recall-number.result.0 (c.recall-number.ensures c.args.pool.now g c.if-number-gt0.true)) in record { field_numbered = field-numbered c.args.notes.now c.args.row.0 c.args.k c.requires.k_bound.1 c.set_name-then-number-gt0.ensures g interned; value = c.name_kind.ensures c.args.pool.now _ g interned.denotes }
