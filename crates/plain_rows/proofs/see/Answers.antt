-- `see` meets its contract.
use Rattle.dictionary.proofs.Places.{has-places}
use Rattle.dictionary.proofs.Laws.{has_words}
use Rattle.plain_rows.proofs.Laws.{number-given, known-field}
use Rattle.plain_rows.proofs.see.Goals as goal

pub recall-number-requires : goal.recall-number-requires
recall-number-requires c = has-places c.requires.dictionary

pub name_kind-kind-requires : goal.name_kind-kind-requires
name_kind-kind-requires c =
    let p = c.place-place.result in
    has_words c.requires.dictionary c.recall-number.result.0 (number-given c.requires.dictionary p.offset.0 p.length (c.recall-number.ensures c.args.pool.now c.requires.dictionary))

pub returns : goal.returns
returns c =
    let known = known-field c.args.table.now c.args.pool.now c.args.dictionary.now c.args.row.0 c.args.field c.requires.dictionary c.place-place.ensures (c.recall-number.ensures c.args.pool.now c.requires.dictionary) c.is_within-within.ensures c.is_nothing-nothing.ensures in record { known = known; kind_value = λ e. c.name_kind-kind.ensures c.args.pool.now _ c.requires.dictionary (known e).names }
