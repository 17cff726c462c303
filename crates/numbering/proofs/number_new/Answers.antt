-- `number_new` meets its contract.
use Rattle.dictionary.proofs.Laws.{has_words}
use Rattle.numbering.proofs.Numbering.{entries-room, place-within, field-numbered}
use Rattle.numbering.proofs.number_new.Goals as goal

pub number_of-number-requires : goal.number_of-number-requires
number_of-number-requires c =
    record { dictionary = c.requires.dictionary; has_room = entries-room c.requires.has_room; within = place-within c.requires.inside c.place.ensures }

pub name_kind-requires : goal.name_kind-requires
name_kind-requires c =
    has_words c.number_of-number.ensures.dictionary_2 c.number_of-number.result.0 c.number_of-number.ensures.interned.denotes

pub returns : goal.returns
returns c =
    let interned = rw c.place.ensures at c.number_of-number.ensures.interned in record { field_numbered = field-numbered c.args.notes.now c.args.row.0 c.args.k c.requires.k_bound.1 c.set_name.ensures c.number_of-number.ensures.dictionary_2 interned; value = c.name_kind.ensures c.args.pool.now _ c.number_of-number.ensures.dictionary_2 interned.denotes }
