-- `number_at` meets its contract.
use mathlib.Core.Path.{sym, ap, ◌∙◌}
use Rattle.tables.specs.Tables.{hash_in}
use Rattle.entries.specs.Entries.{tables_of}
use Rattle.interning.proofs.Interning.{found-interned, new-interned}
use Rattle.interning.proofs.number_at.Goals as goal

pub hash_at-hash-requires : goal.hash_at-hash-requires
hash_at-hash-requires c = record { entries = c.requires.entries; within = c.requires.within }

pub find-found-requires : goal.find-found-requires
find-found-requires c =
    record { entries = c.requires.entries; hash_value = c.hash_at-hash.ensures ∙ ap (hash_in (tables_of c.args.entries.now)) (sym c.part-name.ensures.result_value) }

pub returns-then-found-gt0 : goal.returns-then-found-gt0
returns-then-found-gt0 c =
    record { entries_2 = c.requires.entries; interned = rw c.part-name.ensures.result_value at (found-interned c.args.entries.now c.args.pool.now c.requires.entries c.part-name.result.now c.find-found.ensures c.if-found-gt0.true) }

pub kind_at-kind-requires : goal.kind_at-kind-requires
kind_at-kind-requires c = record { entries = c.requires.entries; within = c.requires.within }

pub returns : goal.returns
returns c =
    let all = new-interned c.args.entries.now c.args.pool.now c.requires.entries c.args.place.offset.0 c.args.place.length c.hardness-hard.result c.requires.has_room c.requires.within c.requires.length_nonzero c.part-name.ensures.result_value c.hash_at-hash.ensures c.find-found.ensures c.if-found-gt0.false c.kind_at-kind.ensures c.enter.ensures.result_value c.enter.ensures.entries_after in record { entries_2 = all.0; interned = all.1 }
