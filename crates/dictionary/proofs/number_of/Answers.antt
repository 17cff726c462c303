-- `number_of` meets its contract.
use native.Mathlib.Omega.{arith}
use Rattle.dictionary.proofs.Places.{has-places, lent, denoted, empty-interned, remembered-interned}
use Rattle.dictionary.proofs.number_of.Goals as goal

pub returns-then-place-eq0 : goal.returns-then-place-eq0
returns-then-place-eq0 c =
    record { dictionary_2 = c.requires.dictionary; interned = empty-interned c.requires.dictionary c.args.place.offset.0 c.args.place.length c.if-place-eq0.true }

pub recall-known-requires : goal.recall-known-requires
recall-known-requires c = has-places c.requires.dictionary

pub returns-then-known-gt0 : goal.returns-then-known-gt0
returns-then-known-gt0 c =
    record { dictionary_2 = c.requires.dictionary; interned = denoted (c.recall-known.ensures c.args.pool.now c.requires.dictionary c.if-known-gt0.true) }

pub slice_bounds-intern-count : goal.slice_bounds-intern-count
slice_bounds-intern-count c = has-places c.requires.dictionary

pub slice_bounds-intern-start : goal.slice_bounds-intern-start
slice_bounds-intern-start c = has-places c.requires.dictionary

pub intern-number-requires : goal.intern-number-requires
intern-number-requires c =
    let full = c.if-place-eq0.false in
    rw (lent c.args.dictionary.now (has-places c.requires.dictionary)) record { entries = c.requires.dictionary.entries; has_room = c.requires.has_room; within = c.requires.within; length_nonzero = omega arith }

pub returns : goal.returns
returns c =
    let e = lent c.args.dictionary.now (has-places c.requires.dictionary) in let all = remembered-interned c.args.dictionary.now c.args.pool.now c.requires.dictionary c.slot_of.result c.slot_of.ensures c.args.place.offset.0 c.args.place.length c.intern-number.ensures.entries_2 (rw e at c.intern-number.ensures.interned) c.remember.ensures in record { dictionary_2 = all.0; interned = all.1 }
