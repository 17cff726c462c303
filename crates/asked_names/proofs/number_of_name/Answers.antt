-- `number_of_name` meets its contract.
use native.Mathlib.Omega.{arith}
use Rattle.dictionary.proofs.Places.{has-places, lent}
use Rattle.dictionary.proofs.Laws.{has_last}
use Rattle.asked_names.proofs.Asked.{asked-empty, asked-long, asked-within, asked-found, asked-none}
use Rattle.asked_names.proofs.number_of_name.Goals as goal

pub returns-then-name-eq0 : goal.returns-then-name-eq0
returns-then-name-eq0 c =
    record { result_bound = omega arith; by_index = asked-empty c.requires.dictionary c.args.name.now c.if-name-eq0.true }

pub unused-requires : goal.unused-requires
unused-requires c = (has_last c.requires.dictionary, c.requires.dictionary_bound)

pub returns-then-name-pool : goal.returns-then-name-pool
returns-then-name-pool c =
    rw c.unused.ensures record { result_bound = omega arith; by_index = asked-long c.requires.dictionary c.args.name.now c.if-name-pool.true }

pub slice_bounds-number_of-count : goal.slice_bounds-number_of-count
slice_bounds-number_of-count c = has-places c.requires.dictionary

pub slice_bounds-number_of-start : goal.slice_bounds-number_of-start
slice_bounds-number_of-start c = has-places c.requires.dictionary

pub number_of-found-requires : goal.number_of-found-requires
number_of-found-requires c = rw (lent c.args.dictionary.now (has-places c.requires.dictionary)) c.requires.dictionary.entries

pub returns-then-found-gt0 : goal.returns-then-found-gt0
returns-then-found-gt0 c =
    let e = lent c.args.dictionary.now (has-places c.requires.dictionary) in
    let f = rw e at c.number_of-found.ensures in record { result_bound = asked-within c.requires.dictionary c.args.name.now f; by_index = asked-found c.requires.dictionary c.args.name.now f c.if-found-gt0.true }

pub unused-requires-2 : goal.unused-requires-2
unused-requires-2 c = (has_last c.requires.dictionary, c.requires.dictionary_bound)

pub returns : goal.returns
returns c =
    let e = lent c.args.dictionary.now (has-places c.requires.dictionary) in
    let f = rw e at c.number_of-found.ensures in
    rw c.unused-2.ensures record { result_bound = omega arith; by_index = asked-none c.requires.dictionary c.args.name.now f c.if-found-gt0.false (λ z. c.if-name-eq0.false z) }
