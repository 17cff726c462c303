-- `harden` meets its contract.
use Rattle.std.proofs.Common.{◌≡◌, ◌+◌, length, arith}
use Rattle.entries.specs.Entries.{NAMES, WIDTH}
use Rattle.dictionary.proofs.Places.{lent}
use Rattle.dictionary.proofs.Clearing.{filled, entries_none, entries-long, begun-anew}
use Rattle.dictionary.proofs.harden.Goals as goal

pub key-requires : goal.key-requires
key-requires c =
    let words = c.fill.new.self in
    let size : length words ≡ length c.args.dictionary.now = c.fill.ensures.len in
    let none = filled (length c.args.dictionary.now) (c.fill.ensures.after (λ y e. e)) in
    rw (lent words (omega arith)) record { in_bounds = (entries-long words (NAMES + WIDTH) (omega arith), c.requires.1); by_index = entries_none words none }

pub returns : goal.returns
returns c =
    let words = c.fill.new.self in
    let size : length words ≡ length c.args.dictionary.now = c.fill.ensures.len in
    let none = filled (length c.args.dictionary.now) (c.fill.ensures.after (λ y e. e)) in
    let all = begun-anew words c.args.pool.now (omega arith) none c.key.ensures.entries c.key.ensures.entries_after in
    record { dictionary = all.0; dictionary_bound = all.1 }
