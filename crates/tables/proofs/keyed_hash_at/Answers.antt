-- `keyed_hash_at` meets its contract.
use mathlib.Core.Path.{refl, ◌∙◌}
use native.Mathlib.Omega.{arith}
use lib.ListN.{length-drop}
use Rattle.marks.specs.Marks.{between}
use Rattle.tables.specs.Tables.{SUMS}
use Rattle.tables.proofs.Hashes.{keyed-folded, keyed-hash, lent}
use Rattle.tables.proofs.keyed_hash_at.Goals as goal

pub returns-then-end-start-le-SHORT : goal.returns-then-end-start-le-SHORT
returns-then-end-start-le-SHORT c =
    let made = c.requires.tables.1 in
    c.keyed_hash.ensures ∙ keyed-hash c.args.tables.now (between c.args.pool.now c.args.start c.args.end) (λ z. omega arith) c.pair_at-bases.ensures.0 c.pair_at-bases.ensures.1

pub sums_of-sums-requires : goal.sums_of-sums-requires
sums_of-sums-requires c =
    let g = c.requires.tables.0 in
    let room = g.room in
    rw (c.pair_at-bases.ensures.0, c.pair_at-bases.ensures.1, lent c.args.tables.now SUMS (omega arith)) record { filled = (g.made c.requires.tables.1).sums; in_bounds = (rw length-drop (omega arith), c.requires.start_le_end.2); start_le_end = (c.requires.start_le_end.0, c.requires.start_le_end.1) }

pub returns : goal.returns
returns c =
    let made = c.requires.tables.1 in
    let name = between c.args.pool.now c.args.start c.args.end in
    keyed-folded c.pair_at-bases.result.one c.pair_at-bases.result.two name refl c.sums_of-sums.ensures.one_value c.sums_of-sums.ensures.two_value
    ∙ keyed-hash c.args.tables.now name (λ z. omega arith) c.pair_at-bases.ensures.0 c.pair_at-bases.ensures.1
