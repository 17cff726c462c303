use mathlib.Core.Path.{refl, sym, ◌∙◌}
use native.Mathlib.Omega.{arith}
use Rattle.chains.proofs.Laws.{walk_start, walk_end, walk-found, walk-falls, walk-next}
use Rattle.entries.proofs.Finding.{name-search}
use Rattle.entries.proofs.find.Goals as goal

pub loop-at-init : goal.loop-at-init
loop-at-init c =
    let w = walk_start ((name-search c.args.entries.now c.args.pool.now c.requires.entries c.args.name.now c.args.hash c.requires.hash_value)) _ refl in let l = w.within in (w, omega arith)

pub is_named-requires : goal.is_named-requires
is_named-requires c =
    record { entries = c.requires.entries; hash_value = c.requires.hash_value; number_nonzero = (c.loop-at-test.true, c.loop-at.invariant.0.within) }

pub returns-then-is_named : goal.returns-then-is_named
returns-then-is_named c =
    sym (walk-found ((name-search c.args.entries.now c.args.pool.now c.requires.entries c.args.name.now c.args.hash c.requires.hash_value)) c.loop-at.at c.loop-at.invariant.0 c.loop-at-test.true (sym c.is_named.ensures ∙ c.if-is_named.true))

pub loop-at-smaller : goal.loop-at-smaller
loop-at-smaller c =
    walk-falls ((name-search c.args.entries.now c.args.pool.now c.requires.entries c.args.name.now c.args.hash c.requires.hash_value)) c.loop-at.at c.loop-at.invariant.0 c.loop-at-test.true c.word-at.result c.word-at.ensures

pub loop-at-preserved : goal.loop-at-preserved
loop-at-preserved c =
    let s = (name-search c.args.entries.now c.args.pool.now c.requires.entries c.args.name.now c.args.hash c.requires.hash_value) in
    let t = c.loop-at-test.true in
    let falls = walk-falls s c.loop-at.at c.loop-at.invariant.0 t c.word-at.result c.word-at.ensures in
    let fits = c.loop-at.invariant.1 in
    (walk-next s c.loop-at.at c.loop-at.invariant.0 t c.word-at.result c.word-at.ensures (sym c.is_named.ensures ∙ c.if-is_named.false), omega arith)

pub returns : goal.returns
returns c =
    let z = walk_end ((name-search c.args.entries.now c.args.pool.now c.requires.entries c.args.name.now c.args.hash c.requires.hash_value)) c.loop-at.at c.loop-at.invariant.0 (omega arith) in
    omega arith
