use mathlib.Core.Path.{◌≡◌, sym, ap, ◌∙◌}
use native.Mathlib.Omega.{arith}
use Rattle.rules.specs.Table.{PARENT, word}
use Rattle.chains.proofs.Laws.{walk_start, walk-found, walk-falls, walk-next}
use Rattle.doubles.specs.Doubles.{key_of, head_at}
use Rattle.doubles.proofs.Keys.{key-search, key-alone, walk-past, owner-read, tested, some-last, no_last}
use Rattle.doubles.proofs.has_key.Goals as goal

pub head-at-requires : goal.head-at-requires
head-at-requires c =
    let g = c.requires.some_entered.those in
    omega (arith, c.requires.bucket_value, g.room)

pub loop-at-init : goal.loop-at-init
loop-at-init c =
    λ enters g. walk_start ((key-search enters c.args.table.now c.args.notes.now c.args.row.0 c.requires.row_value c.args.chains.now g)) c.head-at.result.0 (c.head-at.ensures ∙ ap (head_at c.args.chains.now) c.requires.bucket_value)

pub row_at-earlier-requires : goal.row_at-earlier-requires
row_at-earlier-requires c = omega (arith, c.loop-at-test.true)

pub returns-then-earlier-owner : goal.returns-then-earlier-owner
returns-then-earlier-owner c =
    let owner : c.args.key.owner.0 ≡ word c.args.table.now c.args.row.0 PARENT = owner-read c.args.table.now c.args.notes.now c.args.row.0 c.requires.key_value in
    λ enters g.
    no_last
    (walk-past enters c.args.table.now c.args.notes.now c.args.row.0 c.requires.row_value c.args.chains.now g c.loop-at.at (c.loop-at.invariant enters g) (omega (arith, owner, c.row_at-earlier.ensures, c.if-earlier-owner.true)))

pub key_of-requires : goal.key_of-requires
key_of-requires c =
    let g = c.requires.some_entered.those in
    let w = c.loop-at.invariant c.requires.some_entered.enters g in
    (omega (arith, c.row_at-earlier.ensures, c.loop-at-test.true, w.within, c.requires.row_bound), g.named)

pub returns-then-same_key : goal.returns-then-same_key
returns-then-same_key c =
    λ enters g.
    let w = c.loop-at.invariant enters g in
    some-last
    (walk-found ((key-search enters c.args.table.now c.args.notes.now c.args.row.0 c.requires.row_value c.args.chains.now g)) c.loop-at.at w (omega (arith, c.loop-at-test.true))
    (key-alone enters c.args.table.now c.args.notes.now c.args.row.0 c.requires.row_value c.loop-at.at w (omega (arith, c.loop-at-test.true))
    ∙ sym (tested c.same_key.ensures (c.key_of.ensures ∙ ap (key_of c.args.table.now c.args.notes.now) c.row_at-earlier.ensures) c.requires.key_value) ∙ c.if-same_key.true))
    (omega (arith, c.loop-at-test.true))

pub link-at-requires : goal.link-at-requires
link-at-requires c =
    let g = c.requires.some_entered.those in
    let w = c.loop-at.invariant c.requires.some_entered.enters g in
    omega (arith, w.within, c.requires.row_bound, g.room)

pub loop-at-smaller : goal.loop-at-smaller
loop-at-smaller c =
    let g = c.requires.some_entered.those in
    let enters = c.requires.some_entered.enters in
    walk-falls ((key-search enters c.args.table.now c.args.notes.now c.args.row.0 c.requires.row_value c.args.chains.now g)) c.loop-at.at (c.loop-at.invariant enters g) (omega (arith, c.loop-at-test.true)) c.link-at.result.0 c.link-at.ensures

pub loop-at-preserved : goal.loop-at-preserved
loop-at-preserved c =
    λ enters g.
    let w = c.loop-at.invariant enters g in
    walk-next ((key-search enters c.args.table.now c.args.notes.now c.args.row.0 c.requires.row_value c.args.chains.now g)) c.loop-at.at w (omega (arith, c.loop-at-test.true)) c.link-at.result.0 c.link-at.ensures
    (key-alone enters c.args.table.now c.args.notes.now c.args.row.0 c.requires.row_value c.loop-at.at w (omega (arith, c.loop-at-test.true))
    ∙ sym (tested c.same_key.ensures (c.key_of.ensures ∙ ap (key_of c.args.table.now c.args.notes.now) c.row_at-earlier.ensures) c.requires.key_value) ∙ c.if-same_key.false)

pub returns : goal.returns
returns c =
    λ enters g.
    no_last
    (walk-past enters c.args.table.now c.args.notes.now c.args.row.0 c.requires.row_value c.args.chains.now g c.loop-at.at (c.loop-at.invariant enters g) (omega (arith, c.loop-at-test.false)))
