use Prim.Native.Nat.{◌<◌, ◌≤◌}
use native.Mathlib.Omega.{arith}
use mathlib.Core.Path.{refl, ◌∙◌}
use Rattle.rules.specs.Table.{row_count, nodes}
use Rattle.unsettled.specs.Lowest.{unmeant}
use Rattle.unsettled.proofs.Walking.{few, ready, asked, walkable-moved, unsettled-told}
use Rattle.unsettled.proofs.Lowest.{lowest-found, lowest-none, none-next}
use Rattle.unsettled.proofs.lowest_from.Goals as goal

pub loop-r-init : goal.loop-r-init
loop-r-init c =
    record {
      untouched = λ k. refl;
      standing = c.requires.standing.0;
      low = c.requires.standing.1;
      before = λ pool w none. none;
    }

pub overflow_cast-rows : goal.overflow_cast-rows
overflow_cast-rows c = omega (arith, few c.requires.by_index.1)

pub follow-position-requires-clause-ready : goal.follow-position-requires-clause-ready
follow-position-requires-clause-ready c =
    ready (walkable-moved c.requires.by_index.1 c.loop-r.tops c.loop-r.path c.loop-r.auto.tops c.loop-r.auto.path c.loop-r.invariant.untouched)

pub is_unsettled-requires-clause-asked : goal.is_unsettled-requires-clause-asked
is_unsettled-requires-clause-asked c =
    let less : c.loop-r.r < row_count c.args.table.now = omega arith in
    let w = c.requires.by_index.1 in
    asked (walkable-moved (walkable-moved w c.loop-r.tops c.loop-r.path c.loop-r.auto.tops c.loop-r.auto.path c.loop-r.invariant.untouched) _ _ c.follow-position.auto.tops c.follow-position.auto.path c.follow-position.ensures.untouched) c.follow-position.result.0 c.follow-position.ensures.standing_2.0 c.loop-r.r less

pub returns-then-is_unsettled : goal.returns-then-is_unsettled
returns-then-is_unsettled c =
    let less : c.loop-r.r < row_count c.args.table.now = omega arith in
    λ pool w none. lowest-found (unmeant (nodes c.args.table.now pool) c.args.flags.now) (row_count c.args.table.now) c.loop-r.r (c.loop-r.invariant.before pool w none) c.is_unsettled.result (unsettled-told (walkable-moved (walkable-moved w c.loop-r.tops c.loop-r.path c.loop-r.auto.tops c.loop-r.auto.path c.loop-r.invariant.untouched) _ _ c.follow-position.auto.tops c.follow-position.auto.path c.follow-position.ensures.untouched) c.args.flags.now c.follow-position.result.0 c.follow-position.ensures.standing_2.0 c.loop-r.r less c.follow-position.ensures.result_value c.is_unsettled.ensures) c.if-is_unsettled.true

pub loop-r-preserved : goal.loop-r-preserved
loop-r-preserved c =
    let less : c.loop-r.r < row_count c.args.table.now = omega arith in
    record {
      untouched = λ k. c.follow-position.ensures.untouched k ∙ c.loop-r.invariant.untouched k;
      standing = c.follow-position.ensures.standing_2.0;
      low = c.follow-position.ensures.standing_2.1;
      before = λ pool w none. none-next (unmeant (nodes c.args.table.now pool) c.args.flags.now) (row_count c.args.table.now) c.loop-r.r (c.loop-r.invariant.before pool w none) c.is_unsettled.result (unsettled-told (walkable-moved (walkable-moved w c.loop-r.tops c.loop-r.path c.loop-r.auto.tops c.loop-r.auto.path c.loop-r.invariant.untouched) _ _ c.follow-position.auto.tops c.follow-position.auto.path c.follow-position.ensures.untouched) c.args.flags.now c.follow-position.result.0 c.follow-position.ensures.standing_2.0 c.loop-r.r less c.follow-position.ensures.result_value c.is_unsettled.ensures) c.if-is_unsettled.false;
    }

pub returns : goal.returns
returns c =
    let past : row_count c.args.table.now ≤ c.loop-r.r = omega arith in
    λ pool w none. lowest-none (unmeant (nodes c.args.table.now pool) c.args.flags.now) (row_count c.args.table.now) c.loop-r.r (c.loop-r.invariant.before pool w none) past (omega (arith, few w))
