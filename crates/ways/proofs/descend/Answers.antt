use Rattle.std.proofs.Common.{◌≡◌, ◌≤◌, refl, sym, subst, ◌∙◌, length, take, arith, rules}
use Rattle.std.proofs.lemmas.List.{length-take-le}
use Rattle.rules.specs.Table.{MOST_ROWS, row_count}
use Rattle.scopes.specs.Standing.{Standing}
use Rattle.ways.specs.Ways.{Leads}
use Rattle.ways.proofs.Ways.{leads-room, leads-left, leads-last}
use Rattle.ways.proofs.descend.Goals as goal

pub climb-n-requires : goal.climb-n-requires
climb-n-requires c =
    let room = leads-room c.args.table.now c.loop-at.way c.args.to.0 c.loop-at.n c.loop-at.top c.loop-at.invariant.2 in
    let small : row_count c.args.table.now ≤ MOST_ROWS = c.requires.ready.room.small in
    (omega (arith, c.requires.from_le_to.1), omega (arith, c.requires.from_le_to.1))

pub retreat-at-requires-clause-from_bound : goal.retreat-at-requires-clause-from_bound
retreat-at-requires-clause-from_bound c =
    let room = leads-room c.args.table.now c.loop-at.way c.args.to.0 c.loop-at.n c.loop-at.top c.loop-at.invariant.2 in
    omega (arith, c.requires.from_le_to.1, c.loop-at.invariant.1)

pub slice_bounds-way-end : goal.slice_bounds-way-end
slice_bounds-way-end c =
    let room = leads-room c.args.table.now c.loop-at.way c.args.to.0 c.loop-at.n c.loop-at.top c.loop-at.invariant.2 in
    let small : row_count c.args.table.now ≤ MOST_ROWS = c.requires.ready.room.small in
    omega (arith, c.requires.from_le_to.1)

pub slice_bounds-iter-end : goal.slice_bounds-iter-end
slice_bounds-iter-end c =
    let room = leads-room c.args.table.now c.loop-at.way c.args.to.0 c.loop-at.n c.loop-at.top c.loop-at.invariant.2 in
    let small : row_count c.args.table.now ≤ MOST_ROWS = c.requires.ready.room.small in
    sym (length-take-le c.loop-at.n c.loop-at.way (omega (arith, c.requires.from_le_to.1)))

pub loop-step-init : goal.loop-step-init
loop-step-init c =
    let room = leads-room c.args.table.now c.loop-at.way c.args.to.0 c.loop-at.n c.loop-at.top c.loop-at.invariant.2 in
    let small : row_count c.args.table.now ≤ MOST_ROWS = c.requires.ready.room.small in
    let all : c.into_iter-step-iterator.result.iter.rest.now ≡ take c.loop-at.n c.loop-at.way = search rules in
    let left = leads-left c.args.table.now c.loop-at.way c.args.to.0 c.loop-at.n c.loop-at.top (omega (arith, c.requires.from_le_to.1)) c.loop-at.invariant.2 in
    let met : c.loop-at.at ≡ c.loop-at.top = omega (arith, c.loop-at.invariant.1) in (
      c.loop-at.top,
      subst (λ l. Leads c.args.table.now l (length l) c.args.to.0 c.loop-at.top) (sym all) left,
      subst (Standing c.args.table.now c.args.notes.now c.loop-at.tops c.loop-at.path) met c.loop-at.invariant.0,
      λ k. refl,
    )

pub enter-requires-clause-position_nonzero : goal.enter-requires-clause-position_nonzero
enter-requires-clause-position_nonzero c =
    let h = c.loop-step.invariant in
    let last = leads-last c.args.table.now c.loop-step.step-iterator.iter.rest.now c.args.to.0 h.0 c.next.new.self.iter.rest.now c.in-Some.step.now c.in-Some.ensures.steps h.1 in
    let room = leads-room c.args.table.now c.next.new.self.iter.rest.now c.args.to.0 (length c.next.new.self.iter.rest.now) c.in-Some.step.now last.2 in
    (last.1, omega (arith, c.requires.from_le_to.1))

pub enter-requires-clause-standing : goal.enter-requires-clause-standing
enter-requires-clause-standing c =
    let h = c.loop-step.invariant in
    let last = leads-last c.args.table.now c.loop-step.step-iterator.iter.rest.now c.args.to.0 h.0 c.next.new.self.iter.rest.now c.in-Some.step.now c.in-Some.ensures.steps h.1 in
    subst (Standing c.args.table.now c.args.notes.now c.loop-step.tops c.loop-step.path) last.0 h.2

pub loop-step-preserved : goal.loop-step-preserved
loop-step-preserved c =
    let h = c.loop-step.invariant in
    let last = leads-last c.args.table.now c.loop-step.step-iterator.iter.rest.now c.args.to.0 h.0 c.next.new.self.iter.rest.now c.in-Some.step.now c.in-Some.ensures.steps h.1 in
    (c.in-Some.step.now, last.2, c.enter.ensures.standing_2, λ k. c.enter.ensures.untouched k ∙ h.3 k)
