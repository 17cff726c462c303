use Prim.Native.Nat.{◌+◌, ◌<◌}
use mathlib.Core.Path.{refl, sym, ap, ◌∙◌}
use mathlib.Core.Bool.{Bool, ◌&&◌}
use native.Mathlib.Omega.{arith}
use borrow.Author.Tests.{ltb-true, ltb-false}
use Rattle.rules.specs.Table.{row_count, nodes}
use Rattle.rules.proofs.Lists.{true-not-false}
use Rattle.dictionary.proofs.Laws.{has_last}
use Rattle.faults.proofs.Laws.{not-accepted}
use Rattle.row_checks.specs.Judging.{checked_of, Going, Counted}
use Rattle.row_checks.proofs.Going.{going_start, none_yet, counted_next, going_end, going-accepted, going-named, few-dropped, going-refused, going-drawn, still-enough}
use Rattle.std.proofs.lemmas.Result.{err_from_is_err_and}
use Rattle.row_checks.proofs.judge_rows.Goals as goal

pub loop-allowed-init : goal.loop-allowed-init
loop-allowed-init c =
    record {
      kept = λ q k i j. refl;
      counted = record {
        going = going_start c.args.drops c.args.table.now c.args.pool.now c.args.dictionary.now c.args.notes.now c.args.fates.now c.requires.enough c.requires.dictionary.0 c.requires.dictionary.1 c.requires.fated;
        count = none_yet (nodes c.args.table.now c.args.pool.now);
      };
      words = refl;
      records = refl;
      marked = refl;
      links = refl;
    }

pub slice_bounds-judge_row-end : goal.slice_bounds-judge_row-end
slice_bounds-judge_row-end c = sym c.allowed_parents-allowed.ensures.size

pub slice_bounds-judge_row-end-in-loop-allowed : goal.slice_bounds-judge_row-end-in-loop-allowed
slice_bounds-judge_row-end-in-loop-allowed c = sym c.loop-allowed.invariant.links

pub judge_row-requires : goal.judge_row-requires
judge_row-requires c =
    let inside : c.loop-allowed.r < row_count c.args.table.now = ltb-true c.loop-allowed.r (row_count c.args.table.now) (sym c.has_row.ensures ∙ c.loop-allowed-test.true) in
    let l = c.loop-allowed.invariant in record { enough = still-enough c.requires.enough l.words l.records; judging = c.requires.judging; right = c.allowed_parents-allowed.ensures; row_bound = inside; table_in_bounds = λ on. rw l.marked (c.requires.table_in_bounds on); going = l.counted.going }

pub shape_of-dictionary-in_err-judge_row : goal.shape_of-dictionary-in_err-judge_row
shape_of-dictionary-in_err-judge_row c = c.judge_row.auto.dictionary ∙ c.loop-allowed.invariant.words

pub shape_of-notes-in_err-judge_row : goal.shape_of-notes-in_err-judge_row
shape_of-notes-in_err-judge_row c = c.judge_row.auto.notes ∙ c.loop-allowed.invariant.records

pub shape_of-fates-in_err-judge_row : goal.shape_of-fates-in_err-judge_row
shape_of-fates-in_err-judge_row c = c.judge_row.auto.fates ∙ c.loop-allowed.invariant.marked

pub returns-in_err-judge_row : goal.returns-in_err-judge_row
unfolding checked_of
returns-in_err-judge_row c =
    let p = err_from_is_err_and c.from_residual.result c.from_residual.ensures.1 in
    rw (p.1, p.2)
    (let inside : c.loop-allowed.r < row_count c.args.table.now = ltb-true c.loop-allowed.r (row_count c.args.table.now) (sym c.has_row.ensures ∙ c.loop-allowed-test.true) in
    let g = c.loop-allowed.invariant.counted.going in record { judged = λ e on. going-refused g inside c.judge_row.ensures.value _ c.in_err-judge_row.was on _; result_value = λ e off. going-drawn g inside c.judge_row.ensures.value _ c.in_err-judge_row.was off; named = λ e a. not-accepted _ refl a; by_index = λ q k i m. c.judge_row.ensures.by_index q k i m ∙ c.loop-allowed.invariant.kept q k i m })

pub is_hard-requires : goal.is_hard-requires
is_hard-requires c =
    let accepted : Going c.args.drops c.args.table.now c.args.pool.now c.judge_row.new.dictionary c.judge_row.new.notes c.judge_row.new.chains c.judge_row.new.fates (c.loop-allowed.r + 1) = c.judge_row.ensures.going_2 c.in_ok-judge_row.was in
    has_last accepted.right

pub shape_of-dictionary-then-stops-is_hard : goal.shape_of-dictionary-then-stops-is_hard
shape_of-dictionary-then-stops-is_hard c = c.judge_row.auto.dictionary ∙ c.loop-allowed.invariant.words

pub shape_of-notes-then-stops-is_hard : goal.shape_of-notes-then-stops-is_hard
shape_of-notes-then-stops-is_hard c = c.judge_row.auto.notes ∙ c.loop-allowed.invariant.records

pub shape_of-fates-then-stops-is_hard : goal.shape_of-fates-then-stops-is_hard
shape_of-fates-then-stops-is_hard c = c.judge_row.auto.fates ∙ c.loop-allowed.invariant.marked

pub returns-then-stops-is_hard : goal.returns-then-stops-is_hard
unfolding checked_of
returns-then-stops-is_hard c =
    let hard = ap (λ (b : Bool). c.args.stops && b) (sym c.is_hard.ensures) ∙ c.if-stops-is_hard.true in record { judged = λ e. absurd (true-not-false hard e); result_value = λ e. absurd (true-not-false hard e); named = λ e. absurd (true-not-false hard e); by_index = λ q k i m. c.judge_row.ensures.by_index q k i m ∙ c.loop-allowed.invariant.kept q k i m }

pub counted-dropped-requires : goal.counted-dropped-requires
counted-dropped-requires c =
    let inside : c.loop-allowed.r < row_count c.args.table.now = ltb-true c.loop-allowed.r (row_count c.args.table.now) (sym c.has_row.ensures ∙ c.loop-allowed-test.true) in
    let size = c.judge_row.auto.fates ∙ c.loop-allowed.invariant.marked in
    (λ on. omega (arith, inside, c.requires.table_in_bounds on, size), few-dropped c.loop-allowed.invariant.counted.going c.loop-allowed.invariant.counted.count, omega (arith, inside, c.requires.enough.rows))

pub overflow_add-next : goal.overflow_add-next
overflow_add-next c =
    let inside : c.loop-allowed.r < row_count c.args.table.now = ltb-true c.loop-allowed.r (row_count c.args.table.now) (sym c.has_row.ensures ∙ c.loop-allowed-test.true) in
    omega (arith, inside, c.requires.enough.rows)

pub slice_bounds-pass-end : goal.slice_bounds-pass-end
slice_bounds-pass-end c = sym (c.judge_row.auto.chains ∙ c.loop-allowed.invariant.links)

pub pass-r-requires : goal.pass-r-requires
pass-r-requires c =
    let accepted : Going c.args.drops c.args.table.now c.args.pool.now c.judge_row.new.dictionary c.judge_row.new.notes c.judge_row.new.chains c.judge_row.new.fates (c.loop-allowed.r + 1) = c.judge_row.ensures.going_2 c.in_ok-judge_row.was in
    let counts : Counted c.args.drops c.args.table.now c.args.pool.now c.judge_row.new.dictionary c.judge_row.new.notes c.judge_row.new.chains c.judge_row.new.fates c.counted-dropped.result (c.loop-allowed.r + 1) = let g = accepted in
    record { going = g; count = counted_next c.loop-allowed.r g c.loop-allowed.invariant.counted.count c.counted-dropped.ensures } in
    record { ascii_value = c.requires.judging.ascii; some_going = record { drops = c.args.drops; fates = c.judge_row.new.fates; those = counts } }

pub loop-allowed-smaller : goal.loop-allowed-smaller
loop-allowed-smaller c =
    let inside : c.loop-allowed.r < row_count c.args.table.now = ltb-true c.loop-allowed.r (row_count c.args.table.now) (sym c.has_row.ensures ∙ c.loop-allowed-test.true) in
    omega (arith, inside, c.pass-r.ensures.from_le_result)

pub loop-allowed-preserved : goal.loop-allowed-preserved
loop-allowed-preserved c =
    let accepted : Going c.args.drops c.args.table.now c.args.pool.now c.judge_row.new.dictionary c.judge_row.new.notes c.judge_row.new.chains c.judge_row.new.fates (c.loop-allowed.r + 1) = c.judge_row.ensures.going_2 c.in_ok-judge_row.was in
    let counts : Counted c.args.drops c.args.table.now c.args.pool.now c.judge_row.new.dictionary c.judge_row.new.notes c.judge_row.new.chains c.judge_row.new.fates c.counted-dropped.result (c.loop-allowed.r + 1) = let g = accepted in
    record { going = g; count = counted_next c.loop-allowed.r g c.loop-allowed.invariant.counted.count c.counted-dropped.ensures } in
    let l = c.loop-allowed.invariant in
    record {
      kept = λ q k i m. c.pass-r.ensures.by_index q k i m ∙ c.judge_row.ensures.by_index q k i m ∙ l.kept q k i m;
      counted = c.pass-r.ensures.counted _ _ counts;
      words = c.judge_row.auto.dictionary ∙ c.loop-allowed.invariant.words;
      records = c.pass-r.auto.notes ∙ c.judge_row.auto.notes ∙ c.loop-allowed.invariant.records;
      marked = c.judge_row.auto.fates ∙ c.loop-allowed.invariant.marked;
      links = c.pass-r.auto.chains ∙ c.judge_row.auto.chains ∙ c.loop-allowed.invariant.links;
    }

pub overflow_sub-rows : goal.overflow_sub-rows
overflow_sub-rows c =
    omega (arith, c.wide.ensures, few-dropped c.loop-allowed.invariant.counted.going c.loop-allowed.invariant.counted.count)

pub shape_of-dictionary : goal.shape_of-dictionary
shape_of-dictionary c = c.loop-allowed.invariant.words

pub shape_of-notes : goal.shape_of-notes
shape_of-notes c = c.loop-allowed.invariant.records

pub shape_of-fates : goal.shape_of-fates
shape_of-fates c = c.loop-allowed.invariant.marked

pub returns : goal.returns
unfolding checked_of
returns c =
    let g = c.loop-allowed.invariant.counted.going in
    let end = ltb-false c.loop-allowed.r (row_count c.args.table.now) (sym c.has_row.ensures ∙ c.loop-allowed-test.false) in record { judged = λ e on. rw c.wide.ensures (going_end g on end c.loop-allowed.invariant.counted.count); result_value = λ e off. going-accepted g off end; named = λ e a. going-named g end; by_index = c.loop-allowed.invariant.kept }
