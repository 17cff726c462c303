-- `bundle_opening::read_rows` meets its contract.
use mathlib.Core.Path.{◌≡◌, sym, ◌∙◌}
use mathlib.Core.Bool.{true, false}
use native.Mathlib.Omega.{arith}
use Rattle.std.proofs.lemmas.Result.{err_from_is_err_and}
use Rattle.rules.proofs.Refusals.{verdict-refused}
use Rattle.bundles.specs.Bundles.{is_old}
use Rattle.bundle_opening.proofs.Opening.{Ready, ready, opens, new-inside, old-inside, new-rows, old-rows, opened_rows, opened-refused}
use Rattle.bundle_opening.proofs.read_rows.Goals as goal

pub row_count-rows-requires : goal.row_count-rows-requires
row_count-rows-requires c =
    let fact : Ready c.args.bundle.now = ready c.args.bundle.now (sym c.judge.ensures ∙ c.in_ok-judge.was) in
    fact.known.header

pub is_old-requires : goal.is_old-requires
is_old-requires c =
    let fact : Ready c.args.bundle.now = ready c.args.bundle.now (sym c.judge.ensures ∙ c.in_ok-judge.was) in
    fact.known.header

pub slice_bounds-read-count : goal.slice_bounds-read-count
slice_bounds-read-count c =
    let fact : Ready c.args.bundle.now = ready c.args.bundle.now (sym c.judge.ensures ∙ c.in_ok-judge.was) in
    fact.known.header

pub slice_bounds-read-start : goal.slice_bounds-read-start
slice_bounds-read-start c =
    let fact : Ready c.args.bundle.now = ready c.args.bundle.now (sym c.judge.ensures ∙ c.in_ok-judge.was) in
    fact.known.header

pub read-requires : goal.read-requires
read-requires c =
    let fact : is_old c.args.bundle.now ≡ true = sym c.is_old.ensures ∙ c.if-is_old.true in
    let fact2 : Ready c.args.bundle.now = ready c.args.bundle.now (sym c.judge.ensures ∙ c.in_ok-judge.was) in
    let few = fact2.few in
    let room = c.requires fact2.known.header few in record { rows_in_bounds = old-inside c.args.bundle.now _ c.row_count-rows.ensures.0 fact2.known fact; rows_in_bounds_2 = omega arith }

pub returns-then-is_old : goal.returns-then-is_old
returns-then-is_old c =
    let fact : is_old c.args.bundle.now ≡ true = sym c.is_old.ensures ∙ c.if-is_old.true in
    let fact2 : Ready c.args.bundle.now = ready c.args.bundle.now (sym c.judge.ensures ∙ c.in_ok-judge.was) in
    let all = opened_rows c.args.bundle.now _ c.row_count-rows.result
    (opens c.args.bundle.now c.args.table.now c.row_count-rows.result _ c.requires fact2 c.row_count-rows.ensures.0
    (old-rows c.args.bundle.now c.row_count-rows.result c.row_count-rows.ensures.0 fact c.args.table.now _ c.read.ensures)) in record { by_index = all.0; bundle_value = all.1 }

pub slice_bounds-read_words-count : goal.slice_bounds-read_words-count
slice_bounds-read_words-count c =
    let fact : Ready c.args.bundle.now = ready c.args.bundle.now (sym c.judge.ensures ∙ c.in_ok-judge.was) in
    fact.known.header

pub slice_bounds-read_words-start : goal.slice_bounds-read_words-start
slice_bounds-read_words-start c =
    let fact : Ready c.args.bundle.now = ready c.args.bundle.now (sym c.judge.ensures ∙ c.in_ok-judge.was) in
    fact.known.header

pub read_words-requires : goal.read_words-requires
read_words-requires c =
    let fact : is_old c.args.bundle.now ≡ false = sym c.is_old.ensures ∙ c.if-is_old.false in
    let fact2 : Ready c.args.bundle.now = ready c.args.bundle.now (sym c.judge.ensures ∙ c.in_ok-judge.was) in
    let few = fact2.few in
    let room = c.requires fact2.known.header few in record { count_in_bounds = new-inside c.args.bundle.now _ c.row_count-rows.ensures.0 fact2.known fact; count_in_bounds_2 = omega arith }

pub returns : goal.returns
returns c =
    let fact : is_old c.args.bundle.now ≡ false = sym c.is_old.ensures ∙ c.if-is_old.false in
    let fact2 : Ready c.args.bundle.now = ready c.args.bundle.now (sym c.judge.ensures ∙ c.in_ok-judge.was) in
    let all = opened_rows c.args.bundle.now _ c.row_count-rows.result
    (opens c.args.bundle.now c.args.table.now c.row_count-rows.result _ c.requires fact2 c.row_count-rows.ensures.0
    (new-rows c.args.bundle.now c.row_count-rows.result c.row_count-rows.ensures.0 fact c.args.table.now _ c.read_words.ensures)) in record { by_index = all.0; bundle_value = all.1 }

pub returns-in_err-judge : goal.returns-in_err-judge
returns-in_err-judge c =
    let p = err_from_is_err_and c.from_residual.result c.from_residual.ensures.1 in
    rw (p.1, p.2)
    (let all = opened-refused c.args.bundle.now _ _ (verdict-refused _ _ (sym c.judge.ensures ∙ c.in_err-judge.was)) in record { by_index = all.0; bundle_value = all.1 })
