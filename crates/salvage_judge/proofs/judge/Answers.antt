-- `salvage_judge::judge` meets its contract.
use mathlib.Core.Path.{sym, ◌∙◌}
use native.Mathlib.Omega.{arith}
use Rattle.rules.specs.Table.{nodes}
use Rattle.rules.proofs.Accepted.{sized, few-rows}
use Rattle.value_bytes.proofs.Values.{zeros-marked}
use Rattle.row_checks.specs.Arrays.{Enough}
use Rattle.checker.proofs.Whole.{enough, lent-empty}
use Rattle.salvage_judge.proofs.Whole.{fated-lent, decided-size, decided-rows}
use Rattle.salvage_judge.proofs.judge.Goals as goal

pub returns-then-is_bad : goal.returns-then-is_bad
returns-then-is_bad c = decided-size c.args.table.now c.args.pool.now (sym c.is_bad.ensures ∙ c.if-is_bad.true) c.args.fates.now

pub mark-requires : goal.mark-requires
mark-requires c =
    let arrays : Enough c.args.table.now c.args.pool.now c.args.dictionary.now c.args.notes.now = let z = sized c.args.table.now c.args.pool.now (sym c.is_bad.ensures ∙ c.if-is_bad.false) in
    enough c.args.table.now c.args.pool.now c.args.dictionary.now c.args.notes.now (few-rows c.args.table.now c.args.pool.now z) z.pool_bound c.requires.lent in
    let e = arrays in record { table_bound = (e.rows, e.bytes); in_bounds = (omega arith, zeros-marked 516 c.args.pool.now) }

pub slice_bounds-judge_sized-end : goal.slice_bounds-judge_sized-end
slice_bounds-judge_sized-end c = sym c.mark.auto.marks

pub judge_sized-requires : goal.judge_sized-requires
judge_sized-requires c =
    let arrays : Enough c.args.table.now c.args.pool.now c.args.dictionary.now c.args.notes.now = let z = sized c.args.table.now c.args.pool.now (sym c.is_bad.ensures ∙ c.if-is_bad.false) in
    enough c.args.table.now c.args.pool.now c.args.dictionary.now c.args.notes.now (few-rows c.args.table.now c.args.pool.now z) z.pool_bound c.requires.lent in
    let e = arrays in record { enough = e; judging = record { ascii = c.is_ascii-ascii.ensures; marked = c.mark.ensures; room = rw c.mark.auto.marks (omega arith); small = e.bytes }; dictionary = lent-empty c.args.table.now c.args.pool.now c.args.dictionary.now c.args.notes.now e c.requires.lent.cleared; table_in_bounds = c.requires.fates_lent.words e.rows; fated = fated-lent (nodes c.args.table.now c.args.pool.now) c.args.fates.now c.requires.fates_lent.cleared }

pub returns : goal.returns
returns c =
    let arrays : Enough c.args.table.now c.args.pool.now c.args.dictionary.now c.args.notes.now = let z = sized c.args.table.now c.args.pool.now (sym c.is_bad.ensures ∙ c.if-is_bad.false) in
    enough c.args.table.now c.args.pool.now c.args.dictionary.now c.args.notes.now (few-rows c.args.table.now c.args.pool.now z) z.pool_bound c.requires.lent in
    decided-rows c.args.table.now c.args.pool.now (sym c.is_bad.ensures ∙ c.if-is_bad.false) (rw c.judge_sized.auto.fates (c.requires.fates_lent.words arrays.rows)) c.judge_sized.ensures
