-- `checker::check_numbered` meets its contract.
use mathlib.Core.Path.{refl, sym, ◌∙◌}
use Rattle.rules.proofs.Accepted.{sized, few-rows}
use Rattle.row_checks.specs.Arrays.{Enough}
use Rattle.checker.proofs.Whole.{check-size, check-all, enough, lent-empty}
use Rattle.faults.proofs.Laws.{not-accepted}
use Rattle.value_bytes.proofs.Values.{zeros-marked}
use native.Mathlib.Omega.{arith}
use Rattle.checker.proofs.check_numbered.Goals as goal

pub returns-then-is_bad : goal.returns-then-is_bad
returns-then-is_bad c =
    record { value = check-size c.args.table.now c.args.pool.now (sym c.is_bad.ensures ∙ c.if-is_bad.true); named = not-accepted _ refl; by_index = λ q k l h. refl }

pub mark-requires : goal.mark-requires
mark-requires c =
    let arrays : Enough c.args.table.now c.args.pool.now c.args.dictionary.now c.args.notes.now = let z = sized c.args.table.now c.args.pool.now (sym c.is_bad.ensures ∙ c.if-is_bad.false) in
    enough c.args.table.now c.args.pool.now c.args.dictionary.now c.args.notes.now (few-rows c.args.table.now c.args.pool.now z) z.pool_bound c.requires in
    let e = arrays in record { table_bound = (e.rows, e.bytes); in_bounds = (omega arith, zeros-marked 516 c.args.pool.now) }

pub slice_bounds-check_sized-end : goal.slice_bounds-check_sized-end
slice_bounds-check_sized-end c = sym c.mark.auto.marks

pub check_sized-requires : goal.check_sized-requires
check_sized-requires c =
    let arrays : Enough c.args.table.now c.args.pool.now c.args.dictionary.now c.args.notes.now = let z = sized c.args.table.now c.args.pool.now (sym c.is_bad.ensures ∙ c.if-is_bad.false) in
    enough c.args.table.now c.args.pool.now c.args.dictionary.now c.args.notes.now (few-rows c.args.table.now c.args.pool.now z) z.pool_bound c.requires in
    let e = arrays in record { enough = e; judging = record { ascii = c.is_ascii-ascii.ensures; marked = c.mark.ensures; room = rw c.mark.auto.marks (omega arith); small = e.bytes }; dictionary = lent-empty c.args.table.now c.args.pool.now c.args.dictionary.now c.args.notes.now e c.requires.cleared }

pub returns : goal.returns
returns c =
    let all = check-all c.args.table.now c.args.pool.now (sym c.is_bad.ensures ∙ c.if-is_bad.false) in record { value = c.check_sized.ensures.value ∙ all; named = c.check_sized.ensures.named; by_index = c.check_sized.ensures.by_index }
