-- `input::judge` meets its contract.
use Prim.Native.Nat.{zero-le}
use native.Mathlib.Omega.{arith}
use Rattle.input.proofs.Input.{check-refused, judge-few, level1-refused, none-refused}
use Rattle.input.proofs.Numbered.{judged-refused, judged-numbered, prepared-start}
use Rattle.std.proofs.lemmas.Result.{err_from_is_err_and}
use Rattle.input.proofs.judge.Goals as goal

pub level1-requires : goal.level1-requires
level1-requires c = judge-few _ _ c.check_numbered.ensures.value c.in_ok-check_numbered.was

pub enter_names-requires : goal.enter_names-requires
enter_names-requires c =
    let named = c.check_numbered.ensures.named c.in_ok-check_numbered.was in record { dictionary = (named.right, omega (arith, named.few, judge-few _ _ c.check_numbered.ensures.value c.in_ok-check_numbered.was)); by_index = (c.requires.blank.unplaced, (c.requires.blank.enough.each 0 zero-le zero-le).1) }

pub returns : goal.returns
returns c =
    let all = judged-numbered c.args.table.now c.args.pool.now _ _ _
    (prepared-start c.args.notes.now (none-refused _ _ c.check_numbered.ensures.value c.in_ok-check_numbered.was (c.level1.ensures c.args.pool.now) c.in_ok-level1.was) (c.check_numbered.ensures.named c.in_ok-check_numbered.was) c.requires.blank.unnoted c.check_numbered.ensures.by_index c.enter_names.ensures) in record { by_index = all.0; pool_value = all.1 }

pub returns-in_err-level1 : goal.returns-in_err-level1
returns-in_err-level1 c =
    let p = err_from_is_err_and c.from_residual-in_err-level1.result c.from_residual-in_err-level1.ensures.1 in
    rw (p.1, p.2)
    (let all = judged-refused c.args.table.now c.args.pool.now _ _ _
    (level1-refused _ _ c.check_numbered.ensures.value c.in_ok-check_numbered.was (c.level1.ensures c.args.pool.now) _ c.in_err-level1.was) in record { by_index = all.0; pool_value = all.1 })

pub returns-in_err-check_numbered : goal.returns-in_err-check_numbered
returns-in_err-check_numbered c =
    let p = err_from_is_err_and c.from_residual.result c.from_residual.ensures.1 in
    rw (p.1, p.2)
    (let all = judged-refused c.args.table.now c.args.pool.now _ _ _ (check-refused _ _ c.check_numbered.ensures.value _ c.in_err-check_numbered.was) in record { by_index = all.0; pool_value = all.1 })
