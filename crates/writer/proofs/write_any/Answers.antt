-- `writer::write_any` meets its contract.
use Rattle.writer.proofs.Written.{refused-written, element-written}
use Rattle.writer.proofs.write_any.Goals as goal

pub write_any-requires : goal.write_any-requires
write_any-requires c =
    let writes = c.judge.ensures.element _ c.in-Ok.is in record { pool_value = writes.accepted; row_bound = writes.within }

pub returns-in-Ok : goal.returns-in-Ok
returns-in-Ok c =
    let all = element-written (c.judge.ensures.element _ c.in-Ok.is) _ (c.write_any.ensures.value, c.write_any.ensures.out_after) in record { value = all.0; out_after = all.1 }

pub returns-in-Err : goal.returns-in-Err
returns-in-Err c =
    let all = refused-written _ _ _ _ _ (c.judge.ensures.refused _ c.in-Err.is _) (c.refuse.ensures.value, c.refuse.ensures.out_after) in record { value = all.0; out_after = all.1 }
