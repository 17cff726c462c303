-- `bundle_encoding::write_checked` meets its contract.
use Rattle.bundle_encoding.proofs.Checked.{sized-table, table_done, table-refused}
use Rattle.bundle_encoding.proofs.write_checked.Goals as goal

pub write_bundle-requires : goal.write_bundle-requires
write_bundle-requires c = sized-table _ _ 0 c.requires c.in-Ok.is

pub returns-in-Ok : goal.returns-in-Ok
returns-in-Ok c =
    let all = table_done _ _ _ c.requires c.in-Ok.is (c.write_bundle.ensures.value, c.write_bundle.ensures.out_after) in record { value = all.0; out_after = all.1 }

pub returns-in-Err : goal.returns-in-Err
returns-in-Err c =
    let all = table-refused _ _ _ c.requires _ c.in-Err.is (c.refuse.ensures.value, c.refuse.ensures.out_after) in record { value = all.0; out_after = all.1 }
