-- `bundle_text::write_xml` meets its contract.
use Rattle.bundle_text.proofs.write_xml.Goals as goal

pub returns-then-has_many_rows : goal.returns-then-has_many_rows
returns-then-has_many_rows c = record { value = c.write_any.ensures.value; out_after = c.write_any.ensures.out_after }

pub returns-then-has_long_pool : goal.returns-then-has_long_pool
returns-then-has_long_pool c =
    record { value = c.write_any-then-has_long_pool.ensures.value; out_after = c.write_any-then-has_long_pool.ensures.out_after }

pub write_few-requires : goal.write_few-requires
write_few-requires c = c.has_many_rows.ensures c.if-has_many_rows.false

pub returns : goal.returns
returns c = record { value = c.write_few.ensures.value; out_after = c.write_few.ensures.out_after }
