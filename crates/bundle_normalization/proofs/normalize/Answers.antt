-- `bundle_normalization::normalize` meets its contract.
use Rattle.bundle_normalization.proofs.normalize.Goals as goal

pub returns-then-has_many_rows : goal.returns-then-has_many_rows
returns-then-has_many_rows c = record { value = c.normalize_any.ensures.value; out_after = c.normalize_any.ensures.out_after }

pub returns-then-has_long_pool : goal.returns-then-has_long_pool
returns-then-has_long_pool c =
    record { value = c.normalize_any-then-has_long_pool.ensures.value; out_after = c.normalize_any-then-has_long_pool.ensures.out_after }

pub normalize_few-requires : goal.normalize_few-requires
normalize_few-requires c =
    record {
      few = c.has_many_rows.ensures c.if-has_many_rows.false;
      short = c.has_long_pool.ensures c.if-has_long_pool.false;
    }

pub returns : goal.returns
returns c = record { value = c.normalize_few.ensures.value; out_after = c.normalize_few.ensures.out_after }
