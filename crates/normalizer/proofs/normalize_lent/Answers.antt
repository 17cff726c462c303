-- `normalizer::normalize_lent` meets its contract.
use Rattle.normal_form.proofs.Outcome.{input-refused}
use Rattle.normal_form.proofs.Start.{enough-kept}
use Rattle.normalizer.proofs.normalize_lent.Goals as goal

pub normalize_accepted-requires : goal.normalize_accepted-requires
normalize_accepted-requires c =
    record { enough = enough-kept c.requires.blank.enough c.judge.auto.notes c.judge.auto.path; topped = c.requires.topped; prepared = c.judge.ensures.by_index _ c.in-Ok.is }

pub returns-in-Err : goal.returns-in-Err
returns-in-Err c =
    let all = input-refused _ _ _ _ _ (c.judge.ensures.pool_value _ c.in-Err.is) (c.refuse.ensures.value, (c.refuse.ensures.out_table_after, c.refuse.ensures.out_pool_after)) in record { value = all.0; out_table_after = all.1.0; out_pool_after = all.1.1 }
