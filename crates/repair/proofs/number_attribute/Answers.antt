-- `repair::number_attribute` meets its contract.
use native.Mathlib.Omega.{arith}
use Rattle.repair.proofs.Unserved.{number-search, number-room, number-writes, number-top, number-done}
use Rattle.repair.proofs.number_attribute.Goals as goal

pub least_unused-k-requires : goal.least_unused-k-requires
least_unused-k-requires c = number-search c.requires.at_unserved c.requires.rows_lt_limit.0 c.requires.rows_lt_limit.1

pub number_for-number-requires : goal.number_for-number-requires
number_for-number-requires c =
    number-room c.requires.at_unserved c.requires.rows_lt_limit.0 c.requires.rows_lt_limit.1 c.least_unused-k.ensures

pub take_numbered-bytes-requires : goal.take_numbered-bytes-requires
take_numbered-bytes-requires c =
    let all = number-writes c.requires.at_unserved c.requires.rows_lt_limit.0 c.requires.rows_lt_limit.1 c.least_unused-k.ensures in record { attribute_in_bounds = all.0; bytes_in_bounds = all.1 }

pub append_on_top-requires : goal.append_on_top-requires
append_on_top-requires c =
    number-top c.requires.at_unserved c.requires.rows_lt_limit.0 c.requires.rows_lt_limit.1 c.least_unused-k.ensures c.number_for-number.ensures.result_value c.number_for-number.ensures.path_after c.take_numbered-bytes.ensures

pub overflow_add-result : goal.overflow_add-result
overflow_add-result c =
    record { fits = omega (arith, c.requires.rows_lt_limit.0, c.requires.at_unserved.at.good.lent.room.limit_small) }

pub returns : goal.returns
returns c =
    λ h.
    number-done h c.requires.rows_lt_limit.0 c.requires.rows_lt_limit.1 c.least_unused-k.ensures c.number_for-number.ensures.result_value c.number_for-number.ensures.path_after c.take_numbered-bytes.ensures
    c.append_on_top.auto.tops c.max.ensures c.append_on_top.ensures.good c.append_on_top.ensures.same_attributes
