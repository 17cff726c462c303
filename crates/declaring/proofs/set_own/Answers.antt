-- `declaring::set_own` meets its contract.
use native.Mathlib.Omega.{arith}
use Rattle.changes.proofs.Writes.{count-part}
use Rattle.working.proofs.Own.{element-small, element-rows, leaves, set-enters, set-done, valued-attributes}
use Rattle.declaring.proofs.set_own.Goals as goal

pub position_of-position-requires : goal.position_of-position-requires
position_of-position-requires c = omega (arith, element-small c.requires.at)

pub slice_bounds-leave-end-2 : goal.slice_bounds-leave-end-2
slice_bounds-leave-end-2 c = count-part _ _ (element-rows c.requires.at).2

pub leave-requires : goal.leave-requires
leave-requires c =
    let all = leaves c.requires.at c.position_of-position.ensures in record { ready = all.0; position_nonzero = all.1.0; standing = all.1.1 }

pub set_value-requires : goal.set_value-requires
set_value-requires c =
    let r = element-rows c.requires.at in record { element_lt_rows = (r.0, c.requires.within, r.1); rows_in_bounds = (r.2, r.3) }

pub overflow_mul-rows-2 : goal.overflow_mul-rows-2
overflow_mul-rows-2 c = record { fits = omega (arith, (element-rows c.requires.at).1) }

pub slice_bounds-enter-end : goal.slice_bounds-enter-end
slice_bounds-enter-end c = rw c.set_value.auto.table (element-rows c.requires.at).2

pub slice_bounds-enter-end-2 : goal.slice_bounds-enter-end-2
slice_bounds-enter-end-2 c = count-part _ _ (rw c.set_value.auto.table (element-rows c.requires.at).2)

pub enter-requires : goal.enter-requires
enter-requires c =
    let all = set-enters c.requires.at c.position_of-position.ensures c.leave.auto.tops c.leave.auto.path c.leave.ensures.untouched c.leave.ensures.standing_2 _ c.requires.within c.requires.kind c.requires.owner c.set_value.ensures.table_after c.set_value.ensures.notes_after in record { ready = all.0; position_nonzero = all.1.0; standing = all.1.1 }

pub returns : goal.returns
returns c =
    record {
      good = λ h. set-done h.at c.position_of-position.ensures c.leave.auto.tops c.leave.auto.path c.leave.ensures.untouched c.leave.ensures.standing_2 _ h.within h.kind h.owner c.set_value.ensures.table_after c.set_value.ensures.notes_after
          c.enter.auto.tops c.enter.auto.path c.enter.ensures.untouched c.enter.ensures.standing_2;
      same_attributes = valued-attributes _ _ _ _ c.set_value.ensures.notes_after;
    }
