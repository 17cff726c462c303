-- `declaring::append_own` meets its contract.
use native.Mathlib.Omega.{arith}
use Rattle.changes.proofs.Writes.{count-part}
use Rattle.working.proofs.Own.{element-small, element-rows, leaves, append-room, append-table, links, append-enters, append-done, append-full}
use Rattle.declaring.proofs.append_own.Goals as goal

pub returns-then-limit-rows : goal.returns-then-limit-rows
returns-then-limit-rows c = λ names h. append-full h.at c.if-limit-rows.true

pub position_of-position-requires : goal.position_of-position-requires
position_of-position-requires c = omega (arith, element-small c.requires.1.at)

pub slice_bounds-leave-end-2 : goal.slice_bounds-leave-end-2
slice_bounds-leave-end-2 c = count-part _ _ (element-rows c.requires.1.at).2

pub leave-requires : goal.leave-requires
leave-requires c =
    let all = leaves c.requires.1.at c.position_of-position.ensures in record { ready = all.0; position_nonzero = all.1.0; standing = all.1.1 }

pub write_declaration-requires : goal.write_declaration-requires
write_declaration-requires c =
    let h = c.requires.1.at in let all = append-room h c.if-limit-rows.false in record { row_lt_rows = all.0; rows_in_bounds = all.1 }

pub slice_bounds-words-end : goal.slice_bounds-words-end
slice_bounds-words-end c =
    let h = c.requires.1.at in
    rw c.write_declaration.auto.table (append-table h c.if-limit-rows.false)

pub slice_bounds-words-end-2 : goal.slice_bounds-words-end-2
slice_bounds-words-end-2 c =
    count-part _ _ (let h = c.requires.1.at in rw c.write_declaration.auto.table (append-table h c.if-limit-rows.false))

pub overflow_cast-rows : goal.overflow_cast-rows
overflow_cast-rows c =
    let h = c.requires.1.at in
    record { fits = omega (arith, h.good.lent.room.limit_small, c.if-limit-rows.false) }

pub link-requires : goal.link-requires
link-requires c =
    let h = c.requires.1.at in let all = links h c.position_of-position.ensures c.leave.auto.tops c.leave.auto.path c.leave.ensures.untouched c.leave.ensures.standing_2 c.if-limit-rows.false c.write_declaration.ensures.table_after c.write_declaration.ensures.notes_after in record { table_bound = all.0; linked = all.1 }

pub enter-requires : goal.enter-requires
enter-requires c =
    let h = c.requires.1.at in let all = append-enters h c.position_of-position.ensures c.leave.auto.tops c.leave.auto.path c.leave.ensures.untouched c.leave.ensures.standing_2 c.if-limit-rows.false c.write_declaration.ensures.table_after c.write_declaration.ensures.notes_after _ c.link.auto.notes c.link.ensures.linked_2 c.link.ensures.relinked in record { ready = all.0; position_nonzero = all.1.0; standing = all.1.1 }

pub overflow_add-result-2 : goal.overflow_add-result-2
overflow_add-result-2 c = record { fits = omega (arith, (element-rows c.requires.1.at).1) }

pub returns : goal.returns
returns c =
    λ names h.
    append-done h.at c.position_of-position.ensures c.leave.auto.tops c.leave.auto.path c.leave.ensures.untouched c.leave.ensures.standing_2 c.if-limit-rows.false c.write_declaration.ensures.table_after c.write_declaration.ensures.notes_after _ c.link.auto.notes c.link.ensures.linked_2 c.link.ensures.relinked
    c.enter.auto.tops c.enter.auto.path c.enter.ensures.untouched c.enter.ensures.standing_2
