-- `declaring::append_on_top` meets its contract.
use native.Mathlib.Omega.{arith}
use Rattle.changes.proofs.Writes.{count-part}
use Rattle.working.proofs.Declaring.{top-rows, top-room, top-table, top_small, top-declares, top-done, top-attributes}
use Rattle.declaring.proofs.append_on_top.Goals as goal

pub slice_bounds-parent-end-2 : goal.slice_bounds-parent-end-2
slice_bounds-parent-end-2 c = count-part _ _ (top-rows c.requires).0

pub parent-owner-requires : goal.parent-owner-requires
parent-owner-requires c = (top-rows c.requires).1

pub write_declaration-requires : goal.write_declaration-requires
write_declaration-requires c = let all = top-room c.requires in record { row_lt_rows = all.0; rows_in_bounds = all.1 }

pub slice_bounds-declare-end-2 : goal.slice_bounds-declare-end-2
slice_bounds-declare-end-2 c = count-part _ _ (rw c.write_declaration.auto.table (top-table c.requires))

pub position_of-requires : goal.position_of-requires
position_of-requires c = omega (arith, top_small c.requires _ c.parent-owner.ensures)

pub declare-requires : goal.declare-requires
declare-requires c =
    let all = top-declares c.requires _ c.parent-owner.ensures c.write_declaration.ensures.table_after c.write_declaration.ensures.notes_after c.position_of.ensures in record { room = all.0; declaring = all.1 }

pub returns : goal.returns
returns c =
    record { good = λ h. top-done h _ c.parent-owner.ensures c.write_declaration.ensures.table_after c.write_declaration.ensures.notes_after c.position_of.ensures c.declare.auto.notes c.declare.auto.tops c.declare.auto.path c.declare.ensures.untouched c.declare.ensures.ready c.declare.ensures.relinked c.declare.ensures.standing; same_attributes = top-attributes c.requires _ c.parent-owner.ensures c.write_declaration.ensures.table_after c.write_declaration.ensures.notes_after _ c.declare.ensures.relinked }
