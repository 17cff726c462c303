-- `element_text::write_marked` meets its contract.
use Rattle.text_room.proofs.Room.{completed-fitted}
use Rattle.element_text.specs.Elements.{element_text}
use Rattle.element_text.proofs.write_marked.Goals as goal

pub returns : goal.returns
unfolding element_text
returns c =
    let all = completed-fitted c.put_element-end.new.out c.put_element-end.result c.args.out.now (element_text c.args.table.now c.args.pool.now c.args.row.0) c.put_element-end.ensures (c.complete.ensures.value, c.complete.ensures.out_after) in record { value = all.0; out_after = all.1 }
