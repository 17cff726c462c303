-- `in_place::normalize_few` meets its contract.
use Rattle.table_size.specs.Small.{FEW_ROWS}
use Rattle.input.proofs.Numbered.{blank-small}
use Rattle.normal_form.proofs.Start.{topped-small}
use Rattle.in_place.proofs.Room.{numbering}
use Rattle.in_place.proofs.normalize_few.Goals as goal

pub normalize_lent-requires : goal.normalize_lent-requires
normalize_lent-requires c =
    let blank = blank-small c.args.rows c.requires.rows_bound in record { room_for = c.requires.room_for; blank = blank; numbering = numbering c.requires.room_for FEW_ROWS c.requires.rows_bound blank; topped = topped-small c.args.rows c.requires.rows_bound }
