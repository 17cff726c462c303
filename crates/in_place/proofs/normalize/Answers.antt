-- `in_place::normalize` meets its contract.
use Rattle.rules.specs.Table.{MOST_ROWS}
use Rattle.input.proofs.Numbered.{blank-any}
use Rattle.normal_form.proofs.Start.{topped-any}
use Rattle.in_place.proofs.Room.{numbering}
use Rattle.in_place.proofs.normalize.Goals as goal

pub normalize_lent-requires : goal.normalize_lent-requires
normalize_lent-requires c =
    let blank = blank-any c.args.rows in record { room_for = c.requires; blank = blank; numbering = numbering c.requires MOST_ROWS c.requires.few blank; topped = topped-any c.args.rows }
