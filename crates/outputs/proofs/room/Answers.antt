-- `outputs::room` meets its contract.
use mathlib.Core.Path.{sym}
use Rattle.outputs.proofs.Ended.{no_row_room, no-byte-room, room-enough}
use Rattle.outputs.proofs.room.Goals as goal

pub returns-then-over_rows : goal.returns-then-over_rows
returns-then-over_rows c = sym (no_row_room _ _ _ _ (cc))

pub returns-then-over_bytes : goal.returns-then-over_bytes
returns-then-over_bytes c = sym (no-byte-room _ _ _ _ (cc) (cc))

pub returns : goal.returns
returns c = sym (room-enough _ _ _ _ (cc) (cc))
