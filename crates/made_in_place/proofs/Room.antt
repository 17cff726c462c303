-- What a result is made from in place.
-- Assumes nothing.
use Prim.Native.Nat.{ℕ, ◌*◌}
use mathlib.Core.List.{List}
use native.Mathlib.Omega.{arith}
use lib.ListN.{take}
use Rattle.rules.specs.Table.{WIDTH, MOST_ROWS}
use Rattle.input.specs.Lent.{Enough, Prepared}
use Rattle.normal_form.specs.Result.{RoomFor}
use Rattle.normal_form.specs.Lent.{Topped, Ready}

module _ {words work : List ℕ} {rows bytes : ℕ} (room : RoomFor words work rows bytes) where
  -- What the result is made from.
  pub ready : {notes path tops : List ℕ} {names : ℕ} → Enough rows notes path → Topped rows tops → Prepared (take (WIDTH * rows) words) (take bytes work) notes path names → Ready words work notes path tops rows bytes names MOST_ROWS
  ready enough topped prepared =
      record {
        row_room = room.few;
        limit_small = omega arith;
        table_room = room.table_room;
        pool_room = room.pool_room;
        pool_small = room.pool_small;
        enough = enough;
        topped = topped;
        prepared = prepared;
      }
