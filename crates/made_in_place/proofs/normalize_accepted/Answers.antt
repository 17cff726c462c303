-- `made_in_place::normalize_accepted` meets its contract.
use Rattle.normal_form.proofs.Outcome.{result-made, result-refused}
use Rattle.made_in_place.proofs.Room.{ready}
use Rattle.std.proofs.lemmas.Result.{err_from_is_err_and}
use Rattle.made_in_place.proofs.normalize_accepted.Goals as goal

pub make_result-made-requires : goal.make_result-made-requires
make_result-made-requires c = ready c.requires.room_for c.requires.enough c.requires.topped c.requires.prepared

pub returns : goal.returns
returns c = result-made c.requires.prepared.input c.make_result-made.ensures c.room.ensures c.in_ok-room.was

pub returns-in_err-room : goal.returns-in_err-room
returns-in_err-room c =
    let p = err_from_is_err_and c.from_residual.result c.from_residual.ensures.1 in
    rw (p.1, p.2)
    (result-refused c.requires.prepared.input c.make_result-made.ensures c.room.ensures _ c.in_err-room.was)
