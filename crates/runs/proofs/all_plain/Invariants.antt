-- `runs::all_plain` meets its contract. The invariant: the bytes seen and the bytes that are left decide.
use mathlib.Core.Path.{◌≡◌}
use mathlib.Core.Bool.{Bool, ◌&&◌, not}
use lib.ListN.{drop}
use mir.Val.{bool_byte}
use Rattle.rules.specs.Lists.{all_of}
use Rattle.runs.specs.Runs.{is_plain}
use Rattle.runs.proofs.all_plain.Given as goal

abbrev pub invariant-loop-b : goal.invariant-loop-b
invariant-loop-b l = (all : Bool) × (l.seen ≡ bool_byte (not all)) × ((all && all_of (is_plain l.quoted) (drop l.b-index l.bytes)) ≡ all_of (is_plain l.quoted) l.bytes)
