-- `is_hard` meets its contract.
use Prim.Native.Nat.{ℕ}
use mathlib.Core.Path.{sym, ap}
use lib.Dec.{ltb}
use lib.Seq.{get_or-drop}
use Rattle.entries.specs.Entries.{HARD, MUCH}
use Rattle.dictionary.specs.Dictionary.{PLACES, entries_of}
use Rattle.dictionary.proofs.is_hard.Goals as goal

pub returns : goal.returns
unfolding entries_of
returns c = ap (λ (x : ℕ). ltb MUCH x) (sym (get_or-drop PLACES c.args.dictionary.now HARD 0))
