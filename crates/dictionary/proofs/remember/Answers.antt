-- `remember` meets its contract.
use mathlib.Core.Path.{refl}
use native.Mathlib.Omega.{arith}
use lib.ListN.{length-set}
use Rattle.dictionary.specs.Dictionary.{remembered}
use Rattle.dictionary.proofs.remember.Goals as goal

pub bounds-dictionary-slot-2 : goal.bounds-dictionary-slot-2
bounds-dictionary-slot-2 c = simp length-set (omega arith)

pub bounds-dictionary-slot-3 : goal.bounds-dictionary-slot-3
bounds-dictionary-slot-3 c = simp length-set (omega arith)

pub returns : goal.returns
unfolding remembered
returns c = refl
