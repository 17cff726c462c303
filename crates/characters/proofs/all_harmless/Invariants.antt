-- `characters::all_harmless` meets its contract. The invariant: the bytes seen and the bytes that are left decide.
use mathlib.Core.Path.{◌≡◌}
use mathlib.Core.Bool.{◌&&◌}
use lib.ListN.{drop}
use Rattle.rules.specs.Lists.{all_of}
use Rattle.characters.specs.Characters.{is_harmless}
use Rattle.characters.proofs.all_harmless.Given as goal

abbrev pub invariant-loop-b : goal.invariant-loop-b
invariant-loop-b l = (l.all && all_of is_harmless (drop l.b-index l.value)) ≡ all_of is_harmless l.value
