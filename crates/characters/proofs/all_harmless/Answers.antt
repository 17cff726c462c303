use Prim.Native.Nat.{◌+◌}
use mathlib.Core.Path.{sym, ◌∙◌, ap}
use mathlib.Core.Bool.{Bool, ◌&&◌}
use native.Mathlib.Omega.{arith}
use lib.ListN.{drop}
use Rattle.rules.specs.Lists.{all_of}
use Rattle.rules.proofs.Lists.{all-byte, all_end}
use Rattle.characters.specs.Characters.{is_harmless}
use Rattle.characters.proofs.all_harmless.Goals as goal

pub loop-b-preserved : goal.loop-b-preserved
loop-b-preserved c =
    let bytes = c.args.value.now in
    ap (λ (t : Bool). (c.loop-b.all && t) && all_of is_harmless (drop (c.loop-b.b-index + 1) bytes)) c.is_harmless-all.ensures
    ∙ all-byte is_harmless bytes c.loop-b.all c.loop-b.b-index (omega arith)
    ∙ c.loop-b.invariant

pub returns : goal.returns
returns c = sym (all_end is_harmless c.args.value.now c.loop-b.all c.loop-b.b-index (omega arith)) ∙ c.loop-b.invariant
