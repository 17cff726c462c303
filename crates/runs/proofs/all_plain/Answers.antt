use Prim.Native.Nat.{ℕ, ◌+◌}
use mathlib.Core.Path.{refl, sym, ◌∙◌, ap}
use mathlib.Core.Bool.{Bool, true, ◌&&◌, not}
use native.Mathlib.Omega.{arith}
use lib.Bits.{bit_or}
use lib.Dec.{eqb}
use lib.ListN.{drop}
use mir.Val.{bool_byte}
use Rattle.rules.specs.Lists.{all_of}
use Rattle.rules.proofs.Lists.{all-byte, all_end}
use Rattle.runs.specs.Runs.{is_plain}
use Rattle.runs.proofs.Runs.{seen-or, seen_none}
use Rattle.runs.proofs.all_plain.Goals as goal

pub loop-b-init : goal.loop-b-init
loop-b-init c = (true, refl, refl)

pub loop-b-preserved : goal.loop-b-preserved
loop-b-preserved c =
    let bytes = c.args.bytes.now in (
      c.loop-b.invariant.0 && not c.is_escaped.result,
      ap (λ (n : ℕ). bit_or n (bool_byte c.is_escaped.result)) c.loop-b.invariant.1 ∙ seen-or c.loop-b.invariant.0 c.is_escaped.result,
      ap (λ (t : Bool). (c.loop-b.invariant.0 && not t) && all_of (is_plain c.args.quoted) (drop (c.loop-b.b-index + 1) bytes)) c.is_escaped.ensures
          ∙ all-byte (is_plain c.args.quoted) bytes c.loop-b.invariant.0 c.loop-b.b-index (omega arith) ∙ c.loop-b.invariant.2,
    )

pub returns : goal.returns
returns c =
    ap (λ (n : ℕ). eqb n 0) c.loop-b.invariant.1 ∙ seen_none c.loop-b.invariant.0
    ∙ sym (all_end (is_plain c.args.quoted) c.args.bytes.now c.loop-b.invariant.0 c.loop-b.b-index (omega arith)) ∙ c.loop-b.invariant.2
