-- `same_few` meets its contract.
use Prim.Native.Nat.{◌-◌}
use mathlib.Core.Path.{sym, ◌∙◌}
use native.Mathlib.Omega.{arith}
use lib.ListN.{length}
use Rattle.short_strings.proofs.Bytes.{equal-end, equal-group, differ-group}
use Rattle.short_values.proofs.Groups.{overlap}
use Rattle.short_values.proofs.same_few.Goals as goal

pub returns-then-not-same_four : goal.returns-then-not-same_four
returns-then-not-same_four c =
    let a = c.args.a.now in
    differ-group a c.args.b.now 4 (length a - 4) (sym c.same_four.ensures ∙ c.if-not-same_four.true)

pub returns : goal.returns
returns c =
    let a = c.args.a.now in
    let b = c.args.b.now in
    overlap a b 4 (length a - 4) (omega arith) (equal-group a b 4 (length a) (omega arith) (equal-end a b c.requires.0) (sym c.same_four.ensures ∙ c.if-not-same_four.false)) c.same_four-2.ensures
