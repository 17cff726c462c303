-- `utf8::step` meets its contract.
use Prim.Native.Nat.{ℕ}
use mathlib.Core.Path.{sym, ◌∙◌, ap}
use native.Mathlib.Nat.{add-sub_cancel_left}
use native.Mathlib.Omega.{arith}
use lib.ListN.{take, drop}
use Rattle.rules.specs.Lists.{all_of}
use Rattle.rules.specs.Utf8.{is_ascii}
use Rattle.utf8.proofs.Steps.{ascii-step}
use Rattle.utf8.proofs.step.Goals as goal

pub returns-then-bytes-i-ge128 : goal.returns-then-bytes-i-ge128
returns-then-bytes-i-ge128 c = c.sequence.ensures

pub returns-then-bytes-i-lt8 : goal.returns-then-bytes-i-lt8
returns-then-bytes-i-lt8 c = c.run.ensures

pub returns-then-bytes-i-ge128-2 : goal.returns-then-bytes-i-ge128-2
returns-then-bytes-i-ge128-2 c = c.run-then-bytes-i-ge128-2.ensures

pub returns-then-is_ascii : goal.returns-then-is_ascii
returns-then-is_ascii c =
    let bytes = c.args.bytes.now in
    let i = c.args.i in
    ascii-step bytes i 8 (omega arith) (omega arith)
    (ap (λ (n : ℕ). all_of is_ascii (take n (drop i bytes))) (sym (add-sub_cancel_left i 8)) ∙ sym c.is_ascii.ensures ∙ c.if-is_ascii.true)

pub returns : goal.returns
returns c = c.run-2.ensures
