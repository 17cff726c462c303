-- `characters::starts_forbidden` meets its contract.
use mathlib.Core.Path.{◌≡◌, sym, ◌∙◌}
use mathlib.Core.Bool.{false}
use native.Mathlib.Omega.{arith}
use lib.ListN.{get_or}
use Rattle.characters.specs.Characters.{is_control}
use Rattle.characters.proofs.Bytes.{starts-control, starts_other, starts-cut, starts-whole}
use Rattle.characters.proofs.starts_forbidden.Goals as goal

pub returns-then-is_control : goal.returns-then-is_control
returns-then-is_control c = sym (starts-control c.args.value.now c.args.i c.requires (sym c.is_control.ensures ∙ c.if-is_control.true))

pub returns-then-value-i : goal.returns-then-value-i
returns-then-value-i c =
    let fact : is_control (get_or c.args.value.now c.args.i 0) ≡ false = sym c.is_control.ensures ∙ c.if-is_control.false in
    sym (starts_other c.args.value.now c.args.i c.requires fact c.if-value-i.true)

pub returns-then-value-i-lt3 : goal.returns-then-value-i-lt3
returns-then-value-i-lt3 c =
    let fact : is_control (get_or c.args.value.now c.args.i 0) ≡ false = sym c.is_control.ensures ∙ c.if-is_control.false in
    sym (starts-cut c.args.value.now c.args.i c.requires fact (omega arith))

pub returns : goal.returns
returns c =
    let fact : is_control (get_or c.args.value.now c.args.i 0) ≡ false = sym c.is_control.ensures ∙ c.if-is_control.false in
    sym (starts-whole c.args.value.now c.args.i c.requires fact c.if-value-i.false (omega arith))
