-- What writing leaves, from what it is refused for and from the text of the element.
-- Assumes nothing.
use Rattle.std.specs.Prelude.{Result}
use Prim.Native.Nat.{ℕ}
use mathlib.Core.Path.{◌≡◌}
use mathlib.Core.List.{List}
use mathlib.Core.Option.{some}
use Rattle.rules.specs.declared.Refusal.{Refusal}
use Rattle.bundles.specs.Operations.{write_refused}
use Rattle.markup.specs.Writing.{text_refusal, text_written}
use Rattle.text_room.specs.Room.{fitted}
use Rattle.element_text.specs.Elements.{element_text}
use Rattle.text_room.proofs.Room.{Leaves}
use Rattle.text_refusals.specs.Judging.{Writes}

pub refused-written :
    (table pool : List ℕ) (start size : ℕ) (x : Refusal) → text_refusal table pool start size ≡ some x → {answer : Result ℕ Refusal} {out : List ℕ} → Leaves (write_refused size x) answer out
    → Leaves (text_written table pool start size) answer out
unfolding text_written
refused-written table pool start size x is left = rw is left

pub element-written : {table pool : List ℕ} {start e : ℕ} → Writes table pool start e → (size : ℕ) {answer : Result ℕ Refusal} {out : List ℕ} → Leaves (fitted size (element_text table pool e)) answer out → Leaves (text_written table pool start size) answer out
element-written writes size left = rw (writes.outcome size) left
