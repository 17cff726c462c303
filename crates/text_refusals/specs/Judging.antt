-- What writing from a row is refused for, whatever the output.
use Rattle.std.specs.Prelude.{ℕ, ◌<◌, ◌≡◌, List, Result, Ok, Err}
use Rattle.std.proofs.Math.Option.{none, some}
use Rattle.rules.specs.Table.{row_count}
use Rattle.rules.specs.Refusals.{check_refusal}
use Rattle.rules.specs.declared.Refusal.{Refusal}
use Rattle.rules.specs.declared.Row.{Row}
use Rattle.markup.specs.Writing.{text_refusal, text_written}
use Rattle.text_room.specs.Room.{fitted}
use Rattle.element_text.specs.Elements.{element_text}

-- Element e of an accepted table is written: its text, or 22.
pub record Writes (table pool : List ℕ) (start e : ℕ) : Type 0 where
  pub accepted : check_refusal table pool ≡ none
  pub within : e < row_count table
  pub outcome : (size : ℕ) → text_written table pool start size ≡ fitted size (element_text table pool e)

-- What is answered.
pub record WrittenFrom (table pool : List ℕ) (start : ℕ) (judged : Result Row Refusal) : Type 0 where
  pub element : (e : Row) → judged ≡ Ok e → Writes table pool start e.0
  pub refused : (x : Refusal) → judged ≡ Err x → (size : ℕ) → text_refusal table pool start size ≡ some x
