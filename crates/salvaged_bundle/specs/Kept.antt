-- What salvage left in a table and a list.
use Rattle.std.specs.Prelude.{ℕ, ◌/◌, ◌≤◌, ◌≡◌, List, length, Result}
use Rattle.rules.specs.Table.{WIDTH, MOST_ROWS, row_count}
use Rattle.salvage.specs.Salvage.{salvaged}
use Rattle.rules.specs.declared.Refusal.{Refusal}
use Rattle.rules.specs.declared.Salvaged.{Salvaged}

-- It was that of a table, of which every row had room.
pub record Kept (answer : Result Salvaged Refusal) (kept pool list table : List ℕ) : Type 0 where
  pub few : row_count table ≤ MOST_ROWS
  pub room : row_count table ≤ length kept / WIDTH
  pub given : answer ≡ (salvaged table pool (length kept) (length list)).answer
  pub rows : kept ≡ (salvaged table pool (length kept) (length list)).table
  pub entries : list ≡ (salvaged table pool (length kept) (length list)).list

pub record SomeKept (answer : Result Salvaged Refusal) (kept pool list : List ℕ) : Type 0 where
  pub table : List ℕ
  pub that : Kept answer kept pool list table
