-- What a number that is asked for stands for.
use Rattle.std.specs.Prelude.{ℕ, ◌*◌, ◌≤◌, List, ◌≡◌, eqb, Ok}
use Rattle.rules.specs.Lists.{same_bytes}
use Rattle.rules.specs.Table.{row_count}
use Rattle.rules.specs.Refusals.{checked}
use Rattle.numbers.specs.Numbers.{Names}
use Rattle.numbers.specs.Noted.{Numbered}

-- The check accepts the table, the names of its rows have their numbers, at most three for each row, and those of them that are equal to this number are the
-- names that have these bytes.
pub record Meant (table pool notes : List ℕ) (number : ℕ) (name : List ℕ) : Type 0 where
  pub accepted : checked table pool ≡ Ok tt
  pub spelling : ℕ → List ℕ
  pub last : ℕ
  pub few : last ≤ 3 * row_count table
  pub numbered : Numbered table pool notes spelling last (row_count table)
  pub asked : (n : ℕ) (bytes : List ℕ) → Names spelling last n bytes → eqb n number ≡ same_bytes bytes name
