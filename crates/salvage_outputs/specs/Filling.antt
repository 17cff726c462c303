-- What is known before the outputs are filled.
use Rattle.std.specs.Prelude.{ℕ, ◌*◌, ◌≤◌, ◌≡◌, List, length, Result}
use Rattle.rules.specs.Table.{WIDTH, row_count}
use Rattle.salvage.specs.Salvage.{ENTRY}
use Rattle.salvage_outputs.specs.Decided.{Decided}
use Rattle.kept_table.specs.Kept.{kept_words, Sorted}
use Rattle.dropped_list.specs.Dropped.{dropped_words}
use Rattle.rules.specs.declared.Refusal.{Refusal}
use Rattle.rules.specs.declared.Salvaged.{Salvaged}

-- The table was decided, with some pool.
pub record SomeDecided (table fates : List ℕ) (answer : Result Salvaged Refusal) : Type 0 where
  pub pool : List ℕ
  pub that : Decided table pool fates answer

-- So many rows are kept and so many dropped, for which there is room; if none is, the table stays as it is.
pub record Filling (table fates : List ℕ) (rows dropped table_size list_size : ℕ) : Type 0 where
  pub sorted : Sorted table fates
  pub words : length (kept_words table fates (row_count table)) ≡ WIDTH * rows
  pub entries : length (dropped_words fates (row_count table)) ≡ ENTRY * dropped
  pub table_room : WIDTH * rows ≤ table_size
  pub list_room : ENTRY * dropped ≤ list_size
  pub unchanged : dropped ≡ 0 → kept_words table fates (row_count table) ≡ table
