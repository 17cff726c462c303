-- A table that draws no refusal where one of its elements is written.
use Rattle.std.specs.Prelude.{ℕ, ◌<◌, ◌≡◌, true, List}
use Rattle.std.proofs.Math.Option.{none, some}
use Rattle.rules.specs.Table.{nodes, node, row_count, is_element}
use Rattle.rules.specs.Normalization.{level1_refusal}
use Rattle.markup.specs.Writing.{subtree_refusal}

-- No row draws 9, and the subtree of row e, if that is an element, none of 20 to 24 but 22.
pub record Unrefused (table pool : List ℕ) (e : ℕ) : Type 0 where
  pub within : e < row_count table
  pub level2 : level1_refusal (nodes table pool) ≡ none
  pub subtree : (start : ℕ) → is_element (node (nodes table pool) e).type ≡ true → subtree_refusal (nodes table pool) start (some e) ≡ none
