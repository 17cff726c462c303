-- What a row number stands for.
-- Assumes nothing.
use Prim.Native.Nat.{ℕ, ◌≤◌, ◌<◌}
use mathlib.Core.Bool.{cond}
use mathlib.Core.List.{List}
use mathlib.Core.Option.{none, some}
use mathlib.Core.Path.{◌≡◌, ap, ◌∙◌}
use lib.ListN.{length}
use borrow.Author.Tests.{lt-ltb, le-ltb}
use Rattle.rules.specs.Table.{nodes, node, node_at, row_count}
use Rattle.rules.proofs.Table.{node-nodes, length-nodes}
use Rattle.rows.specs.Reading.{found}

module _ (table pool : List ℕ) (r : ℕ) where
  pub found_some : r < row_count table → found (nodes table pool) r ≡ some (node_at table pool r)
  unfolding found
  found_some within =
      let inside : r < length (nodes table pool) = rw length-nodes within in
      ap (λ t. cond t (some (node (nodes table pool) r)) none) (lt-ltb r (length (nodes table pool)) inside)
      ∙ ap some (node-nodes table pool r within)

  pub found_none : row_count table ≤ r → found (nodes table pool) r ≡ none
  unfolding found
  found_none past =
      let outside : length (nodes table pool) ≤ r = rw length-nodes past in
      ap (λ t. cond t (some (node (nodes table pool) r)) none) (le-ltb r (length (nodes table pool)) outside)
