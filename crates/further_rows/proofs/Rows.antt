-- Further rows.
-- Assumes nothing.
use Prim.Native.Nat.{ℕ, ◌≤◌, ◌<◌}
use mathlib.Core.Path.{◌≡◌, refl}
use mathlib.Core.Bool.{Bool, not}
use mathlib.Core.List.{List}
use borrow.Author.Tests.{le-leb, lt-leb}
use lib.Dec.{eqb}
use lib.ListN.{length}
use Rattle.rules.specs.Table.{TYPE, DECLARATION, nodes, word, row_count}
use Rattle.rules.specs.declared.Refusal.{Refusal}
use Rattle.rules.proofs.Table.{length-nodes, node-nodes}
use Rattle.proposals.specs.Proposals.{is_foreign}
use Rattle.proposals.proofs.Scans.{Scanning, scan-past}

-- A row of the table is one of its nodes.
pub row_inside : (table pool : List ℕ) {r : ℕ} → r < row_count table → r < length (nodes table pool)
row_inside table pool i = rw length-nodes i

-- The rows behind those of the original.
module _ (original pool proposal other : List ℕ) where
  abbrev foreign : ℕ → Bool
  foreign = is_foreign (nodes original pool) (nodes proposal other)

  pub further-start : Scanning foreign Refusal.Changed (length (nodes proposal other)) (row_count original)
  unfolding is_foreign
  further-start =
      scan-past foreign Refusal.Changed (length (nodes proposal other)) (row_count original)
      (λ r i. rw (length-nodes original pool, lt-leb (row_count original) r i) refl)

  pub foreign-told : (r : ℕ) → r < row_count proposal → row_count original ≤ r → {kind : ℕ} → kind ≡ word proposal r TYPE → not (eqb kind DECLARATION) ≡ foreign r
  unfolding is_foreign
  foreign-told r there past {kind} e = rw (length-nodes original pool, le-leb (row_count original) r past, node-nodes proposal other r there, e) refl
