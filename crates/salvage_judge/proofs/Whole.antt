-- The whole: the size, the rows, and cleared fates.
-- Assumes nothing.
use Rattle.std.specs.Prelude.{Result, Ok, Err}
use Prim.Native.Nat.{ℕ, ◌-◌, ◌≤◌}
use mathlib.Core.Path.{◌≡◌, refl, sym, ap, ◌∙◌}
use mathlib.Core.Bool.{true, false}
use mathlib.Core.List.{List}
use mathlib.Core.Option.{Option, some, none-ne-some}
use lib.ListN.{length, replicate, length-map}
use Rattle.rules.specs.Table.{Node, row_count, nodes, node}
use Rattle.rules.specs.Refusals.{unless_refused, bad_size}
use Rattle.rules.specs.declared.Refusal.{Refusal}
use Rattle.rules.proofs.Table.{length-nodes}
use Rattle.rules.proofs.Refusals.{first_alone}
use Rattle.buffers.specs.Writes.{cleared}
use Rattle.dropped_rows.specs.Dropped.{kept, drops_below}
use Rattle.salvage.specs.Salvage.{new_parent, with_parent, salvaged_nodes, drops, fault_refusal}
use Rattle.fates.specs.Fates.{Fated}
use Rattle.salvage_outputs.specs.Decided.{decided, Decided}
use Rattle.fates.proofs.Laws.{fated-start}
use Rattle.row_checks.specs.Judging.{rows_fault, judged, Judged}
use Rattle.rules.specs.declared.Salvaged.{Salvaged}

-- Fates that are cleared, and those that are lent.
pub fated-cleared : (ns : List Node) (before : List ℕ) {fates : List ℕ} → fates ≡ cleared before 0 → Fated ns fates 0
fated-cleared ns before e = rw e (fated-start ns (length before - 0))

pub fated-lent : (ns : List Node) (fates : List ℕ) → fates ≡ replicate (length fates) 0 → Fated ns fates 0
fated-lent ns fates e = rw e (fated-start ns (length fates))

module _ (table pool : List ℕ) where
  -- 1
  pub decided-size : bad_size table pool ≡ true → (fates : List ℕ) → Decided table pool fates (Err Refusal.Size)
  unfolding decided fault_refusal
  decided-size e fates =
      let f : fault_refusal table pool ≡ some Refusal.Size = rw e refl in
      record { given = rw e refl; noted = λ n. absurd (none-ne-some Refusal.Size (sym n ∙ f)); fated = λ n. absurd (none-ne-some Refusal.Size (sym n ∙ f)) }

  -- The rows decide.
  rows-kept : length (kept (nodes table pool) (row_count table)) ≡ length (salvaged_nodes (nodes table pool))
  unfolding salvaged_nodes
  rows-kept =
      ap (λ (n : ℕ). length (kept (nodes table pool) n)) (sym (length-nodes table pool))
      ∙ sym (length-map (kept (nodes table pool) (length (nodes table pool))) (λ (r : ℕ). with_parent (new_parent (nodes table pool) (node (nodes table pool) r).parent) (node (nodes table pool) r)))

  rows_dropped : length (drops_below (nodes table pool) (row_count table)) ≡ length (drops (nodes table pool))
  unfolding drops
  rows_dropped = ap (λ (n : ℕ). length (drops_below (nodes table pool) n)) (sym (length-nodes table pool))

  fault-rows : bad_size table pool ≡ false → fault_refusal table pool ≡ rows_fault table pool
  unfolding fault_refusal
  fault-rows e = rw e (sym (first_alone (rows_fault table pool)))

  pub decided-rows : bad_size table pool ≡ false → {fates : List ℕ} {answer : Result Salvaged Refusal} → row_count table ≤ length fates → Judged table pool fates answer → Decided table pool fates answer
  unfolding decided judged
  decided-rows e room j =
      let f = fault-rows e in
      record {
        given =
            j.given
            ∙ ap (λ (o : Option Refusal). unless_refused o Err (Ok (record { rows = length (kept (nodes table pool) (row_count table)); dropped = length (drops_below (nodes table pool) (row_count table)) }))) (sym f)
            ∙ rw (rows-kept, rows_dropped) refl;
        noted = λ n. room;
        fated = λ n. j.fated (sym f ∙ n);
      }
