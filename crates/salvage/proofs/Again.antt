-- What passes comes back as it is, and so does a result.
-- Assumes nothing.
use Rattle.std.specs.Prelude.{Ok}
use Prim.Native.Nat.{ℕ, ◌-◌, ◌/◌, ◌%◌, ◌≤◌, ◌<◌}
use mathlib.Core.Path.{◌≡◌, refl, sym, ◌∙◌}
use mathlib.Core.Bool.{false}
use mathlib.Core.List.{List, [], ◌∷◌, ◌++◌}
use mathlib.Core.Option.{Option, none}
use native.Mathlib.Nat.{le_refl}
use native.Mathlib.Omega.{arith}
use lib.ListN.{length, replicate}
use borrow.Author.Tests.{le-ltb}
use Rattle.rules.specs.Table.{WIDTH, nodes, words, row_count}
use Rattle.rules.specs.Answers.{salvaged_rows}
use Rattle.rules.specs.Refusals.{refused_if, first_refusal, lowest_refusal, bad_size, faults, conflicts, row_refusal, check_refusal, checked}
use Rattle.rules.specs.Outputs.{padded}
use Rattle.rules.specs.declared.Refusal.{Refusal}
use Rattle.rules.proofs.Table.{length-nodes, length-words}
use Rattle.rules.proofs.Refusals.{not-refused, all_none, first-append, verdict-accepted, lowest-none, none-lowest}
use Rattle.rules.proofs.Accepted.{unrefused, parent-falls}
use Rattle.buffers.proofs.Rows.{words-of-rows}
use Rattle.salvage.specs.Salvage.{ENTRY, salvaged_nodes, drops, listed, fault_refusal, too_short, salvaged}
use Rattle.salvage.specs.Demands.{PassedUnchanged, SalvagedAgain}
use Rattle.salvage.proofs.Unchanged.{rows_stay, nothing-dropped, accepted-kept}
use Rattle.salvage.proofs.Result.{success, salvage-fits, salvages, result_words, passes}

-- A table that passes has no fault.
accepted-faultless : (table pool : List ℕ) → check_refusal table pool ≡ none → fault_refusal table pool ≡ none
unfolding check_refusal fault_refusal row_refusal
accepted-faultless table pool e =
    let row : ℕ → Option Refusal = row_refusal (nodes table pool) (length pool) in
    let a = all_none (refused_if (bad_size table pool) Refusal.Size ∷ lowest_refusal row (row_count table) ∷ []) e in
    let each : (r : ℕ) → r < row_count table → first_refusal (faults (nodes table pool) (length pool) r) ≡ none =
    λ r i.
    let here : first_refusal (faults (nodes table pool) (length pool) r ++ conflicts (nodes table pool) r) ≡ none = lowest-none row (row_count table) a.1.0 r i in
    (all_none (first_refusal (faults (nodes table pool) (length pool) r) ∷ first_refusal (conflicts (nodes table pool) r) ∷ [])
    (sym (first-append (faults (nodes table pool) (length pool) r) (conflicts (nodes table pool) r)) ∙ here)).0
    in
    rw (not-refused (bad_size table pool) Refusal.Size a.0, none-lowest (λ (r : ℕ). first_refusal (faults (nodes table pool) (length pool) r)) (row_count table) each) refl

-- A table whose rows stay, and of which none is dropped.
module _ (table pool : List ℕ) (table_size list_size : ℕ) (stay : salvaged_nodes (nodes table pool) ≡ nodes table pool) (nothing : drops (nodes table pool) ≡ []) where
  pub unchanged-room : row_count table ≤ table_size / WIDTH → too_short table_size list_size (nodes table pool) ≡ false
  unfolding too_short
  unchanged-room room =
      let long : length (nodes table pool) ≤ table_size / WIDTH = rw length-nodes room in
      rw (stay, nothing, le-ltb (table_size / WIDTH) (length (nodes table pool)) long) (le-ltb (list_size / ENTRY) 0 (omega arith))

  pub unchanged : length table % WIDTH ≡ 0 → success table pool table_size list_size ≡ record { answer = Ok (record { rows = row_count table; dropped = 0 }); table = padded table_size table; list = replicate list_size 0 }
  unfolding listed padded
  unchanged whole =
      let zero : list_size - 0 ≡ list_size = omega arith in
      rw (stay, nothing, words-of-rows table pool whole, length-nodes table pool, zero) refl

pub passed-unchanged : PassedUnchanged
unfolding checked drops
passed-unchanged table pool table_size list_size c room =
    let e = verdict-accepted (check_refusal table pool) c in
    let a = unrefused table pool e in
    let ns = nodes table pool in
    let all = accepted-kept table pool a in
    let stay = rows_stay ns all (λ r i. parent-falls ns (length pool) r (a.row r i)) in
    let nothing : drops ns ≡ [] = nothing-dropped ns all (length ns) (le_refl (length ns)) in
    salvage-fits table pool table_size list_size (accepted-faultless table pool e) (unchanged-room table pool table_size list_size stay nothing room)
    ∙ unchanged table pool table_size list_size stay nothing a.size.whole

pub salvaged-again : SalvagedAgain
unfolding salvaged_rows checked
salvaged-again table pool table_size list_size t table_size' list_size' room =
    let s = salvages table pool table_size list_size t in
    let rows = salvaged_nodes (nodes table pool) in
    let count : row_count (words rows) ≡ length rows = rw length-words (omega arith) in
    let done : salvaged_rows (salvaged table pool table_size list_size).answer ≡ length rows = rw s.1 refl in
    let accepted : checked (words rows) pool ≡ (Ok tt) = rw (passes table pool s.0) refl in
    let again = passed-unchanged (words rows) pool table_size' list_size' accepted (rw count (rw done at room)) in
    rw (result_words table pool table_size list_size t, done) (again ∙ rw count refl)
