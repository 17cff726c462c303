-- What writing a table answers and leaves, by what the check has drawn.
-- Assumes nothing.
use Rattle.std.specs.Prelude.{Result, Ok, Err, ⊤}
use Prim.Native.Nat.{ℕ}
use mathlib.Core.Path.{◌≡◌, sym, ◌∙◌}
use mathlib.Core.List.{List}
use mathlib.Core.Option.{none}
use Rattle.rules.specs.Refusals.{check_refusal, checked}
use Rattle.rules.specs.declared.Refusal.{Refusal}
use Rattle.rules.proofs.Refusals.{verdict-accepted, verdict-refused}
use Rattle.rules.proofs.Accepted.{Sized, unrefused}
use Rattle.bundles.specs.Bundles.{write_bundle}
use Rattle.bundles.specs.Operations.{WriteOutcome, write_refused, bundle_written, table_written}

-- What a call answers and leaves is an outcome.
abbrev pub Leaves : WriteOutcome → Result ℕ Refusal → List ℕ → Type 0
Leaves outcome answer out = (answer ≡ outcome.answer) × (out ≡ outcome.bytes)

-- Writing a table.
module _ (table pool : List ℕ) (size : ℕ) where
  pub sized-table : {drawn : Result ⊤ Refusal} → drawn ≡ checked table pool → drawn ≡ Ok tt → Sized table pool
  unfolding checked
  sized-table is e = (unrefused table pool (verdict-accepted (check_refusal table pool) (sym is ∙ e))).size

  pub table_done : {drawn : Result ⊤ Refusal} → drawn ≡ checked table pool → drawn ≡ Ok tt → {answer : Result ℕ Refusal} {out : List ℕ} → Leaves (bundle_written none size (write_bundle table pool)) answer out → Leaves (table_written table pool size) answer out
  unfolding checked table_written
  table_done is e given = rw (verdict-accepted (check_refusal table pool) (sym is ∙ e)) given

  pub table-refused : {drawn : Result ⊤ Refusal} → drawn ≡ checked table pool → (x : Refusal) → drawn ≡ Err x → {answer : Result ℕ Refusal} {out : List ℕ} → Leaves (write_refused size x) answer out → Leaves (table_written table pool size) answer out
  unfolding checked table_written bundle_written
  table-refused is x e given = rw (verdict-refused (check_refusal table pool) x (sym is ∙ e)) given
