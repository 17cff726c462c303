-- What a normalization's buffers hold, and what is written from them.
-- Assumes nothing.
use Rattle.std.specs.Prelude.{Result, Ok, Err}
use Prim.Native.Nat.{ℕ, ◌*◌, ◌≤◌}
use mathlib.Core.Path.{◌≡◌, refl, sym, ap, ◌∙◌, subst}
use mathlib.Core.Bool.{true, false, true≢false}
use mathlib.Core.List.{List}
use mathlib.Core.Option.{Option, none, some}
use native.Mathlib.Omega.{arith}
use lib.ListN.{length, take}
use lib.Seq.{length-take-le}
use Rattle.rules.specs.Table.{WIDTH, MOST_ROWS, MOST_BYTES, nodes, words}
use Rattle.rules.specs.Refusals.{unless_refused}
use Rattle.rules.specs.Outputs.{Outcome, refusal}
use Rattle.rules.specs.Normalization.{State, normal_form, success, normalization_refusal, normalized}
use Rattle.rules.specs.declared.Refusal.{Refusal}
use Rattle.rules.proofs.Accepted.{Sized}
use Rattle.rules.proofs.Table.{length-words}
use Rattle.normal_form.specs.Result.{Holds}
use Rattle.bundles.specs.Bundles.{write_bundle}
use Rattle.bundles.specs.Operations.{write_refused, bundle_written, state_bundle, normalized_into}
use Rattle.bundles.proofs.Demand3.{few-rows, few_bytes}
use Rattle.bundle_encoding.proofs.Checked.{Leaves}
use Rattle.rules.specs.declared.Filled.{Filled}

-- Normalizing a table.
module _ (table pool : List ℕ) where
  abbrev outcome : Outcome
  outcome = normalized table pool (WIDTH * MOST_ROWS) MOST_BYTES

  abbrev result : State
  result = normal_form (nodes table pool) pool

  refused-case : (o : Option Refusal) (x : Refusal) → Err x ≡ (unless_refused o (refusal (WIDTH * MOST_ROWS) MOST_BYTES) (success (WIDTH * MOST_ROWS) MOST_BYTES result)).answer → o ≡ some x
  unfolding refusal success
  refused-case none x e = cc
  refused-case (some y) x e = cc

  pub normalized-refused : (size : ℕ) {given : Result Filled Refusal} → given ≡ outcome.answer → (x : Refusal) → given ≡ Err x → {answer : Result ℕ Refusal} {out : List ℕ} → Leaves (write_refused size x) answer out → Leaves (normalized_into table pool size) answer out
  unfolding normalized normalized_into bundle_written
  normalized-refused size is x e left = rw (refused-case (normalization_refusal table pool (WIDTH * MOST_ROWS) MOST_BYTES) x (sym e ∙ is)) left

  done-case : (o : Option Refusal) (rows bytes : ℕ) → Ok (record { rows = rows; bytes = bytes }) ≡ (unless_refused o (refusal (WIDTH * MOST_ROWS) MOST_BYTES) (success (WIDTH * MOST_ROWS) MOST_BYTES result)).answer → o ≡ none
  unfolding refusal success
  done-case none rows bytes e = refl
  done-case (some y) rows bytes e = absurd (let bad : true ≡ false = cc in true≢false bad)

  -- It is done, and its result stands in the buffers.
  module _ {given : Result Filled Refusal} (is : given ≡ outcome.answer) (rows bytes : ℕ) (e : given ≡ Ok (record { rows = rows; bytes = bytes })) {buffer work : List ℕ} (has : Holds buffer work rows bytes result) where
    unrefused-result : normalization_refusal table pool (WIDTH * MOST_ROWS) MOST_BYTES ≡ none
    unfolding normalized
    unrefused-result = done-case (normalization_refusal table pool (WIDTH * MOST_ROWS) MOST_BYTES) rows bytes (sym e ∙ is)

    pub sized-result : Sized (take (WIDTH * rows) buffer) (take bytes work)
    sized-result =
        let long = ap length has.words ∙ length-words result.rows in
        let few = few-rows table pool unrefused-result in
        record {
          whole = omega arith;
          table_bound = omega arith;
          pool_bound = rw has.held (few_bytes table pool unrefused-result);
        }

    pub rows_few : rows ≤ MOST_ROWS
    rows_few =
        let long = ap length has.words ∙ length-words result.rows in
        let part = length-take-le (WIDTH * rows) buffer has.table_room in
        let few = few-rows table pool unrefused-result in
        omega arith

    pub normalized-done : (size : ℕ) {answer : Result ℕ Refusal} {out : List ℕ} → Leaves (bundle_written none size (write_bundle (take (WIDTH * rows) buffer) (take bytes work))) answer out → Leaves (normalized_into table pool size) answer out
    unfolding normalized_into state_bundle
    normalized-done size {answer} {out} left =
        rw unrefused-result
        (subst (λ (bundle : List ℕ). Leaves (bundle_written none size bundle) answer out)
        (ap (λ (t : List ℕ). write_bundle t (take bytes work)) has.words ∙ ap (write_bundle (words result.rows)) has.held) left)
