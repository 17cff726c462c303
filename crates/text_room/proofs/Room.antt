-- Laws of specs/Room.antt: a text that was put fits, or not.
-- Assumes nothing.
use Rattle.std.specs.Prelude.{Result, Ok}
use Prim.Native.Nat.{ℕ, ◌-◌, ◌≤◌, ◌<◌}
use mathlib.Core.Path.{◌≡◌, refl, sym, ap, ◌∙◌}
use mathlib.Core.List.{List, ◌++◌}
use native.Mathlib.Omega.{arith}
use native.Mathlib.Nat.{zero-add}
use borrow.Author.Tests.{ltb-true, ltb-false}
use lib.Dec.{ltb}
use lib.ListN.{length, take, replicate}
use Rattle.rules.specs.Outputs.{padded}
use Rattle.rules.specs.declared.Refusal.{Refusal}
use Rattle.rules.proofs.Lists.{by_cases}
use Rattle.buffers.specs.Writes.{cleared, Put}
use Rattle.bundles.specs.Operations.{WriteOutcome, write_refused, write_done}
use Rattle.text_room.specs.Room.{fitted, completed}

-- What a call answers and leaves is an outcome.
abbrev pub Leaves : WriteOutcome → Result ℕ Refusal → List ℕ → Type 0
Leaves outcome answer out = (answer ≡ outcome.answer) × (out ≡ outcome.bytes)

-- A text that was put at the start of an output, by where it ends.
module _ (out₀ text : List ℕ) (end : ℕ) (out : List ℕ) (put : Put out₀ 0 text end out) where
  text-fits : end ≤ length out → {out' : List ℕ} → out' ≡ cleared out end → Leaves (fitted (length out₀) text) (Ok end) out'
  unfolding fitted write_done padded
  text-fits h is =
      by_cases (ltb (length out₀) (length text))
      (λ t. let past = put.past (omega (arith, ltb-true (length out₀) (length text) t)) in absurd (omega (arith, past, put.size)))
      (λ t.
      let within = put.fits (omega (arith, ltb-false (length out₀) (length text) t)) in
      let size : end ≡ length text = within.0 ∙ zero-add (length text) in
      let front : take (length text) out ≡ text = ap (λ k. take k out) (sym size) ∙ within.1 in
      rw t (ap Ok size, is ∙ rw (size, put.size) (ap (λ l. l ++ replicate (length out₀ - length text) 0) front)))

  text-past : length out < end → {answer : Result ℕ Refusal} {out' : List ℕ} → Leaves (write_refused (length out) Refusal.TextRoom) answer out' → Leaves (fitted (length out₀) text) answer out'
  unfolding fitted
  text-past h left =
      by_cases (ltb (length out₀) (length text))
      (λ t. rw (t, ← put.size) left)
      (λ t.
      let within = put.fits (omega (arith, ltb-false (length out₀) (length text) t)) in
      let short = ltb-false (length out₀) (length text) t in
      absurd (omega (arith, within.0, put.size, short)))

-- An output that is completed.
module _ (out : List ℕ) (end : ℕ) where
  pub completed-past : length out < end → {answer : Result ℕ Refusal} {out' : List ℕ} → Leaves (write_refused (length out) Refusal.TextRoom) answer out' → Leaves (completed out end) answer out'
  unfolding completed
  completed-past h left = by_cases (ltb (length out) end) (λ t. rw t left) (λ t. let within = ltb-false (length out) end t in absurd (omega arith))

  pub completed-within : end ≤ length out → {out' : List ℕ} → out' ≡ cleared out end → Leaves (completed out end) (Ok end) out'
  unfolding completed
  completed-within h is = by_cases (ltb (length out) end) (λ t. let past = ltb-true (length out) end t in absurd (omega arith)) (λ t. rw t (refl, is))

  -- It holds the text that was put, or 22 is answered.
  pub completed-fitted : (out₀ text : List ℕ) → Put out₀ 0 text end out → {answer : Result ℕ Refusal} {out' : List ℕ} → Leaves (completed out end) answer out' → Leaves (fitted (length out₀) text) answer out'
  unfolding completed
  completed-fitted out₀ text put left =
      by_cases (ltb (length out) end)
      (λ t. text-past out₀ text end out put (ltb-true (length out) end t) (rw t at left))
      (λ t.
      let done : Leaves (record { answer = Ok end; bytes = cleared out end }) _ _ = rw t at left in
      let fits = text-fits out₀ text end out put (ltb-false (length out) end t) done.1 in
      (done.0 ∙ fits.0, fits.1))
