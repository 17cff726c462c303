-- What the writes of a bundle leave in the output.
-- Assumes nothing.
use Rattle.std.specs.Prelude.{Result, Ok}
use Prim.Native.Nat.{ℕ, ◌+◌, ◌-◌, ◌*◌, ◌/◌, ◌%◌, ◌≤◌, ◌<◌}
use mathlib.Core.Path.{◌≡◌, refl, sym, ap, ◌∙◌}
use mathlib.Core.List.{List, [], ◌∷◌, ◌++◌, append_assoc}
use mathlib.Core.Option.{none}
use native.Mathlib.Omega.{arith}
use lib.ListN.{length, take, drop, replicate, length-append}
use lib.Seq.{take-append_seam}
use borrow.Author.Tests.{lt-ltb, le-ltb}
use Rattle.rules.specs.Table.{row_count}
use Rattle.rules.specs.Outputs.{padded}
use Rattle.rules.specs.declared.Refusal.{Refusal}
use Rattle.buffers.specs.Writes.{written, cleared}
use Rattle.buffers.proofs.Writes.{written_behind, written-from-start, length-written}
use Rattle.little_endian.specs.Numbers.{word_bytes}
use Rattle.little_endian.proofs.Numbers.{length-word_bytes}
use Rattle.bundles.specs.Bundles.{HEADER, header_bytes, write_bundle}
use Rattle.bundles.specs.Operations.{write_refused, write_done, bundle_written}
use Rattle.bundles.proofs.Writing.{length-bundle}

-- The bytes before the rows, from their six numbers.
pub header-bytes :
    (rows bytes a b c d e f : ℕ) → a ≡ rows % 256 → b ≡ rows / 256 % 256
    → c ≡ bytes % 256 → d ≡ bytes / 256 % 256 → e ≡ bytes / 65536 % 256 → f ≡ bytes / 16777216 % 256
    → 78 ∷ 84 ∷ 66 ∷ 2 ∷ 0 ∷ 0 ∷ a ∷ b ∷ c ∷ d ∷ e ∷ f ∷ [] ≡ header_bytes rows bytes
header-bytes rows bytes a b c d e f first second third fourth fifth sixth =
    let fifth' : e ≡ bytes / 256 / 256 % 256 = omega arith in
    let sixth' : f ≡ bytes / 256 / 256 / 256 % 256 = omega arith in
    rw (first, second, third, fourth, fifth', sixth') refl

-- A buffer that starts with a list and is cleared behind it.
cleared-behind : (out l : List ℕ) → length l ≤ length out → cleared (written out 0 l) (length l) ≡ padded (length out) l
unfolding padded
cleared-behind out l h =
    let size = length-written out 0 l (omega arith) in
    ap (λ (n : ℕ). take (length l) (written out 0 l) ++ replicate (n - length l) 0) size
    ∙ ap (λ (b : List ℕ). take (length l) b ++ replicate (length out - length l) 0) (written-from-start out l)
    ∙ ap (λ (b : List ℕ). b ++ replicate (length out - length l) 0) (take-append_seam l (drop (length l) out))

-- The three writes, one behind the other, and the clearing.
module _ (out table pool : List ℕ) (fits : HEADER + 4 * length table + length pool ≤ length out) where
  pub bundle-left :
      (o₁ o₂ o₃ o₄ : List ℕ) → o₁ ≡ written out 0 (header_bytes (row_count table) (length pool)) → o₂ ≡ written o₁ HEADER (word_bytes table)
      → o₃ ≡ written o₂ (HEADER + 4 * length table) pool → o₄ ≡ cleared o₃ (HEADER + 4 * length table + length pool)
      → o₄ ≡ padded (length out) (write_bundle table pool)
  unfolding write_bundle
  bundle-left o₁ o₂ o₃ o₄ first second third last =
      let head = header_bytes (row_count table) (length pool) in
      let words = word_bytes table in
      let long : length words ≡ 4 * length table = length-word_bytes table in
      let size = length-bundle table pool in
      let rows : o₂ ≡ written out 0 (head ++ words) = second ∙ ap (λ (o : List ℕ). written o HEADER words) first ∙ written_behind out 0 head words (omega arith) in
      let behind : HEADER + 4 * length table ≡ 0 + length (head ++ words) = rw length-append (omega arith) in
      let all : o₃ ≡ written out 0 (head ++ words ++ pool) =
      third ∙ ap (λ (o : List ℕ). written o (HEADER + 4 * length table) pool) rows
      ∙ ap (λ (n : ℕ). written (written out 0 (head ++ words)) n pool) behind ∙ written_behind out 0 (head ++ words) pool (omega arith) in
      last
      ∙ ap (λ (o : List ℕ). cleared o (HEADER + 4 * length table + length pool)) (all ∙ ap (λ (l : List ℕ). written out 0 l) (append_assoc head words pool))
      ∙ ap (λ (n : ℕ). cleared (written out 0 (head ++ (words ++ pool))) n) (sym size)
      ∙ cleared-behind out (head ++ (words ++ pool)) (omega arith)

-- What a write answers and leaves, by the room.
module _ (out table pool : List ℕ) where
  abbrev pub Leaves : Result ℕ Refusal → List ℕ → Type 0
  Leaves answer left =
      (answer ≡ (bundle_written none (length out) (write_bundle table pool)).answer)
      × (left ≡ (bundle_written none (length out) (write_bundle table pool)).bytes)

  pub no_room :
      (left : List ℕ) (answer : Result ℕ Refusal) → length out < HEADER + 4 * length table + length pool
      → answer ≡ (write_refused (length out) Refusal.BundleRoom).answer → left ≡ (write_refused (length out) Refusal.BundleRoom).bytes → Leaves answer left
  unfolding bundle_written
  no_room left answer h is leaves =
      let size = length-bundle table pool in
      let few = lt-ltb (length out) (length (write_bundle table pool)) (omega arith) in
      (rw few is, rw few leaves)

  pub written-done :
      (left : List ℕ) → HEADER + 4 * length table + length pool ≤ length out → left ≡ padded (length out) (write_bundle table pool)
      → Leaves (Ok (HEADER + 4 * length table + length pool)) left
  unfolding bundle_written write_done
  written-done left h e =
      let size = length-bundle table pool in
      let enough = le-ltb (length out) (length (write_bundle table pool)) (omega arith) in
      (rw enough (ap Ok (sym size)), rw enough e)
