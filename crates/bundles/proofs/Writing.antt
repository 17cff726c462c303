-- How long a bundle is, and what a refused write leaves in the output.
-- Assumes nothing.
use Rattle.std.specs.Prelude.{Err}
use Prim.Native.Nat.{ℕ, ◌+◌, ◌-◌, ◌*◌}
use mathlib.Core.Path.{◌≡◌, refl, ap, ◌∙◌}
use mathlib.Core.List.{List, ◌++◌}
use native.Mathlib.Omega.{arith}
use lib.ListN.{length, replicate, length-append}
use Rattle.rules.specs.Table.{row_count}
use Rattle.rules.specs.declared.Refusal.{Refusal}
use Rattle.buffers.specs.Writes.{cleared}
use Rattle.little_endian.specs.Numbers.{word_bytes}
use Rattle.little_endian.proofs.Numbers.{length-word_bytes}
use Rattle.bundles.specs.Bundles.{VERSION, HEADER, header_of, write_bundle}
use Rattle.bundles.specs.Operations.{write_refused}

-- How long a bundle is, of any version.
pub length-any : (version rows : ℕ) (words pool : List ℕ) → length (header_of version rows (length pool) ++ (word_bytes words ++ pool)) ≡ HEADER + 4 * length words + length pool
length-any version rows words pool =
    let long = length-word_bytes words in
    let rest = length-append (word_bytes words) pool in
    let all = length-append (header_of version rows (length pool)) (word_bytes words ++ pool) in
    omega arith

pub length-bundle : (table pool : List ℕ) → length (write_bundle table pool) ≡ HEADER + 4 * length table + length pool
unfolding write_bundle
length-bundle table pool = length-any VERSION (row_count table) table pool

-- A refused write.
pub refused-left : (out left : List ℕ) (x : Refusal) → left ≡ cleared out 0 → (Err x ≡ (write_refused (length out) x).answer) × (left ≡ (write_refused (length out) x).bytes)
unfolding write_refused
refused-left out left x e =
    let all : length out - 0 ≡ length out = omega arith in
    (refl, e ∙ ap (λ (n : ℕ). replicate n 0) all)
