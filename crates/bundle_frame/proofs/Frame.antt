-- What the writes around a pool leave in the output.
-- Assumes nothing.
use Rattle.std.specs.Prelude.{Ok}
use Prim.Native.Nat.{ℕ, ◌+◌, ◌-◌, ◌*◌, ◌≤◌}
use mathlib.Core.Path.{◌≡◌, sym, ap, ◌∙◌}
use mathlib.Core.List.{List, ◌++◌, append_assoc}
use native.Mathlib.Omega.{arith}
use lib.ListN.{length, take, drop, replicate, length-append, length-drop}
use lib.Seq.{length-take-le, take-append-add}
use Rattle.rules.specs.Table.{row_count}
use Rattle.rules.specs.Outputs.{padded}
use Rattle.buffers.specs.Writes.{written, cleared}
use Rattle.buffers.proofs.Writes.{written_behind, written-from-start, length-written}
use Rattle.little_endian.specs.Numbers.{word_bytes}
use Rattle.little_endian.proofs.Numbers.{length-word_bytes}
use Rattle.bundles.specs.Bundles.{HEADER, header_bytes, write_bundle}
use Rattle.bundles.specs.Operations.{write_done}
use Rattle.bundles.proofs.Writing.{length-bundle}

module _ (out table : List ℕ) (bytes : ℕ) (fits : HEADER + 4 * length table + bytes ≤ length out) where
  abbrev pool : List ℕ
  pool = take bytes (drop (HEADER + 4 * length table) out)

  pool-size : length pool ≡ bytes
  pool-size = length-take-le bytes (drop (HEADER + 4 * length table) out) (rw length-drop (omega arith))

  pub frame-said : Ok (HEADER + 4 * length table + bytes) ≡ (write_done (length out) (write_bundle table pool)).answer
  unfolding write_done
  frame-said = ap Ok (sym (length-bundle table pool ∙ ap (λ (n : ℕ). HEADER + 4 * length table + n) pool-size))

  pub frame-left :
      (o₁ o₂ o₃ : List ℕ) → o₁ ≡ written out 0 (header_bytes (row_count table) bytes) → o₂ ≡ written o₁ HEADER (word_bytes table) → o₃ ≡ cleared o₂ (HEADER + 4 * length table + bytes)
      → o₃ ≡ (write_done (length out) (write_bundle table pool)).bytes
  unfolding write_done write_bundle padded
  frame-left o₁ o₂ o₃ first second last =
      let head = header_bytes (row_count table) bytes in
      let words = word_bytes table in
      let long : length words ≡ 4 * length table = length-word_bytes table in
      let front : length (head ++ words) ≡ HEADER + 4 * length table = rw length-append (omega arith) in
      let rows : o₂ ≡ written out 0 (head ++ words) = second ∙ ap (λ (o : List ℕ). written o HEADER words) first ∙ written_behind out 0 head words (omega arith) in
      let size : length o₂ ≡ length out = ap length rows ∙ length-written out 0 (head ++ words) (omega arith) in
      let whole : take (HEADER + 4 * length table + bytes) o₂ ≡ head ++ words ++ pool =
      ap (λ (o : List ℕ). take (HEADER + 4 * length table + bytes) o) (rows ∙ written-from-start out (head ++ words))
      ∙ ap (λ (n : ℕ). take (n + bytes) (head ++ words ++ drop (length (head ++ words)) out)) (sym front)
      ∙ take-append-add (head ++ words) (drop (length (head ++ words)) out) bytes
      ∙ ap (λ (n : ℕ). head ++ words ++ take bytes (drop n out)) front
      in
      let named : header_bytes (row_count table) bytes ≡ header_bytes (row_count table) (length pool) = ap (header_bytes (row_count table)) (sym pool-size) in
      let bundle : head ++ words ++ pool ≡ write_bundle table pool = append_assoc head words pool ∙ ap (λ (h : List ℕ). h ++ (words ++ pool)) named in
      let total : length (write_bundle table pool) ≡ HEADER + 4 * length table + bytes = length-bundle table pool ∙ ap (λ (n : ℕ). HEADER + 4 * length table + n) pool-size in
      last
      ∙ ap (λ (n : ℕ). take (HEADER + 4 * length table + bytes) o₂ ++ replicate (n - (HEADER + 4 * length table + bytes)) 0) size
      ∙ ap (λ (l : List ℕ). l ++ replicate (length out - (HEADER + 4 * length table + bytes)) 0) (whole ∙ bundle)
      ∙ ap (λ (n : ℕ). write_bundle table pool ++ replicate (length out - n) 0) (sym total)
