-- Words written one after the other.
-- Assumes nothing.
use Prim.Native.Nat.{ℕ, ◌+◌, ◌*◌, ◌≤◌, ◌<◌}
use mathlib.Core.Path.{◌≡◌, sym, ap, ◌∙◌}
use mathlib.Core.List.{List, [], ◌∷◌, ◌++◌, append-nil, append_assoc}
use native.Mathlib.Omega.{arith}
use native.Mathlib.Numerals.{add-one}
use lib.ListN.{length, get_or, take}
use lib.Seq.{take-suc, length-take-le}
use Rattle.buffers.specs.Writes.{written}
use Rattle.buffers.proofs.Writes.{written_behind}
use Rattle.little_endian.specs.Numbers.{bytes_of, word_bytes}
use Rattle.little_endian.proofs.Numbers.{length-word_bytes}

gathered-more : (words : List ℕ) (w : ℕ) → word_bytes (words ++ w ∷ []) ≡ word_bytes words ++ bytes_of 4 w
gathered-more [] w = append-nil (bytes_of 4 w)
gathered-more (v ∷ words) w = ap (λ (l : List ℕ). bytes_of 4 v ++ l) (gathered-more words w) ∙ sym (append_assoc (bytes_of 4 v) (word_bytes words) (bytes_of 4 w))

-- A turn of the loop that writes words.
module _ (out : List ℕ) (at : ℕ) (words : List ℕ) where
  -- the output, with the first i words written
  abbrev pub words_written : ℕ → List ℕ
  words_written i = written out at (word_bytes (take i words))

  length_front : (i : ℕ) → i ≤ length words → length (word_bytes (take i words)) ≡ 4 * i
  length_front i h = length-word_bytes (take i words) ∙ ap (λ (n : ℕ). 4 * n) (length-take-le i words h)

  pub words_step :
      (i : ℕ) → i < length words → at + 4 * length words ≤ length out → (o o' : List ℕ) → o ≡ words_written i
      → o' ≡ written o (at + 4 * i) (bytes_of 4 (get_or words i 0)) → o' ≡ words_written (i + 1)
  words_step i h room o o' before after =
      let front = word_bytes (take i words) in
      let long : length front ≡ 4 * i = length_front i (omega arith) in
      let place : at + 4 * i ≡ at + length front = omega arith in
      let next : take (i + 1) words ≡ take i words ++ get_or words i 0 ∷ [] = rw add-one (take-suc words i 0 h) in
      after
      ∙ ap (λ (l : List ℕ). written l (at + 4 * i) (bytes_of 4 (get_or words i 0))) before
      ∙ ap (λ (n : ℕ). written (words_written i) n (bytes_of 4 (get_or words i 0))) place
      ∙ written_behind out at front (bytes_of 4 (get_or words i 0)) (omega arith)
      ∙ ap (λ (l : List ℕ). written out at l) (sym (gathered-more (take i words) (get_or words i 0)) ∙ ap word_bytes (sym next))
