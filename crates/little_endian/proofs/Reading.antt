-- A word among words, and words read one after the other.
-- Assumes nothing.
use Prim.Native.Nat.{ℕ, zero, suc, ◌+◌, ◌*◌, ◌≤◌, ◌<◌}
use mathlib.Core.Path.{◌≡◌, refl, sym, ap, ◌∙◌}
use mathlib.Core.List.{List, [], ◌++◌, append-nil}
use native.Mathlib.Omega.{arith}
use Rattle.std.proofs.lemmas.List.{drop_all, length-take-le}
use lib.ListN.{length, get_or, take, drop, set}
use lib.Seq.{drop-drop, paste}
use Rattle.buffers.specs.Writes.{written}
use Rattle.buffers.proofs.Writes.{write_step, write-end}
use Rattle.little_endian.specs.Numbers.{number_of, number_at, words_from}
use Rattle.little_endian.proofs.Numbers.{length-words_from}

-- Word i of the words that bytes stand for.
pub word-among : (count : ℕ) (bytes : List ℕ) (i : ℕ) → i < count → get_or (words_from count bytes) i 0 ≡ number_at bytes (4 * i) 4
unfolding words_from
word-among zero bytes i h = absurd (omega arith)
word-among (suc count) bytes zero h = refl
word-among (suc count) bytes (suc i) h =
    let place : 4 + 4 * i ≡ 4 * suc i = omega arith in
    word-among count (drop 4 bytes) i (omega arith)
    ∙ ap (λ (l : List ℕ). number_of (take 4 l)) (drop-drop (4 * i) 4 bytes ∙ ap (λ (n : ℕ). drop n bytes) place)

-- A turn of the loop that reads words into a part of a table, and what the loop leaves.
module _ (table t bytes : List ℕ) (count i : ℕ) (room : count ≤ length table) (e : t ≡ paste (take count table) 0 (words_from count bytes) i) where
  abbrev part : List ℕ
  part = take count table

  abbrev words : List ℕ
  words = words_from count bytes

  size : length part ≡ count
  size = length-take-le count table room

  long : length words ≡ count
  long = length-words_from count bytes

  pub read_step : i < length part → (w : ℕ) → w ≡ number_at bytes (4 * i) 4 → set t i w ≡ paste part 0 words (i + 1)
  read_step h w is =
      let here : 0 + i ≡ i = omega arith in
      ap (λ (v : ℕ). set t i v) (is ∙ sym (word-among count bytes i (omega (arith, size))))
      ∙ ap (λ (k : ℕ). set t k (get_or words i 0)) (sym here)
      ∙ write_step part t 0 words i e (omega (arith, size, long)) (omega (arith, size, long))

  pub read-end : i ≤ length part → length part ≤ i → t ++ drop count table ≡ written table 0 words
  read-end h k =
      let whole = write-end part t 0 words i e (omega (arith, size, long)) (omega (arith, size, long)) in
      let none : drop (0 + length words) part ≡ [] = drop_all (0 + length words) part (omega (arith, size, long)) in
      let place : 0 + length words ≡ count = omega (arith, long) in
      rw (whole, none, append-nil words, place) refl
