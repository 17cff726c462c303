-- Laws of specs/Numbers.antt: what is written of numbers and words is read back, and what is read is written back.
-- Assumes nothing.
use Prim.Native.Nat.{ℕ, zero, suc, ◌+◌, ◌*◌, ◌/◌, ◌%◌, ◌≤◌, ◌<◌}
use mathlib.Core.Path.{◌≡◌, refl, sym, ap, ◌∙◌}
use mathlib.Core.Bool.{Bool, true}
use mathlib.Core.List.{List, [], ◌∷◌, ◌++◌}
use native.Mathlib.Omega.{arith}
use lib.ListN.{length, take, drop, length-drop}
use lib.Seq.{length-take-le}
use borrow.Author.Tests.{ltb-true, lt-ltb}
use Rattle.rules.specs.Lists.{all_of}
use Rattle.rules.specs.Table.{part}
use Rattle.rules.proofs.Lists.{both_true, true-both}
use Rattle.little_endian.specs.Numbers.{is_byte, is_word, bytes_of, number_of, number_at, word_bytes, words_from}

-- Numbers.

-- The numbers that so many bytes can hold.
abbrev pub most : ℕ → ℕ
most zero = 1
most (suc size) = 256 * most size

pub length-bytes : (size n : ℕ) → length (bytes_of size n) ≡ size
length-bytes zero n = refl
length-bytes (suc size) n = ap suc (length-bytes size (n / 256))

pub number-bytes : (size n : ℕ) → n < most size → number_of (bytes_of size n) ≡ n
number-bytes zero n h = omega arith
number-bytes (suc size) n h =
    let later : number_of (bytes_of size (n / 256)) ≡ n / 256 = number-bytes size (n / 256) (omega arith) in
    omega arith

pub bytes-number : (bs : List ℕ) → all_of is_byte bs ≡ true → bytes_of (length bs) (number_of bs) ≡ bs
bytes-number [] all = refl
bytes-number (b ∷ bs) all =
    let here : b < 256 = ltb-true b 256 (both_true (is_byte b) (all_of is_byte bs) all).0 in
    let low : (b + 256 * number_of bs) % 256 ≡ b = omega arith in
    let high : (b + 256 * number_of bs) / 256 ≡ number_of bs = omega arith in
    rw (low, high, bytes-number bs (both_true (is_byte b) (all_of is_byte bs) all).1) refl

pub number_small : (size : ℕ) (bs : List ℕ) → all_of is_byte bs ≡ true → number_of (take size bs) < most size
number_small zero bs all = omega arith
number_small (suc size) [] all = let later = number_small size [] refl in omega arith
number_small (suc size) (b ∷ bs) all =
    let here : b < 256 = ltb-true b 256 (both_true (is_byte b) (all_of is_byte bs) all).0 in
    let later = number_small size bs (both_true (is_byte b) (all_of is_byte bs) all).1 in
    omega arith

-- Parts of bytes are bytes, and parts of words are words.
module _ (test : ℕ → Bool) where
  pub all_drop : (n : ℕ) (l : List ℕ) → all_of test l ≡ true → all_of test (drop n l) ≡ true
  all_drop zero l e = e
  all_drop (suc n) [] e = refl
  all_drop (suc n) (x ∷ l) e = all_drop n l (both_true (test x) (all_of test l) e).1

  pub all_take : (n : ℕ) (l : List ℕ) → all_of test l ≡ true → all_of test (take n l) ≡ true
  all_take zero l e = refl
  all_take (suc n) [] e = refl
  all_take (suc n) (x ∷ l) e = true-both (both_true (test x) (all_of test l) e).0 (all_take n l (both_true (test x) (all_of test l) e).1)

-- A number that was read is written as the bytes that it was read from.
pub number-back : (bytes : List ℕ) (at size : ℕ) → all_of is_byte bytes ≡ true → at + size ≤ length bytes → (n : ℕ) → n ≡ number_at bytes at size → bytes_of size n ≡ part bytes at size
number-back bytes at size all room n is =
    let long : length (part bytes at size) ≡ size = length-take-le size (drop at bytes) (simp length-drop (omega arith)) in
    rw is (ap (λ (k : ℕ). bytes_of k (number_of (part bytes at size))) (sym long) ∙ bytes-number (part bytes at size) (all_take is_byte size (drop at bytes) (all_drop is_byte at bytes all)))

-- Words.

pub length-word_bytes : (table : List ℕ) → length (word_bytes table) ≡ 4 * length table
length-word_bytes [] = omega arith
length-word_bytes (w ∷ table) = let later = length-word_bytes table in omega arith

pub words-written : (table rest : List ℕ) → all_of is_word table ≡ true → words_from (length table) (word_bytes table ++ rest) ≡ table
unfolding words_from
words-written [] rest all = refl
words-written (w ∷ table) rest all =
    let small : w < 4294967296 = ltb-true w 4294967296 (both_true (is_word w) (all_of is_word table) all).0 in
    let here : number_of (bytes_of 4 w) ≡ w = number-bytes 4 w (omega arith) in
    ap (λ (x : ℕ). x ∷ words_from (length table) (word_bytes table ++ rest)) here
    ∙ ap (λ (l : List ℕ). w ∷ l) (words-written table rest (both_true (is_word w) (all_of is_word table) all).1)

pub rest-written : (table rest : List ℕ) → drop (4 * length table) (word_bytes table ++ rest) ≡ rest
rest-written [] rest = refl
rest-written (w ∷ table) rest =
    let more : 4 * suc (length table) ≡ suc (suc (suc (suc (4 * length table)))) = omega arith in
    ap (λ (n : ℕ). drop n (word_bytes (w ∷ table) ++ rest)) more ∙ rest-written table rest

pub words-read : (count : ℕ) (l : List ℕ) → all_of is_byte l ≡ true → 4 * count ≤ length l → word_bytes (words_from count l) ++ drop (4 * count) l ≡ l
unfolding words_from
words-read zero l all room = refl
words-read (suc count) [] all room = absurd (omega arith)
words-read (suc count) (a ∷ []) all room = absurd (omega arith)
words-read (suc count) (a ∷ b ∷ []) all room = absurd (omega arith)
words-read (suc count) (a ∷ b ∷ c ∷ []) all room = absurd (omega arith)
words-read (suc count) (a ∷ b ∷ c ∷ d ∷ l) all room =
    let four = a ∷ b ∷ c ∷ d ∷ [] in
    let first = both_true (is_byte a) (all_of is_byte (b ∷ c ∷ d ∷ l)) all in
    let second = both_true (is_byte b) (all_of is_byte (c ∷ d ∷ l)) first.1 in
    let third = both_true (is_byte c) (all_of is_byte (d ∷ l)) second.1 in
    let fourth = both_true (is_byte d) (all_of is_byte l) third.1 in
    let bytes : bytes_of 4 (number_of four) ≡ four = bytes-number four (rw (first.0, second.0, third.0, fourth.0) refl) in
    let more : 4 * suc count ≡ suc (suc (suc (suc (4 * count)))) = omega arith in
    ap (λ (n : ℕ). word_bytes (words_from (suc count) (a ∷ b ∷ c ∷ d ∷ l)) ++ drop n (a ∷ b ∷ c ∷ d ∷ l)) more
    ∙ ap (λ (f : List ℕ). (f ++ word_bytes (words_from count l)) ++ drop (4 * count) l) bytes
    ∙ ap (λ (t : List ℕ). a ∷ b ∷ c ∷ d ∷ t) (words-read count l fourth.1 (omega arith))

pub words_small : (count : ℕ) (l : List ℕ) → all_of is_byte l ≡ true → all_of is_word (words_from count l) ≡ true
unfolding words_from
words_small zero l all = refl
words_small (suc count) l all =
    true-both (lt-ltb (number_of (take 4 l)) 4294967296 (omega (arith, number_small 4 l all))) (words_small count (drop 4 l) (all_drop is_byte 4 l all))

pub length-words_from : (count : ℕ) (l : List ℕ) → length (words_from count l) ≡ count
unfolding words_from
length-words_from zero l = refl
length-words_from (suc count) l = ap suc (length-words_from count (drop 4 l))
