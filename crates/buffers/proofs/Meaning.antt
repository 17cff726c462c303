-- What the writes mean. The rows of a buffer t of count rows over a pool are `nodes (take (WIDTH * count) t) pool`; the
-- rest of t is not looked at.
-- Assumes nothing.
use Prim.Native.Nat.{ℕ, zero, suc, ◌+◌, ◌*◌, ◌≤◌, ◌<◌}
use mathlib.Core.Path.{◌≡◌, refl, sym, ap, ◌∙◌}
use mathlib.Core.Bool.{true}
use mathlib.Core.List.{List, [], ◌∷◌, ◌++◌, append-nil, append_assoc}
use native.Mathlib.Nat.{not-suc-le-zero, le_of_suc-le-suc}
use native.Mathlib.Omega.{arith}
use lib.ListN.{length, take, drop, set, length-append, length-set}
use lib.Seq.{length-take-le, take_at, take-append_seam, take-set-lt, set-append_left}
use Rattle.rules.specs.Lists.{gathered, all_of}
use Rattle.rules.specs.Table.{WIDTH, PREFIX, VALUE, Field, Node, nodes, words_of, words, node}
use Rattle.rules.specs.Lookups.{place}
use Rattle.rules.specs.Outputs.{padded}
use Rattle.rules.specs.Normalization.{with_prefix, with_value}
use Rattle.rules.specs.declared.Place.{Place}
use Rattle.rules.proofs.Table.{length-words}
use Rattle.rules.proofs.Result.{fits_in, rows_back}
use Rattle.buffers.specs.Writes.{written, cleared, placed}
use Rattle.buffers.proofs.Rows.{words-of-rows}

-- A list written behind the part that counts makes that part longer.
pub appended : (t : List ℕ) (at : ℕ) (l : List ℕ) → at + length l ≤ length t → take (at + length l) (written t at l) ≡ take at t ++ l
appended t at l h =
    let e : length (take at t) ≡ at = length-take-le at t (omega arith) in
    take_at (take at t ++ l) (drop (at + length l) t) (at + length l) (length-append (take at t) l ∙ ap (λ (n : ℕ). n + length l) e)

-- The part that counts of a copy is the source.
pub copied : (source t : List ℕ) → take (length source) (source ++ drop (length source) t) ≡ source
copied source t = take-append_seam source (drop (length source) t)

-- Clearing the rest pads the part that counts.
pub padded-part : (t : List ℕ) (count : ℕ) → count ≤ length t → cleared t count ≡ padded (length t) (take count t)
unfolding padded
padded-part t count h = rw (length-take-le count t h) refl

words_append : (ns ms : List Node) → words (ns ++ ms) ≡ words ns ++ words ms
unfolding words
words_append [] ms = refl
words_append (n ∷ ns) ms = ap (λ (l : List ℕ). words_of n ++ l) (words_append ns ms) ∙ sym (append_assoc (words_of n) (gathered words_of ns) (gathered words_of ms))

words-one : (n : Node) → words (n ∷ []) ≡ words_of n
unfolding words
words-one n = append-nil (words_of n)

set-append-add : (xs ys : List ℕ) (i v : ℕ) → set (xs ++ ys) (length xs + i) v ≡ xs ++ set ys i v
set-append-add [] ys i v = ap (λ (j : ℕ). set ys j v) (omega arith)
set-append-add (x ∷ xs) ys i v =
    let e : suc (length xs) + i ≡ suc (length xs + i) = omega arith in
    rw e (ap (λ (l : List ℕ). x ∷ l) (set-append-add xs ys i v))

-- A field is set, and the words of a row tell how that changes a row.
module _ (k : ℕ) (p : Place) (inside : k + 1 < WIDTH) (change : Node → Node) (makes : (n : Node) → placed (words_of n) 0 k p ≡ words_of (change n)) where
  abbrev v : ℕ
  v = p.offset.0

  abbrev w : ℕ
  w = p.length

  set_words : (ns : List Node) (r : ℕ) → r < length ns → placed (words ns) r k p ≡ words (set ns r (change (node ns r)))
  unfolding words node
  set_words [] r h = absurd (not-suc-le-zero h)
  set_words (n ∷ ns) zero h =
      let rest = gathered words_of ns in
      ap (λ (l : List ℕ). set l (WIDTH * 0 + k + 1) w) (set-append_left (words_of n) rest (WIDTH * 0 + k) v (omega arith))
      ∙ set-append_left (set (words_of n) (WIDTH * 0 + k) v) rest (WIDTH * 0 + k + 1) w (rw length-set (omega arith))
      ∙ ap (λ (l : List ℕ). l ++ rest) (makes n)
  set_words (n ∷ ns) (suc r) h =
      let e : WIDTH * suc r + k ≡ WIDTH + (WIDTH * r + k) = omega arith in
      let d : WIDTH + (WIDTH * r + k) + 1 ≡ WIDTH + (WIDTH * r + k + 1) = omega arith in
      let rest = gathered words_of ns in
      ap (λ (i : ℕ). set (set (words_of n ++ rest) i v) (i + 1) w) e
      ∙ ap (λ (l : List ℕ). set l (WIDTH + (WIDTH * r + k) + 1) w) (set-append-add (words_of n) rest (WIDTH * r + k) v)
      ∙ ap (λ (i : ℕ). set (words_of n ++ set rest (WIDTH * r + k) v) i w) d
      ∙ set-append-add (words_of n) (set rest (WIDTH * r + k) v) (WIDTH * r + k + 1) w
      ∙ ap (λ (l : List ℕ). words_of n ++ l) (set_words ns r (le_of_suc-le-suc h))

-- A buffer that holds the words of rows. These laws need no pool.
module _ (t : List ℕ) (count : ℕ) (ns : List Node) (e : take (WIDTH * count) t ≡ words ns) where
  pub count-rows : WIDTH * count ≤ length t → length ns ≡ count
  count-rows h =
      let s : length (take (WIDTH * count) t) ≡ WIDTH * count = length-take-le (WIDTH * count) t h in
      let l : length (take (WIDTH * count) t) ≡ WIDTH * length ns = ap length e ∙ length-words ns in
      omega arith

  pub appended-words : WIDTH * count + WIDTH ≤ length t → (n : Node) → take (WIDTH * (count + 1)) (written t (WIDTH * count) (words_of n)) ≡ words (ns ++ n ∷ [])
  appended-words h n =
      let d : WIDTH * (count + 1) ≡ WIDTH * count + WIDTH = omega arith in
      ap (λ (i : ℕ). take i (written t (WIDTH * count) (words_of n))) d
      ∙ appended t (WIDTH * count) (words_of n) h
      ∙ ap (λ (l : List ℕ). l ++ words_of n) e
      ∙ ap (λ (l : List ℕ). words ns ++ l) (sym (words-one n))
      ∙ sym (words_append ns (n ∷ []))

  module _ (h : WIDTH * count ≤ length t) (r : ℕ) (below : r < count) where
    set-buffer : (k : ℕ) (p : Place) → k + 1 < WIDTH → (change : Node → Node) → ((n : Node) → placed (words_of n) 0 k p ≡ words_of (change n)) → take (WIDTH * count) (placed t r k p) ≡ words (set ns r (change (node ns r)))
    set-buffer k p inside change makes =
        take-set-lt (WIDTH * count) (set t (WIDTH * r + k) p.offset.0) (WIDTH * r + k + 1) p.length (omega arith)
        ∙ ap (λ (l : List ℕ). set l (WIDTH * r + k + 1) p.length)
        (take-set-lt (WIDTH * count) t (WIDTH * r + k) p.offset.0 (omega arith) ∙ ap (λ (l : List ℕ). set l (WIDTH * r + k) p.offset.0) e)
        ∙ set_words k p inside change makes ns r (rw (count-rows h) below)

    -- A row whose prefix, or value, is set.
    pub set-prefix-words : (f : Field) → take (WIDTH * count) (placed t r PREFIX (place f)) ≡ words (set ns r (with_prefix f (node ns r)))
    set-prefix-words f = set-buffer PREFIX (place f) (omega arith) (with_prefix f) (λ n. refl)

    pub set-value-words : (f : Field) → take (WIDTH * count) (placed t r VALUE (place f)) ≡ words (set ns r (with_value f (node ns r)))
    set-value-words f = set-buffer VALUE (place f) (omega arith) (with_value f) (λ n. refl)

  -- Rows that lie in a pool are what the buffer means over it.
  pub rows-meant : (pool : List ℕ) → all_of (fits_in pool) ns ≡ true → nodes (take (WIDTH * count) t) pool ≡ ns
  rows-meant pool h = ap (λ (l : List ℕ). nodes l pool) e ∙ rows_back pool ns h

-- The rows that a buffer means over a pool.
module _ (t pool : List ℕ) (count : ℕ) where
  pub words-of-buffer : WIDTH * count ≤ length t → take (WIDTH * count) t ≡ words (nodes (take (WIDTH * count) t) pool)
  words-of-buffer h = sym (words-of-rows (take (WIDTH * count) t) pool (rw (length-take-le (WIDTH * count) t) (omega arith)))

  pub length-rows : WIDTH * count ≤ length t → length (nodes (take (WIDTH * count) t) pool) ≡ count
  length-rows h = count-rows t count (nodes (take (WIDTH * count) t) pool) (words-of-buffer h) h
