-- The rows of a table and the words of rows, each from the other.
-- Assumes nothing.
use Prim.Native.Nat.{ℕ, ◌+◌, ◌*◌, ◌/◌, ◌%◌, ◌<◌}
use mathlib.Core.Path.{◌≡◌, refl, sym, ap, ◌∙◌}
use mathlib.Core.List.{List, map}
use native.Mathlib.Nat.{zero-add}
use native.Mathlib.Omega.{arith}
use lib.ListN.{length, get_or}
use lib.Seq.{ext_get_or}
use Rattle.rules.specs.Lists.{numbers_from}
use Rattle.rules.specs.Table.{WIDTH, Node, word, node_at, row_count, nodes, words_of, words}
use Rattle.rules.proofs.Lists.{get_or-numbers_from}
use Rattle.rules.proofs.Table.{get_d_map, length-nodes, node-nodes, length-words, word-words}

-- The words of a row that was read.
words-read : (table pool : List ℕ) (r : ℕ) → words_of (node_at table pool r) ≡ map (word table r) (numbers_from 0 WIDTH)
words-read table pool r = refl

word_read : (table pool : List ℕ) (r k : ℕ) → k < WIDTH → get_or (words_of (node_at table pool r)) k 0 ≡ word table r k
word_read table pool r k h =
    ap (λ (l : List ℕ). get_or l k 0) (words-read table pool r)
    ∙ get_d_map (word table r) (numbers_from 0 WIDTH) k 0 0 h
    ∙ ap (word table r) (get_or-numbers_from 0 WIDTH k 0 h ∙ zero-add k)

-- A table of whole rows is the words of its rows.
pub words-of-rows : (table pool : List ℕ) → length table % WIDTH ≡ 0 → words (nodes table pool) ≡ table
words-of-rows table pool whole =
    let ns = nodes table pool in
    let size : length (words ns) ≡ length table = length-words ns ∙ rw length-nodes (omega arith) in
    ext_get_or 0 (words ns) table size
    (λ i h.
    let r = i / WIDTH in
    let k = i % WIDTH in
    let e : i ≡ WIDTH * r + k = omega arith in
    let below : r < row_count table = omega arith in
    let inside : r < length ns = rw length-nodes below in
    ap (λ (j : ℕ). get_or (words ns) j 0) e
    ∙ word-words ns r k inside (omega arith)
    ∙ ap (λ (n : Node). get_or (words_of n) k 0) (node-nodes table pool r below)
    ∙ word_read table pool r k (omega arith)
    ∙ ap (λ (j : ℕ). get_or table j 0) (sym e))
