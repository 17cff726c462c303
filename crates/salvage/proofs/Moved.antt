-- Kept rows keep their order and their words.
-- Assumes nothing.
use Prim.Native.Nat.{ℕ, zero, suc, ◌<◌}
use mathlib.Core.Path.{◌≡◌, refl, sym, ◌∙◌, ap}
use mathlib.Core.Logic.{inl, inr}
use mathlib.Core.Bool.{true}
use mathlib.Core.List.{List}
use mathlib.Core.Option.{none}
use native.Mathlib.Nat.{lt_trans}
use native.Mathlib.Omega.{arith}
use lib.ListN.{length, get_or}
use Rattle.rules.specs.Table.{WIDTH, NONE, PARENT, Node, word, nodes, words, words_of, node, row_count}
use Rattle.rules.proofs.Table.{length-nodes, word-words}
use Rattle.buffers.proofs.Rows.{words-of-rows}
use Rattle.salvage.specs.Salvage.{new_parent, with_parent, salvaged_nodes, fault_refusal}
use Rattle.salvage.specs.Demands.{is_kept, new_number, Moved, KeepsOrder, KeepsWords}
use Rattle.dropped_rows.proofs.Kept.{IsKept, ordered}
use Rattle.salvage.proofs.Passes.{Parent, parent_of, rows_long, new_none, new-kept, number-below, at-number-is}
use Rattle.salvage.proofs.Result.{small, good, size, salvages, result_words}
use Rattle.salvage.proofs.Listed.{told-kept, kept-told}

pub keeps-order : KeepsOrder
keeps-order ns p r h i kp kr = ordered ns p r (told-kept ns p (lt_trans h i) kp) h

-- A new parent changes no other word.
other-words : (parent : ℕ) (n : Node) (k : ℕ) → (k ≡ PARENT → ⊥) → get_or (words_of (with_parent parent n)) k 0 ≡ get_or (words_of n) k 0
other-words parent n zero h = refl
other-words parent n (suc zero) h = absurd (h refl)
other-words parent n (suc (suc k)) h = refl

module _ (table pool : List ℕ) (e : fault_refusal table pool ≡ none) (r : ℕ) (i : r < row_count table) (k : is_kept (nodes table pool) r ≡ true) where
  abbrev ns : List Node
  ns = nodes table pool

  below : r < length ns
  below = rw length-nodes i

  is : IsKept ns r
  is = told-kept ns r below k

  abbrev j : ℕ
  j = new_number ns r

  -- A word of a row, before and after.
  before : (w : ℕ) → w < WIDTH → word table r w ≡ get_or (words_of (node ns r)) w 0
  before w h = ap (λ (t : List ℕ). word t r w) (sym (words-of-rows table pool (size table pool e).whole)) ∙ word-words ns r w below h

  after : (w : ℕ) → w < WIDTH → word (words (salvaged_nodes ns)) j w ≡ get_or (words_of (with_parent (new_parent ns (node ns r).parent) (node ns r))) w 0
  after w h =
      let inside : j < length (salvaged_nodes ns) = rw (rows_long ns (length pool) (small table pool e) (good table pool e)) (number-below ns (length pool) (small table pool e) (good table pool e) r below is) in
      word-words (salvaged_nodes ns) j w inside h
      ∙ ap (λ (n : Node). get_or (words_of n) w 0) (at-number-is ns (length pool) (small table pool e) (good table pool e) r below is)

  owner : word table r PARENT ≡ (node ns r).parent
  owner = before PARENT (omega arith)

  moved-owner : word (words (salvaged_nodes ns)) j PARENT ≡ new_parent ns (word table r PARENT)
  moved-owner = after PARENT (omega arith) ∙ ap (new_parent ns) (sym owner)

  moved : Moved table pool (words (salvaged_nodes ns)) r
  unfolding Parent
  moved =
      record {
        others = λ w h o. after w h ∙ other-words (new_parent ns (node ns r).parent) (node ns r) w o ∙ sym (before w h);
        alone = λ z. moved-owner ∙ ap (new_parent ns) z ∙ new_none ns (length pool) (small table pool e) (good table pool e);
        parent = λ z. go z (parent_of ns (length pool) (small table pool e) (good table pool e) r below);
      }
    where
      go : (word table r PARENT ≡ NONE → ⊥) → Parent ns (length pool) (small table pool e) (good table pool e) r (node ns r).parent → (is_kept ns (word table r PARENT) ≡ true) × (word (words (salvaged_nodes ns)) j PARENT ≡ new_number ns (word table r PARENT))
      go z (inl none?) = absurd (z (owner ∙ none?))
      go z (inr p) =
          let at : word table r PARENT < length ns = rw owner (lt_trans p.0 below) in
          (kept-told ns (word table r PARENT) at (rw owner p.1), moved-owner ∙ new-kept ns (length pool) (small table pool e) (good table pool e) (word table r PARENT) at)

pub keeps-words : KeepsWords
keeps-words table pool table_size list_size t r i k =
    rw (result_words table pool table_size list_size t) (moved table pool (salvages table pool table_size list_size t).0 r i k)
