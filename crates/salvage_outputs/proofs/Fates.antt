-- What the fates of all rows stand for: the rows of the result, and its list.
-- Assumes nothing.
use Prim.Native.Nat.{ℕ, zero, suc, ◌≤◌, ◌<◌}
use mathlib.Core.Path.{◌≡◌, refl, sym, ap, ◌∙◌}
use mathlib.Core.Logic.{◌⊎◌, inl, inr}
use mathlib.Core.Bool.{true, false, cond}
use mathlib.Core.List.{List, [], ◌∷◌, ◌++◌, map, append_assoc}
use mathlib.Core.Option.{some}
use native.Mathlib.Nat.{le_refl}
use native.Mathlib.Omega.{arith}
use lib.Dec.{eqb}
use lib.ListN.{length, get_or, length-append}
use borrow.Author.Tests.{eq-eqb}
use Rattle.rules.specs.Lists.{gathered}
use Rattle.rules.specs.Table.{NONE, PARENT, Node, word, node_at, nodes, words, words_of, node, row_count}
use Rattle.rules.specs.Answers.{number_of}
use Rattle.rules.specs.declared.Refusal.{Refusal}
use Rattle.rules.proofs.Lists.{map-append}
use Rattle.rules.proofs.Table.{length-nodes, node-nodes}
use Rattle.dropped_rows.specs.Dropped.{drop_refusal, kept, drops_below}
use Rattle.salvage.specs.Salvage.{new_parent, with_parent, salvaged_nodes, drops, listed}
use Rattle.dropped_rows.proofs.Kept.{IsKept, either, kept_next, kept-not, drops-next, drops-not}
use Rattle.salvage.proofs.Listed.{drop-row}
use Rattle.fates.specs.Fates.{Fated}
use Rattle.fates.proofs.Laws.{fate-kept, fate-dropped, fate-number}
use Rattle.kept_table.specs.Kept.{kept_count, parent_among, row_words, kept_words}
use Rattle.dropped_list.specs.Dropped.{dropped_words}

gathered-append : {A : Type 0} (f : A → List ℕ) (xs ys : List A) → gathered f (xs ++ ys) ≡ gathered f xs ++ gathered f ys
gathered-append f [] ys = refl
gathered-append f (x ∷ xs) ys = ap (λ (l : List ℕ). f x ++ l) (gathered-append f xs ys) ∙ sym (append_assoc (f x) (gathered f xs) (gathered f ys))

-- What is noted of a row.
module _ {ns : List Node} {fates : List ℕ} {n : ℕ} (g : Fated ns fates n) {r : ℕ} (h : r < n) where
  noted-kept : IsKept ns r → eqb (get_or fates r 0) 0 ≡ true
  noted-kept k = eq-eqb (get_or fates r 0) 0 (g.below r h ∙ fate-kept ns r k)

  noted-dropped : (x : Refusal) → drop_refusal ns (kept ns r) r ≡ some x → eqb (get_or fates r 0) 0 ≡ false
  noted-dropped x k = ap (λ (f : ℕ). eqb f 0) (g.below r h) ∙ fate-dropped ns r x k

module _ (ns : List Node) (fates : List ℕ) (n : ℕ) (g : Fated ns fates n) where
  pub count-is : (r : ℕ) → r ≤ n → kept_count fates r ≡ length (kept ns r)
  unfolding kept_count kept
  count-is zero h = refl
  count-is (suc r) h =
      let before = count-is r (omega arith) in
      either ns r
      (λ k. rw (noted-kept g h k, kept_next ns r k) (simp length-append (omega arith)))
      (λ x k. rw (noted-dropped g h x k, kept-not ns r x k) before)

  pub list-is : (r : ℕ) → r ≤ n → dropped_words fates r ≡ listed (drops_below ns r)
  unfolding dropped_words drops_below listed
  list-is zero h = refl
  list-is (suc r) h =
      let before = list-is r (omega arith) in
      either ns r
      (λ k. rw (noted-kept g h k, drops-not ns r k) before)
      (λ x k.
      let entry : Refusal → List ℕ = λ (y : Refusal). (number_of y).row ∷ (number_of y).number ∷ [] in
      let fate : get_or fates r 0 ≡ (number_of x).number = g.below r h ∙ fate-number ns r x k in
      rw (noted-dropped g h x k, drops-next ns r x k)
      (append_assoc (dropped_words fates r) (r ∷ []) (get_or fates r 0 ∷ [])
      ∙ ap (λ (l : List ℕ). l ++ (r ∷ get_or fates r 0 ∷ [])) before
      ∙ ap (λ (f : ℕ). gathered entry (drops_below ns r) ++ (r ∷ f ∷ [])) fate
      ∙ ap (λ (q : ℕ). gathered entry (drops_below ns r) ++ (q ∷ (number_of x).number ∷ [])) (sym (drop-row ns (kept ns r) r x k))
      ∙ sym (gathered-append entry (drops_below ns r) (x ∷ []))))

-- Row r stands behind its parent.
abbrev pub Behind : List ℕ → ℕ → Type 0
Behind table r = (word table r PARENT ≡ NONE) ⊎ (word table r PARENT < r)

module _ (table pool fates : List ℕ) (g : Fated (nodes table pool) fates (row_count table)) (behind : (r : ℕ) → r < row_count table → Behind table r) where
  abbrev rows : List Node
  rows = nodes table pool

  abbrev row-of : ℕ → Node
  row-of r = with_parent (new_parent rows (node rows r).parent) (node rows r)

  parent_is : (r : ℕ) → r < row_count table → parent_among fates (word table r PARENT) ≡ new_parent rows (word table r PARENT)
  unfolding parent_among new_parent
  parent_is r h = go (behind r h)
    where
      go : Behind table r → parent_among fates (word table r PARENT) ≡ new_parent rows (word table r PARENT)
      go (inl z) = rw (eq-eqb (word table r PARENT) NONE z) refl
      go (inr b) = ap (cond (eqb (word table r PARENT) NONE) NONE) (count-is rows fates (row_count table) g (word table r PARENT) (omega arith))

  row_is : (r : ℕ) → r < row_count table → row_words table r (parent_among fates (word table r PARENT)) ≡ words_of (row-of r)
  row_is r h = rw (node-nodes table pool r h) (ap (λ (p : ℕ). words_of (with_parent p (node_at table pool r))) (parent_is r h))

  words-below : (r : ℕ) → r ≤ row_count table → kept_words table fates r ≡ words (map row-of (kept rows r))
  unfolding kept_words kept words
  words-below zero h = refl
  words-below (suc r) h =
      let before = words-below r (omega arith) in
      either rows r
      (λ k.
      rw (noted-kept g h k, kept_next rows r k)
      (ap (λ (l : List ℕ). l ++ row_words table r (parent_among fates (word table r PARENT))) before
      ∙ ap (λ (l : List ℕ). gathered words_of (map row-of (kept rows r)) ++ l) (row_is r h)
      ∙ sym (ap (gathered words_of) (map-append row-of (kept rows r) (r ∷ [])) ∙ gathered-append words_of (map row-of (kept rows r)) (row-of r ∷ []))))
      (λ x k. rw (noted-dropped g h x k, kept-not rows r x k) before)

  pub words_are : kept_words table fates (row_count table) ≡ words (salvaged_nodes rows)
  unfolding salvaged_nodes
  words_are = words-below (row_count table) (le_refl (row_count table)) ∙ ap (λ (n : ℕ). words (map row-of (kept rows n))) (sym (length-nodes table pool))

  pub list-are : dropped_words fates (row_count table) ≡ listed (drops rows)
  unfolding drops
  list-are = list-is rows fates (row_count table) g (row_count table) (le_refl (row_count table)) ∙ ap (λ (n : ℕ). listed (drops_below rows n)) (sym (length-nodes table pool))
