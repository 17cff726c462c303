-- The words of a row get the offsets of the packed pool.
-- Assumes nothing.
use Prim.Native.Nat.{ℕ, suc, ◌+◌}
use mathlib.Core.Path.{◌≡◌, refl, sym, ◌∙◌, ap}
use mathlib.Core.Bool.{true}
use mathlib.Core.List.{List, [], ◌∷◌, ◌++◌}
use native.Mathlib.Omega.{arith}
use lib.ListN.{length, get_or, set}
use lib.Seq.{set-get_or}
use Rattle.rules.specs.Lists.{is_empty}
use Rattle.rules.specs.Table.{Field, Node, words_of}
use Rattle.rules.proofs.Lists.{by_cases}
use Rattle.packing.specs.Packing.{start_of, offset_in, packed_node}
use Rattle.packing.proofs.Growing.{packed-field}
use Rattle.packed_rows.specs.Rows.{patched, patches}

set-behind : (front back : List ℕ) (i v : ℕ) → set (front ++ back) (length front + i) v ≡ front ++ set back i v
set-behind [] back i v = ap (λ (j : ℕ). set back j v) (omega arith)
set-behind (x ∷ front) back i v =
    let e : suc (length front) + i ≡ suc (length front + i) = omega arith in
    rw e (ap (λ (l : List ℕ). x ∷ l) (set-behind front back i v))

-- A field behind so many words: an empty one has the offset 0 already.
patch-behind :
    (names : List (List ℕ)) (front back : List ℕ) (w i : ℕ) (bytes : List ℕ) → length front ≡ w → (is_empty bytes ≡ true → get_or back i 0 ≡ 0)
    → patched names (w + i, bytes) (front ++ back) ≡ front ++ set back i (offset_in names bytes)
unfolding offset_in
patch-behind names front back w i bytes long none =
    by_cases (is_empty bytes)
    (λ q. rw q (ap (λ (l : List ℕ). front ++ l) (sym (ap (set back i) (sym (none q)) ∙ set-get_or back i 0))))
    (λ q. rw (q, ← long) (set-behind front back i (start_of names bytes)))

-- A row whose fields have the lengths of their bytes, and no offset where they have none.
pub record Whole (f : Field) : Type 0 where
  pub sized : f.size ≡ length f.bytes
  pub bare : is_empty f.bytes ≡ true → f.offset ≡ 0

module _ (names : List (List ℕ)) (n : Node) (prefix : Whole n.prefix) (local : Whole n.local) (uri : Whole n.uri) (value : Whole n.value) where
  packed-words :
      words_of (packed_node names n)
      ≡ n.type ∷ n.parent ∷ offset_in names n.prefix.bytes ∷ n.prefix.size ∷ offset_in names n.local.bytes ∷ n.local.size ∷ offset_in names n.uri.bytes ∷ n.uri.size
      ∷ offset_in names n.value.bytes ∷ n.value.size ∷ n.maker ∷ []
  unfolding packed_node
  packed-words =
      rw (packed-field names n.prefix, packed-field names n.local, packed-field names n.uri, packed-field names n.value, prefix.sized, local.sized, uri.sized, value.sized) refl

  pub row-patched :
      (front back : List ℕ) (w : ℕ) → length front ≡ w
      → patches names ((w + 2, n.prefix.bytes) ∷ (w + 4, n.local.bytes) ∷ (w + 6, n.uri.bytes) ∷ (w + 8, n.value.bytes) ∷ []) (front ++ (words_of n ++ back)) ≡ front ++ (words_of (packed_node names n) ++ back)
  unfolding patches
  row-patched front back w long =
      let p = offset_in names n.prefix.bytes in
      let l = offset_in names n.local.bytes in
      let u = offset_in names n.uri.bytes in
      let b₀ = words_of n ++ back in
      let b₁ = set b₀ 2 p in
      let b₂ = set b₁ 4 l in
      let b₃ = set b₂ 6 u in
      let e₁ = patch-behind names front b₀ w 2 n.prefix.bytes long prefix.bare in
      let e₂ = patch-behind names front b₁ w 4 n.local.bytes long local.bare in
      let e₃ = patch-behind names front b₂ w 6 n.uri.bytes long uri.bare in
      let e₄ = patch-behind names front b₃ w 8 n.value.bytes long value.bare in
      ap (λ (t : List ℕ). patched names (w + 8, n.value.bytes) (patched names (w + 6, n.uri.bytes) (patched names (w + 4, n.local.bytes) t))) e₁
      ∙ ap (λ (t : List ℕ). patched names (w + 8, n.value.bytes) (patched names (w + 6, n.uri.bytes) t)) e₂
      ∙ ap (patched names (w + 8, n.value.bytes)) e₃
      ∙ e₄
      ∙ ap (λ (ws : List ℕ). front ++ (ws ++ back)) (sym packed-words)
