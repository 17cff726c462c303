-- Names of which none draws a refusal.
-- Assumes nothing.
use Prim.Native.Nat.{ℕ, ◌≤◌}
use mathlib.Core.Path.{◌≡◌, refl, sym, ◌∙◌}
use mathlib.Core.Bool.{true, false, ◌&&◌, not, and-false}
use mathlib.Core.List.{List}
use native.Mathlib.Omega.{arith}
use borrow.Author.Tests.{eqb-true, ne_eqb, leb-true, le-leb}
use lib.Dec.{eqb, leb}
use Rattle.rules.specs.Table.{ELEMENT, ATTRIBUTE, TEXT, Node}
use Rattle.rules.specs.Utf8.{well_formed}
use Rattle.rules.proofs.Lists.{both_true, true-both}
use Rattle.kinds.specs.Kinds.{EMPTY, GOOD, OTHER, kind_of}
use Rattle.row_names.specs.declared.Kinds.{Kinds}
use Rattle.row_names.specs.RowNames.{kinds_of, GoodNames}
use Rattle.row_names.proofs.Tests.{is-well-formed, kind-prefix, kind-local, kind-uri, names-good, namespace-other, namespace-good}

module _ (n : Node) {kind : ℕ} (t : kind ≡ n.type) {kinds : Kinds} (k : kinds ≡ kinds_of n) where
  -- A kind below the last is that of a well-formed name.
  formed : (name : List ℕ) {of : ℕ} → of ≡ kind_of name → of ≤ OTHER → well_formed name ≡ true
  formed name e h = is-well-formed name e (λ m. omega arith)

  pub good-text : kind ≡ TEXT → (leb kinds.prefix GOOD && leb kinds.local GOOD && leb kinds.uri OTHER) ≡ true → GoodNames n
  good-text x e =
      let a = both_true (leb kinds.prefix GOOD && leb kinds.local GOOD) (leb kinds.uri OTHER) e in
      let b = both_true (leb kinds.prefix GOOD) (leb kinds.local GOOD) a.0 in
      let prefix = leb-true kinds.prefix GOOD b.0 in
      let local = leb-true kinds.local GOOD b.1 in
      record {
        prefix = formed n.prefix.bytes (kind-prefix n k) (omega arith);
        local = formed n.local.bytes (kind-local n k) (omega arith);
        uri = formed n.uri.bytes (kind-uri n k) (leb-true kinds.uri OTHER a.1);
        names = λ r w. sym (names-good n t k a.0 r w refl) ∙ rw x refl;
        namespace = sym (namespace-other n t k (rw x refl));
      }

  pub good-named :
      (not (eqb kind ELEMENT) && not (eqb kind ATTRIBUTE)) ≡ false → (leb kinds.prefix kinds.uri && leb kinds.uri OTHER && leb kinds.prefix GOOD && eqb kinds.local GOOD) ≡ true
      → GoodNames n
  good-named is e =
      let a = both_true (leb kinds.prefix kinds.uri && leb kinds.uri OTHER && leb kinds.prefix GOOD) (eqb kinds.local GOOD) e in
      let b = both_true (leb kinds.prefix kinds.uri && leb kinds.uri OTHER) (leb kinds.prefix GOOD) a.0 in
      let c = both_true (leb kinds.prefix kinds.uri) (leb kinds.uri OTHER) b.0 in
      let other = leb-true kinds.uri OTHER c.1 in
      let good = leb-true kinds.prefix GOOD b.1 in
      let local = eqb-true kinds.local GOOD a.1 in
      let some = ne_eqb kinds.local EMPTY (λ z. omega arith) in
      record {
        prefix = formed n.prefix.bytes (kind-prefix n k) (omega arith);
        local = formed n.local.bytes (kind-local n k) (omega arith);
        uri = formed n.uri.bytes (kind-uri n k) other;
        names = λ r w. sym (names-good n t k (true-both b.1 (le-leb kinds.local GOOD (omega arith))) r w refl) ∙ rw (some, and-false) refl;
        namespace = sym (namespace-good n t k is e);
      }
