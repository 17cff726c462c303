-- One row: its words as they are read, its parent's new number, and what its fate tells.
-- Assumes nothing.
use Prim.Native.Nat.{ℕ}
use mathlib.Core.Path.{◌≡◌, refl, sym, ◌∙◌}
use mathlib.Core.Bool.{Bool, true, false, cond, not}
use mathlib.Core.List.{List, [], ◌∷◌}
use lib.Dec.{eqb}
use lib.ListN.{get_or}
use borrow.Author.Tests.{eqb-true, eq-eqb, ne_eqb, not-true, not-false}
use Rattle.rules.specs.Table.{NONE, TYPE, PREFIX, LOCAL_NAME, URI, VALUE, MAKER, word}
use Rattle.rules.specs.declared.Place.{Place}
use Rattle.rows.specs.Reading.{place_at}
use Rattle.kept_table.specs.Kept.{renumbered, row_words}

-- The parent.
module _ (numbers : List ℕ) (parent : ℕ) where
  pub renumbered-none : parent ≡ NONE → parent ≡ renumbered numbers parent
  unfolding renumbered
  renumbered-none e = rw (eq-eqb parent NONE e) e

  pub renumbered-row : (parent ≡ NONE → ⊥) → {number : ℕ} → number ≡ get_or numbers parent 0 → number ≡ renumbered numbers parent
  unfolding renumbered
  renumbered-row n e = rw (ne_eqb parent NONE n) e

-- The words.
pub words-read :
    (table : List ℕ) (r : ℕ) {kind parent moved maker : ℕ} {prefix local uri value : Place} → kind ≡ word table r TYPE → parent ≡ moved → prefix ≡ place_at table r PREFIX → local ≡ place_at table r LOCAL_NAME
    → uri ≡ place_at table r URI → value ≡ place_at table r VALUE → maker ≡ word table r MAKER
    → (kind ∷ parent ∷ prefix.offset.0 ∷ prefix.length ∷ local.offset.0 ∷ local.length ∷ uri.offset.0 ∷ uri.length ∷ value.offset.0 ∷ value.length ∷ maker ∷ []) ≡ row_words table r moved
words-read table r k p a b c d m = rw (k, p, a, b, c, d, m) refl

-- The fate.
module _ (fate : ℕ) {dropped : Bool} (d : dropped ≡ not (eqb fate 0)) where
  pub fate-zero : dropped ≡ false → fate ≡ 0
  fate-zero e = eqb-true fate 0 (not-false (eqb fate 0) (sym d ∙ e))

  pub where-kept : {A : Type 0} → dropped ≡ false → (yes? no? : A) → yes? ≡ cond (eqb fate 0) yes? no?
  where-kept e yes? no? = rw (not-false (eqb fate 0) (sym d ∙ e)) refl

  pub where-dropped : {A : Type 0} → dropped ≡ true → (yes? no? : A) → no? ≡ cond (eqb fate 0) yes? no?
  where-dropped e yes? no? = rw (not-true (eqb fate 0) (sym d ∙ e)) refl
