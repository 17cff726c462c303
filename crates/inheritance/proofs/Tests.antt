-- What the tests answer, from what they read.
-- Assumes nothing.
use Prim.Native.Nat.{ℕ, ◌+◌}
use mathlib.Core.Path.{◌≡◌, refl, sym, ◌∙◌}
use mathlib.Core.Bool.{Bool, true, false, ◌&&◌, not}
use mathlib.Core.List.{List}
use lib.Dec.{eqb, ltb}
use borrow.Author.Tests.{eq-eqb, ne_eqb}
use Rattle.rules.specs.Table.{TYPE, PARENT, DOCUMENT, DECLARATION, word, row_count}
use Rattle.notes.specs.Notes.{LOCAL_NAME, VALUE, note_at}
use Rattle.stacks.specs.Stacks.{PREFIXES, top_at}
use Rattle.inheritance.specs.Tests.{is_top, is_open}

module _ (table : List ℕ) (r : ℕ) {k : ℕ} (read : k ≡ word table r TYPE) (notes tops : List ℕ) (e : ℕ) where
  pub open-read :
      {p v n t position : ℕ} → k ≡ DECLARATION → p ≡ word table r PARENT → v ≡ note_at notes r VALUE → n ≡ note_at notes r LOCAL_NAME → t ≡ top_at tops PREFIXES n → position ≡ r + 1
      → ((not (eqb p e) && not (eqb v 0)) && eqb t position) ≡ is_open table notes tops e r
  open-read is parent value prefix top at = rw (eq-eqb (word table r TYPE) DECLARATION (sym read ∙ is), parent, value, top, prefix, at) refl

  pub open-other : (k ≡ DECLARATION → ⊥) → false ≡ is_open table notes tops e r
  open-other other = rw (ne_eqb (word table r TYPE) DECLARATION (λ z. other (read ∙ z))) refl

module _ (table : List ℕ) (e : ℕ) {parent : ℕ} (read : parent ≡ word table e PARENT) {within : Bool} (told : within ≡ ltb parent (row_count table)) where
  pub top_below : within ≡ true → {k : ℕ} → k ≡ word table parent TYPE → eqb k DOCUMENT ≡ is_top table e
  top_below is kind = rw (← read, sym told ∙ is, kind) refl

  pub top-alone : within ≡ false → true ≡ is_top table e
  top-alone is = rw (← read, sym told ∙ is) refl
