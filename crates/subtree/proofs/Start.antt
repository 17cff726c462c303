-- The element that is written, by the row's type.
-- Assumes nothing.
use Prim.Native.Nat.{ℕ, ◌<◌}
use mathlib.Core.Path.{◌≡◌, refl, sym, ap, ◌∙◌}
use mathlib.Core.Bool.{Bool, true, false}
use mathlib.Core.List.{List}
use borrow.Author.Tests.{eq-eqb, ne_eqb}
use Rattle.rules.specs.Table.{NONE, TYPE, DOCUMENT, nodes, node, row_count, word, is_element}
use Rattle.rules.specs.Lookups.{element_child}
use Rattle.rows.specs.Reading.{row_or}
use Rattle.rows.proofs.Words.{type-word}
use Rattle.markup.specs.Writing.{element_to_write}

module _ (table pool : List ℕ) (r : ℕ) (within : r < row_count table) (kind : ℕ) (read : kind ≡ word table r TYPE) (is : Bool) (told : is ≡ is_element kind) where
  element-is : is ≡ is_element (node (nodes table pool) r).type
  element-is = told ∙ ap is_element (read ∙ sym (type-word table pool r within))

  pub to-self : is ≡ true → r ≡ row_or (element_to_write (nodes table pool) r)
  unfolding element_to_write
  to-self e = rw (sym element-is ∙ e) refl

  module _ (other : is ≡ false) where
    pub to-child : kind ≡ DOCUMENT → {x : ℕ} → x ≡ row_or (element_child (nodes table pool) r) → x ≡ row_or (element_to_write (nodes table pool) r)
    unfolding element_to_write
    to-child d c = rw (sym element-is ∙ other, eq-eqb (node (nodes table pool) r).type DOCUMENT (type-word table pool r within ∙ sym read ∙ d)) c

    pub to_none : (kind ≡ DOCUMENT → ⊥) → NONE ≡ row_or (element_to_write (nodes table pool) r)
    unfolding element_to_write
    to_none d = rw (sym element-is ∙ other, ne_eqb (node (nodes table pool) r).type DOCUMENT (λ x. d (read ∙ sym (type-word table pool r within) ∙ x))) refl
