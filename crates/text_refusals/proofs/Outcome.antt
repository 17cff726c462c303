-- What writing is refused for, stage by stage, and what it leaves where nothing is refused.
-- Assumes nothing.
use Prim.Native.Nat.{ℕ}
use mathlib.Core.Path.{◌≡◌, refl, sym, ap}
use mathlib.Core.List.{List, [], ◌∷◌}
use mathlib.Core.Option.{Option, none, some, none-ne-some}
use lib.Dec.{ltb}
use lib.ListN.{length}
use Rattle.rules.specs.Table.{nodes}
use Rattle.rules.specs.Refusals.{refused_if, first_refusal, unless_refused}
use Rattle.rules.specs.Lookups.{lookup_refusal}
use Rattle.rules.specs.Normalization.{level1_refusal}
use Rattle.rules.specs.declared.Refusal.{Refusal}
use Rattle.rules.proofs.Refusals.{first_alone}
use Rattle.bundles.specs.Operations.{write_refused, write_done}
use Rattle.markup.specs.Writing.{element_to_write, subtree_refusal, text_of, table_text, text_refusal, text_written}
use Rattle.row_refusals.specs.Refused.{row_refusal}
use Rattle.text_room.specs.Room.{fitted}
use Rattle.element_text.specs.Elements.{element_text}

-- What the first two are refused for is not changed by a third.
two-refused : (a b c : Option Refusal) (x : Refusal) → first_refusal (a ∷ b ∷ []) ≡ some x → first_refusal (a ∷ b ∷ c ∷ []) ≡ some x
two-refused none none c x e = absurd (none-ne-some x e)
two-refused none (some y) c x e = e
two-refused (some y) b c x e = e

module _ (table pool : List ℕ) (start size : ℕ) where
  pub lookup-refused : (x : Refusal) → lookup_refusal table pool start ≡ some x → text_refusal table pool start size ≡ some x
  unfolding text_refusal
  lookup-refused x e = rw e refl

  module _ (begun : lookup_refusal table pool start ≡ none) where
    pub row-refused : (x : Refusal) → row_refusal (nodes table pool) start ≡ some x → text_refusal table pool start size ≡ some x
    unfolding text_refusal row_refusal
    row-refused x e =
        rw begun
        (two-refused (level1_refusal (nodes table pool)) (subtree_refusal (nodes table pool) start (element_to_write (nodes table pool) start)) (refused_if (ltb size (length (table_text table pool start))) Refusal.TextRoom) x e)

    pub element-left : (e : ℕ) → level1_refusal (nodes table pool) ≡ none → element_to_write (nodes table pool) start ≡ some e → subtree_refusal (nodes table pool) start (some e) ≡ none → text_written table pool start size ≡ fitted size (element_text table pool e)
    unfolding text_written text_refusal text_of fitted element_text
    element-left e level2 is r =
        rw (begun, level2, is, r)
        (ap (λ o. unless_refused o (write_refused size) (write_done size (text_of (nodes table pool) (some e)))) (sym (first_alone (refused_if (ltb size (length (text_of (nodes table pool) (some e)))) Refusal.TextRoom))))
