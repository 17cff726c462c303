-- Pieces of markup that are put one behind the other.
-- Assumes nothing.
use Prim.Native.Nat.{ℕ}
use mathlib.Core.Bool.{true}
use mathlib.Core.List.{List, [], ◌∷◌}
use Rattle.rules.specs.Lists.{gathered}
use Rattle.buffers.specs.Writes.{Put}
use Rattle.buffers.proofs.Writes.{put-behind}
use Rattle.escapes.specs.Escapes.{escaped}
use Rattle.markup.specs.Trees.{Qualified}
use Rattle.markup.specs.Markup.{name_markup, attribute_markup, start_tag, end_tag}

module _ {t : List ℕ} {at : ℕ} {r : ℕ} {t' : List ℕ} where
  pub attribute-put :
      (a : Qualified × List ℕ) {r₁ r₂ r₃ r₄ : ℕ} {t₁ t₂ t₃ t₄ : List ℕ} → Put t at (32 ∷ []) r₁ t₁ → Put t₁ r₁ (name_markup a.0) r₂ t₂ → Put t₂ r₂ (61 ∷ 34 ∷ []) r₃ t₃
      → Put t₃ r₃ (escaped true a.1) r₄ t₄ → Put t₄ r₄ (34 ∷ []) r t' → Put t at (attribute_markup a) r t'
  unfolding attribute_markup
  attribute-put a space name equals value quote = put-behind (put-behind (put-behind space name) (put-behind equals value)) quote

  pub end-put : (n : Qualified) {r₁ r₂ : ℕ} {t₁ t₂ : List ℕ} → Put t at (60 ∷ 47 ∷ []) r₁ t₁ → Put t₁ r₁ (name_markup n) r₂ t₂ → Put t₂ r₂ (62 ∷ []) r t' → Put t at (end_tag n) r t'
  unfolding end_tag
  end-put n opens name closes = put-behind (put-behind opens name) closes

pub start-put :
    (n : Qualified) (owned : List (Qualified × List ℕ)) {t : List ℕ} {at r r₁ r₂ r₃ : ℕ} {t' t₁ t₂ t₃ : List ℕ} → Put t at (60 ∷ []) r₁ t₁ → Put t₁ r₁ (name_markup n) r₂ t₂
    → Put t₂ r₂ (gathered attribute_markup owned) r₃ t₃ → Put t₃ r₃ (62 ∷ []) r t' → Put t at (start_tag n owned) r t'
unfolding start_tag
start-put n owned opens name attributes closes = put-behind (put-behind (put-behind opens name) attributes) closes
