-- Names that are put: their pieces, and the parts that are read.
-- Assumes nothing.
use Prim.Native.Nat.{ℕ, ◌+◌}
use mathlib.Core.Path.{◌≡◌, ap}
use mathlib.Core.Bool.{true, false}
use mathlib.Core.List.{List, [], ◌∷◌}
use borrow.Author.Tests.{eq-eqb, ne_eqb}
use lib.ListN.{length}
use Rattle.rules.specs.Lists.{is_empty}
use Rattle.rules.specs.Table.{DECLARATION, Node, word, xmlns_prefix}
use Rattle.rules.specs.declared.Place.{Place}
use Rattle.rules.proofs.Lists.{length-empty}
use Rattle.rows.specs.Reading.{place_at}
use Rattle.buffers.specs.Writes.{Put}
use Rattle.buffers.proofs.Writes.{put-behind}
use Rattle.markup.specs.Trees.{Qualified, qualified_name, declaration_name, attribute_name}
use Rattle.markup.specs.Markup.{name_markup}

full : (l : List ℕ) → (length l ≡ 0 → ⊥) → is_empty l ≡ false
full l h = rw (length-empty l) (ne_eqb (length l) 0 h)

bare : (l : List ℕ) → length l ≡ 0 → is_empty l ≡ true
bare l h = rw (length-empty l) (eq-eqb (length l) 0 h)

-- A name of these parts.
abbrev pub named : List ℕ → List ℕ → Qualified
named prefix local = record { prefix = prefix; local = local }

module _ {t : List ℕ} {at : ℕ} {r : ℕ} {t' : List ℕ} where
  module _ (prefix local : List ℕ) where
    pub local-put : length prefix ≡ 0 → Put t at local r t' → Put t at (name_markup (named prefix local)) r t'
    unfolding name_markup
    local-put h p = rw (bare prefix h) p

    pub name-put : (length prefix ≡ 0 → ⊥) → {r₁ r₂ : ℕ} {t₁ t₂ : List ℕ} → Put t at prefix r₁ t₁ → Put t₁ r₁ (58 ∷ []) r₂ t₂ → Put t₂ r₂ local r t' → Put t at (name_markup (named prefix local)) r t'
    unfolding name_markup
    name-put h p q s = rw (full prefix h) (put-behind p (put-behind q s))

  module _ (prefix : List ℕ) where
    pub default-put : length prefix ≡ 0 → Put t at (name_markup (named prefix (120 ∷ 109 ∷ 108 ∷ 110 ∷ 115 ∷ []))) r t' → Put t at (name_markup (declaration_name prefix)) r t'
    unfolding name_markup xmlns_prefix
    default-put h p = rw (bare prefix h) (rw (bare prefix h) at p)

    pub declared-put : (length prefix ≡ 0 → ⊥) → Put t at (name_markup (named (120 ∷ 109 ∷ 108 ∷ 110 ∷ 115 ∷ []) prefix)) r t' → Put t at (name_markup (declaration_name prefix)) r t'
    unfolding xmlns_prefix
    declared-put h p = rw (full prefix h) p

  module _ (n : Node) where
    pub declaration-put : n.type ≡ DECLARATION → Put t at (name_markup (declaration_name n.local.bytes)) r t' → Put t at (name_markup (attribute_name n)) r t'
    unfolding attribute_name
    declaration-put e p = rw (eq-eqb n.type DECLARATION e) p

    pub own-name-put : (n.type ≡ DECLARATION → ⊥) → Put t at (name_markup (qualified_name n)) r t' → Put t at (name_markup (attribute_name n)) r t'
    unfolding attribute_name
    own-name-put e p = rw (ne_eqb n.type DECLARATION e) p

  -- Parts that are read: the same pieces by what they are.
  pub name-read : {prefix local : List ℕ} (n : Node) → prefix ≡ n.prefix.bytes → local ≡ n.local.bytes → Put t at (name_markup (named prefix local)) r t' → Put t at (name_markup (qualified_name n)) r t'
  name-read n e f p = rw (← e, ← f) p

  pub prefix-read : {prefix : List ℕ} (n : Node) → prefix ≡ n.local.bytes → Put t at (name_markup (declaration_name prefix)) r t' → Put t at (name_markup (declaration_name n.local.bytes)) r t'
  prefix-read n e p = rw (← e) p

-- The words of a field, by its place.
module _ (table : List ℕ) (r field : ℕ) {place : Place} (is : place ≡ place_at table r field) where
  pub place-offset : place.offset.0 ≡ word table r field
  place-offset = ap (λ (p : Place). p.offset.0) is

  pub place-length : place.length ≡ word table r (field + 1)
  place-length = ap (λ (p : Place). p.length) is
