-- The attributes and declarations of an element, as they are written and as they are read.
-- Assumes nothing.
use Prim.Native.Nat.{ℕ, suc, ◌<◌}
use mathlib.Core.Path.{◌≡◌, refl, ◌∙◌, ap}
use mathlib.Core.Bool.{Bool, true, false, cond, ◌&&◌, ◌||◌, not, and-false}
use mathlib.Core.List.{List, [], ◌∷◌, map}
use mathlib.Core.Option.{some}
use native.Mathlib.Omega.{arith}
use lib.ListN.{length, get_or}
use lib.Dec.{eqb}
use borrow.Author.Tests.{eqb-true}
use Rattle.rules.specs.Lists.{filtered, is_one_of, is_empty, same_bytes}
use Rattle.rules.specs.Table.{ELEMENT, ATTRIBUTE, DECLARATION, LEVEL1_ELEMENT, LEVEL1_ATTRIBUTE, xmlns_prefix, Node, is_level1}
use Rattle.rules.specs.Refusals.{good_name, bad_names, bad_declaration}
use Rattle.rules.specs.Lookups.{is_declaration_of, in_scope_uri, uri_bytes}
use Rattle.rules.specs.Demands.{attribute_means_in}
use Rattle.rules.proofs.Lists.{by_cases, both_false, true-not-false, not-false, right-false, empty-equal, same_bytes-equal}
use Rattle.markup.specs.Trees.{qualified_name, declaration_name, attribute_name, is_owned, written_attribute, expanded_name, is_attribute, meant_attribute}
use Rattle.markup.specs.Reader.{is_legal}
use Rattle.markup.specs.Namespaces.{Binding, is_declaration, binding_of, bindings_of, bound_to, expanded_by, attribute_expanded_by, attributes_expanded_by}
use Rattle.markup.proofs.Productions.{Good, AllGood}
use Rattle.markup.proofs.Scopes.{binding, Alike, alike-bound}

-- What holds of every element of a list.
abbrev pub Every : {A : Type 0} → (A → Type 0) → List A → Type 0
Every P [] = Unit {0}
Every P (x ∷ xs) = P x × Every P xs

pub every : {A : Type 0} (P : A → Type 0) (d : A) (xs : List A) → ((i : ℕ) → i < length xs → P (get_or xs i d)) → Every P xs
every P d [] h = tt
every P d (x ∷ xs) h = (h 0 (omega arith), every P d xs (λ i l. h (suc i) (omega arith)))

-- A row is a declaration of element e, an attribute of it, or neither.
pub record AsDeclaration (e : ℕ) (n : Node) : Type 0 where
  pub type : n.type ≡ DECLARATION
  pub parent : n.parent ≡ e
  pub owned : is_owned e n ≡ true
  pub declaration : is_declaration_of e n ≡ true
  pub attribute : is_attribute e n ≡ false

pub record AsAttribute (e : ℕ) (n : Node) : Type 0 where
  pub type : n.type ≡ ATTRIBUTE
  pub parent : n.parent ≡ e
  pub owned : is_owned e n ≡ true
  pub declaration : is_declaration_of e n ≡ false
  pub attribute : is_attribute e n ≡ true

pub record AsOther (e : ℕ) (n : Node) : Type 0 where
  pub owned : is_owned e n ≡ false
  pub declaration : is_declaration_of e n ≡ false
  pub attribute : is_attribute e n ≡ false

pub by_kind : {P : Type 0} (e : ℕ) (n : Node) → (AsDeclaration e n → P) → (AsAttribute e n → P) → (AsOther e n → P) → P
by_kind e n d a o =
    by_cases (eqb n.parent e)
    (λ p.
    let parent = eqb-true n.parent e p in
    by_cases (eqb n.type DECLARATION)
    (λ q. let type = eqb-true n.type DECLARATION q in d (record { type = type; parent = parent; owned = rw (type, p) refl; declaration = rw (type, p) refl; attribute = rw type refl }))
    (λ q.
    by_cases (eqb n.type ATTRIBUTE)
    (λ t. let type = eqb-true n.type ATTRIBUTE t in a (record { type = type; parent = parent; owned = rw (type, p) refl; declaration = rw type refl; attribute = rw (type, p) refl }))
    (λ t. o (record { owned = rw (q, t) refl; declaration = rw q refl; attribute = rw t refl }))))
    (λ p. o (record { owned = rw p (no-owner (is_one_of (ATTRIBUTE ∷ DECLARATION ∷ []) n.type)); declaration = rw p (no-owner (eqb n.type DECLARATION)); attribute = rw p (no-owner (eqb n.type ATTRIBUTE)) }))
  where
    no-owner : (b : Bool) → (b && false) ≡ false
    no-owner true = refl
    no-owner false = refl

-- What the check, 21 and 23 leave of a row that element e owns, with what is in scope at e.
pub record Owned (scope : List Node) (e : ℕ) (n : Node) : Type 0 where
  pub names : bad_names n ≡ false
  pub value : is_owned e n ≡ true → is_legal n.value.bytes ≡ true
  pub legal : bad_declaration n ≡ false
  -- of an attribute: refusal 5, and its meaning
  pub not_xmlns : AsAttribute e n → same_bytes n.prefix.bytes xmlns_prefix ≡ false
  pub not_default : AsAttribute e n → (is_empty n.prefix.bytes && same_bytes n.local.bytes xmlns_prefix) ≡ false
  pub means : AsAttribute e n → attribute_means_in scope n ≡ true

-- Names are good.
names-good : (n : Node) (k : ℕ) → n.type ≡ k → is_level1 k ≡ false → bad_names n ≡ false → (good_name false n.prefix.bytes ≡ true) × (good_name false n.local.bytes ≡ true)
unfolding bad_names
names-good n k t l h =
    let f : is_level1 n.type ≡ false = ap is_level1 t ∙ l in
    let both = both_false ((is_one_of (ELEMENT ∷ ATTRIBUTE ∷ LEVEL1_ELEMENT ∷ LEVEL1_ATTRIBUTE ∷ []) n.type && is_empty n.local.bytes) || not (good_name (is_level1 n.type) n.prefix.bytes)) (not (good_name (is_level1 n.type) n.local.bytes)) h in
    let first = both_false (is_one_of (ELEMENT ∷ ATTRIBUTE ∷ LEVEL1_ELEMENT ∷ LEVEL1_ATTRIBUTE ∷ []) n.type && is_empty n.local.bytes) (not (good_name (is_level1 n.type) n.prefix.bytes)) both.0 in (
      rw f at (not-false (good_name (is_level1 n.type) n.prefix.bytes) first.1),
      rw f at (not-false (good_name (is_level1 n.type) n.local.bytes) both.1),
    )

name-full : (n : Node) (k : ℕ) → n.type ≡ k → is_one_of (ELEMENT ∷ ATTRIBUTE ∷ LEVEL1_ELEMENT ∷ LEVEL1_ATTRIBUTE ∷ []) k ≡ true → bad_names n ≡ false → is_empty n.local.bytes ≡ false
unfolding bad_names
name-full n k t l h =
    let both = both_false ((is_one_of (ELEMENT ∷ ATTRIBUTE ∷ LEVEL1_ELEMENT ∷ LEVEL1_ATTRIBUTE ∷ []) n.type && is_empty n.local.bytes) || not (good_name (is_level1 n.type) n.prefix.bytes)) (not (good_name (is_level1 n.type) n.local.bytes)) h in
    let first = both_false (is_one_of (ELEMENT ∷ ATTRIBUTE ∷ LEVEL1_ELEMENT ∷ LEVEL1_ATTRIBUTE ∷ []) n.type && is_empty n.local.bytes) (not (good_name (is_level1 n.type) n.prefix.bytes)) both.0 in
    right-false _ (is_empty n.local.bytes) first.0 (ap (is_one_of (ELEMENT ∷ ATTRIBUTE ∷ LEVEL1_ELEMENT ∷ LEVEL1_ATTRIBUTE ∷ [])) t ∙ l)

pub qualified-good : (n : Node) (k : ℕ) → n.type ≡ k → is_level1 k ≡ false → is_one_of (ELEMENT ∷ ATTRIBUTE ∷ LEVEL1_ELEMENT ∷ LEVEL1_ATTRIBUTE ∷ []) k ≡ true → bad_names n ≡ false → Good (qualified_name n)
qualified-good n k t l m h =
    let g = names-good n k t l h in
    record { prefix = g.0; local = g.1; full = name-full n k t m h }

declaration-good : (prefix : List ℕ) → good_name false prefix ≡ true → Good (declaration_name prefix)
unfolding good_name xmlns_prefix
declaration-good [] g = record { prefix = refl; local = refl; full = refl }
declaration-good (b ∷ bs) g = record { prefix = refl; local = g; full = refl }

attribute-good : (e : ℕ) (n : Node) → bad_names n ≡ false → is_owned e n ≡ true → Good (attribute_name n)
unfolding attribute_name
attribute-good e n h o =
    by_kind e n
    (λ d. rw d.type (declaration-good n.local.bytes (names-good n DECLARATION d.type refl h).1))
    (λ a. rw a.type (qualified-good n ATTRIBUTE a.type refl refl h))
    (λ x. absurd (true-not-false o x.owned))

pub owned-good : (scope : List Node) (e : ℕ) (ns : List Node) → Every (Owned scope e) ns → AllGood (map written_attribute (filtered (is_owned e) ns))
owned-good scope e [] h = tt
owned-good scope e (n ∷ ns) h =
    by_cases (is_owned e n)
    (λ q. rw q (record { name = attribute-good e n h.0.names q; value = h.0.value q }, owned-good scope e ns h.1))
    (λ q. rw q (owned-good scope e ns h.1))

-- Declarations are read as such, and attributes are not.
declaration-read : (prefix value : List ℕ) → (is_declaration (declaration_name prefix, value) ≡ true) × (binding_of (declaration_name prefix, value) ≡ (prefix, value))
unfolding xmlns_prefix
declaration-read [] value = (refl, refl)
declaration-read (b ∷ bs) value = (refl, refl)

-- A name whose prefix means its URI.
pub bound-name : (bindings : List Binding) (scope : List Node) → Alike bindings scope → (n : Node) → same_bytes n.prefix.bytes xmlns_prefix ≡ false → (is_empty n.uri.bytes ≡ true → is_empty n.prefix.bytes ≡ true) → same_bytes (uri_bytes (in_scope_uri scope n.prefix.bytes)) n.uri.bytes ≡ true → expanded_by bindings (qualified_name n) ≡ some (expanded_name n)
bound-name bindings scope alike n x p m =
    let bound : bound_to bindings n.prefix.bytes ≡ n.uri.bytes =
    alike-bound bindings scope alike n.prefix.bytes x ∙ same_bytes-equal (uri_bytes (in_scope_uri scope n.prefix.bytes)) n.uri.bytes m in
    rw (x, bound)
    (by_cases (is_empty n.uri.bytes)
    (λ u. rw (u, p u) refl)
    (λ u. rw (u, and-false (not (is_empty n.prefix.bytes))) refl))

means-cases : (u p m : Bool) → ((u && p) || (not u && not p && m)) ≡ true → (p ≡ true → u ≡ true) × (p ≡ false → (u ≡ false) × (m ≡ true))
means-cases true true m h = (λ e. refl, λ e. absurd (true-not-false {b = true} refl e))
means-cases true false m h = absurd (true-not-false h refl)
means-cases false true m h = absurd (true-not-false h refl)
means-cases false false m h = (λ e. absurd (true-not-false e refl), λ e. (refl, h))

module _ (scope : List Node) (e : ℕ) where
  is-declaration : (n : Node) → AsDeclaration e n → (is_declaration (written_attribute n) ≡ true) × (binding_of (written_attribute n) ≡ binding n)
  unfolding attribute_name
  is-declaration n d = rw d.type (declaration-read n.local.bytes n.value.bytes)

  is-attribute : (n : Node) → Owned scope e n → AsAttribute e n → is_declaration (written_attribute n) ≡ false
  unfolding attribute_name
  is-attribute n h a = rw (a.type, h.not_default a, h.not_xmlns a) refl

  attribute-name : (n : Node) → AsAttribute e n → attribute_name n ≡ qualified_name n
  unfolding attribute_name
  attribute-name n a = rw a.type refl

  pub bindings-read : (ns : List Node) → Every (Owned scope e) ns → bindings_of (map written_attribute (filtered (is_owned e) ns)) ≡ map binding (filtered (is_declaration_of e) ns)
  unfolding bindings_of
  bindings-read [] h = refl
  bindings-read (n ∷ ns) h =
      by_kind e n
      (λ d. let k = is-declaration n d in rw (d.owned, d.declaration, k.0, k.1, bindings-read ns h.1) refl)
      (λ a. rw (a.owned, a.declaration, is-attribute n h.0 a, bindings-read ns h.1) refl)
      (λ x. rw (x.owned, x.declaration, bindings-read ns h.1) refl)

  -- Attributes are expanded to what they mean.
  module _ (bindings : List Binding) (alike : Alike bindings scope) where
    expanded : (n : Node) → Owned scope e n → AsAttribute e n → attribute_expanded_by bindings (qualified_name n) ≡ some (expanded_name n)
    unfolding attribute_means_in
    expanded n h a =
        let m = means-cases (is_empty n.uri.bytes) (is_empty n.prefix.bytes) (same_bytes (uri_bytes (in_scope_uri scope n.prefix.bytes)) n.uri.bytes) (h.means a) in
        by_cases (is_empty n.prefix.bytes)
        (λ q. rw (q, empty-equal n.uri.bytes (m.0 q)) refl)
        (λ q. ap (λ (t : Bool). cond t (some (record { uri = []; local = n.local.bytes })) (expanded_by bindings (qualified_name n))) q ∙ (bound-name bindings scope alike n (h.not_xmlns a) (λ u. absurd (true-not-false u (m.1 q).0)) (m.1 q).1))

    pub attributes-read : (ns : List Node) → Every (Owned scope e) ns → attributes_expanded_by bindings (map written_attribute (filtered (is_owned e) ns)) ≡ some (map meant_attribute (filtered (is_attribute e) ns))
    unfolding attributes_expanded_by
    attributes-read [] h = refl
    attributes-read (n ∷ ns) h =
        by_kind e n
        (λ d. rw (d.owned, d.attribute, (is-declaration n d).0) (attributes-read ns h.1))
        (λ a. rw (a.owned, a.attribute, is-attribute n h.0 a, attribute-name n a, expanded n h.0 a, attributes-read ns h.1) refl)
        (λ x. rw (x.owned, x.attribute) (attributes-read ns h.1))
