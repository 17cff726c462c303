-- What the numbers say of an element and of an attribute: whether it means its URI, and what step 3 does.
-- Assumes nothing.
use Prim.Native.Nat.{ℕ}
use mathlib.Core.Path.{◌≡◌, refl, sym, ◌∙◌, ap, subst}
use mathlib.Core.Logic.{◌⊎◌, inl, inr}
use mathlib.Core.Bool.{Bool, true, false, ◌&&◌, not}
use mathlib.Core.List.{List, map}
use lib.ListN.{length}
use lib.Dec.{eqb}
use borrow.Author.Tests.{eqb-false, eq-eqb, ne_eqb}
use Rattle.rules.specs.Lists.{first_that, is_empty, same_bytes}
use Rattle.rules.specs.Table.{xml_prefix, xmlns_prefix, xml_uri, Node}
use Rattle.rules.specs.Lookups.{declares, in_scope_uri, uri_bytes, serves, prefix_of, in_scope_prefix}
use Rattle.rules.specs.Normalization.{numbered_prefix, least_free, keep, take_declared, take_built_in, declare_own, make_numbered, repair_by_declaring, repair_by, repair_of}
use Rattle.rules.specs.Demands.{element_means_in}
use Rattle.rules.proofs.Lists.{by_cases, true-not-false, same_bytes-equal, equal-same_bytes}
use Rattle.rules.proofs.Accepted.{NamespaceAccepted}
use Rattle.rules.proofs.Repairs.{xml-means}
use Rattle.rules.proofs.Declarations.{legal}
use Rattle.numbers.specs.Numbers.{Names}
use Rattle.stacks.specs.Scopes.{nearest, serving, first}
use Rattle.bindings.specs.Spelled.{Here, row_at, number_at}
use Rattle.bindings.proofs.Scopes as scopes

module _ {spelling : ℕ → List ℕ} {names : ℕ} {pre val : ℕ → ℕ} {row : ℕ → Node} {stack : List ℕ} {S : List Node} (h : Here spelling names pre val row stack S) where
  -- The nearest declaration of a prefix, and the first that serves a URI.
  pub nearest-declared : {p : ℕ} {prefix : List ℕ} → Names spelling names p prefix → first_that (declares prefix) S ≡ row_at row (nearest pre stack p)
  nearest-declared {p} {prefix} is =
      ap (first_that (declares prefix)) (sym h.rows) ∙ scopes.first-declared h.spells pre val row h.scope h.each is ∙ ap (row_at row) (sym (h.alike.nearest p))

  pub nearest-served : {u : ℕ} {uri : List ℕ} → Names spelling names u uri → same_bytes uri xml_uri ≡ false → first_that (serves S uri) S ≡ row_at row (first (serving pre val stack u))
  nearest-served {u} {uri} is other =
      ap (λ (l : List Node). first_that (serves l uri) l) (sym h.rows) ∙ scopes.first-served h.spells pre val row h.scope h.each is other ∙ ap (λ (l : List ℕ). row_at row (first l)) (sym (h.alike.serving u))

  -- What a prefix means, by its number.
  abbrev meaning : ℕ → ℕ
  meaning p = number_at val (nearest pre stack p)

  pub means-number : {p : ℕ} {prefix : List ℕ} → Names spelling names p prefix → same_bytes prefix xml_prefix ≡ false → same_bytes prefix xmlns_prefix ≡ false → Names spelling names (meaning p) (uri_bytes (in_scope_uri S prefix))
  means-number {p} {prefix} is other another =
      subst (λ (l : List Node). Names spelling names (meaning p) (uri_bytes (in_scope_uri l prefix))) h.rows
      (subst (λ (d : ℕ). Names spelling names (number_at val d) (uri_bytes (in_scope_uri (map row h.scope) prefix))) (sym (h.alike.nearest p))
      (scopes.means h.spells pre val row h.scope h.each is other another))

  -- A declaration of a prefix that is not empty has a value.
  valued : (p : ℕ) → (p ≡ 0 → ⊥) → (nearest pre stack p ≡ 0 → ⊥) → val (nearest pre stack p) ≡ 0 → ⊥
  valued p prefixed bound none? =
      let d = nearest pre h.scope p in
      let same = h.alike.nearest p in
      let near = scopes.nearest-some h.spells pre val row h.scope h.each p (λ e. bound (same ∙ e)) in
      let g = near.1 in
      let full : is_empty (row d).local.bytes ≡ false = scopes.blank-test h.spells g.prefix ∙ ne_eqb (pre d) 0 (λ e. prefixed (sym near.0 ∙ e)) in
      let empty : is_empty (row d).value.bytes ≡ true = scopes.blank-test h.spells g.value ∙ eq-eqb (val d) 0 (ap val (sym same) ∙ none?) in
      true-not-false empty ((legal (row d) g.kind g.legal).valued full)

  -- An element or attribute n, whose prefix and URI have the numbers p and u.
  module _ (n : Node) (good : NamespaceAccepted n) {p u : ℕ} (prefix : Names spelling names p n.prefix.bytes) (uri : Names spelling names u n.uri.bytes) where
    abbrev means? : Bool
    means? = same_bytes (uri_bytes (in_scope_uri S n.prefix.bytes)) n.uri.bytes

    means-xml : same_bytes n.prefix.bytes xml_prefix ≡ true → means? ≡ true
    means-xml is =
        equal-same_bytes
        (ap (λ (b : List ℕ). uri_bytes (in_scope_uri S b)) (same_bytes-equal n.prefix.bytes xml_prefix is) ∙ xml-means S
        ∙ sym (same_bytes-equal n.uri.bytes xml_uri (good.xml_means_xml is)))

    means-other : same_bytes n.prefix.bytes xml_prefix ≡ false → means? ≡ eqb (meaning p) u
    means-other other = scopes.same_names h.spells (means-number prefix other good.not_xmlns) uri

    means-equal : meaning p ≡ u → means? ≡ true
    means-equal is =
        by_cases (same_bytes n.prefix.bytes xml_prefix)
        (λ q. means-xml q)
        (λ q. means-other q ∙ eq-eqb (meaning p) u is)

    -- Steps 1 and 2.
    pub element-equal : meaning p ≡ u → element_means_in S n ≡ true
    unfolding element_means_in
    element-equal is = means-equal is

    pub element-xml : same_bytes n.prefix.bytes xml_prefix ≡ true → element_means_in S n ≡ true
    unfolding element_means_in
    element-xml is = means-xml is

    pub element-differs : (meaning p ≡ u → ⊥) → same_bytes n.prefix.bytes xml_prefix ≡ false → element_means_in S n ≡ false
    unfolding element_means_in
    element-differs not_equal other = means-other other ∙ ne_eqb (meaning p) u not_equal

    -- Step 3.
    bare : (b : ℕ) (bytes : List ℕ) → Names spelling names b bytes → is_empty bytes ≡ eqb b 0
    bare b bytes is = scopes.blank-test h.spells is

    pub attribute-bare : u ≡ 0 → repair_of S n ≡ keep
    unfolding repair_of
    attribute-bare none? = rw (bare u n.uri.bytes uri, eq-eqb u 0 none?) refl

    module _ (full : u ≡ 0 → ⊥) where
      full-uri : is_empty n.uri.bytes ≡ false
      full-uri = bare u n.uri.bytes uri ∙ ne_eqb u 0 full

      pub attribute-equal : (p ≡ 0 → ⊥) → meaning p ≡ u → repair_of S n ≡ keep
      unfolding repair_of
      attribute-equal prefixed is = rw (full-uri, bare p n.prefix.bytes prefix, ne_eqb p 0 prefixed, means-equal is) refl

      pub attribute-xml-kept : same_bytes n.prefix.bytes xml_prefix ≡ true → repair_of S n ≡ keep
      unfolding repair_of xml_prefix
      attribute-xml-kept is =
          let same = same_bytes-equal n.prefix.bytes xml_prefix is in
          rw (full-uri, means-xml is, ap is_empty same) refl

      module _ (not_equal : (p ≡ 0 → ⊥) → meaning p ≡ u → ⊥) (other : same_bytes n.prefix.bytes xml_prefix ≡ false) where
        differs : (not (is_empty n.prefix.bytes) && means?) ≡ false
        differs =
            by_cases (eqb p 0)
            (λ q. rw (bare p n.prefix.bytes prefix, q) refl)
            (λ q. rw (bare p n.prefix.bytes prefix, q, means-other other) (ne_eqb (meaning p) u (not_equal (eqb-false p 0 q))))

        pub attribute-xml : same_bytes n.uri.bytes xml_uri ≡ true → repair_of S n ≡ take_built_in xml_prefix
        unfolding repair_of in_scope_prefix
        attribute-xml is = rw (full-uri, differs, is) refl

        module _ (not-xml : same_bytes n.uri.bytes xml_uri ≡ false) where
          looked : repair_of S n ≡ repair_by (prefix_of (row_at row (first (serving pre val stack u)))) (repair_by_declaring S n)
          unfolding repair_of in_scope_prefix
          looked = rw (full-uri, differs, not-xml, good.not_xmlns_uri, nearest-served uri not-xml) refl

          pub attribute-taken : (first (serving pre val stack u) ≡ 0 → ⊥) → repair_of S n ≡ take_declared (row (first (serving pre val stack u))).local
          attribute-taken some? = looked ∙ rw (ne_eqb (first (serving pre val stack u)) 0 some?) refl

          module _ (none? : first (serving pre val stack u) ≡ 0) where
            unserved : repair_of S n ≡ repair_by_declaring S n
            unserved = looked ∙ rw (eq-eqb (first (serving pre val stack u)) 0 none?) refl

            pub attribute-declared : (p ≡ 0 → ⊥) → nearest pre stack p ≡ 0 → repair_of S n ≡ declare_own
            attribute-declared prefixed free =
                let m = means-number prefix other good.not_xmlns in
                unserved
                ∙ rw (bare p n.prefix.bytes prefix, ne_eqb p 0 prefixed, bare (meaning p) (uri_bytes (in_scope_uri S n.prefix.bytes)) m, eq-eqb (nearest pre stack p) 0 free) refl

            pub attribute-numbered : (p ≡ 0) ⊎ (nearest pre stack p ≡ 0 → ⊥) → repair_of S n ≡ make_numbered (numbered_prefix (least_free (length S) S 1))
            attribute-numbered (inl bare?) = unserved ∙ rw (bare p n.prefix.bytes prefix, eq-eqb p 0 bare?) refl
            attribute-numbered (inr bound) =
                by_cases (eqb p 0)
                (λ q. unserved ∙ rw (bare p n.prefix.bytes prefix, q) refl)
                (λ q.
                let m = means-number prefix other good.not_xmlns in
                unserved
                ∙ rw (bare p n.prefix.bytes prefix, q, bare (meaning p) (uri_bytes (in_scope_uri S n.prefix.bytes)) m, ne_eqb (nearest pre stack p) 0 bound, ne_eqb (val (nearest pre stack p)) 0 (valued p (eqb-false p 0 q) bound)) refl)
