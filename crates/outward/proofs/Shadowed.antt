-- A prefix that the prefix lookup answers leads to the URI from the start element: a shadowed prefix is never answered.
-- Assumes nothing.
use Prim.Native.Nat.{ℕ}
use mathlib.Core.Bool.{true, ◌&&◌, not}
use mathlib.Core.List.{List, [], ◌∷◌}
use mathlib.Core.Option.{Option, none, some, none-ne-some}
use mathlib.Core.Path.{◌≡◌, refl, sym, ap, ◌∙◌}
use Rattle.rules.specs.Lists.{first_that, is_empty, same_bytes}
use Rattle.rules.specs.Table.{Field, Node, node}
use Rattle.rules.specs.Lookups.{has_name, uri_bytes, own_declarations, uri_of_prefix, leads_to, declared_prefix_or, names_prefix, gives_prefix, prefix_among, prefix_of_uri}
use Rattle.rules.proofs.Lists.{by_cases, both_true, same_bytes-equal, first_that-passes}

module _ (ns : List Node) (start uri : List ℕ) where
  own-leads : (element : Node) → names_prefix ns start uri element ≡ true → leads_to ns start uri element.prefix.bytes ≡ true
  own-leads element is =
      (both_true (has_name element && same_bytes element.uri.bytes uri && not (is_empty element.prefix.bytes))
      (leads_to ns start uri element.prefix.bytes) is).1

  declared-leads : (d : Node) → gives_prefix ns start uri d ≡ true → leads_to ns start uri d.local.bytes ≡ true
  declared-leads d is =
      (both_true (not (is_empty d.local.bytes) && same_bytes d.value.bytes uri) (leads_to ns start uri d.local.bytes) is).1

  or-leads :
      (o : Option Node) (further : Option Field) (f : Field) → ((d : Node) → o ≡ some d → gives_prefix ns start uri d ≡ true)
      → (further ≡ some f → leads_to ns start uri f.bytes ≡ true) → declared_prefix_or o further ≡ some f → leads_to ns start uri f.bytes ≡ true
  or-leads none further f own later is = later is
  or-leads (some d) further f own later is =
      let same : d.local ≡ f = cc in
      ap (λ (g : Field). leads_to ns start uri g.bytes) (sym same) ∙ declared-leads d (own d refl)

  among-leads : (els : List ℕ) (f : Field) → prefix_among ns start uri els ≡ some f → leads_to ns start uri f.bytes ≡ true
  unfolding prefix_among
  among-leads [] f is = absurd (none-ne-some f is)
  among-leads (e ∷ outward) f is =
      by_cases (names_prefix ns start uri (node ns e))
      (λ named.
      let found : some (node ns e).prefix ≡ some f = rw named at is in
      let same : (node ns e).prefix ≡ f = cc in
      ap (λ (g : Field). leads_to ns start uri g.bytes) (sym same) ∙ own-leads (node ns e) named)
      (λ other.
      or-leads (first_that (gives_prefix ns start uri) (own_declarations ns e)) (prefix_among ns start uri outward) f
      (λ d found. first_that-passes (gives_prefix ns start uri) (own_declarations ns e) found)
      (among-leads outward f) (rw other at is))

-- The URI of an answered prefix, looked up from the start element, is the one that was asked for.
pub answer-leads :
    (ns : List Node) (start uri : List ℕ) (f : Field) → prefix_of_uri ns uri start ≡ some f → uri_bytes (uri_of_prefix ns f.bytes start) ≡ uri
unfolding prefix_of_uri leads_to
answer-leads ns start uri f is =
    by_cases (is_empty uri) (λ empty. absurd (none-ne-some f (rw empty at is)))
    (λ full. same_bytes-equal (uri_bytes (uri_of_prefix ns f.bytes start)) uri (among-leads ns start uri start f (rw full at is)))

-- A shadowed prefix, whose URI from the start element is another, is never answered.
pub shadowed-never :
    (ns : List Node) (start uri : List ℕ) (f : Field) → (uri_bytes (uri_of_prefix ns f.bytes start) ≡ uri → ⊥) → prefix_of_uri ns uri start ≡ some f → ⊥
shadowed-never ns start uri f other is = other (answer-leads ns start uri f is)
