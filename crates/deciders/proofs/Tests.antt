-- What the code asks of a row is what the definitions ask.
-- Assumes nothing.
use Rattle.std.specs.Prelude.{None}
use Prim.Native.Nat.{ℕ, ◌<◌}
use mathlib.Core.Bool.{Bool, true, false, ◌&&◌, not, and-false, and-true}
use mathlib.Core.List.{List, []}
use mathlib.Core.Path.{◌≡◌, refl, sym, ap, ◌∙◌}
use lib.Dec.{eqb}
use borrow.Author.Tests.{eqb-true, eq-eqb, ne_eqb}
use Rattle.rules.specs.Lists.{is_empty, same_bytes}
use Rattle.rules.specs.Table.{ELEMENT, TYPE, DECLARATION, xml_uri, xml_prefix, xmlns_prefix, Node, nodes, node_at, word, row_count}
use Rattle.rules.specs.Lookups.{names_uri, leads_to, names_prefix, gives_prefix, prefix_among, prefix_of_uri, or_unbound, bound}
use Rattle.rules.proofs.Lists.{both_true, same_bytes-equal, same_bytes-sym, same_bytes-empty}
use Rattle.notes.specs.Notes.{PREFIX, URI, VALUE, note_at}
use Rattle.declarations.specs.Meant.{Meant}
use Rattle.declarations.proofs.Meanings.{none-names, empty-number, prefix-names, uri-names, value-names, declared-legal, named-legal}
use Rattle.deciders.specs.Deciding.{Together}

module _ {table pool notes : List ℕ} {number : ℕ} {name : List ℕ} (m : Meant table pool notes number name) where
  -- A prefix and a URI that the check has accepted together, where the URI is the one that is asked for.
  together :
      (xml : Bool) (prefix uri : List ℕ) → xml ≡ same_bytes name xml_uri → (u : ℕ) → eqb u number ≡ same_bytes uri name → eqb u number ≡ true
      → same_bytes prefix xml_prefix ≡ same_bytes uri xml_uri → same_bytes prefix xmlns_prefix ≡ false → Together xml prefix name
  together xml prefix uri is u asked same alone other =
      let equal : uri ≡ name = same_bytes-equal uri name (sym asked ∙ same) in
      record { prefix_xml = is ∙ sym (alone ∙ ap (λ (b : List ℕ). same_bytes b xml_uri) equal); uri_xml = is; not_xmlns = other }

  module _ (r : ℕ) (within : r < row_count table) where
    pub uri-is : {u : ℕ} → u ≡ note_at notes r URI → eqb u number ≡ same_bytes (node_at table pool r).uri.bytes name
    uri-is read = rw read (m.asked _ _ (uri-names m r within))

    pub value-is : (node_at table pool r).type ≡ DECLARATION → {v : ℕ} → v ≡ note_at notes r VALUE → eqb v number ≡ same_bytes (node_at table pool r).value.bytes name
    value-is type read = rw read (m.asked _ _ (value-names m r within type))

    -- What an element's own name says.
    module _ (kind : ℕ) (type : kind ≡ word table r TYPE) where
      pub names-uri :
          (u p : ℕ) → u ≡ note_at notes r URI → p ≡ note_at notes r PREFIX
          → ((eqb kind ELEMENT && not (eqb u 0)) && eqb p number) ≡ names_uri name (node_at table pool r)
      names-uri u p uri prefix = rw (type, uri, prefix, empty-number m (uri-names m r within), m.asked (note_at notes r PREFIX) (node_at table pool r).prefix.bytes (prefix-names m r within)) refl

      module _ (path : List ℕ) (u : ℕ) (uri : u ≡ note_at notes r URI) where
        by :
            (t : Bool) → (eqb kind ELEMENT && eqb u number) ≡ t
            → (t && not (is_empty (node_at table pool r).prefix.bytes) && leads_to (nodes table pool) path name (node_at table pool r).prefix.bytes) ≡ names_prefix (nodes table pool) path name (node_at table pool r)
        by t e = rw (← e, type, uri-is uri) refl

        pub names-prefix-by :
            (eqb kind ELEMENT && eqb u number) ≡ true
            → (not (is_empty (node_at table pool r).prefix.bytes) && leads_to (nodes table pool) path name (node_at table pool r).prefix.bytes) ≡ names_prefix (nodes table pool) path name (node_at table pool r)
        names-prefix-by e = by true e

        pub names-together : (eqb kind ELEMENT && eqb u number) ≡ true → (xml : Bool) → xml ≡ same_bytes name xml_uri → Together xml (node_at table pool r).prefix.bytes name
        names-together e xml is =
            let both = both_true (eqb kind ELEMENT) (eqb u number) e in
            let element : (node_at table pool r).type ≡ ELEMENT = sym type ∙ eqb-true kind ELEMENT both.0 in
            let legal = named-legal m r within element in
            together xml (node_at table pool r).prefix.bytes (node_at table pool r).uri.bytes is u (uri-is uri) both.1 (legal.element_xml element) legal.not_xmlns

        pub names-prefix-other : (eqb kind ELEMENT && eqb u number) ≡ false → false ≡ names_prefix (nodes table pool) path name (node_at table pool r)
        names-prefix-other e = by false e

    -- A declaration's prefix, as an answer for a URI.
    module _ (type : word table r TYPE ≡ DECLARATION) (path : List ℕ) (v : ℕ) (value : v ≡ note_at notes r VALUE) where
      pub gives-by :
          v ≡ number
          → (not (is_empty (node_at table pool r).local.bytes) && leads_to (nodes table pool) path name (node_at table pool r).local.bytes) ≡ gives_prefix (nodes table pool) path name (node_at table pool r)
      gives-by same = rw (sym (value-is type value) ∙ eq-eqb v number same, and-true) refl

      pub gives-together : v ≡ number → (xml : Bool) → xml ≡ same_bytes name xml_uri → Together xml (node_at table pool r).local.bytes name
      gives-together same xml is =
          let legal = declared-legal m r within type in
          together xml (node_at table pool r).local.bytes (node_at table pool r).value.bytes is v (value-is type value) (eq-eqb v number same) legal.xml_alone legal.not_xmlns

      pub gives_other : (v ≡ number → ⊥) → false ≡ gives_prefix (nodes table pool) path name (node_at table pool r)
      gives_other other = rw (sym (value-is type value) ∙ ne_eqb v number other, and-false) refl

  -- The empty URI has no prefix.
  empty-asked : eqb 0 number ≡ is_empty name
  empty-asked = m.asked 0 [] (none-names m) ∙ same_bytes-sym [] name ∙ same_bytes-empty name

  module _ (ns : List Node) (path : List ℕ) where
    pub prefix-empty : number ≡ 0 → None ≡ bound (or_unbound (prefix_of_uri ns name path))
    unfolding prefix_of_uri
    prefix-empty zero? = rw (sym empty-asked ∙ eq-eqb 0 number (sym zero?)) refl

    pub prefix-asked : (number ≡ 0 → ⊥) → prefix_among ns path name path ≡ prefix_of_uri ns name path
    unfolding prefix_of_uri
    prefix-asked full = rw (sym empty-asked ∙ ne_eqb 0 number (λ z. full (sym z))) refl
