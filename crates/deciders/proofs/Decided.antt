-- The URI that a row decides, and its number.
-- Assumes nothing.
use Rattle.std.specs.Prelude.{Some, None}
use Prim.Native.Nat.{ℕ, ◌<◌}
use mathlib.Core.Bool.{Bool, true, false, cond, ◌&&◌, not}
use mathlib.Core.List.{List, [], ◌∷◌}
use mathlib.Core.Option.{Option, none, some}
use mathlib.Core.Path.{◌≡◌, refl, sym, ap, ◌∙◌}
use lib.Dec.{eqb, ltb}
use lib.ListN.{length}
use native.Mathlib.Nat.{not-suc-le-zero}
use borrow.Author.Tests.{eqb-true, eq-eqb, ne_eqb, ltb-true, ltb-false}
use Rattle.rules.specs.Lists.{is_empty, same_bytes}
use Rattle.rules.specs.Table.{ELEMENT, TYPE, DECLARATION, URI, VALUE, xml_prefix, xmlns_prefix, xml_uri, Field, Node, nodes, node_at, field_at, word, row_count}
use Rattle.rules.specs.Lookups.{has_name, unless_empty, declared, unbound, or_unbound, uri_bytes, names_uri, uri_of_prefix, leads_to, bound}
use Rattle.rules.specs.declared.Place.{Place}
use Rattle.rules.proofs.Lists.{by_cases, both_true, not-true, same_bytes-sym, same_bytes-empty}
use Rattle.notes.specs.Notes.{URI as URI_NUMBER, VALUE as VALUE_NUMBER, note_at}
use Rattle.numbers.specs.Numbers.{Names}
use Rattle.rows.specs.Reading.{place_at, found}
use Rattle.declarations.specs.Meant.{Meant}
use Rattle.declarations.proofs.Rows.{found_some, found_none}
use Rattle.declarations.proofs.Meanings.{none-names, empty-number, uri-names, value-names}
use Rattle.declarations.proofs.Served.{value-bytes}
use Rattle.deciders.specs.Deciding.{uri_field, decided, decided_number, Ordinary, Together}
use Rattle.rules.specs.declared.Bound.{Bound}

-- What is read of a row.
module _ (table notes : List ℕ) (r : ℕ) where
  pub number-missing : ltb r (row_count table) ≡ false → 0 ≡ decided_number table notes r
  unfolding decided_number
  number-missing is = rw is refl

  module _ (within : ltb r (row_count table) ≡ true) (kind : ℕ) (type : kind ≡ word table r TYPE) where
    pub number-value : kind ≡ DECLARATION → note_at notes r VALUE_NUMBER ≡ decided_number table notes r
    unfolding decided_number
    number-value is = rw (within, ← type, eq-eqb kind DECLARATION is) refl

    pub number-uri : (kind ≡ DECLARATION → ⊥) → note_at notes r URI_NUMBER ≡ decided_number table notes r
    unfolding decided_number
    number-uri other = rw (within, ← type, ne_eqb kind DECLARATION other) refl

  pub number-within : (decided_number table notes r ≡ 0 → ⊥) → r < row_count table
  unfolding decided_number
  number-within full =
      by_cases (ltb r (row_count table))
      (λ t. ltb-true r (row_count table) t)
      (λ t. absurd (full (rw t refl)))

-- What the row decides, as an answer.
module _ {table pool notes : List ℕ} {number : ℕ} {name : List ℕ} (m : Meant table pool notes number name) (r : ℕ) where
  pub decided-names : Names m.spelling m.last (decided_number table notes r) (uri_bytes (decided (found (nodes table pool) r)))
  unfolding decided_number
  decided-names =
      by_cases (ltb r (row_count table))
      (λ t.
      let within = ltb-true r (row_count table) t in
      rw (t, found_some table pool r within)
      (by_cases (eqb (word table r TYPE) DECLARATION)
      (λ k. rw (k, value-bytes (node_at table pool r).value) (value-names m r within (eqb-true (word table r TYPE) DECLARATION k)))
      (λ k. rw (k, value-bytes (node_at table pool r).uri) (uri-names m r within))))
      (λ t. rw (t, found_none table pool r (ltb-false r (row_count table) t)) (none-names m))

  bytes-none : (o : Option Node) → is_empty (uri_bytes (decided o)) ≡ true → decided o ≡ unbound
  bytes-none none is = refl
  bytes-none (some n) is =
      by_cases (is_empty (uri_field n).bytes)
      (λ t. rw t refl)
      (λ t. let f : is_empty (uri_field n).bytes ≡ true = ap is_empty (sym (value-bytes (uri_field n))) ∙ is in rw f refl)

  pub decided-none : (n : ℕ) → n ≡ decided_number table notes r → n ≡ 0 → None ≡ bound (decided (found (nodes table pool) r))
  decided-none n read zero? =
      sym (ap bound (bytes-none (found (nodes table pool) r) (sym (empty-number m decided-names) ∙ eq-eqb (decided_number table notes r) 0 (sym read ∙ zero?))))

  -- The row has a field that is not empty.
  module _ (n : ℕ) (read : n ≡ decided_number table notes r) (full : n ≡ 0 → ⊥) where
    within : r < row_count table
    within = number-within table notes r (λ z. full (read ∙ z))

    filled : is_empty (uri_bytes (decided (found (nodes table pool) r))) ≡ false
    filled = sym (empty-number m decided-names) ∙ ne_eqb (decided_number table notes r) 0 (λ z. full (read ∙ z))

    decided-filled : (f : Field) → decided (found (nodes table pool) r) ≡ or_unbound (unless_empty f) → decided (found (nodes table pool) r) ≡ declared f
    decided-filled f is =
        let empty : is_empty f.bytes ≡ false = sym (ap is_empty (ap uri_bytes is ∙ value-bytes f)) ∙ filled in
        is ∙ ap (λ t. or_unbound (cond t none (some f))) empty

    pub decided-value : word table r TYPE ≡ DECLARATION → (p : Place) → p ≡ place_at table r VALUE → Some (Bound.At p) ≡ bound (decided (found (nodes table pool) r))
    decided-value type p is =
        ap (λ (p : Place). Some (Bound.At p)) is
        ∙ sym (ap bound (decided-filled (field_at table pool r VALUE) (ap decided (found_some table pool r within) ∙ ap (λ t. or_unbound (unless_empty (cond t (field_at table pool r VALUE) (field_at table pool r URI)))) (eq-eqb (word table r TYPE) DECLARATION type))))

    pub decided-uri : (word table r TYPE ≡ DECLARATION → ⊥) → (p : Place) → p ≡ place_at table r URI → Some (Bound.At p) ≡ bound (decided (found (nodes table pool) r))
    decided-uri other p is =
        ap (λ (p : Place). Some (Bound.At p)) is
        ∙ sym (ap bound (decided-filled (field_at table pool r URI) (ap decided (found_some table pool r within) ∙ ap (λ t. or_unbound (unless_empty (cond t (field_at table pool r VALUE) (field_at table pool r URI)))) (ne_eqb (word table r TYPE) DECLARATION other))))

-- A declaration decides by its value, an element whose own name answers by its URI.
module _ (table pool : List ℕ) (r : ℕ) (within : r < row_count table) where
  pub declared-decides : (node_at table pool r).type ≡ DECLARATION → decided (found (nodes table pool) r) ≡ or_unbound (unless_empty (node_at table pool r).value)
  declared-decides type =
      ap decided (found_some table pool r within)
      ∙ ap (λ t. or_unbound (unless_empty (cond t (node_at table pool r).value (node_at table pool r).uri))) (eq-eqb (node_at table pool r).type DECLARATION type)

  pub named-decides : (prefix : List ℕ) → names_uri prefix (node_at table pool r) ≡ true → decided (found (nodes table pool) r) ≡ declared (node_at table pool r).uri
  named-decides prefix is =
      let n = node_at table pool r in
      let named = (both_true (has_name n && not (is_empty n.uri.bytes)) (same_bytes n.prefix.bytes prefix) is).0 in
      let both = both_true (has_name n) (not (is_empty n.uri.bytes)) named in
      let element : n.type ≡ ELEMENT = eqb-true n.type ELEMENT both.0 in
      ap decided (found_some table pool r within)
      ∙ ap (λ (k : ℕ). or_unbound (unless_empty (cond (eqb k DECLARATION) n.value n.uri))) element
      ∙ ap (λ t. or_unbound (cond t none (some n.uri))) (not-true (is_empty n.uri.bytes) both.1)

-- The built-ins, where there is a start element.
module _ (ns : List Node) (prefix : List ℕ) where
  pub uri-xml : (path : List ℕ) → 0 < length path → same_bytes prefix xml_prefix ≡ true → Some Bound.Xml ≡ bound (uri_of_prefix ns prefix path)
  unfolding uri_of_prefix
  uri-xml [] start is = absurd (not-suc-le-zero start)
  uri-xml (e ∷ outward) start is = rw is refl

  pub uri-xmlns : (path : List ℕ) → 0 < length path → same_bytes prefix xml_prefix ≡ false → same_bytes prefix xmlns_prefix ≡ true → Some Bound.Xmlns ≡ bound (uri_of_prefix ns prefix path)
  unfolding uri_of_prefix
  uri-xmlns [] start other is = absurd (not-suc-le-zero start)
  uri-xmlns (e ∷ outward) start other is = rw (other, is) refl

-- xml leads to its URI.
xml-leads :
    (ns : List Node) (path : List ℕ) → 0 < length path → (prefix uri : List ℕ) → same_bytes prefix xml_prefix ≡ true → same_bytes uri xml_uri ≡ true
    → true ≡ leads_to ns path uri prefix
unfolding leads_to uri_of_prefix
xml-leads ns [] start prefix uri is same = absurd (not-suc-le-zero start)
xml-leads ns (e ∷ outward) start prefix uri is same = rw is (sym (same_bytes-sym xml_uri uri ∙ same))

-- The URI that is asked for is the one that a row decides.
module _ {table pool notes : List ℕ} {uri : ℕ} {name : List ℕ} (m : Meant table pool notes uri name) (path : List ℕ) (r n : ℕ) (read : n ≡ decided_number table notes r) where
  leads-asked : (other : List ℕ) → decided (found (nodes table pool) r) ≡ uri_of_prefix (nodes table pool) other path → eqb n uri ≡ leads_to (nodes table pool) path name other
  unfolding leads_to
  leads-asked other is =
      ap (λ (k : ℕ). eqb k uri) read
      ∙ m.asked (decided_number table notes r) (uri_bytes (decided (found (nodes table pool) r))) (decided-names m r)
      ∙ ap (λ b. same_bytes (uri_bytes b) name) is

-- A prefix that leads to a URI.
module _ {table pool notes : List ℕ} {uri prefix : ℕ} {name other : List ℕ} (m : Meant table pool notes uri name) (q : Meant table pool notes prefix other) (path : List ℕ) where
  empty-asked : eqb 0 prefix ≡ is_empty other
  empty-asked = q.asked 0 [] (none-names q) ∙ same_bytes-sym [] other ∙ same_bytes-empty other

  pub leads-default : prefix ≡ 0 → false ≡ (not (is_empty other) && leads_to (nodes table pool) path name other)
  leads-default zero? = rw (← empty-asked, eq-eqb 0 prefix (sym zero?)) refl

  -- The prefix is not empty: xml, built in, or another, whose URI a row decides.
  module _ (full : prefix ≡ 0 → ⊥) (xml : Bool) (together : Together xml other name) where
    not-empty : (t : Bool) → t ≡ leads_to (nodes table pool) path name other → t ≡ (not (is_empty other) && leads_to (nodes table pool) path name other)
    not-empty t is = rw (← empty-asked, ne_eqb 0 prefix (λ z. full (sym z))) is

    pub leads-xml : xml ≡ true → 0 < length path → true ≡ (not (is_empty other) && leads_to (nodes table pool) path name other)
    leads-xml is start = not-empty true (xml-leads (nodes table pool) path start other name (sym together.prefix_xml ∙ is) (sym together.uri_xml ∙ is))

    pub ordinary : xml ≡ false → Ordinary other
    ordinary is = record { not_xml = sym together.prefix_xml ∙ is; not_xmlns = together.not_xmlns }

    pub leads-full :
        (r n : ℕ) → n ≡ decided_number table notes r → decided (found (nodes table pool) r) ≡ uri_of_prefix (nodes table pool) other path
        → eqb n uri ≡ (not (is_empty other) && leads_to (nodes table pool) path name other)
    leads-full r n read is = not-empty (eqb n uri) (leads-asked m path r n read other is)
