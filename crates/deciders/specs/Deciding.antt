-- The URI that a row decides: a declaration by its value, an element by its own name. A missing row decides none.
use Rattle.std.specs.Prelude.{ℕ, ◌<◌, Bool, false, cond, List, ◌≡◌, eqb, ltb, length}
use Rattle.std.proofs.Math.Option.{Option, none, some}
use Rattle.rules.specs.Lists.{same_bytes}
use Rattle.rules.specs.Table.{TYPE, DECLARATION, xml_uri, xml_prefix, xmlns_prefix, Field, Node, word, row_count}
use Rattle.rules.specs.Lookups.{unless_empty, Binding, unbound, or_unbound}
use Rattle.notes.specs.Notes.{URI, VALUE, note_at}
use Rattle.declarations.specs.Along.{Along}

abbrev pub uri_field : Node → Field
uri_field n = cond (eqb n.type DECLARATION) n.value n.uri

abbrev pub decided : Option Node → Binding
decided none = unbound
decided (some n) = or_unbound (unless_empty (uri_field n))

-- and its number
unfoldable pub decided_number : List ℕ → List ℕ → ℕ → ℕ
decided_number table notes r =
    cond (ltb r (row_count table)) (cond (eqb (word table r TYPE) DECLARATION) (note_at notes r VALUE) (note_at notes r URI)) 0

-- A path that has a start element.
pub record Started (table notes path : List ℕ) : Type 0 where
  pub along : Along table notes path
  pub start : 0 < length path

-- A prefix that is not built in.
pub record Ordinary (prefix : List ℕ) : Type 0 where
  pub not_xml : same_bytes prefix xml_prefix ≡ false
  pub not_xmlns : same_bytes prefix xmlns_prefix ≡ false

-- A prefix and a URI that stand together in a row: xml with its URI, or neither; and the prefix is not xmlns.
pub record Together (xml : Bool) (prefix uri : List ℕ) : Type 0 where
  pub prefix_xml : xml ≡ same_bytes prefix xml_prefix
  pub uri_xml : xml ≡ same_bytes uri xml_uri
  pub not_xmlns : same_bytes prefix xmlns_prefix ≡ false
