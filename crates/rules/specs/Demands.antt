-- RULES 6, demands: that the default URI answers the default test, that a result passes the check, and demand 3. The latter
-- speak of outcomes: the answer and the whole output buffers.
use Rattle.std.specs.Prelude.{ℕ, zero, suc, ◌*◌, ◌<◌, ◌≡◌, Bool, cond, ◌&&◌, ◌||◌, not, List, [], ◌∷◌, map, length, take, drop, T, eqb, ltb, Ok, Err}
use Rattle.rules.specs.Lists.{filtered, is_one_of, is_empty, same_bytes}
use Rattle.rules.specs.Table.{WIDTH, NONE, ELEMENT, ATTRIBUTE, DECLARATION, Field, Node, fields, nodes, node}
use Rattle.rules.specs.Answers.{filled_number, filled_rows, filled_bytes}
use Rattle.rules.specs.Refusals.{checked}
use Rattle.rules.specs.Lookups.{scope_at, in_scope_uri, uri_bytes, is_default, lookup_elements, default_uri_at, located_part}
use Rattle.rules.specs.Outputs.{Outcome}
use Rattle.rules.specs.Normalization.{normalized}
use Rattle.rules.specs.declared.Refusal.{Refusal}

-- Wherever the default URI is not refused, comparing it with a query is the default test: the bytes of the place, or none for
-- nothing, are the query exactly if the query is the default.
abbrev pub DefaultTest : Type 0
DefaultTest =
    (table pool : List ℕ) (r : ℕ) → ((x : Refusal) → default_uri_at table pool r ≡ Err x → ⊥) → (uri : List ℕ) →
    same_bytes (located_part pool (default_uri_at table pool r)) uri ≡ is_default (nodes table pool) uri (lookup_elements (nodes table pool) r)

-- Normalization succeeded.
unfoldable pub succeeded : Outcome → Bool
succeeded o = eqb (filled_number o.answer).number 0

-- The answered parts of the output table and the output pool.
abbrev pub result_table : Outcome → List ℕ
result_table o = take (WIDTH * filled_rows o.answer) o.table

abbrev pub result_pool : Outcome → List ℕ
result_pool o = take (filled_bytes o.answer) o.pool

-- The result: the rows that the one has over the other.
unfoldable pub result_rows : Outcome → List Node
result_rows o = nodes (result_table o) (result_pool o)

-- A result passes the whole check again.
abbrev pub PassesAgain : Type 0
PassesAgain =
    (table pool : List ℕ) (table_size pool_size : ℕ) → T (succeeded (normalized table pool table_size pool_size)) →
    checked (result_table (normalized table pool table_size pool_size)) (result_pool (normalized table pool table_size pool_size)) ≡ Ok tt

-- An element means its URI if the in-scope URI of its prefix (or default) is it, none for none.
unfoldable pub element_means_in : List Node → Node → Bool
element_means_in scope n = same_bytes (uri_bytes (in_scope_uri scope n.prefix.bytes)) n.uri.bytes

unfoldable pub element_means : List Node → ℕ → Bool
element_means ns e = element_means_in (scope_at ns e) (node ns e)

-- An attribute does if it has neither URI nor prefix, or if it has both and the in-scope URI of its prefix at its owner is its URI.
unfoldable pub attribute_means_in : List Node → Node → Bool
attribute_means_in scope n =
    (is_empty n.uri.bytes && is_empty n.prefix.bytes)
    || (not (is_empty n.uri.bytes) && not (is_empty n.prefix.bytes)
    && same_bytes (uri_bytes (in_scope_uri scope n.prefix.bytes)) n.uri.bytes)

unfoldable pub attribute_means : List Node → ℕ → Bool
attribute_means ns a = attribute_means_in (scope_at ns (node ns a).parent) (node ns a)

-- Row r, an element or an attribute, means its URI.
unfoldable pub means : List Node → ℕ → Bool
means ns r = cond (eqb (node ns r).type ELEMENT) (element_means ns r) (attribute_means ns r)

-- The row is of type 1, or of type 2 with an owner.
unfoldable pub is_bound : Node → Bool
is_bound n = eqb n.type ELEMENT || (eqb n.type ATTRIBUTE && not (eqb n.parent NONE))

-- Row r has in the result the input's type, parent, and bytes of URI and local name, and means its URI in scope there.
pub record KeepsMeaning (input result : List Node) (r : ℕ) : Type 0 where
  pub type : (node result r).type ≡ (node input r).type
  pub parent : (node result r).parent ≡ (node input r).parent
  pub uri : (node result r).uri.bytes ≡ (node input r).uri.bytes
  pub local : (node result r).local.bytes ≡ (node input r).local.bytes
  pub maker : (node result r).maker ≡ (node input r).maker
  pub meaning : T (means result r)

-- Demand 3, first part: every element and owned attribute keeps its URI and local name, and its prefix means that URI in scope.
abbrev pub Meaning : Type 0
Meaning =
    (table pool : List ℕ) (table_size pool_size : ℕ) → T (succeeded (normalized table pool table_size pool_size)) →
    (r : ℕ) → r < length (nodes table pool) → T (is_bound (node (nodes table pool) r)) →
    KeepsMeaning (nodes table pool) (result_rows (normalized table pool table_size pool_size)) r

-- The bytes of the four fields, in word order.
abbrev pub field_bytes : Node → List (List ℕ)
field_bytes n = map (λ (f : Field). f.bytes) (fields n)

-- What an added declaration is compared by: the bytes of its fields, and its maker.
abbrev pub bytes_and_maker : Node → List (List ℕ) × ℕ
bytes_and_maker n = (field_bytes n, n.maker)

-- Two tables agree on a row if it has the same type and parent and the same bytes in all four fields in both; offsets may differ.
pub record Agree (n m : Node) : Type 0 where
  pub type : n.type ≡ m.type
  pub parent : n.parent ≡ m.parent
  pub bytes : field_bytes n ≡ field_bytes m
  pub maker : n.maker ≡ m.maker

-- Row r and its ancestors: all rows up the parent words, elements or not. A parent is always less than its row, so r + 1 steps
-- are enough.
unfoldable pub up_from : ℕ → List Node → ℕ → List ℕ
up_from zero ns r = []
up_from (suc steps) ns r =
    let above = up_from steps ns (node ns r).parent in
    r ∷ cond (ltb (node ns r).parent r) above []

unfoldable pub self_and_ancestors : List Node → ℕ → List ℕ
self_and_ancestors ns r = up_from (suc r) ns r

-- Row r is row e, an ancestor of it, or a row of type 2 or 13 that one of these owns.
unfoldable pub concerns : List Node → ℕ → ℕ → Bool
concerns ns e r =
    is_one_of (self_and_ancestors ns e) r
    || (is_one_of (ATTRIBUTE ∷ DECLARATION ∷ []) (node ns r).type && is_one_of (self_and_ancestors ns e) (node ns r).parent)

-- Two tables of equal row count agree on every row that in either of them concerns row e.
pub record AgreeAt (ns ms : List Node) (e : ℕ) : Type 0 where
  pub count : length ns ≡ length ms
  pub rows : (r : ℕ) → r < length ns → T (concerns ns e r || concerns ms e r) → Agree (node ns r) (node ms r)

-- An element's added declarations: the result's rows beyond the input's row count with that parent, in row order.
unfoldable pub added_declarations : ℕ → List Node → ℕ → List Node
added_declarations count result x = filtered (λ (n : Node). eqb n.parent x) (drop count result)

-- The results of the two tables agree on all these rows again, and each row e or ancestor of it has the same added
-- declarations: as many, and each, in turn, with the same bytes in all four fields.
pub record ResultsAgreeAt (ns result result' : List Node) (e : ℕ) : Type 0 where
  pub rows : (r : ℕ) → r < length ns → T (concerns ns e r) → Agree (node result r) (node result' r)
  pub added :
      (x : ℕ) → T (is_one_of (self_and_ancestors ns e) x) →
      map bytes_and_maker (added_declarations (length ns) result x) ≡ map bytes_and_maker (added_declarations (length ns) result' x)

-- Demand 3, second part: two tables that agree on an element, its ancestors and what these own agree there after normalization
-- too, whatever the other rows hold. It holds at every row e, elements among them.
abbrev pub Independence : Type 0
Independence =
    (table pool : List ℕ) (table_size pool_size : ℕ) (table' pool' : List ℕ) (table_size' pool_size' : ℕ) →
    T (succeeded (normalized table pool table_size pool_size)) →
    T (succeeded (normalized table' pool' table_size' pool_size')) →
    (e : ℕ) → e < length (nodes table pool) → AgreeAt (nodes table pool) (nodes table' pool') e →
    ResultsAgreeAt (nodes table pool) (result_rows (normalized table pool table_size pool_size))
    (result_rows (normalized table' pool' table_size' pool_size')) e
