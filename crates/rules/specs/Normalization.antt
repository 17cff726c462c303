-- RULES 5, normalization, with refusals 9 to 11.
use Rattle.std.specs.Prelude.{ℕ, zero, suc, ◌+◌, ◌/◌, ◌%◌, Bool, cond, ◌&&◌, ◌||◌, not, List, [], ◌∷◌, ◌++◌, map, length, set, eqb, ltb}
use Rattle.std.proofs.Math.Option.{Option}
use Rattle.rules.specs.Lists.{ascii, any_of, is_empty, same_bytes}
use Rattle.rules.specs.Table.{WIDTH, MOST_ROWS, MOST_BYTES, ELEMENT, ATTRIBUTE, DECLARATION, xml_prefix, xmlns_prefix, Field, no_field, Node, nodes, words, node, is_level1}
use Rattle.rules.specs.Refusals.{refused_if, first_refusal, lowest_refusal, unless_refused, check_refusal}
use Rattle.rules.specs.Outputs.{Outcome, refusal, filled}
use Rattle.rules.specs.Lookups.{is_declaration_of, declares, scope_at, Binding, declared, built_in_xml, built_in_xmlns, unbound, in_scope_uri, uri_bytes, in_scope_prefix}
use Rattle.rules.specs.declared.Refusal.{Refusal}

-- What normalization has made so far: the rows, the new ones at the end, and the pool.
pub record State : Type 0 where
  pub rows : List Node
  pub pool : List ℕ

-- A new row: type 13, parent the element, the maker of the row that needs it, prefix and URI fields 0.
abbrev pub new_declaration : ℕ → ℕ → Field → Field → Node
new_declaration e maker prefix uri =
    record { type = DECLARATION; parent = e; prefix = no_field; local = prefix; uri = no_field; value = uri; maker = maker }

-- A row with another value.
abbrev pub with_value : Field → Node → Node
with_value value n =
    record { type = n.type; parent = n.parent; prefix = n.prefix; local = n.local; uri = n.uri; value = value; maker = n.maker }

-- A row with another prefix.
abbrev pub with_prefix : Field → Node → Node
with_prefix prefix n =
    record { type = n.type; parent = n.parent; prefix = prefix; local = n.local; uri = n.uri; value = n.value; maker = n.maker }

-- The row is element e's own declaration of this prefix.
abbrev pub is_own_declaration : ℕ → List ℕ → Node → Bool
is_own_declaration e prefix n = is_declaration_of e n && declares prefix n

-- The row, with another value if it is that declaration.
abbrev pub revalued : ℕ → List ℕ → Field → Node → Node
revalued e prefix uri n = cond (is_own_declaration e prefix n) (with_value uri n) n

-- Sets element e's own declaration of a prefix to a URI, or appends one. Refusal 7 makes it at most one row.
unfoldable pub declare : ℕ → ℕ → Field → Field → List Node → List Node
declare e maker prefix uri ns =
    cond (any_of (is_own_declaration e prefix.bytes) ns)
    (map (revalued e prefix.bytes uri) ns)
    (ns ++ new_declaration e maker prefix uri ∷ [])

-- Step 1, an element with a URI: if the in-scope URI of its prefix (or default) differs, set its own declaration of that
-- prefix to its URI, or append one. Step 2, an element without a URI: if the in-scope default isn't none, set its own default
-- declaration to empty, or append one.
unfoldable pub repair_element : ℕ → List Node → List Node
repair_element e ns =
    cond (is_empty (node ns e).uri.bytes)
    (cond (is_empty (uri_bytes (in_scope_uri (scope_at ns e) []))) ns (declare e (node ns e).maker no_field no_field ns))
    (cond (same_bytes (uri_bytes (in_scope_uri (scope_at ns e) (node ns e).prefix.bytes)) (node ns e).uri.bytes) ns
    (declare e (node ns e).maker (node ns e).prefix (node ns e).uri ns))

-- The decimal digits of a number, no leading zero; as many steps as the number are enough.
unfoldable pub digits : ℕ → ℕ → List ℕ
digits zero k = (48 + k) ∷ []
digits (suc steps) k =
    let front = digits steps (k / 10) in
    cond (ltb k 10) ((48 + k) ∷ []) (front ++ (48 + k % 10) ∷ [])

-- NS and the number k
unfoldable pub numbered_prefix : ℕ → List ℕ
numbered_prefix k = ascii "NS" ++ digits k k

-- The least number from k on whose prefix is not declared in scope. As many steps as there are declarations are enough.
unfoldable pub least_free : ℕ → List Node → ℕ → ℕ
least_free zero scope k = k
least_free (suc steps) scope k =
    let next = least_free steps scope (suc k) in
    cond (any_of (declares (numbered_prefix k)) scope) next k

-- What step 3 does with an attribute.
pub data Repair : Type 0 where
  keep : Repair
  take_declared : Field → Repair
  take_built_in : List ℕ → Repair
  declare_own : Repair
  make_numbered : List ℕ → Repair

-- the last two cases of step 3: no in-scope prefix of the URI exists
abbrev pub repair_by_declaring : List Node → Node → Repair
repair_by_declaring scope a =
    cond (not (is_empty a.prefix.bytes) && is_empty (uri_bytes (in_scope_uri scope a.prefix.bytes))) declare_own
    (make_numbered (numbered_prefix (least_free (length scope) scope 1)))

abbrev pub repair_by : Binding → Repair → Repair
repair_by (declared found) otherwise = take_declared found
repair_by built_in_xml otherwise = take_built_in xml_prefix
repair_by built_in_xmlns otherwise = take_built_in xmlns_prefix
repair_by unbound otherwise = otherwise

-- Step 3, for an attribute with a URI: if it has a prefix and the in-scope URI of that is its URI, nothing. Else if an in-scope
-- prefix of the URI exists, take that. Else if it has a prefix, and that has no in-scope URI, append a declaration of it. Else
-- take NS and the least k from 1 that is not declared in scope, and append its declaration.
unfoldable pub repair_of : List Node → Node → Repair
repair_of scope a =
    cond (is_empty a.uri.bytes) keep
    (cond (not (is_empty a.prefix.bytes) && same_bytes (uri_bytes (in_scope_uri scope a.prefix.bytes)) a.uri.bytes) keep
    (repair_by (in_scope_prefix scope a.uri.bytes) (repair_by_declaring scope a)))

-- The bytes that a repair appends to the pool: those of a built-in or an NS prefix.
unfoldable pub new_bytes : Repair → List ℕ
new_bytes keep = []
new_bytes (take_declared found) = []
new_bytes (take_built_in bytes) = bytes
new_bytes declare_own = []
new_bytes (make_numbered bytes) = bytes

-- The attribute's prefix after a repair: a copied reference, or the bytes appended to the pool.
unfoldable pub new_prefix : List ℕ → Node → Repair → Field
new_prefix pool a keep = a.prefix
new_prefix pool a (take_declared found) = found
new_prefix pool a (take_built_in bytes) = record { offset = length pool; size = length bytes; bytes = bytes }
new_prefix pool a declare_own = a.prefix
new_prefix pool a (make_numbered bytes) = record { offset = length pool; size = length bytes; bytes = bytes }

-- The rows that a repair appends: the declaration of the attribute's prefix as its URI.
unfoldable pub new_rows : ℕ → ℕ → Field → Field → Repair → List Node
new_rows e maker prefix uri keep = []
new_rows e maker prefix uri (take_declared found) = []
new_rows e maker prefix uri (take_built_in bytes) = []
new_rows e maker prefix uri declare_own = new_declaration e maker prefix uri ∷ []
new_rows e maker prefix uri (make_numbered bytes) = new_declaration e maker prefix uri ∷ []

-- Does it to row a, an attribute of element e.
unfoldable pub perform : ℕ → ℕ → Repair → State → State
perform e a repair s =
    record {
      rows =
          set s.rows a (with_prefix (new_prefix s.pool (node s.rows a) repair) (node s.rows a))
          ++ new_rows e (node s.rows a).maker (new_prefix s.pool (node s.rows a) repair) (node s.rows a).uri repair;
      pool = s.pool ++ new_bytes repair;
    }

abbrev pub is_attribute_of : ℕ → Node → Bool
is_attribute_of e n = eqb n.type ATTRIBUTE && eqb n.parent e

-- Row a, if it is an attribute of element e.
unfoldable pub repair_attribute : ℕ → ℕ → State → State
repair_attribute e a s =
    cond (is_attribute_of e (node s.rows a))
    (perform e a (repair_of (scope_at s.rows e) (node s.rows a)) s)
    s

-- The attributes of element e among the rows below count, in row order.
unfoldable pub repair_attributes : ℕ → ℕ → State → State
repair_attributes e zero s = s
repair_attributes e (suc count) s = repair_attribute e count (repair_attributes e count s)

-- Row r, if it is an element; the table has this many rows before any is appended.
unfoldable pub normalize_row : ℕ → ℕ → State → State
normalize_row total r s =
    cond (eqb (node s.rows r).type ELEMENT)
    (repair_attributes r total (record { rows = repair_element r s.rows; pool = s.pool }))
    s

-- The elements among the rows below count, in row order.
unfoldable pub normalize_rows : ℕ → ℕ → State → State
normalize_rows total zero s = s
normalize_rows total (suc count) s = normalize_row total count (normalize_rows total count s)

-- The finished result of an accepted table: starts from a copy.
unfoldable pub normal_form : List Node → List ℕ → State
normal_form ns pool = normalize_rows (length ns) (length ns) (record { rows = ns; pool = pool })

-- The result in the outputs.
unfoldable pub success : ℕ → ℕ → State → Outcome
success table_size pool_size s = filled table_size pool_size (length s.rows) (words s.rows) s.pool

-- 9: the lowest row of type 257 or 258.
unfoldable pub level1_refusal : List Node → Option Refusal
level1_refusal ns = lowest_refusal (λ r. refused_if (is_level1 (node ns r).type) (Refusal.Level1 (record { 0 = r }))) (length ns)

-- 10: the result needs more than 1,024 rows, or more than the whole rows of the output table.
unfoldable pub too_many_rows : ℕ → State → Bool
too_many_rows table_size s = ltb MOST_ROWS (length s.rows) || ltb (table_size / WIDTH) (length s.rows)

-- 11: the result needs more than 32,768 pool bytes, or more than the output pool.
unfoldable pub too_many_bytes : ℕ → State → Bool
too_many_bytes pool_size s = ltb MOST_BYTES (length s.pool) || ltb pool_size (length s.pool)

-- Both are judged by the finished result, 10 first.
unfoldable pub room_refusal : ℕ → ℕ → State → Option Refusal
room_refusal table_size pool_size s =
    first_refusal (refused_if (too_many_rows table_size s) Refusal.RowRoom ∷ refused_if (too_many_bytes pool_size s) Refusal.PoolRoom ∷ [])

unfoldable pub normalization_refusal : List ℕ → List ℕ → ℕ → ℕ → Option Refusal
normalization_refusal table pool table_size pool_size =
    first_refusal
    (check_refusal table pool
    ∷ level1_refusal (nodes table pool)
    ∷ room_refusal table_size pool_size (normal_form (nodes table pool) pool)
    ∷ [])

-- Normalization of a table and its pool into an output table of so many words and an output pool of so many bytes: the
-- check's refusals, 9, 10, 11, or the result.
unfoldable pub normalized : List ℕ → List ℕ → ℕ → ℕ → Outcome
normalized table pool table_size pool_size =
    unless_refused (normalization_refusal table pool table_size pool_size) (refusal table_size pool_size)
    (success table_size pool_size (normal_form (nodes table pool) pool))
