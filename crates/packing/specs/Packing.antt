-- RULES 14, packing (Q-9): a table over a pool that is each distinct non-empty field once.
use Rattle.std.specs.Prelude.{ℕ, ◌+◌, ◌*◌, cond, ◌||◌, List, [], ◌∷◌, ◌++◌, map, length}
use Rattle.std.proofs.Math.Option.{Option}
use Rattle.rules.specs.Lists.{any_of, gathered, is_empty, same_bytes}
use Rattle.rules.specs.Table.{WIDTH, MOST_ROWS, MOST_BYTES, Field, no_field, Node, nodes}
use Rattle.rules.specs.Refusals.{first_refusal, unless_refused, check_refusal}
use Rattle.rules.specs.Outputs.{Outcome, refusal}
use Rattle.rules.specs.Normalization.{State, success, room_refusal}
use Rattle.rules.specs.Demands.{field_bytes}
use Rattle.rules.specs.declared.Refusal.{Refusal}
use Rattle.bundles.specs.Operations.{WriteOutcome, write_refused, bundle_written, over_bundle, state_bundle}

-- The bytes of all fields, by row and then word.
abbrev pub uses : List Node → List (List ℕ)
uses ns = gathered field_bytes ns

-- The names so far, with one more behind them if it is new and not empty.
unfoldable pub entered : List (List ℕ) → List ℕ → List (List ℕ)
entered names bytes = cond (is_empty bytes || any_of (same_bytes bytes) names) names (names ++ bytes ∷ [])

unfoldable pub entered_all : List (List ℕ) → List (List ℕ) → List (List ℕ)
entered_all names [] = names
entered_all names (bytes ∷ later) = entered_all (entered names bytes) later

-- The entries: each distinct non-empty field once, in order of first use.
unfoldable pub entries : List Node → List (List ℕ)
entries ns = entered_all [] (uses ns)

-- End to end.
unfoldable pub joined : List (List ℕ) → List ℕ
joined names = gathered (λ (bytes : List ℕ). bytes) names

-- Where an entry starts: behind those before it.
unfoldable pub start_of : List (List ℕ) → List ℕ → ℕ
start_of [] bytes = 0
start_of (name ∷ names) bytes = let further = start_of names bytes in cond (same_bytes bytes name) 0 (length name + further)

-- The offset of a field of these bytes: where its entry starts; an empty one has 0.
unfoldable pub offset_in : List (List ℕ) → List ℕ → ℕ
offset_in names bytes = cond (is_empty bytes) 0 (start_of names bytes)

-- A field of the same bytes that points to its entry; an empty one points nowhere.
unfoldable pub packed_field : List (List ℕ) → Field → Field
packed_field names f =
    cond (is_empty f.bytes) no_field (record { offset = start_of names f.bytes; size = length f.bytes; bytes = f.bytes })

unfoldable pub packed_node : List (List ℕ) → Node → Node
packed_node names n =
    record {
      type = n.type;
      parent = n.parent;
      prefix = packed_field names n.prefix;
      local = packed_field names n.local;
      uri = packed_field names n.uri;
      value = packed_field names n.value;
      maker = n.maker;
    }

-- The packed rows and the packed pool.
unfoldable pub packed_form : List Node → State
packed_form ns = record { rows = map (packed_node (entries ns)) ns; pool = joined (entries ns) }

-- The check's refusals; 10, too few rows in the output table; 11, a packed pool above 32,768 or above the output pool. A table
-- that is accepted has at most 1,024 rows, so that of the two parts of 10 only the output's is left.
unfoldable pub packing_refusal : List ℕ → List ℕ → ℕ → ℕ → Option Refusal
packing_refusal table pool table_size pool_size =
    first_refusal (check_refusal table pool ∷ room_refusal table_size pool_size (packed_form (nodes table pool)) ∷ [])

-- The operation: a table and its pool into an output table of so many words and an output pool of so many bytes.
unfoldable pub packed : List ℕ → List ℕ → ℕ → ℕ → Outcome
packed table pool table_size pool_size =
    unless_refused (packing_refusal table pool table_size pool_size) (refusal table_size pool_size)
    (success table_size pool_size (packed_form (nodes table pool)))

-- The same from a bundle into a bundle: 30 to 32, the check's, 11 by 32,768 alone, and 33.
unfoldable pub packed_into : List ℕ → List ℕ → ℕ → WriteOutcome
packed_into table pool size =
    bundle_written (packing_refusal table pool (WIDTH * MOST_ROWS) MOST_BYTES) size (state_bundle (packed_form (nodes table pool)))

unfoldable pub bundle_packed : List ℕ → ℕ → WriteOutcome
bundle_packed bytes size = over_bundle bytes (write_refused size) (λ table pool. packed_into table pool size)
