-- The rows that normalization makes of a legal table of words consist of words.
-- Assumes nothing.
use Prim.Native.Nat.{ℕ, zero, suc, ◌+◌, ◌*◌, ◌≤◌}
use mathlib.Core.Path.{◌≡◌, refl, sym}
use mathlib.Core.Bool.{Bool, true, ◌&&◌}
use mathlib.Core.List.{List, [], ◌∷◌}
use native.Mathlib.Nat.{le_refl}
use native.Mathlib.Omega.{arith}
use lib.ListN.{length, get_or, set}
use lib.Dec.{eqb}
use borrow.Author.Tests.{lt-ltb}
use Rattle.rules.specs.Lists.{any_of, all_of, is_empty, same_bytes}
use Rattle.rules.specs.Table.{WIDTH, MOST_ROWS, MOST_BYTES, TYPE, PARENT, MAKER, ELEMENT, Field, no_field, Node, no_node, nodes, words_of, words, node}
use Rattle.rules.specs.Lookups.{scope_at, in_scope_uri, uri_bytes}
use Rattle.rules.specs.Normalization.{State, new_declaration, with_prefix, is_own_declaration, revalued, declare, repair_element, Repair, keep, take_declared, take_built_in, declare_own, make_numbered, repair_of, new_prefix, new_rows, perform, is_attribute_of, repair_attribute, repair_attributes, normalize_row, normalize_rows, normal_form}
use Rattle.rules.proofs.Lists.{by_cases, both_true, all_of-append, all_of-every, all_of-set, all_of-map}
use Rattle.rules.proofs.Table.{length-nodes, node-nodes}
use Rattle.rules.proofs.Accepted.{Accepted, few-rows}
use Rattle.rules.proofs.Result.{fits_in, Inside, fits-inside, pool-rows, input-pool}
use Rattle.little_endian.specs.Numbers.{is_word}

-- The row's type, parent and maker are words.
abbrev is_headed : Node → Bool
is_headed n = is_word n.type && (is_word n.parent && is_word n.maker)

-- What that tells.
record Headed (n : Node) : Type 0 where
  type : is_word n.type ≡ true
  parent : is_word n.parent ≡ true
  maker : is_word n.maker ≡ true

head : (n : Node) → is_headed n ≡ true → Headed n
head n h =
    let first = both_true (is_word n.type) (is_word n.parent && is_word n.maker) h in
    let later = both_true (is_word n.parent) (is_word n.maker) first.1 in
    record { type = first.0; parent = later.0; maker = later.1 }

-- A field that ends in a pool of bounded length.
field-words : (limit : ℕ) (f : Field) → limit ≤ MOST_BYTES → f.offset + f.size ≤ limit → (is_word f.offset ≡ true) × (is_word f.size ≡ true)
field-words limit f small h = (lt-ltb f.offset 4294967296 (omega arith), lt-ltb f.size 4294967296 (omega arith))

row_words : (pool : List ℕ) (n : Node) → length pool ≤ MOST_BYTES → Inside pool n → is_headed n ≡ true → all_of is_word (words_of n) ≡ true
row_words pool n small i h =
    let ok = head n h in
    let prefix = field-words (length pool) n.prefix small i.prefix in
    let local = field-words (length pool) n.local small i.local in
    let uri = field-words (length pool) n.uri small i.uri in
    let value = field-words (length pool) n.value small i.value in
    rw (ok.type, ok.parent, prefix.0, prefix.1, local.0, local.1, uri.0, uri.1, value.0, value.1, ok.maker) refl

all_words : (pool : List ℕ) (ns : List Node) → length pool ≤ MOST_BYTES → all_of (fits_in pool) ns ≡ true → all_of is_headed ns ≡ true → all_of is_word (words ns) ≡ true
unfolding words
all_words pool [] small fit head = refl
all_words pool (n ∷ ns) small fit head =
    let f = both_true (fits_in pool n) (all_of (fits_in pool) ns) fit in
    let h = both_true (is_headed n) (all_of is_headed ns) head in
    all_of-append is_word (words_of n) (words ns) (row_words pool n small (fits-inside pool n f.0) h.0)
    (all_words pool ns small f.1 h.1)

-- The rows of a table of words.
every-word : (table : List ℕ) (i : ℕ) → all_of is_word table ≡ true → is_word (get_or table i 0) ≡ true
every-word [] i all = refl
every-word (w ∷ table) zero all = (both_true (is_word w) (all_of is_word table) all).0
every-word (w ∷ table) (suc i) all = every-word table i (both_true (is_word w) (all_of is_word table) all).1

headed : (table pool : List ℕ) → all_of is_word table ≡ true → all_of is_headed (nodes table pool) ≡ true
unfolding node
headed table pool all =
    all_of-every is_headed (nodes table pool) no_node (λ r i.
    rw (node-nodes table pool r (rw (sym (length-nodes table pool)) i), every-word table (WIDTH * r + TYPE) all, every-word table (WIDTH * r + PARENT) all, every-word table (WIDTH * r + MAKER) all)
    refl)

-- Normalization gives no row another type, parent or maker, and its new rows are declarations of rows of the table, with their makers.
headed-node : (ns : List Node) (r : ℕ) → all_of is_headed ns ≡ true → is_headed (node ns r) ≡ true
unfolding node
headed-node [] r h = refl
headed-node (n ∷ ns) zero h = (both_true (is_headed n) (all_of is_headed ns) h).0
headed-node (n ∷ ns) (suc r) h = headed-node ns r (both_true (is_headed n) (all_of is_headed ns) h).1

module _ (e : ℕ) (word : is_word e ≡ true) where
  headed-new : (n : Node) (prefix uri : Field) → is_headed n ≡ true → all_of is_headed (new_declaration e n.maker prefix uri ∷ []) ≡ true
  headed-new n prefix uri h = rw (word, (head n h).maker) refl

  headed-declare : (n : Node) (prefix uri : Field) (ns : List Node) → is_headed n ≡ true → all_of is_headed ns ≡ true → all_of is_headed (declare e n.maker prefix uri ns) ≡ true
  unfolding declare
  headed-declare n prefix uri ns m h =
      by_cases (any_of (is_own_declaration e prefix.bytes) ns)
      (λ q.
      rw q
      (all_of-map is_headed (revalued e prefix.bytes uri) ns
      (λ d t. by_cases (is_own_declaration e prefix.bytes d) (λ s. rw s t) (λ s. rw s t))
      h))
      (λ q. rw q (all_of-append is_headed ns (new_declaration e n.maker prefix uri ∷ []) h (headed-new n prefix uri m)))

  headed-element : (ns : List Node) → all_of is_headed ns ≡ true → all_of is_headed (repair_element e ns) ≡ true
  unfolding repair_element
  headed-element ns h =
      by_cases (is_empty (node ns e).uri.bytes)
      (λ q.
      by_cases (is_empty (uri_bytes (in_scope_uri (scope_at ns e) [])))
      (λ t. rw (q, t) h)
      (λ t. rw (q, t) (headed-declare (node ns e) no_field no_field ns (headed-node ns e h) h)))
      (λ q.
      by_cases (same_bytes (uri_bytes (in_scope_uri (scope_at ns e) (node ns e).prefix.bytes)) (node ns e).uri.bytes)
      (λ t. rw (q, t) h)
      (λ t. rw (q, t) (headed-declare (node ns e) (node ns e).prefix (node ns e).uri ns (headed-node ns e h) h)))

  headed-rows : (n : Node) (prefix uri : Field) (repair : Repair) → is_headed n ≡ true → all_of is_headed (new_rows e n.maker prefix uri repair) ≡ true
  unfolding new_rows
  headed-rows n prefix uri keep m = refl
  headed-rows n prefix uri (take_declared found) m = refl
  headed-rows n prefix uri (take_built_in bytes) m = refl
  headed-rows n prefix uri declare_own m = headed-new n prefix uri m
  headed-rows n prefix uri (make_numbered bytes) m = headed-new n prefix uri m

  headed-perform : (a : ℕ) (repair : Repair) (s : State) → all_of is_headed s.rows ≡ true → all_of is_headed (perform e a repair s).rows ≡ true
  unfolding perform
  headed-perform a repair s h =
      let n = node s.rows a in
      let after = new_prefix s.pool n repair in
      let m = headed-node s.rows a h in
      all_of-append is_headed (set s.rows a (with_prefix after n)) (new_rows e n.maker after n.uri repair)
      (all_of-set is_headed s.rows a (with_prefix after n) h m) (headed-rows n after n.uri repair m)

  headed-attributes : (count : ℕ) (s : State) → all_of is_headed s.rows ≡ true → all_of is_headed (repair_attributes e count s).rows ≡ true
  unfolding repair_attributes repair_attribute
  headed-attributes zero s h = h
  headed-attributes (suc count) s h =
      let before = repair_attributes e count s in
      let kept = headed-attributes count s h in
      by_cases (is_attribute_of e (node before.rows count))
      (λ q. rw q (headed-perform count (repair_of (scope_at before.rows e) (node before.rows count)) before kept))
      (λ q. rw q kept)

headed-normalized : (total count : ℕ) (s : State) → count ≤ MOST_ROWS → all_of is_headed s.rows ≡ true → all_of is_headed (normalize_rows total count s).rows ≡ true
unfolding normalize_rows normalize_row
headed-normalized total zero s small h = h
headed-normalized total (suc count) s small h =
    let before = normalize_rows total count s in
    let kept = headed-normalized total count s (omega arith) h in
    let word : is_word count ≡ true = lt-ltb count 4294967296 (omega arith) in
    by_cases (eqb (node before.rows count).type ELEMENT)
    (λ q. rw q (headed-attributes count word total (record { rows = repair_element count before.rows; pool = before.pool }) (headed-element count word before.rows kept)))
    (λ q. rw q kept)

-- The result of a legal table, as long as its pool is not too long.
module _ (table pool : List ℕ) (a : Accepted table pool) where
  pub normal-fits : all_of (fits_in (normal_form (nodes table pool) pool).pool) (normal_form (nodes table pool) pool).rows ≡ true
  unfolding normal_form
  normal-fits =
      let ns = nodes table pool in
      (pool-rows (length ns) (length ns) (record { rows = ns; pool = pool }) (le_refl (length ns)) (record { long = le_refl (length ns); fit = input-pool table pool a })).fit

  module _ (all : all_of is_word table ≡ true) where
    normal-headed : all_of is_headed (normal_form (nodes table pool) pool).rows ≡ true
    unfolding normal_form
    normal-headed =
        let ns = nodes table pool in
        headed-normalized (length ns) (length ns) (record { rows = ns; pool = pool }) (rw (length-nodes table pool) (few-rows table pool a.size)) (headed table pool all)

    pub normal-words : length (normal_form (nodes table pool) pool).pool ≤ MOST_BYTES → all_of is_word (words (normal_form (nodes table pool) pool).rows) ≡ true
    normal-words small = all_words (normal_form (nodes table pool) pool).pool (normal_form (nodes table pool) pool).rows small normal-fits normal-headed
