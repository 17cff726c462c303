-- Lookups and repairs read bytes only: they commute with forgetting where the bytes stand.
-- Assumes nothing.
use Prim.Native.Nat.{ℕ, zero, suc}
use mathlib.Core.Path.{◌≡◌, refl, ◌∙◌, ap}
use mathlib.Core.Bool.{Bool, ◌&&◌, not}
use mathlib.Core.List.{List, [], ◌∷◌, map}
use mathlib.Core.Option.{Option, none, some}
use lib.ListN.{length, length-map}
use Rattle.rules.specs.Lists.{first_that, any_of, is_empty, same_bytes}
use Rattle.rules.specs.Table.{xml_uri, xmlns_uri, xml_prefix, xmlns_prefix, Field, Node}
use Rattle.rules.specs.Lookups.{declares, Binding, declared, built_in_xml, built_in_xmlns, unbound, or_unbound, value_of, in_scope_uri, uri_bytes, serves, prefix_of, in_scope_prefix}
use Rattle.rules.specs.Normalization.{is_own_declaration, revalued, numbered_prefix, least_free, Repair, keep, take_declared, take_built_in, declare_own, make_numbered, repair_by_declaring, repair_by, repair_of, new_prefix, new_rows}
use Rattle.rules.proofs.Lists.{by_cases}

-- The field without its place, and the row without the places of its fields.
abbrev pub forget_field : Field → Field
forget_field f = record { offset = 0; size = 0; bytes = f.bytes }

abbrev pub forget : Node → Node
forget n =
    record {
      type = n.type;
      parent = n.parent;
      prefix = forget_field n.prefix;
      local = forget_field n.local;
      uri = forget_field n.uri;
      value = forget_field n.value;
      maker = n.maker;
    }

abbrev pub forget_found : Option Node → Option Node
forget_found none = none
forget_found (some d) = some (forget d)

abbrev pub forget_binding : Binding → Binding
forget_binding (declared f) = declared (forget_field f)
forget_binding built_in_xml = built_in_xml
forget_binding built_in_xmlns = built_in_xmlns
forget_binding unbound = unbound

abbrev pub forget_repair : Repair → Repair
forget_repair keep = keep
forget_repair (take_declared found) = take_declared (forget_field found)
forget_repair (take_built_in bytes) = take_built_in bytes
forget_repair declare_own = declare_own
forget_repair (make_numbered bytes) = make_numbered bytes

-- A test that does not look at places.
module _ (test test' : Node → Bool) (same : (n : Node) → test' (forget n) ≡ test n) where
  pub first_that-forget : (ns : List Node) → first_that test' (map forget ns) ≡ forget_found (first_that test ns)
  first_that-forget [] = refl
  first_that-forget (n ∷ ns) =
      by_cases (test n)
      (λ q. rw (same n, q) refl)
      (λ q. rw (same n, q) (first_that-forget ns))

  pub any_of-forget : (ns : List Node) → any_of test' (map forget ns) ≡ any_of test ns
  any_of-forget [] = refl
  any_of-forget (n ∷ ns) = rw (same n, any_of-forget ns) refl

value-forget : (o : Option Node) → or_unbound (value_of (forget_found o)) ≡ forget_binding (or_unbound (value_of o))
value-forget none = refl
value-forget (some d) = by_cases (is_empty d.value.bytes) (λ q. rw q refl) (λ q. rw q refl)

pub uri-forget : (scope : List Node) (prefix : List ℕ) → in_scope_uri (map forget scope) prefix ≡ forget_binding (in_scope_uri scope prefix)
unfolding in_scope_uri
uri-forget scope prefix =
    by_cases (same_bytes prefix xml_prefix)
    (λ q. rw q refl)
    (λ q.
    by_cases (same_bytes prefix xmlns_prefix)
    (λ t. rw (q, t) refl)
    (λ t.
    rw (q, t, first_that-forget (declares prefix) (declares prefix) (λ n. refl) scope)
    (value-forget (first_that (declares prefix) scope))))

pub bytes-forget : (b : Binding) → uri_bytes (forget_binding b) ≡ uri_bytes b
bytes-forget (declared f) = refl
bytes-forget built_in_xml = refl
bytes-forget built_in_xmlns = refl
bytes-forget unbound = refl

-- The URI that a prefix means in scope.
pub means-forget : (scope : List Node) (prefix : List ℕ) → uri_bytes (in_scope_uri (map forget scope) prefix) ≡ uri_bytes (in_scope_uri scope prefix)
means-forget scope prefix = ap uri_bytes (uri-forget scope prefix) ∙ bytes-forget (in_scope_uri scope prefix)

serves-forget : (scope : List Node) (uri : List ℕ) (d : Node) → serves (map forget scope) uri (forget d) ≡ serves scope uri d
unfolding serves
serves-forget scope uri d = rw (means-forget scope d.local.bytes) refl

prefix-found-forget : (o : Option Node) → prefix_of (forget_found o) ≡ forget_binding (prefix_of o)
prefix-found-forget none = refl
prefix-found-forget (some d) = refl

pub prefix-forget : (scope : List Node) (uri : List ℕ) → in_scope_prefix (map forget scope) uri ≡ forget_binding (in_scope_prefix scope uri)
unfolding in_scope_prefix
prefix-forget scope uri =
    by_cases (is_empty uri)
    (λ e. rw e refl)
    (λ e.
    by_cases (same_bytes uri xml_uri)
    (λ q. rw (e, q) refl)
    (λ q.
    by_cases (same_bytes uri xmlns_uri)
    (λ t. rw (e, q, t) refl)
    (λ t.
    rw (e, q, t, first_that-forget (serves scope uri) (serves (map forget scope) uri) (serves-forget scope uri) scope)
    (prefix-found-forget (first_that (serves scope uri) scope)))))

least-forget : (steps : ℕ) (scope : List Node) (k : ℕ) → least_free steps (map forget scope) k ≡ least_free steps scope k
unfolding least_free
least-forget zero scope k = refl
least-forget (suc steps) scope k =
    rw (any_of-forget (declares (numbered_prefix k)) (declares (numbered_prefix k)) (λ n. refl) scope, least-forget steps scope (suc k)) refl

declaring-forget : (scope : List Node) (a : Node) → repair_by_declaring (map forget scope) (forget a) ≡ forget_repair (repair_by_declaring scope a)
declaring-forget scope a =
    rw (means-forget scope a.prefix.bytes, length-map scope forget, least-forget (length scope) scope 1)
    (by_cases (not (is_empty a.prefix.bytes) && is_empty (uri_bytes (in_scope_uri scope a.prefix.bytes))) (λ q. rw q refl) (λ q. rw q refl))

repair-by-forget : (b : Binding) (otherwise : Repair) → repair_by (forget_binding b) (forget_repair otherwise) ≡ forget_repair (repair_by b otherwise)
repair-by-forget (declared f) otherwise = refl
repair-by-forget built_in_xml otherwise = refl
repair-by-forget built_in_xmlns otherwise = refl
repair-by-forget unbound otherwise = refl

-- Step 3's decision.
pub repair-forget : (scope : List Node) (a : Node) → repair_of (map forget scope) (forget a) ≡ forget_repair (repair_of scope a)
unfolding repair_of
repair-forget scope a =
    by_cases (is_empty a.uri.bytes)
    (λ e. rw e refl)
    (λ e.
    by_cases (not (is_empty a.prefix.bytes) && same_bytes (uri_bytes (in_scope_uri scope a.prefix.bytes)) a.uri.bytes)
    (λ q. rw (e, means-forget scope a.prefix.bytes, q) refl)
    (λ q.
    rw (e, prefix-forget scope a.uri.bytes, declaring-forget scope a, means-forget scope a.prefix.bytes, q)
    (repair-by-forget (in_scope_prefix scope a.uri.bytes) (repair_by_declaring scope a))))

-- What a repair writes.
pub new-prefix-forget : (pool : List ℕ) (a : Node) (repair : Repair) → forget_field (new_prefix pool a repair) ≡ forget_field (new_prefix [] (forget a) (forget_repair repair))
unfolding new_prefix
new-prefix-forget pool a keep = refl
new-prefix-forget pool a (take_declared found) = refl
new-prefix-forget pool a (take_built_in bytes) = refl
new-prefix-forget pool a declare_own = refl
new-prefix-forget pool a (make_numbered bytes) = refl

pub new-rows-forget : (e maker : ℕ) (prefix uri : Field) (repair : Repair) → map forget (new_rows e maker prefix uri repair) ≡ new_rows e maker (forget_field prefix) (forget_field uri) (forget_repair repair)
unfolding new_rows
new-rows-forget e maker prefix uri keep = refl
new-rows-forget e maker prefix uri (take_declared found) = refl
new-rows-forget e maker prefix uri (take_built_in bytes) = refl
new-rows-forget e maker prefix uri declare_own = refl
new-rows-forget e maker prefix uri (make_numbered bytes) = refl

pub revalued-forget : (e : ℕ) (prefix : List ℕ) (uri : Field) (n : Node) → forget (revalued e prefix uri n) ≡ revalued e prefix (forget_field uri) (forget n)
revalued-forget e prefix uri n = by_cases (is_own_declaration e prefix n) (λ q. rw q refl) (λ q. rw q refl)
