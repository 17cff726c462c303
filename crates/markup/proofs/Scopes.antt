-- The reader's scope is the table's: what is bound in one is bound in the other.
-- Assumes nothing.
use Prim.Native.Nat.{ℕ, suc, ◌<◌}
use mathlib.Core.Path.{◌≡◌, refl, sym, ◌∙◌, ap, subst}
use mathlib.Core.Bool.{Bool, true, false, cond}
use mathlib.Core.List.{List, [], ◌∷◌, ◌++◌, map, append_assoc, append-nil}
use mathlib.Core.Option.{Option, none, some, none-ne-some, some-injective}
use native.Mathlib.Omega.{arith}
use lib.ListN.{length, get_or}
use lib.Dec.{eqb, ltb}
use borrow.Author.Tests.{eqb-true, eq-eqb}
use Rattle.rules.specs.Lists.{first_that, filtered, any_of, gathered, is_one_of, is_empty, same_bytes}
use Rattle.rules.specs.Table.{DECLARATION, xml_uri, xml_prefix, xmlns_prefix, Node, no_node, node, is_element}
use Rattle.rules.specs.Lookups.{climb, elements_from, is_declaration_of, own_declarations, declares, scope_of, scope_at, in_scope_uri, or_unbound, value_of, uri_bytes}
use Rattle.rules.proofs.Lists.{by_cases, both_true, both_false, true-not-false, either-right, empty-equal, first_that-none, first_that-append-none, first_that-append-some, none-first_that, any_of-append, same_bytes-equal}
use Rattle.rules.proofs.Scope.{above, scope-split}
use Rattle.escapes.proofs.Values.{eqb-false-sym}
use Rattle.markup.specs.Writing.{nearer, is_inherited}
use Rattle.markup.specs.Namespaces.{Binding, uri_of, bound_to}
use Rattle.markup.proofs.Reading.{gathered-append}

-- A declaration as the reader has it.
abbrev pub binding : Node → Binding
binding d = (d.local.bytes, d.value.bytes)

abbrev binds : List ℕ → Binding → Bool
binds prefix b = same_bytes b.0 prefix

-- The value of a declaration that was found; none has no bytes.
abbrev value_bytes : Option Node → List ℕ
value_bytes none = []
value_bytes (some d) = d.value.bytes

-- The URI in scope is the value of the first declaration.
value-bound : (o : Option Node) → uri_bytes (or_unbound (value_of o)) ≡ value_bytes o
value-bound none = refl
value-bound (some d) =
    by_cases (is_empty d.value.bytes) (λ q. rw (q, empty-equal d.value.bytes q) refl) (λ q. rw q refl)

in-scope-value : (scope : List Node) (prefix : List ℕ) → same_bytes prefix xml_prefix ≡ false → same_bytes prefix xmlns_prefix ≡ false → uri_bytes (in_scope_uri scope prefix) ≡ value_bytes (first_that (declares prefix) scope)
unfolding in_scope_uri
in-scope-value scope prefix x n = rw (x, n) (value-bound (first_that (declares prefix) scope))

found-bound : (prefix : List ℕ) (scope : List Node) → uri_of (first_that (binds prefix) (map binding scope)) ≡ value_bytes (first_that (declares prefix) scope)
found-bound prefix [] = refl
found-bound prefix (d ∷ scope) =
    by_cases (declares prefix d) (λ q. rw q refl) (λ q. rw q (found-bound prefix scope))

in-scope-xml : (scope : List Node) (prefix : List ℕ) → same_bytes prefix xml_prefix ≡ true → uri_bytes (in_scope_uri scope prefix) ≡ xml_uri
unfolding in_scope_uri
in-scope-xml scope prefix q = rw q refl

-- The reader's declarations give for every prefix what the scope's first declaration of it does.
abbrev pub Alike : List Binding → List Node → Type 0
Alike bindings scope = (prefix : List ℕ) → uri_of (first_that (binds prefix) bindings) ≡ value_bytes (first_that (declares prefix) scope)

-- So a prefix but xmlns is bound as in the scope.
pub alike-bound : (bindings : List Binding) (scope : List Node) → Alike bindings scope → (prefix : List ℕ) → same_bytes prefix xmlns_prefix ≡ false → bound_to bindings prefix ≡ uri_bytes (in_scope_uri scope prefix)
unfolding bound_to
alike-bound bindings scope h prefix n =
    by_cases (same_bytes prefix xml_prefix)
    (λ q. rw (q, in-scope-xml scope prefix q) refl)
    (λ q. rw q (h prefix ∙ sym (in-scope-value scope prefix q n)))

-- Declarations in front of both.
first-own : (prefix : List ℕ) (own : List Node) (bindings : List Binding) (scope : List Node) → uri_of (first_that (binds prefix) bindings) ≡ value_bytes (first_that (declares prefix) scope) → uri_of (first_that (binds prefix) (map binding own ++ bindings)) ≡ value_bytes (first_that (declares prefix) (own ++ scope))
first-own prefix [] bindings scope h = h
first-own prefix (d ∷ own) bindings scope h =
    by_cases (declares prefix d) (λ q. rw q refl) (λ q. rw q (first-own prefix own bindings scope h))

pub alike-own : (own : List Node) (bindings : List Binding) (scope : List Node) → Alike bindings scope → Alike (map binding own ++ bindings) (own ++ scope)
alike-own own bindings scope h prefix = first-own prefix own bindings scope (h prefix)

-- A declaration that is found is a row.
pub record Found (ns : List Node) (x : ℕ) (prefix : List ℕ) (d : Node) : Type 0 where
  pub row : ℕ
  pub within : row < length ns
  pub same : get_or ns row no_node ≡ d
  pub own : is_declaration_of x d ≡ true
  pub declared : declares prefix d ≡ true

found-row : (ns : List Node) (x : ℕ) (prefix : List ℕ) (d : Node) → first_that (declares prefix) (filtered (is_declaration_of x) ns) ≡ some d → Found ns x prefix d
found-row [] x prefix d e = absurd (none-ne-some d e)
found-row (n ∷ ns) x prefix d e =
    by_cases (is_declaration_of x n)
    (λ q.
    by_cases (declares prefix n)
    (λ t.
    let same = some-injective n d (rw (q, t) at e) in
    record { row = 0; within = omega arith; same = same; own = subst (λ (m : Node). is_declaration_of x m ≡ true) same q; declared = subst (λ (m : Node). declares prefix m ≡ true) same t })
    (λ t. later (found-row ns x prefix d (rw (q, t) at e))))
    (λ q. later (found-row ns x prefix d (rw q at e)))
  where
    later : Found ns x prefix d → Found (n ∷ ns) x prefix d
    later f = record { row = suc f.row; within = omega (arith, f.within); same = f.same; own = f.own; declared = f.declared }

-- An element that is not among those seen is where the nearer ones end.
nearer-seen : (x : ℕ) (seen later : List ℕ) → is_one_of seen x ≡ false → nearer x (seen ++ x ∷ later) ≡ seen
nearer-seen x [] later h = rw (eq-eqb x x refl) refl
nearer-seen x (y ∷ seen) later h =
    let k = both_false (eqb x y) (is_one_of seen x) h in
    let f : eqb y x ≡ false = eqb-false-sym x y k.0 in
    rw (f, nearer-seen x seen later k.1) refl

seen-there : (x : ℕ) (seen later : List ℕ) → is_one_of (seen ++ x ∷ later) x ≡ true
seen-there x [] later = rw (eq-eqb x x refl) refl
seen-there x (y ∷ seen) later = either-right (eqb x y) (seen-there x seen later)

-- Where x is among those seen, its declarations are in their scope.
seen-declares : (ns : List Node) (x : ℕ) (prefix : List ℕ) (seen : List ℕ) → is_one_of seen x ≡ true → any_of (declares prefix) (scope_of ns seen) ≡ false → any_of (declares prefix) (own_declarations ns x) ≡ false
unfolding scope_of
seen-declares ns x prefix [] h none? = absurd (true-not-false h refl)
seen-declares ns x prefix (y ∷ seen) h none? =
    let k = both_false (any_of (declares prefix) (own_declarations ns y)) (any_of (declares prefix) (gathered (own_declarations ns) seen)) (sym (any_of-append (declares prefix) (own_declarations ns y) (gathered (own_declarations ns) seen)) ∙ none?) in
    by_cases (eqb x y)
    (λ q. rw (eqb-true x y q) k.0)
    (λ q. seen-declares ns x prefix seen (rw q at h) k.1)

seen_more : (ns : List Node) (x : ℕ) (prefix : List ℕ) (seen : List ℕ) → any_of (declares prefix) (scope_of ns seen) ≡ false → first_that (declares prefix) (own_declarations ns x) ≡ none → any_of (declares prefix) (scope_of ns (seen ++ x ∷ [])) ≡ false
unfolding scope_of
seen_more ns x prefix seen unseen n =
    ap (any_of (declares prefix)) (gathered-append (own_declarations ns) seen (x ∷ []))
    ∙ any_of-append (declares prefix) (gathered (own_declarations ns) seen) (own_declarations ns x ++ [])
    ∙ rw (unseen, append-nil (own_declarations ns x), none-first_that (declares prefix) (own_declarations ns x) n) refl

-- What draws 24.
inherits : (ns : List Node) (e r : ℕ) (d : Node) (x : ℕ) (path seen : List ℕ) → node ns r ≡ d → eqb d.type DECLARATION ≡ true → is_empty d.value.bytes ≡ false → d.parent ≡ x → eqb x e ≡ false → elements_from ns e ≡ path → is_one_of path x ≡ true → nearer x path ≡ seen → any_of (declares d.local.bytes) (scope_of ns seen) ≡ false → is_inherited ns e r ≡ true
unfolding is_inherited
inherits ns e r d x path seen same type full parent other way there near unseen =
    rw (same, type, full, parent, other, way, there, near, unseen) refl

-- Where no row is refused for 24, the elements above e bind nothing that e does not hide.
module _ (ns : List Node) (e : ℕ) (none? : (r : ℕ) → r < length ns → is_inherited ns e r ≡ false) where
  module _ (prefix : List ℕ) (x : ℕ) (seen later : List ℕ) (path : elements_from ns e ≡ seen ++ x ∷ later) (start : is_one_of seen e ≡ true) (unseen : any_of (declares prefix) (scope_of ns seen) ≡ false) (d : Node) (f : first_that (declares prefix) (own_declarations ns x) ≡ some d) where
    not_seen : is_one_of seen x ≡ false
    not_seen =
        by_cases (is_one_of seen x)
        (λ q. absurd (none-ne-some d (sym (first_that-none (declares prefix) (own_declarations ns x) (seen-declares ns x prefix seen q unseen)) ∙ f)))
        (λ q. q)

    other : eqb x e ≡ false
    other =
        by_cases (eqb x e)
        (λ q. absurd (true-not-false (ap (is_one_of seen) (eqb-true x e q) ∙ start) not_seen))
        (λ q. q)

    hidden : d.value.bytes ≡ []
    unfolding own_declarations node
    hidden =
        let found = found-row ns x prefix d f in
        let own = both_true (eqb d.type DECLARATION) (eqb d.parent x) found.own in
        let same : d.local.bytes ≡ prefix = same_bytes-equal d.local.bytes prefix found.declared in
        let none-nearer : any_of (declares d.local.bytes) (scope_of ns seen) ≡ false = rw same unseen in
        by_cases (is_empty d.value.bytes)
        (λ q. empty-equal d.value.bytes q)
        (λ q.
        absurd (true-not-false
        (inherits ns e found.row d x (seen ++ x ∷ later) seen found.same own.0 q (eqb-true d.parent x own.1) other path (seen-there x seen later) (nearer-seen x seen later not_seen) none-nearer)
        (none? found.row found.within)))

  -- along the path
  nothing-inherited : (prefix : List ℕ) (seen later : List ℕ) → elements_from ns e ≡ seen ++ later → is_one_of seen e ≡ true → any_of (declares prefix) (scope_of ns seen) ≡ false → value_bytes (first_that (declares prefix) (scope_of ns later)) ≡ []
  unfolding scope_of
  nothing-inherited prefix seen [] path start unseen = refl
  nothing-inherited prefix seen (x ∷ later) path start unseen = go (first_that (declares prefix) (own_declarations ns x)) refl (λ n. nothing-inherited prefix (seen ++ x ∷ []) later (path ∙ sym (append_assoc seen (x ∷ []) later)) (any_of-append (eqb e) seen (x ∷ []) ∙ rw start refl) (seen_more ns x prefix seen unseen n))
    where
      go : (o : Option Node) → first_that (declares prefix) (own_declarations ns x) ≡ o → (first_that (declares prefix) (own_declarations ns x) ≡ none → value_bytes (first_that (declares prefix) (gathered (own_declarations ns) later)) ≡ []) → value_bytes (first_that (declares prefix) (own_declarations ns x ++ gathered (own_declarations ns) later)) ≡ []
      go none f rest = rw (first_that-append-none (declares prefix) (own_declarations ns x) (gathered (own_declarations ns) later) f) (rest f)
      go (some d) f rest = rw (first_that-append-some (declares prefix) (own_declarations ns x) (gathered (own_declarations ns) later) f) (hidden prefix x seen later path start unseen d f)

  -- So the declarations of e alone say what is in scope at e.
  path-split : is_element (node ns e).type ≡ true → elements_from ns e ≡ (e ∷ []) ++ cond (ltb (node ns e).parent e) (climb e ns (node ns e).parent) []
  unfolding elements_from climb
  path-split t = rw t refl

  nothing_above : (t : is_element (node ns e).type ≡ true) (prefix : List ℕ) → first_that (declares prefix) (own_declarations ns e) ≡ none → value_bytes (first_that (declares prefix) (above ns e)) ≡ []
  unfolding above scope_of
  nothing_above t prefix f =
      nothing-inherited prefix (e ∷ []) (cond (ltb (node ns e).parent e) (climb e ns (node ns e).parent) []) (path-split t) (rw (eq-eqb e e refl) refl) (seen_more ns e prefix [] refl f)

  start_first : (t : is_element (node ns e).type ≡ true) (prefix : List ℕ) (o : Option Node) → first_that (declares prefix) (own_declarations ns e) ≡ o → uri_of (first_that (binds prefix) (map binding (own_declarations ns e) ++ [])) ≡ value_bytes (first_that (declares prefix) (own_declarations ns e ++ above ns e))
  start_first t prefix none f = first-own prefix (own_declarations ns e) [] (above ns e) (sym (nothing_above t prefix f))
  start_first t prefix (some d) f =
      ap (λ (l : List Binding). uri_of (first_that (binds prefix) l)) (append-nil (map binding (own_declarations ns e)))
      ∙ found-bound prefix (own_declarations ns e)
      ∙ ap value_bytes (f ∙ sym (first_that-append-some (declares prefix) (own_declarations ns e) (above ns e) f))

  pub alike-start : is_element (node ns e).type ≡ true → Alike (map binding (own_declarations ns e) ++ []) (scope_at ns e)
  alike-start t prefix =
      start_first t prefix (first_that (declares prefix) (own_declarations ns e)) refl
      ∙ ap (λ (l : List Node). value_bytes (first_that (declares prefix) l)) (sym (scope-split ns e t))
