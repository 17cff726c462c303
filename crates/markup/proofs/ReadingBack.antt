-- From the text of an element a reader gets its tree.
-- Assumes nothing.
use Prim.Native.Nat.{ℕ, zero, suc, ◌+◌, ◌≤◌, ◌<◌, ◌-◌}
use mathlib.Core.Path.{◌≡◌, refl, sym, ◌∙◌, ap, subst}
use mathlib.Core.Logic.{◌⊎◌, inl, inr}
use mathlib.Core.Bool.{Bool, true, false, cond, ◌&&◌, ◌||◌, not}
use mathlib.Core.List.{List, [], ◌∷◌, ◌++◌, map}
use mathlib.Core.Option.{Option, none, some, none-ne-some, some-injective}
use native.Mathlib.Omega.{arith}
use lib.ListN.{length, get_or-eq_default, replicate}
use lib.Seq.{take_at}
use lib.Dec.{eqb, ltb, leb}
use borrow.Author.Tests.{eqb-true, eq-eqb, ne_eqb, ltb-true, ltb-false, lt-ltb}
use Rattle.rules.specs.Lists.{filtered, numbers_from, is_one_of, is_empty, same_bytes}
use Rattle.rules.specs.Table.{MOST_ROWS, NONE, ELEMENT, ATTRIBUTE, TEXT, DOCUMENT, DECLARATION, LEVEL1_ELEMENT, LEVEL1_ATTRIBUTE, xml_uri, xmlns_uri, xml_prefix, xmlns_prefix, Node, no_node, row_count, nodes, node, is_element, is_level1}
use Rattle.rules.specs.Refusals.{refused_if, check_refusal, bad_namespace, bad_declaration, is_double}
use Rattle.rules.specs.Lookups.{elements_from, element_child, own_declarations, scope_of, scope_at, in_scope_uri, uri_bytes, lookup_refusal}
use Rattle.rules.specs.Answers.{written_bytes}
use Rattle.rules.specs.Outputs.{padded}
use Rattle.rules.specs.Normalization.{level1_refusal}
use Rattle.bundles.specs.Operations.{write_done}
use Rattle.rules.specs.Demands.{element_means_in, element_means, attribute_means_in, attribute_means, means, up_from, self_and_ancestors}
use Rattle.rules.specs.declared.Refusal.{Refusal}
use Rattle.rules.specs.declared.Row.{Row}
use Rattle.rules.proofs.Lists.{by_cases, both_true, both_false, true-not-false, not-false, right-false, either-right, first_that-passes}
use Rattle.rules.proofs.Table.{length-nodes}
use Rattle.rules.proofs.Refusals.{not-refused, AllNone, all_none, lowest-none}
use Rattle.rules.proofs.Accepted.{RowAccepted, Accepted, unrefused, few-rows, parent-falls, fields-encoded, namespace-accepted}
use Rattle.rules.proofs.Scope.{above, scope-split}
use Rattle.climbing.proofs.Elements.{climb-enough}
use Rattle.markup.specs.Trees.{Content, element, Qualified, child_rows, items_of, content_of, qualified_name, written_attributes, written_tree, expanded_name, meant_attributes, meant_tree}
use Rattle.markup.specs.Markup.{markup}
use Rattle.markup.specs.Reader.{and_then, is_legal}
use Rattle.markup.specs.Namespaces.{Binding, bindings_of, all_different, meant_by, read}
use Rattle.characters.specs.Characters.{holds_forbidden}
use Rattle.markup.specs.Writing.{element_to_write, in_subtree, lowest_row, has_no_markup, is_undeclared, is_inherited, subtree_refusal, text_of, table_text, text_refusal, text_written}
use Rattle.markup.specs.ReadingBack.{joined, text_left, ReadsBack}
use Rattle.markup.proofs.Values.{value-legal}
use Rattle.markup.proofs.Reading.{Writable, markup-back}
use Rattle.markup.proofs.Scopes.{binding, Alike, alike-own, alike-start}
use Rattle.markup.proofs.Owned.{Every, every, AsAttribute, Owned, qualified-good, owned-good, bound-name, bindings-read, attributes-read}
use Rattle.markup.proofs.Unique.{all-different, prefixes-different, names-different, bindings-legal}
use Rattle.markup.proofs.Meant.{TagMeans, Means, means-read, means-joined}

-- The rows up the parent words end before their steps do.
pub up-enough : (ns : List Node) (k j r : ℕ) → r < k → r < j → up_from k ns r ≡ up_from j ns r
unfolding up_from
up-enough ns zero j r p q = absurd (omega arith)
up-enough ns (suc k) zero r p q = absurd (omega arith)
up-enough ns (suc k) (suc j) r p q =
    by_cases (ltb (node ns r).parent r)
    (λ t. let l = ltb-true (node ns r).parent r t in rw (t, up-enough ns k j (node ns r).parent (omega arith) (omega arith)) refl)
    (λ t. rw t refl)

in-self : (ns : List Node) (e : ℕ) → in_subtree ns e e ≡ true
unfolding in_subtree self_and_ancestors up_from
in-self ns e = rw (eq-eqb e e refl) refl

in-child : (ns : List Node) (e r c : ℕ) → (node ns c).parent ≡ r → r < c → in_subtree ns e r ≡ true → in_subtree ns e c ≡ true
unfolding in_subtree self_and_ancestors up_from
in-child ns e r c p l h =
    either-right (eqb e c) (rw (p, lt-ltb r c l, up-enough ns c (suc r) r l (omega arith)) h)

-- The scope of a child element is its own declarations and the scope of its parent.
child-scope : (ns : List Node) (r c : ℕ) → is_element (node ns c).type ≡ true → (node ns c).parent ≡ r → r < c → scope_at ns c ≡ own_declarations ns c ++ scope_at ns r
unfolding above scope_at scope_of elements_from
child-scope ns r c t p l =
    scope-split ns c t
    ∙ rw (p, lt-ltb r c l, climb-enough ns c (suc r) r l (omega arith)) refl

-- Lists of row numbers.
numbers-every : (P : ℕ → Type 0) (i count : ℕ) → ((r : ℕ) → r < i + count → P r) → Every P (numbers_from i count)
numbers-every P i zero h = tt
numbers-every P i (suc count) h = (h i (omega arith), numbers-every P (suc i) count (λ r l. h r (omega arith)))

filtered-every : {A : Type 0} (test : A → Bool) (P : A → Type 0) (xs : List A) → Every (λ (x : A). test x ≡ true → P x) xs → Every P (filtered test xs)
filtered-every test P [] h = tt
filtered-every test P (x ∷ xs) h =
    by_cases (test x)
    (λ q. rw q (h.0 q, filtered-every test P xs h.1))
    (λ q. rw q (filtered-every test P xs h.1))

pub record Child (ns : List Node) (e c : ℕ) : Type 0 where
  pub within : c < length ns
  pub parent : (node ns c).parent ≡ e

children : (ns : List Node) (e : ℕ) → Every (Child ns e) (child_rows ns e)
unfolding child_rows
children ns e =
    filtered-every (λ (r : ℕ). is_one_of (ELEMENT ∷ TEXT ∷ []) (node ns r).type && eqb (node ns r).parent e) (Child ns e) (numbers_from 0 (length ns))
    (numbers-every (λ (r : ℕ). (is_one_of (ELEMENT ∷ TEXT ∷ []) (node ns r).type && eqb (node ns r).parent e) ≡ true → Child ns e r) 0 (length ns)
    (λ r l t. record { within = omega arith; parent = eqb-true (node ns r).parent e (both_true (is_one_of (ELEMENT ∷ TEXT ∷ []) (node ns r).type) (eqb (node ns r).parent e) t).1 }))

-- An attribute without a prefix is not named xmlns: refusal 5.
not-default : (n : Node) → bad_namespace n ≡ false → n.type ≡ ATTRIBUTE → (is_empty n.prefix.bytes && same_bytes n.local.bytes xmlns_prefix) ≡ false
unfolding bad_namespace
not-default n h t =
    let is : is_one_of (ELEMENT ∷ ATTRIBUTE ∷ []) n.type ≡ true = rw t refl in
    let last : (eqb n.type ATTRIBUTE && is_empty n.prefix.bytes && same_bytes n.local.bytes xmlns_prefix) ≡ false =
    (both_false
    ((not (is_empty n.prefix.bytes) && is_empty n.uri.bytes)
    || same_bytes n.uri.bytes xmlns_uri
    || same_bytes n.prefix.bytes xmlns_prefix
    || (same_bytes n.prefix.bytes xml_prefix && not (same_bytes n.uri.bytes xml_uri))
    || (eqb n.type ELEMENT && same_bytes n.uri.bytes xml_uri && not (same_bytes n.prefix.bytes xml_prefix)))
    (eqb n.type ATTRIBUTE && is_empty n.prefix.bytes && same_bytes n.local.bytes xmlns_prefix)
    (right-false _ _ h is)).1 in
    rw t at last

element-only : (type : ℕ) → is_element type ≡ true → is_level1 type ≡ false → type ≡ ELEMENT
element-only type h l =
    by_cases (eqb type ELEMENT)
    (λ q. eqb-true type ELEMENT q)
    (λ q.
    let k = (both_false (eqb type LEVEL1_ELEMENT) (eqb type LEVEL1_ATTRIBUTE || false) l).0 in
    absurd (true-not-false (rw (q, k) at h) refl))

-- What nothing is refused for: an accepted table without Level 1 rows, and the subtree of an element.
pub record Clear (table pool : List ℕ) (e : ℕ) : Type 0 where
  pub accepted : Accepted table pool
  pub characters : (r : ℕ) → r < length (nodes table pool) → (in_subtree (nodes table pool) e r && holds_forbidden (node (nodes table pool) r).value.bytes) ≡ false
  pub names : (r : ℕ) → r < length (nodes table pool) → (in_subtree (nodes table pool) e r && is_undeclared (nodes table pool) r) ≡ false
  pub inherited : (r : ℕ) → r < length (nodes table pool) → is_inherited (nodes table pool) e r ≡ false
  pub element : (node (nodes table pool) e).type ≡ ELEMENT
  pub within : e < length (nodes table pool)

module _ (table pool : List ℕ) (top : ℕ) (clear : Clear table pool top) where
  abbrev ns : List Node
  ns = nodes table pool

  few : length ns ≤ MOST_ROWS
  few = rw (length-nodes table pool) (few-rows table pool clear.accepted.size)

  row : (r : ℕ) → r < length ns → RowAccepted ns (length pool) r
  row r l = clear.accepted.row r l

  -- A row of the subtree.
  record There (r : ℕ) : Type 0 where
    pub within : r < length ns
    pub inside : in_subtree ns top r ≡ true

  -- A row whose parent is in the subtree is.
  falls : (r c : ℕ) → r < length ns → c < length ns → (node ns c).parent ≡ r → r < c
  falls r c i l p = go (parent-falls ns (length pool) c (row c l))
    where
      go : ((node ns c).parent ≡ NONE) ⊎ ((node ns c).parent < c) → r < c
      go (inl n) = absurd (omega (arith, few, sym p ∙ n))
      go (inr f) = rw p at f

  there : (r c : ℕ) → There r → c < length ns → (node ns c).parent ≡ r → There c
  there r c h l p = record { within = l; inside = in-child ns top r c p (falls r c h.within l p) h.inside }

  legal : (r : ℕ) → There r → is_legal (node ns r).value.bytes ≡ true
  legal r h =
      value-legal (node ns r).value.bytes (fields-encoded r (node ns r) (row r h.within).encodings).value
      (right-false (in_subtree ns top r) (holds_forbidden (node ns r).value.bytes) (clear.characters r h.within) h.inside)

  meant : (r : ℕ) → There r → is_one_of (ELEMENT ∷ ATTRIBUTE ∷ []) (node ns r).type ≡ true → means ns r ≡ true
  unfolding is_undeclared
  meant r h t =
      let f = right-false (in_subtree ns top r) (is_undeclared ns r) (clear.names r h.within) h.inside in
      not-false (means ns r) (right-false (is_one_of (ELEMENT ∷ ATTRIBUTE ∷ []) (node ns r).type) (not (means ns r)) f t)

  element-means : (e : ℕ) → There e → (node ns e).type ≡ ELEMENT → same_bytes (uri_bytes (in_scope_uri (scope_at ns e) (node ns e).prefix.bytes)) (node ns e).uri.bytes ≡ true
  unfolding means element_means element_means_in
  element-means e h t =
      sym (ap (λ (type : ℕ). cond (eqb type ELEMENT) (element_means ns e) (attribute_means ns e)) t) ∙ meant e h (rw t refl)

  -- What element e owns.
  attribute-means : (e i : ℕ) → There e → i < length ns → AsAttribute e (node ns i) → attribute_means_in (scope_at ns e) (node ns i) ≡ true
  unfolding means attribute_means
  attribute-means e i h l a =
      sym (ap (λ (parent : ℕ). attribute_means_in (scope_at ns parent) (node ns i)) a.parent)
      ∙ sym (ap (λ (type : ℕ). cond (eqb type ELEMENT) (element_means ns i) (attribute_means ns i)) a.type)
      ∙ meant i (there e i h l a.parent) (rw a.type refl)

  owned : (e : ℕ) → There e → Every (Owned (scope_at ns e) e) ns
  unfolding node
  owned e h =
      every (Owned (scope_at ns e) e) no_node ns
      (λ i l.
      let accepted = row i l in
      record {
        names = accepted.names;
        value = λ o. legal i (there e i h l (eqb-true (node ns i).parent e (both_true (is_one_of (ATTRIBUTE ∷ DECLARATION ∷ []) (node ns i).type) (eqb (node ns i).parent e) o).1));
        legal = accepted.declaration;
        not_xmlns = λ a. (namespace-accepted ns (length pool) i accepted (rw a.type refl)).not_xmlns;
        not_default = λ a. not-default (node ns i) accepted.namespace a.type;
        means = λ a. attribute-means e i h l a;
      })

  different : all_different (λ (x : Node) (y : Node). is_double y x) ns ≡ true
  unfolding node
  different = all-different is_double no_node ns (λ r l. (row r l).double)

  all-legal : Every (λ (n : Node). bad_declaration n ≡ false) ns
  unfolding node
  all-legal = every (λ (n : Node). bad_declaration n ≡ false) no_node ns (λ i l. (row i l).declaration)

  -- The tag of element e, in the reader's scope around it.
  abbrev own : ℕ → List Binding
  own e = map binding (own_declarations ns e)

  own_read : (e : ℕ) → There e → bindings_of (written_attributes ns e) ≡ own e
  unfolding written_attributes own_declarations
  own_read e h = bindings-read (scope_at ns e) e ns (owned e h)

  tag : (e : ℕ) → There e → (node ns e).type ≡ ELEMENT → (around : List Binding) → Alike (own e ++ around) (scope_at ns e) → TagMeans around (qualified_name (node ns e)) (written_attributes ns e) (expanded_name (node ns e)) (meant_attributes ns e)
  unfolding written_attributes own_declarations meant_attributes
  tag e h t around alike =
      let is : is_one_of (ELEMENT ∷ ATTRIBUTE ∷ []) (node ns e).type ≡ true = rw t refl in
      let accepted = namespace-accepted ns (length pool) e (row e h.within) is in
      let bindings = own_read e h in
      let number : eqb e NONE ≡ false = ne_eqb e NONE (λ z. omega (arith, few, h.within)) in
      record {
        legal = rw bindings (bindings-legal e ns all-legal);
        different = rw bindings (prefixes-different e number ns different);
        name = rw bindings (bound-name (own e ++ around) (scope_at ns e) alike (node ns e) accepted.not_xmlns accepted.prefix_has_uri (element-means e h t));
        attributes = rw bindings (attributes-read (scope_at ns e) e (own e ++ around) alike ns (owned e h));
        unique = names-different e number ns different;
      }

  -- A child element in the reader's scope.
  child-alike : (e c : ℕ) → There e → There c → (node ns c).type ≡ ELEMENT → (node ns c).parent ≡ e → (bindings : List Binding) → Alike bindings (scope_at ns e) → Alike (own c ++ bindings) (scope_at ns c)
  child-alike e c h k t p bindings alike =
      let is : is_element (node ns c).type ≡ true = rw t refl in
      rw (child-scope ns e c is p (falls e c h.within k.within p)) (alike-own (own_declarations ns c) bindings (scope_at ns e) alike)

  -- The content of element e, as it is written and as it is meant.
  module _ (steps : ℕ) (below : (c : ℕ) → There c → (bindings : List Binding) → Alike bindings (scope_at ns c) → Means bindings (content_of qualified_name written_attributes steps ns c) (content_of expanded_name meant_attributes steps ns c)) where
    items-mean : (e : ℕ) → There e → (bindings : List Binding) → Alike bindings (scope_at ns e) → (rows : List ℕ) → Every (Child ns e) rows → Means bindings (items_of qualified_name written_attributes (content_of qualified_name written_attributes steps ns) ns rows) (items_of expanded_name meant_attributes (content_of expanded_name meant_attributes steps ns) ns rows)
    items-mean e h bindings alike [] cs = tt
    items-mean e h bindings alike (c ∷ rows) cs =
        let k = there e c h cs.0.within cs.0.parent in
        let later = items-mean e h bindings alike rows cs.1 in
        by_cases (eqb (node ns c).type ELEMENT)
        (λ q.
        let t = eqb-true (node ns c).type ELEMENT q in
        let inner = child-alike e c h k t cs.0.parent bindings alike in
        rw q (tag c k t bindings inner, rw (own_read c k) (below c k (own c ++ bindings) inner), later))
        (λ q. rw q (refl, later))

  content-means : (steps : ℕ) (e : ℕ) → There e → (bindings : List Binding) → Alike bindings (scope_at ns e) → Means bindings (content_of qualified_name written_attributes steps ns e) (content_of expanded_name meant_attributes steps ns e)
  content-means zero e h bindings alike = tt
  content-means (suc steps) e h bindings alike = items-mean steps (content-means steps) e h bindings alike (child_rows ns e) (children ns e)

  -- And it can be written.
  module _ (steps : ℕ) (below : (c : ℕ) → There c → Writable (content_of qualified_name written_attributes steps ns c)) where
    items-writable : (e : ℕ) → There e → (rows : List ℕ) → Every (Child ns e) rows → Writable (items_of qualified_name written_attributes (content_of qualified_name written_attributes steps ns) ns rows)
    unfolding written_attributes
    items-writable e h [] cs = tt
    items-writable e h (c ∷ rows) cs =
        let k = there e c h cs.0.within cs.0.parent in
        let later = items-writable e h rows cs.1 in
        by_cases (eqb (node ns c).type ELEMENT)
        (λ q.
        let t = eqb-true (node ns c).type ELEMENT q in
        rw q (qualified-good (node ns c) ELEMENT t refl refl (row c k.within).names, owned-good (scope_at ns c) c ns (owned c k), below c k, later))
        (λ q. rw q (legal c k, later))

  content-writable : (steps : ℕ) (e : ℕ) → There e → Writable (content_of qualified_name written_attributes steps ns e)
  content-writable zero e h = tt
  content-writable (suc steps) e h = items-writable steps (content-writable steps) e h (child_rows ns e) (children ns e)

  -- The whole.
  top-there : There top
  top-there = record { within = clear.within; inside = in-self ns top }

  top-alike : Alike (own top ++ []) (scope_at ns top)
  top-alike = let t : is_element (node ns top).type ≡ true = rw clear.element refl in alike-start ns top clear.inherited t

  tree-means : Means [] (written_tree ns top) (meant_tree ns top)
  unfolding written_tree meant_tree
  tree-means =
      (tag top top-there clear.element [] top-alike, rw (own_read top top-there) (content-means (length ns) top top-there (own top ++ []) top-alike), tt)

  tree-writable : Writable (written_tree ns top)
  unfolding written_tree written_attributes
  tree-writable =
      (qualified-good (node ns top) ELEMENT clear.element refl refl (row top clear.within).names, owned-good (scope_at ns top) top ns (owned top top-there), content-writable (length ns) top top-there, tt)

  pub text-back : read (markup (written_tree ns top)) ≡ some (joined (meant_tree ns top))
  unfolding read written_tree
  text-back =
      let back = markup-back (qualified_name (node ns top)) (written_attributes ns top) (content_of qualified_name written_attributes (length ns) ns top) tree-writable in
      ap (λ (o : Option (Content Qualified)). and_then o (meant_by [])) back
      ∙ means-read [] (joined (written_tree ns top)) (joined (meant_tree ns top)) (means-joined [] [] (written_tree ns top) (meant_tree ns top) tree-means)

-- The element that is written is one.
chosen : (ns : List Node) (start e : ℕ) → element_to_write ns start ≡ some e → is_element (node ns e).type ≡ true
unfolding element_to_write element_child
chosen ns start e h =
    by_cases (is_element (node ns start).type)
    (λ q. subst (λ (r : ℕ). is_element (node ns r).type ≡ true) (some-injective start e (rw q at h)) q)
    (λ q.
    by_cases (eqb (node ns start).type DOCUMENT)
    (λ d.
    (both_true (is_element (node ns e).type) (eqb (node ns e).parent start)
    (first_that-passes (λ (child : ℕ). is_element (node ns child).type && eqb (node ns child).parent start) (numbers_from 0 (length ns)) (rw (q, d) at h))).0)
    (λ d. absurd (none-ne-some e (rw (q, d) at h))))

-- A row that is an element is in the table.
element-within : (ns : List Node) (e : ℕ) → is_element (node ns e).type ≡ true → e < length ns
unfolding node
element-within ns e h =
    by_cases (ltb e (length ns))
    (λ q. ltb-true e (length ns) q)
    (λ q. absurd (true-not-false (rw (get_or-eq_default ns no_node (ltb-false e (length ns) q)) at h) refl))

-- What is not refused is clear.
module _ (ns : List Node) (test : ℕ → Bool) (refusal : Row → Refusal) where
  row-clear : lowest_row ns test refusal ≡ none → (r : ℕ) → r < length ns → test r ≡ false
  row-clear h r l =
      not-refused (test r) (refusal (record { 0 = r })) (lowest-none (λ (i : ℕ). refused_if (test i) (refusal (record { 0 = i }))) (length ns) h r l)

clear-subtree : (table pool : List ℕ) (start e : ℕ) → Accepted table pool → level1_refusal (nodes table pool) ≡ none → is_element (node (nodes table pool) e).type ≡ true → subtree_refusal (nodes table pool) start (some e) ≡ none → Clear table pool e
unfolding subtree_refusal level1_refusal
clear-subtree table pool start e a level2 t h =
    let ns = nodes table pool in
    let i = element-within ns e t in
    let each =
    all_none
    (lowest_row ns (λ (r : ℕ). in_subtree ns e r && has_no_markup ns r) Refusal.NotMarkup
    ∷ lowest_row ns (λ (r : ℕ). in_subtree ns e r && holds_forbidden (node ns r).value.bytes) Refusal.Character
    ∷ lowest_row ns (λ (r : ℕ). in_subtree ns e r && is_undeclared ns r) Refusal.Undeclared
    ∷ lowest_row ns (is_inherited ns e) Refusal.Inherited
    ∷ []) h in
    record {
      accepted = a;
      characters = row-clear ns (λ (r : ℕ). in_subtree ns e r && holds_forbidden (node ns r).value.bytes) Refusal.Character each.1.0;
      names = row-clear ns (λ (r : ℕ). in_subtree ns e r && is_undeclared ns r) Refusal.Undeclared each.1.1.0;
      inherited = row-clear ns (is_inherited ns e) Refusal.Inherited each.1.1.1.0;
      element = element-only (node ns e).type t (row-clear ns (λ (r : ℕ). is_level1 (node ns r).type) Refusal.Level1 level2 e i);
      within = i;
    }

-- A text that fits is left whole.
left-whole : (table pool : List ℕ) (start size : ℕ) → text_refusal table pool start size ≡ none → text_left (text_written table pool start size) ≡ table_text table pool start
unfolding text_left text_written write_done written_bytes padded
left-whole table pool start size h =
    let bytes = table_text table pool start in
    rw h (take_at bytes (replicate (size - length bytes) 0) (length bytes) refl)

module _ (table pool : List ℕ) (start size : ℕ) (h : text_refusal table pool start size ≡ none) where
  abbrev rows : List Node
  rows = nodes table pool

  each : AllNone (lookup_refusal table pool start ∷ level1_refusal rows ∷ subtree_refusal rows start (element_to_write rows start) ∷ refused_if (ltb size (length (table_text table pool start))) Refusal.TextRoom ∷ [])
  unfolding text_refusal
  each =
      all_none
      (lookup_refusal table pool start
      ∷ level1_refusal rows
      ∷ subtree_refusal rows start (element_to_write rows start)
      ∷ refused_if (ltb size (length (table_text table pool start))) Refusal.TextRoom
      ∷ []) h

  check : check_refusal table pool ≡ none
  unfolding lookup_refusal
  check = (all_none (check_refusal table pool ∷ refused_if (leb (row_count table) start) Refusal.NoSuchRow ∷ []) each.0).0

  -- without an element it is refused
  back : (o : Option ℕ) → element_to_write rows start ≡ o → (e : ℕ) × (element_to_write rows start ≡ some e) × (read (table_text table pool start) ≡ some (joined (meant_tree rows e)))
  unfolding subtree_refusal text_of
  back none c = absurd (none-ne-some (Refusal.NotMarkup (record { 0 = start })) (sym each.1.1.0 ∙ ap (subtree_refusal rows start) c))
  back (some e) c =
      let subtree : subtree_refusal rows start (some e) ≡ none = sym (ap (subtree_refusal rows start) c) ∙ each.1.1.0 in (
        e,
        c,
        ap (λ (o : Option ℕ). read (text_of rows o)) c
            ∙ text-back table pool e (clear-subtree table pool start e (unrefused table pool check) each.1.0 (chosen rows start e c) subtree),
      )

pub reads-back : ReadsBack
reads-back table pool start size h =
    rw (left-whole table pool start size h) (back table pool start size h (element_to_write (nodes table pool) start) refl)
