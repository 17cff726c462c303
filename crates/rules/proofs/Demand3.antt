-- Demand 3, of the outcome that the definitions fix.
-- Assumes nothing.
use Prim.Native.Nat.{ℕ, zero, suc, ◌≤◌, ◌<◌}
use mathlib.Core.Path.{◌≡◌, refl, sym, ◌∙◌, ap, subst}
use mathlib.Core.Logic.{◌⊎◌, inl, inr}
use mathlib.Core.Bool.{Bool, true, false, ◌&&◌, ◌||◌, not}
use mathlib.Core.List.{List, [], ◌∷◌, map}
use mathlib.Core.Option.{none}
use native.Mathlib.Nat.{le_refl, le_trans, le_of_lt, lt_of_le_of_lt, lt_trans, not-suc-le-zero}
use native.Mathlib.Omega.{arith}
use lib.ListN.{length, get_or}
use lib.Seq.{drop-length}
use lib.Dec.{eqb, ltb}
use borrow.Author.Tests.{eqb-true, eq-eqb, ltb-true, lt-ltb}
use Rattle.rules.specs.Lists.{is_one_of, is_empty, same_bytes}
use Rattle.rules.specs.Table.{MOST_ROWS, NONE, ELEMENT, ATTRIBUTE, DECLARATION, LEVEL1_ELEMENT, Field, Node, no_node, nodes, node, is_element, is_level1}
use Rattle.rules.specs.Lookups.{is_declaration_of, own_declarations, scope_at, in_scope_uri, uri_bytes}
use Rattle.rules.specs.Normalization.{normalize_rows, normal_form, level1_refusal, normalized}
use Rattle.rules.specs.Demands.{result_rows, element_means_in, element_means, attribute_means_in, attribute_means, means, is_bound, Meaning, field_bytes, bytes_and_maker, Agree, up_from, self_and_ancestors, concerns, AgreeAt, added_declarations, ResultsAgreeAt, Independence}
use Rattle.rules.proofs.Lists.{by_cases, both_true, true-both, either_left, either-right, T_true, true-T, true-not-false, not-true, equal-same_bytes, all_of-every, filtered-alike}
use Rattle.rules.specs.Refusals.{refused_if}
use Rattle.rules.specs.declared.Refusal.{Refusal}
use Rattle.rules.proofs.Refusals.{not-refused, lowest-none}
use Rattle.rules.proofs.Accepted.{Accepted, unrefused, few-rows, parent-falls, owner-element, namespace-accepted, NamespaceAccepted, declaration-valued}
use Rattle.rules.proofs.Scope.{core-refl}
use Rattle.rules.proofs.Meaning.{is_sound, AttributeMeans, Normal, rows-normal}
use Rattle.rules.proofs.Forgotten.{forget}
use Rattle.rules.proofs.Independence.{Closed, Alike, Both, rows_alike}
use Rattle.rules.proofs.Table.{length-nodes}
use Rattle.rules.proofs.Result.{pool-rows, success-rows, Succeeds, succeeds, input-pool}

-- What is known of an accepted table without Level 1 rows.
module _ (table pool : List ℕ) (a : Accepted table pool) (level2 : level1_refusal (nodes table pool) ≡ none) where
  abbrev base : List Node
  base = nodes table pool

  element-type : (r : ℕ) → r < length base → is_element (node base r).type ≡ true → (node base r).type ≡ ELEMENT
  unfolding level1_refusal
  element-type r i e =
      let g : is_level1 (node base r).type ≡ false =
      not-refused (is_level1 (node base r).type) (Refusal.Level1 (record { 0 = r }))
      (lowest-none (λ x. refused_if (is_level1 (node base x).type) (Refusal.Level1 (record { 0 = x }))) (length base) level2 r i)
      in
      by_cases (eqb (node base r).type ELEMENT)
      (λ q. eqb-true (node base r).type ELEMENT q)
      (λ q.
      by_cases (eqb (node base r).type LEVEL1_ELEMENT)
      (λ s. let y : is_level1 (node base r).type ≡ true = rw s refl in absurd (true-not-false y g))
      (λ s. let y : is_element (node base r).type ≡ false = rw (q, s) refl in absurd (true-not-false e y)))

  element-named : (r : ℕ) → r < length base → (node base r).type ≡ ELEMENT → NamespaceAccepted (node base r)
  element-named r i t = namespace-accepted base (length pool) r (a.row r i) (rw t refl)

  row-sound : (r : ℕ) → r < length base → is_sound (node base r) ≡ true
  unfolding is_sound
  row-sound r i =
      by_cases (eqb (node base r).type DECLARATION)
      (λ q.
      rw q
      (by_cases (is_empty (node base r).local.bytes)
      (λ l. rw l refl)
      (λ l. rw (l, declaration-valued base (length pool) r (a.row r i) (eqb-true (node base r).type DECLARATION q) l) refl)))
      (λ q.
      by_cases (eqb (node base r).type ATTRIBUTE)
      (λ t.
      rw (q, t)
      (by_cases (is_empty (node base r).uri.bytes)
      (λ u. let n = namespace-accepted base (length pool) r (a.row r i) (rw (eqb-true (node base r).type ATTRIBUTE t) refl) in rw (u, n.prefix_has_uri u) refl)
      (λ u. rw u refl)))
      (λ t. rw (q, t) refl))

  start-normal : Normal base 0 (record { rows = base; pool = pool })
  unfolding node
  start-normal =
      record {
        long = le_refl (length base);
        sound = all_of-every is_sound base no_node row-sound;
        core = λ r i. core-refl (node base r);
        fixed = λ r i t. refl;
        elements = λ e i t. absurd (not-suc-le-zero i);
        attributes = λ b i t p o. absurd (not-suc-le-zero p);
      }

  normal : Normal base (length base) (normal_form base pool)
  unfolding normal_form
  normal = rows-normal base element-named (length base) (record { rows = base; pool = pool }) (le_refl (length base)) start-normal

  element-case : (r : ℕ) → r < length base → (node base r).type ≡ ELEMENT → means (normal_form base pool).rows r ≡ true
  unfolding means element_means element_means_in
  element-case r i t = rw (eq-eqb _ 1 ((normal.core r i).type ∙ t)) (equal-same_bytes (normal.elements r i t))

  attribute-case : (r : ℕ) → r < length base → (node base r).type ≡ ATTRIBUTE → ((node base r).parent ≡ NONE → ⊥) → means (normal_form base pool).rows r ≡ true
  unfolding means attribute_means attribute_means_in
  attribute-case r i t o =
      let owner = owner-element base (length pool) r (a.row r i) (rw t refl) o in
      let small : (node base r).parent < length base = lt_trans owner.0 i in
      rw ((normal.core r i).type ∙ t)
      (rw (normal.core r i).parent
      (go (normal.attributes r i t small (element-type (node base r).parent small owner.1))))
    where
      go : AttributeMeans (normal_form base pool).rows (node base r).parent r → ((is_empty (node (normal_form base pool).rows r).uri.bytes && is_empty (node (normal_form base pool).rows r).prefix.bytes) || (not (is_empty (node (normal_form base pool).rows r).uri.bytes) && not (is_empty (node (normal_form base pool).rows r).prefix.bytes) && same_bytes (uri_bytes (in_scope_uri (scope_at (normal_form base pool).rows (node base r).parent) (node (normal_form base pool).rows r).prefix.bytes)) (node (normal_form base pool).rows r).uri.bytes)) ≡ true
      go (inl none?) = rw (none?.0, none?.1) refl
      go (inr m) = rw (m.0, m.1.0, equal-same_bytes m.1.1) refl

  bound-case : (r : ℕ) → r < length base → is_bound (node base r) ≡ true → means (normal_form base pool).rows r ≡ true
  unfolding is_bound
  bound-case r i b =
      by_cases (eqb (node base r).type ELEMENT)
      (λ q. element-case r i (eqb-true (node base r).type ELEMENT q))
      (λ q.
      let h = both_true (eqb (node base r).type ATTRIBUTE) (not (eqb (node base r).parent NONE)) (rw q at b) in
      attribute-case r i (eqb-true (node base r).type ATTRIBUTE h.0) (λ z. true-not-false (eq-eqb (node base r).parent NONE z) (not-true (eqb (node base r).parent NONE) h.1)))

-- The rows that the outcome's buffers hold are those of the finished result.
pub result-is : (table pool : List ℕ) (table_size pool_size : ℕ) → Succeeds table pool table_size pool_size → result_rows (normalized table pool table_size pool_size) ≡ (normal_form (nodes table pool) pool).rows
unfolding normal_form
result-is table pool table_size pool_size s =
    let ns = nodes table pool in
    let in-pool = pool-rows (length ns) (length ns) (record { rows = ns; pool = pool }) (le_refl (length ns)) (record { long = le_refl (length ns); fit = input-pool table pool (unrefused table pool s.accepted) }) in
    ap result_rows s.outcome ∙ success-rows table_size pool_size (normal_form ns pool) in-pool.fit

-- Demand 3, first part.
pub meaning : Meaning
meaning table pool table_size pool_size t r i b =
    let s = succeeds table pool table_size pool_size t in
    let a = unrefused table pool s.accepted in
    let c = (normal table pool a s.level2).core r i in
    rw (result-is table pool table_size pool_size s)
    (record {
      type = c.type;
      parent = c.parent;
      uri = ap (λ (f : Field). f.bytes) c.uri;
      local = ap (λ (f : Field). f.bytes) c.local;
      maker = c.maker;
      meaning = true-T (bound-case table pool a s.level2 r i (T_true (is_bound (node (nodes table pool) r)) b));
    })

-- The rows up the parent words.

up-below : (steps : ℕ) (ns : List Node) (r x : ℕ) → is_one_of (up_from steps ns r) x ≡ true → x ≤ r
unfolding up_from
up-below zero ns r x e = absurd (true-not-false e refl)
up-below (suc steps) ns r x e =
    by_cases (eqb x r)
    (λ q. rw (eqb-true x r q) (le_refl r))
    (λ q.
    by_cases (ltb (node ns r).parent r)
    (λ t. le_trans (up-below steps ns (node ns r).parent x (rw (q, t) at e)) (le_of_lt (ltb-true (node ns r).parent r t)))
    (λ t. absurd (true-not-false (rw (q, t) at e) refl)))

up_first : (steps : ℕ) (ns : List Node) (r : ℕ) → r < steps → is_one_of (up_from steps ns r) r ≡ true
unfolding up_from
up_first zero ns r h = absurd (not-suc-le-zero h)
up_first (suc steps) ns r h = rw (eq-eqb r r refl) refl

up-closed : (steps : ℕ) (ns : List Node) (r x : ℕ) → r < steps → is_one_of (up_from steps ns r) x ≡ true → (node ns x).parent < x → is_one_of (up_from steps ns r) (node ns x).parent ≡ true
unfolding up_from
up-closed zero ns r x h e i = absurd (not-suc-le-zero h)
up-closed (suc steps) ns r x h e i =
    by_cases (eqb (node ns x).parent r)
    (λ q. rw q refl)
    (λ q.
    by_cases (eqb x r)
    (λ z.
    let same = eqb-true x r z in
    let less : (node ns r).parent < r = subst (λ (y : ℕ). (node ns y).parent < y) same i in
    rw (q, lt-ltb (node ns r).parent r less)
    (subst (λ (y : ℕ). is_one_of (up_from steps ns (node ns r).parent) (node ns y).parent ≡ true) (sym same) (up_first steps ns (node ns r).parent (omega arith))))
    (λ z.
    by_cases (ltb (node ns r).parent r)
    (λ t. rw (q, t) (up-closed steps ns (node ns r).parent x (omega (arith, ltb-true (node ns r).parent r t)) (rw (z, t) at e) i))
    (λ t. absurd (true-not-false (rw (z, t) at e) refl))))

-- They read the parent words of the rows that they meet, and no others.
up_same : (P : ℕ → Type 0) (ns ms : List Node) → ((x : ℕ) → P x → (node ns x).parent < x → P (node ns x).parent) → ((x : ℕ) → P x → (node ms x).parent ≡ (node ns x).parent) → (steps r : ℕ) → P r → up_from steps ms r ≡ up_from steps ns r
unfolding up_from
up_same P ns ms closed same zero r p = refl
up_same P ns ms closed same (suc steps) r p =
    rw (same r p)
    (by_cases (ltb (node ns r).parent r)
    (λ t. rw (t, up_same P ns ms closed same steps (node ns r).parent (closed r p (ltb-true (node ns r).parent r t))) refl)
    (λ t. rw t refl))

-- Agreement is equality but for places.
rebuilt : ℕ → ℕ → ℕ → List (List ℕ) → Node
rebuilt maker type parent bytes =
    record {
      type = type;
      parent = parent;
      prefix = record { offset = 0; size = 0; bytes = get_or bytes 0 [] };
      local = record { offset = 0; size = 0; bytes = get_or bytes 1 [] };
      uri = record { offset = 0; size = 0; bytes = get_or bytes 2 [] };
      value = record { offset = 0; size = 0; bytes = get_or bytes 3 [] };
      maker = maker;
    }

pub agree-forget : (n m : Node) → Agree n m → forget n ≡ forget m
unfolding rebuilt
agree-forget n m a =
    ap (λ (t : ℕ). rebuilt n.maker t n.parent (field_bytes n)) a.type
    ∙ ap (λ (t : ℕ). rebuilt n.maker m.type t (field_bytes n)) a.parent
    ∙ ap (rebuilt n.maker m.type m.parent) a.bytes
    ∙ ap (λ (t : ℕ). rebuilt t m.type m.parent (field_bytes m)) a.maker

forget-agree : (n m : Node) → forget n ≡ forget m → Agree n m
forget-agree n m e = record { type = ap (λ (k : Node). k.type) e; parent = ap (λ (k : Node). k.parent) e; bytes = ap field_bytes e; maker = ap (λ (k : Node). k.maker) e }

bytes-forgotten : (l : List Node) → map bytes_and_maker (map forget l) ≡ map bytes_and_maker l
bytes-forgotten [] = refl
bytes-forgotten (n ∷ l) = rw (bytes-forgotten l) refl

-- Two accepted tables that agree at row e.
module _ (table pool table' pool' : List ℕ) (a : Accepted table pool) (a' : Accepted table' pool') (e : ℕ)
    (within : e < length (nodes table pool)) (agree : AgreeAt (nodes table pool) (nodes table' pool') e) where
  abbrev ns : List Node
  ns = nodes table pool

  abbrev ms : List Node
  ms = nodes table' pool'

  path : ℕ → Bool
  path x = is_one_of (self_and_ancestors ns e) x

  few : length ns ≤ MOST_ROWS
  few = rw (length-nodes table pool) (few-rows table pool a.size)

  inside : (x : ℕ) → path x ≡ true → x < length ns
  unfolding path self_and_ancestors
  inside x p = lt_of_le_of_lt (up-below (suc e) ns e x p) within

  parents : (x : ℕ) → path x ≡ true → (node ns x).parent < x → path (node ns x).parent ≡ true
  unfolding path self_and_ancestors
  parents x p i = up-closed (suc e) ns e x (le_refl (suc e)) p i

  first : path e ≡ true
  unfolding path self_and_ancestors
  first = up_first (suc e) ns e (le_refl (suc e))

  on-path : (x : ℕ) → path x ≡ true → Agree (node ns x) (node ms x)
  unfolding path concerns
  on-path x p = agree.rows x (inside x p) (true-T (either_left (concerns ms e x) (either_left _ p)))

  same-path : self_and_ancestors ms e ≡ self_and_ancestors ns e
  unfolding self_and_ancestors
  same-path = up_same (λ (x : ℕ). path x ≡ true) ns ms parents (λ x p. sym (on-path x p).parent) (suc e) e first

  owners : (x : ℕ) → path x ≡ true → is_one_of (ATTRIBUTE ∷ DECLARATION ∷ []) (node ns x).type ≡ true → (node ns x).parent < length ns → path (node ns x).parent ≡ true
  owners x p t i = go (parent-falls ns (length pool) x (a.row x (inside x p)))
    where
      go : ((node ns x).parent ≡ NONE) ⊎ ((node ns x).parent < x) → path (node ns x).parent ≡ true
      go (inl z) = absurd (omega (arith, few))
      go (inr less) = parents x p less

  closed-ns : Closed (length ns) path ns
  closed-ns = record { long = le_refl (length ns); inside = inside; parents = parents; owners = owners }

  closed-ms : Closed (length ns) path ms
  closed-ms =
      record {
        long = rw agree.count (le_refl (length ms));
        inside = inside;
        parents = λ x p i. subst (λ (y : ℕ). path y ≡ true) (on-path x p).parent (parents x p (rw (on-path x p).parent i));
        owners = λ x p t i.
            subst (λ (y : ℕ). path y ≡ true) (on-path x p).parent
            (owners x p (rw (on-path x p).type t) (rw (on-path x p).parent i));
      }

  owned-agrees : (r : ℕ) → r < length ns → is_one_of (ATTRIBUTE ∷ DECLARATION ∷ []) (node ns r).type ≡ true → path (node ns r).parent ≡ true → forget (node ns r) ≡ forget (node ms r)
  unfolding path concerns
  owned-agrees r i t p =
      agree-forget (node ns r) (node ms r)
      (agree.rows r i (true-T (either_left (concerns ms e r) (either-right (is_one_of (self_and_ancestors ns e) r) (true-both t p)))))

  owned-agrees' : (r : ℕ) → r < length ns → is_one_of (ATTRIBUTE ∷ DECLARATION ∷ []) (node ms r).type ≡ true → path (node ms r).parent ≡ true → forget (node ns r) ≡ forget (node ms r)
  unfolding path concerns
  owned-agrees' r i t p =
      agree-forget (node ns r) (node ms r)
      (agree.rows r i
      (true-T
      (either-right (concerns ns e r)
      (either-right (is_one_of (self_and_ancestors ms e) r)
      (true-both t (subst (λ (l : List ℕ). is_one_of l (node ms r).parent ≡ true) (sym same-path) p))))))

  declared-alike : (x : ℕ) → path x ≡ true → (i : ℕ) → i < length ns → (is_declaration_of x (node ns i) ≡ is_declaration_of x (node ms i)) × (is_declaration_of x (node ns i) ≡ true → forget (node ns i) ≡ forget (node ms i))
  declared-alike x p i h =
      by_cases (is_declaration_of x (node ns i))
      (λ q. let s = yes-case q in (ap (is_declaration_of x) s, λ z. s))
      (λ q.
      by_cases (is_declaration_of x (node ms i))
      (λ q'. let s = other-case q' in (ap (is_declaration_of x) s, λ z. s))
      (λ q'. (q ∙ sym q', λ z. absurd (true-not-false z q))))
    where
      yes-case : is_declaration_of x (node ns i) ≡ true → forget (node ns i) ≡ forget (node ms i)
      yes-case q =
          let t = both_true (eqb (node ns i).type DECLARATION) (eqb (node ns i).parent x) q in
          owned-agrees i h (rw (eqb-true (node ns i).type DECLARATION t.0) refl) (rw (eqb-true (node ns i).parent x t.1) p)

      other-case : is_declaration_of x (node ms i) ≡ true → forget (node ns i) ≡ forget (node ms i)
      other-case q =
          let t = both_true (eqb (node ms i).type DECLARATION) (eqb (node ms i).parent x) q in
          owned-agrees' i h (rw (eqb-true (node ms i).type DECLARATION t.0) refl) (rw (eqb-true (node ms i).parent x t.1) p)

  alike : Alike (length ns) path ns ms
  unfolding own_declarations added_declarations node
  alike =
      record {
        rows = λ x p. agree-forget (node ns x) (node ms x) (on-path x p);
        owned = λ r i o. owned-agrees r i o.0 o.1;
        owned' = λ r i o. owned-agrees' r i o.0 o.1;
        own = λ x p. filtered-alike (is_declaration_of x) forget no_node ns ms agree.count (declared-alike x p);
        added = λ x p. rw (drop-length ns, agree.count, drop-length ms) refl;
      }

  both-rows : Both (length ns) path (normal_form ns pool) (normal_form ms pool')
  unfolding normal_form
  both-rows =
      subst (λ (n : ℕ). Both (length ns) path (normalize_rows (length ns) (length ns) (record { rows = ns; pool = pool })) (normalize_rows n n (record { rows = ms; pool = pool' }))) agree.count
      (rows_alike (length ns) path (length ns) (record { rows = ns; pool = pool }) (record { rows = ms; pool = pool' }) (le_refl (length ns))
      (record { closed = closed-ns; closed' = closed-ms; alike = alike }))

  module _ (level2 : level1_refusal (nodes table pool) ≡ none) where
    row-agrees : (r : ℕ) → r < length ns → concerns ns e r ≡ true → Agree (node (normal_form ns pool).rows r) (node (normal_form ms pool').rows r)
    unfolding concerns path
    row-agrees r i q =
        by_cases (is_one_of (self_and_ancestors ns e) r)
        (λ p. forget-agree _ _ (both-rows.alike.rows r p))
        (λ p.
        let t = both_true (is_one_of (ATTRIBUTE ∷ DECLARATION ∷ []) (node ns r).type) (is_one_of (self_and_ancestors ns e) (node ns r).parent) (rw p at q) in
        let c = (normal table pool a level2).core r i in
        forget-agree _ _ (both-rows.alike.owned r i (rw c.type t.0, rw c.parent t.1)))

    results_agree : ResultsAgreeAt ns (normal_form ns pool).rows (normal_form ms pool').rows e
    unfolding path
    results_agree =
        record {
          rows = λ r i q. row-agrees r i (T_true (concerns ns e r) q);
          added = λ x p.
              sym (bytes-forgotten (added_declarations (length ns) (normal_form ns pool).rows x))
              ∙ ap (map bytes_and_maker) (both-rows.alike.added x (T_true (is_one_of (self_and_ancestors ns e) x) p))
              ∙ bytes-forgotten (added_declarations (length ns) (normal_form ms pool').rows x);
        }

-- Demand 3, second part.
pub independence : Independence
independence table pool table_size pool_size table' pool' table_size' pool_size' t t' e within agree =
    let s = succeeds table pool table_size pool_size t in
    let s' = succeeds table' pool' table_size' pool_size' t' in
    rw (result-is table pool table_size pool_size s, result-is table' pool' table_size' pool_size' s')
    (results_agree table pool table' pool' (unrefused table pool s.accepted) (unrefused table' pool' s'.accepted) e within agree s.level2)
