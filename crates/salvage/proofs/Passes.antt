-- The result of salvage passes the check.
-- Assumes nothing.
use Prim.Native.Nat.{ℕ, zero, suc, ◌+◌, ◌-◌, ◌≤◌, ◌<◌}
use mathlib.Core.Path.{◌≡◌, refl, sym, ◌∙◌, ap, subst}
use mathlib.Core.Logic.{◌⊎◌, inl, inr}
use mathlib.Core.Bool.{Bool, true, false, cond, ◌&&◌, ◌||◌, not}
use mathlib.Core.List.{List, [], ◌∷◌, ◌++◌, map}
use mathlib.Core.Option.{Option, none, some}
use native.Mathlib.Nat.{lt_trans, not-suc-le-zero, le_of_suc-le-suc}
use native.Mathlib.Omega.{arith}
use lib.ListN.{length, get_or, take, length-map}
use lib.Seq.{get_or-take}
use lib.Dec.{eqb, ltb}
use borrow.Author.Tests.{eqb-true, eq-eqb, ne_eqb, ltb-true, ltb-false, lt-ltb}
use Rattle.rules.specs.Lists.{any_of, all_of, is_one_of, same_bytes}
use Rattle.rules.specs.Utf8.{well_formed}
use Rattle.rules.specs.Table.{MOST_ROWS, PREFIX, LOCAL_NAME, URI, VALUE, NONE, ATTRIBUTE, DOCUMENT, DECLARATION, LEVEL1_ATTRIBUTE, Field, Node, no_node, worded_fields, node, is_element, ParentRule, allowed_parents}
use Rattle.rules.specs.Refusals.{refused_if, first_refusal, parent_rule, parent_allowed, second_element, bad_structure, past_pool, offset_without_length, full_but_must_be_empty, place_refusal, length_refusal, fields_refusal, encoding_refusal, encodings_refusal, bad_names, bad_namespace, bad_declaration, is_double, faults}
use Rattle.rules.specs.declared.Refusal.{Refusal}
use Rattle.rules.proofs.Lists.{by_cases, both_true, both_false, true-both, true-not-false, right-false, not-true, not-false, either_left, either-right, all_of-first_that}
use Rattle.rules.proofs.Table.{get_d_map, no_row}
use Rattle.rules.proofs.Refusals.{not-refused, all_none}
use Rattle.rules.proofs.Accepted.{RowAccepted}
use Rattle.rules.proofs.Again.{any_none}
use Rattle.dropped_rows.specs.Dropped.{drop_refusal, kept}
use Rattle.salvage.specs.Salvage.{new_parent, with_parent, salvaged_nodes}
use Rattle.dropped_rows.proofs.Kept.{IsKept, few, first-kept, kept_at, Source, source, ordered, apart}

-- Only attributes and declarations are dropped.
unfoldable pub is_owned : ℕ → Bool
is_owned type = is_one_of (ATTRIBUTE ∷ DECLARATION ∷ LEVEL1_ATTRIBUTE ∷ []) type

and-false : (b : Bool) → (b && false) ≡ false
and-false true = refl
and-false false = refl

unowned : (type : ℕ) → is_owned type ≡ false → (eqb type ATTRIBUTE ≡ false) × (eqb type DECLARATION ≡ false) × (eqb type LEVEL1_ATTRIBUTE ≡ false)
unfolding is_owned
unowned type e =
    let a = both_false (eqb type ATTRIBUTE) (eqb type DECLARATION || (eqb type LEVEL1_ATTRIBUTE || false)) e in
    let b = both_false (eqb type DECLARATION) (eqb type LEVEL1_ATTRIBUTE || false) a.1 in
    (a.0, b.0, (both_false (eqb type LEVEL1_ATTRIBUTE) false b.1).0)

double-owned : (n m : Node) → is_owned n.type ≡ false → is_double n m ≡ false
unfolding is_double is_owned
double-owned n m e =
    let a = unowned n.type e in
    rw (a.0, a.1, a.2) (and-false (eqb m.parent n.parent && not (eqb n.parent NONE) && eqb m.type n.type && same_bytes m.local.bytes n.local.bytes))

declaration-owned : (n : Node) → is_owned n.type ≡ false → bad_declaration n ≡ false
unfolding bad_declaration is_owned
declaration-owned n e = rw (unowned n.type e).1 refl

any_false : {A : Type 0} (test : A → Bool) → ((x : A) → test x ≡ false) → (xs : List A) → any_of test xs ≡ false
any_false test h [] = refl
any_false test h (x ∷ xs) = rw (h x, any_false test h xs) refl

pub not-dropped : (ns : List Node) (r : ℕ) → is_owned (node ns r).type ≡ false → IsKept ns r
unfolding drop_refusal
not-dropped ns r e =
    rw (declaration-owned (node ns r) e, any_false (λ (s : ℕ). is_double (node ns r) (node ns s)) (λ s. double-owned (node ns r) (node ns s) e) (kept ns r))
    refl

-- No type may stand under an attribute or a declaration.
holds_owned : ParentRule → Bool
holds_owned rule = not (is_one_of rule.parents ATTRIBUTE || (is_one_of rule.parents DECLARATION || is_one_of rule.parents LEVEL1_ATTRIBUTE))

none-held : all_of holds_owned allowed_parents ≡ true
unfolding holds_owned
none-held = refl

-- An entry of a list that passes a test.
any_at : {A : Type 0} (test : A → Bool) (d : A) (xs : List A) (r i : ℕ) → i < r → i < length xs → test (get_or xs i d) ≡ true → any_of test (take r xs) ≡ true
any_at test d [] r i h l e = absurd (not-suc-le-zero l)
any_at test d (x ∷ xs) zero i h l e = absurd (not-suc-le-zero h)
any_at test d (x ∷ xs) (suc r) zero h l e = either_left (any_of test (take r xs)) e
any_at test d (x ∷ xs) (suc r) (suc i) h l e = either-right (test x) (any_at test d xs r i (le_of_suc-le-suc h) (le_of_suc-le-suc l) e)

any-in : {A : Type 0} (test : A → Bool) (d : A) (xs : List A) (i : ℕ) → i < length xs → test (get_or xs i d) ≡ true → any_of test xs ≡ true
any-in test d [] i l e = absurd (not-suc-le-zero l)
any-in test d (x ∷ xs) zero l e = either_left (any_of test xs) e
any-in test d (x ∷ xs) (suc i) l e = either-right (test x) (any-in test d xs i (le_of_suc-le-suc l) e)

-- The rows of a table without faults.
pub record Faultless (ns : List Node) (pool_length r : ℕ) : Type 0 where
  pub structure : bad_structure ns r ≡ false
  pub fields : fields_refusal pool_length r (node ns r) ≡ none
  pub encodings : encodings_refusal r (node ns r) ≡ none
  pub names : bad_names (node ns r) ≡ false
  pub namespace : bad_namespace (node ns r) ≡ false

pub faultless : (ns : List Node) (pool_length r : ℕ) → first_refusal (faults ns pool_length r) ≡ none → Faultless ns pool_length r
unfolding faults
faultless ns pool_length r e =
    let a =
    all_none
    (refused_if (bad_structure ns r) (Refusal.Structure (record { 0 = r })) ∷ fields_refusal pool_length r (node ns r) ∷ encodings_refusal r (node ns r)
    ∷ refused_if (bad_names (node ns r)) (Refusal.Names (record { 0 = r })) ∷ refused_if (bad_namespace (node ns r)) (Refusal.Namespace (record { 0 = r })) ∷ []) e
    in
    record {
      structure = not-refused _ _ a.0;
      fields = a.1.0;
      encodings = a.1.1.0;
      names = not-refused _ _ a.1.1.1.0;
      namespace = not-refused _ _ a.1.1.1.1.0;
    }

-- A field that is not refused at one row is not refused at another.
module _ (pool_length r q : ℕ) (n : Node) where
  place-moved : (word : ℕ) (f : Field) → place_refusal pool_length r (word, f) ≡ none → place_refusal pool_length q (word, f) ≡ none
  place-moved word f e =
      let a = all_none (refused_if (past_pool pool_length f) (Refusal.PastPool (record { 0 = r }) word) ∷ refused_if (offset_without_length f) (Refusal.OffsetWithoutLength (record { 0 = r }) word) ∷ []) e in
      rw (not-refused (past_pool pool_length f) (Refusal.PastPool (record { 0 = r }) word) a.0, not-refused (offset_without_length f) (Refusal.OffsetWithoutLength (record { 0 = r }) word) a.1.0) refl

  length_moved : (word : ℕ) (f : Field) → length_refusal n.type r (word, f) ≡ none → length_refusal n.type q (word, f) ≡ none
  length_moved word f e = rw (not-refused (full_but_must_be_empty n.type word f) (Refusal.MustBeEmpty (record { 0 = r }) word) e) refl

  encoding-moved : (word : ℕ) (f : Field) → encoding_refusal r (word, f) ≡ none → encoding_refusal q (word, f) ≡ none
  encoding-moved word f e = rw (not-refused (not (well_formed f.bytes)) (Refusal.MalformedUtf8 (record { 0 = r }) word) e) refl

  fields-moved : fields_refusal pool_length r n ≡ none → fields_refusal pool_length q n ≡ none
  unfolding fields_refusal
  fields-moved e =
      let a = all_none (map (place_refusal pool_length r) (worded_fields n) ++ map (length_refusal n.type r) (worded_fields n)) e in
      rw (place-moved PREFIX n.prefix a.0, place-moved LOCAL_NAME n.local a.1.0, place-moved URI n.uri a.1.1.0, place-moved VALUE n.value a.1.1.1.0, length_moved PREFIX n.prefix a.1.1.1.1.0, length_moved LOCAL_NAME n.local a.1.1.1.1.1.0, length_moved URI n.uri a.1.1.1.1.1.1.0, length_moved VALUE n.value a.1.1.1.1.1.1.1.0)
      refl

  encodings-moved : encodings_refusal r n ≡ none → encodings_refusal q n ≡ none
  unfolding encodings_refusal
  encodings-moved e =
      let a = all_none (map (encoding_refusal r) (worded_fields n)) e in
      rw (encoding-moved PREFIX n.prefix a.0, encoding-moved LOCAL_NAME n.local a.1.0, encoding-moved URI n.uri a.1.1.0, encoding-moved VALUE n.value a.1.1.1.0) refl

nothing-allowed : (ns : List Node) (r parent : ℕ) → parent_allowed ns r parent none ≡ true → ⊥
unfolding parent_allowed
nothing-allowed ns r parent e = true-not-false e refl

under-rule : (ns : List Node) (r parent : ℕ) (rule : ParentRule) → eqb parent NONE ≡ false → parent_allowed ns r parent (some rule) ≡ true → (parent < r) × (is_one_of rule.parents (node ns parent).type ≡ true)
unfolding parent_allowed
under-rule ns r parent rule q e =
    let both = both_true (ltb parent r) (is_one_of rule.parents (node ns parent).type) (rw q at e) in
    (ltb-true parent r both.0, both.1)

rule-holds : (type : ℕ) (rule : ParentRule) → parent_rule type ≡ some rule → (is_one_of rule.parents ATTRIBUTE || (is_one_of rule.parents DECLARATION || is_one_of rule.parents LEVEL1_ATTRIBUTE)) ≡ false
unfolding parent_rule holds_owned
rule-holds type rule e =
    not-true (is_one_of rule.parents ATTRIBUTE || (is_one_of rule.parents DECLARATION || is_one_of rule.parents LEVEL1_ATTRIBUTE))
    (all_of-first_that holds_owned (λ (rule : ParentRule). eqb rule.type type) allowed_parents none-held e)

-- A table without faults, within the limits: its rows and those of the result.
module _ (ns : List Node) (pool_length : ℕ) (small : length ns ≤ MOST_ROWS) (good : (r : ℕ) → r < length ns → Faultless ns pool_length r) where
  abbrev rows : List Node
  rows = salvaged_nodes ns

  abbrev total : ℕ
  total = length ns

  row-of : ℕ → Node
  row-of r = with_parent (new_parent ns (node ns r).parent) (node ns r)

  pub rows_long : length rows ≡ length (kept ns total)
  unfolding salvaged_nodes
  rows_long = length-map (kept ns total) (λ (r : ℕ). with_parent (new_parent ns (node ns r).parent) (node ns r))

  -- A new parent changes nothing that the tests of a single row read.
  fields-same : (r : ℕ) → fields_refusal pool_length r (node ns r) ≡ none → fields_refusal pool_length r (row-of r) ≡ none
  unfolding fields_refusal row-of
  fields-same r e = e

  encodings-same : (r : ℕ) → encodings_refusal r (node ns r) ≡ none → encodings_refusal r (row-of r) ≡ none
  unfolding encodings_refusal row-of
  encodings-same r e = e

  names_same : (r : ℕ) → bad_names (node ns r) ≡ false → bad_names (row-of r) ≡ false
  unfolding bad_names row-of
  names_same r e = e

  namespace-same : (r : ℕ) → bad_namespace (node ns r) ≡ false → bad_namespace (row-of r) ≡ false
  unfolding bad_namespace row-of
  namespace-same r e = e

  declaration-same : (r : ℕ) → bad_declaration (node ns r) ≡ false → bad_declaration (row-of r) ≡ false
  unfolding bad_declaration row-of
  declaration-same r e = e

  -- The row at a place of the result.
  row_at : (j : ℕ) → j < length (kept ns total) → node rows j ≡ row-of (get_or (kept ns total) j 0)
  unfolding salvaged_nodes node row-of
  row_at j h = get_d_map (λ (r : ℕ). with_parent (new_parent ns (node ns r).parent) (node ns r)) (kept ns total) j 0 no_node h

  -- A parent is NONE, or an earlier row that is kept.
  unfoldable pub Parent : ℕ → ℕ → Type 0
  Parent r p = (p ≡ NONE) ⊎ ((p < r) × IsKept ns p)

  not-held : (types : List ℕ) (x : ℕ) → (is_one_of types ATTRIBUTE || (is_one_of types DECLARATION || is_one_of types LEVEL1_ATTRIBUTE)) ≡ false → is_one_of types x ≡ true → is_owned x ≡ false
  unfolding is_owned
  not-held types x h e =
      let a = both_false (is_one_of types ATTRIBUTE) (is_one_of types DECLARATION || is_one_of types LEVEL1_ATTRIBUTE) h in
      let b = both_false (is_one_of types DECLARATION) (is_one_of types LEVEL1_ATTRIBUTE) a.1 in
      let other : (type : ℕ) → is_one_of types type ≡ false → eqb x type ≡ false =
      λ type f. by_cases (eqb x type) (λ q. absurd (true-not-false (subst (λ (k : ℕ). is_one_of types k ≡ true) (eqb-true x type q) e) f)) (λ q. q)
      in
      rw (other ATTRIBUTE a.0, other DECLARATION b.0, other LEVEL1_ATTRIBUTE b.1) refl

  allowed_at : (r : ℕ) → r < total → parent_allowed ns r (node ns r).parent (parent_rule (node ns r).type) ≡ true
  unfolding bad_structure
  allowed_at r i =
      not-false (parent_allowed ns r (node ns r).parent (parent_rule (node ns r).type))
      (both_false (not (parent_allowed ns r (node ns r).parent (parent_rule (node ns r).type))) (second_element ns r) (good r i).structure).0

  pub parent_of : (r : ℕ) → r < total → Parent r (node ns r).parent
  unfolding Parent
  parent_of r i = go (parent_rule (node ns r).type) refl (allowed_at r i)
    where
      go : (rule : Option ParentRule) → parent_rule (node ns r).type ≡ rule → parent_allowed ns r (node ns r).parent rule ≡ true → Parent r (node ns r).parent
      go none e a = absurd (nothing-allowed ns r (node ns r).parent a)
      go (some rule) e a =
          by_cases (eqb (node ns r).parent NONE)
          (λ q. inl (eqb-true (node ns r).parent NONE q))
          (λ q.
          let both = under-rule ns r (node ns r).parent rule q a in
          inr (both.0, not-dropped ns (node ns r).parent (not-held rule.parents (node ns (node ns r).parent).type (rule-holds (node ns r).type rule e) both.1)))

  -- New parents.
  pub new_none : new_parent ns NONE ≡ NONE
  unfolding new_parent
  new_none = refl

  pub new-kept : (p : ℕ) → p < total → new_parent ns p ≡ length (kept ns p)
  unfolding new_parent
  new-kept p i = rw (ne_eqb p NONE (λ z. omega (arith, small, i, z))) refl

  number_small : (p : ℕ) → p < total → length (kept ns p) < NONE
  number_small p i = omega (arith, few ns p, small, i)

  -- Parents with one new number are one.
  same-parent : (r s p q : ℕ) → r < total → s < total → Parent r p → Parent s q → new_parent ns q ≡ new_parent ns p → q ≡ p
  unfolding Parent
  same-parent r s p q i j (inl zp) (inl zq) e = zq ∙ sym zp
  same-parent r s p q i j (inl zp) (inr kq) e =
      let l = lt_trans kq.0 j in
      let z : length (kept ns q) ≡ NONE = sym (new-kept q l) ∙ e ∙ ap (new_parent ns) zp ∙ new_none in
      absurd (omega (arith, number_small q l, z))
  same-parent r s p q i j (inr kp) (inl zq) e =
      let l = lt_trans kp.0 i in
      let z : length (kept ns p) ≡ NONE = sym (new-kept p l) ∙ sym e ∙ ap (new_parent ns) zq ∙ new_none in
      absurd (omega (arith, number_small p l, z))
  same-parent r s p q i j (inr kp) (inr kq) e =
      let lp = lt_trans kp.0 i in
      let lq = lt_trans kq.0 j in
      apart ns q p kq.1 kp.1 (sym (new-kept q lq) ∙ e ∙ new-kept p lp)

  -- The row of a kept row's new number.
  pub number-below : (p : ℕ) → p < total → IsKept ns p → length (kept ns p) < length (kept ns total)
  number-below p i k = ordered ns p total k i

  at-number : (p : ℕ) → p < total → IsKept ns p → node rows (length (kept ns p)) ≡ row-of p
  at-number p i k =
      let e : suc p + (total - suc p) ≡ total = omega arith in
      let there = subst (λ (n : ℕ). get_or (kept ns n) (length (kept ns p)) 0 ≡ p) e (kept_at ns p (total - suc p) k) in
      row_at (length (kept ns p)) (number-below p i k) ∙ ap row-of there

  pub at-number-is : (p : ℕ) → p < total → IsKept ns p → node rows (length (kept ns p)) ≡ with_parent (new_parent ns (node ns p).parent) (node ns p)
  unfolding row-of
  at-number-is p i k = at-number p i k

  module _ (j : ℕ) (h : j < length (kept ns total)) where
    abbrev from : Source ns total j
    from = source ns total j h

    abbrev r : ℕ
    r = from.row

    here : node rows j ≡ row-of r
    here = row_at j h ∙ ap row-of from.there

    pub here-is : node rows j ≡ with_parent (new_parent ns (node ns r).parent) (node ns r)
    unfolding row-of
    here-is = here

    -- An earlier place holds an earlier row.
    earlier : (i : ℕ) (l : i < length (kept ns total)) → i < j → (source ns total i l).row < r
    earlier i l less =
        let s = source ns total i l in
        by_cases (ltb s.row r)
        (λ q. ltb-true s.row r q)
        (λ q.
        let past = ltb-false s.row r q in
        by_cases (ltb r s.row)
        (λ t. absurd (omega (arith, ordered ns r s.row from.is_kept (ltb-true r s.row t), from.number, s.number, less)))
        (λ t.
        let z : s.row ≡ r = omega (arith, past, ltb-false r s.row t) in
        let w : i ≡ j = sym s.number ∙ ap (λ (k : ℕ). length (kept ns k)) z ∙ from.number in
        absurd (omega (arith, less, w))))

    type-here : (node rows j).type ≡ (node ns r).type
    unfolding row-of
    type-here = ap (λ (n : Node). n.type) here

    parent-here : (node rows j).parent ≡ new_parent ns (node ns r).parent
    unfolding row-of
    parent-here = ap (λ (n : Node). n.parent) here

    falls : Parent r (node ns r).parent
    falls = parent_of r from.below

    -- 2: the parent's rule is met again.
    allowed-rule : (p : ℕ) (rule : ParentRule) → Parent r p → parent_allowed ns r p (some rule) ≡ true → parent_allowed rows j (new_parent ns p) (some rule) ≡ true
    unfolding parent_allowed Parent row-of
    allowed-rule p rule (inl z) e = rw (z, new_none) (subst (λ (k : ℕ). cond (eqb k NONE) rule.alone (ltb k r && is_one_of rule.parents (node ns k).type) ≡ true) z e)
    allowed-rule p rule (inr k) e =
        let l = lt_trans k.0 from.below in
        let other : eqb p NONE ≡ false = ne_eqb p NONE (λ z. omega (arith, small, l, z)) in
        let both = both_true (ltb p r) (is_one_of rule.parents (node ns p).type) (rw other at e) in
        let less : length (kept ns p) < j = omega (arith, ordered ns p r k.1 k.0, from.number) in
        let type : (node rows (length (kept ns p))).type ≡ (node ns p).type = ap (λ (n : Node). n.type) (at-number p l k.1) in
        rw (new-kept p l, ne_eqb (length (kept ns p)) NONE (λ z. omega (arith, number_small p l, z)), lt-ltb (length (kept ns p)) j less, type) both.1

    allowed-here : parent_allowed rows j (node rows j).parent (parent_rule (node rows j).type) ≡ true
    allowed-here = rw (type-here, parent-here) (go (parent_rule (node ns r).type) (allowed_at r from.below))
      where
        go : (rule : Option ParentRule) → parent_allowed ns r (node ns r).parent rule ≡ true → parent_allowed rows j (new_parent ns (node ns r).parent) rule ≡ true
        go none e = absurd (nothing-allowed ns r (node ns r).parent e)
        go (some rule) e = allowed-rule (node ns r).parent rule falls e

    -- The rows before it.
    module _ (i : ℕ) (less : i < j) where
      abbrev before : Source ns total i
      before = source ns total i (lt_trans less h)

      there : node rows i ≡ row-of before.row
      there = row_at i (lt_trans less h) ∙ ap row-of before.there

      parents-one : new_parent ns (node ns before.row).parent ≡ new_parent ns (node ns r).parent → (node ns before.row).parent ≡ (node ns r).parent
      parents-one e =
          same-parent r before.row (node ns r).parent (node ns before.row).parent from.below before.below falls (parent_of before.row before.below) e

      second-before : (is_element (node rows i).type && eqb (node rows i).parent (node rows j).parent) ≡ true → any_of (λ (n : Node). is_element n.type && eqb n.parent (node ns r).parent) (take r ns) ≡ true
      unfolding node row-of
      second-before e =
          let both = both_true (is_element (node rows i).type) (eqb (node rows i).parent (node rows j).parent) e in
          let type : (node rows i).type ≡ (node ns before.row).type = ap (λ (n : Node). n.type) there in
          let parent : (node rows i).parent ≡ new_parent ns (node ns before.row).parent = ap (λ (n : Node). n.parent) there in
          let one = parents-one (sym parent ∙ eqb-true (node rows i).parent (node rows j).parent both.1 ∙ parent-here) in
          any_at (λ (n : Node). is_element n.type && eqb n.parent (node ns r).parent) no_node ns r before.row (earlier i (lt_trans less h) less) before.below
          (true-both (subst (λ (k : ℕ). is_element k ≡ true) type both.0) (eq-eqb (node ns before.row).parent (node ns r).parent one))

      owned : not (eqb (new_parent ns (node ns r).parent) NONE) ≡ true → not (eqb (node ns r).parent NONE) ≡ true
      owned e =
          by_cases (eqb (node ns r).parent NONE)
          (λ q.
          let z : new_parent ns (node ns r).parent ≡ NONE = ap (new_parent ns) (eqb-true (node ns r).parent NONE q) ∙ new_none in
          absurd (true-not-false (eq-eqb (new_parent ns (node ns r).parent) NONE z) (not-true (eqb (new_parent ns (node ns r).parent) NONE) e)))
          (λ q. rw q refl)

      double-before : is_double (node rows j) (node rows i) ≡ true → is_double (node ns r) (node ns before.row) ≡ true
      unfolding is_double row-of
      double-before e =
          let e' : is_double (row-of r) (row-of before.row) ≡ true = subst (λ (n : Node). is_double n (row-of before.row) ≡ true) here (subst (λ (m : Node). is_double (node rows j) m ≡ true) there e) in
          let p = (node ns r).parent in
          let q = (node ns before.row).parent in
          let a = both_true _ _ e' in
          let b = both_true _ _ a.0 in
          let c = both_true _ _ b.0 in
          let d = both_true (eqb (new_parent ns q) (new_parent ns p)) (not (eqb (new_parent ns p) NONE)) c.0 in
          let one = parents-one (eqb-true (new_parent ns q) (new_parent ns p) d.0) in
          true-both (true-both (true-both (true-both (eq-eqb q p one) (owned d.1)) c.1) b.1) a.1

    -- The parent is a document where it was one.
    document-here : eqb (node rows (node rows j).parent).type DOCUMENT ≡ true → eqb (node ns (node ns r).parent).type DOCUMENT ≡ true
    unfolding Parent row-of
    document-here e = go (node ns r).parent falls (subst (λ (k : ℕ). eqb (node rows k).type DOCUMENT ≡ true) parent-here e)
      where
        go : (p : ℕ) → Parent r p → eqb (node rows (new_parent ns p)).type DOCUMENT ≡ true → eqb (node ns p).type DOCUMENT ≡ true
        go p (inl z) e =
            let past : length rows ≤ NONE = rw rows_long (omega (arith, few ns total, small)) in
            let no? : eqb (node rows (new_parent ns p)).type DOCUMENT ≡ false = rw (z, new_none, no_row rows NONE past) refl in
            absurd (true-not-false e no?)
        go p (inr k) e =
            let l = lt_trans k.0 from.below in
            let type : (node rows (new_parent ns p)).type ≡ (node ns p).type = ap (λ (i : ℕ). (node rows i).type) (new-kept p l) ∙ ap (λ (n : Node). n.type) (at-number p l k.1) in
            subst (λ (t : ℕ). eqb t DOCUMENT ≡ true) type e

    no_second : (is_element (node rows j).type && eqb (node rows (node rows j).parent).type DOCUMENT) ≡ true → any_of (λ (n : Node). is_element n.type && eqb n.parent (node ns r).parent) (take r ns) ≡ false
    unfolding second_element bad_structure
    no_second e =
        let both = both_true (is_element (node rows j).type) (eqb (node rows (node rows j).parent).type DOCUMENT) e in
        let before : (is_element (node ns r).type && eqb (node ns (node ns r).parent).type DOCUMENT) ≡ true = true-both (subst (λ (t : ℕ). is_element t ≡ true) type-here both.0) (document-here both.1) in
        let clear = (both_false (not (parent_allowed ns r (node ns r).parent (parent_rule (node ns r).type))) (second_element ns r) (good r from.below).structure).1 in
        right-false (is_element (node ns r).type && eqb (node ns (node ns r).parent).type DOCUMENT) _ clear before

    second-here : second_element rows j ≡ false
    unfolding second_element node
    second-here =
        by_cases (is_element (node rows j).type && eqb (node rows (node rows j).parent).type DOCUMENT)
        (λ q.
        let none? =
        any_none (λ (n : Node). is_element n.type && eqb n.parent (node rows j).parent) no_node j rows (rw rows_long (omega arith))
        (λ i l.
        by_cases (is_element (node rows i).type && eqb (node rows i).parent (node rows j).parent)
        (λ t. absurd (true-not-false (second-before i l t) (no_second q)))
        (λ t. t))
        in
        rw (q, none?) refl)
        (λ q. rw q refl)

    structure-here : bad_structure rows j ≡ false
    unfolding bad_structure
    structure-here = rw (allowed-here, second-here) refl

    -- 7 and 6: nothing that is kept is a double of what is kept before it.
    no-double : any_of (λ (s : ℕ). is_double (node ns r) (node ns s)) (kept ns r) ≡ false
    unfolding drop_refusal
    no-double =
        let a = all_none (refused_if (bad_declaration (node ns r)) (Refusal.Declaration (record { 0 = r })) ∷ refused_if (any_of (λ (s : ℕ). is_double (node ns r) (node ns s)) (kept ns r)) (Refusal.Double (record { 0 = r })) ∷ []) from.is_kept in
        not-refused (any_of (λ (s : ℕ). is_double (node ns r) (node ns s)) (kept ns r)) (Refusal.Double (record { 0 = r })) a.1.0

    declaration-here : bad_declaration (node ns r) ≡ false
    unfolding drop_refusal
    declaration-here =
        let a = all_none (refused_if (bad_declaration (node ns r)) (Refusal.Declaration (record { 0 = r })) ∷ refused_if (any_of (λ (s : ℕ). is_double (node ns r) (node ns s)) (kept ns r)) (Refusal.Double (record { 0 = r })) ∷ []) from.is_kept in
        not-refused (bad_declaration (node ns r)) (Refusal.Declaration (record { 0 = r })) a.0

    kept-before : (i : ℕ) (less : i < j) → (i < length (kept ns r)) × (get_or (kept ns r) i 0 ≡ (source ns total i (lt_trans less h)).row)
    kept-before i less =
        let e : r + (total - r) ≡ total = omega (arith, from.below) in
        let front : take (length (kept ns r)) (kept ns total) ≡ kept ns r = subst (λ (n : ℕ). take (length (kept ns r)) (kept ns n) ≡ kept ns r) e (first-kept ns r (total - r)) in
        let room : i < length (kept ns r) = omega (arith, less, from.number) in
        (room, ap (λ (xs : List ℕ). get_or xs i 0) (sym front) ∙ get_or-take (length (kept ns r)) (kept ns total) i 0 room ∙ (source ns total i (lt_trans less h)).there)

    double-here : any_of (is_double (node rows j)) (take j rows) ≡ false
    unfolding node
    double-here =
        any_none (is_double (node rows j)) no_node j rows (rw rows_long (omega arith))
        (λ i l.
        by_cases (is_double (node rows j) (node rows i))
        (λ q.
        let place = kept-before i l in
        let met = subst (λ (s : ℕ). is_double (node ns r) (node ns s) ≡ true) (sym place.1) (double-before i l q) in
        absurd (true-not-false (any-in (λ (s : ℕ). is_double (node ns r) (node ns s)) 0 (kept ns r) i place.0 met) no-double))
        (λ q. q))

    pub row_here : RowAccepted rows pool_length j
    unfolding row-of
    row_here =
        let g = good r from.below in
        record {
          structure = structure-here;
          fields = subst (λ (n : Node). fields_refusal pool_length j n ≡ none) (sym here) (fields-moved pool_length r j (row-of r) (fields-same r g.fields));
          encodings = subst (λ (n : Node). encodings_refusal j n ≡ none) (sym here) (encodings-moved pool_length r j (row-of r) (encodings-same r g.encodings));
          names = subst (λ (n : Node). bad_names n ≡ false) (sym here) (names_same r g.names);
          namespace = subst (λ (n : Node). bad_namespace n ≡ false) (sym here) (namespace-same r g.namespace);
          declaration = subst (λ (n : Node). bad_declaration n ≡ false) (sym here) (declaration-same r declaration-here);
          double = double-here;
        }
