-- What normalization gives, written from a document or from an element that no other is around, draws neither 23 nor 24.
-- Assumes nothing.
use Prim.Native.Nat.{ℕ, zero, suc, ◌+◌, ◌≤◌, ◌<◌}
use mathlib.Core.Path.{◌≡◌, refl, sym, ◌∙◌, ap, subst}
use mathlib.Core.Bool.{Bool, true, false, ◌&&◌, ◌||◌, not}
use mathlib.Core.List.{List, [], ◌∷◌, map}
use mathlib.Core.Option.{Option, none, some, none-ne-some, some-injective}
use mathlib.Core.Logic.{inl, inr}
use native.Mathlib.Omega.{arith}
use lib.ListN.{length}
use lib.Dec.{T, eqb, ltb, leb}
use borrow.Author.Tests.{eqb-true, ne_eqb, ltb-true, ltb-false, le-ltb}
use Rattle.rules.specs.Lists.{numbers_from, is_one_of, is_empty}
use Rattle.rules.specs.Table.{NONE, ELEMENT, ATTRIBUTE, DOCUMENT, DECLARATION, Node, nodes, node, is_element, is_level1, row_count}
use Rattle.rules.specs.Answers.{number_of}
use Rattle.rules.specs.Refusals.{refused_if, first_refusal, lowest_refusal, check_refusal, checked}
use Rattle.rules.specs.Lookups.{climb, elements_from, element_child, lookup_refusal}
use Rattle.rules.specs.Normalization.{normalized, level1_refusal}
use Rattle.rules.specs.Demands.{succeeded, result_table, result_pool, result_rows, means, is_bound, up_from, self_and_ancestors}
use Rattle.rules.specs.declared.Refusal.{Refusal}
use Rattle.rules.proofs.Lists.{by_cases, both_true, true-not-false, true-T, T_true, first_that-passes}
use Rattle.rules.proofs.Table.{length-nodes}
use Rattle.rules.proofs.Refusals.{verdict-accepted}
use Rattle.rules.proofs.Accepted.{Accepted, unrefused, few-rows}
use Rattle.rules.proofs.Scope.{SameCore}
use Rattle.rules.proofs.Result.{Succeeds, succeeds}
use Rattle.rules.proofs.Demand3.{result-is, meaning}
use Rattle.rules.proofs.Again.{standing, passes-again}
use Rattle.characters.specs.Characters.{holds_forbidden}
use Rattle.markup.specs.Writing.{element_to_write, in_subtree, lowest_row, has_no_markup, is_undeclared, is_inherited, subtree_refusal, text_refusal, table_text}
use Rattle.markup.specs.ReadingBack.{Outermost, NormalizedIsWhole}

-- The refusal, if there is one, has a number of at most 22.
abbrev Low : Option Refusal → Type 0
Low none = Unit {0}
Low (some x) = (number_of x).number ≤ 22

abbrev AllLow : List (Option Refusal) → Type 0
AllLow [] = Unit {0}
AllLow (o ∷ later) = Low o × AllLow later

first-low : (os : List (Option Refusal)) → AllLow os → Low (first_refusal os)
first-low [] h = tt
first-low (none ∷ later) h = first-low later h.1
first-low (some x ∷ later) h = h.0

if-low : (test : Bool) (x : Refusal) → (number_of x).number ≤ 22 → Low (refused_if test x)
if-low true x h = h
if-low false x h = tt

none-low : {o : Option Refusal} → o ≡ none → Low o
none-low e = rw e tt

behind : (o : Option Refusal) (later : List (Option Refusal)) → Low o → Low (first_refusal later) → Low (first_refusal (o ∷ later))
behind none later l h = h
behind (some x) later l h = l

-- The refusal of the lowest row, where each is low, and where no row has one.
lowest-low : (row : ℕ → Option Refusal) → ((r : ℕ) → Low (row r)) → (rows : List ℕ) → Low (first_refusal (map row rows))
lowest-low row h [] = tt
lowest-low row h (r ∷ rows) = behind (row r) (map row rows) (h r) (lowest-low row h rows)

no_row : (row : ℕ → Option Refusal) (i count : ℕ) → ((r : ℕ) → r < i + count → row r ≡ none) → first_refusal (map row (numbers_from i count)) ≡ none
no_row row i zero h = refl
no_row row i (suc count) h =
    rw (h i (omega arith)) (no_row row (suc i) count (λ r l. h r (omega arith)))

no-lowest : (row : ℕ → Option Refusal) (count : ℕ) → ((r : ℕ) → r < count → row r ≡ none) → lowest_refusal row count ≡ none
no-lowest row count h = no_row row 0 count (λ r l. h r (omega arith))

-- Below an element, and not the element: the parent is an earlier row.
below : (ns : List Node) (e r : ℕ) → in_subtree ns e r ≡ true → eqb e r ≡ false → (node ns r).parent < r
unfolding in_subtree self_and_ancestors up_from
below ns e r h n =
    by_cases (ltb (node ns r).parent r)
    (λ q. ltb-true (node ns r).parent r q)
    (λ q. absurd (true-not-false (rw (n, q) at h) refl))

neither : (a b c d : Bool) → (a && b && not c && (c || false) && d) ≡ false
neither true true true d = refl
neither true true false d = refl
neither true false c d = refl
neither false b c d = refl

only-attribute : (type : ℕ) → eqb type ELEMENT ≡ false → is_one_of (ELEMENT ∷ ATTRIBUTE ∷ []) type ≡ true → type ≡ ATTRIBUTE
only-attribute type no? h =
    by_cases (eqb type ATTRIBUTE) (λ q. eqb-true type ATTRIBUTE q) (λ q. absurd (true-not-false (rw (no?, q) at h) refl))

-- A document's element: it has no ancestor element.
module _ (ns : List Node) (start e : ℕ) (document : (node ns start).type ≡ DOCUMENT) (child : element_child ns start ≡ some e) where
  child-is : (is_element (node ns e).type ≡ true) × ((node ns e).parent ≡ start)
  unfolding element_child
  child-is =
      let h = first_that-passes (λ (c : ℕ). is_element (node ns c).type && eqb (node ns c).parent start) (numbers_from 0 (length ns)) child in
      let both = both_true (is_element (node ns e).type) (eqb (node ns e).parent start) h in
      (both.0, eqb-true (node ns e).parent start both.1)

  outside : (steps : ℕ) → climb steps ns start ≡ []
  unfolding climb
  outside zero = refl
  outside (suc steps) = rw document refl

  alone : elements_from ns e ≡ e ∷ []
  unfolding elements_from climb
  alone =
      rw (child-is.0, child-is.1)
      (by_cases (ltb start e) (λ q. rw (q, outside e) refl) (λ q. rw q refl))

-- An element without a parent has none either.
pub parentless-alone : (ns : List Node) (e : ℕ) → is_element (node ns e).type ≡ true → e ≤ (node ns e).parent → elements_from ns e ≡ e ∷ []
unfolding elements_from climb
parentless-alone ns e is past = rw (is, le-ltb (node ns e).parent e past) refl

-- The element that is written from an outermost row has no other around it.
chosen-alone : (ns : List Node) (start : ℕ) → Outermost ns start → (e : ℕ) → element_to_write ns start ≡ some e → (is_element (node ns e).type ≡ true) × (elements_from ns e ≡ e ∷ [])
unfolding element_to_write
chosen-alone ns start outer e chosen =
    by_cases (is_element (node ns start).type)
    (λ q. itself q outer (some-injective start e (rw q at chosen)))
    (λ q.
    by_cases (eqb (node ns start).type DOCUMENT)
    (λ d.
    let document = eqb-true (node ns start).type DOCUMENT d in
    let child : element_child ns start ≡ some e = rw (q, d) at chosen in
    ((child-is ns start e document child).0, alone ns start e document child))
    (λ d. absurd (none-ne-some e (rw (q, d) at chosen))))
  where
    itself : is_element (node ns start).type ≡ true → Outermost ns start → start ≡ e → (is_element (node ns e).type ≡ true) × (elements_from ns e ≡ e ∷ [])
    itself q (inl document) same = absurd (true-not-false q (rw document refl))
    itself q (inr free) same = subst (λ (k : ℕ). (is_element (node ns k).type ≡ true) × (elements_from ns k ≡ k ∷ [])) same (q, free)

-- Such an element inherits nothing.
not-inherited : (ns : List Node) (e : ℕ) → elements_from ns e ≡ e ∷ [] → (r : ℕ) → is_inherited ns e r ≡ false
unfolding is_inherited
not-inherited ns e free r = rw free (neither (eqb (node ns r).type DECLARATION) (not (is_empty (node ns r).value.bytes)) (eqb (node ns r).parent e) _)

-- The result of a normalization that succeeded.
module _ (table pool : List ℕ) (table_size pool_size : ℕ) (t : T (succeeded (normalized table pool table_size pool_size))) where
  abbrev base : List Node
  base = nodes table pool

  abbrev made : List Node
  made = result_rows (normalized table pool table_size pool_size)

  s : Succeeds table pool table_size pool_size
  s = succeeds table pool table_size pool_size t

  accepted : Accepted table pool
  accepted = unrefused table pool s.accepted

  core : (r : ℕ) → r < length base → SameCore (node base r) (node made r)
  core r i = rw (result-is table pool table_size pool_size s) ((standing table pool accepted).core r i)

  added : (r : ℕ) → length base ≤ r → r < length made → (node made r).type ≡ DECLARATION
  added r l h =
      let e = result-is table pool table_size pool_size s in
      rw e ((standing table pool accepted).added r l (rw e at h)).0

  meant : (r : ℕ) → r < length base → is_bound (node base r) ≡ true → means made r ≡ true
  meant r i b = T_true (means made r) (meaning table pool table_size pool_size t r i (true-T b)).meaning

  meant-element : (r : ℕ) → r < length base → (node made r).type ≡ ELEMENT → means made r ≡ true
  unfolding is_bound
  meant-element r i q = meant r i (rw (sym (core r i).type ∙ q) refl)

  meant-attribute : (r : ℕ) → r < length base → (node made r).type ≡ ATTRIBUTE → (node made r).parent < r → means made r ≡ true
  unfolding is_bound
  meant-attribute r i q p =
      let few = few-rows table pool accepted.size in
      let parent : (node base r).parent < r = rw (core r i).parent at p in
      let owned : eqb (node base r).parent NONE ≡ false = ne_eqb (node base r).parent NONE (λ z. omega (arith, length-nodes table pool)) in
      meant r i (rw (sym (core r i).type ∙ q, owned) refl)

  -- an element, or an attribute below one
  means-there : (e r : ℕ) → r < length made → is_element (node made e).type ≡ true → in_subtree made e r ≡ true → is_one_of (ELEMENT ∷ ATTRIBUTE ∷ []) (node made r).type ≡ true → means made r ≡ true
  means-there e r i l h n =
      by_cases (ltb r (length base))
      (λ q.
      let k = ltb-true r (length base) q in
      by_cases (eqb (node made r).type ELEMENT)
      (λ is. meant-element r k (eqb-true (node made r).type ELEMENT is))
      (λ not?.
      let a : (node made r).type ≡ ATTRIBUTE = only-attribute (node made r).type not? n in
      let other : eqb e r ≡ false = ne_eqb e r (λ z. let f : is_element ATTRIBUTE ≡ true = sym (ap is_element (ap (λ (x : ℕ). (node made x).type) z ∙ a)) ∙ l in true-not-false f refl) in
      meant-attribute r k a (below made e r h other)))
      (λ q.
      let d = added r (ltb-false r (length base) q) i in
      absurd (true-not-false (rw d at n) refl))

  declared : (e r : ℕ) → r < length made → is_element (node made e).type ≡ true → (in_subtree made e r && is_undeclared made r) ≡ false
  unfolding is_undeclared
  declared e r i l =
      by_cases (in_subtree made e r)
      (λ h.
      by_cases (is_one_of (ELEMENT ∷ ATTRIBUTE ∷ []) (node made r).type)
      (λ n. rw (h, n, means-there e r i l h n) refl)
      (λ n. rw (h, n) refl))
      (λ h. rw h refl)

  -- The check passes, and no subtree of an element without another around it draws 23 or 24.
  passes : check_refusal (result_table (normalized table pool table_size pool_size)) (result_pool (normalized table pool table_size pool_size)) ≡ none
  unfolding checked
  passes =
      verdict-accepted (check_refusal (result_table (normalized table pool table_size pool_size)) (result_pool (normalized table pool table_size pool_size)))
      (passes-again table pool table_size pool_size t)

  subtree-low : (start : ℕ) (o : Option ℕ) → ((e : ℕ) → o ≡ some e → (is_element (node made e).type ≡ true) × (elements_from made e ≡ e ∷ [])) → Low (subtree_refusal made start o)
  unfolding subtree_refusal number_of
  subtree-low start none free = omega arith
  subtree-low start (some e) free =
      first-low
      (lowest_row made (λ (r : ℕ). in_subtree made e r && has_no_markup made r) Refusal.NotMarkup
      ∷ lowest_row made (λ (r : ℕ). in_subtree made e r && holds_forbidden (node made r).value.bytes) Refusal.Character
      ∷ lowest_row made (λ (r : ℕ). in_subtree made e r && is_undeclared made r) Refusal.Undeclared
      ∷ lowest_row made (is_inherited made e) Refusal.Inherited
      ∷ []) (
        lowest-low (λ (r : ℕ). refused_if (in_subtree made e r && has_no_markup made r) (Refusal.NotMarkup (record { 0 = r }))) (λ r. if-low (in_subtree made e r && has_no_markup made r) (Refusal.NotMarkup (record { 0 = r })) (omega arith)) (numbers_from 0 (length made)),
        (
          lowest-low (λ (r : ℕ). refused_if (in_subtree made e r && holds_forbidden (node made r).value.bytes) (Refusal.Character (record { 0 = r }))) (λ r. if-low (in_subtree made e r && holds_forbidden (node made r).value.bytes) (Refusal.Character (record { 0 = r })) (omega arith)) (numbers_from 0 (length made)),
          (
            none-low (no-lowest (λ (r : ℕ). refused_if (in_subtree made e r && is_undeclared made r) (Refusal.Undeclared (record { 0 = r }))) (length made) (λ r i. rw (declared e r i (free e refl).0) refl)),
            (
              none-low (no-lowest (λ (r : ℕ). refused_if (is_inherited made e r) (Refusal.Inherited (record { 0 = r }))) (length made) (λ r i. rw (not-inherited made e (free e refl).1 r) refl)),
              tt,
            ),
          ),
        ),
      )

  low : (start size : ℕ) → Outermost made start → Low (text_refusal (result_table (normalized table pool table_size pool_size)) (result_pool (normalized table pool table_size pool_size)) start size)
  unfolding text_refusal lookup_refusal level1_refusal result_rows number_of
  low start size outer =
      let o = normalized table pool table_size pool_size in
      let ms = nodes (result_table o) (result_pool o) in
      let table' = result_table o in
      let pool' = result_pool o in
      let room = refused_if (ltb size (length (table_text table' pool' start))) Refusal.TextRoom in
      behind (lookup_refusal table' pool' start) (level1_refusal ms ∷ subtree_refusal ms start (element_to_write ms start) ∷ room ∷ [])
      (behind (check_refusal table' pool') (refused_if (leb (row_count table') start) Refusal.NoSuchRow ∷ []) (none-low passes)
      (behind (refused_if (leb (row_count table') start) Refusal.NoSuchRow) [] (if-low (leb (row_count table') start) Refusal.NoSuchRow (omega arith)) tt))
      (behind (level1_refusal ms) (subtree_refusal ms start (element_to_write ms start) ∷ room ∷ [])
      (lowest-low (λ (r : ℕ). refused_if (is_level1 (node ms r).type) (Refusal.Level1 (record { 0 = r }))) (λ r. if-low (is_level1 (node ms r).type) (Refusal.Level1 (record { 0 = r })) (omega arith)) (numbers_from 0 (length ms)))
      (behind (subtree_refusal ms start (element_to_write ms start)) (room ∷ [])
      (subtree-low start (element_to_write ms start) (chosen-alone ms start outer))
      (behind room [] (if-low (ltb size (length (table_text table' pool' start))) Refusal.TextRoom (omega arith)) tt)))

pub normalized-is-whole : NormalizedIsWhole
unfolding number_of
normalized-is-whole table pool table_size pool_size t start size r outer =
    let l = low table pool table_size pool_size t start size outer in
    (λ e. let h : 23 ≤ 22 = rw e at l in omega arith, λ e. let h : 24 ≤ 22 = rw e at l in omega arith)
