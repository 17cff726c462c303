-- What acceptance gives: demand 3's first part, that nothing but declarations is added, and that normalization changes nothing.
-- Assumes nothing.
use Rattle.std.specs.Prelude.{Ok}
use Prim.Native.Nat.{ℕ, zero, suc, ◌/◌, ◌≤◌, ◌<◌}
use mathlib.Core.Path.{◌≡◌, refl, sym, ap, ◌∙◌}
use mathlib.Core.Bool.{Bool, true, false}
use mathlib.Core.List.{List, [], ◌∷◌}
use mathlib.Core.Option.{Option, none, some, none-ne-some}
use native.Mathlib.Nat.{le_refl, lt_of_lt_of_le}
use native.Mathlib.Omega.{arith}
use lib.ListN.{length}
use lib.Dec.{eqb, ltb, leb}
use borrow.Author.Tests.{eqb-true, eq-eqb, ne_eqb, ltb-true, ltb-false, le-ltb, le-leb}
use Rattle.rules.specs.Table.{WIDTH, MOST_ROWS, MOST_BYTES, NONE, ELEMENT, ATTRIBUTE, DECLARATION, Node, nodes, node, is_level1}
use Rattle.rules.specs.Refusals.{refused_if, first_refusal, check_refusal}
use Rattle.rules.specs.Lookups.{scope_at}
use Rattle.rules.specs.Normalization.{State, repair_element, repair_of, keep, is_attribute_of, repair_attribute, repair_attributes, normalize_row, normalize_rows, normal_form, too_many_rows, too_many_bytes, level1_refusal, room_refusal, normalization_refusal, normalized}
use Rattle.rules.specs.Demands.{element_means, attribute_means_in, attribute_means, means, is_bound, KeepsMeaning}
use Rattle.rules.specs.declared.Row.{Row}
use Rattle.rules.specs.declared.Refusal.{Refusal}
use Rattle.rules.proofs.Lists.{by_cases, both_true, T_true, true-T, right-false, not-false, same_bytes-equal}
use Rattle.rules.proofs.Refusals.{not-refused, all_none, verdict-accepted, none-lowest, lowest-none}
use Rattle.rules.proofs.Table.{length-nodes}
use Rattle.rules.proofs.Accepted.{Accepted, unrefused, few-rows, namespace-accepted, plain-accepted}
use Rattle.rules.proofs.Repairs.{element-by-meaning, attribute-by-meaning}
use Rattle.rules.proofs.Meaning.{perform-keep}
use Rattle.proposals.specs.Proposals.{failed, lowest, is_level1_row, keeps_row, is_changed, is_foreign, changes_refusal, is_unresolved, unresolved_refusal, level_refusal, judged, proposal_refusal, proposal_checked}
use Rattle.proposals.specs.Demands.{ProposalMeaning, ProposalAdds, ProposalNormal}

-- What is not refused passes each test.
pub record Good (table pool table' pool' : List ℕ) : Type 0 where
  pub original : check_refusal table pool ≡ none
  pub proposal : check_refusal table' pool' ≡ none
  pub level2 : level_refusal (nodes table' pool') ≡ none
  pub kept : (r : ℕ) → r < length (nodes table pool) → is_changed (nodes table pool) (nodes table' pool') r ≡ false
  pub further : (r : ℕ) → r < length (nodes table' pool') → is_foreign (nodes table pool) (nodes table' pool') r ≡ false
  pub resolved : (r : ℕ) → r < length (nodes table' pool') → is_unresolved (nodes table' pool') r ≡ false

not-failed : (refusal : Row → ℕ → Refusal) (o : Option Refusal) → failed refusal o ≡ none → o ≡ none
unfolding failed
not-failed refusal none e = refl
not-failed refusal (some x) e = absurd (none-ne-some _ (sym e))

none_below : (test : ℕ → Bool) (refusal : Row → Refusal) (count : ℕ) → lowest test refusal count ≡ none → (r : ℕ) → r < count → test r ≡ false
none_below test refusal count e r i =
    not-refused (test r) (refusal (record { 0 = r }))
    (lowest-none (λ (x : ℕ). refused_if (test x) (refusal (record { 0 = x }))) count e r i)

-- What keeps the rows of a table of DOM Level 2, and adds nothing but declarations, is of DOM Level 2.
pub levels-kept : (ns ms : List Node) → level_refusal ns ≡ none → changes_refusal ns ms ≡ none → level_refusal ms ≡ none
unfolding is_changed keeps_row is_foreign
levels-kept ns ms level2 unchanged =
    none-lowest (λ (r : ℕ). refused_if (is_level1_row ms r) (Refusal.ProposalLevel1 (record { 0 = r }))) (length ms) (λ r i. rw (each r i) refl)
  where
    each : (r : ℕ) → r < length ms → is_level1_row ms r ≡ false
    each r i =
        let both = all_none (lowest (is_changed ns ms) Refusal.Changed (length ns) ∷ lowest (is_foreign ns ms) Refusal.Changed (length ms) ∷ []) unchanged in
        by_cases (ltb r (length ns))
        (λ q.
        let l = ltb-true r (length ns) q in
        let kept = (both_true (ltb r (length ms)) (keeps_row (node ns r) (node ms r)) (not-false _ (none_below (is_changed ns ms) Refusal.Changed (length ns) both.0 r l))).1 in
        let core = (both_true _ _ (both_true _ _ (both_true _ _ (both_true _ _ (both_true _ _ (both_true _ _ kept).0).0).0).0).0).0 in
        let type : (node ms r).type ≡ (node ns r).type = eqb-true (node ms r).type (node ns r).type core in
        ap is_level1 type ∙ none_below (is_level1_row ns) Refusal.ProposalLevel1 (length ns) level2 r l)
        (λ q.
        let past = ltb-false r (length ns) q in
        let further = right-false (leb (length ns) r) _ (none_below (is_foreign ns ms) Refusal.Changed (length ms) both.1.0 r i) (le-leb (length ns) r past) in
        ap is_level1 (eqb-true (node ms r).type DECLARATION (not-false (eqb (node ms r).type DECLARATION) further)))

pub good : (table pool table' pool' : List ℕ) → proposal_checked table pool table' pool' ≡ Ok tt → Good table pool table' pool'
unfolding proposal_checked proposal_refusal judged
good table pool table' pool' e =
    let ns = nodes table pool in
    let ms = nodes table' pool' in
    let tried =
    failed Refusal.Original (check_refusal table pool) ∷ failed Refusal.Proposal (check_refusal table' pool')
    ∷ level_refusal ns ∷ level_refusal ms ∷ changes_refusal ns ms ∷ unresolved_refusal ms ∷ []
    in
    let a = all_none tried (verdict-accepted (first_refusal tried) e) in
    let kept = all_none (lowest (is_changed ns ms) Refusal.Changed (length ns) ∷ lowest (is_foreign ns ms) Refusal.Changed (length ms) ∷ []) a.1.1.1.1.0 in
    record {
      original = not-failed Refusal.Original (check_refusal table pool) a.0;
      proposal = not-failed Refusal.Proposal (check_refusal table' pool') a.1.0;
      level2 = a.1.1.1.0;
      kept = none_below (is_changed ns ms) Refusal.Changed (length ns) kept.0;
      further = none_below (is_foreign ns ms) Refusal.Changed (length ms) kept.1.0;
      resolved = none_below (is_unresolved ms) Refusal.Unresolved (length ms) a.1.1.1.1.1.0;
    }

module _ (table pool table' pool' : List ℕ) (g : Good table pool table' pool') where
  abbrev ns : List Node
  ns = nodes table pool

  abbrev ms : List Node
  ms = nodes table' pool'

  there : (r : ℕ) → r < length ns → (ltb r (length ms) ≡ true) × (keeps_row (node ns r) (node ms r) ≡ true)
  unfolding is_changed
  there r i = both_true (ltb r (length ms)) (keeps_row (node ns r) (node ms r)) (not-false _ (g.kept r i))

  longer : length ns ≤ length ms
  longer =
      by_cases (ltb (length ms) (length ns))
      (λ q. let i = ltb-true (length ms) (length ns) q in absurd (omega (arith, ltb-true (length ms) (length ms) (there (length ms) i).0)))
      (λ q. ltb-false (length ms) (length ns) q)

  declarations : (r : ℕ) → length ns ≤ r → r < length ms → (node ms r).type ≡ DECLARATION
  unfolding is_foreign
  declarations r l i =
      eqb-true (node ms r).type DECLARATION
      (not-false (eqb (node ms r).type DECLARATION) (right-false (leb (length ns) r) _ (g.further r i) (le-leb (length ns) r l)))

  bound-means : (r : ℕ) → r < length ms → is_bound (node ms r) ≡ true → means ms r ≡ true
  unfolding is_unresolved
  bound-means r i b = not-false (means ms r) (right-false (is_bound (node ms r)) _ (g.resolved r i) b)

  keeps-meaning : (r : ℕ) → r < length ns → is_bound (node ns r) ≡ true → KeepsMeaning ns ms r
  unfolding keeps_row is_bound
  keeps-meaning r i b =
      let n = node ns r in
      let m = node ms r in
      let k1 = both_true _ _ (there r i).1 in
      let k2 = both_true _ _ k1.0 in
      let k3 = both_true _ _ k2.0 in
      let k4 = both_true _ _ k3.0 in
      let k5 = both_true _ _ k4.0 in
      let k6 = both_true _ _ k5.0 in
      let type = eqb-true m.type n.type k6.0 in
      let parent = eqb-true m.parent n.parent k6.1 in
      record {
        type = type;
        parent = parent;
        uri = same_bytes-equal m.uri.bytes n.uri.bytes k3.1;
        local = same_bytes-equal m.local.bytes n.local.bytes k4.1;
        maker = eqb-true m.maker n.maker k5.1;
        meaning = true-T (bound-means r (lt_of_lt_of_le i longer) (rw (type, parent) b));
      }

-- Normalization leaves a table as it is in which every element and owned attribute means its URI.
module _ (table pool : List ℕ) (a : Accepted table pool) (settled : (r : ℕ) → r < length (nodes table pool) → is_bound (node (nodes table pool) r) ≡ true → means (nodes table pool) r ≡ true) where
  abbrev rows : List Node
  rows = nodes table pool

  abbrev start : State
  start = record { rows = rows; pool = pool }

  element-stays : (e : ℕ) → e < length rows → (node rows e).type ≡ ELEMENT → repair_element e rows ≡ rows
  unfolding means is_bound
  element-stays e i t =
      let m : element_means rows e ≡ true = rw (eq-eqb (node rows e).type ELEMENT t) at (settled e i (rw t refl)) in
      element-by-meaning rows e (plain-accepted table pool a e i t) ∙ rw m refl

  attribute-stays : (e r : ℕ) → r < length rows → e < NONE → repair_attribute e r start ≡ start
  unfolding repair_attribute means is_bound attribute_means node
  attribute-stays e r i small =
      by_cases (is_attribute_of e (node rows r))
      (λ q.
      let t = both_true (eqb (node rows r).type ATTRIBUTE) (eqb (node rows r).parent e) q in
      let type = eqb-true (node rows r).type ATTRIBUTE t.0 in
      let owner = eqb-true (node rows r).parent e t.1 in
      let bound = settled r i (rw (type, owner, ne_eqb e NONE (omega arith)) refl) in
      let m : attribute_means_in (scope_at rows e) (node rows r) ≡ true = rw (type, owner) at bound in
      let named = namespace-accepted rows (length pool) r (a.row r i) (rw type refl) in
      let kept : repair_of (scope_at rows e) (node rows r) ≡ keep = attribute-by-meaning (scope_at rows e) (node rows r) named.prefix_has_uri ∙ rw m refl in
      rw (q, kept) (perform-keep e r start))
      (λ q. rw q refl)

  attributes-stay : (e count : ℕ) → count ≤ length rows → e < NONE → repair_attributes e count start ≡ start
  unfolding repair_attributes
  attributes-stay e zero small l = refl
  attributes-stay e (suc count) small l = rw (attributes-stay e count (omega arith) l) (attribute-stays e count small l)

  row_stays : (r : ℕ) → r < length rows → r < NONE → normalize_row (length rows) r start ≡ start
  unfolding normalize_row
  row_stays r i l =
      by_cases (eqb (node rows r).type ELEMENT)
      (λ q. rw (q, element-stays r i (eqb-true (node rows r).type ELEMENT q)) (attributes-stay r (length rows) (le_refl (length rows)) l))
      (λ q. rw q refl)

  rows_stay : (count : ℕ) → count ≤ length rows → length rows ≤ NONE → normalize_rows (length rows) count start ≡ start
  unfolding normalize_rows
  rows_stay zero small few = refl
  rows_stay (suc count) small few = rw (rows_stay count (omega arith) few) (row_stays count small (omega arith))

pub proposal-meaning : ProposalMeaning
proposal-meaning table pool table' pool' e r i b =
    keeps-meaning table pool table' pool' (good table pool table' pool' e) r i (T_true (is_bound (node (nodes table pool) r)) b)

pub proposal-adds : ProposalAdds
proposal-adds table pool table' pool' e =
    let g = good table pool table' pool' e in (longer table pool table' pool' g, declarations table pool table' pool' g)

form-stays : (table pool table' pool' : List ℕ) → Good table pool table' pool' → normal_form (nodes table' pool') pool' ≡ record { rows = nodes table' pool'; pool = pool' }
unfolding normal_form
form-stays table pool table' pool' g =
    let a = unrefused table' pool' g.proposal in
    let few : length (nodes table' pool') ≤ MOST_ROWS = rw (length-nodes table' pool') (few-rows table' pool' a.size) in
    rows_stay table' pool' a (bound-means table pool table' pool' g) (length (nodes table' pool')) (le_refl (length (nodes table' pool'))) (omega arith)

-- 9 of normalization, where 42 of the proposal is not drawn.
level2-rows : (ms : List Node) → level_refusal ms ≡ none → level1_refusal ms ≡ none
unfolding level1_refusal
level2-rows ms level2 =
    none-lowest (λ (r : ℕ). refused_if (is_level1 (node ms r).type) (Refusal.Level1 (record { 0 = r }))) (length ms)
    (λ r i. rw (none_below (is_level1_row ms) Refusal.ProposalLevel1 (length ms) level2 r i) refl)

-- 10 and 11, where there is room.
room-there : (table_size pool_size : ℕ) (s : State) → length s.rows ≤ MOST_ROWS → length s.pool ≤ MOST_BYTES → length s.rows ≤ table_size / WIDTH → length s.pool ≤ pool_size → room_refusal table_size pool_size s ≡ none
unfolding room_refusal too_many_rows too_many_bytes
room-there table_size pool_size s few short rows bytes =
    rw (le-ltb MOST_ROWS (length s.rows) few, le-ltb (table_size / WIDTH) (length s.rows) rows, le-ltb MOST_BYTES (length s.pool) short, le-ltb pool_size (length s.pool) bytes)
    refl

pub proposal-normal : ProposalNormal
unfolding normalized normalization_refusal
proposal-normal table pool table' pool' e table_size pool_size rows bytes =
    let g = good table pool table' pool' e in
    let size = (unrefused table' pool' g.proposal).size in
    let few : length (nodes table' pool') ≤ MOST_ROWS = rw (length-nodes table' pool') (few-rows table' pool' size) in
    rw (
      g.proposal,
      level2-rows (nodes table' pool') g.level2,
      form-stays table pool table' pool' g,
      room-there table_size pool_size (record { rows = nodes table' pool'; pool = pool' }) few size.pool_bound rows bytes,
    )
    refl
