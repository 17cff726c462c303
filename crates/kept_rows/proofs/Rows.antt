-- What is read of a row of the original and of the proposal's tells whether it is kept.
-- Assumes nothing.
use Rattle.std.specs.Prelude.{Result, Ok, Err, ⊤}
use Prim.Native.Nat.{ℕ, zero, suc, ◌+◌, ◌≤◌, ◌<◌}
use mathlib.Core.Path.{◌≡◌, refl, sym, ap, ◌∙◌, subst}
use mathlib.Core.Bool.{Bool, true, false, ◌&&◌, ◌||◌, not, true≢false, and-false}
use mathlib.Core.List.{List, [], ◌∷◌, ◌++◌, map}
use mathlib.Core.Option.{Option, none}
use native.Mathlib.Nat.{le_refl}
use native.Mathlib.Omega.{arith}
use borrow.Author.Tests.{eqb-true, lt-ltb}
use lib.Dec.{eqb, ltb}
use lib.ListN.{length}
use Rattle.rules.specs.Lists.{numbers_from, same_bytes}
use Rattle.rules.specs.Table.{LOCAL_NAME, URI, TEXT, DECLARATION, Node, worded_fields, nodes, node_at, node, part, word, row_count, is_level1}
use Rattle.rules.specs.Refusals.{must_be_empty, place_refusal, length_refusal, fields_refusal, refused_if, first_refusal, verdict, check_refusal}
use Rattle.rules.specs.declared.Refusal.{Refusal}
use Rattle.rules.proofs.Lists.{both_true, not-true, not-false}
use Rattle.rules.proofs.Table.{length-nodes, node-nodes}
use Rattle.rules.proofs.Refusals.{not-refused, all_none, none-lowest, lowest-none, verdict-accepted, first_alone, first-refused, first-passed}
use Rattle.rules.proofs.Accepted.{FieldsAccepted, unrefused, few-rows, fields-accepted}
use Rattle.proposals.specs.Proposals.{lowest, is_level1_row, is_ownerless, keeps_row, is_changed, is_foreign, level_refusal, changes_refusal}
use Rattle.proposals.proofs.Scans.{Scanning}
use Rattle.pairs.specs.Pairs.{Pairs}
use Rattle.kept_fields.specs.Fields.{Placed, Meeting}
use Rattle.kept_rows.specs.Lost.{is_lost}

-- Tests of a row, as Booleans.
turned : (a v b : Bool) → ((a && v) && b) ≡ ((a && b) && v)
turned true true true = refl
turned true true false = refl
turned true false true = refl
turned true false false = refl
turned false v b = refl

not-all : (a b c : Bool) → (not a || not b || not c) ≡ not ((a && b) && c)
not-all true true c = refl
not-all true false c = refl
not-all false b c = refl

kept-core : (a level : Bool) → (not a || level) ≡ false → (a ≡ true) × (level ≡ false)
kept-core true level e = (refl, e)
kept-core false level e = absurd (true≢false e)

lost-core : (a level l u v p : Bool) → (not a || level) ≡ true → false ≡ (not level && ((((a && l) && u) && v) && p))
lost-core true true l u v p e = refl
lost-core true false l u v p e = absurd (true≢false (sym e))
lost-core false true l u v p e = refl
lost-core false false l u v p e = refl

-- A text has no names.
text-bare : (pool_length r : ℕ) (n : Node) → fields_refusal pool_length r n ≡ none → n.type ≡ TEXT → (n.local.size ≡ 0) × (n.uri.size ≡ 0)
unfolding fields_refusal must_be_empty
text-bare pool_length r n e t =
    let each = all_none (map (place_refusal pool_length r) (worded_fields n) ++ map (length_refusal n.type r) (worded_fields n)) e in
    let local : (must_be_empty n.type LOCAL_NAME && not (eqb n.local.size 0)) ≡ false = not-refused _ _ each.1.1.1.1.1.0 in
    let uri : (must_be_empty n.type URI && not (eqb n.uri.size 0)) ≡ false = not-refused _ _ each.1.1.1.1.1.1.0 in
    (eqb-true n.local.size 0 (not-false (eqb n.local.size 0) (rw t at local)), eqb-true n.uri.size 0 (not-false (eqb n.uri.size 0) (rw t at uri)))

-- A table that is not refused.
pub placed : (table pool : List ℕ) → check_refusal table pool ≡ none → Placed table pool
placed table pool e =
    let a = unrefused table pool e in
    record {
      few = few-rows table pool a.size;
      within = λ r i.
          let fields = subst (FieldsAccepted (length pool)) (node-nodes table pool r i) (fields-accepted (nodes table pool) (length pool) r (a.row r (rw length-nodes i))) in
          (fields.value.in_pool, a.size.pool_bound);
      nameless = λ r i t.
          let passed = subst (λ n. fields_refusal (length pool) r n ≡ none) (node-nodes table pool r i) (a.row r (rw length-nodes i)).fields in
          let bare = text-bare (length pool) r (node_at table pool r) passed t in
          (ap (part pool (word table r LOCAL_NAME)) bare.0, ap (part pool (word table r URI)) bare.1);
    }

-- The tests of a row, one by one.
module _ (n m : Node) where
  abbrev bare : Bool
  bare = not (is_ownerless n) || same_bytes m.prefix.bytes n.prefix.bytes

  abbrev pub names : Bool
  names = same_bytes m.local.bytes n.local.bytes && same_bytes m.uri.bytes n.uri.bytes && bare

  abbrev pub value : Bool
  value = eqb n.type DECLARATION || same_bytes m.value.bytes n.value.bytes

  abbrev core : Bool
  core = eqb m.type n.type && eqb m.parent n.parent && eqb m.maker n.maker

  keeps : core ≡ true → keeps_row n m ≡ (names && value)
  unfolding keeps_row
  keeps e =
      rw e (turned (same_bytes m.local.bytes n.local.bytes && same_bytes m.uri.bytes n.uri.bytes) value bare)

  -- What is read of them.
  module _ {kind owner kind' owner' maker' maker : ℕ} (t : kind ≡ n.type) (o : owner ≡ n.parent) (t' : kind' ≡ m.type) (o' : owner' ≡ m.parent) (k' : maker' ≡ m.maker) (k : maker ≡ n.maker) {level : Bool} (l : level ≡ is_level1 kind) where
    abbrev differs : Bool
    differs = not (eqb kind' kind) || not (eqb owner' owner) || not (eqb maker' maker) || level

    read : differs ≡ (not core || is_level1 n.type)
    read = rw (l, t, o, t', o', k', k) (ap (λ (b : Bool). b || is_level1 n.type) (not-all (eqb m.type n.type) (eqb m.parent n.parent) (eqb m.maker n.maker)))

    pub other-core : differs ≡ true → false ≡ (not (is_level1 n.type) && keeps_row n m)
    unfolding keeps_row
    other-core e = lost-core core (is_level1 n.type) _ _ _ _ (sym read ∙ e)

    module _ (e : differs ≡ false) where
      parts : (core ≡ true) × (is_level1 n.type ≡ false)
      parts = kept-core core (is_level1 n.type) (sym read ∙ e)

      pub same-type : kind ≡ m.type
      same-type = t ∙ sym (eqb-true m.type n.type (both_true _ _ (both_true _ _ parts.0).0).0)

      pub other-names : names ≡ false → false ≡ (not (is_level1 n.type) && keeps_row n m)
      other-names e' = rw (parts.1, keeps parts.0, e') refl

      pub value-left : names ≡ true → value ≡ (not (is_level1 n.type) && keeps_row n m)
      value-left e' = rw (parts.1, keeps parts.0, e') refl

-- A row of the original.
module _ (original pool proposal other : List ℕ) (r : ℕ) (inside : r < row_count original) where
  pub missing : ltb r (row_count proposal) ≡ false → true ≡ is_lost (nodes original pool) (nodes proposal other) r
  unfolding is_lost
  missing e = rw (length-nodes proposal other, e, and-false) refl

  pub changed : r < row_count proposal → (is : Bool) → is ≡ (not (is_level1 (node_at original pool r).type) && keeps_row (node_at original pool r) (node_at proposal other r)) → not is ≡ is_lost (nodes original pool) (nodes proposal other) r
  unfolding is_lost
  changed there is e =
      rw (length-nodes proposal other, lt-ltb r (row_count proposal) there, node-nodes original pool r inside, node-nodes proposal other r there) (ap not e)

-- The loop over the rows of the original has come to row r.
pub record Keeping (original pool mine proposal other theirs met known : List ℕ) (r : ℕ) : Type 0 where
  pub meeting : Meeting original pool mine proposal other theirs met
  pub pairs : Pairs known pool other
  pub scanning : Scanning (is_lost (nodes original pool) (nodes proposal other)) Refusal.Changed (length (nodes original pool)) r

-- Tests that agree on the rows find the same one.
alike_from : (f g : ℕ → Option Refusal) (i count : ℕ) → ((r : ℕ) → i ≤ r → r < i + count → f r ≡ g r) → map f (numbers_from i count) ≡ map g (numbers_from i count)
alike_from f g i zero h = refl
alike_from f g i (suc count) h = rw (h i (le_refl i) (omega arith), alike_from f g (suc i) count (λ r l k. h r (omega arith) (omega arith))) refl

module _ (ns ms : List Node) where
  abbrev lost : Option Refusal
  lost = lowest (is_lost ns ms) Refusal.Changed (length ns)

  abbrev changes : Option Refusal
  changes = lowest (is_changed ns ms) Refusal.Changed (length ns)

  -- Where no row is lost, none is of DOM Level 1.
  level2 : lost ≡ none → level_refusal ns ≡ none
  unfolding is_lost
  level2 e =
      none-lowest (λ (r : ℕ). refused_if (is_level1_row ns r) (Refusal.ProposalLevel1 (record { 0 = r }))) (length ns)
      (λ r i.
      let kept = not-refused (is_lost ns ms r) _ (lowest-none (λ (r : ℕ). refused_if (is_lost ns ms r) (Refusal.Changed (record { 0 = r }))) (length ns) e r i) in
      let two = both_true (not (is_level1_row ns r)) (ltb r (length ms) && keeps_row (node ns r) (node ms r)) (not-false _ kept) in
      rw (not-true (is_level1_row ns r) two.0) refl)

  -- Where no row is of DOM Level 1, those that are lost are changed.
  lost-changed : level_refusal ns ≡ none → lost ≡ changes
  unfolding is_lost is_changed
  lost-changed e =
      ap first_refusal
      (alike_from (λ (r : ℕ). refused_if (is_lost ns ms r) (Refusal.Changed (record { 0 = r }))) (λ (r : ℕ). refused_if (is_changed ns ms r) (Refusal.Changed (record { 0 = r }))) 0 (length ns)
      (λ r l k.
      let level = not-refused (is_level1_row ns r) _ (lowest-none (λ (r : ℕ). refused_if (is_level1_row ns r) (Refusal.ProposalLevel1 (record { 0 = r }))) (length ns) e r (omega arith)) in
      rw level refl))

  -- 43, from both parts.
  abbrev second : List Node → List Node → Result ⊤ Refusal
  second ns ms = verdict (lowest (is_foreign ns ms) Refusal.Changed (length ms))

  module _ {kept : Result ⊤ Refusal} (told : kept ≡ verdict lost) where
    pub kept-refused : (x : Refusal) → kept ≡ Err x → level_refusal ns ≡ none → Err x ≡ verdict (changes_refusal ns ms)
    kept-refused x is level = sym is ∙ first-refused changes (lowest (is_foreign ns ms) Refusal.Changed (length ms) ∷ []) (told ∙ ap verdict (lost-changed level)) x is

    pub kept-level2 : kept ≡ Ok tt → level_refusal ns ≡ none
    kept-level2 is = level2 (verdict-accepted lost (sym told ∙ is))

    pub kept-passed : kept ≡ Ok tt → {further : Result ⊤ Refusal} → further ≡ second ns ms → further ≡ verdict (changes_refusal ns ms)
    kept-passed is e =
        e ∙ ap verdict (first_alone (lowest (is_foreign ns ms) Refusal.Changed (length ms)) ∙ sym (first-passed changes (lowest (is_foreign ns ms) Refusal.Changed (length ms) ∷ []) (told ∙ ap verdict (lost-changed (kept-level2 is))) is))

-- What is refused is not accepted.
pub refused-not : {x : Refusal} {o : Option Refusal} → ◌≡◌ {A = Result ⊤ Refusal} (Err x) (Ok tt) → o ≡ none
refused-not e = cc
