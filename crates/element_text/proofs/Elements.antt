-- The links of an accepted table, and what putting a text at the start of an output leaves.
-- Assumes nothing.
use Prim.Native.Nat.{ℕ, ◌+◌, ◌-◌, ◌*◌, ◌≤◌, ◌<◌}
use mathlib.Core.Path.{◌≡◌, refl, sym, ap, subst, ◌∙◌}
use mathlib.Core.Bool.{Bool, true, false}
use mathlib.Core.List.{List, []}
use mathlib.Core.Option.{none}
use mathlib.Core.Logic.{◌⊎◌, inl, inr}
use native.Mathlib.Omega.{arith}
use borrow.Author.Tests.{eqb-true, ltb-true, ltb-false}
use lib.Dec.{eqb, ltb}
use lib.ListN.{length, get_or, set, replicate, length-replicate, length-set, get_or-replicate, get_or-eq_default}
use lib.Seq.{get_or-set_same, get_or-set_other}
use mir.Val.{bool_byte}
use Rattle.rules.specs.Lists.{all_of, is_one_of}
use Rattle.rules.specs.Table.{NONE, MOST_ROWS, MOST_BYTES, TYPE, PARENT, nodes, node, node_at, row_count, word}
use Rattle.rules.specs.Refusals.{check_refusal}
use Rattle.rules.proofs.Lists.{by_cases, both_true}
use Rattle.rules.proofs.Table.{length-nodes, node-nodes}
use Rattle.rules.proofs.Accepted.{unrefused, few-rows, parent-falls, FieldsAccepted, fields-accepted}
use Rattle.rows.proofs.Words.{parent-word}
use Rattle.notes.specs.Notes.{NOTES, LATEST, FIRST, note_at}
use Rattle.runs.specs.Runs.{is_plain}
use Rattle.children.specs.Children.{kinds, is_under, first_word, Listed}
use Rattle.children.proofs.Linking.{kept-words}
use Rattle.markup_names.specs.Pooled.{Pooled}
use Rattle.markup_values.specs.Marks.{PLAIN}
use Rattle.element_text.specs.Elements.{Clear, AtHand}

one-true : (b : Bool) → bool_byte b ≡ 1 → b ≡ true
one-true true e = refl
one-true false e = absurd (omega arith)

-- Zeros are clear.
pub zeros-clear : (table : List ℕ) (size : ℕ) → NOTES * row_count table ≤ size → Clear table (replicate size 0)
zeros-clear table size h = record { cleared = ap (λ k. replicate k 0) (sym (length-replicate size 0)); room = rw length-replicate h }

-- There are lengths for all bytes.
pub runs-room : (n size : ℕ) → n ≤ size → n ≤ length (replicate {A = ℕ} size 0)
runs-room n size small = rw length-replicate small

-- A cleared array has no links.
pub no-links : (table links : List ℕ) → Clear table links → (e k : ℕ) → note_at links e k ≡ 0
unfolding note_at
no-links table links clear e k =
    rw clear.cleared
    (by_cases (ltb (NOTES * e + k) (length links))
    (λ l. get_or-replicate (length links) (NOTES * e + k) 0 0 (ltb-true (NOTES * e + k) (length links) l))
    (λ l. let past = ltb-false (NOTES * e + k) (length links) l in get_or-eq_default (replicate (length links) 0) 0 (rw length-replicate past)))

module _ (table pool : List ℕ) (accepted : check_refusal table pool ≡ none) where
  pub few : row_count table ≤ MOST_ROWS
  few = few-rows table pool (unrefused table pool accepted).size

  pub few_bytes : length pool ≤ MOST_BYTES
  few_bytes = (unrefused table pool accepted).size.pool_bound

  pub pooled : Pooled table pool
  pooled =
      let fields : (r : ℕ) → r < row_count table → FieldsAccepted (length pool) (node_at table pool r) = λ r h.
      subst (FieldsAccepted (length pool)) (node-nodes table pool r h)
      (fields-accepted (nodes table pool) (length pool) r ((unrefused table pool accepted).row r (rw length-nodes h))) in
      record {
        prefix = λ r h. (fields r h).prefix.in_pool;
        local = λ r h. (fields r h).local.in_pool;
        uri = λ r h. (fields r h).uri.in_pool;
        value = λ r h. (fields r h).value.in_pool;
      }

  -- What is in an element's content stands behind it.
  later : (e d : ℕ) → e < row_count table → 0 < d → d ≤ row_count table → is_under false table e d ≡ true → e + 1 < d
  later e d h i j under =
      let r = d - 1 in
      let within : r < row_count table = omega arith in
      let is : word table r PARENT ≡ e = eqb-true (word table r PARENT) e (both_true (is_one_of (kinds false) (word table r TYPE)) (eqb (word table r PARENT) e) under).1 in
      let same : (node (nodes table pool) r).parent ≡ e = parent-word table pool r within ∙ is in
      falls e d same (omega (arith, few)) i (parent-falls (nodes table pool) (length pool) r ((unrefused table pool accepted).row r (rw length-nodes within)))
    where
      falls : (e d : ℕ) {parent : ℕ} → parent ≡ e → e < NONE → 0 < d → (parent ≡ NONE) ⊎ (parent < d - 1) → e + 1 < d
      falls e d same small i (inl alone) = absurd (omega arith)
      falls e d same small i (inr less) = omega arith

  -- The links, with the mark of the pool.
  pub at-hand :
      (links links₁ links₂ : List ℕ) (plain : Bool) → 0 < row_count table → Clear table links → length links₁ ≡ length links → ((owned : Bool) → Listed (is_under owned table) (first_word owned) links₁ (row_count table) 0)
      → links₂ ≡ set links₁ PLAIN (bool_byte plain) → plain ≡ all_of (is_plain true) pool → (e : ℕ) → e < row_count table → AtHand table pool links₂ [] e
  unfolding note_at
  at-hand links links₁ links₂ plain some-row clear size listed is told e within =
      let room : NOTES * row_count table ≤ length links₁ = rw size clear.room in
      let long : length links₂ ≡ length links₁ = rw is (length-set links₁ PLAIN (bool_byte plain)) in
      let first : get_or links₂ PLAIN 0 ≡ bool_byte plain = rw is (get_or-set_same links₁ PLAIN (bool_byte plain) 0 (omega arith)) in
      let other : (q k : ℕ) → 0 < k → note_at links₂ q k ≡ note_at links₁ q k = λ q k h. rw is (get_or-set_other links₁ PLAIN (NOTES * q + k) (bool_byte plain) 0 (λ z. omega arith)) in
      record {
        within = within;
        linked = record {
          few = few;
          room = rw long room;
          owned = kept-words (is_under true table) links₁ links₂ (row_count table) 0 FIRST (λ q. other q FIRST (omega arith)) (λ q. other q (FIRST + 1) (omega arith)) (listed true);
          content = kept-words (is_under false table) links₁ links₂ (row_count table) 0 LATEST (λ q. other q LATEST (omega arith)) (λ q. other q (LATEST + 1) (omega arith)) (listed false);
          later = later;
        };
        marked = record { room = omega arith; plain = λ one. sym told ∙ one-true plain (sym first ∙ one); known = λ some. absurd (some refl) };
        pooled = pooled;
      }
