-- What the tests of a row answer, by the flags and the bytes.
-- Assumes nothing.
use Prim.Native.Nat.{ℕ, ◌+◌, ◌-◌, ◌≤◌, ◌<◌}
use mathlib.Core.Path.{◌≡◌, refl, sym, ap, ◌∙◌}
use mathlib.Core.Bool.{Bool, true, false, ◌&&◌, ◌||◌}
use mathlib.Core.List.{List, [], ◌∷◌}
use mathlib.Core.Option.{none}
use native.Mathlib.Omega.{arith}
use lib.Dec.{eqb}
use lib.ListN.{length, take, drop}
use Rattle.rules.specs.Lists.{is_one_of}
use Rattle.rules.specs.Table.{MOST_ROWS, MOST_BYTES, VALUE, ELEMENT, ATTRIBUTE, TEXT, DECLARATION, nodes, node, row_count, word, node_at, field_at}
use Rattle.rules.specs.Refusals.{check_refusal}
use Rattle.rules.specs.Utf8.{well_formed}
use Rattle.rules.proofs.Table.{length-nodes, node-nodes}
use Rattle.rules.proofs.Accepted.{unrefused, few-rows, fields-accepted, fields-encoded}
use Rattle.rows.proofs.Words.{type-word}
use Rattle.characters.specs.Characters.{holds_forbidden, forbidden_from}
use Rattle.characters.proofs.Bytes.{forbidden-bytes}
use Rattle.markup.specs.Writing.{in_subtree, has_no_markup}
use Rattle.subtree.specs.Flags.{Flagged}
use Rattle.subtree.proofs.Scans.{flag_is}
use Rattle.markup_refusals.specs.Tests.{is_foreign, is_spoiled}

-- The two tests.
abbrev pub foreign : List ℕ → List ℕ → ℕ → ℕ → Bool
foreign table pool e q = in_subtree (nodes table pool) e q && has_no_markup (nodes table pool) q

abbrev pub spoiled : List ℕ → List ℕ → ℕ → ℕ → Bool
spoiled table pool e q = in_subtree (nodes table pool) e q && holds_forbidden (node (nodes table pool) q).value.bytes

pub few : (table pool : List ℕ) → check_refusal table pool ≡ none → row_count table ≤ MOST_ROWS
few table pool accepted = few-rows table pool (unrefused table pool accepted).size

-- In an accepted table the bytes of a value tell.
pub value-forbidden : (table pool : List ℕ) (r : ℕ) → r < row_count table → check_refusal table pool ≡ none → forbidden_from (node_at table pool r).value.bytes ≡ holds_forbidden (node (nodes table pool) r).value.bytes
value-forbidden table pool r within accepted =
    let well : well_formed (node (nodes table pool) r).value.bytes ≡ true = (fields-encoded r (node (nodes table pool) r) ((unrefused table pool accepted).row r (rw length-nodes within)).encodings).value in
    ap (λ n. forbidden_from n.value.bytes) (sym (node-nodes table pool r within)) ∙ forbidden-bytes (node (nodes table pool) r).value.bytes well

-- The same by flags.
module _ (table pool flags : List ℕ) (e : ℕ) (flagged : Flagged table flags e (row_count table)) (r : ℕ) (within : r < row_count table) where
  pub foreign-is : is_foreign table flags r ≡ foreign table pool e r
  unfolding has_no_markup
  foreign-is = rw (flag_is table pool flags e flagged r within, type-word table pool r within) refl

  pub spoiled-is : check_refusal table pool ≡ none → is_spoiled table pool flags r ≡ spoiled table pool e r
  spoiled-is accepted = rw (flag_is table pool flags e flagged r within, value-forbidden table pool r within accepted) refl

-- The value of a row of an accepted table lies in the pool.
module _ (table pool : List ℕ) (accepted : check_refusal table pool ≡ none) where
  pub pool-bound : length pool ≤ MOST_BYTES
  pool-bound = (unrefused table pool accepted).size.pool_bound

  pub value-within : (r : ℕ) → r < row_count table → word table r VALUE + word table r (VALUE + 1) ≤ length pool
  value-within r within =
      let field = (fields-accepted (nodes table pool) (length pool) r ((unrefused table pool accepted).row r (rw length-nodes within))).value.in_pool in
      rw (node-nodes table pool r within) at field

-- The bytes from its start to its end.
pub value-bytes :
    (table pool : List ℕ) (r : ℕ) {s e : ℕ} → s ≡ word table r VALUE → e ≡ s + word table r (VALUE + 1)
    → forbidden_from (take (e - s) (drop s pool)) ≡ forbidden_from (field_at table pool r VALUE).bytes
value-bytes table pool r {s} {e} start end =
    let long : e - s ≡ word table r (VALUE + 1) = omega arith in
    rw (long, start) refl

-- What a function tells in its two branches.
pub told-true : {flag is other : Bool} → flag ≡ true → is ≡ other → is ≡ (flag && other)
told-true e f = rw e f

pub told-false : {flag : Bool} (other : Bool) → flag ≡ false → false ≡ (flag && other)
told-false other e = rw e refl

pub markup-kinds : (kind : ℕ) → (eqb kind ELEMENT || eqb kind ATTRIBUTE || eqb kind TEXT || eqb kind DECLARATION) ≡ is_one_of (ELEMENT ∷ ATTRIBUTE ∷ TEXT ∷ DECLARATION ∷ []) kind
markup-kinds kind = joined (eqb kind ELEMENT) (eqb kind ATTRIBUTE) (eqb kind TEXT) (eqb kind DECLARATION)
  where
    joined : (a b c d : Bool) → (a || b || c || d) ≡ (a || (b || (c || (d || false))))
    joined true b c d = refl
    joined false true c d = refl
    joined false false true d = refl
    joined false false false true = refl
    joined false false false false = refl
