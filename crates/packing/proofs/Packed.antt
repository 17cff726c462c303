-- What packing keeps, that its result passes the check, and that packing again changes nothing.
-- Assumes nothing.
use Prim.Native.Nat.{ℕ, ◌+◌}
use mathlib.Core.Path.{◌≡◌, refl, sym, ◌∙◌, ap, subst}
use mathlib.Core.Bool.{true, false}
use mathlib.Core.List.{List, [], ◌∷◌, ◌++◌, map}
use mathlib.Core.Option.{Option, none, some}
use native.Mathlib.Omega.{arith}
use lib.ListN.{length, length-map}
use lib.Dec.{T}
use borrow.Author.Tests.{le-leb}
use Rattle.rules.specs.Lists.{all_of, is_empty}
use Rattle.rules.specs.Table.{Field, Node, nodes, node}
use Rattle.rules.specs.Answers.{filled_number}
use Rattle.rules.specs.Refusals.{first_refusal, unless_refused, check_refusal}
use Rattle.rules.specs.Outputs.{Outcome, refusal}
use Rattle.rules.specs.Normalization.{State, success, room_refusal}
use Rattle.rules.specs.Demands.{succeeded, result_table, result_pool, result_rows, field_bytes, Agree}
use Rattle.rules.specs.declared.Refusal.{Refusal}
use Rattle.rules.proofs.Lists.{by_cases, both_true, true-both, T_true, true-not-false, equal-same_bytes, empty-equal}
use Rattle.rules.proofs.Refusals.{all_none}
use Rattle.rules.proofs.Scope.{node-map}
use Rattle.rules.proofs.Result.{in_pool, fits_in, success-rows, refusal-numbered}
use Rattle.packing.specs.Packing.{uses, entries, joined, start_of, packed_field, packed_node, packed_form, packing_refusal, packed}
use Rattle.packing.specs.Demands.{Kept, Keeps}
use Rattle.packing.proofs.Entries.{is_held, rows-held, stands}

-- A packed field has the same bytes, and lies in the packed pool.
module _ (names : List (List ℕ)) (f : Field) where
  pub bytes-kept : (packed_field names f).bytes ≡ f.bytes
  unfolding packed_field
  bytes-kept =
      by_cases (is_empty f.bytes)
      (λ q. rw q (sym (empty-equal f.bytes q)))
      (λ q. rw q refl)

  field_fits : is_held names f.bytes ≡ true → in_pool (joined names) (packed_field names f) ≡ true
  unfolding in_pool packed_field
  field_fits h =
      by_cases (is_empty f.bytes)
      (λ q. rw q (true-both (le-leb 0 (length (joined names)) (omega arith)) refl))
      (λ q.
      let s = stands names f.bytes (rw q at h) in
      rw q
      (true-both (le-leb (start_of names f.bytes + length f.bytes) (length (joined names)) s.inside)
      (equal-same_bytes (sym s.there))))

  packed-again : packed_field names (packed_field names f) ≡ packed_field names f
  unfolding packed_field
  packed-again =
      by_cases (is_empty f.bytes)
      (λ q. rw q refl)
      (λ q. rw (q, q) refl)

module _ (names : List (List ℕ)) (n : Node) where
  pub bytes_of : field_bytes (packed_node names n) ≡ field_bytes n
  unfolding packed_node
  bytes_of = rw (bytes-kept names n.prefix, bytes-kept names n.local, bytes-kept names n.uri, bytes-kept names n.value) refl

  pub agree : Agree n (packed_node names n)
  unfolding packed_node
  agree = record { type = refl; parent = refl; bytes = sym bytes_of; maker = refl }

  node-fits : all_of (is_held names) (field_bytes n) ≡ true → fits_in (joined names) (packed_node names n) ≡ true
  unfolding fits_in packed_node
  node-fits h =
      let p = both_true _ _ h in
      let l = both_true _ _ p.1 in
      let u = both_true _ _ l.1 in
      let v = both_true _ _ u.1 in
      true-both (field_fits names n.prefix p.0) (true-both (field_fits names n.local l.0) (true-both (field_fits names n.uri u.0) (field_fits names n.value v.0)))

  node-again : packed_node names (packed_node names n) ≡ packed_node names n
  unfolding packed_node
  node-again = rw (packed-again names n.prefix, packed-again names n.local, packed-again names n.uri, packed-again names n.value) refl

-- All rows.
rows_fit : (names : List (List ℕ)) (ns : List Node) → all_of (λ (n : Node). all_of (is_held names) (field_bytes n)) ns ≡ true → all_of (fits_in (joined names)) (map (packed_node names) ns) ≡ true
rows_fit names [] h = refl
rows_fit names (n ∷ ns) h =
    let b = both_true (all_of (is_held names) (field_bytes n)) _ h in
    true-both (node-fits names n b.0) (rows_fit names ns b.1)

rows-again : (names : List (List ℕ)) (ns : List Node) → map (packed_node names) (map (packed_node names) ns) ≡ map (packed_node names) ns
rows-again names [] = refl
rows-again names (n ∷ ns) = rw (node-again names n, rows-again names ns) refl

uses-same : (names : List (List ℕ)) (ns : List Node) → uses (map (packed_node names) ns) ≡ uses ns
uses-same names [] = refl
uses-same names (n ∷ ns) =
    ap (λ (l : List (List ℕ)). l ++ uses (map (packed_node names) ns)) (bytes_of names n) ∙ ap (λ (l : List (List ℕ)). field_bytes n ++ l) (uses-same names ns)

module _ (ns : List Node) where
  pub form-fits : all_of (fits_in (packed_form ns).pool) (packed_form ns).rows ≡ true
  unfolding packed_form
  form-fits = rows_fit (entries ns) ns (rows-held ns)

  entries-same : entries (map (packed_node (entries ns)) ns) ≡ entries ns
  unfolding entries
  entries-same = rw (uses-same (entries ns) ns) refl

  pub form-again : packed_form (packed_form ns).rows ≡ packed_form ns
  unfolding packed_form
  form-again = rw (entries-same, rows-again (entries ns) ns) refl

-- What success tells.
pub record Packs (table pool : List ℕ) (table_size pool_size : ℕ) : Type 0 where
  pub accepted : check_refusal table pool ≡ none
  pub room : room_refusal table_size pool_size (packed_form (nodes table pool)) ≡ none
  pub outcome : packed table pool table_size pool_size ≡ success table_size pool_size (packed_form (nodes table pool))

refused-fails : (table_size pool_size : ℕ) (x : Refusal) → succeeded (refusal table_size pool_size x) ≡ false
unfolding succeeded refusal filled_number
refused-fails table_size pool_size x = refusal-numbered x

pub packs : (table pool : List ℕ) (table_size pool_size : ℕ) → T (succeeded (packed table pool table_size pool_size)) → Packs table pool table_size pool_size
unfolding packed packing_refusal
packs table pool table_size pool_size t =
    let form = packed_form (nodes table pool) in
    let tried = check_refusal table pool ∷ room_refusal table_size pool_size form ∷ [] in
    let passed = go (first_refusal tried) (T_true _ t) in
    let a = all_none tried passed in
    record {
      accepted = a.0;
      room = a.1.0;
      outcome = ap (λ (o : Option Refusal). unless_refused o (refusal table_size pool_size) (success table_size pool_size form)) passed;
    }
  where
    go : (o : Option Refusal) → succeeded (unless_refused o (refusal table_size pool_size) (success table_size pool_size (packed_form (nodes table pool)))) ≡ true → o ≡ none
    go none e = refl
    go (some x) e = absurd (true-not-false e (refused-fails table_size pool_size x))

module _ (table pool : List ℕ) (table_size pool_size : ℕ) (t : T (succeeded (packed table pool table_size pool_size))) where
  abbrev form : State
  form = packed_form (nodes table pool)

  abbrev outcome : Outcome
  outcome = packed table pool table_size pool_size

  rows_are : result_rows outcome ≡ form.rows
  rows_are = rw (packs table pool table_size pool_size t).outcome (success-rows table_size pool_size form (form-fits (nodes table pool)))

  rows-keep : Kept (nodes table pool) form.rows
  unfolding packed_form
  rows-keep =
      record {
        count = length-map (nodes table pool) (packed_node (entries (nodes table pool)));
        rows = λ r i. subst (λ (n : Node). Agree (node (nodes table pool) r) n) (sym (node-map (packed_node (entries (nodes table pool))) (nodes table pool) r i)) (agree (entries (nodes table pool)) (node (nodes table pool) r));
      }

  keeps-all : Kept (nodes table pool) (result_rows outcome)
  keeps-all = rw rows_are rows-keep

pub keeps : Keeps
keeps table pool table_size pool_size t = keeps-all table pool table_size pool_size t

-- Packing again, where the result passes the check.
packed-by : (table pool : List ℕ) (table_size pool_size : ℕ) (form : State) → check_refusal table pool ≡ none → packed_form (nodes table pool) ≡ form → room_refusal table_size pool_size form ≡ none → packed table pool table_size pool_size ≡ success table_size pool_size form
unfolding packed packing_refusal
packed-by table pool table_size pool_size form checks same room = rw (checks, same, room) refl

pub packs-again : (table pool : List ℕ) (table_size pool_size : ℕ) → T (succeeded (packed table pool table_size pool_size)) → check_refusal (result_table (packed table pool table_size pool_size)) (result_pool (packed table pool table_size pool_size)) ≡ none → packed (result_table (packed table pool table_size pool_size)) (result_pool (packed table pool table_size pool_size)) table_size pool_size ≡ packed table pool table_size pool_size
unfolding result_rows
packs-again table pool table_size pool_size t checks =
    let p = packs table pool table_size pool_size t in
    packed-by (result_table (packed table pool table_size pool_size)) (result_pool (packed table pool table_size pool_size)) table_size pool_size (packed_form (nodes table pool)) checks
    (ap packed_form (rows_are table pool table_size pool_size t) ∙ form-again (nodes table pool))
    p.room
    ∙ sym p.outcome
