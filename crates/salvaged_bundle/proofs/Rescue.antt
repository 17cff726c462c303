-- What salvage left tells what the bundle is refused for, or what it is.
-- Assumes nothing.
use Rattle.std.specs.Prelude.{Result, Ok, Err}
use Prim.Native.Nat.{ℕ, ◌-◌, ◌*◌, ◌/◌, ◌≤◌}
use mathlib.Core.Path.{◌≡◌, refl, sym, ap, ◌∙◌}
use mathlib.Core.Bool.{Bool, true, false}
use mathlib.Core.List.{List, [], ◌∷◌}
use mathlib.Core.Option.{Option, none, some}
use native.Mathlib.Nat.{le_trans}
use native.Mathlib.Omega.{arith}
use lib.Dec.{ltb}
use lib.ListN.{length, take, replicate, length-map}
use lib.Seq.{take_at}
use borrow.Author.Tests.{le-ltb}
use Rattle.rules.specs.Table.{WIDTH, MOST_ROWS, Node, nodes, words, node, row_count}
use Rattle.rules.specs.Outputs.{padded}
use Rattle.rules.specs.Answers.{salvaged_rows, salvaged_dropped}
use Rattle.rules.specs.Refusals.{refused_if, unless_refused}
use Rattle.rules.specs.declared.Refusal.{Refusal}
use Rattle.rules.proofs.Lists.{by_cases, true-not-false}
use Rattle.rules.proofs.Table.{length-nodes, length-words}
use Rattle.rules.proofs.Refusals.{all_none}
use Rattle.rules.proofs.Accepted.{Sized, unrefused}
use Rattle.buffers.specs.Writes.{cleared}
use Rattle.bundles.specs.Bundles.{write_bundle}
use Rattle.bundles.specs.Operations.{write_refused, write_done, bundle_written}
use Rattle.dropped_rows.specs.Dropped.{kept}
use Rattle.salvage.specs.Salvage.{new_parent, with_parent, salvaged_nodes, drops, listed, fault_refusal, too_short, salvage_refusal, SalvageOutcome, salvaged, RescueOutcome, rescue_refused, rescued}
use Rattle.dropped_rows.proofs.Kept.{few}
use Rattle.salvage.proofs.Result.{success, passes}
use Rattle.salvaged_bundle.specs.Kept.{Kept}
use Rattle.rules.specs.declared.Salvaged.{Salvaged}
use Rattle.rules.specs.declared.Rescued.{Rescued}

is_done : Result Salvaged Refusal → Bool
is_done (Ok kept) = true
is_done (Err x) = false

is_written : Result ℕ Refusal → Bool
is_written (Ok bytes) = true
is_written (Err x) = false

-- An output that is cleared.
pub all-zero : (out : List ℕ) {out' : List ℕ} → out' ≡ cleared out 0 → out' ≡ replicate (length out) 0
all-zero out c = let n : length out - 0 ≡ length out = omega arith in c ∙ ap (λ (k : ℕ). replicate k 0) n

outcome-alike : {a b : Result Rescued Refusal} {c d e f : List ℕ} → a ≡ b → c ≡ d → e ≡ f → ◌≡◌ {A = RescueOutcome} (record { answer = a; bytes = c; list = e }) (record { answer = b; bytes = d; list = f })
outcome-alike p q r = rw (p, q, r) refl

-- No more rows are kept than there are.
rows_few : (table pool : List ℕ) → length (salvaged_nodes (nodes table pool)) ≤ row_count table
unfolding salvaged_nodes
rows_few table pool =
    let ns = nodes table pool in
    let long = length-map (kept ns (length ns)) (λ (r : ℕ). with_parent (new_parent ns (node ns r).parent) (node ns r)) in
    omega (arith, long, few ns (length ns), length-nodes table pool)

-- Where every row has room, 10 speaks of the list alone.
same-room : (table pool : List ℕ) (a b list_size : ℕ) → row_count table ≤ a / WIDTH → row_count table ≤ b / WIDTH → salvage_refusal table pool a list_size ≡ salvage_refusal table pool b list_size
unfolding salvage_refusal too_short
same-room table pool a b list_size h k =
    let n = length (salvaged_nodes (nodes table pool)) in
    rw (le-ltb (a / WIDTH) n (le_trans (rows_few table pool) h), le-ltb (b / WIDTH) n (le_trans (rows_few table pool) k)) refl

module _ {answer : Result Salvaged Refusal} {left pool list table : List ℕ} (k : Kept answer left pool list table) where
  abbrev ns : List Node
  ns = nodes table pool

  abbrev bundle : List ℕ
  bundle = write_bundle (words (salvaged_nodes ns)) pool

  abbrev refused : Refusal → SalvageOutcome
  refused x = record { answer = Err x; table = replicate (length left) 0; list = replicate (length list) 0 }

  whole_room : salvage_refusal table pool (length left) (length list) ≡ salvage_refusal table pool (WIDTH * MOST_ROWS) (length list)
  whole_room = let few = k.few in same-room table pool (length left) (WIDTH * MOST_ROWS) (length list) k.room (omega arith)

  -- What salvage is, by its refusal.
  told : (o : Option Refusal) → salvage_refusal table pool (length left) (length list) ≡ o → salvaged table pool (length left) (length list) ≡ unless_refused o refused (success table pool (length left) (length list))
  unfolding salvaged
  told o e = ap (λ (p : Option Refusal). unless_refused p refused (success table pool (length left) (length list))) e

  -- Salvage refused.
  pub salvage-refused : {x : Refusal} → answer ≡ Err x → salvage_refusal table pool (WIDTH * MOST_ROWS) (length list) ≡ some x
  unfolding is_done
  salvage-refused {x} t = sym whole_room ∙ go (salvage_refusal table pool (length left) (length list)) refl
    where
      go : (o : Option Refusal) → salvage_refusal table pool (length left) (length list) ≡ o → salvage_refusal table pool (length left) (length list) ≡ some x
      go none e =
          let both : ◌≡◌ {A = Result Salvaged Refusal} (Err x) (Ok (record { rows = length (salvaged_nodes ns); dropped = length (drops ns) })) = sym t ∙ k.given ∙ ap (λ (o : SalvageOutcome). o.answer) (told none e) in
          absurd (true-not-false refl (sym (ap is_done both)))
      go (some y) e =
          let both : ◌≡◌ {A = Result Salvaged Refusal} (Err x) (Err y) = sym t ∙ k.given ∙ ap (λ (o : SalvageOutcome). o.answer) (told (some y) e) in
          let same : some y ≡ some x = cc in e ∙ same

  pub rescue-refused : {x : Refusal} → answer ≡ Err x → (size : ℕ) → rescued table pool size (length list) ≡ rescue_refused size (length list) x
  unfolding rescued
  rescue-refused t size = rw (salvage-refused t) refl

  -- Salvage was done.
  module _ {rows dropped : ℕ} (t : answer ≡ Ok (record { rows = rows; dropped = dropped })) where
    unrefused-done : salvage_refusal table pool (length left) (length list) ≡ none
    unfolding is_done
    unrefused-done = go (salvage_refusal table pool (length left) (length list)) refl
      where
        go : (o : Option Refusal) → salvage_refusal table pool (length left) (length list) ≡ o → salvage_refusal table pool (length left) (length list) ≡ none
        go none e = e
        go (some x) e =
            let both : ◌≡◌ {A = Result Salvaged Refusal} (Ok (record { rows = rows; dropped = dropped })) (Err x) = sym t ∙ k.given ∙ ap (λ (o : SalvageOutcome). o.answer) (told (some x) e) in
            absurd (true-not-false refl (ap is_done both))

    done : salvaged table pool (length left) (length list) ≡ success table pool (length left) (length list)
    done = told none unrefused-done

    both : ◌≡◌ {A = Result Salvaged Refusal} (Ok (record { rows = rows; dropped = dropped })) (Ok (record { rows = length (salvaged_nodes ns); dropped = length (drops ns) }))
    both = sym t ∙ k.given ∙ ap (λ (o : SalvageOutcome). o.answer) done

    rows_are : rows ≡ length (salvaged_nodes ns)
    unfolding salvaged_rows
    rows_are = ap salvaged_rows both

    dropped-are : dropped ≡ length (drops ns)
    unfolding salvaged_dropped
    dropped-are = ap salvaged_dropped both

    clear : fault_refusal table pool ≡ none
    unfolding salvage_refusal
    clear = (all_none (fault_refusal table pool ∷ refused_if (too_short (length left) (length list) ns) Refusal.RowRoom ∷ []) unrefused-done).0

    -- The rows stand at the start of the table.
    pub kept-room : WIDTH * rows ≤ length left
    kept-room = let room = k.room in omega (arith, rows_are, rows_few table pool)

    pub kept-words : take (WIDTH * rows) left ≡ words (salvaged_nodes ns)
    unfolding padded
    kept-words =
        ap (λ (l : List ℕ). take (WIDTH * rows) l) (k.rows ∙ ap (λ (o : SalvageOutcome). o.table) done)
        ∙ take_at (words (salvaged_nodes ns)) (replicate (length left - length (words (salvaged_nodes ns))) 0) (WIDTH * rows) (length-words (salvaged_nodes ns) ∙ ap (λ (n : ℕ). WIDTH * n) (sym rows_are))

    pub kept-sized : Sized (words (salvaged_nodes ns)) pool
    kept-sized = (unrefused (words (salvaged_nodes ns)) pool (passes table pool clear)).size

    -- The bundle is written, or there is no room for it.
    module _ (size : ℕ) {part : List ℕ} (at : part ≡ take (WIDTH * rows) left) {wrote : Result ℕ Refusal} (given : wrote ≡ (bundle_written none size (write_bundle part pool)).answer) where
      w : wrote ≡ (bundle_written none size bundle).answer
      w = given ∙ ap (λ (l : List ℕ). (bundle_written none size (write_bundle l pool)).answer) (at ∙ kept-words)

      no_room : {x : Refusal} → wrote ≡ Err x → (ltb size (length bundle) ≡ true) × (x ≡ Refusal.BundleRoom)
      unfolding bundle_written write_refused write_done is_written
      no_room {x} q =
          by_cases (ltb size (length bundle))
          (λ l. let b : ◌≡◌ {A = Result ℕ Refusal} (Err x) (Err Refusal.BundleRoom) = sym q ∙ w ∙ rw l refl in (l, cc))
          (λ l. let b : ◌≡◌ {A = Result ℕ Refusal} (Err x) (Ok (length bundle)) = sym q ∙ w ∙ rw l refl in absurd (true-not-false refl (sym (ap is_written b))))

      has_room : {bytes : ℕ} → wrote ≡ Ok bytes → (ltb size (length bundle) ≡ false) × (bytes ≡ length bundle)
      unfolding bundle_written write_refused write_done is_written
      has_room {bytes} q =
          by_cases (ltb size (length bundle))
          (λ l. let b : ◌≡◌ {A = Result ℕ Refusal} (Ok bytes) (Err Refusal.BundleRoom) = sym q ∙ w ∙ rw l refl in absurd (true-not-false refl (ap is_written b)))
          (λ l. let b : ◌≡◌ {A = Result ℕ Refusal} (Ok bytes) (Ok (length bundle)) = sym q ∙ w ∙ rw l refl in (l, cc))

      pub rescue-short : {x : Refusal} → wrote ≡ Err x → rescued table pool size (length list) ≡ rescue_refused size (length list) x
      unfolding rescued
      rescue-short q = rw (sym whole_room ∙ unrefused-done, (no_room q).0, (no_room q).1) refl

      written-whole : ltb size (length bundle) ≡ false → (bundle_written none size bundle).bytes ≡ padded size bundle
      unfolding bundle_written write_done
      written-whole l = rw l refl

      pub rescue-done : {bytes : ℕ} → wrote ≡ Ok bytes → {out : List ℕ} → out ≡ (bundle_written none size (write_bundle part pool)).bytes → rescued table pool size (length list) ≡ record { answer = Ok (record { bytes = bytes; dropped = dropped }); bytes = out; list = list }
      unfolding rescued
      rescue-done {bytes} q {out} o =
          let filled : out ≡ padded size bundle = o ∙ ap (λ (l : List ℕ). (bundle_written none size (write_bundle l pool)).bytes) (at ∙ kept-words) ∙ written-whole (has_room q).0 in
          let kept-list : list ≡ padded (length list) (listed (drops ns)) = k.entries ∙ ap (λ (p : SalvageOutcome). p.list) done in
          let is : rescued table pool size (length list) ≡ record { answer = Ok (record { bytes = length bundle; dropped = length (drops ns) }); bytes = padded size bundle; list = padded (length list) (listed (drops ns)) } =
          rw (sym whole_room ∙ unrefused-done, (has_room q).0) refl in
          is ∙ outcome-alike (ap (λ (n : ℕ). Ok (record { bytes = n; dropped = length (drops ns) })) (sym (has_room q).1) ∙ ap (λ (n : ℕ). Ok (record { bytes = bytes; dropped = n })) (sym dropped-are)) (sym filled) (sym kept-list)
