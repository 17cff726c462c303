-- What was decided, and what is left in the outputs.
-- Assumes nothing.
use Rattle.std.specs.Prelude.{Result, Ok, Err}
use Prim.Native.Nat.{ℕ, ◌-◌, ◌*◌, ◌/◌, ◌≤◌, ◌<◌}
use mathlib.Core.Path.{◌≡◌, refl, sym, ap, ◌∙◌}
use mathlib.Core.Logic.{◌⊎◌, inl, inr}
use mathlib.Core.Bool.{Bool, true, false, ◌||◌}
use mathlib.Core.List.{List, [], ◌∷◌, ◌++◌}
use mathlib.Core.Option.{Option, none, some}
use native.Mathlib.Omega.{arith}
use lib.Dec.{ltb}
use lib.ListN.{length, take, drop, replicate}
use lib.Seq.{take_at}
use borrow.Author.Tests.{ltb-false}
use Rattle.rules.specs.Table.{WIDTH, NONE, PARENT, Node, word, nodes, words, node, row_count}
use Rattle.rules.specs.Outputs.{padded}
use Rattle.rules.specs.Answers.{salvaged_rows, salvaged_dropped}
use Rattle.rules.specs.Refusals.{unless_refused}
use Rattle.rules.specs.declared.Refusal.{Refusal}
use Rattle.rules.proofs.Lists.{both_false, true-not-false}
use Rattle.rules.proofs.Table.{length-nodes, length-words, node-nodes}
use Rattle.buffers.specs.Writes.{cleared}
use Rattle.buffers.proofs.Rows.{words-of-rows}
use Rattle.buffers.proofs.Meaning.{padded-part}
use Rattle.salvage.specs.Salvage.{ENTRY, salvaged_nodes, drops, listed, fault_refusal, too_short, salvaged}
use Rattle.dropped_rows.proofs.Kept.{none_dropped}
use Rattle.salvage.proofs.Unchanged.{rows_stay}
use Rattle.salvage.proofs.Passes.{Parent, parent_of}
use Rattle.salvage.proofs.Result.{size, small, good, salvage-refused, salvage-short, salvage-fits}
use Rattle.salvage_outputs.specs.Decided.{decided, Decided}
use Rattle.kept_table.specs.Kept.{kept_words}
use Rattle.dropped_list.specs.Dropped.{dropped_words}
use Rattle.salvage_outputs.specs.Filling.{Filling}
use Rattle.salvage_outputs.proofs.Fates.{Behind, words_are, list-are}
use Rattle.rules.specs.declared.Salvaged.{Salvaged}

-- A list written to the start, and zeros behind it.
pub front-padded : (out l : List ℕ) {out' out'' : List ℕ} {count : ℕ} → out' ≡ l ++ drop (length l) out → length out' ≡ length out → out'' ≡ cleared out' count → length l ≡ count → count ≤ length out → out'' ≡ padded (length out) l
front-padded out l {out'} {out''} {count} w long c n room =
    let fits : count ≤ length out' = rw long room in
    let front : take count out' ≡ l = rw w (take_at l (drop (length l) out) count n) in
    c ∙ padded-part out' count fits ∙ ap (λ (m : List ℕ). padded (length out') m) front ∙ ap (λ (k : ℕ). padded k l) long

pub all-zero : (out : List ℕ) {out' : List ℕ} → out' ≡ cleared out 0 → out' ≡ replicate (length out) 0
all-zero out c = let n : length out - 0 ≡ length out = omega arith in c ∙ ap (λ (k : ℕ). replicate k 0) n

pub zeros-padded : (size : ℕ) (l : List ℕ) → length l ≡ 0 → replicate size 0 ≡ padded size l
unfolding padded
zeros-padded size [] e = let n : size - 0 ≡ size = omega arith in ap (λ (k : ℕ). replicate k 0) (sym n)
zeros-padded size (x ∷ l) e = absurd (omega (arith, e))

listed-long : (xs : List Refusal) → length (listed xs) ≡ ENTRY * length xs
unfolding listed
listed-long [] = refl
listed-long (x ∷ xs) = let rest = listed-long xs in omega (arith, rest)

is_done : Result Salvaged Refusal → Bool
is_done (Ok kept) = true
is_done (Err x) = false

-- A table without faults.
module _ (table pool : List ℕ) (e : fault_refusal table pool ≡ none) where
  behind-all : (r : ℕ) → r < row_count table → Behind table r
  unfolding Parent
  behind-all r h = go (parent_of (nodes table pool) (length pool) (small table pool e) (good table pool e) r (rw length-nodes h))
    where
      same : (node (nodes table pool) r).parent ≡ word table r PARENT
      same = ap (λ (n : Node). n.parent) (node-nodes table pool r h)

      go : Parent (nodes table pool) (length pool) (small table pool e) (good table pool e) r (node (nodes table pool) r).parent → Behind table r
      go (inl z) = inl (sym same ∙ z)
      go (inr p) = inr (rw (← same) p.0)

module _ {table pool fates : List ℕ} {answer : Result Salvaged Refusal} (d : Decided table pool fates answer) where
  abbrev ns : List Node
  ns = nodes table pool

  -- It is done, or refused.
  done : {rows dropped : ℕ} → answer ≡ Ok (record { rows = rows; dropped = dropped }) → (fault_refusal table pool ≡ none) × (rows ≡ length (salvaged_nodes ns)) × (dropped ≡ length (drops ns))
  unfolding decided is_done salvaged_rows salvaged_dropped
  done {rows} {dropped} t = go (fault_refusal table pool) refl
    where
      go : (o : Option Refusal) → fault_refusal table pool ≡ o → (fault_refusal table pool ≡ none) × (rows ≡ length (salvaged_nodes ns)) × (dropped ≡ length (drops ns))
      go none e =
          let both : ◌≡◌ {A = Result Salvaged Refusal} (Ok (record { rows = rows; dropped = dropped })) (Ok (record { rows = length (salvaged_nodes ns); dropped = length (drops ns) })) = sym t ∙ d.given ∙ ap (λ (o : Option Refusal). unless_refused o Err (Ok (record { rows = length (salvaged_nodes ns); dropped = length (drops ns) }))) e in
          (e, ap salvaged_rows both, ap salvaged_dropped both)
      go (some x) e =
          let both : ◌≡◌ {A = Result Salvaged Refusal} (Ok (record { rows = rows; dropped = dropped })) (Err x) = sym t ∙ d.given ∙ ap (λ (o : Option Refusal). unless_refused o Err (Ok (record { rows = length (salvaged_nodes ns); dropped = length (drops ns) }))) e in
          absurd (true-not-false refl (ap is_done both))

  refused : {x : Refusal} → answer ≡ Err x → fault_refusal table pool ≡ some x
  unfolding decided is_done
  refused {x} t = go (fault_refusal table pool) refl
    where
      go : (o : Option Refusal) → fault_refusal table pool ≡ o → fault_refusal table pool ≡ some x
      go none e =
          let both : ◌≡◌ {A = Result Salvaged Refusal} (Err x) (Ok (record { rows = length (salvaged_nodes ns); dropped = length (drops ns) })) = sym t ∙ d.given ∙ ap (λ (o : Option Refusal). unless_refused o Err (Ok (record { rows = length (salvaged_nodes ns); dropped = length (drops ns) }))) e in
          absurd (true-not-false refl (sym (ap is_done both)))
      go (some y) e =
          let both : ◌≡◌ {A = Result Salvaged Refusal} (Err x) (Err y) = sym t ∙ d.given ∙ ap (λ (o : Option Refusal). unless_refused o Err (Ok (record { rows = length (salvaged_nodes ns); dropped = length (drops ns) }))) e in
          let same : some y ≡ some x = cc in e ∙ same

  module _ (table_size list_size : ℕ) where
    pub outcome-refused : {x : Refusal} → answer ≡ Err x → salvaged table pool table_size list_size ≡ record { answer = Err x; table = replicate table_size 0; list = replicate list_size 0 }
    outcome-refused {x} t = salvage-refused table pool table_size list_size x (refused t)

    module _ {rows dropped : ℕ} (t : answer ≡ Ok (record { rows = rows; dropped = dropped })) {short : Bool} (s : short ≡ (ltb (table_size / WIDTH) rows || ltb (list_size / ENTRY) dropped)) where
      is-short : short ≡ too_short table_size list_size ns
      unfolding too_short
      is-short = s ∙ rw ((done t).1, (done t).2) refl

      pub outcome-short : short ≡ true → salvaged table pool table_size list_size ≡ record { answer = Err Refusal.RowRoom; table = replicate table_size 0; list = replicate list_size 0 }
      outcome-short q = salvage-short table pool table_size list_size (done t).0 (sym is-short ∙ q)

      module _ (q : short ≡ false) where
        words-filled : kept_words table fates (row_count table) ≡ words (salvaged_nodes ns)
        words-filled = words_are table pool fates (d.fated (done t).0) (behind-all table pool (done t).0)

        list-filled : dropped_words fates (row_count table) ≡ listed (drops ns)
        list-filled = list-are table pool fates (d.fated (done t).0) (behind-all table pool (done t).0)

        pub filling : Filling table fates rows dropped table_size list_size
        unfolding drops
        filling =
            let e = (done t).0 in
            let both = both_false (ltb (table_size / WIDTH) rows) (ltb (list_size / ENTRY) dropped) (sym s ∙ q) in
            let table_fits = ltb-false (table_size / WIDTH) rows both.0 in
            let list-fits = ltb-false (list_size / ENTRY) dropped both.1 in
            record {
              sorted = record { few = rw (← length-nodes table pool) (small table pool e); noted = d.noted e; behind = behind-all table pool e };
              words = ap length words-filled ∙ length-words (salvaged_nodes ns) ∙ ap (λ (n : ℕ). WIDTH * n) (sym (done t).1);
              entries = ap length list-filled ∙ listed-long (drops ns) ∙ ap (λ (n : ℕ). ENTRY * n) (sym (done t).2);
              table_room = omega arith;
              list_room = omega arith;
              unchanged = λ z.
                  let all = none_dropped ns (length ns) (sym (done t).2 ∙ z) in
                  words-filled ∙ ap words (rows_stay ns all (λ r i. falls r i)) ∙ words-of-rows table pool (size table pool e).whole;
            }
          where
            falls : (r : ℕ) → r < length ns → ((node ns r).parent ≡ NONE) ⊎ ((node ns r).parent < r)
            falls r i = rw (node-nodes table pool r (rw length-nodes at i)) (behind-all table pool (done t).0 r (rw length-nodes at i))

        pub outcome-done :
            {out list : List ℕ} → out ≡ padded table_size (kept_words table fates (row_count table)) → list ≡ padded list_size (dropped_words fates (row_count table))
            → salvaged table pool table_size list_size ≡ record { answer = Ok (record { rows = rows; dropped = dropped }); table = out; list = list }
        outcome-done o l =
            salvage-fits table pool table_size list_size (done t).0 (sym is-short ∙ q)
            ∙ rw ((done t).1, (done t).2, o, l, words-filled, list-filled) refl
