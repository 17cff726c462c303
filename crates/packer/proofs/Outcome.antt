-- What packing answers and leaves: each refusal, and the result.
-- Assumes nothing.
use Rattle.std.specs.Prelude.{Result, Ok, Err, ⊤}
use Prim.Native.Nat.{ℕ, ◌+◌, ◌*◌, ◌/◌, ◌≤◌, ◌<◌}
use mathlib.Core.Path.{◌≡◌, refl, sym, ◌∙◌, ap}
use mathlib.Core.Bool.{Bool, true, false, ◌||◌}
use mathlib.Core.List.{List}
use mathlib.Core.Option.{none, some}
use native.Mathlib.Omega.{arith}
use borrow.Author.Tests.{ltb-true, ltb-false, lt-ltb, le-ltb}
use lib.Dec.{ltb}
use lib.ListN.{length, get_or, take, replicate, length-map, length-replicate, get_or-replicate, get_or-eq_default}
use Rattle.rules.specs.Table.{WIDTH, MOST_ROWS, MOST_BYTES, row_count, nodes, words}
use Rattle.rules.specs.Refusals.{check_refusal, checked}
use Rattle.rules.specs.Outputs.{Outcome, refusal}
use Rattle.rules.specs.Normalization.{success, too_many_rows, too_many_bytes, room_refusal}
use Rattle.rules.specs.declared.Refusal.{Refusal}
use Rattle.rules.proofs.Lists.{by_cases, either_left, either-right}
use Rattle.rules.proofs.Refusals.{verdict-accepted, verdict-refused}
use Rattle.rules.proofs.Table.{length-nodes}
use Rattle.notes.specs.Notes.{NOTES}
use Rattle.dictionary.specs.Dictionary.{last_of, spelling}
use Rattle.row_checks.specs.Arrays.{dictionary_words, Named}
use Rattle.buffers.specs.Writes.{cleared}
use Rattle.buffers.proofs.Meaning.{padded-part}
use Rattle.packing.specs.Packing.{entries, packed_node, packed_form, packing_refusal, packed}
use Rattle.packed_index.specs.Index as I
use Rattle.packed_index.specs.Index.{ENTRIES}
use Rattle.packed_table.specs.Packed.{Enough, Noted, TablePacked}
use Rattle.packed_table.proofs.Going.{few-rows, whole-rows}
use Rattle.packer.specs.Lent.{Lent, Limit}
use Rattle.rules.specs.declared.Filled.{Filled}

-- Zeros, also behind the end.
zeros : (size i : ℕ) → get_or (replicate {A = ℕ} size 0) i 0 ≡ 0
zeros size i =
    by_cases (ltb i size)
    (λ q. get_or-replicate {A = ℕ} size i 0 0 (ltb-true i size q))
    (λ q. let long = ltb-false i size q in get_or-eq_default (replicate {A = ℕ} size 0) 0 (rw length-replicate long))

pub drawn-refused : (table pool : List ℕ) {drawn : Result ⊤ Refusal} → drawn ≡ checked table pool → (x : Refusal) → drawn ≡ Err x → check_refusal table pool ≡ some x
unfolding checked
drawn-refused table pool d x e = verdict-refused (check_refusal table pool) x (sym d ∙ e)

pub drawn-accepted : (table pool : List ℕ) {drawn : Result ⊤ Refusal} → drawn ≡ checked table pool → drawn ≡ Ok tt → check_refusal table pool ≡ none
unfolding checked
drawn-accepted table pool d e = verdict-accepted (check_refusal table pool) (sym d ∙ e)

module _ (table pool : List ℕ) (table_size pool_size : ℕ) where
  pub packed-refused : (x : Refusal) → check_refusal table pool ≡ some x → packed table pool table_size pool_size ≡ refusal table_size pool_size x
  unfolding packed packing_refusal
  packed-refused x e = rw e refl

  module _ (a : check_refusal table pool ≡ none) where
    row-count : length (packed_form (nodes table pool)).rows ≡ row_count table
    unfolding packed_form
    row-count = length-map (nodes table pool) (packed_node (entries (nodes table pool))) ∙ length-nodes table pool

    pub packed-no-rows : table_size / WIDTH < row_count table → packed table pool table_size pool_size ≡ refusal table_size pool_size Refusal.RowRoom
    unfolding packed packing_refusal room_refusal too_many_rows
    packed-no-rows h =
        let many : (ltb MOST_ROWS (length (packed_form (nodes table pool)).rows) || ltb (table_size / WIDTH) (length (packed_form (nodes table pool)).rows)) ≡ true =
        either-right (ltb MOST_ROWS (length (packed_form (nodes table pool)).rows)) (rw row-count (lt-ltb (table_size / WIDTH) (row_count table) h))
        in
        rw (a, many) refl

    module _ (few : row_count table ≤ MOST_ROWS) (room : row_count table ≤ table_size / WIDTH) where
      row_room : too_many_rows table_size (packed_form (nodes table pool)) ≡ false
      unfolding too_many_rows
      row_room = rw (row-count, le-ltb MOST_ROWS (row_count table) few, le-ltb (table_size / WIDTH) (row_count table) room) refl

      pub packed-no-bytes : {limit : ℕ} → Limit pool_size limit → limit < length (packed_form (nodes table pool)).pool → packed table pool table_size pool_size ≡ refusal table_size pool_size Refusal.PoolRoom
      unfolding packed packing_refusal room_refusal too_many_bytes
      packed-no-bytes {limit} l h =
          let size = length (packed_form (nodes table pool)).pool in
          let many : (ltb MOST_BYTES size || ltb pool_size size) ≡ true =
          by_cases (ltb limit pool_size)
          (λ q.
          let less = ltb-true limit pool_size q in
          let is = l.least (λ i. omega arith) in
          either_left (ltb pool_size size) (lt-ltb MOST_BYTES size (omega arith)))
          (λ q.
          let more = ltb-false limit pool_size q in
          either-right (ltb MOST_BYTES size) (lt-ltb pool_size size (omega arith)))
          in
          rw (a, row_room, many) refl

      pub packed-done : length (packed_form (nodes table pool)).pool ≤ pool_size → length (packed_form (nodes table pool)).pool ≤ MOST_BYTES → packed table pool table_size pool_size ≡ success table_size pool_size (packed_form (nodes table pool))
      unfolding packed packing_refusal room_refusal too_many_bytes
      packed-done p m =
          let size = length (packed_form (nodes table pool)).pool in
          rw (a, row_room, le-ltb MOST_BYTES size m, le-ltb pool_size size p) refl

-- What is answered and left.
pub record Answers (o : Outcome) (answer : Result Filled Refusal) (table pool : List ℕ) : Type 0 where
  pub said : answer ≡ o.answer
  pub rows : table ≡ o.table
  pub bytes : pool ≡ o.pool

-- The result in the outputs.
pub packed-answers :
    (table pool out_table out_pool : List ℕ) → check_refusal table pool ≡ none → row_count table ≤ MOST_ROWS → row_count table ≤ length out_table / WIDTH → {limit used rows : ℕ} {out_table' out_pool' : List ℕ}
    → Limit (length out_pool) limit → rows ≡ row_count table → {fits : Bool} → TablePacked table pool out_table' out_pool' limit false fits used → fits ≡ true → length out_table' ≡ length out_table → length out_pool' ≡ length out_pool
    → {t p : List ℕ} → t ≡ cleared out_table' (WIDTH * rows) → p ≡ cleared out_pool' used → Answers (packed table pool (length out_table) (length out_pool)) (Ok (record { rows = rows; bytes = used })) t p
unfolding success
packed-answers table pool out_table out_pool a few room {limit} {used} {rows} {out_table'} {out_pool'} l n packs fits long kept ct cp =
    let form = packed_form (nodes table pool) in
    let size = packs.size fits in
    let short = packs.short fits in
    let most = l.most in
    let within = l.room in
    let is = packed-done table pool (length out_table) (length out_pool) a few room (omega arith) (omega arith) in
    let count = row-count table pool (length out_table) (length out_pool) a in
    let front : take used out_pool' ≡ form.pool = packs.bytes fits (omega arith) in
    let same : WIDTH * rows ≡ length table = ap (λ (k : ℕ). WIDTH * k) n ∙ whole-rows table pool a in
    let words-in : take (WIDTH * rows) out_table' ≡ words form.rows = ap (λ (k : ℕ). take k out_table') same ∙ packs.rows fits in
    rw is
    (record {
      said = rw (n, size, sym count) refl;
      rows = ct ∙ padded-part out_table' (WIDTH * rows) (omega arith) ∙ rw (long, words-in) refl;
      bytes = cp ∙ padded-part out_pool' used (omega arith) ∙ rw (kept, front) refl;
    })

-- A refusal in the outputs.
pub refuse-answers :
    {o : Outcome} {table_size pool_size table_size' pool_size' : ℕ} (x : Refusal) {answer : Result Filled Refusal} {t p : List ℕ} → o ≡ refusal table_size pool_size x → table_size' ≡ table_size → pool_size' ≡ pool_size
    → answer ≡ (refusal table_size' pool_size' x).answer → t ≡ (refusal table_size' pool_size' x).table → p ≡ (refusal table_size' pool_size' x).pool → Answers o answer t p
refuse-answers x e l m a b c = rw e (record { said = rw (l, m) at a; rows = rw (l, m) at b; bytes = rw (l, m) at c })

pub checked-answers :
    (table pool : List ℕ) (table_size pool_size : ℕ) {drawn : Result ⊤ Refusal} → drawn ≡ checked table pool → (x : Refusal) → drawn ≡ Err x → {answer : Result Filled Refusal} {t p : List ℕ}
    → answer ≡ (refusal table_size pool_size x).answer → t ≡ (refusal table_size pool_size x).table → p ≡ (refusal table_size pool_size x).pool → Answers (packed table pool table_size pool_size) answer t p
checked-answers table pool table_size pool_size d x e a b c =
    refuse-answers x (packed-refused table pool table_size pool_size x (drawn-refused table pool d x e)) refl refl a b c

-- The arrays that are lent are enough for a table that the check accepts.
pub lent-enough :
    {table pool dictionary notes index starts notes' out_table : List ℕ} {limit : ℕ} → Lent table dictionary notes index starts → check_refusal table pool ≡ none → length notes' ≡ length notes → length table ≤ length out_table → limit ≤ MOST_BYTES
    → Enough table pool notes' index starts out_table limit
lent-enough {table} {pool} l a n t m =
    let few = few-rows table pool a in
    record { accepted = a; records = rw n (l.numbering.records few); entries = l.entries few; numbers = l.numbers few; rows = t; limited = m }

-- What the check noted is what packing asks for.
pub named-noted : {table pool dictionary notes : List ℕ} → Named table pool dictionary notes → Noted table pool notes (spelling dictionary pool) (last_of dictionary)
named-noted n = record { few = n.few; numbered = n.numbered }

-- Zeros for so many rows are enough where a table of a size that is not refused has no more.
pub zeros-lent :
    (table : List ℕ) (most : ℕ) → (row_count table ≤ MOST_ROWS → row_count table ≤ most)
    → Lent table (replicate (dictionary_words most) 0) (replicate (NOTES * most) 0) (replicate (ENTRIES + I.WIDTH * (4 * most + 1)) 0) (replicate (3 * most + 1) 0)
zeros-lent table most few =
    let words = length-replicate {A = ℕ} (dictionary_words most) 0 in
    let records = length-replicate {A = ℕ} (NOTES * most) 0 in
    let names = length-replicate {A = ℕ} (ENTRIES + I.WIDTH * (4 * most + 1)) 0 in
    let numbers = length-replicate {A = ℕ} (3 * most + 1) 0 in
    record {
      numbering = record {
        cleared = sym (ap (λ (size : ℕ). replicate size 0) words);
        words = λ h. rw words (omega (arith, few h));
        records = λ h. rw records (omega (arith, few h));
      };
      blank = record { unused = zeros (ENTRIES + I.WIDTH * (4 * most + 1)); unmarked = zeros (3 * most + 1) };
      entries = λ h. rw names (omega (arith, few h));
      numbers = λ h. rw numbers (omega (arith, few h));
    }
