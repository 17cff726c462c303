-- The rows that are packed, one after the other.
-- Assumes nothing.
use Prim.Native.Nat.{ℕ, zero, suc, ◌+◌, ◌-◌, ◌*◌, ◌≤◌, ◌<◌}
use mathlib.Core.Path.{◌≡◌, refl, sym, ◌∙◌, ap, subst}
use mathlib.Core.Bool.{Bool, true, false, ◌&&◌}
use mathlib.Core.List.{List, [], ◌∷◌, ◌++◌, map, append_assoc, append-nil}
use mathlib.Core.Option.{none}
use native.Mathlib.Omega.{arith}
use lib.ListN.{length, get_or, take, drop, length-append, length-drop, length-map}
use lib.Seq.{length-take-le, take_all, take_at, drop-cons}
use borrow.Author.Tests.{eqb-true}
use Rattle.rules.specs.Table as T
use Rattle.rules.specs.Table.{MOST_ROWS, MOST_BYTES, Field, Node, no_node, nodes, node_at, node, part, words, words_of, row_count}
use Rattle.rules.specs.Refusals.{fields_refusal, check_refusal}
use Rattle.rules.specs.Demands.{field_bytes}
use Rattle.rules.proofs.Lists.{true-not-false, length-empty}
use Rattle.rules.proofs.Table.{length-nodes, node-nodes, length-words}
use Rattle.rules.proofs.Accepted.{unrefused, FieldAccepted, FieldsAccepted, fields-accepted}
use Rattle.notes.specs.Notes.{NOTES}
use Rattle.tables.specs.Tables.{Tables}
use Rattle.entries.specs.Entries as E
use Rattle.entries.specs.Entries.{NAMES}
use Rattle.dictionary.specs.Dictionary.{PLACES, entries_of, Dictionary}
use Rattle.buffers.proofs.Rows.{words-of-rows}
use Rattle.packing.specs.Packing.{entered_all, entries, joined, packed_node, packed_form}
use Rattle.packing.proofs.Growing.{entries-behind, rows_behind, next-rows, fewer}
use Rattle.packed_index.specs.Index.{USED}
use Rattle.packed_index.proofs.Elsewhere.{index-none}
use Rattle.packed_pool.specs.Marking.{is_hard}
use Rattle.packed_pool.proofs.Marking.{inside-length}
use Rattle.packed_rows.specs.Rows.{Ready, State, Packs, row_fields, patches}
use Rattle.packed_rows.proofs.Packing as P
use Rattle.packed_table.specs.Packed.{Enough, Noted, Start, TablePacked}
use Rattle.packed_table.proofs.Patching.{Whole, row-patched}

-- The size of a table that the check accepts.
module _ (table pool : List ℕ) (a : check_refusal table pool ≡ none) where
  pub few-rows : row_count table ≤ MOST_ROWS
  few-rows = let bound = (unrefused table pool a).size.table_bound in omega arith

  pub few_bytes : length pool ≤ MOST_BYTES
  few_bytes = (unrefused table pool a).size.pool_bound

  pub whole-rows : T.WIDTH * row_count table ≡ length table
  whole-rows = let whole = (unrefused table pool a).size.whole in omega arith

  fields-right : (r : ℕ) → r < row_count table → fields_refusal (length pool) r (node_at table pool r) ≡ none
  fields-right r h =
      let i : r < length (nodes table pool) = rw (length-nodes table pool) h in
      subst (λ (n : Node). fields_refusal (length pool) r n ≡ none) (node-nodes table pool r h) ((unrefused table pool a).row r i).fields

words-behind : (ns : List Node) (n : Node) → words (ns ++ n ∷ []) ≡ words ns ++ words_of n
unfolding words
words-behind [] n = append-nil (words_of n)
words-behind (m ∷ ns) n = ap (λ (l : List ℕ). words_of m ++ l) (words-behind ns n) ∙ sym (append_assoc (words_of m) (words ns) (words_of n))

-- At row r: the names of the rows before it are entered and their offsets are set, and the other rows stand as they were.
pub record Going (table pool tables notes : List ℕ) (limit : ℕ) (spelling : ℕ → List ℕ) (last : ℕ) (rest index starts out_table out : List ℕ) (r : ℕ) : Type 0 where
  pub accepted : check_refusal table pool ≡ none
  pub records : NOTES * row_count table ≤ length notes
  pub hashes : Tables tables pool
  pub noted : Noted table pool notes spelling last
  pub limited : limit ≤ MOST_BYTES
  pub bound : r ≤ row_count table
  pub state : State tables pool spelling last limit (4 * (row_count table - r)) index starts out (entries (take r (nodes table pool)))
  pub rows : out_table ≡ words (packed_form (take r (nodes table pool))).rows ++ (words (drop r (nodes table pool)) ++ rest)

-- Before the first row no name is entered.
pub going_start :
    {table pool tables notes index starts out_table : List ℕ} (out : List ℕ) {limit : ℕ} {spelling : ℕ → List ℕ} {last : ℕ} {rest : List ℕ} → Start table pool tables notes index starts out_table limit spelling last rest
    → Going table pool tables notes limit spelling last rest index starts out_table out 0
unfolding entries entered_all packed_form joined words
going_start {table} {pool} {index = index} {starts = starts} out {last = last} {rest = rest} s =
    let e = s.enough in
    let a = e.accepted in
    let rows = few-rows table pool a in
    let zero = s.blank.unused 1024 in
    let room = e.entries in
    let given = e.numbers in
    let few = s.noted.few in
    record {
      accepted = a;
      records = e.records;
      hashes = s.hashes;
      noted = s.noted;
      limited = e.limited;
      bound = omega arith;
      state = record {
        right = index-none (omega arith) s.blank.unused;
        room = omega arith;
        few = omega arith;
        marks = λ n l h. let z = s.blank.unmarked n in absurd (omega arith);
        given = omega arith;
        stands = λ h. refl;
        short = omega arith;
      };
      rows = s.copied ∙ ap (λ (l : List ℕ). l ++ rest) (sym (words-of-rows table pool (unrefused table pool a).size.whole));
    }

module _ {table pool tables notes : List ℕ} {limit : ℕ} {spelling : ℕ → List ℕ} {last : ℕ} {rest index starts out_table out : List ℕ} {r : ℕ} (g : Going table pool tables notes limit spelling last rest index starts out_table out r) where
  front_length : length (words (packed_form (take r (nodes table pool))).rows) ≡ T.WIDTH * r
  unfolding packed_form
  front_length =
      let ns = nodes table pool in
      let bound = g.bound in
      length-words (map (packed_node (entries (take r ns))) (take r ns))
      ∙ ap (λ (k : ℕ). T.WIDTH * k) (length-map (take r ns) (packed_node (entries (take r ns))) ∙ length-take-le r ns (rw (length-nodes table pool) bound))

  -- No row is left.
  pub going_end : {hard : Bool} → row_count table ≤ r → TablePacked table pool out_table out limit hard true (get_or index USED 0)
  unfolding packed_form
  going_end h =
      let ns = nodes table pool in
      let bound = g.bound in
      let n : r ≡ row_count table = omega arith in
      let all : take r ns ≡ ns = take_all r ns (rw (length-nodes table pool) h) in
      let s = g.state in
      let used : get_or index USED 0 ≡ length (joined (entries ns)) = s.right.used ∙ ap (λ (l : List Node). length (joined (entries l))) all in
      let short = s.short in
      let size : length (words (packed_form (take r ns)).rows) ≡ length table = front_length ∙ ap (λ (k : ℕ). T.WIDTH * k) n ∙ whole-rows table pool g.accepted in
      record {
        size = λ t. used;
        short = λ t. rw s.right.used short;
        bytes = λ t i. ap (λ (k : ℕ). take k out) s.right.used ∙ s.stands (rw s.right.used at i) ∙ ap (λ (l : List Node). joined (entries l)) all;
        rows = λ t.
            ap (take (length table)) g.rows
            ∙ take_at (words (packed_form (take r ns)).rows) (words (drop r ns) ++ rest) (length table) size
            ∙ ap (λ (l : List Node). words (packed_form l).rows) all;
        past = λ f. absurd (true-not-false refl f);
      }

  module _ (h : r < row_count table) where
    here : r < length (nodes table pool)
    here = rw (length-nodes table pool) h

    own : drop r (nodes table pool) ≡ node_at table pool r ∷ drop (r + 1) (nodes table pool)
    unfolding node
    own =
        let next : suc r ≡ r + 1 = omega arith in
        drop-cons (nodes table pool) r no_node here ∙ ap (λ (k : ℕ). node (nodes table pool) r ∷ drop k (nodes table pool)) next ∙ ap (λ (n : Node). n ∷ drop (r + 1) (nodes table pool)) (node-nodes table pool r h)

    -- The row stands in the output table as it was.
    standing : out_table ≡ words (packed_form (take r (nodes table pool))).rows ++ (words_of (node_at table pool r) ++ (words (drop (r + 1) (nodes table pool)) ++ rest))
    unfolding words
    standing =
        g.rows
        ∙ ap (λ (l : List ℕ). words (packed_form (take r (nodes table pool))).rows ++ l)
        (ap (λ (ns : List Node). words ns ++ rest) own ∙ append_assoc (words_of (node_at table pool r)) (words (drop (r + 1) (nodes table pool))) rest)

    pub going-ready : Ready table pool tables notes out_table spelling last limit r
    going-ready =
        let size : length out_table ≡ T.WIDTH * r + (T.WIDTH + length (words (drop (r + 1) (nodes table pool)) ++ rest)) =
        ap length standing ∙ length-append (words (packed_form (take r (nodes table pool))).rows) (words_of (node_at table pool r) ++ (words (drop (r + 1) (nodes table pool)) ++ rest))
        ∙ rw (front_length, length-append (words_of (node_at table pool r)) (words (drop (r + 1) (nodes table pool)) ++ rest)) refl
        in
        record {
          row = h;
          small = few_bytes table pool g.accepted;
          fields = fields-right table pool g.accepted r h;
          records = g.records;
          hashes = g.hashes;
          spelled = g.noted.numbered.spelled;
          numbered = g.noted.numbered.rows r h;
          limited = g.limited;
          room = omega arith;
        }

    pub going-room : State tables pool spelling last limit 4 index starts out (entries (take r (nodes table pool)))
    going-room = P.fewer 4 (omega arith) g.state

    names : entries (take (r + 1) (nodes table pool)) ≡ entered_all (entries (take r (nodes table pool))) (field_bytes (node_at table pool r))
    names =
        ap entries (next-rows (nodes table pool) r here) ∙ entries-behind (take r (nodes table pool)) (node (nodes table pool) r)
        ∙ ap (λ (n : Node). entered_all (entries (take r (nodes table pool))) (field_bytes n)) (node-nodes table pool r h)

    whole-field : (f : Field) → FieldAccepted (length pool) f → f.bytes ≡ part pool f.offset f.size → Whole f
    whole-field f a read =
        let size : length f.bytes ≡ f.size = ap length read ∙ inside-length pool f.offset f.size a.in_pool in
        record { sized = sym size; bare = λ q. a.no_offset (let z = eqb-true (length f.bytes) 0 (sym (length-empty f.bytes) ∙ q) in omega arith) }

    -- The row fits.
    module _ {index' starts' out_table' out' : List ℕ} {easy : Bool}
        (p : (more : ℕ) → State tables pool spelling last limit (more + 4) index starts out (entries (take r (nodes table pool))) → Packs tables pool spelling last limit more index' starts' out' out_table out_table' easy true (entries (take r (nodes table pool))) (row_fields table pool r)) where
      packs : Packs tables pool spelling last limit (4 * (row_count table - (r + 1))) index' starts' out' out_table out_table' easy true (entries (take r (nodes table pool))) (row_fields table pool r)
      packs = p (4 * (row_count table - (r + 1))) (P.fewer (4 * (row_count table - (r + 1)) + 4) (omega arith) g.state)

      next-rows-words : out_table' ≡ words (packed_form (take (r + 1) (nodes table pool))).rows ++ (words (drop (r + 1) (nodes table pool)) ++ rest)
      next-rows-words =
          let ns = nodes table pool in
          let n = node_at table pool r in
          let front = words (packed_form (take r ns)).rows in
          let back = words (drop (r + 1) ns) ++ rest in
          let held = entered_all (entries (take r ns)) (field_bytes n) in
          let a = subst (λ (m : Node). FieldsAccepted (length pool) m) (node-nodes table pool r h) (fields-accepted ns (length pool) r ((unrefused table pool g.accepted).row r here)) in
          let rows : (packed_form (take (r + 1) ns)).rows ≡ (packed_form (take r ns)).rows ++ packed_node held n ∷ [] =
          ap (λ (l : List Node). (packed_form l).rows) (next-rows ns r here ∙ ap (λ (m : Node). take r ns ++ m ∷ []) (node-nodes table pool r h)) ∙ rows_behind (take r ns) n
          in
          packs.words refl
          ∙ ap (patches held (row_fields table pool r)) standing
          ∙ row-patched held n (whole-field n.prefix a.prefix refl) (whole-field n.local a.local refl) (whole-field n.uri a.uri refl) (whole-field n.value a.value refl) front back (T.WIDTH * r) front_length
          ∙ sym (append_assoc front (words_of (packed_node held n)) back)
          ∙ ap (λ (l : List ℕ). l ++ back) (sym (ap words rows ∙ words-behind (packed_form (take r ns)).rows (packed_node held n)))

      pub going_next : Going table pool tables notes limit spelling last rest index' starts' out_table' out' (r + 1)
      going_next =
          record {
            accepted = g.accepted;
            records = g.records;
            hashes = g.hashes;
            noted = g.noted;
            limited = g.limited;
            bound = omega arith;
            state = rw names (packs.state refl);
            rows = next-rows-words;
          }

    -- It does not.
    pub going-past :
        {index' starts' out_table' out' : List ℕ} {easy : Bool} → Packs tables pool spelling last limit 0 index' starts' out' out_table out_table' easy false (entries (take r (nodes table pool))) (row_fields table pool r)
        → TablePacked table pool out_table' out' limit (easy && is_hard index') false (get_or index' USED 0)
    unfolding packed_form
    going-past p =
        record {
          size = λ t. absurd (true-not-false t refl);
          short = λ t. absurd (true-not-false t refl);
          bytes = λ t. absurd (true-not-false t refl);
          rows = λ t. absurd (true-not-false t refl);
          past = λ f e. let over = p.past refl e in let all = fewer (nodes table pool) (r + 1) in let same = ap (λ (l : List (List ℕ)). length (joined l)) names in omega arith;
        }

-- The arrays stay enough as long as their lengths stay.
pub still-enough :
    {table pool notes index starts out_table index' starts' out_table' : List ℕ} {limit : ℕ} → length index' ≡ length index → length starts' ≡ length starts → length out_table' ≡ length out_table
    → Enough table pool notes index starts out_table limit → Enough table pool notes index' starts' out_table' limit
still-enough i s t e =
    record { accepted = e.accepted; records = e.records; entries = rw i e.entries; numbers = rw s e.numbers; rows = rw t e.rows; limited = e.limited }

-- What was made is told: the names were not found to be hard, and so many bytes are used.
pub told :
    {table pool out_table out : List ℕ} {limit used used' : ℕ} {hard fits : Bool} → hard ≡ false → used' ≡ used → TablePacked table pool out_table out limit hard fits used
    → TablePacked table pool out_table out limit false fits used'
told {table} {pool} {out_table} {out} {limit} {used} {used'} {hard} {fits} easy same m =
    subst (λ (k : ℕ). TablePacked table pool out_table out limit false fits k) (sym same)
    (record { size = m.size; short = m.short; bytes = m.bytes; rows = m.rows; past = λ f e. m.past f easy })

-- The words of a dictionary.
pub dictionary-room : {dictionary pool : List ℕ} → Dictionary dictionary pool → PLACES + NAMES + E.WIDTH ≤ length dictionary
unfolding entries_of
dictionary-room {dictionary} d =
    let room = d.entries.room in
    let long = length-drop PLACES dictionary in
    omega arith
