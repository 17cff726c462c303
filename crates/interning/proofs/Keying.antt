-- Cleared entries in which the tables of the pool are made.
-- Assumes nothing.
use Prim.Native.Nat.{ℕ, ◌+◌, ◌-◌, ◌≤◌, ◌<◌}
use mathlib.Core.Path.{◌≡◌, sym, ap, subst, ◌∙◌}
use mathlib.Core.List.{List, ◌++◌}
use native.Mathlib.Omega.{arith}
use lib.ListN.{length, get_or, take, drop, length-append, length-drop, get_or-append}
use lib.Seq.{length-take-le, take_at, drop_at, get_or-take, get_or-drop}
use Rattle.chains.proofs.Laws.{chain-none}
use Rattle.tables.specs.Tables.{WORDS, Made, Tables}
use Rattle.table_filling.proofs.Filling.{behind-part}
use Rattle.entries.specs.Entries.{BUCKETS, LAST, TABLES, NAMES, WIDTH, LENGTH, KIND, last_number, tables_of, bucket_at, head_at, link_at, Entries}

module _ (e made : List ℕ) (room : NAMES + WIDTH ≤ length e) (zero : (i : ℕ) → get_or e i 0 ≡ 0) (size : length made ≡ length (take (NAMES - TABLES) (drop TABLES e))) where
  full : length made ≡ WORDS
  full = size ∙ length-take-le (NAMES - TABLES) (drop TABLES e) (rw length-drop (omega arith))

  abbrev rest : List ℕ
  rest = drop (NAMES - TABLES) (drop TABLES e)

  abbrev back : List ℕ
  back = take TABLES e ++ (made ++ rest)

  before : length (take TABLES e) ≡ TABLES
  before = length-take-le TABLES e (omega arith)

  tables-back : tables_of back ≡ made
  unfolding tables_of
  tables-back = ap (take WORDS) (drop_at (take TABLES e) (made ++ rest) TABLES before) ∙ take_at made rest WORDS full

  none_before : (i : ℕ) → i < TABLES → get_or back i 0 ≡ 0
  none_before i h = get_or-append (take TABLES e) (made ++ rest) 0 i (rw before h) ∙ get_or-take TABLES e i 0 h ∙ zero i

  none-behind : (i : ℕ) → NAMES ≤ i → get_or back i 0 ≡ 0
  none-behind i h =
      let j = i - NAMES in
      let s : i ≡ NAMES + (i - NAMES) = omega arith in
      ap (λ (k : ℕ). get_or back k 0) s ∙ sym (get_or-drop NAMES back j 0)
      ∙ ap (λ (l : List ℕ). get_or l j 0) (behind-part e made TABLES NAMES (omega arith) (omega arith) full) ∙ get_or-drop NAMES e j 0 ∙ zero (NAMES + j)

  pub keyed-entries : (pool : List ℕ) → Made made pool → Entries back pool × (last_number back ≡ 0)
  keyed-entries pool m =
      let last : last_number back ≡ 0 = none_before LAST (omega arith) in
      let long : NAMES + WIDTH ≤ length back = rw (length-append, before, length-append, full, length-drop, length-drop) (omega arith) in (
        record {
          room = omega arith;
          tables = subst (λ (t : List ℕ). Tables t pool) (sym tables-back) record { room = omega (arith, full); made = λ h. m };
          empty = none-behind (NAMES + LENGTH) (omega arith);
          kind = none-behind (NAMES + KIND) (omega arith);
          each = λ n l. absurd (omega arith);
          chained = rw last (chain-none BUCKETS (bucket_at back) (head_at back) (link_at back) (λ b h. none_before b (omega arith)));
        },
        last,
      )
