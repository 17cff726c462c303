-- The tables of the pool among the entries.
-- Assumes nothing.
use Prim.Native.Nat.{ℕ, ◌+◌, ◌-◌, ◌≤◌, ◌<◌}
use mathlib.Core.Path.{◌≡◌, refl, ap, ◌∙◌}
use mathlib.Core.List.{List}
use native.Mathlib.Omega.{arith}
use lib.ListN.{length, get_or, set, take, drop, length-take, length-drop}
use lib.Seq.{take-set-le, drop-set-lt, drop-set-add, get_or-take, get_or-drop}
use Rattle.rules.specs.Table.{part}
use Rattle.marks.specs.Marks.{between}
use Rattle.tables.specs.Tables.{MADE, WORDS, Tables}
use Rattle.entries.specs.Entries.{TABLES, NAMES, tables_of}

-- The bytes from an offset up to the end of a place are those of the place.
pub placed : (pool : List ℕ) (offset size : ℕ) → between pool offset (offset + size) ≡ part pool offset size
placed pool offset size = let s : offset + size - offset ≡ size = omega arith in ap (λ (n : ℕ). take n (drop offset pool)) s

-- Words before and behind the tables are none of them.
module _ (e : List ℕ) where
  pub tables-before : (i x : ℕ) → i < TABLES → tables_of (set e i x) ≡ tables_of e
  unfolding tables_of
  tables-before i x h = ap (take WORDS) (drop-set-lt TABLES e i x h)

  behind : (j x : ℕ) → WORDS ≤ j → tables_of (set e (TABLES + j) x) ≡ tables_of e
  unfolding tables_of
  behind j x h = ap (take WORDS) (drop-set-add TABLES e j x) ∙ take-set-le WORDS (drop TABLES e) j x h

  pub tables-behind : (i x : ℕ) → NAMES ≤ i → tables_of (set e i x) ≡ tables_of e
  tables-behind i x h =
      let s : i ≡ TABLES + (i - TABLES) = omega arith in
      ap (λ (k : ℕ). tables_of (set e k x)) s ∙ behind (i - TABLES) x (omega arith)

  -- The tables as they are lent.
  pub tables-lent : take (NAMES - TABLES) (drop TABLES e) ≡ tables_of e
  unfolding tables_of
  tables-lent = refl

  -- Zeros are tables that tell nothing.
  pub tables-none : (pool : List ℕ) → NAMES ≤ length e → ((i : ℕ) → get_or e i 0 ≡ 0) → Tables (tables_of e) pool
  unfolding tables_of
  tables-none pool room zero =
      let none : get_or (take WORDS (drop TABLES e)) MADE 0 ≡ 0 = get_or-take WORDS (drop TABLES e) MADE 0 (omega arith) ∙ get_or-drop TABLES e MADE 0 ∙ zero (TABLES + MADE) in
      record { room = simp (length-take, length-drop) (omega arith); made = λ h. absurd (omega arith) }
