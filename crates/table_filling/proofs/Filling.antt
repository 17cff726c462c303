-- The parts of tables are filled from the last to the first.
-- Assumes nothing.
use Prim.Native.Nat.{ℕ, ◌+◌, ◌*◌, ◌-◌, ◌/◌, ◌%◌, ◌≤◌, ◌<◌}
use mathlib.Core.Path.{◌≡◌, sym, ap, subst, ◌∙◌}
use mathlib.Core.Bool.{Bool, true, false}
use mathlib.Core.List.{List, ◌++◌}
use native.Mathlib.Omega.{arith}
use lib.ListN.{length, get_or, set, take, drop, length-drop, length-set, get_or-append}
use lib.Seq.{drop_at, drop-drop, length-take-le, drop-set-lt, get_or-set_same, get_or-set_other}
use Rattle.marks.specs.Marks.{MOST, Marked}
use Rattle.ends.specs.Ends.{Ended}
use Rattle.sum_tables.specs.SumTables.{number_at, Filled}
use Rattle.tables.specs.Tables.{MADE, ONE, TWO, SUMS, PLAIN, COLONS, MARKS, WORDS, Made, begun}

-- A part from a up to b was lent, and came back.
module _ (t e : List ℕ) (a b : ℕ) (h : a ≤ b) (room : b ≤ length t) (size : length e ≡ b - a) where
  abbrev pub back : List ℕ
  back = take a t ++ (e ++ drop (b - a) (drop a t))

  pub from-part : drop a back ≡ e ++ drop (b - a) (drop a t)
  from-part = drop_at (take a t) (e ++ drop (b - a) (drop a t)) a (length-take-le a t (omega arith))

  pub behind-part : drop b back ≡ drop b t
  behind-part =
      let n : a + (b - a) ≡ b = omega arith in
      ap (λ (j : ℕ). drop j back) (sym n) ∙ sym (drop-drop (b - a) a back) ∙ ap (drop (b - a)) from-part
      ∙ drop_at e (drop (b - a) (drop a t)) (b - a) size ∙ drop-drop (b - a) a t ∙ ap (λ (j : ℕ). drop j t) n

-- What a part tells, it tells with more behind it.
module _ (pool e rest : List ℕ) where
  pub marked-with : length e ≡ 516 → Marked pool e → Marked pool (e ++ rest)
  marked-with s m k h = rw (get_or-append e rest 0 (2 * k) (omega arith), get_or-append e rest 0 (2 * k + 1) (omega arith)) (m k h)

  pub ended-with : (colons : Bool) → length e ≡ 130 → Ended colons pool e → Ended colons pool (e ++ rest)
  ended-with colons s m k h = rw (get_or-append e rest 0 k (omega arith)) (m k h)

  word-with : (i : ℕ) → i + 1 < length e → number_at (e ++ rest) i ≡ number_at e i
  word-with i h = rw (get_or-append e rest 0 i (omega arith), get_or-append e rest 0 (i + 1) h)

  pub filled-with : (one two : ℕ) → length pool ≤ MOST → length e ≡ 2052 → Filled pool one two e → Filled pool one two (e ++ rest)
  filled-with one two most s f k h =
      let row = f k h in
      record {
        sum1 = word-with (4 * k) (omega arith) ∙ row.sum1;
        sum2 = word-with (4 * k + 2) (omega arith) ∙ row.sum2;
      }

part-size : (t : List ℕ) (a b : ℕ) → a ≤ b → b ≤ length t → length (take (b - a) (drop a t)) ≡ b - a
part-size t a b h room = length-take-le (b - a) (drop a t) (rw length-drop (omega arith))

-- A part that was filled.
module _ (t e : List ℕ) (a b : ℕ) (h : a ≤ b) (room : b ≤ length t) (size : length e ≡ length (take (b - a) (drop a t))) where
  full : length e ≡ b - a
  full = size ∙ part-size t a b h room

  pub kept-behind : drop b (take a t ++ (e ++ drop (b - a) (drop a t))) ≡ drop b t
  kept-behind = behind-part t e a b h room full

  pub marks-there : (pool : List ℕ) → b - a ≡ 516 → Marked pool e → Marked pool (drop a (take a t ++ (e ++ drop (b - a) (drop a t))))
  marks-there pool n m = subst (Marked pool) (sym (from-part t e a b h room full)) (marked-with pool e (drop (b - a) (drop a t)) (full ∙ n) m)

  pub ends_there : (colons : Bool) (pool : List ℕ) → b - a ≡ 130 → Ended colons pool e → Ended colons pool (drop a (take a t ++ (e ++ drop (b - a) (drop a t))))
  ends_there colons pool n m = subst (Ended colons pool) (sym (from-part t e a b h room full)) (ended-with pool e (drop (b - a) (drop a t)) colons (full ∙ n) m)

  pub sums-there : (pool : List ℕ) (one two : ℕ) → length pool ≤ MOST → b - a ≡ 2052 → Filled pool one two e → Filled pool one two (drop a (take a t ++ (e ++ drop (b - a) (drop a t))))
  sums-there pool one two most n m = subst (Filled pool one two) (sym (from-part t e a b h room full)) (filled-with pool e (drop (b - a) (drop a t)) one two most (full ∙ n) m)

-- Lists that are the same from a on are the same from a later place on.
later : (a n : ℕ) (x y : List ℕ) → drop a x ≡ drop a y → drop (a + n) x ≡ drop (a + n) y
later a n x y e = sym (drop-drop n a x) ∙ ap (drop n) e ∙ drop-drop n a y

-- The first words.
module _ (t : List ℕ) (one two : ℕ) (room : WORDS ≤ length t) where
  pub rest-begun : drop SUMS (begun t one two) ≡ drop SUMS t
  unfolding begun
  rest-begun =
      let t1 = set t MADE 1 in
      let t2 = set t1 ONE (one % 65536) in
      let t3 = set t2 (ONE + 1) (one / 65536) in
      let t4 = set t3 TWO (two % 65536) in
      drop-set-lt SUMS t4 (TWO + 1) (two / 65536) (omega arith)
      ∙ drop-set-lt SUMS t3 TWO (two % 65536) (omega arith)
      ∙ drop-set-lt SUMS t2 (ONE + 1) (one / 65536) (omega arith)
      ∙ drop-set-lt SUMS t1 ONE (one % 65536) (omega arith)
      ∙ drop-set-lt SUMS t MADE 1 (omega arith)

  pub made-begun : get_or (begun t one two) MADE 0 ≡ 1
  unfolding begun
  made-begun =
      let t1 = set t MADE 1 in
      let t2 = set t1 ONE (one % 65536) in
      let t3 = set t2 (ONE + 1) (one / 65536) in
      let t4 = set t3 TWO (two % 65536) in
      get_or-set_other t4 (TWO + 1) MADE (two / 65536) 0 (λ x. omega arith)
      ∙ get_or-set_other t3 TWO MADE (two % 65536) 0 (λ x. omega arith)
      ∙ get_or-set_other t2 (ONE + 1) MADE (one / 65536) 0 (λ x. omega arith)
      ∙ get_or-set_other t1 ONE MADE (one % 65536) 0 (λ x. omega arith)
      ∙ get_or-set_same t MADE 1 0 (omega arith)

  pub one-begun : number_at (begun t one two) ONE ≡ one
  unfolding begun
  one-begun =
      let t1 = set t MADE 1 in
      let t2 = set t1 ONE (one % 65536) in
      let t3 = set t2 (ONE + 1) (one / 65536) in
      let t4 = set t3 TWO (two % 65536) in
      let t5 = set t4 (TWO + 1) (two / 65536) in
      let low : get_or t5 ONE 0 ≡ one % 65536 =
      get_or-set_other t4 (TWO + 1) ONE (two / 65536) 0 (λ x. omega arith) ∙ get_or-set_other t3 TWO ONE (two % 65536) 0 (λ x. omega arith)
      ∙ get_or-set_other t2 (ONE + 1) ONE (one / 65536) 0 (λ x. omega arith) ∙ get_or-set_same t1 ONE (one % 65536) 0 (rw length-set (omega arith)) in
      let high : get_or t5 (ONE + 1) 0 ≡ one / 65536 =
      get_or-set_other t4 (TWO + 1) (ONE + 1) (two / 65536) 0 (λ x. omega arith) ∙ get_or-set_other t3 TWO (ONE + 1) (two % 65536) 0 (λ x. omega arith)
      ∙ get_or-set_same t2 (ONE + 1) (one / 65536) 0 (simp length-set (omega arith)) in
      rw (low, high) (omega arith)

  pub two-begun : number_at (begun t one two) TWO ≡ two
  unfolding begun
  two-begun =
      let t1 = set t MADE 1 in
      let t2 = set t1 ONE (one % 65536) in
      let t3 = set t2 (ONE + 1) (one / 65536) in
      let t4 = set t3 TWO (two % 65536) in
      let t5 = set t4 (TWO + 1) (two / 65536) in
      let low : get_or t5 TWO 0 ≡ two % 65536 =
      get_or-set_other t4 (TWO + 1) TWO (two / 65536) 0 (λ x. omega arith) ∙ get_or-set_same t3 TWO (two % 65536) 0 (simp length-set (omega arith)) in
      let high : get_or t5 (TWO + 1) 0 ≡ two / 65536 = get_or-set_same t4 (TWO + 1) (two / 65536) 0 (simp length-set (omega arith)) in
      rw (low, high) (omega arith)

-- All is made, one part after the other.
pub all_made :
    (pool m1 m2 m3 m4 : List ℕ) (one two : ℕ) → WORDS ≤ length m4 → Marked pool (drop MARKS m1)
    → Ended true pool (drop COLONS m2) → drop MARKS m2 ≡ drop MARKS m1
    → Ended false pool (drop PLAIN m3) → drop COLONS m3 ≡ drop COLONS m2
    → Filled pool one two (drop SUMS m4) → drop PLAIN m4 ≡ drop PLAIN m3
    → Made (begun m4 one two) pool
all_made pool m1 m2 m3 m4 one two room marks colons e2 plain e3 sums e4 =
    let m5 = begun m4 one two in
    let e5 = rest-begun m4 one two room in
    let p5 : drop PLAIN m5 ≡ drop PLAIN m3 = later SUMS 2052 m5 m4 e5 ∙ e4 in
    let c5 : drop COLONS m5 ≡ drop COLONS m2 = later PLAIN 130 m5 m3 p5 ∙ e3 in
    let k5 : drop MARKS m5 ≡ drop MARKS m1 = later COLONS 130 m5 m2 c5 ∙ e2 in
    record {
      sums = rw (one-begun m4 one two room, two-begun m4 one two room, e5) sums;
      plain = subst (Ended false pool) (sym p5) plain;
      colons = subst (Ended true pool) (sym c5) colons;
      marks = subst (Marked pool) (sym k5) marks;
    }
