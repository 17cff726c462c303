-- Laws of specs/Marks.antt: well-formed bytes are cut in two well-formed parts exactly where a byte stands that starts a
-- sequence.
-- Assumes nothing.
use Prim.Native.Nat.{ℕ, zero, suc, ◌+◌, ◌*◌, ◌-◌, ◌≤◌, ◌<◌}
use mathlib.Core.Path.{◌≡◌, refl, sym, ◌∙◌, ap}
use mathlib.Core.Bool.{Bool, true, false, ◌&&◌, not}
use mathlib.Core.List.{List, [], ◌∷◌, ◌++◌}
use mathlib.Core.Option.{Option, none, some}
use native.Mathlib.Nat.{zero-add, suc-add}
use native.Mathlib.Omega.{arith}
use lib.Dec.{eqb, leb, ltb}
use lib.ListN.{length, get_or, set, take, drop, length-set}
use lib.Seq.{drop-cons, drop-drop, get_or-set_same, get_or-set_other}
use borrow.Author.Tests.{eqb-true, eqb-false, leb-true, ltb-true, ltb-false}
use Rattle.rules.specs.Lists.{all_of, first_that}
use Rattle.rules.specs.Utf8.{Range, Line, is_in, tail, lines, rest_of, following, after_byte, well_formed_after, well_formed}
use Rattle.rules.proofs.Lists.{by_cases, both_true, true-not-false}
use Rattle.rules.proofs.Utf8.{range-in, in-range, following-tail, none-malformed, byte-out, well-formed-append}
use Rattle.marks.specs.Marks.{BLOCKS, WORDS, between, Start, Mark, Marked}

-- Every range that is wanted lies in that of the bytes that only continue.
is_inner : Range → Bool
is_inner range = leb 0x80 range.0 && leb range.1 0xBF

inner : Option (List Range) → Bool
inner none = true
inner (some ranges) = all_of is_inner ranges

-- So it is behind every first byte,
inner-lines : (test : Line → Bool) (ls : List Line) → all_of (λ line. all_of is_inner line.rest) ls ≡ true → inner (rest_of (first_that test ls)) ≡ true
unfolding inner
inner-lines test [] e = refl
inner-lines test (l ∷ ls) e =
    let h = both_true (all_of is_inner l.rest) (all_of (λ line. all_of is_inner line.rest) ls) e in
    by_cases (test l) (λ q. rw q h.0) (λ q. rw q (inner-lines test ls h.1))

inner-following : (b : ℕ) → inner (following b) ≡ true
unfolding following is_inner
inner-following b = inner-lines (λ line. is_in line.first b) lines refl

-- and after every byte.
inner-after : (wanted : Option (List Range)) (b : ℕ) → inner wanted ≡ true → inner (after_byte wanted b) ≡ true
unfolding inner
inner-after none b e = refl
inner-after (some []) b e = inner-following b
inner-after (some (range ∷ ranges)) b e =
    let h = both_true (is_inner range) (all_of is_inner ranges) e in
    by_cases (is_in range b) (λ q. rw q h.1) (λ q. rw q refl)

-- What such a range holds only continues; what starts a sequence does not.
inner-tail : (range : Range) (b : ℕ) → is_inner range ≡ true → is_in range b ≡ true → is_in tail b ≡ true
unfolding is_inner
inner-tail (low, high) b e q =
    let h = both_true (leb 0x80 low) (leb high 0xBF) e in
    let l = leb-true 0x80 low h.0 in
    let m = leb-true high 0xBF h.1 in
    let i = range-in low high b q in
    in-range 0x80 0xBF b (omega arith) (omega arith)

-- The law: bytes before a byte that goes on well are well-formed exactly where that byte does not only continue.
cut-after : (wanted : Option (List Range)) (bs later : List ℕ) (x : ℕ) → inner wanted ≡ true → well_formed_after wanted (bs ++ (x ∷ later)) ≡ true → well_formed_after wanted bs ≡ not (is_in tail x)
unfolding inner
cut-after none [] later x i w = absurd (true-not-false w (none-malformed later))
cut-after (some []) [] later x i w =
    by_cases (is_in tail x)
    (λ q.
    let r = range-in 0x80 0xBF x q in
    absurd (true-not-false w (ap (λ (f : Option (List Range)). well_formed_after f later) (following-tail x r.0 (omega arith)) ∙ none-malformed later)))
    (λ q. rw q refl)
cut-after (some (range ∷ ranges)) [] later x i w =
    let h = both_true (is_inner range) (all_of is_inner ranges) i in
    by_cases (is_in range x)
    (λ q. rw (inner-tail range x h.0 q) refl)
    (λ q. absurd (true-not-false w (byte-out range ranges x later q)))
cut-after wanted (b ∷ bs) later x i w = cut-after (after_byte wanted b) bs later x (inner-after wanted b i) w

pub cut-law : (bs later : List ℕ) (x : ℕ) → well_formed (bs ++ (x ∷ later)) ≡ true → well_formed bs ≡ not (is_in tail x)
unfolding well_formed inner
cut-law bs later x w = cut-after (some []) bs later x refl w

-- Bytes in two parts.
take_none : (b : ℕ) → take {A = ℕ} b [] ≡ []
take_none zero = refl
take_none (suc b) = refl

pub take-sum : (a b : ℕ) (l : List ℕ) → take (a + b) l ≡ take a l ++ take b (drop a l)
take-sum zero b l = rw zero-add refl
take-sum (suc a) b [] = rw suc-add (sym (take_none b))
take-sum (suc a) b (x ∷ xs) = rw suc-add (ap (λ (r : List ℕ). x ∷ r) (take-sum a b xs))

module _ (pool : List ℕ) where
  pub between_split : (i m e : ℕ) → i ≤ m → m ≤ e → between pool i e ≡ between pool i m ++ between pool m e
  between_split i m e h l =
      let n : e - i ≡ (m - i) + (e - m) = omega arith in
      let k : i + (m - i) ≡ m = omega arith in
      ap (λ (j : ℕ). take j (drop i pool)) n ∙ take-sum (m - i) (e - m) (drop i pool)
      ∙ ap (λ (r : List ℕ). between pool i m ++ take (e - m) r) (drop-drop (m - i) i pool ∙ ap (λ (j : ℕ). drop j pool) k)

  pub between_first : (i e : ℕ) → i < e → e ≤ length pool → between pool i e ≡ get_or pool i 0 ∷ between pool (suc i) e
  between_first i e h l =
      let n : e - i ≡ suc (e - suc i) = omega arith in
      ap (λ (j : ℕ). take j (drop i pool)) n ∙ ap (take (suc (e - suc i))) (drop-cons pool i 0 (omega arith))

  -- A well-formed part decides nothing: what follows it does.
  pub joined : (i m e : ℕ) → i ≤ m → m ≤ e → well_formed (between pool i m) ≡ true → well_formed (between pool m e) ≡ well_formed (between pool i e)
  joined i m e h l w = sym (ap well_formed (between_split i m e h l) ∙ well-formed-append (between pool i m) (between pool m e) w)

  -- Well-formed bytes end well before each byte that starts a sequence, and before no other.
  pub ended : (i m e : ℕ) → i ≤ m → m < e → e ≤ length pool → well_formed (between pool i e) ≡ true → well_formed (between pool i m) ≡ not (is_in tail (get_or pool m 0))
  ended i m e h l k w =
      cut-law (between pool i m) (between pool (suc m) e) (get_or pool m 0)
      (sym (ap well_formed (between_split i m e h (omega arith) ∙ ap (λ (r : List ℕ). between pool i m ++ r) (between_first m e l k))) ∙ w)

  pub none_between : (i : ℕ) → well_formed (between pool i i) ≡ true
  unfolding well_formed
  none_between i = let n : i - i ≡ 0 = omega arith in rw n refl

  -- A part that is marked within.
  module _ (start first reach end : ℕ) (mark : Mark pool first reach) (h : start ≤ first) (l : first < end) (k : end ≤ length pool) where
    pub head-fails : well_formed (between pool start first) ≡ false → false ≡ well_formed (between pool start end)
    head-fails e =
        by_cases (well_formed (between pool start end))
        (λ q. absurd (true-not-false (ended start first end h l k q ∙ rw (mark.starts (omega arith)) refl) e))
        (λ q. sym q)

    module _ (e : well_formed (between pool start first) ≡ true) where
      pub rest-decides : reach ≤ end → well_formed (between pool reach end) ≡ well_formed (between pool start end)
      rest-decides r = joined first reach end mark.order r mark.formed ∙ joined start first end h (omega arith) e

      pub end-decides : end < reach → not (is_in tail (get_or pool end 0)) ≡ well_formed (between pool start end)
      end-decides r = sym (ended first end reach (omega arith) r mark.within mark.formed) ∙ joined start first end h (omega arith) e

  -- A mark before a mark.
  module _ (first start end : ℕ) (s : Start pool start first) (m : Mark pool start end) where
    first-starts : first < length pool → is_in tail (get_or pool first 0) ≡ false
    first-starts h =
        by_cases (ltb first start)
        (λ q. s.starts (ltb-true first start q))
        (λ q.
        let w = s.within in
        let g = ltb-false first start q in
        let e : start ≡ first = omega arith in
        ap (λ (i : ℕ). is_in tail (get_or pool i 0)) (sym e) ∙ m.starts (omega arith))

    pub mark-joined : well_formed (between pool first start) ≡ true → Mark pool first end
    mark-joined e =
        let w = s.within in
        let o = m.order in
        record {
          order = omega arith;
          within = m.within;
          starts = first-starts;
          formed = sym (joined first start end w o e) ∙ m.formed;
        }

    pub mark-anew : Mark pool first first
    mark-anew =
        let w = s.within in
        let o = m.order in
        let i = m.within in
        record { order = omega arith; within = omega arith; starts = first-starts; formed = none_between first }

  pub mark-end : Mark pool (length pool) (length pool)
  mark-end =
      record { order = omega arith; within = omega arith; starts = λ h. absurd (omega arith); formed = none_between (length pool) }

-- Marks are written from the last to the first.
abbrev pub MarkedFrom : List ℕ → List ℕ → ℕ → Type 0
MarkedFrom pool marks n = (k : ℕ) → n ≤ k → k < BLOCKS → Mark pool (get_or marks (2 * k) 0) (get_or marks (2 * k + 1) 0)

module _ (pool marks : List ℕ) (room : WORDS ≤ length marks) where
  pub marked_next : (n start end : ℕ) → n < BLOCKS → MarkedFrom pool marks (n + 1) → Mark pool start end → MarkedFrom pool (set (set marks (2 * n) start) (2 * n + 1) end) n
  marked_next n start end h later m k l t =
      by_cases (eqb k n)
      (λ q.
      let e = eqb-true k n q in
      let a : get_or (set (set marks (2 * n) start) (2 * n + 1) end) (2 * n) 0 ≡ start =
      get_or-set_other (set marks (2 * n) start) (2 * n + 1) (2 * n) end 0 (λ x. omega arith) ∙ get_or-set_same marks (2 * n) start 0 (omega arith) in
      let b : get_or (set (set marks (2 * n) start) (2 * n + 1) end) (2 * n + 1) 0 ≡ end =
      get_or-set_same (set marks (2 * n) start) (2 * n + 1) end 0 (rw length-set (omega arith)) in
      rw (e, a, b) m)
      (λ q.
      let d = eqb-false k n q in
      let a : get_or (set (set marks (2 * n) start) (2 * n + 1) end) (2 * k) 0 ≡ get_or marks (2 * k) 0 =
      get_or-set_other (set marks (2 * n) start) (2 * n + 1) (2 * k) end 0 (λ x. omega arith) ∙ get_or-set_other marks (2 * n) (2 * k) start 0 (λ x. omega arith) in
      let b : get_or (set (set marks (2 * n) start) (2 * n + 1) end) (2 * k + 1) 0 ≡ get_or marks (2 * k + 1) 0 =
      get_or-set_other (set marks (2 * n) start) (2 * n + 1) (2 * k + 1) end 0 (λ x. omega arith) ∙ get_or-set_other marks (2 * n) (2 * k + 1) start 0 (λ x. omega arith) in
      rw (a, b) (later k (omega arith) t))

-- A mark that was read.
pub marked-at :
    (pool marks : List ℕ) (k first reach : ℕ) → Marked pool marks → k < BLOCKS → first ≡ get_or marks (2 * k) 0 → reach ≡ get_or marks (2 * k + 1) 0 → 0 < first
    → Mark pool first reach
marked-at pool marks k first reach m h e f z = rw (e, f) (m k h (rw (← e) z))
