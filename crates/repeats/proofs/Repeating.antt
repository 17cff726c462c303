-- What is the same in a stretch that repeats itself, and how it grows.
-- Assumes nothing.
use Prim.Native.Nat.{ℕ, zero, suc, ◌+◌, ◌-◌, ◌*◌, ◌/◌, ◌%◌, ◌≤◌, ◌<◌}
use mathlib.Core.Path.{◌≡◌, refl, sym, ap, ◌∙◌}
use mathlib.Core.Bool.{true, ◌&&◌}
use mathlib.Core.List.{List}
use native.Mathlib.Nat.{div-add-mod', zero-mul, suc-mul}
use native.Mathlib.Omega.{arith}
use borrow.Author.Tests.{ltb-true, ltb-false, leb-true}
use lib.Dec.{ltb, leb}
use Rattle.std.proofs.lemmas.List.{take_rest}
use lib.ListN.{length, get_or, set, take, drop, length-drop}
use lib.Seq.{length-take-le, set-get_or, get_or-take, get_or-drop, ext_get_or}
use Rattle.rules.specs.Lists.{same_bytes}
use Rattle.rules.specs.Table.{part}
use Rattle.rules.proofs.Lists.{by_cases, both_true, same_bytes-equal}
use Rattle.packed_index.specs.Index.{START, SIZE, STEP, Repeats, stretched}
use Rattle.repeats.specs.Stretch.{Holds, First, Learned}

-- A byte of a part is one of the pool.
part-byte : (pool : List ℕ) (offset size i : ℕ) → i < size → get_or (part pool offset size) i 0 ≡ get_or pool (offset + i) 0
part-byte pool offset size i h = get_or-take size (drop offset pool) i 0 h ∙ get_or-drop offset pool i 0

part_length : (pool : List ℕ) (offset size : ℕ) → offset + size ≤ length pool → length (part pool offset size) ≡ size
part_length pool offset size h = length-take-le size (drop offset pool) (rw length-drop (omega arith))

-- Parts with the same bytes are the same.
same_parts : (pool : List ℕ) (a b size : ℕ) → a + size ≤ length pool → b + size ≤ length pool → ((i : ℕ) → i < size → get_or pool (a + i) 0 ≡ get_or pool (b + i) 0) → part pool a size ≡ part pool b size
same_parts pool a b size h k same =
    let l = part_length pool a size h in
    ext_get_or 0 (part pool a size) (part pool b size) (l ∙ sym (part_length pool b size k))
    (λ i j. part-byte pool a size i (omega arith) ∙ same i (omega arith) ∙ sym (part-byte pool b size i (omega arith)))

-- What is found to be the same repeats itself.
pub same-repeats : (pool : List ℕ) (start size step : ℕ) → same_bytes (take (start + size - start) (drop start pool)) (take (start + step + size - (start + step)) (drop (start + step) pool)) ≡ true → Repeats pool start size step
same-repeats pool start size step same i h =
    let a : start + size - start ≡ size = omega arith in
    let b : start + step + size - (start + step) ≡ size = omega arith in
    let equal : part pool start size ≡ part pool (start + step) size = same_bytes-equal (part pool start size) (part pool (start + step) size) (rw (a, b) at same) in
    sym (part-byte pool start size i h) ∙ ap (λ (l : List ℕ). get_or l i 0) equal ∙ part-byte pool (start + step) size i h

-- A byte of what is left behind a place.
behind : (pool : List ℕ) (at i : ℕ) → get_or (take (length pool - at) (drop at pool)) i 0 ≡ get_or pool (at + i) 0
behind pool at i = rw take_rest (get_or-drop at pool i 0)

module _ (pool : List ℕ) (start size step : ℕ) (r : Repeats pool start size step) where
  -- A byte of it stands once more, a step further on.
  again : (x : ℕ) → start ≤ x → x < start + size → get_or pool x 0 ≡ get_or pool (x + step) 0
  again x low high =
      let a : x ≡ start + (x - start) = omega arith in
      let b : start + step + (x - start) ≡ x + step = omega arith in
      ap (λ (k : ℕ). get_or pool k 0) a ∙ r (x - start) (omega arith) ∙ ap (λ (k : ℕ). get_or pool k 0) b

  -- So it does any number of steps further on.
  steps : (q x : ℕ) → start ≤ x → x + q * step < start + step + size → get_or pool x 0 ≡ get_or pool (x + q * step) 0
  steps zero x low high = let z : x ≡ x + 0 * step = (let n = zero-mul step in omega arith) in ap (λ (k : ℕ). get_or pool k 0) z
  steps (suc q) x low high =
      let n : suc q * step ≡ q * step + step = suc-mul q step in
      let more : x + q * step + step ≡ x + suc q * step = omega arith in
      steps q x low (omega arith) ∙ again (x + q * step) (omega arith) (omega arith) ∙ ap (λ (k : ℕ). get_or pool k 0) more

  -- The first place of a stretch with the same bytes.
  pub first-same : (offset length' : ℕ) → start ≤ offset → offset + length' ≤ start + step + size → offset + length' ≤ length pool → part pool (start + (offset - start) % step) length' ≡ part pool offset length'
  first-same offset length' low high inside =
      let q = (offset - start) / step in
      let c = start + (offset - start) % step in
      let whole : (offset - start) / step * step + (offset - start) % step ≡ offset - start = div-add-mod' (offset - start) step in
      let to : c + q * step ≡ offset = omega arith in
      same_parts pool c offset length' (omega arith) inside
      (λ i h.
      let at : c + i + q * step ≡ offset + i = omega arith in
      steps q (c + i) (omega arith) (omega arith) ∙ ap (λ (k : ℕ). get_or pool k 0) at)

  -- It grows by what the parts behind have in common.
  pub repeats-more :
      (more : ℕ)
      → ((i : ℕ) → i < more → get_or (take (length pool - (start + size)) (drop (start + size) pool)) i 0 ≡ get_or (take (length pool - (start + step + size)) (drop (start + step + size) pool)) i 0)
      → Repeats pool start (size + more) step
  repeats-more more same i less =
      by_cases (ltb i size)
      (λ t. r i (ltb-true i size t))
      (λ t.
      let j = i - size in
      let low : size ≤ i = ltb-false i size t in
      let first : start + size + j ≡ start + i = omega arith in
      let second : start + step + size + j ≡ start + step + i = omega arith in
      let alike = same j (omega arith) in
      let byte = behind pool (start + size) j in
      let other = behind pool (start + step + size) j in
      ap (λ (n : ℕ). get_or pool n 0) (sym first) ∙ sym byte ∙ alike ∙ other ∙ ap (λ (n : ℕ). get_or pool n 0) second)

-- It grows by the byte before it.
pub repeats-before :
    (pool : List ℕ) (last size step start : ℕ) → 0 < start → start ≤ last → Repeats pool start (size + (last - start)) step → get_or pool (start - 1) 0 ≡ get_or pool (start - 1 + step) 0
    → Repeats pool (start - 1) (size + (last - (start - 1))) step
repeats-before pool last size step start some low r same zero h =
    let a : start - 1 + 0 ≡ start - 1 = omega arith in
    let b : start - 1 + step + 0 ≡ start - 1 + step = omega arith in
    ap (λ (k : ℕ). get_or pool k 0) a ∙ same ∙ ap (λ (k : ℕ). get_or pool k 0) (sym b)
repeats-before pool last size step start some low r same (suc i) h =
    let a : start - 1 + suc i ≡ start + i = omega arith in
    let b : start - 1 + step + suc i ≡ start + step + i = omega arith in
    ap (λ (k : ℕ). get_or pool k 0) a ∙ r i (omega arith) ∙ ap (λ (k : ℕ). get_or pool k 0) (sym b)

-- A place in the stretch, and the first with its bytes.
module _ (e : List ℕ) (start size step offset length' : ℕ) (at : start ≡ get_or e START 0) (by : step ≡ get_or e STEP 0) where
  pub held : size ≡ get_or e SIZE 0 → (ltb 0 step && leb start offset && leb (offset + length') (start + step + size)) ≡ true → Holds e offset length'
  held told t =
      let b = both_true (ltb 0 step && leb start offset) (leb (offset + length') (start + step + size)) t in
      let c = both_true (ltb 0 step) (leb start offset) b.0 in
      let x = ltb-true 0 step c.0 in
      let y = leb-true start offset c.1 in
      let z = leb-true (offset + length') (start + step + size) b.1 in
      (omega arith, omega arith, omega arith)

  -- Not behind it.
  pub first-low : start ≤ offset → start + (offset - start) % step ≤ offset
  first-low low = let whole = div-add-mod' (offset - start) step in omega arith

  pub first : Holds e offset length' → First e offset length' (start + (offset - start) % step) length'
  first h =
      let x = h.1 in
      let y = h.2 in
      (refl, first-low (omega arith), λ pool r inside. first-same pool start (get_or e SIZE 0) step (rw (at, by) r) offset length' (omega arith) (omega arith) inside)

-- Nothing is learned.
pub learned-nothing : (pool e : List ℕ) → Learned pool e e
unfolding stretched
learned-nothing pool e =
    let start = get_or e START 0 in
    let size = get_or e SIZE 0 in
    let step = get_or e STEP 0 in
    (start, size, step, sym (ap (λ (l : List ℕ). set (set l SIZE size) STEP step) (set-get_or e START 0) ∙ ap (λ (l : List ℕ). set l STEP step) (set-get_or e SIZE 0) ∙ set-get_or e STEP 0), λ r. r)
