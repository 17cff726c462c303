-- One element: steps 1 and 2, and then its attributes along the links.
-- Assumes nothing.
use Prim.Native.Nat.{ℕ, zero, suc, ◌+◌, ◌-◌, ◌*◌, ◌≤◌, ◌<◌, min, zero-le}
use mathlib.Core.Path.{◌≡◌, refl, sym, ◌∙◌, ap, subst}
use mathlib.Core.Logic.{inl, inr}
use mathlib.Core.Bool.{Bool, true, false, cond, ◌&&◌}
use mathlib.Core.List.{List}
use native.Mathlib.Omega.{arith}
use lib.ListN.{length}
use lib.Seq.{length-take-le}
use lib.Dec.{eqb, ltb, leb}
use borrow.Author.Tests.{ltb-true, ltb-false, leb-true, leb-false, le-leb, ne_eqb, eqb-true, eqb-false}
use Rattle.rules.specs.Table.{NONE, MOST_ROWS, ELEMENT, node}
use Rattle.rules.specs.Lookups.{scope_at}
use Rattle.rules.specs.Normalization.{State, is_attribute_of, repair_element, repair_attribute, repair_attributes, normalize_row}
use Rattle.rules.proofs.Lists.{by_cases, true-not-false, true-both}
use Rattle.rules.proofs.Unique.{repaired_up_to, row-element, kept-up-to, element-up-to}
use Rattle.rules.proofs.Bounds.{bounded-up-to, attributes-one, attributes-all, attributes-grow}
use Rattle.notes.specs.Notes.{NOTES, FIRST, NEXT, note_at}
use Rattle.attributes.specs.Following.{Clear, Sought, row_of}
use Rattle.bindings.proofs.Free.{UsedBefore}
use Rattle.working.specs.Working.{Good, AtElement, AtAttribute, After, AfterAttribute, SameAttributes, element_step}
use Rattle.working.proofs.Held.{count}
use Rattle.element_steps.specs.Buffers.{Roomy, Fit, Following, Working, AtRow, Done}
use Rattle.element_steps.proofs.Fit.{fit-element, fit-attribute}

-- What a test of two parts says.
pub both_hold : (a b c d : ℕ) → (ltb a b && leb c d) ≡ true → (a < b) × (c ≤ d)
both_hold a b c d is =
    by_cases (ltb a b)
    (λ q. (ltb-true a b q, leb-true c d (rw q at is)))
    (λ q. absurd (true-not-false is (rw q refl)))

pub one-fails : (a b c d : ℕ) → (ltb a b && leb c d) ≡ false → c ≤ d → b ≤ a
one-fails a b c d not-both second =
    by_cases (ltb a b)
    (λ q. absurd (true-not-false (true-both q (le-leb c d second)) not-both))
    (λ q. ltb-false a b q)

-- Rows that are no attributes of e are passed over.
module _ (total e : ℕ) (s : State) (small : e < total) (kind : (node s.rows e).type ≡ ELEMENT) (long : total ≤ length s.rows) where
  same-attribute : (a : ℕ) → a ≤ total → (j : ℕ) → j < total → is_attribute_of e (node (repaired_up_to e a s).rows j) ≡ is_attribute_of e (node s.rows j)
  same-attribute a few j less = let c = (kept-up-to total e a s small few kind long).core j (omega arith) in rw (c.type, c.parent) refl

  pass-one : (j : ℕ) → j < total → is_attribute_of e (node s.rows j) ≡ false → repaired_up_to e (suc j) s ≡ repaired_up_to e j s
  unfolding repair_attributes repair_attribute
  pass-one j less other = rw (same-attribute j (omega arith) j less ∙ other) refl

  passed : (low high : ℕ) → low ≤ high → high ≤ total → Clear (λ j. is_attribute_of e (node s.rows j)) low high → repaired_up_to e high s ≡ repaired_up_to e low s
  passed low zero less within clear = ap (λ n. repaired_up_to e n s) (sym zero-low)
    where
      zero-low : low ≡ 0
      zero-low = omega arith
  passed low (suc high) less within clear =
      by_cases (ltb high low)
      (λ q. let same : suc high ≡ low = omega (arith, ltb-true high low q) in ap (λ n. repaired_up_to e n s) same)
      (λ q.
      let more = ltb-false high low q in
      pass-one high (omega arith) (clear high more (omega arith)) ∙ passed low high more (omega arith) (λ k a b. clear k a (omega arith)))

-- The states of an element's attributes are fit.
pub fit-up-to : (total e a : ℕ) (s : State) → e < total → a ≤ total → (node s.rows e).type ≡ ELEMENT → Fit total s → Fit total (repaired_up_to e a s)
unfolding repair_attributes
fit-up-to total e zero s small few kind fit = fit-element total e s small kind fit
fit-up-to total e (suc a) s small few kind fit =
    let before = fit-up-to total e a s small (omega arith) kind fit in
    let same = element-up-to total e a s small (omega arith) kind fit.steady.long in
    fit-attribute total e a (repaired_up_to e a s) (omega arith) (omega (arith, before.steady.long)) (rw (same, kind) refl) before

-- Steps 1 and 2 of element e are done from the state s, and the buffers hold that.
pub record Begun (total : ℕ) (t p notes tops path : List ℕ) (rows bytes names limit e : ℕ) (s : State) : Type 0 where
  pub small : e < total
  pub few : total ≤ MOST_ROWS
  pub kind : (node s.rows e).type ≡ ELEMENT
  pub fit : Fit total s
  pub following : Following total notes s.rows
  pub roomy : Roomy total (length p) e 0 s
  pub pool_small : length p < 65536
  pub noted : NOTES * total ≤ length notes
  pub begun : Done notes t p notes tops path rows bytes names limit (e + 1) (repaired_up_to e 0 s)

-- The walk along the attributes of element e has come to position q.
pub record Stands (total : ℕ) (notes₀ t p notes tops path : List ℕ) (rows bytes names limit free e q : ℕ) (s : State) : Type 0 where
  pub stop : row_of q < total → is_attribute_of e (node s.rows (row_of q)) ≡ true
  pub end : total ≤ row_of q → q ≡ 0
  pub done : Done notes₀ t p notes tops path rows bytes names limit (e + 1) (repaired_up_to e (min (row_of q) total) s)
  pub one : 1 ≤ free
  pub used : UsedBefore (scope_at (repaired_up_to e (min (row_of q) total) s).rows e) free

-- What is left of the walk.
abbrev pub left : ℕ → ℕ
left q = cond (eqb q 0) 0 (65536 - q)

row-of : (q : ℕ) → 0 < q → row_of q ≡ q - 1
unfolding row_of
row-of q some? = rw (ne_eqb q 0 (λ z. omega arith)) refl

row-none : (q : ℕ) → q < 65536 → row_of q ≡ NONE → q ≡ 0
unfolding row_of
row-none q small is =
    by_cases (eqb q 0)
    (λ t. eqb-true q 0 t)
    (λ t. let z : q - 1 ≡ NONE = rw t at is in absurd (omega arith))

-- What repair_element asks for and leaves.
module _ {total : ℕ} {table pool notes tops path : List ℕ} {rows bytes names limit e : ℕ} (h : AtRow total table pool notes tops path rows bytes names limit e) where
  abbrev pub w : Working total table pool notes tops path rows bytes names limit (e + 1) e h.state
  w = h.working

  abbrev pub s : State
  s = h.state

  pub long : total ≤ length s.rows
  long = w.fit.steady.long

  abbrev pub row-element-asks : AtElement table pool notes tops path rows bytes names limit e
  row-element-asks =
      record {
        state = s;
        good = w.good;
        spare = w.spare;
        element =
            record {
              lawful = record { fit = w.fit.steady.fit; unique = w.fit.steady.unique; passable = w.fit.passable; tree = w.fit.tree };
              within = omega (arith, long, h.small);
              kind = h.kind;
              named = w.fit.steady.named e h.small h.kind;
              plain = w.fit.steady.plain e h.small h.kind;
            };
      }

  pub row-noted : (notes' : List ℕ) → length notes' ≡ length notes → NOTES * e + FIRST < length notes'
  row-noted notes' size = omega (arith, size, h.small, long, count w.good, w.good.lent.noted, w.good.lent.room.row_room)

  pub begins :
      {table' notes' tops' path' : List ℕ} {rows' : ℕ} → length notes' ≡ length notes → After notes table' pool notes' tops' path' rows' bytes names limit (e + 1) (element_step e s)
      → Begun total table' pool notes' tops' path' rows' bytes names limit e s
  unfolding repair_attributes
  begins {notes' = notes'} size after =
      record {
        small = h.small;
        few = omega (arith, long, count w.good, w.good.lent.room.row_room, w.good.lent.room.limit_small);
        kind = h.kind;
        fit = w.fit;
        following =
            record {
              firsts = λ x less. rw (after.attributes x FIRST (omega arith) (omega arith)) (w.following.firsts x less);
              nexts = λ x j less below is. rw (after.attributes j NEXT (omega arith) (omega arith)) (w.following.nexts x j less below is);
            };
        roomy = w.roomy;
        pool_small = w.pool_small;
        noted = omega (arith, size, long, count w.good, w.good.lent.noted, w.good.lent.room.row_room);
        begun = record { full = after.full; good = after.good; spare = after.spare; attributes = λ r k late inside. refl };
      }

-- The walk, from what the buffers hold at its start.
module _ {total : ℕ} {t₀ p₀ notes₀ tops₀ path₀ : List ℕ} {rows₀ bytes₀ names₀ limit e : ℕ} {s : State} (b : Begun total t₀ p₀ notes₀ tops₀ path₀ rows₀ bytes₀ names₀ limit e s) where
  abbrev test : ℕ → Bool
  test j = is_attribute_of e (node s.rows j)

  -- from a link to the walk's next stop
  stands :
      (i : ℕ) → i ≤ total → {t p notes tops path : List ℕ} {rows bytes names free : ℕ} → Done notes₀ t p notes tops path rows bytes names limit (e + 1) (repaired_up_to e i s) → 1 ≤ free
      → UsedBefore (scope_at (repaired_up_to e i s).rows e) free → (q : ℕ) → q < 65536 → Sought test total i (row_of q) → Stands total notes₀ t p notes tops path rows bytes names limit free e q s
  stands i low {t} {p} {notes} {tops} {path} {rows} {bytes} {names} {free} done one used q small sought = go sought
    where
      made : Clear test i (min (row_of q) total) → i ≤ min (row_of q) total → repaired_up_to e i s ≡ repaired_up_to e (min (row_of q) total) s
      made clear less = sym (passed total e s b.small b.kind b.fit.steady.long i (min (row_of q) total) less (omega arith) clear)

      build : (row_of q < total → test (row_of q) ≡ true) → (total ≤ row_of q → q ≡ 0) → Clear test i (min (row_of q) total) → i ≤ min (row_of q) total → Stands total notes₀ t p notes tops path rows bytes names limit free e q s
      build stop end clear less =
          record {
            stop = stop;
            end = end;
            done = subst (Done notes₀ t p notes tops path rows bytes names limit (e + 1)) (made clear less) done;
            one = one;
            used = subst (λ (x : State). UsedBefore (scope_at x.rows e) free) (made clear less) used;
          }

      go : Sought test total i (row_of q) → Stands total notes₀ t p notes tops path rows bytes names limit free e q s
      go (inl z) =
          build (λ less. absurd (omega (arith, z.0, b.few))) (λ past. row-none q small z.0) (λ k x y. z.1 k x (omega arith)) (omega (arith, z.0, b.few))
      go (inr z) =
          build (λ less. z.2) (λ past. absurd (omega (arith, z.1))) (λ k x y. z.3 k x (omega arith)) (omega (arith, z.0, z.1))

  pub stands-first : {q : ℕ} → q < 65536 → q ≡ note_at notes₀ e FIRST → Stands total notes₀ t₀ p₀ notes₀ tops₀ path₀ rows₀ bytes₀ names₀ limit 1 e q s
  stands-first {q} small read =
      stands 0 zero-le b.begun (omega arith) (λ j low high. absurd (omega arith)) q small
      (subst (λ (x : ℕ). Sought test total 0 (row_of x)) (sym read) (b.following.firsts e b.small))

  module _ {t p notes tops path : List ℕ} {rows bytes names free q : ℕ} (h : Stands total notes₀ t p notes tops path rows bytes names limit free e q s) where
    row_last : q ≡ 0 → min (row_of q) total ≡ total
    unfolding row_of
    row_last none? = rw none? (omega (arith, b.few))

    -- the walk ends: there are no more attributes, or too many rows
    pub stands-end : (ltb 0 q && leb rows limit) ≡ false → Done notes₀ t p notes tops path rows bytes names limit (e + 1) (normalize_row total e s)
    stands-end ends =
        rw (row-element total e s b.kind)
        (by_cases (leb rows limit)
        (λ z.
        let none? : q ≡ 0 = omega (arith, one-fails 0 q rows limit ends (leb-true rows limit z)) in
        let all : min (row_of q) total ≡ total = row_last none? in
        subst (λ (n : ℕ). Done notes₀ t p notes tops path rows bytes names limit (e + 1) (repaired_up_to e n s)) all h.done)
        (λ z.
        let more = leb-false rows limit z in
        let grown = attributes-grow e (record { rows = repair_element e s.rows; pool = s.pool }) (min (row_of q) total) total (omega arith) in
        record {
          full = λ x. omega (arith, h.done.full more);
          good = λ fits. absurd (omega arith);
          spare = λ fits. absurd (omega arith);
          attributes = h.done.attributes;
        }))

    module _ (some? : 0 < q) (fits : rows ≤ limit) {a : ℕ} (at : a ≡ q - 1) where
      here : row_of q ≡ a
      here = row-of q some? ∙ sym at

      below : a < total
      below =
          by_cases (ltb (row_of q) total)
          (λ z. omega (arith, ltb-true (row_of q) total z, here))
          (λ z. absurd (omega (arith, h.end (ltb-false (row_of q) total z))))

      abbrev state : State
      state = repaired_up_to e a s

      same-state : repaired_up_to e (min (row_of q) total) s ≡ state
      same-state = let n : min (row_of q) total ≡ a = omega (arith, here, below) in ap (λ (k : ℕ). repaired_up_to e k s) n

      good : Good t p notes tops path rows bytes names limit (e + 1) state
      good = subst (Good t p notes tops path rows bytes names limit (e + 1)) same-state (h.done.good fits)

      fit : Fit total state
      fit = fit-up-to total e a s b.small (omega (arith, below)) b.kind b.fit

      is-attribute : is_attribute_of e (node state.rows a) ≡ true
      is-attribute =
          same-attribute total e s b.small b.kind b.fit.steady.long a (omega (arith, below)) a below
          ∙ subst (λ (x : ℕ). test x ≡ true) here (h.stop (omega (arith, here, below)))

      kind : (node state.rows e).type ≡ ELEMENT
      kind = rw (element-up-to total e a s b.small (omega (arith, below)) b.kind b.fit.steady.long) b.kind

      pub walk-attribute : AtAttribute t p notes tops path rows bytes names limit free a
      walk-attribute =
          record {
            state = state;
            owner = e;
            good = good;
            spare = h.done.spare fits;
            attribute =
                record {
                  element =
                      record {
                        lawful = record { fit = fit.steady.fit; unique = fit.steady.unique; passable = fit.passable; tree = fit.tree };
                        within = omega (arith, fit.steady.long, b.small);
                        kind = kind;
                        named = fit.steady.named e b.small kind;
                        plain = fit.steady.plain e b.small kind;
                      };
                  inside = omega (arith, fit.steady.long, below);
                  owned = is-attribute;
                  one = h.one;
                  used = subst (λ (x : State). UsedBefore (scope_at x.rows e) free) same-state h.used;
                };
          }

      pub walk-room : length p ≡ length p₀ → (bytes + 6 ≤ length p) × (length p < 65536)
      walk-room size =
          let roomy = b.roomy in
          let base = roomy.base in
          let inside : a < length base = rw roomy.count below in
          let bounded =
          bounded-up-to base roomy.start e a s (rw roomy.count b.small) (omega arith) b.kind (omega (arith, count good, good.lent.room.row_room, good.lent.room.limit_small)) roomy.bounded
          in
          let core = bounded.core a inside in
          let attribute : is_attribute_of e (node base a) ≡ true = let z = is-attribute in rw (core.type, core.parent) at z in
          let held : length state.pool ≡ bytes = ap length (sym good.held) ∙ length-take-le bytes p good.lent.bytes_room in (
            omega (arith, bounded.bytes, attributes-one base e a inside attribute, attributes-all base e (suc a), roomy.count, roomy.fits, held),
            omega (arith, b.pool_small),
          )

      pub walk-noted : (notes' : List ℕ) → length notes' ≡ length notes₀ → NOTES * a + NEXT < length notes'
      walk-noted notes' size = omega (arith, size, b.noted, below)

      -- the attribute repaired
      pub stands-next :
          {t' p' notes' tops' path' : List ℕ} {rows' bytes' names' free' q' : ℕ}
          → ((x : AtAttribute t p notes tops path rows bytes names limit free a) → AfterAttribute notes t' p' notes' tops' path' rows' bytes' names' limit free' x.owner (repair_attribute x.owner a x.state))
          → q' < 65536 → q' ≡ note_at notes' a NEXT → Stands total notes₀ t' p' notes' tops' path' rows' bytes' names' limit free' e q' s
      unfolding repair_attributes walk-attribute
      stands-next {notes' = notes'} {q' = q'} told small read =
          let made = told walk-attribute in
          let same : SameAttributes notes₀ notes' = λ r k late inside. made.after.attributes r k late inside ∙ h.done.attributes r k late inside in
          stands (suc a) below
          (record { full = made.after.full; good = made.after.good; spare = made.after.spare; attributes = same })
          made.one made.used q' small
          (subst (λ (x : ℕ). Sought test total (suc a) (row_of x)) (sym (read ∙ same a NEXT (omega arith) (omega arith)))
          (b.following.nexts e a b.small below (sym (same-attribute total e s b.small b.kind b.fit.steady.long a (omega (arith, below)) a below) ∙ is-attribute)))

      -- a later attribute, or none
      pub walk-falls : q < 65536 → (notes' : List ℕ) {q' : ℕ} → SameAttributes notes notes' → q' < 65536 → q' ≡ note_at notes' a NEXT → left q' < left q
      walk-falls low notes' {q' = q'} same small read =
          go (subst (λ (x : ℕ). Sought test total (suc a) (row_of x)) (sym (read ∙ same a NEXT (omega arith) (omega arith) ∙ h.done.attributes a NEXT (omega arith) (omega arith)))
          (b.following.nexts e a b.small below (sym (same-attribute total e s b.small b.kind b.fit.steady.long a (omega (arith, below)) a below) ∙ is-attribute)))
        where
          go : Sought test total (suc a) (row_of q') → left q' < left q
          go (inl z) = rw (row-none q' small z.0, ne_eqb q 0 (λ x. omega arith)) (omega arith)
          go (inr z) =
              by_cases (eqb q' 0)
              (λ x. rw (x, ne_eqb q 0 (λ y. omega arith)) (omega arith))
              (λ x.
              let other = eqb-false q' 0 x in
              let later = row-of q' (omega arith) in
              rw (x, ne_eqb q 0 (λ y. omega arith)) (omega (arith, z.0)))

-- The loop's invariant: wherever the walk has begun, it stands at the position.
pub record Walking (t₀ p₀ notes₀ tops₀ path₀ : List ℕ) (rows₀ bytes₀ names₀ limit e : ℕ) (t p notes tops path : List ℕ) (rows bytes names free q : ℕ) : Type 0 where
  pub stands : (total : ℕ) (s : State) → Begun total t₀ p₀ notes₀ tops₀ path₀ rows₀ bytes₀ names₀ limit e s → Stands total notes₀ t p notes tops path rows bytes names limit free e q s
  pub small : q < 65536
  pub table_length : length t ≡ length t₀
  pub pool_length : length p ≡ length p₀
  pub notes_length : length notes ≡ length notes₀
  pub tops_length : length tops ≡ length tops₀
  pub path_length : length path ≡ length path₀
