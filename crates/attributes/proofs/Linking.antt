-- One row more, before those that are linked.
-- Assumes nothing.
use Prim.Native.Nat.{ℕ, suc, ◌+◌, ◌≤◌, ◌<◌}
use mathlib.Core.Path.{◌≡◌, refl, sym, ◌∙◌, ap, subst}
use mathlib.Core.Logic.{inl, inr, ⊎_elim}
use mathlib.Core.Bool.{Bool, true, false, ◌&&◌}
use mathlib.Core.List.{List}
use native.Mathlib.Numerals.{add-one}
use native.Mathlib.Nat.{eq-or-lt_of_le}
use native.Mathlib.Omega.{arith}
use lib.ListN.{length}
use lib.Dec.{eqb}
use borrow.Author.Tests.{eqb-true, eqb-false, eq-eqb, ne_eqb}
use Rattle.rules.specs.Table.{TYPE, PARENT, ATTRIBUTE, word, row_count}
use Rattle.rules.proofs.Lists.{by_cases, true-not-false, both_true}
use Rattle.notes.specs.Notes.{FIRST, NEXT, note_at, noted, HasNotes}
use Rattle.notes.proofs.Laws.{length-noted, noted-same, noted_other}
use Rattle.attributes.specs.Following.{owned, Clear, Sought, row_of, LinkedFrom, SameBefore}

module _ (test : ℕ → Bool) where
  clear-before : (a b : ℕ) → test a ≡ false → Clear test (suc a) b → Clear test a b
  clear-before a b here rest k low high = ⊎_elim (λ e. ap test (sym e) ∙ here) (λ l. rest k l high) (eq-or-lt_of_le low)

  sought-before : (n i s : ℕ) → test i ≡ false → Sought test n (suc i) s → Sought test n i s
  sought-before n i s here (inl w) = inl (w.0, clear-before i n here w.1)
  sought-before n i s here (inr w) = inr (omega arith, w.1, w.2, clear-before i s here w.3)

row-of : (r : ℕ) → row_of (r + 1) ≡ r
unfolding row_of
row-of r = rw (ne_eqb (r + 1) 0 (λ e. omega arith)) (omega arith)

-- Nothing is linked at the end.
pub linked-none : (table notes : List ℕ) (n : ℕ) → ((e : ℕ) → e < n → note_at notes e FIRST ≡ 0) → LinkedFrom table notes n n
unfolding row_of
linked-none table notes n none? =
    record {
      firsts = λ e within. inl (rw (none? e within) refl, λ k low high. absurd (omega arith));
      nexts = λ e j within low below is. absurd (omega arith);
    }

module _ {table notes : List ℕ} {n r : ℕ} (linked : LinkedFrom table notes n (r + 1)) where
  -- A row that is no attribute of a row of the table.
  pub linked-other : ((e : ℕ) → e < n → owned table ATTRIBUTE e r ≡ false) → LinkedFrom table notes n r
  linked-other other =
      let above : LinkedFrom table notes n (suc r) = subst (LinkedFrom table notes n) (add-one r) linked in
      record {
        firsts = λ e within. sought-before (owned table ATTRIBUTE e) n r (row_of (note_at notes e FIRST)) (other e within) (above.firsts e within);
        nexts = λ e j within low below is.
            by_cases (eqb j r)
            (λ q. absurd (true-not-false is (ap (owned table ATTRIBUTE e) (eqb-true j r q) ∙ other e within)))
            (λ q. let apart = eqb-false j r q in above.nexts e j within (omega arith) below is);
      }

-- A row has one owner.
one-owner : (table : List ℕ) (e f r : ℕ) → owned table ATTRIBUTE e r ≡ true → owned table ATTRIBUTE f r ≡ true → f ≡ e
unfolding owned
one-owner table e f r a b =
    sym (eqb-true (word table r PARENT) f (both_true (eqb (word table r TYPE) ATTRIBUTE) (eqb (word table r PARENT) f) b).1)
    ∙ eqb-true (word table r PARENT) e (both_true (eqb (word table r TYPE) ATTRIBUTE) (eqb (word table r PARENT) e) a).1

pub owned_by : (table : List ℕ) (e r : ℕ) {kind : ℕ} → kind ≡ word table r TYPE → kind ≡ ATTRIBUTE → e ≡ word table r PARENT → owned table ATTRIBUTE e r ≡ true
unfolding owned
owned_by table e r read is parent = rw (sym read ∙ is, eq-eqb (word table r PARENT) e (sym parent)) refl

pub not-owned : (table : List ℕ) (r : ℕ) {kind : ℕ} → kind ≡ word table r TYPE → (kind ≡ ATTRIBUTE → ⊥) → (e : ℕ) → owned table ATTRIBUTE e r ≡ false
unfolding owned
not-owned table r read other e = rw (ne_eqb (word table r TYPE) ATTRIBUTE (λ z. other (read ∙ z))) refl

pub not-owned-by : (table : List ℕ) (r : ℕ) {owner n : ℕ} → owner ≡ word table r PARENT → n ≤ owner → (e : ℕ) → e < n → owned table ATTRIBUTE e r ≡ false
unfolding owned
not-owned-by table r read past e within = rw (ne_eqb (word table r PARENT) e (λ z. omega arith)) (no-and (eqb (word table r TYPE) ATTRIBUTE))
  where
    no-and : (b : Bool) → (b && false) ≡ false
    no-and true = refl
    no-and false = refl

-- Attribute r of row e is linked before the others.
module _ {table notes : List ℕ} {n r e : ℕ} (linked : LinkedFrom table notes n (r + 1)) (room : HasNotes notes n) (below : r < n) (within : e < n)
    (own : owned table ATTRIBUTE e r ≡ true) where
  abbrev notes₁ : List ℕ
  notes₁ = noted notes r NEXT (note_at notes e FIRST)

  abbrev notes₂ : List ℕ
  notes₂ = noted notes₁ e FIRST (r + 1)

  length₁ : length notes₁ ≡ length notes
  length₁ = length-noted notes r NEXT (note_at notes e FIRST)

  first-here : note_at notes₂ e FIRST ≡ r + 1
  first-here = noted-same notes₁ e FIRST (r + 1) (omega (arith, length₁))

  first-other : (f : ℕ) → (f ≡ e → ⊥) → note_at notes₂ f FIRST ≡ note_at notes f FIRST
  first-other f other =
      noted_other notes₁ e FIRST (r + 1) f FIRST (omega arith) (omega arith) (λ z w. other z)
      ∙ noted_other notes r NEXT (note_at notes e FIRST) f FIRST (omega arith) (omega arith) (λ z w. omega arith)

  next_here : note_at notes₂ r NEXT ≡ note_at notes e FIRST
  next_here =
      noted_other notes₁ e FIRST (r + 1) r NEXT (omega arith) (omega arith) (λ z w. omega arith)
      ∙ noted-same notes r NEXT (note_at notes e FIRST) (omega arith)

  next-other : (j : ℕ) → (j ≡ r → ⊥) → note_at notes₂ j NEXT ≡ note_at notes j NEXT
  next-other j other =
      noted_other notes₁ e FIRST (r + 1) j NEXT (omega arith) (omega arith) (λ z w. omega arith)
      ∙ noted_other notes r NEXT (note_at notes e FIRST) j NEXT (omega arith) (omega arith) (λ z w. other z)

  pub linked-attribute : LinkedFrom table notes₂ n r
  linked-attribute =
      let above : LinkedFrom table notes n (suc r) = subst (LinkedFrom table notes n) (add-one r) linked in
      record {
        firsts = λ f less.
            by_cases (eqb f e)
            (λ q.
            let same = eqb-true f e q in
            rw (same, first-here, row-of r) (inr (omega arith, below, own, λ k low high. absurd (omega arith))))
            (λ q.
            let apart = eqb-false f e q in
            rw (first-other f apart)
            (sought-before (owned table ATTRIBUTE f) n r (row_of (note_at notes f FIRST)) (not-others f apart) (above.firsts f less)));
        nexts = λ f j less low high is.
            by_cases (eqb j r)
            (λ q.
            let here = eqb-true j r q in
            let same : f ≡ e = one-owner table e f r own (ap (owned table ATTRIBUTE f) (sym here) ∙ is) in
            rw (here, next_here, same) (above.firsts e within))
            (λ q.
            let apart = eqb-false j r q in
            rw (next-other j apart) (above.nexts f j less (omega arith) high is));
      }
    where
      not-others : (f : ℕ) → (f ≡ e → ⊥) → owned table ATTRIBUTE f r ≡ false
      not-others f apart = by_cases (owned table ATTRIBUTE f r) (λ q. absurd (apart (one-owner table e f r own q))) (λ q. q)

  pub linked-kept : SameBefore FIRST notes notes₂
  linked-kept q j less =
      noted_other notes₁ e FIRST (r + 1) q j (omega arith) (omega arith) (λ z w. omega arith)
      ∙ noted_other notes r NEXT (note_at notes e FIRST) q j (omega arith) (omega arith) (λ z w. omega arith)

  -- The same of notes that two writes have left.
  pub linked-made : {next : ℕ} {once twice : List ℕ} → next ≡ note_at notes e FIRST → once ≡ noted notes r NEXT next → twice ≡ noted once e FIRST (r + 1) → LinkedFrom table twice n r × SameBefore FIRST notes twice
  linked-made read first second =
      let made = second ∙ ap (λ (l : List ℕ). noted l e FIRST (r + 1)) (first ∙ ap (noted notes r NEXT) read) in
      (subst (λ (l : List ℕ). LinkedFrom table l n r) (sym made) linked-attribute, subst (SameBefore FIRST notes) (sym made) linked-kept)

-- The pass from the last row to the first.
pub linked-start : {table notes : List ℕ} {r : ℕ} → r ≡ row_count table → ((e : ℕ) → e < row_count table → note_at notes e FIRST ≡ 0) → LinkedFrom table notes (row_count table) r
linked-start {table} {notes} same none? = subst (LinkedFrom table notes (row_count table)) (sym same) (linked-none table notes (row_count table) none?)
