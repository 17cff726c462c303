-- A row is linked, or passed over.
-- Assumes nothing.
use Prim.Native.Nat.{ℕ, suc, ◌+◌, ◌-◌, ◌*◌, ◌≤◌, ◌<◌}
use mathlib.Core.Path.{◌≡◌, refl, sym, ◌∙◌}
use mathlib.Core.Bool.{Bool, true, false, cond, ◌&&◌, ◌||◌}
use mathlib.Core.List.{List}
use native.Mathlib.Omega.{arith}
use borrow.Author.Tests.{eqb-true, eqb-false, eq-eqb, ltb-false}
use lib.Dec.{eqb, ltb}
use lib.ListN.{length}
use Rattle.rules.specs.Lists.{is_one_of}
use Rattle.rules.specs.Table.{TYPE, PARENT, ELEMENT, ATTRIBUTE, TEXT, DECLARATION, word, row_count}
use Rattle.rules.proofs.Lists.{by_cases, both_true, true-not-false}
use Rattle.rows.proofs.Words.{or-false}
use Rattle.notes.specs.Notes.{NOTES, LATEST, note_at, noted}
use Rattle.notes.proofs.Laws.{length-noted, noted-same, noted_other}
use Rattle.children.specs.Children.{kinds, is_under, first_word, seek, Listed, Relinked}

module _ (test : ℕ → ℕ → Bool) (first : ℕ) (notes : List ℕ) (n r : ℕ) (within : r < n) (listed : Listed test first notes n (r + 1)) where
  -- What is sought from the row on, by whether it passes.
  seek-here : (passes : ℕ → Bool) → seek passes (n - r) (suc r) ≡ cond (passes (suc r)) (suc r) (seek passes (n - (r + 1)) (suc (r + 1)))
  unfolding seek
  seek-here passes =
      let s : n - r ≡ suc (n - (r + 1)) = omega arith in
      let t : suc (r + 1) ≡ suc (suc r) = omega arith in
      rw (s, t)

  -- No row of the table owns it.
  pub passed : ((e : ℕ) → e < n → test e (suc r) ≡ false) → Listed test first notes n r
  passed other =
      record {
        firsts = λ e h. listed.firsts e h ∙ sym (seek-here (test e) ∙ rw (other e h));
        nexts = λ e d h i j own.
            by_cases (eqb d (suc r))
            (λ t. absurd (true-not-false own (rw (eqb-true d (suc r) t) (other e h))))
            (λ t. let ne = eqb-false d (suc r) t in listed.nexts e d h (omega arith) j own);
      }

  module _ (owner later : ℕ) (words : first + 1 < NOTES) (own_row : owner < n) (room : NOTES * n ≤ length notes) (mine : test owner (suc r) ≡ true) (one : (e : ℕ) → test e (suc r) ≡ true → e ≡ owner) (head : later ≡ note_at notes owner first) where
    abbrev notes₁ : List ℕ
    notes₁ = noted notes r (first + 1) later

    abbrev notes₂ : List ℕ
    notes₂ = noted notes₁ owner first (r + 1)

    kept : (q k : ℕ) → k < NOTES → (q ≡ owner → k ≡ first → ⊥) → (q ≡ r → k ≡ first + 1 → ⊥) → note_at notes₂ q k ≡ note_at notes q k
    kept q k h a b = noted_other notes₁ owner first (r + 1) q k (omega arith) h a ∙ noted_other notes r (first + 1) later q k (omega arith) h b

    not_own : (e : ℕ) → (e ≡ owner → ⊥) → test e (suc r) ≡ false
    not_own e other = by_cases (test e (suc r)) (λ t. absurd (other (one e t))) (λ t. t)

    added : Listed test first notes₂ n r
    added =
        let long : NOTES * owner + first < length notes₁ = rw length-noted (omega arith) in
        record {
          firsts = λ e h.
              by_cases (eqb owner e)
              (λ t.
              let same : owner ≡ e = eqb-true owner e t in
              let here : test e (suc r) ≡ true = rw (← same) mine in
              let now : note_at notes₂ e first ≡ r + 1 = rw (← same) (noted-same notes₁ owner first (r + 1) long) in
              let s : r + 1 ≡ suc r = omega arith in
              now ∙ s ∙ sym (seek-here (test e) ∙ rw here))
              (λ t.
              let ne = eqb-false owner e t in
              let other : test e (suc r) ≡ false = not_own e (λ x. ne (sym x)) in
              kept e first (omega arith) (λ x y. ne (sym x)) (λ x y. absurd (omega arith)) ∙ listed.firsts e h ∙ sym (seek-here (test e) ∙ rw other));
          nexts = λ e d h i j own.
              by_cases (eqb d (suc r))
              (λ t.
              let same : d ≡ suc r = eqb-true d (suc r) t in
              let s : suc r - 1 ≡ r = omega arith in
              let u : suc r ≡ r + 1 = omega arith in
              let owned : e ≡ owner = one e (rw same at own) in
              let stored : note_at notes₂ r (first + 1) ≡ later = noted_other notes₁ owner first (r + 1) r (first + 1) (omega arith) (omega arith) (λ x y. absurd (omega arith)) ∙ noted-same notes r (first + 1) later (omega arith) in
              rw (same, s, owned, u) (stored ∙ head ∙ listed.firsts owner own_row))
              (λ t.
              let ne = eqb-false d (suc r) t in
              kept (d - 1) (first + 1) (omega arith) (λ x y. absurd (omega arith)) (λ x y. omega arith) ∙ listed.nexts e d h (omega arith) j own);
        }

    pub linked : (once twice : List ℕ) → once ≡ notes₁ → twice ≡ noted once owner first (r + 1) → Listed test first twice n r × Relinked first notes twice
    linked once twice e₁ e₂ = rw (e₂, e₁) (added, λ q k h a b. kept q k h (λ x y. a y) (λ x y. b y))

-- Without links none of the rows is linked.
pub none-linked : (test : ℕ → ℕ → Bool) (first : ℕ) (notes : List ℕ) (n : ℕ) → ((e : ℕ) → note_at notes e first ≡ 0) → Listed test first notes n n
unfolding seek
none-linked test first notes n none =
    let s : n - n ≡ 0 = omega arith in
    record { firsts = λ e h. rw s (none e); nexts = λ e d h i j own. absurd (omega arith) }

-- What the row's words tell.
module _ (owned : Bool) (table : List ℕ) (r kind owner : ℕ) (k : kind ≡ word table r TYPE) (p : owner ≡ word table r PARENT) where
  own-here : (e : ℕ) → is_under owned table e (suc r) ≡ (is_one_of (kinds owned) kind && eqb owner e)
  own-here e = let s : suc r - 1 ≡ r = omega arith in rw (s, k, p)

  pub own_read : is_one_of (kinds owned) kind ≡ true → is_under owned table owner (suc r) ≡ true
  own_read a = own-here owner ∙ rw (a, eq-eqb owner owner refl)

  pub own-one : (e : ℕ) → is_under owned table e (suc r) ≡ true → e ≡ owner
  own-one e t = sym (eqb-true owner e (both_true (is_one_of (kinds owned) kind) (eqb owner e) (sym (own-here e) ∙ t)).1)

  pub own-outside : (n : ℕ) → ltb owner n ≡ false → (e : ℕ) → e < n → is_under owned table e (suc r) ≡ false
  own-outside n t e h =
      by_cases (is_under owned table e (suc r))
      (λ u. let same = own-one e u in let past = ltb-false owner n t in absurd (omega arith))
      (λ u. u)

  pub own-other : is_one_of (kinds owned) kind ≡ false → (e : ℕ) → is_under owned table e (suc r) ≡ false
  own-other other e = own-here e ∙ rw other

pub words-fit : (owned : Bool) → first_word owned + 1 < NOTES
words-fit true = omega arith
words-fit false = omega arith

pub owned-kind : {owned : Bool} (kind : ℕ) → owned ≡ true → (eqb kind ATTRIBUTE || eqb kind DECLARATION) ≡ is_one_of (kinds owned) kind
owned-kind kind e = rw e (or-false (eqb kind ATTRIBUTE) (eqb kind DECLARATION))

pub content-kind : {owned : Bool} (kind : ℕ) → owned ≡ false → (eqb kind ELEMENT || eqb kind TEXT) ≡ is_one_of (kinds owned) kind
content-kind kind e = rw e (or-false (eqb kind ELEMENT) (eqb kind TEXT))

-- Links of the other kind are kept.
module _ (test : ℕ → ℕ → Bool) (links links' : List ℕ) (n r : ℕ) where
  pub kept-words : (first : ℕ) → ((q : ℕ) → note_at links' q first ≡ note_at links q first) → ((q : ℕ) → note_at links' q (first + 1) ≡ note_at links q (first + 1)) → Listed test first links n r → Listed test first links' n r
  kept-words first a b l =
      record { firsts = λ e h. a e ∙ l.firsts e h; nexts = λ e d h i j own. b (d - 1) ∙ l.nexts e d h i j own }

  pub content-kept : Relinked (first_word true) links links' → Listed test (first_word false) links n r → Listed test (first_word false) links' n r
  content-kept relinked = kept-words LATEST (λ q. relinked q LATEST (omega arith) (λ e. absurd (omega arith)) (λ e. absurd (omega arith))) (λ q. relinked q (LATEST + 1) (omega arith) (λ e. absurd (omega arith)) (λ e. absurd (omega arith)))

-- The rows of both kinds from row r on are linked.
abbrev pub BothListed : List ℕ → List ℕ → ℕ → Type 0
BothListed table links r = (owned : Bool) → Listed (is_under owned table) (first_word owned) links (row_count table) r
