-- What the functions answer, from what they read.
-- Assumes nothing.
use Prim.Native.Nat.{ℕ, ◌+◌, ◌-◌, ◌*◌, ◌≤◌, ◌<◌}
use mathlib.Core.Path.{◌≡◌, refl, sym, ◌∙◌, ap}
use mathlib.Core.Bool.{Bool, true, false, ◌||◌, not}
use mathlib.Core.List.{List}
use native.Mathlib.Omega.{arith}
use lib.ListN.{length}
use lib.Dec.{eqb}
use borrow.Author.Tests.{eqb-true, eqb-false, eq-eqb, ne_eqb}
use Rattle.rules.specs.Table.{PARENT, word, row_count}
use Rattle.rules.proofs.Lists.{by_cases, true-not-false}
use Rattle.notes.specs.Notes.{NOTES, PREFIX, URI, note_at}
use Rattle.stacks.specs.Stacks.{PREFIXES, NUMBERED, top_at, under_at, value_at}
use Rattle.bindings.specs.Spelled.{number_at}
use Rattle.bindings.specs.Asking.{top_of, element_settled, attribute_settled, Asked, own_top, is_used, Searched, LeastUnused}

pub value_none : (notes : List ℕ) {d : ℕ} → d ≡ 0 → 0 ≡ number_at (value_at notes) d
value_none notes is = rw is refl

pub value_read : (notes : List ℕ) {d v : ℕ} → (d ≡ 0 → ⊥) → v ≡ value_at notes d → v ≡ number_at (value_at notes) d
value_read notes {d} some? read = read ∙ rw (ne_eqb d 0 some?) refl

module _ {notes tops path : List ℕ} {r : ℕ} (asked : Asked notes tops path r) where
  pub top-room : {p t : ℕ} → p ≡ note_at notes r PREFIX → t ≡ top_at tops PREFIXES p → NOTES * t ≤ length notes
  top-room read top = let h = asked.top in rw (top, read) h

module _ (notes tops path : List ℕ) (r : ℕ) where
  pub settled-read :
      {p t v u x : ℕ} → p ≡ note_at notes r PREFIX → t ≡ top_at tops PREFIXES p → v ≡ number_at (value_at notes) t → u ≡ note_at notes r URI → x ≡ under_at path NUMBERED 0
      → (eqb v u || eqb p x) ≡ element_settled notes tops path r
  unfolding element_settled
  settled-read read top value uri xml = rw (value, top, read, uri, xml) refl

  pub settled-bare : {u : ℕ} → u ≡ note_at notes r URI → u ≡ 0 → true ≡ attribute_settled notes tops path r
  unfolding attribute_settled
  settled-bare uri none? = rw (sym uri ∙ none?) refl

  module _ {u : ℕ} (uri : u ≡ note_at notes r URI) (full : u ≡ 0 → ⊥) {p : ℕ} (prefix : p ≡ note_at notes r PREFIX) where
    pub settled-unprefixed : p ≡ 0 → false ≡ attribute_settled notes tops path r
    unfolding attribute_settled
    settled-unprefixed none? = rw (ne_eqb (note_at notes r URI) 0 (λ z. full (uri ∙ z)), sym prefix ∙ none?) refl

    pub settled-named : {b : Bool} → (p ≡ 0 → ⊥) → b ≡ element_settled notes tops path r → b ≡ attribute_settled notes tops path r
    unfolding attribute_settled
    settled-named some? is = is ∙ rw (ne_eqb (note_at notes r URI) 0 (λ z. full (uri ∙ z)), ne_eqb (note_at notes r PREFIX) 0 (λ z. some? (prefix ∙ z))) refl

module _ (table notes tops : List ℕ) (e : ℕ) {p t : ℕ} (read : p ≡ note_at notes e PREFIX) (top : t ≡ top_at tops PREFIXES p) where
  same-top : top_of notes tops e ≡ t
  same-top = sym (top ∙ ap (top_at tops PREFIXES) read)

  pub own-none : t ≡ 0 → 0 ≡ own_top table notes tops e
  unfolding own_top
  own-none none? = rw (same-top, none?) refl

  module _ (some? : t ≡ 0 → ⊥) where
    pub top_within : top_of notes tops e ≤ row_count table → {r : ℕ} → r ≡ t - 1 → r < row_count table
    top_within most at = let z = same-top in rw at (omega arith)

    module _ {r owner : ℕ} (at : r ≡ t - 1) (parent : owner ≡ word table r PARENT) where
      owner-is : word table (top_of notes tops e - 1) PARENT ≡ owner
      owner-is = sym (parent ∙ ap (λ (x : ℕ). word table x PARENT) (at ∙ ap (λ (x : ℕ). x - 1) (sym same-top)))

      pub own-here : owner ≡ e → t ≡ own_top table notes tops e
      unfolding own_top
      own-here is = rw (owner-is, eq-eqb owner e is, same-top, ne_eqb t 0 some?) refl

      pub own-other : (owner ≡ e → ⊥) → 0 ≡ own_top table notes tops e
      unfolding own_top
      own-other other = rw (owner-is, ne_eqb owner e other, same-top, ne_eqb t 0 some?) refl

module _ (tops path : List ℕ) where
  pub used-none : (k : ℕ) {n : ℕ} → n ≡ under_at path NUMBERED k → n ≡ 0 → false ≡ is_used tops path k
  unfolding is_used
  used-none k read none? = rw (sym read ∙ none?) refl

  pub used-top : (k : ℕ) {n t : ℕ} → n ≡ under_at path NUMBERED k → (n ≡ 0 → ⊥) → t ≡ top_at tops PREFIXES n → not (eqb t 0) ≡ is_used tops path k
  unfolding is_used
  used-top k {n} read some? top = rw (sym read, ne_eqb n 0 some?, top) refl

  -- The search has come to k.
  pub record Searching (from k : ℕ) : Type 0 where
    pub low : from ≤ k
    pub high : (last : ℕ) → Searched tops path from last → k ≤ last
    pub used : (j : ℕ) → from ≤ j → j < k → is_used tops path j ≡ true

  pub search-start : (from : ℕ) → Searching from from
  search-start from = record { low = omega arith; high = λ last s. s.low; used = λ j low high. absurd (omega arith) }

  pub search-next : {from k : ℕ} → Searching from k → is_used tops path k ≡ true → Searching from (k + 1)
  search-next {from} {k} h is =
      record {
        low = omega (arith, h.low);
        high = λ last s.
            by_cases (eqb k last)
            (λ q. absurd (true-not-false is (ap (is_used tops path) (eqb-true k last q) ∙ s.free)))
            (λ q. let other = eqb-false k last q in omega (arith, h.high last s));
        used = λ j low high.
            by_cases (eqb j k)
            (λ q. ap (is_used tops path) (eqb-true j k q) ∙ is)
            (λ q. let other = eqb-false j k q in h.used j low (omega arith));
      }

  pub search-end : {from k : ℕ} → Searching from k → is_used tops path k ≡ false → LeastUnused tops path from k
  search-end h is = record { low = h.low; free = is; used = h.used }
