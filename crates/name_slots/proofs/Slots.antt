-- What a slot tells.
-- Assumes nothing.
use Prim.Native.Nat.{ℕ}
use mathlib.Core.Path.{◌≡◌, refl, sym, ◌∙◌}
use mathlib.Core.Bool.{Bool, true, false, ◌&&◌, not}
use mathlib.Core.List.{List}
use lib.Dec.{eqb}
use borrow.Author.Tests.{eqb-true}
use Rattle.rules.specs.Table.{TYPE, ELEMENT, word}
use Rattle.rules.proofs.Lists.{both_true, true-not-false}
use Rattle.notes.specs.Notes.{PREFIX, URI, note_at}
use Rattle.name_slots.specs.Slots.{NEAR, DECLARED, STANDS, known_at, Held}

-- A slot that is told to remember this.
pub held :
    (table notes known : List ℕ) (r s : ℕ) {n p u : ℕ} {is : Bool} → is ≡ (eqb (known_at known s NEAR) n && eqb (known_at known s DECLARED) p && eqb (known_at known s STANDS) u) → is ≡ true
    → p ≡ note_at notes r PREFIX → u ≡ note_at notes r URI → (eqb (word table r TYPE) ELEMENT ≡ false → (p ≡ 0 → ⊥)) → Held table notes known r n
held table notes known r s {n} {p} {u} told is prefix uri named =
    let three = both_true (eqb (known_at known s NEAR) n && eqb (known_at known s DECLARED) p) (eqb (known_at known s STANDS) u) (sym told ∙ is) in
    let two = both_true (eqb (known_at known s NEAR) n) (eqb (known_at known s DECLARED) p) three.0 in
    record {
      slot = s;
      near = eqb-true (known_at known s NEAR) n two.0;
      prefix = eqb-true (known_at known s DECLARED) p two.1 ∙ prefix;
      uri = eqb-true (known_at known s STANDS) u three.1 ∙ uri;
      named = λ other z. named other (prefix ∙ z);
    }

-- An attribute without a prefix is not asked for.
pub prefixed : (kind p : ℕ) → (eqb p 0 && not (eqb kind ELEMENT)) ≡ false → eqb kind ELEMENT ≡ false → (p ≡ 0 → ⊥)
prefixed kind p left other z = go (eqb p 0) left (rw z refl)
  where
    go : (b : Bool) → (b && not (eqb kind ELEMENT)) ≡ false → b ≡ true → ⊥
    go true e f = true-not-false (rw other refl) e
    go false e f = true-not-false f refl
