-- Values that are legal, and where a written value ends.
-- Assumes nothing.
use Prim.Native.Nat.{ℕ, ◌≤◌, ◌<◌}
use mathlib.Core.Path.{◌≡◌, refl, sym, ◌∙◌, ap}
use mathlib.Core.Bool.{Bool, true, false, ◌&&◌, ◌||◌, not}
use mathlib.Core.List.{List, [], ◌∷◌, ◌++◌, append_assoc}
use mathlib.Core.Option.{some}
use native.Mathlib.Omega.{arith}
use lib.Dec.{eqb, leb, ltb}
use borrow.Author.Tests.{eqb-false, ltb-true, ltb-false, leb-true, leb-false, le-leb}
use Rattle.rules.specs.Lists.{any_of, all_of, gathered, is_one_of}
use Rattle.rules.specs.Refusals.{is_between}
use Rattle.rules.specs.Utf8.{is_scalar, encoded, decoded, sequence, well_formed}
use Rattle.rules.proofs.Lists.{by_cases, both_true, both_false, true-both, true-not-false, not-true, either_left, either-right, all_of-append}
use Rattle.rules.proofs.Utf8.{well-formed-append, encoded-decoded, decoded-encoded, decoded-scalars}
use Rattle.escapes.specs.Escapes.{escaped}
use Rattle.escapes.specs.Undoing.{nothing_bare}
use Rattle.escapes.proofs.Values.{value-back, nothing-bare}
use Rattle.characters.specs.Characters.{is_forbidden, holds_forbidden}
use Rattle.markup.specs.Reader.{is_char, is_legal, value_of, not_quote, not_less}

-- Two values end to end.
encoded-append : (cs ds : List ℕ) → encoded (cs ++ ds) ≡ encoded cs ++ encoded ds
unfolding encoded
encoded-append [] ds = refl
encoded-append (c ∷ cs) ds =
    ap (λ (l : List ℕ). sequence c ++ l) (encoded-append cs ds) ∙ sym (append_assoc (sequence c) (gathered sequence cs) (gathered sequence ds))

decoded-append : (a b : List ℕ) → well_formed a ≡ true → well_formed b ≡ true → decoded (a ++ b) ≡ decoded a ++ decoded b
decoded-append a b p q =
    let same : a ++ b ≡ encoded (decoded a ++ decoded b) =
    ap (λ (l : List ℕ). l ++ b) (sym (encoded-decoded a p)) ∙ ap (λ (l : List ℕ). encoded (decoded a) ++ l) (sym (encoded-decoded b q))
    ∙ sym (encoded-append (decoded a) (decoded b)) in
    ap decoded same
    ∙ decoded-encoded (decoded a ++ decoded b) (all_of-append is_scalar (decoded a) (decoded b) (decoded-scalars a p) (decoded-scalars b q))

pub legal-append : (a b : List ℕ) → is_legal a ≡ true → is_legal b ≡ true → is_legal (a ++ b) ≡ true
unfolding is_legal
legal-append a b p q =
    let h = both_true (well_formed a) (all_of is_char (decoded a)) p in
    let k = both_true (well_formed b) (all_of is_char (decoded b)) q in
    true-both (well-formed-append a b h.0 ∙ k.0)
    (rw (decoded-append a b h.0 k.0) (all_of-append is_char (decoded a) (decoded b) h.1 k.1))

-- What 21 leaves is what production 2 allows.
between : (low high c : ℕ) → low ≤ c → c ≤ high → is_between low high c ≡ true
between low high c l h = true-both (le-leb low c l) (le-leb c high h)

char-high : (c : ℕ) → 0xE000 ≤ c → c ≤ 0x10FFFF → (c ≡ 0xFFFE → ⊥) → (c ≡ 0xFFFF → ⊥) → is_char c ≡ true
char-high c l h n m =
    by_cases (leb c 0xFFFD)
    (λ q. either_left (is_between 0x10000 0x10FFFF c) (either-right (is_one_of (0x9 ∷ 0xA ∷ 0xD ∷ []) c || is_between 0x20 0xD7FF c) (between 0xE000 0xFFFD c l (leb-true c 0xFFFD q))))
    (λ q.
    let k = leb-false c 0xFFFD q in
    either-right (is_one_of (0x9 ∷ 0xA ∷ 0xD ∷ []) c || is_between 0x20 0xD7FF c || is_between 0xE000 0xFFFD c) (between 0x10000 0x10FFFF c (omega arith) h))

char-low : (c : ℕ) → 32 ≤ c → c < 0xD800 → is_char c ≡ true
char-low c l h =
    either_left (is_between 0x10000 0x10FFFF c) (either_left (is_between 0xE000 0xFFFD c) (either-right (is_one_of (0x9 ∷ 0xA ∷ 0xD ∷ []) c) (between 0x20 0xD7FF c l (omega arith))))

char-allowed : (c : ℕ) → is_scalar c ≡ true → is_forbidden c ≡ false → is_char c ≡ true
char-allowed c s f =
    let h = both_false (ltb c 32 && not (is_one_of (9 ∷ 10 ∷ 13 ∷ []) c)) (is_one_of (0xFFFE ∷ 0xFFFF ∷ []) c) f in
    let first = both_false (eqb c 0xFFFE) (eqb c 0xFFFF || false) h.1 in
    let second = both_false (eqb c 0xFFFF) false first.1 in
    by_cases (is_one_of (0x9 ∷ 0xA ∷ 0xD ∷ []) c)
    (λ q. either_left (is_between 0x10000 0x10FFFF c) (either_left (is_between 0xE000 0xFFFD c) (either_left (is_between 0x20 0xD7FF c) q)))
    (λ q.
    by_cases (ltb c 32)
    (λ t. absurd (true-not-false (true-both {a = ltb c 32} {b = not (is_one_of (9 ∷ 10 ∷ 13 ∷ []) c)} t (rw q refl)) h.0))
    (λ t.
    by_cases (ltb c 0xD800)
    (λ u. char-low c (ltb-false c 32 t) (ltb-true c 0xD800 u))
    (λ u.
    let k = both_true (leb 0xE000 c) (leb c 0x10FFFF) (rw u at s) in
    char-high c (leb-true 0xE000 c k.0) (leb-true c 0x10FFFF k.1) (eqb-false c 0xFFFE first.0) (eqb-false c 0xFFFF second.0))))

chars-allowed : (cs : List ℕ) → all_of is_scalar cs ≡ true → any_of is_forbidden cs ≡ false → all_of is_char cs ≡ true
chars-allowed [] s f = refl
chars-allowed (c ∷ cs) s f =
    let h = both_true (is_scalar c) (all_of is_scalar cs) s in
    let k = both_false (is_forbidden c) (any_of is_forbidden cs) f in
    true-both (char-allowed c h.0 k.0) (chars-allowed cs h.1 k.1)

pub value-legal : (value : List ℕ) → well_formed value ≡ true → holds_forbidden value ≡ false → is_legal value ≡ true
unfolding is_legal holds_forbidden
value-legal value w f = true-both w (chars-allowed (decoded value) (decoded-scalars value w) f)

-- A legal value is read from what is written of it.
pub value_read : (quoted : Bool) (value : List ℕ) → is_legal value ≡ true → value_of quoted (escaped quoted value) ≡ some value
unfolding value_of
value_read quoted value h = rw (value-back quoted value, h) refl

-- A written value holds no quote and no <.
bare-none : (l : List ℕ) → nothing_bare l ≡ true → (all_of not_quote l ≡ true) × (all_of not_less l ≡ true)
bare-none [] h = (refl, refl)
bare-none (b ∷ bs) h =
    let whole = both_true _ (nothing_bare bs) h in
    let here = both_false (eqb b 34) (eqb b 60 || false) (not-true (is_one_of (34 ∷ 60 ∷ []) b) (both_true (not (is_one_of (34 ∷ 60 ∷ []) b)) _ whole.0).0) in
    let later = bare-none bs whole.1 in
    (rw here.0 later.0, rw (both_false (eqb b 60) false here.1).0 later.1)

pub quote-ends : (quoted : Bool) (value : List ℕ) → all_of not_quote (escaped quoted value) ≡ true
quote-ends quoted value = (bare-none (escaped quoted value) (nothing-bare quoted value)).0

pub less-ends : (quoted : Bool) (value : List ℕ) → all_of not_less (escaped quoted value) ≡ true
less-ends quoted value = (bare-none (escaped quoted value) (nothing-bare quoted value)).1
