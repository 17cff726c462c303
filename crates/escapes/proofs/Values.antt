-- Laws of specs/Escapes.antt and specs/Undoing.antt: byte by byte.
-- Assumes nothing.
use Prim.Native.Nat.{ℕ}
use mathlib.Core.Path.{◌≡◌, refl, sym, ◌∙◌, ap, subst}
use mathlib.Core.Bool.{Bool, true, false}
use mathlib.Core.List.{List, [], ◌∷◌, ◌++◌}
use mathlib.Core.Option.{none, some}
use lib.Dec.{eqb}
use borrow.Author.Tests.{eqb-true, eq-eqb}
use Rattle.rules.specs.Lists.{any_of, gathered}
use Rattle.rules.specs.Utf8.{sequence}
use Rattle.rules.proofs.Lists.{by_cases, both_false, first_that-none, true-not-false}
use Rattle.escapes.specs.Escapes.{escapes, is_of, is_escaped, or_itself, escape, escaped}
use Rattle.escapes.specs.Undoing.{lines, referenced, is_bare, kept, before, read_after, read_value, Undone, nothing_bare, NothingBare}

-- A byte that is not escaped stands for itself.
pub escape-none : (quoted : Bool) (b : ℕ) → is_escaped quoted b ≡ false → escape quoted b ≡ b ∷ []
unfolding is_escaped escape
escape-none quoted b e = ap (or_itself b) (first_that-none (is_of b) (escapes quoted) e)

pub eqb-false-sym : (a b : ℕ) → eqb a b ≡ false → eqb b a ≡ false
eqb-false-sym a b e = by_cases (eqb b a) (λ t. absurd (true-not-false (eq-eqb a b (sym (eqb-true b a t))) e)) (λ f. f)

-- It is none of these.
pub record Ordinary (b : ℕ) : Type 0 where
  pub ampersand : eqb b 38 ≡ false
  pub less : eqb b 60 ≡ false
  pub greater : eqb b 62 ≡ false
  pub quote : eqb b 34 ≡ false
  pub return : eqb b 13 ≡ false

pub ordinary : (quoted : Bool) (b : ℕ) → is_escaped quoted b ≡ false → Ordinary b
unfolding is_escaped escapes
ordinary quoted b e =
    let first = both_false (eqb b 38) _ e in
    let second = both_false (eqb b 60) _ first.1 in
    let third = both_false (eqb b 62) _ second.1 in
    let fourth = both_false (eqb b 34) _ third.1 in
    let fifth = both_false (eqb b 13) _ fourth.1 in
    record { ampersand = first.0; less = second.0; greater = third.0; quote = fourth.0; return = fifth.0 }

-- In quotes it is no tab and no line feed either.
quoted-ordinary : (b : ℕ) → is_escaped true b ≡ false → (eqb b 9 ≡ false) × (eqb b 10 ≡ false)
unfolding is_escaped escapes
quoted-ordinary b e =
    let first = both_false (eqb b 38) _ e in
    let second = both_false (eqb b 60) _ first.1 in
    let third = both_false (eqb b 62) _ second.1 in
    let fourth = both_false (eqb b 34) _ third.1 in
    let fifth = both_false (eqb b 13) _ fourth.1 in
    let sixth = both_false (eqb b 9) _ fifth.1 in
    (sixth.0, (both_false (eqb b 10) false sixth.1).0)

-- What holds of each escape and of every other byte holds of every byte.
module _ (P : Bool → ℕ → List ℕ → Type 0) (five : (quoted : Bool) → P quoted 38 (escape quoted 38) × P quoted 60 (escape quoted 60) × P quoted 62 (escape quoted 62) × P quoted 34 (escape quoted 34) × P quoted 13 (escape quoted 13)) (two : P true 9 (escape true 9) × P true 10 (escape true 10)) (other : (quoted : Bool) (b : ℕ) → is_escaped quoted b ≡ false → P quoted b (b ∷ [])) where
  at : (quoted : Bool) (b k : ℕ) → eqb b k ≡ true → P quoted k (escape quoted k) → P quoted b (escape quoted b)
  at quoted b k e p = subst (λ (n : ℕ). P quoted n (escape quoted n)) (sym (eqb-true b k e)) p

  unescaped : (quoted : Bool) (b : ℕ) → is_escaped quoted b ≡ false → P quoted b (escape quoted b)
  unescaped quoted b e = subst (P quoted b) (sym (escape-none quoted b e)) (other quoted b e)

  pub every_byte : (quoted : Bool) (b : ℕ) → P quoted b (escape quoted b)
  unfolding is_escaped escapes
  every_byte quoted b =
      by_cases (eqb b 38) (λ e. at quoted b 38 e (five quoted).0) (λ e1.
      by_cases (eqb b 60) (λ e. at quoted b 60 e (five quoted).1) (λ e2.
      by_cases (eqb b 62) (λ e. at quoted b 62 e (five quoted).2) (λ e3.
      by_cases (eqb b 34) (λ e. at quoted b 34 e (five quoted).3) (λ e4.
      by_cases (eqb b 13) (λ e. at quoted b 13 e (five quoted).4) (λ e5.
      rest quoted e1 e2 e3 e4 e5)))))
    where
      rest : (q : Bool) → eqb b 38 ≡ false → eqb b 60 ≡ false → eqb b 62 ≡ false → eqb b 34 ≡ false → eqb b 13 ≡ false → P q b (escape q b)
      rest true e1 e2 e3 e4 e5 =
          by_cases (eqb b 9) (λ e. at true b 9 e two.0) (λ e6.
          by_cases (eqb b 10) (λ e. at true b 10 e two.1) (λ e7. unescaped true b (rw (e1, e2, e3, e4, e5, e6, e7) refl)))
      rest false e1 e2 e3 e4 e5 = unescaped false b (rw (e1, e2, e3, e4, e5) refl)

-- What holds no carriage return is not changed at its line ends.
pub lines-kept : (bytes : List ℕ) → any_of (eqb 13) bytes ≡ false → lines bytes ≡ bytes
unfolding lines
lines-kept [] e = refl
lines-kept (b ∷ bs) e =
    let h = both_false (eqb 13 b) (any_of (eqb 13) bs) e in
    let f : eqb b 13 ≡ false = eqb-false-sym 13 b h.0 in
    rw (f, lines-kept bs h.1) refl

-- A written value holds none.
returns-gone : (rest : List ℕ) (quoted : Bool) (b : ℕ) → any_of (eqb 13) (escape quoted b ++ rest) ≡ any_of (eqb 13) rest
unfolding escapes escape
returns-gone rest =
    every_byte (λ (quoted : Bool) (b : ℕ) (l : List ℕ). any_of (eqb 13) (l ++ rest) ≡ any_of (eqb 13) rest)
    (λ quoted. (refl, refl, refl, refl, refl))
    (refl, refl)
    (λ quoted b e. rw (eqb-false-sym b 13 (ordinary quoted b e).return) refl)

pub no_return : (quoted : Bool) (value : List ℕ) → any_of (eqb 13) (escaped quoted value) ≡ false
unfolding escaped
no_return quoted [] = refl
no_return quoted (b ∷ bs) = returns-gone (gathered (escape quoted) bs) quoted b ∙ no_return quoted bs

-- Nothing bare.
none_bare : (rest : List ℕ) (quoted : Bool) (b : ℕ) → nothing_bare (escape quoted b ++ rest) ≡ nothing_bare rest
unfolding escapes escape
none_bare rest =
    every_byte (λ (quoted : Bool) (b : ℕ) (l : List ℕ). nothing_bare (l ++ rest) ≡ nothing_bare rest)
    (λ quoted. (refl, refl, refl, refl, refl))
    (refl, refl)
    (λ quoted b e. let o = ordinary quoted b e in rw (o.quote, o.less, o.ampersand) refl)

pub nothing-bare : NothingBare
unfolding escaped
nothing-bare quoted [] = refl
nothing-bare quoted (b ∷ bs) = none_bare (gathered (escape quoted) bs) quoted b ∙ nothing-bare quoted bs

-- A byte that is not escaped is read as itself.
bare : (quoted : Bool) (b : ℕ) → is_escaped quoted b ≡ false → is_bare quoted b ≡ true
unfolding is_bare
bare true b e = let o = ordinary true b e in rw (o.less, o.ampersand, o.quote) refl
bare false b e = let o = ordinary false b e in rw (o.less, o.ampersand, o.greater) refl

keeps : (quoted : Bool) (b : ℕ) → is_escaped quoted b ≡ false → kept quoted b ≡ b
unfolding kept
keeps true b e = let o = quoted-ordinary b e in rw (o.0, o.1, (ordinary true b e).return) refl
keeps false b e = refl

itself : (rest : List ℕ) (quoted : Bool) (b : ℕ) → is_escaped quoted b ≡ false → read_after quoted none (b ∷ rest) ≡ before (b ∷ []) (read_after quoted none rest)
itself rest quoted b e = rw ((ordinary quoted b e).ampersand, bare quoted b e, keeps quoted b e) refl

-- A byte of a value comes back, whatever follows.
back : (rest : List ℕ) (quoted : Bool) (b : ℕ) → read_after quoted none (escape quoted b ++ rest) ≡ before (b ∷ []) (read_after quoted none rest)
unfolding escapes escape referenced sequence
back rest =
    every_byte (λ (quoted : Bool) (b : ℕ) (l : List ℕ). read_after quoted none (l ++ rest) ≡ before (b ∷ []) (read_after quoted none rest))
    (λ quoted. (refl, refl, refl, refl, refl))
    (refl, refl)
    (itself rest)

-- A value comes back.
pub value-back : (quoted : Bool) (value : List ℕ) → read_value quoted (escaped quoted value) ≡ some value
unfolding read_value escaped
value-back quoted [] = refl
value-back quoted (b ∷ bs) = back (gathered (escape quoted) bs) quoted b ∙ ap (before (b ∷ [])) (value-back quoted bs)

pub undone : Undone
undone quoted value =
    ap (read_value quoted) (lines-kept (escaped quoted value) (no_return quoted value)) ∙ value-back quoted value
