-- What is in scope, asked by numbers, is what the definitions find.
-- Assumes nothing.
use Prim.Native.Nat.{ℕ, ◌≤◌, zero-le}
use mathlib.Core.Path.{◌≡◌, refl, sym, ◌∙◌, ap}
use mathlib.Core.Bool.{Bool, true, false, ◌&&◌, not}
use mathlib.Core.List.{List, [], ◌∷◌, map}
use mathlib.Core.Option.{Option, none, some}
use lib.Dec.{eqb}
use borrow.Author.Tests.{eqb-true, eqb-false, eq-eqb, ne_eqb}
use Rattle.rules.specs.Lists.{first_that, filtered, any_of, is_empty, same_bytes}
use Rattle.rules.specs.Table.{xml_prefix, xmlns_prefix, xml_uri, Node}
use Rattle.rules.specs.Lookups.{declares, in_scope_uri, uri_bytes, serves}
use Rattle.rules.proofs.Lists.{by_cases, true-not-false, both_true, true-both, same_bytes-equal, same_bytes-empty, unequal-same_bytes}
use Rattle.rules.proofs.Declarations.{legal}
use Rattle.rules.proofs.Repairs.{found-means}
use Rattle.numbers.specs.Numbers.{Names, Spelling}
use Rattle.numbers.proofs.Laws.{same_number}
use Rattle.stacks.specs.Scopes.{nearest, serving, first, Each}
use Rattle.stacks.proofs.Each.{each_map, each_both}
use Rattle.bindings.specs.Spelled.{Declares, row_at, number_at}

-- The numbers of the empty name and of others.
module _ {spelling : ℕ → List ℕ} {names : ℕ} (s : Spelling spelling names) where
  pub same_names : {m n : ℕ} {a b : List ℕ} → Names spelling names m a → Names spelling names n b → same_bytes a b ≡ eqb m n
  same_names p q = sym (same_number s p q)

  pub blank-name : Names spelling names 0 []
  blank-name = record { known = zero-le; spelled = s.empty }

  pub blank-test : {n : ℕ} {a : List ℕ} → Names spelling names n a → is_empty a ≡ eqb n 0
  blank-test {a = a} p = sym (same_bytes-empty a) ∙ same_names p blank-name

-- Tests that agree find the same.
first_that-same : {A : Type 0} (test other : A → Bool) → ((x : A) → test x ≡ other x) → (xs : List A) → first_that test xs ≡ first_that other xs
first_that-same test other same [] = refl
first_that-same test other same (x ∷ xs) = rw (same x, first_that-same test other same xs) refl

first_that-filtered : {A : Type 0} (test other : A → Bool) (xs : List A) → first_that test (filtered other xs) ≡ first_that (λ (x : A). other x && test x) xs
first_that-filtered test other [] = refl
first_that-filtered test other (x ∷ xs) =
    let rest = first_that-filtered test other xs in
    by_cases (other x)
    (λ q. rw (q, rest) refl)
    (λ q. rw (q, rest) refl)

-- A position of the scope that serves a number: its value has it, its prefix is not empty, and the nearest position with that
-- prefix has that value.
module _ (pre val : ℕ → ℕ) where
  abbrev bound : ℕ → ℕ → Bool
  bound u d = eqb (val d) u && not (eqb (pre d) 0)

  abbrev serving? : List ℕ → ℕ → ℕ → Bool
  serving? scope u d = bound u d && eqb (val (nearest pre scope (pre d))) u

  nearest-self : (d : ℕ) (scope : List ℕ) {n : ℕ} → pre d ≡ n → nearest pre (d ∷ scope) n ≡ d
  unfolding nearest
  nearest-self d scope {n} is = rw (eq-eqb (pre d) n is) refl

  nearest-further : (d : ℕ) (scope : List ℕ) {n : ℕ} → (pre d ≡ n → ⊥) → nearest pre (d ∷ scope) n ≡ nearest pre scope n
  unfolding nearest
  nearest-further d scope {n} other = rw (ne_eqb (pre d) n other) refl

  -- Where d itself is not asked for, or not bound, the positions behind it serve as they do without it, but for those of its
  -- prefix, which do not.
  serving-behind : (d : ℕ) (scope : List ℕ) (u : ℕ) (test : ℕ → Bool) → (test (pre d) && bound u d) ≡ false → (x : ℕ) → ((not (eqb (pre x) (pre d)) && test (pre x)) && serving? scope u x) ≡ (test (pre x) && serving? (d ∷ scope) u x)
  serving-behind d scope u test not-both x =
      by_cases (eqb (pre x) (pre d))
      (λ e.
      let same = eqb-true (pre x) (pre d) e in
      rw e
      (by_cases (test (pre x) && serving? (d ∷ scope) u x)
      (λ q.
      let asked = both_true (test (pre x)) (serving? (d ∷ scope) u x) q in
      let parts = both_true (bound u x) (eqb (val (nearest pre (d ∷ scope) (pre x))) u) asked.1 in
      let full = (both_true (eqb (val x) u) (not (eqb (pre x) 0)) parts.0).1 in
      let value : eqb (val d) u ≡ true = ap (λ (y : ℕ). eqb (val y) u) (sym (nearest-self d scope (sym same))) ∙ parts.1 in
      absurd (true-not-false (true-both (ap test (sym same) ∙ asked.0) (true-both value (ap (λ (n : ℕ). not (eqb n 0)) (sym same) ∙ full))) not-both))
      (λ q. sym q)))
      (λ e. rw (e, nearest-further d scope (λ same. eqb-false (pre x) (pre d) e (sym same))) refl)

  -- Among the positions whose prefixes pass a test, the first that serves is the first of the serving ones.
  first-serving : (scope : List ℕ) (u : ℕ) (test : ℕ → Bool) → first_that (λ (d : ℕ). test (pre d)) (serving pre val scope u) ≡ first_that (λ (d : ℕ). test (pre d) && serving? scope u d) scope
  unfolding serving
  first-serving [] u test = refl
  first-serving (d ∷ scope) u test =
      let narrower : ℕ → Bool = λ p. not (eqb p (pre d)) && test p in
      let further = filtered (λ (x : ℕ). not (eqb (pre x) (pre d))) (serving pre val scope u) in
      let rest : first_that (λ (x : ℕ). test (pre x)) further ≡ first_that (λ (x : ℕ). narrower (pre x) && serving? scope u x) scope =
      first_that-filtered (λ (x : ℕ). test (pre x)) (λ (x : ℕ). not (eqb (pre x) (pre d))) (serving pre val scope u) ∙ first-serving scope u narrower in
      let behind : (test (pre d) && bound u d) ≡ false → first_that (λ (x : ℕ). test (pre x)) further ≡ first_that (λ (x : ℕ). test (pre x) && serving? (d ∷ scope) u x) scope =
      λ not-both. rest ∙ first_that-same (λ (x : ℕ). narrower (pre x) && serving? scope u x) (λ (x : ℕ). test (pre x) && serving? (d ∷ scope) u x) (serving-behind d scope u test not-both) scope in
      by_cases (bound u d)
      (λ b.
      let value = (both_true (eqb (val d) u) (not (eqb (pre d) 0)) b).0 in
      by_cases (test (pre d))
      (λ t. rw (b, t, nearest-self d scope refl, value) refl)
      (λ t. rw (b, t) (behind (rw t refl))))
      (λ b.
      by_cases (test (pre d))
      (λ t. rw (b, t) (behind (rw (b, t) refl)))
      (λ t. rw (b, t) (behind (rw t refl))))

-- The first row that passes a test, by a test of positions.
abbrev or_none : Option ℕ → ℕ
or_none none = 0
or_none (some d) = d

first-mapped : (row : ℕ → Node) (test : Node → Bool) (other : ℕ → Bool) (scope : List ℕ) → Each (λ (d : ℕ). (d ≡ 0 → ⊥) × (test (row d) ≡ other d)) scope → first_that test (map row scope) ≡ row_at row (or_none (first_that other scope))
first-mapped row test other [] each = refl
first-mapped row test other (d ∷ scope) each =
    rw (each.0.1, first-mapped row test other scope each.1)
    (by_cases (other d)
    (λ q. rw (q, ne_eqb d 0 each.0.0) refl)
    (λ q. rw q refl))

first_of : (ds : List ℕ) → or_none (first_that (λ (d : ℕ). true) ds) ≡ first ds
first_of [] = refl
first_of (d ∷ ds) = refl

-- A prefix that is neither built in nor declared means nothing.
not-found-means : (prefix : List ℕ) (scope : List Node) → same_bytes prefix xml_prefix ≡ false → same_bytes prefix xmlns_prefix ≡ false → first_that (declares prefix) scope ≡ none → uri_bytes (in_scope_uri scope prefix) ≡ []
unfolding in_scope_uri
not-found-means prefix scope other another missing = rw (other, another, missing) refl

-- A scope whose declarations have numbers.
module _ {spelling : ℕ → List ℕ} {names : ℕ} (s : Spelling spelling names) (pre val : ℕ → ℕ) (row : ℕ → Node) where
  -- The nearest declaration of a prefix.
  pub first-declared : (scope : List ℕ) → Each (Declares spelling names pre val row) scope → {p : ℕ} {prefix : List ℕ} → Names spelling names p prefix → first_that (declares prefix) (map row scope) ≡ row_at row (nearest pre scope p)
  unfolding nearest
  first-declared [] each is = refl
  first-declared (d ∷ scope) each {p} is =
      rw (same_names s each.0.prefix is, first-declared scope each.1 is)
      (by_cases (eqb (pre d) p)
      (λ q. rw (q, ne_eqb d 0 each.0.some) refl)
      (λ q. rw q refl))

  pub nearest-some : (scope : List ℕ) → Each (Declares spelling names pre val row) scope → (p : ℕ) → (nearest pre scope p ≡ 0 → ⊥) → (pre (nearest pre scope p) ≡ p) × Declares spelling names pre val row (nearest pre scope p)
  unfolding nearest
  nearest-some [] each p other = absurd (other refl)
  nearest-some (d ∷ scope) each p other =
      by_cases (eqb (pre d) p)
      (λ q. rw q (eqb-true (pre d) p q, each.0))
      (λ q. rw q (nearest-some scope each.1 p (rw q at other)))

  -- The prefix of a declaration in scope has a nearest one.
  nearest-each : (scope : List ℕ) → Each (Declares spelling names pre val row) scope → Each (λ (d : ℕ). nearest pre scope (pre d) ≡ 0 → ⊥) scope
  unfolding nearest
  nearest-each [] each = tt
  nearest-each (d ∷ scope) each = (
    rw (eq-eqb (pre d) (pre d) refl) each.0.some,
    each_map
        (λ x some?. by_cases (eqb (pre d) (pre x)) (λ q. rw q each.0.some) (λ q. rw q some?))
        scope (nearest-each scope each.1),
  )

  pub any-declared : (scope : List ℕ) → Each (Declares spelling names pre val row) scope → {p : ℕ} {prefix : List ℕ} → Names spelling names p prefix → any_of (declares prefix) (map row scope) ≡ not (eqb (nearest pre scope p) 0)
  unfolding nearest
  any-declared [] each is = refl
  any-declared (d ∷ scope) each {p} is =
      rw (same_names s each.0.prefix is, any-declared scope each.1 is)
      (by_cases (eqb (pre d) p)
      (λ q. rw (q, ne_eqb d 0 each.0.some) refl)
      (λ q. rw q refl))

  -- A prefix that has no number is not declared.
  pub none-declared : (scope : List ℕ) → Each (Declares spelling names pre val row) scope → {prefix : List ℕ} → ((n : ℕ) → n ≤ names → spelling n ≡ prefix → ⊥) → any_of (declares prefix) (map row scope) ≡ false
  none-declared [] each missing = refl
  none-declared (d ∷ scope) each {prefix} missing =
      rw (unequal-same_bytes (row d).local.bytes prefix (λ same. missing (pre d) each.0.prefix.known (each.0.prefix.spelled ∙ same)), none-declared scope each.1 missing) refl

  -- What a prefix that is not built in means is the value of its nearest declaration.
  module _ (scope : List ℕ) (each : Each (Declares spelling names pre val row) scope) where
    pub means : {p : ℕ} {prefix : List ℕ} → Names spelling names p prefix → same_bytes prefix xml_prefix ≡ false → same_bytes prefix xmlns_prefix ≡ false → Names spelling names (number_at val (nearest pre scope p)) (uri_bytes (in_scope_uri (map row scope) prefix))
    means {p} {prefix} is other another =
        by_cases (eqb (nearest pre scope p) 0)
        (λ q.
        rw (q, not-found-means prefix (map row scope) other another (first-declared scope each is ∙ rw q refl)) (blank-name s))
        (λ q.
        let d = (nearest-some scope each p (eqb-false (nearest pre scope p) 0 q)).1 in
        rw (q, found-means prefix (map row scope) (row (nearest pre scope p)) other another (first-declared scope each is ∙ rw q refl)) d.value)

    serves-number : {u : ℕ} {uri : List ℕ} → Names spelling names u uri → same_bytes uri xml_uri ≡ false → (d : ℕ) → Declares spelling names pre val row d → (nearest pre scope (pre d) ≡ 0 → ⊥) → serves (map row scope) uri (row d) ≡ serving? pre val scope u d
    unfolding serves
    serves-number {u} {uri} is other d g some? =
        let same = same_names s g.value is in
        rw (same, blank-test s g.prefix)
        (by_cases (eqb (val d) u)
        (λ v.
        by_cases (eqb (pre d) 0)
        (λ q. rw (v, q) refl)
        (λ q.
        let l = legal (row d) g.kind g.legal in
        let m = means g.prefix (l.xml_alone ∙ ap (λ (b : List ℕ). same_bytes b xml_uri) (same_bytes-equal (row d).value.bytes uri (same ∙ v)) ∙ other) l.not_xmlns in
        rw (v, q, same_names s m is, ne_eqb (nearest pre scope (pre d)) 0 some?) refl))
        (λ v. rw v (by_cases (eqb (pre d) 0) (λ q. rw q refl) (λ q. rw q refl))))

    -- The first declaration that serves a URI.
    pub first-served : {u : ℕ} {uri : List ℕ} → Names spelling names u uri → same_bytes uri xml_uri ≡ false → first_that (serves (map row scope) uri) (map row scope) ≡ row_at row (first (serving pre val scope u))
    first-served {u} {uri} is other =
        first-mapped row (serves (map row scope) uri) (serving? pre val scope u) scope
        (each_both (λ d g some?. (g.some, serves-number is other d g some?)) scope each (nearest-each scope each))
        ∙ ap (row_at row) (ap or_none (sym (first-serving pre val scope u (λ p. true))) ∙ first_of (serving pre val scope u))
