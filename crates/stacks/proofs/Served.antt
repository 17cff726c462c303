-- The first position that serves a value, found along the value's stack.
-- Assumes nothing.
use Prim.Native.Nat.{ℕ, zero, suc, ◌*◌, ◌≤◌, ◌<◌}
use mathlib.Core.Path.{◌≡◌, refl, sym, ap, ◌∙◌}
use mathlib.Core.Bool.{Bool, true, false, cond, ◌&&◌, not}
use mathlib.Core.List.{List, [], ◌∷◌}
use native.Mathlib.Omega.{arith}
use borrow.Author.Tests.{eqb-true, eqb-false, eq-eqb, ne_eqb}
use lib.Dec.{eqb}
use lib.ListN.{length}
use Rattle.rules.specs.Lists.{filtered}
use Rattle.rules.proofs.Lists.{by_cases}
use Rattle.stacks.specs.Scopes.{nearest, differs, serving, first, Each}
use Rattle.stacks.specs.Stacks.{PREFIXES, VALUES, COUNTS, BELOW, top_at, under_at, prefix_at, value_at, Stacked, Inside, On, Held}
use Rattle.stacks.proofs.Each.{each_map, length_none}
use Rattle.stacks.proofs.Threaded.{thread-fresh, on-unique}

and-true : (b : Bool) → (b && true) ≡ b
and-true true = refl
and-true false = refl

and-false : (a b : Bool) → (a && (b && false)) ≡ false
and-false true true = refl
and-false true false = refl
and-false false b = refl

-- The position has the value, a prefix, and is the nearest one of its prefix in a scope.
module _ (pre val : ℕ → ℕ) (u : ℕ) where
  abbrev hit : (ℕ → ℕ) → ℕ → Bool
  hit near d = eqb (val d) u && (not (eqb (pre d) 0) && eqb (near (pre d)) d)

  hits-same : (near near' : ℕ → ℕ) (l : List ℕ) → ((n : ℕ) → near n ≡ near' n) → filtered (hit near) l ≡ filtered (hit near') l
  hits-same near near' [] same = refl
  hits-same near near' (d ∷ l) same = rw (same (pre d), hits-same near near' l same)

  -- One nearer position shadows those of its prefix.
  hits-shadowed : (x : ℕ) (scope l : List ℕ) → Each (λ d. d ≡ x → ⊥) l → filtered (hit (nearest pre (x ∷ scope))) l ≡ filtered (differs pre (pre x)) (filtered (hit (nearest pre scope)) l)
  unfolding nearest
  hits-shadowed x scope [] fresh = refl
  hits-shadowed x scope (d ∷ l) fresh =
      let further = hits-shadowed x scope l fresh.1 in
      by_cases (eqb (pre x) (pre d))
      (λ t.
      let same : eqb (pre d) (pre x) ≡ true = eq-eqb (pre d) (pre x) (sym (eqb-true (pre x) (pre d) t)) in
      let apart : eqb x d ≡ false = ne_eqb x d (λ e. fresh.0 (sym e)) in
      by_cases (hit (nearest pre scope) d)
      (λ h. rw (t, apart, and-false (eqb (val d) u) (not (eqb (pre d) 0)), h, same) further)
      (λ h. rw (t, apart, and-false (eqb (val d) u) (not (eqb (pre d) 0)), h) further))
      (λ t.
      let other : eqb (pre d) (pre x) ≡ false = ne_eqb (pre d) (pre x) (λ e. eqb-false (pre x) (pre d) t (sym e)) in
      by_cases (hit (nearest pre scope) d)
      (λ h. rw (t, h, other) (ap (λ r. d ∷ r) further))
      (λ h. rw (t, h) further))

  serving-hits : (below : ℕ → ℕ) (scope : List ℕ) → Stacked (λ x. 0) below scope → Each (λ x. 0 < x) scope → serving pre val scope u ≡ filtered (hit (nearest pre scope)) scope
  unfolding serving nearest
  serving-hits below [] s h = refl
  serving-hits below (x ∷ scope) s h =
      let fresh = thread-fresh below x scope scope s.0 (omega arith) s.1 s.1 h.1 h.1 in
      rw (eq-eqb (pre x) (pre x) refl, eq-eqb x x refl, and-true (not (eqb (pre x) 0)), serving-hits below scope s.1 h.1, hits-shadowed x scope scope fresh)

-- The walk along the value's stack.
module _ (notes tops path : List ℕ) (u : ℕ) where
  abbrev pre : ℕ → ℕ
  pre = prefix_at notes

  abbrev val : ℕ → ℕ
  val = value_at notes

  abbrev serves : ℕ → Bool
  serves d = not (eqb (pre d) 0) && eqb (top_at tops PREFIXES (pre d)) d

  abbrev hits : List ℕ → List ℕ
  hits = filtered (λ d. eqb (val d) u && serves d)

  -- It has come to the nearest position of what is left of the scope, and that decides.
  pub record Walking (at : ℕ) : Type 0 where
    pub further : List ℕ
    pub next : at ≡ nearest val further u
    pub stacked : Stacked val (under_at path VALUES) further
    pub inside : Each (Inside notes tops path) further
    pub few : length further ≤ length path * length path
    pub left : (scope : List ℕ) → On notes tops path scope → first (hits further) ≡ first (serving pre val scope u)

  pub walk_start : Held notes tops path → (at : ℕ) → at ≡ top_at tops VALUES u → Walking at
  walk_start held at top =
      let on = held.on in
      record {
        further = held.scope;
        next = top ∙ on.values.tops u;
        stacked = on.values.unders;
        inside = on.inside;
        few = held.few;
        left = λ scope other.
            ap first
            (hits-same pre val u (top_at tops PREFIXES) (nearest pre held.scope) held.scope on.prefixes.tops
            ∙ sym (serving-hits pre val u (under_at path BELOW) held.scope on.below (each_map (λ d i. i.row) held.scope on.inside))
            ∙ ap (λ l. serving pre val l u) (on-unique held.scope scope on other));
      }

  -- What lies behind the nearest position.
  record After (further : List ℕ) (at : ℕ) : Type 0 where
    pub rest : List ℕ
    pub here : Inside notes tops path at
    pub under : under_at path VALUES at ≡ nearest val rest u
    pub stacked : Stacked val (under_at path VALUES) rest
    pub inside : Each (Inside notes tops path) rest
    pub shorter : length rest < length further
    pub hits : hits further ≡ cond (serves at) (at ∷ hits rest) (hits rest)

  after : (further : List ℕ) (at : ℕ) → Stacked val (under_at path VALUES) further → Each (Inside notes tops path) further → 0 < at → at ≡ nearest val further u → After further at
  unfolding nearest
  after [] at s i h e = absurd (omega arith)
  after (d ∷ further) at s i h e =
      by_cases (eqb (val d) u)
      (λ t.
      let same : at ≡ d = rw t at e in
      record {
        rest = further;
        here = rw same i.0;
        under = ap (under_at path VALUES) same ∙ s.0 ∙ ap (nearest val further) (eqb-true (val d) u t);
        stacked = s.1;
        inside = i.1;
        shorter = omega arith;
        hits = rw (same, t);
      })
      (λ t.
      let a = after further at s.1 i.1 h (rw t at e) in
      let shorter : length a.rest < length further = a.shorter in
      record { rest = a.rest; here = a.here; under = a.under; stacked = a.stacked; inside = a.inside; shorter = omega arith; hits = rw t a.hits })

  -- how far it is to the end of the stack
  unfoldable pub steps : ℕ → ℕ → ℕ
  steps zero at = 0
  steps (suc most) at = cond (eqb at 0) 0 (suc (steps most (under_at path VALUES at)))

  steps-same : (further : List ℕ) (most more : ℕ) → length further ≤ most → length further ≤ more → Stacked val (under_at path VALUES) further → Each (Inside notes tops path) further → steps most (nearest val further u) ≡ steps more (nearest val further u)
  unfolding nearest steps
  steps-same [] zero zero h i s j = refl
  steps-same [] zero (suc more) h i s j = refl
  steps-same [] (suc most) zero h i s j = refl
  steps-same [] (suc most) (suc more) h i s j = refl
  steps-same (d ∷ further) zero more h i s j = absurd (omega arith)
  steps-same (d ∷ further) (suc most) zero h i s j = absurd (omega arith)
  steps-same (d ∷ further) (suc most) (suc more) h i s j =
      by_cases (eqb (val d) u)
      (λ t.
      let row : 0 < d = j.0.row in
      let under : under_at path VALUES d ≡ nearest val further u = s.0 ∙ ap (nearest val further) (eqb-true (val d) u t) in
      rw (t, ne_eqb d 0 (λ e. omega arith), under) (ap suc (steps-same further most more (omega arith) (omega arith) s.1 j.1)))
      (λ t. rw t (steps-same further (suc most) (suc more) (omega arith) (omega arith) s.1 j.1))

  module _ (at : ℕ) (h : 0 < at) (w : Walking at) where
    behind : After w.further at
    behind = after w.further at w.stacked w.inside h w.next

    pub walk_inside : Inside notes tops path at
    walk_inside = behind.here

    pub walk-found : serves at ≡ true → (scope : List ℕ) → On notes tops path scope → at ≡ first (serving pre val scope u)
    walk-found t scope on =
        let found : hits w.further ≡ at ∷ hits behind.rest = rw t at behind.hits in
        sym (ap first found) ∙ w.left scope on

    falls : (most : ℕ) → length w.further ≤ most → steps most (under_at path VALUES at) < steps most at
    unfolding steps
    falls zero i = let shorter : length behind.rest < length w.further = behind.shorter in absurd (omega arith)
    falls (suc most) i =
        let shorter : length behind.rest < length w.further = behind.shorter in
        let same = steps-same behind.rest (suc most) most (omega arith) (omega arith) behind.stacked behind.inside in
        rw (behind.under, same, ne_eqb at 0 (λ e. omega arith)) (omega arith)

    module _ (next : ℕ) (link : next ≡ under_at path VALUES at) where
      pub walk-next : serves at ≡ false → Walking next
      walk-next t =
          let shorter : length behind.rest < length w.further = behind.shorter in
          let few : length w.further ≤ length path * length path = w.few in
          let passed : hits w.further ≡ hits behind.rest = rw t at behind.hits in
          record {
            further = behind.rest;
            next = link ∙ behind.under;
            stacked = behind.stacked;
            inside = behind.inside;
            few = omega arith;
            left = λ scope on. sym (ap first passed) ∙ w.left scope on;
          }

      pub walk-falls : steps (length path * length path) next < steps (length path * length path) at
      walk-falls = rw link (falls (length path * length path) w.few)

  no-hits : (further : List ℕ) → Each (Inside notes tops path) further → 0 ≡ nearest val further u → hits further ≡ []
  unfolding nearest
  no-hits [] i e = refl
  no-hits (d ∷ further) i e =
      by_cases (eqb (val d) u)
      (λ t. let none : 0 ≡ d = rw t at e in let row : 0 < d = i.0.row in absurd (omega arith))
      (λ t. rw t (no-hits further i.1 (rw t at e)))

  pub walk_end : Walking 0 → (scope : List ℕ) → On notes tops path scope → 0 ≡ first (serving pre val scope u)
  walk_end w scope on = sym (ap first (no-hits w.further w.inside w.next)) ∙ w.left scope on

  -- None serves where the count is 0.
  pub none-serves : (count : ℕ) → count ≡ top_at tops COUNTS u → count ≡ 0 → (scope : List ℕ) → On notes tops path scope → 0 ≡ first (serving pre val scope u)
  none-serves count top none scope on = sym (ap first (length_none (serving pre val scope u) (sym (on.counts u) ∙ sym top ∙ none)))
