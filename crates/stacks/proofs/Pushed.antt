-- The arrays with one position more, and with one less.
-- Assumes nothing.
use Prim.Native.Nat.{ℕ, ◌+◌, ◌*◌, ◌%◌, ◌≤◌, ◌<◌}
use mathlib.Core.Path.{◌≡◌, refl, ap, ◌∙◌}
use mathlib.Core.Bool.{cond}
use mathlib.Core.List.{List, [], ◌∷◌}
use native.Mathlib.Omega.{arith}
use borrow.Author.Tests.{eqb-true, eqb-false, eq-eqb}
use lib.Dec.{eqb}
use lib.ListN.{length, get_or, set, length-set}
use lib.Seq.{get_or-set_same, get_or-set_other}
use Rattle.rules.proofs.Lists.{by_cases}
use Rattle.stacks.specs.Scopes.{nearest, serving, Each}
use Rattle.stacks.specs.Stacks.{TOPS, PATH, PREFIXES, VALUES, COUNTS, BELOW, NUMBERED, MORE, LESS, top_at, under_at, prefix_at, value_at, Stacked, Covers, Inside, NoneOrInside, On, Untouched, counted, replaced}
use Rattle.stacks.proofs.Each.{each_map, each_both}
use Rattle.stacks.proofs.Threaded.{on-distinct, inside-few}
use Rattle.stacks.proofs.Counted.{stepped, exchanged, count-pushed, count-popped}
use Rattle.stacks.proofs.Covered.{stacked-same, covers-push, covers-pop}

-- A word stored.
module _ (tops : List ℕ) (m k x : ℕ) (within : TOPS * m + TOPS ≤ length tops) (small : k < TOPS) where
  top-stored : (n : ℕ) → top_at (set tops (TOPS * m + k) x) k n ≡ cond (eqb m n) x (top_at tops k n)
  top-stored n =
      by_cases (eqb m n)
      (λ t. rw (t, ← eqb-true m n t) (get_or-set_same tops (TOPS * m + k) x 0 (omega arith)))
      (λ t. let d = eqb-false m n t in rw t (get_or-set_other tops (TOPS * m + k) (TOPS * n + k) x 0 (λ e. d (omega arith))))

  top_kept : (j n : ℕ) → j < TOPS → (j ≡ k → ⊥) → top_at (set tops (TOPS * m + k) x) j n ≡ top_at tops j n
  top_kept j n h other = get_or-set_other tops (TOPS * m + k) (TOPS * n + j) x 0 (λ e. other (omega arith))

module _ (path : List ℕ) (m k x : ℕ) (small : k < PATH) where
  pub under-stored : PATH * m + PATH ≤ length path → under_at (set path (PATH * m + k) x) k m ≡ x
  under-stored within = get_or-set_same path (PATH * m + k) x 0 (omega arith)

  pub under-kept : (j n : ℕ) → j < PATH → (j ≡ k → n ≡ m → ⊥) → under_at (set path (PATH * m + k) x) j n ≡ under_at path j n
  under-kept j n h other =
      get_or-set_other path (PATH * m + k) (PATH * n + j) x 0
      (λ e. let s : j ≡ k = omega arith in let t : n ≡ m = omega arith in other s t)

pub inside-same : {notes tops path : List ℕ} {d : ℕ} (tops' path' : List ℕ) → length tops' ≡ length tops → length path' ≡ length path → Inside notes tops path d → Inside notes tops' path' d
inside-same tops' path' t p i =
    record { row = i.row; small = i.small; noted = i.noted; placed = rw p i.placed; prefix = rw t i.prefix; value = rw t i.value }

-- What the arrays hold but for how many serve.
record Stacks (notes tops path scope : List ℕ) : Type 0 where
  pub prefixes : Covers (prefix_at notes) (top_at tops PREFIXES) (under_at path PREFIXES) scope
  pub values : Covers (value_at notes) (top_at tops VALUES) (under_at path VALUES) scope
  pub newest : under_at path BELOW 0 ≡ nearest (λ d. 0) scope 0
  pub below : Stacked (λ d. 0) (under_at path BELOW) scope
  pub inside : Each (Inside notes tops path) scope

-- A step for a position, or for none.
module _ (notes tops path : List ℕ) (d step : ℕ) (inside : NoneOrInside notes tops path d) where
  pub counted-length : length (counted notes tops d step) ≡ length tops
  counted-length = by_cases (eqb d 0) (λ t. rw t) (λ t. rw t (simp length-set))

  counted-kept : (k n : ℕ) → k < COUNTS → top_at (counted notes tops d step) k n ≡ top_at tops k n
  counted-kept k n h =
      by_cases (eqb d 0)
      (λ t. rw t)
      (λ t.
      let ne = eqb-false d 0 t in
      let value : TOPS * value_at notes d + TOPS ≤ length tops = (inside (omega arith)).value in
      rw t (top_kept tops (value_at notes d) COUNTS ((top_at tops COUNTS (value_at notes d) + step) % 65536) value (omega arith) k n (omega arith) (λ e. omega arith)))

  counted-count : (n : ℕ) → top_at (counted notes tops d step) COUNTS n ≡ stepped (prefix_at notes) (value_at notes) d step n (top_at tops COUNTS n)
  counted-count n =
      by_cases (eqb d 0)
      (λ t. rw t)
      (λ t.
      let ne = eqb-false d 0 t in
      let value : TOPS * value_at notes d + TOPS ≤ length tops = (inside (omega arith)).value in
      by_cases (eqb (value_at notes d) n)
      (λ v. let same = eqb-true (value_at notes d) n v in rw (t, ← same, eq-eqb (value_at notes d) (value_at notes d) refl) (get_or-set_same tops (TOPS * value_at notes d + COUNTS) ((top_at tops COUNTS (value_at notes d) + step) % 65536) 0 (omega arith)))
      (λ v. rw (t, v) (rw v at (top-stored tops (value_at notes d) COUNTS ((top_at tops COUNTS (value_at notes d) + step) % 65536) value (omega arith) n))))

-- One position counts in place of another one.
module _ (notes tops path : List ℕ) (p old new : ℕ) (from : NoneOrInside notes tops path old) (to : NoneOrInside notes tops path new) where
  abbrev lowered : List ℕ
  lowered = counted notes tops old LESS

  to-lowered : NoneOrInside notes lowered path new
  to-lowered h = inside-same lowered path (counted-length notes tops path old LESS from) refl (to h)

  pub replaced-length : length (replaced notes tops p old new) ≡ length tops
  replaced-length =
      by_cases (eqb p 0)
      (λ t. rw t)
      (λ t. rw t (counted-length notes lowered path new MORE to-lowered ∙ counted-length notes tops path old LESS from))

  replaced-kept : (k n : ℕ) → k < COUNTS → top_at (replaced notes tops p old new) k n ≡ top_at tops k n
  replaced-kept k n h =
      by_cases (eqb p 0)
      (λ t. rw t)
      (λ t. rw t (counted-kept notes lowered path new MORE to-lowered k n h ∙ counted-kept notes tops path old LESS from k n h))

  replaced-count : (n : ℕ) → top_at (replaced notes tops p old new) COUNTS n ≡ exchanged (prefix_at notes) (value_at notes) p old new n (top_at tops COUNTS n)
  replaced-count n =
      by_cases (eqb p 0)
      (λ t. rw t)
      (λ t. rw t (counted-count notes lowered path new MORE to-lowered n ∙ ap (stepped (prefix_at notes) (value_at notes) new MORE n) (counted-count notes tops path old LESS from n)))

  replaced-stacks : (scope : List ℕ) → On notes tops path scope → Stacks notes (replaced notes tops p old new) path scope
  replaced-stacks scope on =
      record {
        prefixes = record { tops = λ n. replaced-kept PREFIXES n (omega arith) ∙ on.prefixes.tops n; unders = on.prefixes.unders };
        values = record { tops = λ n. replaced-kept VALUES n (omega arith) ∙ on.values.tops n; unders = on.values.unders };
        newest = on.newest;
        below = on.below;
        inside = each_map (λ x i. inside-same (replaced notes tops p old new) path replaced-length refl i) scope on.inside;
      }

module _ (notes tops path : List ℕ) (d : ℕ) (inside : Inside notes tops path d) where
  -- The two numbers get the position on top, and the position gets under it what was there.
  module _ (p v : ℕ) (pe : p ≡ prefix_at notes d) (ve : v ≡ value_at notes d) where
    abbrev tops₁ : List ℕ
    tops₁ = set tops (TOPS * p + PREFIXES) d

    abbrev tops₂ : List ℕ
    tops₂ = set tops₁ (TOPS * v + VALUES) d

    abbrev path₁ : List ℕ
    path₁ = set path (PATH * d + PREFIXES) (top_at tops PREFIXES p)

    abbrev path₂ : List ℕ
    path₂ = set path₁ (PATH * d + VALUES) (top_at tops₁ VALUES v)

    abbrev path₃ : List ℕ
    path₃ = set path₂ (PATH * d + BELOW) (under_at path₂ BELOW 0)

    abbrev path₄ : List ℕ
    path₄ = set path₃ (PATH * 0 + BELOW) d

    -- Every other word is kept.
    kept : (j x : ℕ) → j < PATH → (j < 3 → x ≡ d → ⊥) → (j ≡ BELOW → x ≡ 0 → ⊥) → under_at path₄ j x ≡ under_at path j x
    kept j x h other newest =
        under-kept path₃ 0 BELOW d (omega arith) j x h newest
        ∙ under-kept path₂ d BELOW (under_at path₂ BELOW 0) (omega arith) j x h (λ e f. other (omega arith) f)
        ∙ under-kept path₁ d VALUES (top_at tops₁ VALUES v) (omega arith) j x h (λ e f. other (omega arith) f)
        ∙ under-kept path d PREFIXES (top_at tops PREFIXES p) (omega arith) j x h (λ e f. other (omega arith) f)

    pushed-untouched : Untouched path path₄
    pushed-untouched k = kept NUMBERED k (omega arith) (λ e f. absurd (omega arith)) (λ e f. absurd (omega arith))

    -- What lies under the position.
    under-prefix : under_at path₄ PREFIXES d ≡ top_at tops PREFIXES p
    under-prefix =
        let row : 0 < d = inside.row in
        let placed : PATH * d + PATH ≤ length path = inside.placed in
        under-kept path₃ 0 BELOW d (omega arith) PREFIXES d (omega arith) (λ e f. absurd (omega arith))
        ∙ under-kept path₂ d BELOW (under_at path₂ BELOW 0) (omega arith) PREFIXES d (omega arith) (λ e f. absurd (omega arith))
        ∙ under-kept path₁ d VALUES (top_at tops₁ VALUES v) (omega arith) PREFIXES d (omega arith) (λ e f. absurd (omega arith))
        ∙ under-stored path d PREFIXES (top_at tops PREFIXES p) (omega arith) placed

    under-value : under_at path₄ VALUES d ≡ top_at tops VALUES v
    under-value =
        let placed : PATH * d + PATH ≤ length path = inside.placed in
        let prefix : TOPS * p + TOPS ≤ length tops = rw pe inside.prefix in
        let placed₁ : PATH * d + PATH ≤ length path₁ = simp length-set placed in
        under-kept path₃ 0 BELOW d (omega arith) VALUES d (omega arith) (λ e f. absurd (omega arith))
        ∙ under-kept path₂ d BELOW (under_at path₂ BELOW 0) (omega arith) VALUES d (omega arith) (λ e f. absurd (omega arith))
        ∙ under-stored path₁ d VALUES (top_at tops₁ VALUES v) (omega arith) placed₁
        ∙ top_kept tops p PREFIXES d prefix (omega arith) VALUES v (omega arith) (λ e. absurd (omega arith))

    below-newest : under_at path₄ BELOW d ≡ under_at path BELOW 0
    below-newest =
        let row : 0 < d = inside.row in
        let placed : PATH * d + PATH ≤ length path = inside.placed in
        let placed₂ : PATH * d + PATH ≤ length path₂ = simp length-set placed in
        under-kept path₃ 0 BELOW d (omega arith) BELOW d (omega arith) (λ e f. omega arith)
        ∙ under-stored path₂ d BELOW (under_at path₂ BELOW 0) (omega arith) placed₂
        ∙ under-kept path₁ d VALUES (top_at tops₁ VALUES v) (omega arith) BELOW 0 (omega arith) (λ e f. absurd (omega arith))
        ∙ under-kept path d PREFIXES (top_at tops PREFIXES p) (omega arith) BELOW 0 (omega arith) (λ e f. absurd (omega arith))

    pushed : (scope : List ℕ) → Each (λ x. x ≡ d → ⊥) scope → Stacks notes tops path scope → Stacks notes tops₂ path₄ (d ∷ scope)
    unfolding nearest
    pushed scope fresh on =
        let prefix : TOPS * p + TOPS ≤ length tops = rw pe inside.prefix in
        let value : TOPS * v + TOPS ≤ length tops₁ = simp length-set (rw ve inside.value) in
        let placed : PATH * d + PATH ≤ length path = inside.placed in
        let placed₃ : PATH * 0 + PATH ≤ length path₃ = simp length-set (omega arith) in
        let same : (j : ℕ) → j < PATH → Each (λ x. under_at path₄ j x ≡ under_at path j x) scope =
        λ j h. each_both (λ x i other. kept j x h (λ k e. other e) (λ k e. let row : 0 < x = i.row in omega arith)) scope on.inside fresh in
        record {
          prefixes =
              covers-push (prefix_at notes) (top_at tops PREFIXES) (under_at path PREFIXES) (top_at tops₂ PREFIXES) (under_at path₄ PREFIXES) d scope (same PREFIXES (omega arith)) on.prefixes
              (λ n. top_kept tops₁ v VALUES d value (omega arith) PREFIXES n (omega arith) (λ e. absurd (omega arith)) ∙ rw (← pe) (top-stored tops p PREFIXES d prefix (omega arith) n))
              (under-prefix ∙ ap (top_at tops PREFIXES) pe);
          values =
              covers-push (value_at notes) (top_at tops VALUES) (under_at path VALUES) (top_at tops₂ VALUES) (under_at path₄ VALUES) d scope (same VALUES (omega arith)) on.values
              (λ n. rw (← ve) (top-stored tops₁ v VALUES d value (omega arith) n ∙ ap (cond (eqb v n) d) (top_kept tops p PREFIXES d prefix (omega arith) VALUES n (omega arith) (λ e. absurd (omega arith)))))
              (under-value ∙ ap (top_at tops VALUES) ve);
          newest = under-stored path₃ 0 BELOW d (omega arith) placed₃;
          below = (below-newest ∙ on.newest, stacked-same (λ x. 0) (under_at path BELOW) (under_at path₄ BELOW) scope (same BELOW (omega arith)) on.below);
          inside =
              let t : length tops₂ ≡ length tops = simp length-set in
              let l : length path₄ ≡ length path = simp length-set in
              (inside-same tops₂ path₄ t l inside, each_map (λ x i. inside-same tops₂ path₄ t l i) scope on.inside);
        }

    pushed-counts : (n : ℕ) → top_at tops₂ COUNTS n ≡ top_at tops COUNTS n
    pushed-counts n =
        let prefix : TOPS * p + TOPS ≤ length tops = rw pe inside.prefix in
        let value : TOPS * v + TOPS ≤ length tops₁ = simp length-set (rw ve inside.value) in
        top_kept tops₁ v VALUES d value (omega arith) COUNTS n (omega arith) (λ e. absurd (omega arith))
        ∙ top_kept tops p PREFIXES d prefix (omega arith) COUNTS n (omega arith) (λ e. absurd (omega arith))

    -- The two numbers get on top what lies under the position, and the newest position is the one below it.
    abbrev popped₁ : List ℕ
    popped₁ = set tops (TOPS * p + PREFIXES) (under_at path PREFIXES d)

    abbrev popped₂ : List ℕ
    popped₂ = set popped₁ (TOPS * v + VALUES) (under_at path VALUES d)

    abbrev left : List ℕ
    left = set path (PATH * 0 + BELOW) (under_at path BELOW d)

    popped-untouched : Untouched path left
    popped-untouched k =
        under-kept path 0 BELOW (under_at path BELOW d) (omega arith) NUMBERED k (omega arith) (λ e f. absurd (omega arith))

    popped : (scope : List ℕ) → Stacks notes tops path (d ∷ scope) → Stacks notes popped₂ left scope
    popped scope on =
        let prefix : TOPS * p + TOPS ≤ length tops = rw pe inside.prefix in
        let value : TOPS * v + TOPS ≤ length popped₁ = simp length-set (rw ve inside.value) in
        let placed : PATH * 0 + PATH ≤ length path = let q = inside.placed in omega arith in
        let same : (j : ℕ) → j < PATH → Each (λ x. under_at left j x ≡ under_at path j x) scope =
        λ j h. each_map (λ x i. under-kept path 0 BELOW (under_at path BELOW d) (omega arith) j x h (λ e f. let row : 0 < x = i.row in omega arith)) scope on.inside.1 in
        record {
          prefixes =
              covers-pop (prefix_at notes) (top_at tops PREFIXES) (under_at path PREFIXES) (top_at popped₂ PREFIXES) (under_at left PREFIXES) d scope (same PREFIXES (omega arith)) on.prefixes
              (λ n. top_kept popped₁ v VALUES (under_at path VALUES d) value (omega arith) PREFIXES n (omega arith) (λ e. absurd (omega arith)) ∙ rw (← pe) (top-stored tops p PREFIXES (under_at path PREFIXES d) prefix (omega arith) n));
          values =
              covers-pop (value_at notes) (top_at tops VALUES) (under_at path VALUES) (top_at popped₂ VALUES) (under_at left VALUES) d scope (same VALUES (omega arith)) on.values
              (λ n. rw (← ve) (top-stored popped₁ v VALUES (under_at path VALUES d) value (omega arith) n ∙ ap (cond (eqb v n) (under_at path VALUES d)) (top_kept tops p PREFIXES (under_at path PREFIXES d) prefix (omega arith) VALUES n (omega arith) (λ e. absurd (omega arith)))));
          newest = under-stored path 0 BELOW (under_at path BELOW d) (omega arith) placed ∙ on.below.0;
          below = stacked-same (λ x. 0) (under_at path BELOW) (under_at left BELOW) scope (same BELOW (omega arith)) on.below.1;
          inside =
              let t : length popped₂ ≡ length tops = simp length-set in
              let l : length left ≡ length path = simp length-set in
              each_map (λ x i. inside-same popped₂ left t l i) scope on.inside.1;
        }

    popped-counts : (n : ℕ) → top_at popped₂ COUNTS n ≡ top_at tops COUNTS n
    popped-counts n =
        let prefix : TOPS * p + TOPS ≤ length tops = rw pe inside.prefix in
        let value : TOPS * v + TOPS ≤ length popped₁ = simp length-set (rw ve inside.value) in
        top_kept popped₁ v VALUES (under_at path VALUES d) value (omega arith) COUNTS n (omega arith) (λ e. absurd (omega arith))
        ∙ top_kept tops p PREFIXES (under_at path PREFIXES d) prefix (omega arith) COUNTS n (omega arith) (λ e. absurd (omega arith))

-- The same, from what `replace` and the two halves leave.
module _ (notes tops path : List ℕ) (d : ℕ) (inside : Inside notes tops path d) (p v : ℕ) (pe : p ≡ prefix_at notes d) (ve : v ≡ value_at notes d) where
  abbrev pre : ℕ → ℕ
  pre = prefix_at notes

  abbrev val : ℕ → ℕ
  val = value_at notes

  few_on : (tops' path' scope : List ℕ) → Each (λ x. x ≡ d → ⊥) scope → Each (Inside notes tops path) scope → On notes tops' path' scope → length (d ∷ scope) < 65536
  few_on tops' path' scope fresh each on = inside-few notes tops path (d ∷ scope) (fresh, on-distinct scope on) (inside, each)

  module _ (m : ℕ) (me : m ≡ top_at tops PREFIXES p) (nearer : NoneOrInside notes tops path (top_at tops PREFIXES (prefix_at notes d))) where
    abbrev pushing : List ℕ
    pushing = replaced notes tops p m d

    push-old : NoneOrInside notes tops path m
    push-old = rw (me, pe) nearer

    push-long : length pushing ≡ length tops
    push-long = replaced-length notes tops path p m d push-old (λ h. inside)

    push-inside : Inside notes pushing path d
    push-inside = inside-same pushing path push-long refl inside

    push-count : (scope : List ℕ) → Each (λ x. x ≡ d → ⊥) scope → On notes tops path scope → (n : ℕ) → exchanged pre val p m d n (top_at tops COUNTS n) ≡ length (serving pre val (d ∷ scope) n)
    push-count scope fresh on n =
        let near : m ≡ nearest pre scope (pre d) = me ∙ ap (top_at tops PREFIXES) pe ∙ on.prefixes.tops (pre d) in
        rw (on.counts n, near, pe) (count-pushed pre val d scope inside.row (each_map (λ x i. i.row) scope on.inside) (few_on tops path scope fresh on.inside on) n)

    push-on : (scope : List ℕ) → Each (λ x. x ≡ d → ⊥) scope → On notes tops path scope → On notes (tops₂ notes pushing path d push-inside p v pe ve) (path₄ notes pushing path d push-inside p v pe ve) (d ∷ scope)
    push-on scope fresh on =
        let s = pushed notes pushing path d push-inside p v pe ve scope fresh (replaced-stacks notes tops path p m d push-old (λ h. inside) scope on) in
        record {
          prefixes = s.prefixes;
          values = s.values;
          counts = λ n. pushed-counts notes pushing path d push-inside p v pe ve n ∙ replaced-count notes tops path p m d push-old (λ h. inside) n ∙ push-count scope fresh on n;
          newest = s.newest;
          below = s.below;
          inside = s.inside;
        }

    pub push-both :
        (t₀ t₁ t₂ p₁ p₂ : List ℕ) → t₀ ≡ replaced notes tops p m d → t₁ ≡ set t₀ (TOPS * p + PREFIXES) d → p₁ ≡ set path (PATH * d + PREFIXES) (top_at t₀ PREFIXES p)
        → t₂ ≡ set t₁ (TOPS * v + VALUES) d → p₂ ≡ set p₁ (PATH * d + VALUES) (top_at t₁ VALUES v)
        → ((scope : List ℕ) → Each (λ x. x ≡ d → ⊥) scope → On notes tops path scope → On notes t₂ (set (set p₂ (PATH * d + BELOW) (get_or p₂ BELOW 0)) BELOW d) (d ∷ scope)) × Untouched path (set (set p₂ (PATH * d + BELOW) (get_or p₂ BELOW 0)) BELOW d)
    push-both t₀ t₁ t₂ p₁ p₂ e₀ e₁ e₂ e₃ e₄ = rw (e₄, e₃, e₂, e₁, e₀) (push-on, pushed-untouched notes pushing path d push-inside p v pe ve)

  module _ (m : ℕ) (me : m ≡ under_at path PREFIXES d) (nearer : NoneOrInside notes tops path (under_at path PREFIXES d)) where
    abbrev popping : List ℕ
    popping = replaced notes tops p d m

    pop-new : NoneOrInside notes tops path m
    pop-new = rw me nearer

    pop-inside : Inside notes popping path d
    pop-inside = inside-same popping path (replaced-length notes tops path p d m (λ h. inside) pop-new) refl inside

    pop-count : (scope : List ℕ) → On notes tops path (d ∷ scope) → (n : ℕ) → exchanged pre val p d m n (top_at tops COUNTS n) ≡ length (serving pre val scope n)
    pop-count scope on n =
        let near : m ≡ nearest pre scope (pre d) = me ∙ on.prefixes.unders.0 in
        rw (on.counts n, near, pe) (count-popped pre val d scope inside.row (each_map (λ x i. i.row) scope on.inside.1) (inside-few notes tops path (d ∷ scope) (on-distinct (d ∷ scope) on) on.inside) n)

    pop-on : (scope : List ℕ) → On notes tops path (d ∷ scope) → On notes (popped₂ notes popping path d pop-inside p v pe ve) (left notes popping path d pop-inside p v pe ve) scope
    pop-on scope on =
        let s = popped notes popping path d pop-inside p v pe ve scope (replaced-stacks notes tops path p d m (λ h. inside) pop-new (d ∷ scope) on) in
        record {
          prefixes = s.prefixes;
          values = s.values;
          counts = λ n. popped-counts notes popping path d pop-inside p v pe ve n ∙ replaced-count notes tops path p d m (λ h. inside) pop-new n ∙ pop-count scope on n;
          newest = s.newest;
          below = s.below;
          inside = s.inside;
        }

    pub pop-both :
        (t₀ t₁ t₂ : List ℕ) → t₀ ≡ replaced notes tops p d m → t₁ ≡ set t₀ (TOPS * p + PREFIXES) (under_at path PREFIXES d) → t₂ ≡ set t₁ (TOPS * v + VALUES) (under_at path VALUES d)
        → ((scope : List ℕ) → On notes tops path (d ∷ scope) → On notes t₂ (set path BELOW (under_at path BELOW d)) scope) × Untouched path (set path BELOW (under_at path BELOW d))
    pop-both t₀ t₁ t₂ e₀ e₁ e₂ = rw (e₂, e₁, e₀) (pop-on, popped-untouched notes popping path d pop-inside p v pe ve)

-- What is nearest for a prefix is a position of the scope, or none; and so is what lies under a position.
nearest-inside : (notes tops path : List ℕ) (key : ℕ → ℕ) (scope : List ℕ) (n : ℕ) → Each (Inside notes tops path) scope → NoneOrInside notes tops path (nearest key scope n)
unfolding nearest
nearest-inside notes tops path key [] n each = λ h. absurd (omega arith)
nearest-inside notes tops path key (d ∷ scope) n each =
    by_cases (eqb (key d) n) (λ t. rw t (λ h. each.0)) (λ t. rw t (nearest-inside notes tops path key scope n each.1))

pub top-inside : (notes tops path scope : List ℕ) → On notes tops path scope → (n : ℕ) → NoneOrInside notes tops path (top_at tops PREFIXES n)
top-inside notes tops path scope on n = rw (on.prefixes.tops n) (nearest-inside notes tops path (prefix_at notes) scope n on.inside)

pub under-inside : (notes tops path : List ℕ) (d : ℕ) (scope : List ℕ) → On notes tops path (d ∷ scope) → NoneOrInside notes tops path (under_at path PREFIXES d)
under-inside notes tops path d scope on =
    rw on.prefixes.unders.0 (nearest-inside notes tops path (prefix_at notes) scope (prefix_at notes d) on.inside.1)
