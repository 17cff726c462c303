-- The rows that are kept are those that have no conflict with kept rows; where all are kept, with any row.
-- Assumes nothing.
use Prim.Native.Nat.{ℕ, zero, suc, ◌+◌, ◌-◌, ◌≤◌, ◌<◌}
use mathlib.Core.Path.{◌≡◌, refl, sym, ap, ◌∙◌}
use mathlib.Core.Bool.{Bool, ◌&&◌}
use mathlib.Core.List.{List, [], ◌∷◌}
use mathlib.Core.Option.{none}
use native.Mathlib.Nat.{not-suc-le-zero, le_refl}
use native.Mathlib.Omega.{arith}
use lib.Dec.{eqb, ltb}
use borrow.Author.Tests.{eqb-true, eqb-false, ltb-true, ltb-false}
use Rattle.rules.specs.Lists.{any_of, numbers_from}
use Rattle.rules.specs.Table.{Node, node}
use Rattle.rules.specs.Refusals.{refused_if, first_refusal, bad_declaration, is_double}
use Rattle.rules.specs.declared.Refusal.{Refusal}
use Rattle.rules.proofs.Lists.{by_cases}
use Rattle.chains.proofs.Laws.{chain_same}
use Rattle.doubles.specs.Doubles.{BUCKETS, bucket_among, link_at, Entered}
use Rattle.conflicts.specs.Conflicts.{conflict_refusal}
use Rattle.fast_path.specs.Passing.{every_row}
use Rattle.dropped_rows.specs.Dropped.{drop_refusal, kept}
use Rattle.dropped_rows.proofs.Kept.{IsKept}
use Rattle.fates.specs.Fates.{keeps}
use Rattle.fates.proofs.Laws.{kept_any, keeps-kept}

module _ (ns : List Node) where
  -- What a row is dropped for is its conflict with those that are kept.
  pub drop-conflict : (r : ℕ) → conflict_refusal (keeps ns) ns r ≡ drop_refusal ns (kept ns r) r
  unfolding drop_refusal
  drop-conflict r =
      ap (λ (seven : Bool). first_refusal (refused_if (bad_declaration (node ns r)) (Refusal.Declaration (record { 0 = r })) ∷ refused_if seven (Refusal.Double (record { 0 = r })) ∷ []))
      (kept_any ns (λ (s : ℕ). is_double (node ns r) (node ns s)) r)

  -- Tests that agree on the first numbers.
  any_same : (a b : ℕ → Bool) (i count : ℕ) → ((s : ℕ) → i ≤ s → s < i + count → a s ≡ b s) → any_of a (numbers_from i count) ≡ any_of b (numbers_from i count)
  any_same a b i zero h = refl
  any_same a b i (suc count) h = rw (h i (le_refl i) (omega arith), any_same a b (suc i) count (λ s k l. h s (omega arith) (omega arith))) refl

  pub conflict-all : (r : ℕ) → ((s : ℕ) → s < r → IsKept ns s) → conflict_refusal every_row ns r ≡ conflict_refusal (keeps ns) ns r
  conflict-all r all =
      ap (λ (seven : Bool). first_refusal (refused_if (bad_declaration (node ns r)) (Refusal.Declaration (record { 0 = r })) ∷ refused_if seven (Refusal.Double (record { 0 = r })) ∷ []))
      (any_same (λ (s : ℕ). every_row s && is_double (node ns r) (node ns s)) (λ (s : ℕ). keeps ns s && is_double (node ns r) (node ns s)) 0 r
      (λ s k l. rw (keeps-kept ns s (all s (omega arith))) refl))

  -- Rows behind kept ones that have no conflict with any are kept.
  pub kept_on : (r : ℕ) → ((q : ℕ) → q < r → IsKept ns q) → (s : ℕ) → ((q : ℕ) → r ≤ q → q < s → conflict_refusal every_row ns q ≡ none) → (q : ℕ) → q < s → IsKept ns q
  kept_on r all zero alone q h = absurd (not-suc-le-zero h)
  kept_on r all (suc s) alone q h =
      let before = kept_on r all s (λ p i j. alone p i (omega arith)) in
      by_cases (eqb q s)
      (λ e.
      let z = eqb-true q s e in
      by_cases (ltb q r)
      (λ t. all q (ltb-true q r t))
      (λ t. let past = ltb-false q r t in sym (conflict-all q (λ p i. before p (omega arith)) ∙ drop-conflict q) ∙ alone q past h))
      (λ e. let d = eqb-false q s e in before q (omega arith))

-- The chains are those of other rows that are entered, where these are the same.
pub entered-alike : {enters : ℕ → Bool} {table notes chains : List ℕ} {r : ℕ} → Entered enters table notes chains r → (other : ℕ → Bool) → ((s : ℕ) → s < r → other s ≡ enters s) → Entered other table notes chains r
unfolding bucket_among
entered-alike {enters} {table} {notes} {chains} {r} g other same =
    record {
      few = g.few;
      named = g.named;
      room = g.room;
      chained =
          chain_same BUCKETS g.chained (bucket_among other table notes) (link_at chains)
          (λ m i. let z : suc m - 1 ≡ m = omega arith in rw (z, same m i) refl)
          (λ m i. refl);
      behind = λ s i t. g.behind s i (sym (same s i) ∙ t);
    }
