-- Words are cleared one after the other, and cleared words with entries of the empty name alone are a dictionary.
-- Assumes nothing.
use Prim.Native.Nat.{ℕ, ◌+◌, ◌*◌, ◌≤◌, ◌<◌}
use mathlib.Core.Path.{◌≡◌, ◌∙◌}
use mathlib.Core.List.{List}
use native.Mathlib.Omega.{arith}
use borrow.Author.Tests.{eqb-true, eqb-false, ltb-true, ltb-false}
use lib.Dec.{eqb, ltb}
use lib.ListN.{length, get_or, set, replicate, length-replicate, length-drop, get_or-eq_default}
use lib.Seq.{get_or-drop, get_or-set_same, get_or-set_other}
use Rattle.std.proofs.lemmas.List.{get_or-replicate}
use Rattle.rules.proofs.Lists.{by_cases}
use Rattle.entries.specs.Entries.{last_number, Entries}
use Rattle.dictionary.specs.Dictionary.{PLACES, OFFSET, LENGTH, NUMBER, entries_of, last_of, Dictionary}
use Rattle.dictionary.proofs.Places.{back, entries-back, seen_back}

module _ (words : List ℕ) (i : ℕ) where
  pub clear_next : i < length words → ((j : ℕ) → j < i → get_or words j 0 ≡ 0) → (j : ℕ) → j < i + 1 → get_or (set words i 0) j 0 ≡ 0
  clear_next h none j l =
      by_cases (eqb j i)
      (λ t. rw (eqb-true j i t) (get_or-set_same words i 0 0 h))
      (λ t. let d = eqb-false j i t in get_or-set_other words i j 0 0 d ∙ none j (omega arith))

  pub clear-end : length words ≤ i → ((j : ℕ) → j < i → get_or words j 0 ≡ 0) → (j : ℕ) → get_or words j 0 ≡ 0
  clear-end h none j =
      by_cases (ltb j i)
      (λ t. none j (ltb-true j i t))
      (λ t. let l = ltb-false j i t in get_or-eq_default words 0 (omega arith))

-- Words that `fill` left are cleared.
pub filled : (n : ℕ) {words : List ℕ} → words ≡ replicate n 0 → (i : ℕ) → get_or words i 0 ≡ 0
filled n e i =
    rw e
    (by_cases (ltb i n)
    (λ t. get_or-replicate n i 0 0 (ltb-true i n t))
    (λ t. let l = ltb-false i n t in get_or-eq_default (replicate n 0) 0 (rw length-replicate (omega arith))))

-- The entries of cleared words are cleared.
pub entries_none : (d : List ℕ) → ((i : ℕ) → get_or d i 0 ≡ 0) → (i : ℕ) → get_or (entries_of d) i 0 ≡ 0
unfolding entries_of
entries_none d zero i = get_or-drop PLACES d i 0 ∙ zero (PLACES + i)

pub entries-long : (d : List ℕ) (n : ℕ) → PLACES + n ≤ length d → n ≤ length (entries_of d)
unfolding entries_of
entries-long d n h = rw length-drop (omega arith)

pub begun-anew :
    (d pool : List ℕ) (h : PLACES ≤ length d) → ((i : ℕ) → get_or d i 0 ≡ 0) → {e : List ℕ} → Entries e pool → last_number e ≡ 0
    → Dictionary (back d h e) pool × (last_of (back d h e) ≤ 0)
begun-anew d pool h zero {e} g last =
    let there = entries-back d h e in (
      record {
        entries = rw there g;
        places = λ s i.
            rw (there, seen_back d h e s OFFSET i (omega arith), seen_back d h e s LENGTH i (omega arith), seen_back d h e s NUMBER i (omega arith), zero (3 * s + OFFSET), zero (3 * s + LENGTH), zero (3 * s + NUMBER))
            (record { known = omega arith; spelled = rw g.empty });
      },
      rw there (omega arith),
    )
