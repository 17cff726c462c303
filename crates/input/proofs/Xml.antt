-- The number of xml, entered beside the numbers that the check gave.
-- Assumes nothing.
use Prim.Native.Nat.{ℕ, ◌+◌, ◌*◌, ◌≤◌, ◌<◌, max}
use mathlib.Core.Path.{◌≡◌, refl, sym, ◌∙◌, ap, subst}
use mathlib.Core.Bool.{true}
use mathlib.Core.List.{List}
use native.Mathlib.Omega.{arith}
use lib.ListN.{length, get_or, set}
use lib.Seq.{get_or-set_same, get_or-set_other}
use lib.Dec.{eqb}
use borrow.Author.Tests.{eqb-true, eqb-false, eq-eqb}
use Rattle.rules.specs.Lists.{same_bytes}
use Rattle.rules.specs.Table.{xml_prefix, nodes, node, row_count}
use Rattle.rules.specs.Normalization.{numbered_prefix}
use Rattle.rules.proofs.Lists.{by_cases, same_bytes-equal, equal-same_bytes, true-not-false}
use Rattle.rules.proofs.Table.{length-nodes, node-nodes}
use Rattle.rules.proofs.Prefixes.{numbered-not-xml}
use Rattle.numbers.specs.Numbers.{Names, number_in}
use Rattle.numbers.specs.Noted.{NodeNumbered, Numbered}
use Rattle.stacks.specs.Stacks.{NUMBERED, under_at}
use Rattle.working.specs.Working.{Numbers}
use Rattle.working.proofs.Changed.{spell, spelled-next, names-new, number-other, rows_next}

-- The number of xml: one of the given numbers, or the next one.
module _ (table pool notes path : List ℕ) (spelling : ℕ → List ℕ) (last limit : ℕ) (given : Numbered table pool notes spelling last (row_count table))
    (numbered : (k : ℕ) → 1 ≤ k → k ≤ limit → under_at path NUMBERED k ≡ number_in spelling last (numbered_prefix k)) (room : 4 * limit + 4 ≤ length path)
    (x : ℕ) (most : x ≤ last + 1) (only : (n : ℕ) (bytes : List ℕ) → Names spelling last n bytes → eqb n x ≡ same_bytes bytes xml_prefix) where
  abbrev path' : List ℕ
  path' = set path NUMBERED x

  kept : (k : ℕ) → 1 ≤ k → under_at path' NUMBERED k ≡ under_at path NUMBERED k
  kept k low = get_or-set_other path NUMBERED (4 * k + NUMBERED) x 0 (λ z. omega arith)

  noted : under_at path' NUMBERED 0 ≡ x
  noted = ap (λ (i : ℕ). get_or path' i 0) zero_word ∙ get_or-set_same path NUMBERED x 0 (omega arith)
    where
      zero_word : 4 * 0 + NUMBERED ≡ NUMBERED
      zero_word = omega arith

  row-numbered : (r : ℕ) → r < length (nodes table pool) → NodeNumbered notes spelling last r (node (nodes table pool) r)
  row-numbered r less =
      let below : r < row_count table = subst (λ (n : ℕ). r < n) (length-nodes table pool) less in
      rw (node-nodes table pool r below) (given.rows r below)

  numbers-there : x ≤ last → Numbers (nodes table pool) notes path' last limit
  numbers-there low =
      let is : same_bytes (spelling x) xml_prefix ≡ true = sym (only x (spelling x) (record { known = low; spelled = refl })) ∙ eq-eqb x x refl in
      record {
        spelling = spelling;
        spelled = given.spelled;
        rows = row-numbered;
        xml = rw noted (record { known = low; spelled = same_bytes-equal (spelling x) xml_prefix is });
        numbered = λ k one high. kept k one ∙ numbered k one high;
      }

  -- It has none of the given numbers.
  module _ (next : x ≡ last + 1) where
    unlike : (m : ℕ) → m ≤ last → spelling m ≡ xml_prefix → ⊥
    unlike m known is =
        let same : m ≡ x = eqb-true m x (only m (spelling m) (record { known = known; spelled = refl }) ∙ equal-same_bytes is) in
        omega arith

    numbers-next : Numbers (nodes table pool) notes path' (last + 1) limit
    numbers-next =
        let s = given.spelled in
        record {
          spelling = spell s xml_prefix unlike;
          spelled = spelled-next s xml_prefix unlike;
          rows = λ r less. rows_next s xml_prefix unlike notes r (node (nodes table pool) r) (row-numbered r less);
          xml = rw (noted ∙ next) (names-new s xml_prefix unlike);
          numbered = λ k one high.
              kept k one ∙ numbered k one high
              ∙ sym (number-other s xml_prefix unlike (numbered_prefix k) (λ z. true-not-false (equal-same_bytes (sym z)) (numbered-not-xml k)));
        }

  pub numbers-start : Numbers (nodes table pool) notes path' (max last x) limit
  numbers-start =
      by_cases (eqb x (last + 1))
      (λ q.
      let next = eqb-true x (last + 1) q in
      let all : last + 1 ≡ max last x = omega arith in
      subst (λ (n : ℕ). Numbers (nodes table pool) notes path' n limit) all (numbers-next next))
      (λ q.
      let other = eqb-false x (last + 1) q in
      let all : last ≡ max last x = omega arith in
      subst (λ (n : ℕ). Numbers (nodes table pool) notes path' n limit) all (numbers-there (omega arith)))
