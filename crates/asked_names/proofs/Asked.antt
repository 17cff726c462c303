-- The number of a name that is asked for.
-- Assumes nothing.
use Prim.Native.Nat.{ℕ, ◌+◌, ◌≤◌, ◌<◌}
use mathlib.Core.Path.{◌≡◌, sym, ap, ◌∙◌}
use mathlib.Core.List.{List, []}
use native.Mathlib.Omega.{arith}
use borrow.Author.Tests.{eqb-true, eqb-false, eq-eqb, ne_eqb}
use lib.ListN.{length, length-take, length-drop}
use lib.Dec.{eqb}
use Rattle.rules.specs.Lists.{same_bytes}
use Rattle.rules.proofs.Lists.{by_cases, unequal-same_bytes, same_bytes-sym, same_bytes-empty, empty-equal, length-empty}
use Rattle.numbers.specs.Numbers.{Names}
use Rattle.numbers.proofs.Laws.{same_number, found-names, none-names}
use Rattle.chains.specs.Chains.{latest}
use Rattle.chains.proofs.Laws.{latest-within}
use Rattle.entries.specs.Entries.{is_named}
use Rattle.dictionary.specs.Dictionary.{entries_of, last_of, spelling, Dictionary}
use Rattle.dictionary.proofs.Laws.{spelled}

-- What the number of a name that is asked for tells: it is found, or it is the number after the last.
module _ {d pool : List ℕ} (g : Dictionary d pool) (name : List ℕ) where
  pub asked-empty : length name ≡ 0 → (n : ℕ) (bytes : List ℕ) → Names (spelling d pool) (last_of d) n bytes → eqb n 0 ≡ same_bytes bytes name
  asked-empty e n bytes names =
      let none : name ≡ [] = empty-equal name (length-empty name ∙ eq-eqb (length name) 0 e) in
      same_number (spelled g) names (record { known = omega arith; spelled = (spelled g).empty ∙ sym none })

  pub asked-found : {r : ℕ} → r ≡ latest (is_named (entries_of d) pool name) (last_of d) → 0 < r → (n : ℕ) (bytes : List ℕ) → Names (spelling d pool) (last_of d) n bytes → eqb n r ≡ same_bytes bytes name
  asked-found f h n bytes names = same_number (spelled g) names (found-names (spelling d pool) (last_of d) name f h)

  pub asked-within : {r : ℕ} → r ≡ latest (is_named (entries_of d) pool name) (last_of d) → r ≤ last_of d + 1
  asked-within f = rw f (omega (arith, latest-within (is_named (entries_of d) pool name) (last_of d)))

  pub asked-none :
      {r : ℕ} → r ≡ latest (is_named (entries_of d) pool name) (last_of d) → r ≤ 0 → (length name ≡ 0 → ⊥) → (n : ℕ) (bytes : List ℕ) → Names (spelling d pool) (last_of d) n bytes
      → eqb n (last_of d + 1) ≡ same_bytes bytes name
  asked-none f h full n bytes names =
      let known = names.known in
      let none : latest (is_named (entries_of d) pool name) (last_of d) ≡ 0 = omega arith in
      ne_eqb n (last_of d + 1) (λ e. omega arith)
      ∙ rw (← names.spelled)
      (sym (by_cases (eqb n 0)
      (λ t.
      let z : spelling d pool n ≡ [] = ap (spelling d pool) (eqb-true n 0 t) ∙ (spelled g).empty in
      rw z (same_bytes-sym [] name ∙ same_bytes-empty name ∙ length-empty name ∙ ne_eqb (length name) 0 full))
      (λ t. let z = eqb-false n 0 t in none-names (spelling d pool) (last_of d) name none n (omega arith) known)))

  -- A name that has a number stands in the pool, and is not longer.
  pub asked-long : length pool < length name → (n : ℕ) (bytes : List ℕ) → Names (spelling d pool) (last_of d) n bytes → eqb n (last_of d + 1) ≡ same_bytes bytes name
  asked-long long n bytes names =
      let known = names.known in
      let short : length (spelling d pool n) ≤ length pool = simp (length-take, length-drop) (omega arith) in
      ne_eqb n (last_of d + 1) (λ e. omega arith)
      ∙ sym (unequal-same_bytes bytes name (λ s. let same : length (spelling d pool n) ≡ length name = ap length (names.spelled ∙ s) in omega arith))
