-- Values that are put: what is known of them.
-- Assumes nothing.
use Prim.Native.Nat.{ℕ, ◌+◌, ◌-◌, ◌*◌, ◌≤◌}
use mathlib.Core.Path.{◌≡◌, sym, ap, ◌∙◌}
use mathlib.Core.Bool.{Bool, true}
use mathlib.Core.List.{List}
use borrow.Author.Tests.{eqb-true}
use native.Mathlib.Omega.{arith}
use lib.Dec.{eqb}
use lib.ListN.{length, get_or, take, drop, length-drop}
use lib.Seq.{take_all}
use Rattle.rules.specs.Lists.{all_of}
use Rattle.rules.specs.Table.{VALUE, Node, node_at, word}
use Rattle.buffers.specs.Writes.{Put}
use Rattle.escapes.specs.Escapes.{escaped}
use Rattle.runs.specs.Runs.{is_plain, Known}
use Rattle.runs.proofs.Runs.{part-plain, part-measured}
use Rattle.values.proofs.Writing.{known-put}
use Rattle.markup_values.specs.Marks.{Marked}

-- The value that is read, by what it is.
module _ {t : List ℕ} {at : ℕ} {r : ℕ} {t' : List ℕ} where
  pub value_read : {value : List ℕ} (quoted : Bool) (n : Node) → value ≡ n.value.bytes → Put t at (escaped quoted value) r t' → Put t at (escaped quoted n.value.bytes) r t'
  value_read quoted n e p = rw (← e) p

-- The lengths from the value's offset on, two for each byte.
pub runs-from : (table runs : List ℕ) (r : ℕ) {offset : ℕ} → offset ≡ word table r VALUE → take (length runs - 2 * offset) (drop (2 * offset) runs) ≡ drop (2 * word table r VALUE) runs
runs-from table runs r {offset} is =
    let all : length (drop (2 * offset) runs) ≤ length runs - 2 * offset = rw length-drop (omega arith) in
    take_all (length runs - 2 * offset) (drop (2 * offset) runs) all ∙ ap (λ (k : ℕ). drop (2 * k) runs) is

-- What is known of a value that is read from the pool.
module _ (table pool : List ℕ) {marks runs : List ℕ} (r : ℕ) (m : Marked pool marks runs) {value : List ℕ} (is : value ≡ (node_at table pool r).value.bytes) where
  value-plain : {plain : Bool} → plain ≡ eqb (get_or marks 0 0) 1 → plain ≡ true → all_of (is_plain true) value ≡ true
  value-plain told known =
      rw is (part-plain pool (word table r VALUE) (word table r (VALUE + 1)) (m.plain (eqb-true (get_or marks 0 0) 1 (sym told ∙ known))))

  pub plain_value : (quoted : Bool) {t : List ℕ} {at end : ℕ} {t' : List ℕ} {plain : Bool} → plain ≡ eqb (get_or marks 0 0) 1 → plain ≡ true → Put t at value end t' → Put t at (escaped quoted (node_at table pool r).value.bytes) end t'
  plain_value quoted {t} {at} told known p = value_read quoted (node_at table pool r) is (known-put quoted value t at (value-plain told known) p)

  pub value-known : {part : List ℕ} → ((length part ≡ 0 → ⊥) → part ≡ drop (2 * word table r VALUE) runs) → Known value part
  value-known told some =
      let same = told some in
      let any : length runs ≡ 0 → ⊥ = λ none. some (rw same (omega (arith, length-drop (2 * word table r VALUE) runs))) in
      rw (is, same) (part-measured pool runs (word table r VALUE) (word table r (VALUE + 1)) (m.known any))
