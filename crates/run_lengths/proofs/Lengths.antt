-- Laws for the code: the lengths of runs, stored from the last byte to the first.
-- Assumes nothing.
use Prim.Native.Nat.{ℕ, suc, ◌+◌, ◌*◌, ◌≤◌, ◌<◌}
use mathlib.Core.Path.{◌≡◌, refl, ◌∙◌, ap}
use mathlib.Core.Bool.{Bool, true, false, cond}
use mathlib.Core.List.{List}
use native.Mathlib.Nat.{le_refl, add-zero}
use native.Mathlib.Omega.{arith}
use lib.Dec.{eqb}
use lib.ListN.{length, get_or, set, take, drop, length-set, length-drop}
use lib.Seq.{get_or-set_same, get_or-set_other}
use mir.Val.{bool_byte}
use borrow.Author.Tests.{eqb-true, eqb-false, ne_eqb}
use Rattle.rules.proofs.Lists.{by_cases}
use Rattle.escapes.specs.Escapes.{is_escaped}
use Rattle.escapes.proofs.Asking.{escaped-is, nowhere}
use Rattle.runs.specs.Runs.{run, Measured}
use Rattle.runs.proofs.Runs.{run-part, run-within, run-over, longer}

-- No byte from 63 on is escaped.
pub high-bare : (quoted : Bool) (b : ℕ) → 63 ≤ b → is_escaped quoted b ≡ false
high-bare quoted b h =
    nowhere quoted b
    (rw (escaped-is true b, ne_eqb b 38 (λ k. omega arith), ne_eqb b 60 (λ k. omega arith), ne_eqb b 62 (λ k. omega arith), ne_eqb b 34 (λ k. omega arith), ne_eqb b 13 (λ k. omega arith), ne_eqb b 9 (λ k. omega arith), ne_eqb b 10 (λ k. omega arith))
    refl)

-- The length of a run by its first byte.
pub from-bare : (quoted : Bool) (b behind : ℕ) → is_escaped quoted b ≡ false → behind + 1 ≡ cond (is_escaped quoted b) 0 (behind + 1)
from-bare quoted b behind e = rw e refl

pub from-escaped : (quoted : Bool) (b behind : ℕ) → is_escaped quoted b ≡ true → 0 ≡ cond (is_escaped quoted b) 0 (behind + 1)
from-escaped quoted b behind e = rw e refl

pub bool_small : (b : Bool) → bool_byte b < 2
bool_small true = omega arith
bool_small false = omega arith

-- The lengths of the runs from byte i on are stored; `text` and `inside` are the first of them, in a text and in quotes.
pub record Stored (bytes runs₀ runs : List ℕ) (i text inside : ℕ) : Type 0 where
  pub within : i ≤ length bytes
  pub room : length runs ≡ length runs₀
  pub first : text ≡ length (run false (drop i bytes))
  pub second : inside ≡ length (run true (drop i bytes))
  pub stored : (quoted : Bool) (j : ℕ) → i ≤ j → j < length bytes → get_or runs (2 * j + bool_byte quoted) 0 ≡ length (run quoted (drop j bytes))

module _ (bytes runs₀ : List ℕ) where
  pub stored-start : Stored bytes runs₀ runs₀ (length bytes) 0 0
  stored-start =
      record {
        within = omega arith;
        room = refl;
        first = run-over false bytes (length bytes) (le_refl (length bytes));
        second = run-over true bytes (length bytes) (le_refl (length bytes));
        stored = λ quoted j from to. absurd (omega arith);
      }

  module _ {runs : List ℕ} {i text inside : ℕ} (s : Stored bytes runs₀ runs i text inside) where
    pub stored-small : 0 < i → (text < length bytes) × (inside < length bytes)
    stored-small h =
        (omega (arith, s.within, s.first, run-within false (drop i bytes), length-drop i bytes), omega (arith, s.within, s.second, run-within true (drop i bytes), length-drop i bytes))

    pub stored-all : i ≡ 0 → 2 * length bytes ≤ length runs₀ → Measured bytes runs
    stored-all z h =
        record {
          room = omega (arith, s.room);
          lengths = λ quoted j to. ap (λ (k : ℕ). take k (drop j bytes)) (s.stored quoted j (omega arith) to) ∙ run-part quoted (drop j bytes);
        }

    -- one byte more
    module _ (k : ℕ) (next : i ≡ suc k) (text' inside' : ℕ) (one : text' ≡ cond (is_escaped false (get_or bytes k 0)) 0 (text + 1)) (two : inside' ≡ cond (is_escaped true (get_or bytes k 0)) 0 (inside + 1)) where
      here : k < length bytes
      here = omega (arith, s.within)

      behind : (quoted : Bool) → length (run quoted (drop i bytes)) ≡ length (run quoted (drop (suc k) bytes))
      behind quoted = ap (λ (n : ℕ). length (run quoted (drop n bytes))) next

      new-text : text' ≡ length (run false (drop k bytes))
      new-text = longer false bytes k here (s.first ∙ behind false) one

      new-inside : inside' ≡ length (run true (drop k bytes))
      new-inside = longer true bytes k here (s.second ∙ behind true) two

      pub stored-byte : 2 * length bytes ≤ length runs₀ → Stored bytes runs₀ (set (set runs (2 * k) text') (2 * k + 1) inside') k text' inside'
      stored-byte h =
          let one_set = set runs (2 * k) text' in
          let size : length one_set ≡ length runs = length-set runs (2 * k) text' in
          record {
            within = omega (arith, s.within);
            room = length-set one_set (2 * k + 1) inside' ∙ size ∙ s.room;
            first = new-text;
            second = new-inside;
            stored = λ quoted j from to. at quoted j from to;
          }
        where
          same : (quoted : Bool) → get_or (set (set runs (2 * k) text') (2 * k + 1) inside') (2 * k + bool_byte quoted) 0 ≡ length (run quoted (drop k bytes))
          same true = get_or-set_same (set runs (2 * k) text') (2 * k + 1) inside' 0 (omega (arith, length-set runs (2 * k) text', s.room, here, h)) ∙ new-inside
          same false =
              get_or-set_other (set runs (2 * k) text') (2 * k + 1) (2 * k + 0) inside' 0 (λ z. omega arith)
              ∙ ap (λ (n : ℕ). get_or (set runs (2 * k) text') n 0) (add-zero (2 * k))
              ∙ get_or-set_same runs (2 * k) text' 0 (omega (arith, s.room, here, h)) ∙ new-text

          apart : (quoted : Bool) (j : ℕ) → (j ≡ k → ⊥) → get_or (set (set runs (2 * k) text') (2 * k + 1) inside') (2 * j + bool_byte quoted) 0 ≡ get_or runs (2 * j + bool_byte quoted) 0
          apart true j other = get_or-set_other (set runs (2 * k) text') (2 * k + 1) (2 * j + 1) inside' 0 (λ z. other (omega arith)) ∙ get_or-set_other runs (2 * k) (2 * j + 1) text' 0 (λ z. omega arith)
          apart false j other = get_or-set_other (set runs (2 * k) text') (2 * k + 1) (2 * j + 0) inside' 0 (λ z. omega arith) ∙ get_or-set_other runs (2 * k) (2 * j + 0) text' 0 (λ z. other (omega arith))

          at : (quoted : Bool) (j : ℕ) → k ≤ j → j < length bytes → get_or (set (set runs (2 * k) text') (2 * k + 1) inside') (2 * j + bool_byte quoted) 0 ≡ length (run quoted (drop j bytes))
          at quoted j from to =
              by_cases (eqb j k)
              (λ e. let is = eqb-true j k e in rw is (same quoted))
              (λ e. let other = eqb-false j k e in apart quoted j other ∙ s.stored quoted j (omega arith) to)
