-- Laws for the code: what is left of a value, put piece by piece.
-- Assumes nothing.
use Prim.Native.Nat.{ℕ, ◌+◌, ◌≤◌, ◌<◌}
use mathlib.Core.Path.{◌≡◌, refl, ◌∙◌, ap}
use mathlib.Core.Bool.{Bool}
use mathlib.Core.List.{List, ◌++◌}
use native.Mathlib.Numerals.{add-one}
use native.Mathlib.Omega.{arith}
use lib.ListN.{length, get_or, drop}
use lib.Seq.{drop-cons}
use Rattle.rules.specs.Lists.{gathered}
use Rattle.buffers.specs.Writes.{Put}
use Rattle.buffers.proofs.Writes.{put-nothing, put-behind}
use Rattle.escapes.specs.Escapes.{escape, escaped}
use Rattle.runs.proofs.Runs.{nothing_left}
use Rattle.escaping.proofs.Bytes.{as-put}

-- What a value is written as, by its byte i.
byte_split : (quoted : Bool) (value : List ℕ) (i : ℕ) → i < length value → escaped quoted (drop i value) ≡ escape quoted (get_or value i 0) ++ escaped quoted (drop (i + 1) value)
unfolding escaped
byte_split quoted value i h = ap (gathered (escape quoted)) (drop-cons value i 0 h) ∙ rw add-one refl

-- What is left from byte i on, put from place `to` on, is the whole put from place `at` of the output at first.
pub record Left (quoted : Bool) (value all out₀ : List ℕ) (at : ℕ) (out : List ℕ) (to i : ℕ) : Type 0 where
  pub within : i ≤ length value
  pub size : length out ≡ length out₀
  pub whole : {r : ℕ} {out' : List ℕ} → Put out to (escaped quoted (drop i value)) r out' → Put out₀ at all r out'

module _ (quoted : Bool) (value all out₀ : List ℕ) (at : ℕ) where
  pub left-start : (i : ℕ) → i ≤ length value → all ≡ escaped quoted (drop i value) → Left quoted value all out₀ at out₀ at i
  left-start i h e = record { within = h; size = refl; whole = λ p. as-put e p }

  module _ {out : List ℕ} {to i : ℕ} (l : Left quoted value all out₀ at out to i) where
    -- A part is put.
    pub left-part : (part : List ℕ) (j : ℕ) {out' : List ℕ} {to' : ℕ} → j ≤ length value → escaped quoted (drop i value) ≡ part ++ escaped quoted (drop j value) → Put out to part to' out' → Left quoted value all out₀ at out' to' j
    left-part part j h e p = record { within = h; size = p.size ∙ l.size; whole = λ q. l.whole (rw e (put-behind p q)) }

    -- a byte
    pub left-byte : i < length value → {out' : List ℕ} {to' : ℕ} → Put out to (escape quoted (get_or value i 0)) to' out' → Left quoted value all out₀ at out' to' (i + 1)
    left-byte h p = left-part (escape quoted (get_or value i 0)) (i + 1) (omega arith) (byte_split quoted value i h) p

    pub left_end : length value ≤ i → Put out₀ at all to out
    left_end h = l.whole (rw (nothing_left value i quoted h) (put-nothing out to))
