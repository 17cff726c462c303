-- Laws for the code: a value that is put as it is.
-- Assumes nothing.
use Prim.Native.Nat.{ℕ}
use mathlib.Core.Path.{◌≡◌}
use mathlib.Core.Bool.{Bool, true}
use mathlib.Core.List.{List}
use Rattle.rules.specs.Lists.{all_of}
use Rattle.rules.proofs.Lists.{all_of-weaken}
use Rattle.buffers.specs.Writes.{Put}
use Rattle.escapes.specs.Escapes.{escaped}
use Rattle.runs.specs.Runs.{is_plain}
use Rattle.runs.proofs.Runs.{plain-escaped, plain-everywhere}

pub plain-put : (quoted : Bool) (value out : List ℕ) (at : ℕ) {r : ℕ} {out' : List ℕ} → all_of (is_plain quoted) value ≡ true → Put out at value r out' → Put out at (escaped quoted value) r out'
plain-put quoted value out at h p = rw (plain-escaped quoted value h) p

pub known-put : (quoted : Bool) (value out : List ℕ) (at : ℕ) {r : ℕ} {out' : List ℕ} → all_of (is_plain true) value ≡ true → Put out at value r out' → Put out at (escaped quoted value) r out'
known-put quoted value out at h p = plain-put quoted value out at (all_of-weaken (is_plain true) (is_plain quoted) (plain-everywhere quoted) value h) p
