-- What the functions read, and what number a name gets.
-- Assumes nothing.
use Prim.Native.Nat.{ℕ, ◌+◌, ◌*◌, ◌≤◌, ◌<◌}
use mathlib.Core.Path.{◌≡◌, refl, ◌∙◌}
use mathlib.Core.Bool.{◌&&◌, not}
use mathlib.Core.List.{List}
use native.Mathlib.Omega.{arith}
use lib.ListN.{set}
use lib.Dec.{eqb}
use borrow.Author.Tests.{eq-eqb, ne_eqb}
use Rattle.notes.specs.Notes.{PREFIX, note_at}
use Rattle.stacks.specs.Stacks.{NUMBERED, PREFIXES, top_at, under_at}
use Rattle.free_prefixes.specs.Free.{is_free, number_for, path_for}

module _ (path : List ℕ) (k names : ℕ) {n : ℕ} (read : n ≡ under_at path NUMBERED k) where
  pub number-there : 0 < n → (n ≡ number_for path k names) × (path ≡ path_for path k names)
  number-there some? = let other = ne_eqb (under_at path NUMBERED k) 0 (λ z. omega (arith, read)) in (read ∙ rw other refl, rw other refl)

  pub number-next : n ≤ 0 → {path' : List ℕ} → path' ≡ set path (4 * k + NUMBERED) (names + 1) → (names + 1 ≡ number_for path k names) × (path' ≡ path_for path k names)
  number-next none? made = let same = eq-eqb (under_at path NUMBERED k) 0 (omega (arith, read)) in (rw same refl, made ∙ rw same refl)

pub free-read : (notes tops : List ℕ) (a : ℕ) {p t : ℕ} → p ≡ note_at notes a PREFIX → t ≡ top_at tops PREFIXES p → (not (eqb p 0) && eqb t 0) ≡ is_free notes tops a
free-read notes tops a read top = rw (top, read) refl
