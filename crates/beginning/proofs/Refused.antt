-- The refusal of a lookup from row r.
-- Assumes nothing.
use Rattle.std.specs.Prelude.{Ok, Err}
use Prim.Native.Nat.{ℕ, ◌≤◌, ◌<◌}
use mathlib.Core.List.{List}
use mathlib.Core.Option.{none, some}
use mathlib.Core.Path.{◌≡◌, refl}
use borrow.Author.Tests.{le-leb, lt-leb}
use Rattle.rules.specs.Table.{row_count}
use Rattle.rules.specs.Refusals.{check_refusal, checked}
use Rattle.rules.specs.Lookups.{lookup_refusal}
use Rattle.rules.specs.declared.Refusal.{Refusal}
use Rattle.rules.proofs.Refusals.{verdict-accepted, verdict-refused}

module _ (table pool : List ℕ) (r : ℕ) where
  pub refused : (x : Refusal) → checked table pool ≡ Err x → lookup_refusal table pool r ≡ some x
  unfolding lookup_refusal checked
  refused x is = rw (verdict-refused (check_refusal table pool) x is) refl

  pub no_row : checked table pool ≡ Ok tt → row_count table ≤ r → lookup_refusal table pool r ≡ some Refusal.NoSuchRow
  unfolding lookup_refusal checked
  no_row is past = rw (verdict-accepted (check_refusal table pool) is, le-leb (row_count table) r past) refl

  pub admitted : checked table pool ≡ Ok tt → r < row_count table → lookup_refusal table pool r ≡ none
  unfolding lookup_refusal checked
  admitted is within = rw (verdict-accepted (check_refusal table pool) is, lt-leb (row_count table) r within) refl
