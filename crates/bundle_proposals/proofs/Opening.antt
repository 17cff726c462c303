-- What opening a bundle tells of its check.
-- Assumes nothing.
use Prim.Native.Nat.{ℕ, ◌*◌}
use mathlib.Core.Path.{◌≡◌, sym, ◌∙◌}
use mathlib.Core.Bool.{Bool, true, false}
use mathlib.Core.List.{List, [], ◌∷◌}
use mathlib.Core.Option.{Option, none, some, none-ne-some}
use lib.ListN.{length, take}
use Rattle.rules.specs.Table.{WIDTH, row_count, nodes}
use Rattle.rules.specs.Refusals.{refused_if, first_refusal, lowest_refusal, bad_size, row_refusal, check_refusal}
use Rattle.rules.specs.declared.Refusal.{Refusal}
use Rattle.rules.proofs.Refusals.{first_alone}
use Rattle.bundles.specs.Bundles.{bundle_refusal, bundle_table, bundle_pool}
use Rattle.bundles.specs.Opening.{opening_refusal, Opens}
use Rattle.proposals.specs.Proposals.{bundle_check_refusal}

-- What opening refuses fails the check.
pub opening-fails : (bytes : List ℕ) (x : Refusal) → opening_refusal bytes ≡ some x → bundle_check_refusal bytes ≡ some x
unfolding opening_refusal bundle_check_refusal check_refusal
opening-fails bytes x e =
    go (bundle_refusal bytes) (bad_size (bundle_table bytes) (bundle_pool bytes))
    (lowest_refusal (row_refusal (nodes (bundle_table bytes) (bundle_pool bytes)) (length (bundle_pool bytes))) (row_count (bundle_table bytes)) ∷ []) e
  where
    go : (o : Option Refusal) (bad : Bool) (later : List (Option Refusal)) → first_refusal (o ∷ refused_if bad Refusal.Size ∷ []) ≡ some x → first_refusal (o ∷ first_refusal (refused_if bad Refusal.Size ∷ later) ∷ []) ≡ some x
    go (some y) bad later e = e
    go none true later e = e
    go none false later e = absurd (none-ne-some x e)

-- A bundle that opens.
module _ (bytes buffer : List ℕ) (n : ℕ) (opens : Opens bytes buffer n) where
  pub opened-check : bundle_check_refusal bytes ≡ check_refusal (bundle_table bytes) (bundle_pool bytes)
  unfolding bundle_check_refusal
  opened-check = rw opens.bundle (sym (first_alone (check_refusal (bundle_table bytes) (bundle_pool bytes))))

  pub opened-refused : (table pool : List ℕ) → table ≡ take (WIDTH * n) buffer → pool ≡ bundle_pool bytes → (x : Refusal) → check_refusal table pool ≡ some x → bundle_check_refusal bytes ≡ some x
  opened-refused table pool first rest x e = opened-check ∙ rw (sym opens.table, sym first, sym rest) e
