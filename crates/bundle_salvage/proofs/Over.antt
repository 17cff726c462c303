-- What the salvage of a bundle is: that of its table and its pool, unless opening refuses.
-- Assumes nothing.
use Rattle.std.specs.Prelude.{Result}
use Prim.Native.Nat.{ℕ, ◌*◌, ◌/◌, ◌≤◌}
use mathlib.Core.Path.{◌≡◌, refl, ap, ◌∙◌}
use mathlib.Core.Bool.{Bool, true, false}
use mathlib.Core.List.{List, [], ◌∷◌}
use mathlib.Core.Option.{Option, none, some, none-ne-some}
use native.Mathlib.Omega.{arith}
use lib.ListN.{length, take}
use lib.Seq.{length-take-le}
use Rattle.rules.specs.Table.{WIDTH}
use Rattle.rules.specs.Refusals.{refused_if, first_refusal, unless_refused, bad_size}
use Rattle.rules.specs.declared.Refusal.{Refusal}
use Rattle.bundles.specs.Bundles.{bundle_refusal, bundle_table, bundle_pool}
use Rattle.bundles.specs.Opening.{opening_refusal, NamesAtMost, Opens}
use Rattle.bundles.proofs.Opening.{bundle-agreed}
use Rattle.bundles.proofs.Over.{over-open}
use Rattle.salvage.specs.Salvage.{fault_refusal, salvage_refusal, salvaged, rescue_refused, rescued, bundle_salvaged}
use Rattle.salvaged_bundle.specs.Kept.{Kept}
use Rattle.rules.specs.declared.Salvaged.{Salvaged}

-- Opening refuses with 1 what salvage refuses with 1.
size-refused : (table pool : List ℕ) (size list_size : ℕ) → bad_size table pool ≡ true → rescued table pool size list_size ≡ rescue_refused size list_size Refusal.Size
unfolding rescued salvage_refusal fault_refusal
size-refused table pool size list_size e = rw e refl

opening-cases :
    {A : Type 0} (refused : Refusal → A) (answer : A) (x : Refusal) (o : Option Refusal) (bad : Bool) → first_refusal (o ∷ refused_if bad Refusal.Size ∷ []) ≡ some x
    → (bad ≡ true → answer ≡ refused Refusal.Size) → unless_refused o refused answer ≡ refused x
opening-cases refused answer x (some y) bad e size = cc
opening-cases refused answer x none true e size = size refl ∙ (let same : Refusal.Size ≡ x = cc in ap refused same)
opening-cases refused answer x none false e size = absurd (none-ne-some x e)

pub salvage-not-open : (bytes : List ℕ) (size list_size : ℕ) (x : Refusal) → opening_refusal bytes ≡ some x → bundle_salvaged bytes size list_size ≡ rescue_refused size list_size x
unfolding bundle_salvaged opening_refusal
salvage-not-open bytes size list_size x e =
    opening-cases (rescue_refused size list_size) (rescued (bundle_table bytes) (bundle_pool bytes) size list_size) x (bundle_refusal bytes) (bad_size (bundle_table bytes) (bundle_pool bytes)) e
    (size-refused (bundle_table bytes) (bundle_pool bytes) size list_size)

-- A bundle that is open.
module _ {bytes buffer : List ℕ} {n : ℕ} (is : Opens bytes buffer n) {table : List ℕ} (t : table ≡ take (WIDTH * n) buffer) where
  pub salvage-open : {pool : List ℕ} → pool ≡ bundle_pool bytes → (size : ℕ) {long list_size : ℕ} → long ≡ list_size → rescued table pool size long ≡ bundle_salvaged bytes size list_size
  unfolding bundle_salvaged
  salvage-open {pool} p size {long} {list_size} l =
      ap (λ (m : ℕ). rescued table pool size m) l ∙ ap (λ (w : List ℕ). rescued w pool size list_size) t
      ∙ over-open bytes buffer n is pool p (rescue_refused size list_size) (λ w q. rescued w q size list_size)

  -- What salvage left is that of its table, which had room.
  pub kept_table :
      {answer : Result Salvaged Refusal} {left list pool : List ℕ} (room list_size : ℕ) → n ≤ room / WIDTH → length left ≡ room → length list ≡ list_size
      → answer ≡ (salvaged table pool room list_size).answer → left ≡ (salvaged table pool room list_size).table → list ≡ (salvaged table pool room list_size).list → Kept answer left pool list table
  kept_table room list_size fits size long a b c =
      let count : length table ≡ WIDTH * n = ap length t ∙ length-take-le (WIDTH * n) buffer is.room in
      let few = is.few in
      record { few = omega (arith, count); room = rw size (omega (arith, count, fits)); given = rw (size, long) a; rows = rw (size, long) b; entries = rw (size, long) c }

-- It has as few rows as it names.
pub named-few : {bytes buffer : List ℕ} {n most : ℕ} → Opens bytes buffer n → NamesAtMost bytes most → n ≤ most
named-few {bytes} is few = let rows = is.rows in let named = few (bundle-agreed bytes is.bundle).header in omega arith
