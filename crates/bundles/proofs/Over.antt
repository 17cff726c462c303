-- What an operation over bundle bytes answers, once opening the bundle has answered.
-- Assumes nothing.
use Rattle.std.specs.Prelude.{Err}
use Rattle.rules.specs.Answers.{Located, Lookup}
use Prim.Native.Nat.{ℕ, ◌*◌, ◌≤◌}
use mathlib.Core.Path.{◌≡◌, refl, sym, ap, ◌∙◌}
use mathlib.Core.Bool.{Bool, true, false}
use mathlib.Core.List.{List, [], ◌∷◌}
use mathlib.Core.Option.{Option, none, some, none-ne-some}
use lib.ListN.{length, take}
use Rattle.rules.specs.Lists.{same_bytes}
use Rattle.rules.specs.Table.{WIDTH, MOST_BYTES}
use Rattle.rules.specs.Refusals.{refused_if, first_refusal, unless_refused, bad_size, check_refusal, checked}
use Rattle.rules.specs.Lookups.{is_default, without_built_ins, lookup_elements, lookup_refusal, lookup_at, default_uri_at, located_part}
use Rattle.rules.specs.Normalization.{normalization_refusal}
use Rattle.rules.specs.declared.Refusal.{Refusal}
use Rattle.rules.specs.declared.Question.{Question}
use Rattle.rules.proofs.DefaultUri.{default-test}
use Rattle.bundles.specs.Bundles.{bundle_refusal, bundle_table, bundle_pool}
use Rattle.rules.specs.Outputs.{refusal}
use Rattle.bundles.specs.Operations.{table_read_refusal, table_read, write_refused, bundle_written, over_bundle, bundle_read, bundle_checked, bundle_lookup, bundle_prefix_of_uri, bundle_default_uri, normalized_into, bundle_normalized}
use Rattle.bundles.specs.Opening.{opening_refusal, Opens}
use Rattle.bundles.specs.Demands.{bundle_nodes, BundleDefaultTest}

-- A table that the check refuses is refused by every operation.
module _ (table pool : List ℕ) (x : Refusal) (e : check_refusal table pool ≡ some x) where
  checked_refused : checked table pool ≡ Err x
  unfolding checked
  checked_refused = rw e refl

  pub lookup-refused : (r : ℕ) → lookup_refusal table pool r ≡ some x
  unfolding lookup_refusal
  lookup-refused r = rw e refl

  answer-refused : (question : Question) (r : ℕ) (q : List ℕ) → lookup_at question table pool r q ≡ Err x
  unfolding lookup_at
  answer-refused question r q = rw (lookup-refused r) refl

  read-refused : (table_size pool_size : ℕ) → table_read table pool table_size pool_size ≡ refusal table_size pool_size x
  unfolding table_read table_read_refusal
  read-refused table_size pool_size = rw e refl

  normalized-refused : (size : ℕ) → normalized_into table pool size ≡ write_refused size x
  unfolding normalized_into bundle_written normalization_refusal
  normalized-refused size = rw e refl

-- Opening refuses with 1 what the check refuses with 1.
module _ (bytes : List ℕ) where
  size-refused : bad_size (bundle_table bytes) (bundle_pool bytes) ≡ true → check_refusal (bundle_table bytes) (bundle_pool bytes) ≡ some Refusal.Size
  unfolding check_refusal
  size-refused e = rw e refl

  opening-cases :
      {A : Type 0} (refused : Refusal → A) (answer : List ℕ → List ℕ → A) (x : Refusal) (o : Option Refusal) (bad : Bool)
      → first_refusal (o ∷ refused_if bad Refusal.Size ∷ []) ≡ some x
      → (bad ≡ true → answer (bundle_table bytes) (bundle_pool bytes) ≡ refused Refusal.Size)
      → unless_refused o refused (answer (bundle_table bytes) (bundle_pool bytes)) ≡ refused x
  opening-cases refused answer x (some y) bad e size = cc
  opening-cases refused answer x none true e size = size refl ∙ (let same : Refusal.Size ≡ x = cc in ap refused same)
  opening-cases refused answer x none false e size = absurd (none-ne-some x e)

  pub over-refused :
      {A : Type 0} (refused : Refusal → A) (answer : List ℕ → List ℕ → A) (x : Refusal) → opening_refusal bytes ≡ some x
      → (check_refusal (bundle_table bytes) (bundle_pool bytes) ≡ some Refusal.Size → answer (bundle_table bytes) (bundle_pool bytes) ≡ refused Refusal.Size)
      → over_bundle bytes refused answer ≡ refused x
  unfolding opening_refusal
  over-refused refused answer x e size =
      opening-cases refused answer x (bundle_refusal bytes) (bad_size (bundle_table bytes) (bundle_pool bytes)) e (λ bad. size (size-refused bad))

-- What each operation answers where opening refuses.
module _ (bytes : List ℕ) (x : Refusal) (e : opening_refusal bytes ≡ some x) where
  pub check-not-open : bundle_checked bytes ≡ Err x
  unfolding bundle_checked
  check-not-open = over-refused bytes Err checked x e (checked_refused _ _ Refusal.Size)

  pub lookup-not-open : (question : Question) (r : ℕ) (q : List ℕ) → bundle_lookup question bytes r q ≡ Err x
  unfolding bundle_lookup
  lookup-not-open question r q = over-refused bytes Err (λ t p. lookup_at question t p r q) x e (λ s. answer-refused _ _ Refusal.Size s question r q)

  pub read-not-open : (table_size pool_size : ℕ) → bundle_read bytes table_size pool_size ≡ refusal table_size pool_size x
  unfolding bundle_read
  read-not-open table_size pool_size = over-refused bytes (refusal table_size pool_size) (λ t p. table_read t p table_size pool_size) x e (λ s. read-refused _ _ Refusal.Size s table_size pool_size)

  pub normalize-not-open : (size : ℕ) → bundle_normalized bytes size ≡ write_refused size x
  unfolding bundle_normalized
  normalize-not-open size = over-refused bytes (write_refused size) (λ t p. normalized_into t p size) x e (λ s. normalized-refused _ _ Refusal.Size s size)

-- And where it does not: that of the table and the pool.
module _ (bytes buffer : List ℕ) (n : ℕ) (is : Opens bytes buffer n) (pool : List ℕ) (e : pool ≡ bundle_pool bytes) where
  pub pool-short : length pool ≤ MOST_BYTES
  pool-short = rw e is.short

  pub over-open : {A : Type 0} (refused : Refusal → A) (answer : List ℕ → List ℕ → A) → answer (take (WIDTH * n) buffer) pool ≡ over_bundle bytes refused answer
  over-open refused answer =
      ap (λ (t : List ℕ). answer t pool) is.table
      ∙ ap (answer (bundle_table bytes)) e
      ∙ sym (ap (λ (o : Option Refusal). unless_refused o refused (answer (bundle_table bytes) (bundle_pool bytes))) is.bundle)

  pub check-open : checked (take (WIDTH * n) buffer) pool ≡ bundle_checked bytes
  unfolding bundle_checked
  check-open = over-open Err checked

  pub lookup-open : (question : Question) (r : ℕ) (q : List ℕ) → lookup_at question (take (WIDTH * n) buffer) pool r q ≡ bundle_lookup question bytes r q
  unfolding bundle_lookup
  lookup-open question r q = over-open Err (λ t p. lookup_at question t p r q)

  pub read-open : (table_size pool_size : ℕ) → table_read (take (WIDTH * n) buffer) pool table_size pool_size ≡ bundle_read bytes table_size pool_size
  unfolding bundle_read
  read-open table_size pool_size = over-open (refusal table_size pool_size) (λ t p. table_read t p table_size pool_size)

  pub normalize-open : (size : ℕ) → normalized_into (take (WIDTH * n) buffer) pool size ≡ bundle_normalized bytes size
  unfolding bundle_normalized
  normalize-open size = over-open (write_refused size) (λ t p. normalized_into t p size)

-- An answer without built-ins is refused as the lookup is.
module _ (bytes : List ℕ) (r : ℕ) where
  plain_over :
      (o : Option Refusal) (found : Lookup)
      → without_built_ins (unless_refused o Err found) ≡ unless_refused o Err (without_built_ins found)
  unfolding without_built_ins
  plain_over none found = refl
  plain_over (some x) found = refl

  pub prefix-over : (uri : List ℕ) → without_built_ins (bundle_lookup Question.PrefixOfUri bytes r uri) ≡ bundle_prefix_of_uri bytes r uri
  unfolding bundle_lookup bundle_prefix_of_uri
  prefix-over uri = plain_over (bundle_refusal bytes) _

  pub default-over : without_built_ins (bundle_lookup Question.UriOfPrefix bytes r []) ≡ bundle_default_uri bytes r
  unfolding bundle_lookup bundle_default_uri
  default-over = plain_over (bundle_refusal bytes) _

pub bundle-default-test : BundleDefaultTest
unfolding bundle_default_uri
bundle-default-test bytes r unrefused uri = go (bundle_refusal bytes) unrefused
  where
    answer : Located
    answer = default_uri_at (bundle_table bytes) (bundle_pool bytes) r

    go :
        (o : Option Refusal) → ((x : Refusal) → unless_refused o Err answer ≡ Err x → ⊥)
        → same_bytes (located_part (bundle_pool bytes) (unless_refused o Err answer)) uri
        ≡ is_default (bundle_nodes bytes) uri (lookup_elements (bundle_nodes bytes) r)
    go none open? = default-test (bundle_table bytes) (bundle_pool bytes) r open? uri
    go (some x) open? = absurd (open? x refl)
