-- What writing over bundle bytes answers, once opening the bundle has answered.
-- Assumes nothing.
use Prim.Native.Nat.{ℕ, ◌*◌}
use mathlib.Core.Path.{◌≡◌, refl}
use mathlib.Core.List.{List}
use mathlib.Core.Option.{some}
use lib.ListN.{take}
use Rattle.rules.specs.Table.{WIDTH}
use Rattle.rules.specs.Refusals.{check_refusal}
use Rattle.rules.specs.declared.Refusal.{Refusal}
use Rattle.bundles.specs.Bundles.{bundle_pool}
use Rattle.bundles.specs.Operations.{write_refused}
use Rattle.bundles.specs.Opening.{opening_refusal, Opens}
use Rattle.bundles.proofs.Over.{lookup-refused, over-refused, over-open}
use Rattle.markup.specs.Writing.{text_refusal, text_written, bundle_text}

text-refused : (table pool : List ℕ) (x : Refusal) → check_refusal table pool ≡ some x → (start size : ℕ) → text_written table pool start size ≡ write_refused size x
unfolding text_written text_refusal
text-refused table pool x e start size = rw (lookup-refused table pool x e start) refl

pub text-not-open : (bytes : List ℕ) (x : Refusal) → opening_refusal bytes ≡ some x → (start size : ℕ) → bundle_text bytes start size ≡ write_refused size x
unfolding bundle_text
text-not-open bytes x e start size = over-refused bytes (write_refused size) (λ t p. text_written t p start size) x e (λ s. text-refused _ _ Refusal.Size s start size)

pub text-open :
    (bytes buffer : List ℕ) (n : ℕ) → Opens bytes buffer n → (pool : List ℕ) → pool ≡ bundle_pool bytes
    → (start size : ℕ) → text_written (take (WIDTH * n) buffer) pool start size ≡ bundle_text bytes start size
unfolding bundle_text
text-open bytes buffer n is pool e start size = over-open bytes buffer n is pool e (write_refused size) (λ t p. text_written t p start size)
