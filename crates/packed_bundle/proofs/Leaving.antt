-- What the packed form leaves as a bundle, from what the parts leave.
-- Assumes nothing.
use Rattle.std.specs.Prelude.{Result}
use Prim.Native.Nat.{ℕ, ◌+◌, ◌*◌, ◌≤◌, ◌<◌}
use mathlib.Core.Path.{◌≡◌, refl, sym, ap, ◌∙◌, subst}
use mathlib.Core.Bool.{Bool, true, false}
use mathlib.Core.List.{List, ◌++◌, append-nil}
use mathlib.Core.Option.{none, some}
use native.Mathlib.Omega.{arith}
use borrow.Author.Tests.{ltb-true, ltb-false}
use lib.Dec.{ltb}
use lib.ListN.{length, take, drop, length-append}
use lib.Seq.{length-take-le, drop_at, drop-length}
use Rattle.rules.specs.Table.{MOST_BYTES, nodes}
use Rattle.rules.specs.Refusals.{check_refusal}
use Rattle.rules.specs.declared.Refusal.{Refusal}
use Rattle.rules.proofs.Lists.{by_cases}
use Rattle.bundles.specs.Bundles.{HEADER, write_bundle}
use Rattle.bundles.specs.Operations.{write_refused, write_done, state_bundle}
use Rattle.packing.specs.Packing.{packed_form, packed_into}
use Rattle.packed_table.specs.Packed.{TablePacked}
use Rattle.packed_bundle.specs.Leaving.{Leaves}
use Rattle.packed_bundle.proofs.Bundled.{into-refused, into-past, into-short, into-done, packed-words, bundle-size}

-- What the check refuses.
pub check-left : (table pool : List ℕ) (size : ℕ) (x : Refusal) → check_refusal table pool ≡ some x → {answer : Result ℕ Refusal} {out : List ℕ} → Leaves (write_refused size x) answer out → Leaves (packed_into table pool size) answer out
check-left table pool size x e given = rw (into-refused table pool size x e) given

module _ (table pool : List ℕ) (a : check_refusal table pool ≡ none) {packed part : List ℕ} {fits : Bool} {used : ℕ} (packs : TablePacked table pool packed part MOST_BYTES false fits used) where
  -- 11.
  pub past-left : fits ≡ false → {size size' : ℕ} → size' ≡ size → {answer : Result ℕ Refusal} {out : List ℕ} → Leaves (write_refused size' Refusal.PoolRoom) answer out → Leaves (packed_into table pool size) answer out
  past-left e {size} same given = rw (into-past table pool size a (packs.past e refl), sym same) given

  pub rows-size : fits ≡ true → length (take (length table) packed) ≡ length table
  rows-size e = ap length (packs.rows e) ∙ packed-words table pool 0 a

  -- The packed pool stands in the output behind where the rows will be, if there is room for them.
  module _ (e : fits ≡ true) (out₀ : List ℕ) {out : List ℕ} {start : ℕ} (low : start ≤ length out₀) (there : HEADER + 4 * length table ≤ length out₀ → start ≡ HEADER + 4 * length table) {rest : List ℕ} (whole : out ≡ take start out₀ ++ (part ++ rest)) (none_left : rest ≡ drop (length out₀) out₀) (kept : length out ≡ length out₀) where
    form-size : length (packed_form (nodes table pool)).pool ≡ used
    form-size = sym (packs.size e)

    short : length (packed_form (nodes table pool)).pool ≤ MOST_BYTES
    short = subst (λ (n : ℕ). n ≤ MOST_BYTES) (packs.size e) (packs.short e)

    total : length (state_bundle (packed_form (nodes table pool))) ≡ HEADER + 4 * length (take (length table) packed) + used
    total =
        bundle-size table pool (length out₀) a
        ∙ ap (λ (n : ℕ). HEADER + 4 * length table + n) form-size
        ∙ ap (λ (n : ℕ). HEADER + 4 * n + used) (sym (rows-size e))

    stands : HEADER + 4 * length (take (length table) packed) + used ≤ length out → take used (drop (HEADER + 4 * length (take (length table) packed)) out) ≡ (packed_form (nodes table pool)).pool
    stands room =
        let behind = there (omega (arith, room, kept, rows-size e)) in
        let front : length (take start out₀) ≡ HEADER + 4 * length (take (length table) packed) = length-take-le start out₀ low ∙ behind ∙ ap (λ (n : ℕ). HEADER + 4 * n) (sym (rows-size e)) in
        let behind-it : drop (HEADER + 4 * length (take (length table) packed)) out ≡ part =
        ap (drop (HEADER + 4 * length (take (length table) packed))) (whole ∙ ap (λ (l : List ℕ). take start out₀ ++ (part ++ l)) (none_left ∙ drop-length out₀) ∙ ap (λ (l : List ℕ). take start out₀ ++ l) (append-nil part))
        ∙ drop_at (take start out₀) part (HEADER + 4 * length (take (length table) packed)) front
        in
        let long : length out ≡ length (take start out₀) + length part =
        ap length (whole ∙ ap (λ (l : List ℕ). take start out₀ ++ (part ++ l)) (none_left ∙ drop-length out₀) ∙ ap (λ (l : List ℕ). take start out₀ ++ l) (append-nil part)) ∙ length-append (take start out₀) part
        in
        ap (take used) behind-it ∙ packs.bytes e (omega (arith, room, long, front))

    pub done-left :
        {answer : Result ℕ Refusal} {left : List ℕ}
        → (HEADER + 4 * length (take (length table) packed) + used ≤ length out → Leaves (write_done (length out) (write_bundle (take (length table) packed) (take used (drop (HEADER + 4 * length (take (length table) packed)) out)))) answer left)
        → (length out < HEADER + 4 * length (take (length table) packed) + used → Leaves (write_refused (length out) Refusal.BundleRoom) answer left)
        → Leaves (packed_into table pool (length out₀)) answer left
    unfolding state_bundle
    done-left {answer} {left} fitted refused =
        by_cases (ltb (length out) (HEADER + 4 * length (take (length table) packed) + used))
        (λ t.
        let less = ltb-true (length out) (HEADER + 4 * length (take (length table) packed) + used) t in
        let few : length out₀ < length (state_bundle (packed_form (nodes table pool))) = omega (arith, less, kept, total) in
        rw (into-short table pool (length out₀) a short few, sym kept) (refused less))
        (λ t.
        let room = ltb-false (length out) (HEADER + 4 * length (take (length table) packed) + used) t in
        let enough : length (state_bundle (packed_form (nodes table pool))) ≤ length out₀ = omega (arith, room, kept, total) in
        let bundle : write_bundle (take (length table) packed) (take used (drop (HEADER + 4 * length (take (length table) packed)) out)) ≡ state_bundle (packed_form (nodes table pool)) =
        ap (λ (l : List ℕ). write_bundle (take (length table) packed) l) (stands room) ∙ ap (λ (l : List ℕ). write_bundle l (packed_form (nodes table pool)).pool) (packs.rows e)
        in
        let given = fitted room in
        rw (into-done table pool (length out₀) a short enough, sym kept, sym bundle) given)
