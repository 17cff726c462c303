-- Ways outward: writing behind the first places keeps them, and a way has no more places than its positions fall.
-- Assumes nothing.
use Prim.Native.Nat.{ℕ, zero, suc, ◌+◌, ◌≤◌, ◌<◌}
use mathlib.Core.Path.{◌≡◌, refl, sym, subst, ap, ◌∙◌}
use mathlib.Core.List.{List, [], ◌∷◌, ◌++◌}
use native.Mathlib.Omega.{arith}
use lib.ListN.{length, get_or, set, take, length-set}
use lib.Seq.{get_or-set_same, get_or-set_other}
use Rattle.std.proofs.Math.ListN.{get_or-append}
use Rattle.std.proofs.Math.Seq.{get_or-append_seam}
use Rattle.std.proofs.lemmas.List.{length_push, length-take-le, get_or-take}
use Rattle.scopes.specs.Rows.{up}
use Rattle.scopes.proofs.Reading.{up-falls}
use Rattle.ways.specs.Ways.{Leads}

-- A position that is written to the next place is read there.
module _ (way : List ℕ) (n top : ℕ) (room : n < length way) where
  written : get_or (set way n top) n 0 ≡ top
  written = get_or-set_same way n top 0 room

  pub written-place : (at : ℕ) → top ≤ at → (n < length (set way n top)) × (get_or (set way n top) n 0 ≤ at)
  written-place at h = rw (length-set way n top, written) (room, h)

-- Only the first n places matter.
leads-same :
    (table way other : List ℕ) (q n top : ℕ) → ((k : ℕ) → k < n → get_or other k 0 ≡ get_or way k 0) → Leads table way n q top
    → Leads table other n q top
leads-same table way other q zero top same leads = leads
leads-same table way other q (suc n) top same leads =
    let here : get_or other n 0 ≡ get_or way n 0 = same n (omega arith) in
    rw here (leads.0, leads.1, leads-same table way other q n (get_or way n 0) (λ k less. same k (omega arith)) leads.2)

module _ (table way : List ℕ) (q : ℕ) where
  leads-kept : (m n x top : ℕ) → m ≤ n → Leads table way m q top → Leads table (set way n x) m q top
  leads-kept m n x top h leads =
      leads-same table way (set way n x) q m top (λ k less. get_or-set_other way n k x 0 (λ e. omega arith)) leads

  -- The top is written to the next place; then the row that it lies in is the next one outward.
  module _ (n top : ℕ) (room : n < length way) (leads : Leads table way n q top) where
    pub leads-found : Leads table (set way n top) n q (get_or (set way n top) n 0)
    leads-found = rw (written way n top room) (leads-kept n n top top (omega arith) leads)

    pub leads-next : 0 < top → Leads table (set way n top) (n + 1) q (up table top)
    leads-next h =
        let next : suc n ≡ n + 1 = omega arith in
        subst (λ k. Leads table (set way n top) k q (up table top)) next
        (rw (written way n top room) (refl, h, leads-kept n n top top (omega arith) leads))

  pub leads-room : (n top : ℕ) → Leads table way n q top → n + top ≤ q
  leads-room zero top leads = omega arith
  leads-room (suc n) top leads =
      let further = leads-room n (get_or way n 0) leads.2 in
      let falls = up-falls table (get_or way n 0) leads.1 in
      let above : top ≡ up table (get_or way n 0) = leads.0 in
      omega arith

  -- The places that are left to go, as a list.
  pub leads-left : (n top : ℕ) → n ≤ length way → Leads table way n q top → Leads table (take n way) (length (take n way)) q top
  leads-left n top room leads =
      rw length-take-le (leads-same table way (take n way) q n top (λ k less. get_or-take n way k 0 less) leads)

module _ (table left : List ℕ) (q top : ℕ) where
  -- The last of them holds the row whose next one outward is at the top.
  pub leads-last :
      (before : List ℕ) (x : ℕ) → left ≡ before ++ x ∷ [] → Leads table left (length left) q top
      → (top ≡ up table x) × (0 < x) × Leads table before (length before) q x
  leads-last before x e leads =
      let count : length left ≡ suc (length before) = omega (arith, ap length e, length_push before x) in
      let last : get_or left (length before) 0 ≡ x = ap (λ l. get_or l (length before) 0) e ∙ get_or-append_seam before x [] 0 in
      let all = subst (λ n. Leads table left n q top) count leads in (
        all.0 ∙ ap (up table) last,
        subst (λ y. 0 < y) last all.1,
        leads-same table left before q (length before) x
            (λ k less. sym (ap (λ l. get_or l k 0) e ∙ get_or-append before (x ∷ []) 0 k less))
            (subst (λ y. Leads table left (length before) q y) last all.2),
      )
