-- The mark of a name: one that is there, a new one, a place that is remembered.
-- Assumes nothing.
use Prim.Native.Nat.{ℕ, zero, suc, ◌+◌, ◌-◌, ◌*◌, ◌≤◌, ◌<◌}
use mathlib.Core.Path.{◌≡◌, refl, sym, ◌∙◌, ap}
use mathlib.Core.Bool.{Bool, true, false, ◌&&◌}
use mathlib.Core.List.{List, [], ◌∷◌, ◌++◌}
use native.Mathlib.Omega.{arith}
use borrow.Author.Tests.{eqb-true, ne_eqb}
use lib.Dec.{eqb, ltb}
use lib.ListN.{length, get_or, set, take, drop, length-append, length-drop, length-set}
use lib.Seq.{length-take-le, get_or-set_same, get_or-set_other}
use Rattle.rules.specs.Lists.{any_of, is_empty, same_bytes}
use Rattle.rules.specs.Table.{part}
use Rattle.rules.proofs.Lists.{both_true, true-not-false, length-empty}
use Rattle.marks.specs.Marks.{between}
use Rattle.chains.specs.Chains.{latest}
use Rattle.chains.proofs.Laws.{latest-within}
use Rattle.buffers.specs.Writes.{written}
use Rattle.buffers.proofs.Meaning.{appended}
use Rattle.packing.specs.Packing.{entered, joined}
use Rattle.packing.proofs.Growing.{joined-behind, enters-known, enters-new}
use Rattle.packed_index.specs.Index.{USED, HARD, NEXT, START, STEP, PLACES, SLOTS, ENTRIES, WIDTH, MARK, count_of, word, seen, is_named, Chains, mark_of, Marks, Index, HasRoom, followed, remembered, stretched}
use Rattle.packed_index.proofs.Following.{count-followed}
use Rattle.packed_index.proofs.Followed.{mark-new, index-followed}
use Rattle.packed_index.proofs.Finding.{found, not_found, mark-held}
use Rattle.packed_index.proofs.Elsewhere.{chains-noted, index-noted, stretched-kept, index-stretched, other-words, index-remembered}
use Rattle.repeats.specs.Stretch.{First, Learned}
use Rattle.packed_pool.specs.Marking.{is_hard, Stands, Marked, Noted, Added}

-- The bytes from an offset up to the end of a place are those of the place.
pub placed : (pool : List ℕ) (offset size : ℕ) → between pool offset (offset + size) ≡ part pool offset size
placed pool offset size = let s : offset + size - offset ≡ size = omega arith in ap (λ (n : ℕ). take n (drop offset pool)) s

pub inside-length : (pool : List ℕ) (offset size : ℕ) → offset + size ≤ length pool → length (part pool offset size) ≡ size
inside-length pool offset size h = length-take-le size (drop offset pool) (rw length-drop (omega arith))

module _ {hashed : List ℕ → ℕ} {pool : List ℕ} {names : List (List ℕ)} {bytes : List ℕ} {limit : ℕ} {easy : Bool} where
  -- The names were found to be hard.
  pub hard-marked : {e e' out out' : List ℕ} → count_of e' ≤ count_of e + 1 → (easy && is_hard e') ≡ true → Marked hashed pool e e' out out' limit easy 0 names bytes
  hard-marked few hard =
      record {
        few = few;
        right = λ h. absurd (omega arith);
        is = λ h. absurd (omega arith);
        short = λ h. absurd (omega arith);
        stands = λ h. absurd (omega arith);
        past = λ z easy. absurd (true-not-false hard easy);
      }

  -- The name is there.
  pub held-marked : {e e' out : List ℕ} {mark : ℕ} → count_of e' ≤ count_of e + 1 → Index hashed e' pool names → 0 < mark → mark ≡ mark_of names bytes → Marked hashed pool e e' out out limit easy mark names bytes
  held-marked few g h is =
      let same : entered names bytes ≡ names = enters-known names bytes (mark-held names bytes (rw is at h)) in
      record {
        few = few;
        right = λ i. rw same g;
        is = λ i. rw same is;
        short = λ i l. rw same l;
        stands = λ i s. rw same s;
        past = λ z. absurd (omega arith);
      }

by-mark {ℓ} : {P : Type ℓ} (mark : ℕ) → (mark ≡ 0 → P) → (0 < mark → P) → P
by-mark zero none some = none refl
by-mark (suc n) none some = some (omega arith)

-- The name is new.
module _
    (hashed : List ℕ → ℕ) (pool e e' out out' : List ℕ) (names : List (List ℕ)) (limit offset size hash mark : ℕ) (room : HasRoom e) (hashes : hash ≡ hashed (part pool offset size))
    (sized : size ≡ length (part pool offset size)) (full : 0 < size) (keeps : length out' ≡ length out) (g : Index hashed e pool names) (none : latest (is_named e pool (part pool offset size)) (count_of e) ≡ 0)
    (a : Added e e' out out' offset size hash (part pool offset size) limit mark) where
  new : any_of (same_bytes (part pool offset size)) names ≡ false
  new = not_found g (part pool offset size) none

  some : is_empty (part pool offset size) ≡ false
  some = length-empty (part pool offset size) ∙ ne_eqb (length (part pool offset size)) 0 (λ z. omega arith)

  long : length (joined (names ++ part pool offset size ∷ [])) ≡ get_or e USED 0 + size
  long = ap length (joined-behind names (part pool offset size)) ∙ length-append (joined names) (part pool offset size) ∙ rw g.used (ap (λ (k : ℕ). length (joined names) + k) (sym sized))

  stands-new : 0 < mark → Stands out names → Stands out' (names ++ part pool offset size ∷ [])
  stands-new h s l =
      let bytes = part pool offset size in
      let used = g.used in
      let end : get_or e USED 0 + size ≤ length out = omega (arith, long, keeps, l) in
      ap (λ (k : ℕ). take k out') (long ∙ ap (λ (k : ℕ). get_or e USED 0 + k) sized)
      ∙ ap (take (get_or e USED 0 + length bytes)) (a.wrote h end)
      ∙ appended out (get_or e USED 0) bytes (omega arith)
      ∙ ap (λ (l : List ℕ). l ++ bytes) (ap (λ (k : ℕ). take k out) used ∙ s (omega arith))
      ∙ sym (joined-behind names bytes)

  pub added-marked : {e₀ : List ℕ} {easy : Bool} → count_of e ≡ count_of e₀ → Marked hashed pool e₀ e' out out' limit easy mark names (part pool offset size)
  added-marked same =
      let bytes = part pool offset size in
      let grown : entered names bytes ≡ names ++ bytes ∷ [] = enters-new names bytes some new in
      record {
        few = by-mark mark (λ z. rw (a.past z).0 (omega arith)) (λ h. rw ((a.fits h).0, count-followed e offset size hash room.0) (omega arith));
        right = λ h. rw (grown, (a.fits h).0) (index-followed e pool offset size hash room.0 hashes sized g new);
        is = λ h. rw grown ((a.fits h).1 ∙ ap (λ (k : ℕ). k + 1) g.used ∙ sym (mark-new names bytes new));
        short = λ h l. let fits = (a.fits h).2 in rw (grown, long) fits;
        stands = λ h s. rw grown (stands-new h s);
        past = λ z easy. let p = (a.past z).1 in rw (grown, long) p;
      }

-- More is known of places: of none, of one that is remembered, of how the pool repeats itself.
module _ {pool : List ℕ} (offset size : ℕ) {mark : ℕ} where
  pub both-noted : {e e' e'' : List ℕ} → Noted pool e e' offset size mark → Noted pool e' e'' offset size mark → Noted pool e e'' offset size mark
  both-noted a b =
      record {
        count = b.count ∙ a.count;
        hard = b.hard ∙ a.hard;
        right = λ hashed names g is. b.right hashed names (a.right hashed names g is) is;
      }

  pub next-noted : (e : List ℕ) (x : ℕ) → Noted pool e (set e NEXT x) offset size mark
  next-noted e x =
      record {
        count = get_or-set_other e NEXT 1024 x 0 (λ z. omega arith);
        hard = get_or-set_other e NEXT HARD x 0 (λ z. omega arith);
        right = λ hashed names g is. index-noted e NEXT x (omega arith) (omega arith) g;
      }

  pub remembered-noted : (slot : ℕ) {e e' : List ℕ} → slot < SLOTS → ENTRIES ≤ length e → e' ≡ remembered e slot offset size mark → Noted pool e e' offset size mark
  remembered-noted slot {e} low room next =
      let same : (i : ℕ) → i < PLACES → get_or (remembered e slot offset size mark) i 0 ≡ get_or e i 0 = λ i h. other-words e slot offset size mark low room i (λ z. omega arith) (λ z. omega arith) (λ z. omega arith) in
      rw next
      (record {
        count = same 1024 (omega arith);
        hard = same HARD (omega arith);
        right = λ hashed names g is. index-remembered e slot offset size mark low room g is;
      })

  pub learned-noted : {e e' : List ℕ} → ENTRIES ≤ length e → Learned pool e e' → Noted pool e e' offset size mark
  learned-noted {e} room l =
      let same : (i : ℕ) → (START ≤ i → i ≤ STEP → ⊥) → get_or (stretched e l.0 l.1 l.2) i 0 ≡ get_or e i 0 = stretched-kept e l.0 l.1 l.2 room in
      rw l.3
      (record {
        count = same 1024 (λ a b. omega arith);
        hard = same HARD (λ a b. omega arith);
        right = λ hashed names g is. index-stretched e l.0 l.1 l.2 room g (l.4 g.repeating);
      })

  -- The mark is right with it too.
  pub noted-marked :
      {hashed : List ℕ → ℕ} {e e' e'' out out' : List ℕ} {names : List (List ℕ)} {limit : ℕ} {easy : Bool} → Noted pool e' e'' offset size mark
      → Marked hashed pool e e' out out' limit easy mark names (part pool offset size) → Marked hashed pool e e'' out out' limit easy mark names (part pool offset size)
  noted-marked {hashed} {names = names} {easy = easy} n m =
      let few = m.few in
      let same = n.count in
      record {
        few = omega arith;
        right = λ h. n.right hashed (entered names (part pool offset size)) (m.right h) m.is;
        is = m.is;
        short = m.short;
        stands = m.stands;
        past = λ z q. m.past z (sym (ap (λ (k : ℕ). easy && ltb 512 k) n.hard) ∙ q);
      }

-- The place and its mark are remembered, which changes no other word.
pub remembered-marked :
    {hashed : List ℕ → ℕ} {pool e e' e'' out out' : List ℕ} {names : List (List ℕ)} {limit : ℕ} {easy : Bool} (slot offset size : ℕ) {mark : ℕ} → slot < SLOTS → ENTRIES ≤ length e' → e'' ≡ remembered e' slot offset size mark
    → Marked hashed pool e e' out out' limit easy mark names (part pool offset size) → Marked hashed pool e e'' out out' limit easy mark names (part pool offset size)
remembered-marked slot offset size low room is m = noted-marked offset size (remembered-noted offset size slot low room is) m

-- The mark of a place that stands for another.
pub first-marked :
    {hashed : List ℕ → ℕ} {pool e e' out out' : List ℕ} {names : List (List ℕ)} {limit mark : ℕ} {easy : Bool} (offset size first size' : ℕ) → First e offset size first size' → offset + size ≤ length pool → Index hashed e pool names
    → Marked hashed pool e e' out out' limit easy mark names (part pool first size') → Marked hashed pool e e' out out' limit easy mark names (part pool offset size)
first-marked {pool = pool} offset size first size' f within g m =
    let same : part pool first size' ≡ part pool offset size = ap (part pool first) f.0 ∙ f.2 pool g.repeating within in
    rw same at m

-- A place that is remembered has its mark.
pub seen-marks :
    {hashed : List ℕ → ℕ} {e pool : List ℕ} {names : List (List ℕ)} (slot offset size : ℕ) → Index hashed e pool names → slot < SLOTS → (eqb (seen e slot 0) offset && eqb (seen e slot 1) size) ≡ true
    → {mark : ℕ} → mark ≡ seen e slot 2 → Marks names mark (part pool offset size)
seen-marks {e = e} slot offset size g low q is =
    let b = both_true (eqb (seen e slot 0) offset) (eqb (seen e slot 1) size) q in
    rw (is, ← eqb-true (seen e slot 0) offset b.0, ← eqb-true (seen e slot 1) size b.1) (g.places slot low)

-- A name is added, or does not fit.
module _ (e out : List ℕ) (offset size hash : ℕ) (bytes : List ℕ) (limit used : ℕ) (is : used ≡ get_or e USED 0) (sized : size ≡ length bytes) where
  pub added-past : limit < used + length bytes → Added e e out out offset size hash bytes limit 0
  added-past over = record { past = λ z. (refl, omega arith); fits = λ h. absurd (omega arith); wrote = λ h. absurd (omega arith) }

  pub added_new :
      {e' out' : List ℕ} {mark : ℕ} → used + length bytes ≤ limit → e' ≡ followed e offset size hash → mark ≡ used + 1 → (used + length bytes ≤ length out → out' ≡ written out used bytes)
      → Added e e' out out' offset size hash bytes limit mark
  added_new fits next mark put =
      record {
        past = λ z. absurd (omega arith);
        fits = λ h. (next, mark ∙ ap (λ (k : ℕ). k + 1) is, omega arith);
        wrote = λ h l. put (omega arith) ∙ ap (λ (k : ℕ). written out k bytes) is;
      }

-- After it is counted how hard the names are.
module _ (e : List ℕ) {e₁ : List ℕ} (x : ℕ) (next : e₁ ≡ set e HARD x) where
  pub counted_same : count_of e₁ ≡ count_of e
  counted_same = rw next (get_or-set_other e HARD 1024 x 0 (λ z. omega arith))

  pub counted-room : HasRoom e → HasRoom e₁
  counted-room r = (rw (counted_same, next, length-set) r.0, rw counted_same r.1)

  pub counted-chains : {hashed : List ℕ → ℕ} {pool : List ℕ} → Chains hashed e pool → Chains hashed e₁ pool
  counted-chains g = rw next (chains-noted e HARD x (omega arith) (omega arith) g)

  pub counted-index : {hashed : List ℕ → ℕ} {pool : List ℕ} {names : List (List ℕ)} → Index hashed e pool names → Index hashed e₁ pool names
  counted-index g = rw next (index-noted e HARD x (omega arith) (omega arith) g)

  -- They are hard, and that matters.
  pub stopped : {hashed : List ℕ → ℕ} {pool out bytes : List ℕ} {limit : ℕ} {easy : Bool} {names : List (List ℕ)} → ENTRIES ≤ length e → (easy && ltb 512 x) ≡ true → Marked hashed pool e e₁ out out limit easy 0 names bytes
  stopped room hard = hard-marked (let same = counted_same in omega arith) (rw (next, get_or-set_same e HARD x 0 (omega arith)) hard)

  -- They are not, or it does not matter.
  pub went_on :
      {hashed : List ℕ → ℕ} {pool e₂ out out' bytes : List ℕ} {limit mark : ℕ} {easy : Bool} {names : List (List ℕ)} → Marked hashed pool e₁ e₂ out out' limit easy mark names bytes
      → Marked hashed pool e e₂ out out' limit easy mark names bytes
  went_on m = let same = counted_same in let few = m.few in record { few = omega arith; right = m.right; is = m.is; short = m.short; stands = m.stands; past = m.past }

module _ (e : List ℕ) where
  pub found_word : {hashed : List ℕ → ℕ} {pool : List ℕ} (name : List ℕ) (n : ℕ) → n ≡ latest (is_named e pool name) (count_of e) → Chains hashed e pool → ENTRIES + WIDTH * n + MARK < length e
  found_word {pool = pool} name n at g =
      let within = latest-within (is_named e pool name) (count_of e) in
      let room = g.room in
      omega arith

  -- The name is found.
  pub found-marked :
      {hashed : List ℕ → ℕ} {pool out : List ℕ} {limit : ℕ} {easy : Bool} (names : List (List ℕ)) (name : List ℕ) {bytes : List ℕ} (n mark : ℕ) → name ≡ bytes → n ≡ latest (is_named e pool name) (count_of e) → 0 < n
      → mark ≡ word e n MARK → Index hashed e pool names → Marked hashed pool e e out out limit easy mark names bytes
  found-marked names name n mark is at h m g =
      let f = found g name n at h in
      held-marked (omega arith) g (rw m f.0) (m ∙ f.1 ∙ ap (mark_of names) is)

  -- It is not, and is added.
  pub new-marked :
      {hashed : List ℕ → ℕ} {pool e' out out' : List ℕ} {limit : ℕ} {easy : Bool} (names : List (List ℕ)) (name : List ℕ) (offset size hash n mark : ℕ) → HasRoom e → hash ≡ hashed (part pool offset size)
      → offset + size ≤ length pool → 0 < size → length out' ≡ length out → name ≡ part pool offset size → n ≡ latest (is_named e pool name) (count_of e) → n ≡ 0 → Added e e' out out' offset size hash name limit mark
      → Index hashed e pool names → Marked hashed pool e e' out out' limit easy mark names (part pool offset size)
  new-marked {hashed} {pool} {e'} {out} {out'} {limit} names name offset size hash n mark room hashes within full keeps is at none a g =
      added-marked hashed pool e e' out out' names limit offset size hash mark room hashes (sym (inside-length pool offset size within)) full keeps g
      (ap (λ (l : List ℕ). latest (is_named e pool l) (count_of e)) (sym is) ∙ sym at ∙ none) (rw is at a) refl

-- A name stands behind too many others.
pub crowded :
    {hashed : List ℕ → ℕ} {e pool out : List ℕ} {limit : ℕ} {easy : Bool} {names : List (List ℕ)} {bytes : List ℕ} (others : ℕ) → ENTRIES ≤ length e → (easy && ltb 32 others) ≡ true
    → Marked hashed pool e (set e HARD 513) out out limit easy 0 names bytes
crowded {e = e} {easy = easy} others room hard =
    let kept = get_or-set_other e HARD 1024 513 0 (λ z. omega arith) in
    hard-marked (omega arith) (rw (get_or-set_same e HARD 513 0 (omega arith), (both_true easy (ltb 32 others) hard).0) refl)
