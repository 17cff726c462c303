-- The places seen: a place is remembered beside its number, and the entries behind them are lent and come back.
-- Assumes nothing.
use Prim.Native.Nat.{ℕ, zero, suc, ◌+◌, ◌-◌, ◌*◌, ◌≤◌, ◌<◌}
use mathlib.Core.Path.{◌≡◌, sym, ap, ◌∙◌}
use mathlib.Core.Bool.{Bool, true, ◌&&◌}
use mathlib.Core.List.{List, [], ◌++◌, append-nil}
use native.Mathlib.Omega.{arith}
use borrow.Author.Tests.{eqb-true, eqb-false, ltb-true, lt-ltb}
use lib.ListN.{length, take, drop, set, length-set, length-append, length-drop, drop_of_length-le, get_or-append}
use lib.Seq.{take_all, drop_at, length-take-le, get_or-take, drop-set-lt, get_or-set_other}
use lib.Dec.{eqb, ltb}
use Rattle.rules.specs.Table.{part}
use Rattle.rules.proofs.Lists.{by_cases, both_true}
use Rattle.kinds.specs.Kinds.{kind_of}
use Rattle.entries.specs.Entries.{KIND, word, name_at, Entries, Denotes, Interned}
use Rattle.dictionary.specs.Dictionary.{SLOTS, PLACES, OFFSET, LENGTH, NUMBER, seen, entries_of, Dictionary, remembered}
use Rattle.kinds.proofs.NameKinds.{kind-of-empty}
use Rattle.entries.proofs.Entering.{here, apart}

-- A dictionary has all its slots.
pub has-places : {d pool : List ℕ} → Dictionary d pool → PLACES ≤ length d
unfolding entries_of
has-places {d} g = let r = rw length-drop at g.entries.room in omega arith

-- What has its number keeps it.
pub denoted : {e pool name : List ℕ} {n : ℕ} → Denotes e pool n name → Interned e e pool name n
denoted d = record { denotes = d; kept = λ m other k. k; few = omega arith }

-- The entries are lent, and come back.
module _ (d : List ℕ) (h : PLACES ≤ length d) where
  pub lent : take (length d - PLACES) (drop PLACES d) ≡ entries_of d
  unfolding entries_of
  lent = take_all (length d - PLACES) (drop PLACES d) (rw length-drop (omega arith))

  abbrev pub back : List ℕ → List ℕ
  back e = take PLACES d ++ (e ++ drop (length d - PLACES) (drop PLACES d))

  pub entries-back : (e : List ℕ) → entries_of (back e) ≡ e
  unfolding entries_of
  entries-back e =
      drop_at (take PLACES d) (e ++ drop (length d - PLACES) (drop PLACES d)) PLACES (length-take-le PLACES d h)
      ∙ ap (λ rest. e ++ rest) (drop_of_length-le (drop PLACES d) {i = length d - PLACES} (rw length-drop (omega arith))) ∙ append-nil e

  pub seen_back : (e : List ℕ) (s k : ℕ) → s < SLOTS → k < 3 → seen (back e) s k ≡ seen d s k
  seen_back e s k i j =
      let inside : 3 * s + k < length (take PLACES d) = rw (length-take-le PLACES d h) (omega arith) in
      get_or-append (take PLACES d) (e ++ drop (length d - PLACES) (drop PLACES d)) 0 (3 * s + k) inside ∙ get_or-take PLACES d (3 * s + k) 0 (omega arith)

ruleset reading = (here, get_or-set_other, length-set, apart)

-- A slot is filled.
module _ (d : List ℕ) (s offset size number : ℕ) (h : PLACES ≤ length d) (i : s < SLOTS) where
  entries-remembered : entries_of (remembered d s offset size number) ≡ entries_of d
  unfolding remembered entries_of
  entries-remembered =
      drop-set-lt PLACES (set (set d (3 * s + OFFSET) offset) (3 * s + LENGTH) size) (3 * s + NUMBER) number (omega arith)
      ∙ drop-set-lt PLACES (set d (3 * s + OFFSET) offset) (3 * s + LENGTH) size (omega arith)
      ∙ drop-set-lt PLACES d (3 * s + OFFSET) offset (omega arith)

  abbrev inside : (k : ℕ) → ltb k 3 ≡ true → ltb (3 * s + k) (length d) ≡ true
  inside k j = let l = ltb-true k 3 j in lt-ltb (3 * s + k) (length d) (omega arith)

  seen_here :
      (seen (remembered d s offset size number) s OFFSET ≡ offset) × (seen (remembered d s offset size number) s LENGTH ≡ size)
      × (seen (remembered d s offset size number) s NUMBER ≡ number)
  unfolding remembered
  seen_here = (simp (reading, inside), simp (reading, inside), simp (reading, inside))

  seen_other : (t k : ℕ) → (t ≡ s → ⊥) → k < 3 → seen (remembered d s offset size number) t k ≡ seen d t k
  unfolding remembered
  seen_other t k n j =
      let other : (l : ℕ) → ltb l 3 ≡ true → 3 * t + k ≡ 3 * s + l → ⊥ = λ l m e. (let b = ltb-true l 3 m in n (omega arith)) in
      simp (get_or-set_other, other)

-- The same place is the same part. Of different places nothing follows: their parts may be equal or not, and the bytes decide.
pub same_place : (pool : List ℕ) (o l offset size : ℕ) → (eqb o offset && eqb l size) ≡ true → part pool o l ≡ part pool offset size
same_place pool o l offset size e =
    let both = both_true (eqb o offset) (eqb l size) e in
    rw (eqb-true o offset both.0, eqb-true l size both.1)

-- A place that is seen has the number beside it.
pub seen-denotes :
    {d pool : List ℕ} → Dictionary d pool → (s : ℕ) → s < SLOTS → (offset size : ℕ) {is : Bool} → is ≡ (eqb (seen d s OFFSET) offset && eqb (seen d s LENGTH) size) → is ≡ true
    → {n : ℕ} → n ≡ seen d s NUMBER → Denotes (entries_of d) pool n (part pool offset size)
seen-denotes {d} {pool} g s i offset size e t f = rw (f, ← same_place pool (seen d s OFFSET) (seen d s LENGTH) offset size (sym e ∙ t)) (g.places s i)

-- A new place is remembered beside the number that it has got.
pub remembered-interned :
    (d pool : List ℕ) (g : Dictionary d pool) (s : ℕ) → s < SLOTS → (offset size : ℕ) {e : List ℕ} → Entries e pool → {n : ℕ} → Interned (entries_of d) e pool (part pool offset size) n
    → {after : List ℕ} → after ≡ remembered (back d (has-places g) e) s offset size n → Dictionary after pool × Interned (entries_of d) (entries_of after) pool (part pool offset size) n
remembered-interned d pool g s i offset size {e} entries {n} interned is =
    let h = has-places g in
    let whole = back d h e in
    let long : PLACES ≤ length whole = rw (length-append, length-take-le PLACES d h) (omega arith) in
    let behind : entries_of (remembered whole s offset size n) ≡ e = entries-remembered whole s offset size n long i ∙ entries-back d h e in
    let here = seen_here whole s offset size n long i in
    rw (is, behind) (
      record {
        entries = rw behind entries;
        places = λ t j.
            rw behind
            (by_cases (eqb t s)
            (λ same. rw (eqb-true t s same, here.0, here.1, here.2) interned.denotes)
            (λ other.
            let kept : (k : ℕ) → k < 3 → seen (remembered whole s offset size n) t k ≡ seen d t k =
            λ k l. seen_other whole s offset size n long i t k (eqb-false t s other) l ∙ seen_back d h e t k j l in
            rw (kept OFFSET (omega arith), kept LENGTH (omega arith), kept NUMBER (omega arith))
            (interned.kept (seen d t NUMBER) (part pool (seen d t OFFSET) (seen d t LENGTH)) (g.places t j))));
      },
      interned,
    )

-- No bytes are the empty name, number 0.
pub empty-interned : {d pool : List ℕ} → Dictionary d pool → (offset size : ℕ) → size ≡ 0 → Interned (entries_of d) (entries_of d) pool (part pool offset size) 0
empty-interned g offset size e = denoted (record { known = omega arith; spelled = rw (g.entries.empty, e) })

-- The kind of a number is that of its name.
pub kind-named : {d pool name : List ℕ} → Dictionary d pool → (n : ℕ) → Denotes (entries_of d) pool n name → word (entries_of d) n KIND ≡ kind_of name
kind-named {d} {pool} g zero named =
    let empty : name_at (entries_of d) pool 0 ≡ [] = rw g.entries.empty in
    g.entries.kind ∙ sym kind-of-empty ∙ ap kind_of (sym empty ∙ named.spelled)
kind-named g (suc m) named = (g.entries.each m named.known).kind ∙ ap kind_of named.spelled
