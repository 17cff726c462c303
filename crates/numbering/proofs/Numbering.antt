-- The numbers of a row's names: one field after the other.
-- Assumes nothing.
use Prim.Native.Nat.{ℕ, ◌+◌, ◌*◌, ◌≤◌, ◌<◌}
use mathlib.Core.Path.{◌≡◌, refl, sym, ap, ◌∙◌}
use mathlib.Core.Bool.{Bool, true, false, ◌||◌}
use mathlib.Core.List.{List, [], ◌∷◌, ◌++◌, map}
use mathlib.Core.Option.{none}
use native.Mathlib.Omega.{arith}
use borrow.Author.Tests.{eqb-true, ltb-false, eq-eqb, ne_eqb}
use lib.Dec.{eqb}
use lib.ListN.{length, length-drop}
use Rattle.rules.specs.Table.{MOST_BYTES, TYPE, PREFIX, LOCAL_NAME, URI, VALUE, ELEMENT, ATTRIBUTE, DECLARATION, LEVEL1_ELEMENT, LEVEL1_ATTRIBUTE, Node, part, word, field_at, node_at, worded_fields, row_count, is_level1}
use Rattle.rules.specs.declared.Place.{Place}
use Rattle.rows.specs.Reading.{place_at}
use Rattle.rules.specs.Refusals.{refused_if, past_pool, offset_without_length, must_be_empty, place_refusal, length_refusal, fields_refusal}
use Rattle.rules.specs.declared.Refusal.{Refusal}
use Rattle.rules.proofs.Lists.{both_false, not-false, right-false}
use Rattle.rules.proofs.Refusals.{not-refused, all_none}
use Rattle.notes.specs.Notes as N
use Rattle.notes.specs.Notes.{NOTES, note_at, noted}
use Rattle.notes.proofs.Laws.{noted-same, noted_other}
use Rattle.numbers.specs.Numbers.{Names}
use Rattle.numbers.specs.Noted.{declared_uri}
use Rattle.kinds.specs.Kinds.{EMPTY, kind_of}
use Rattle.entries.specs.Entries as E
use Rattle.entries.specs.Entries.{Interned}
use Rattle.dictionary.specs.Dictionary.{entries_of, last_of, spelling, Dictionary}
use Rattle.kinds.proofs.NameKinds.{kind-of-empty}
use Rattle.dictionary.proofs.Places.{denoted}
use Rattle.dictionary.proofs.Laws.{spelled}
use Rattle.row_names.specs.RowNames.{kinds_of}
use Rattle.numbering.specs.Numbering.{HasRoom, Inside, FieldNumbered, RowNumbered}

-- There is room for one number more.
pub entries-room : {d : List ℕ} → HasRoom d 1 → E.HasRoom (entries_of d)
unfolding entries_of
entries-room h = let w = h.words in let s = h.small in (rw length-drop (omega arith), omega arith)

pub room-left : {d e : List ℕ} {more : ℕ} (used left : ℕ) → HasRoom d more → last_of e ≤ last_of d + used → used + left ≤ more → length e ≡ length d → HasRoom e left
room-left used left h f u l = let w = h.words in let s = h.small in record { words = rw l (omega arith); small = omega arith }

-- The words of a row lie in the notes.
pub word-inside :
    (table : List ℕ) (r k : ℕ) {before after : ℕ} → r < row_count table → NOTES * row_count table ≤ before → after ≡ before → k < NOTES → NOTES * r + k < after
word-inside table r k h n l i = omega arith

pub place-within : {table pool : List ℕ} {r k : ℕ} → Inside table pool r k → {place : Place} → place ≡ place_at table r k → E.Within pool place.offset.0 place.length
place-within i p = let s = i.small in rw p (i.within, omega arith)

-- A field that is not refused lies in the pool; a declaration's URI is empty.
module _ (table pool : List ℕ) (r : ℕ) (small : length pool ≤ MOST_BYTES) (f : fields_refusal (length pool) r (node_at table pool r) ≡ none) where
  place_inside : (k : ℕ) → place_refusal (length pool) r (k, field_at table pool r k) ≡ none → Inside table pool r k
  place_inside k e =
      let at = field_at table pool r k in
      let a = all_none (refused_if (past_pool (length pool) at) (Refusal.PastPool (record { 0 = r }) k) ∷ refused_if (offset_without_length at) (Refusal.OffsetWithoutLength (record { 0 = r }) k) ∷ []) e in
      record { small = small; within = ltb-false (length pool) (at.offset + at.size) (not-refused _ _ a.0) }

  pub inside-prefix : Inside table pool r PREFIX
  unfolding fields_refusal
  inside-prefix = place_inside PREFIX (all_none (map (place_refusal (length pool) r) (worded_fields (node_at table pool r)) ++ map (length_refusal (word table r TYPE) r) (worded_fields (node_at table pool r))) f).0

  pub inside-local : Inside table pool r LOCAL_NAME
  unfolding fields_refusal
  inside-local = place_inside LOCAL_NAME (all_none (map (place_refusal (length pool) r) (worded_fields (node_at table pool r)) ++ map (length_refusal (word table r TYPE) r) (worded_fields (node_at table pool r))) f).1.0

  pub inside-uri : Inside table pool r URI
  unfolding fields_refusal
  inside-uri = place_inside URI (all_none (map (place_refusal (length pool) r) (worded_fields (node_at table pool r)) ++ map (length_refusal (word table r TYPE) r) (worded_fields (node_at table pool r))) f).1.1.0

  pub inside-value : Inside table pool r VALUE
  unfolding fields_refusal
  inside-value = place_inside VALUE (all_none (map (place_refusal (length pool) r) (worded_fields (node_at table pool r)) ++ map (length_refusal (word table r TYPE) r) (worded_fields (node_at table pool r))) f).1.1.1.0

  -- A field that must be empty is.
  size-empty : (k : ℕ) → length_refusal (word table r TYPE) r (k, field_at table pool r k) ≡ none → must_be_empty (word table r TYPE) k ≡ true → (field_at table pool r k).bytes ≡ []
  size-empty k e must =
      let size = eqb-true (word table r (k + 1)) 0 (not-false _ (right-false _ _ (not-refused _ _ e) must)) in
      rw size refl

  pub no-prefix : must_be_empty (word table r TYPE) PREFIX ≡ true → (field_at table pool r PREFIX).bytes ≡ []
  unfolding fields_refusal
  no-prefix = size-empty PREFIX (all_none (map (place_refusal (length pool) r) (worded_fields (node_at table pool r)) ++ map (length_refusal (word table r TYPE) r) (worded_fields (node_at table pool r))) f).1.1.1.1.0

  pub no_local : must_be_empty (word table r TYPE) LOCAL_NAME ≡ true → (field_at table pool r LOCAL_NAME).bytes ≡ []
  unfolding fields_refusal
  no_local = size-empty LOCAL_NAME (all_none (map (place_refusal (length pool) r) (worded_fields (node_at table pool r)) ++ map (length_refusal (word table r TYPE) r) (worded_fields (node_at table pool r))) f).1.1.1.1.1.0

  pub no-uri : must_be_empty (word table r TYPE) URI ≡ true → (field_at table pool r URI).bytes ≡ []
  unfolding fields_refusal
  no-uri = size-empty URI (all_none (map (place_refusal (length pool) r) (worded_fields (node_at table pool r)) ++ map (length_refusal (word table r TYPE) r) (worded_fields (node_at table pool r))) f).1.1.1.1.1.1.0

-- The fields that must be empty in a declaration, and in a row without names.
pub declaration-empty : {type : ℕ} → type ≡ DECLARATION → (must_be_empty type PREFIX ≡ true) × (must_be_empty type URI ≡ true)
unfolding must_be_empty
declaration-empty d = rw d (refl, refl)

pub nameless-empty :
    (type : ℕ) → (type ≡ DECLARATION → ⊥) → {level1 : Bool} → level1 ≡ is_level1 type → (eqb type ELEMENT || eqb type ATTRIBUTE || level1) ≡ false
    → (must_be_empty type PREFIX ≡ true) × (must_be_empty type LOCAL_NAME ≡ true) × (must_be_empty type URI ≡ true)
unfolding must_be_empty
nameless-empty type d {level1} l e =
    let a = both_false (eqb type ELEMENT || eqb type ATTRIBUTE) level1 e in
    let b = both_false (eqb type ELEMENT) (eqb type ATTRIBUTE) a.0 in
    let c = both_false (eqb type LEVEL1_ELEMENT) (eqb type LEVEL1_ATTRIBUTE || false) (sym l ∙ a.1) in
    let g = both_false (eqb type LEVEL1_ATTRIBUTE) false c.1 in
    rw (b.0, b.1, ne_eqb type DECLARATION d, c.0, g.0) (refl, refl, refl)

-- The number of a name is noted.
note-number : (notes : List ℕ) {noted' : List ℕ} (r k : ℕ) → NOTES * r + k < length notes → {number : ℕ} → noted' ≡ noted notes r k number → note_at noted' r k ≡ number
note-number notes r k h {number} w = rw w (noted-same notes r k number h)

pub field-numbered :
    {before after pool : List ℕ} (notes : List ℕ) {noted' : List ℕ} (r k : ℕ) → NOTES * r + k < length notes → {number : ℕ} → noted' ≡ noted notes r k number → {bytes : List ℕ} → Dictionary after pool
    → Interned (entries_of before) (entries_of after) pool bytes number → FieldNumbered before notes after noted' pool r k bytes 1
field-numbered notes r k h w g i =
    let n = note-number notes r k h w in
    record { right = g; names = rw n i.denotes; kept = i.kept; few = i.few; wrote = w ∙ ap (noted notes r k) (sym n) }

-- 0 is noted for no bytes.
pub empty-numbered :
    {d pool : List ℕ} (notes : List ℕ) {noted' : List ℕ} (r k : ℕ) → NOTES * r + k < length notes → noted' ≡ noted notes r k 0 → Dictionary d pool → {bytes : List ℕ} → bytes ≡ []
    → FieldNumbered d notes d noted' pool r k bytes 0
empty-numbered notes r k h w g e =
    let n = note-number notes r k h w in
    record {
      right = g;
      names = rw n (record { known = omega arith; spelled = (spelled g).empty ∙ sym e });
      kept = λ m other p. p;
      few = omega arith;
      wrote = w ∙ ap (noted notes r k) (sym n);
    }

-- Every other word is kept.
words-kept :
    {before notes after noted' pool : List ℕ} {r k : ℕ} {bytes : List ℕ} {more : ℕ} → FieldNumbered before notes after noted' pool r k bytes more → k < NOTES → (q j : ℕ) → j < NOTES → (q ≡ r → j ≡ k → ⊥)
    → note_at noted' q j ≡ note_at notes q j
words-kept {notes = notes} {noted' = noted'} {r = r} {k = k} f h q j i o = ap (λ x. note_at x q j) f.wrote ∙ noted_other notes r k (note_at noted' r k) q j h i o

-- Four fields are noted.
pub row-numbered :
    {d₀ d₁ d₂ d₃ d₄ n₀ n₁ n₂ n₃ n₄ pool : List ℕ} {r : ℕ} (n : Node) {more₀ more₁ more₂ more₃ : ℕ} → more₀ + more₁ + more₂ + more₃ ≤ 3
    → FieldNumbered d₀ n₀ d₁ n₁ pool r N.PREFIX n.prefix.bytes more₀ → FieldNumbered d₁ n₁ d₂ n₂ pool r N.LOCAL_NAME n.local.bytes more₁
    → FieldNumbered d₂ n₂ d₃ n₃ pool r N.URI n.uri.bytes more₂ → FieldNumbered d₃ n₃ d₄ n₄ pool r N.VALUE (declared_uri n) more₃
    → RowNumbered d₀ n₀ d₄ n₄ pool r n
row-numbered {n₁ = n₁} {n₂ = n₂} {n₃ = n₃} {n₄ = n₄} {r = r} n few p l u v =
    let from-uri : (j : ℕ) → j < 3 → note_at n₄ r j ≡ note_at n₃ r j = λ j h. words-kept v (omega arith) r j (omega arith) (λ e i. omega arith) in
    let from-local : (j : ℕ) → j < 2 → note_at n₄ r j ≡ note_at n₂ r j = λ j h. from-uri j (omega arith) ∙ words-kept u (omega arith) r j (omega arith) (λ e i. omega arith) in
    let from-prefix : note_at n₄ r N.PREFIX ≡ note_at n₁ r N.PREFIX = from-local N.PREFIX (omega arith) ∙ words-kept l (omega arith) r N.PREFIX (omega arith) (λ e i. omega arith) in
    let f₁ = p.few in
    let f₂ = l.few in
    let f₃ = u.few in
    let f₄ = v.few in
    record {
      right = v.right;
      numbered =
          record {
            prefix = rw from-prefix (v.kept _ _ (u.kept _ _ (l.kept _ _ p.names)));
            local = rw (from-local N.LOCAL_NAME (omega arith)) (v.kept _ _ (u.kept _ _ l.names));
            uri = rw (from-uri N.URI (omega arith)) (v.kept _ _ u.names);
            value = v.names;
          };
      kept = λ m other k. v.kept m other (u.kept m other (l.kept m other (p.kept m other k)));
      few = omega arith;
      others = λ q j h o.
          words-kept v (omega arith) q j h (λ e i. o e (omega arith)) ∙ words-kept u (omega arith) q j h (λ e i. o e (omega arith))
          ∙ words-kept l (omega arith) q j h (λ e i. o e (omega arith)) ∙ words-kept p (omega arith) q j h (λ e i. o e (omega arith));
    }

-- The value counts for a declaration alone.
pub value-numbered :
    {before notes after noted' pool : List ℕ} {r k : ℕ} {more : ℕ} (n : Node) → n.type ≡ DECLARATION → FieldNumbered before notes after noted' pool r k n.value.bytes more
    → FieldNumbered before notes after noted' pool r k (declared_uri n) more
value-numbered n t f = rw (eq-eqb n.type DECLARATION t) f

pub no_value : (n : Node) → (n.type ≡ DECLARATION → ⊥) → declared_uri n ≡ []
no_value n t = rw (ne_eqb n.type DECLARATION t)

-- What the names are.
module _ (n : Node) where
  pub kinds-declared :
      {local value : ℕ} → local ≡ kind_of n.local.bytes → n.type ≡ DECLARATION → n.prefix.bytes ≡ [] → n.uri.bytes ≡ [] → value ≡ kind_of n.value.bytes
      → record { prefix = EMPTY; local = local; uri = EMPTY; value = value } ≡ kinds_of n
  unfolding kinds_of
  kinds-declared l t p u v = rw (eq-eqb n.type DECLARATION t, p, u, kind-of-empty, l, v)

  pub kinds-named :
      {prefix local uri : ℕ} → prefix ≡ kind_of n.prefix.bytes → local ≡ kind_of n.local.bytes → uri ≡ kind_of n.uri.bytes → (n.type ≡ DECLARATION → ⊥)
      → record { prefix = prefix; local = local; uri = uri; value = EMPTY } ≡ kinds_of n
  unfolding kinds_of
  kinds-named p l u t = rw (ne_eqb n.type DECLARATION t, kind-of-empty, p, l, u)

  pub kinds-none : n.prefix.bytes ≡ [] → n.local.bytes ≡ [] → n.uri.bytes ≡ [] → (n.type ≡ DECLARATION → ⊥) → record { prefix = EMPTY; local = EMPTY; uri = EMPTY; value = EMPTY } ≡ kinds_of n
  unfolding kinds_of
  kinds-none p l u t = rw (ne_eqb n.type DECLARATION t, p, l, u, kind-of-empty)

-- A field of no bytes is empty.
pub empty-kind : (table pool : List ℕ) (r k : ℕ) {place : Place} → place ≡ place_at table r k → place.length ≡ 0 → EMPTY ≡ kind_of (field_at table pool r k).bytes
empty-kind table pool r k p l = let size : word table r (k + 1) ≡ 0 = rw p at l in rw size (sym kind-of-empty)

-- A place that is remembered has its number.
pub recalled :
    {d pool : List ℕ} → Dictionary d pool → (offset size number : ℕ) → Names (spelling d pool) (last_of d) number (part pool offset size)
    → Interned (entries_of d) (entries_of d) pool (part pool offset size) number
recalled g offset size number known = denoted known
