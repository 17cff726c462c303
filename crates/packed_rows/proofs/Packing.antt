-- Fields of a row: one that is empty, one that has its mark, one that does not fit, and one after the other.
-- Assumes nothing.
use Prim.Native.Nat.{ℕ, zero, suc, ◌+◌, ◌-◌, ◌≤◌, ◌<◌}
use mathlib.Core.Path.{◌≡◌, refl, sym, ◌∙◌, ap, subst}
use mathlib.Core.Bool.{Bool, true, false, not}
use mathlib.Core.List.{List, [], ◌∷◌, ◌++◌}
use native.Mathlib.Omega.{arith}
use borrow.Author.Tests.{eqb-true, eqb-false, eq-eqb, ne_eqb, ltb-true}
use lib.Dec.{eqb, ltb}
use lib.ListN.{length, get_or, set}
use lib.Seq.{get_or-set_same, get_or-set_other}
use Rattle.rules.specs.Lists.{is_empty, all_of}
use Rattle.rules.specs.Table.{DECLARATION, TYPE, PREFIX, LOCAL_NAME, URI, VALUE, part, field_at, node_at, word}
use Rattle.rules.proofs.Lists.{by_cases, both_true, not-true, not-false, true-not-false, same_bytes-empty, length-empty, map-append}
use Rattle.notes.specs.Notes as N
use Rattle.notes.specs.Notes.{note_at}
use Rattle.numbers.specs.Numbers.{Names, Spelling}
use Rattle.numbers.specs.Noted.{declared_uri}
use Rattle.numbers.proofs.Laws.{same_number}
use Rattle.tables.specs.Tables.{hash_in}
use Rattle.packing.specs.Packing.{entered, entered_all, start_of, offset_in}
use Rattle.packing.proofs.Entries.{is_held, all_held}
use Rattle.packing.proofs.Growing.{enters_none, entered-apart, longer, offset-kept}
use Rattle.packed_index.specs.Index.{mark_of, Marks, HasRoom}
use Rattle.packed_index.proofs.Followed.{marks-kept}
use Rattle.packed_index.proofs.Finding.{mark-held}
use Rattle.packed_pool.specs.Marking.{Marked}
use Rattle.packed_pool.proofs.Marking.{inside-length}
use Rattle.packed_rows.specs.Rows.{Ready, State, Packs, field_of, name_fields, uses_of, patched, patches}

-- Room for more is room for fewer.
module _ {tables pool : List ℕ} {spelling : ℕ → List ℕ} {last limit : ℕ} {index starts out : List ℕ} {names : List (List ℕ)} where
  pub fewer : {more : ℕ} (less : ℕ) → less ≤ more → State tables pool spelling last limit more index starts out names → State tables pool spelling last limit less index starts out names
  fewer less h s =
      let room = s.room in
      let few = s.few in
      record { right = s.right; room = omega arith; few = omega arith; marks = s.marks; given = s.given; stands = s.stands; short = s.short }

  pub has_room : State tables pool spelling last limit 1 index starts out names → HasRoom index
  has_room s = let room = s.room in let few = s.few in (omega arith, omega arith)

-- A number and its bytes.
module _ {spelling : ℕ → List ℕ} {last n : ℕ} {bytes : List ℕ} (s : Spelling spelling last) (named : Names spelling last n bytes) where
  pub empty_name : n ≡ 0 → is_empty bytes ≡ true
  empty_name z = let none : bytes ≡ [] = sym named.spelled ∙ ap spelling z ∙ s.empty in rw none refl

  pub full-name : 0 < n → is_empty bytes ≡ false
  full-name h =
      let other = same_number s named (record { known = omega arith; spelled = s.empty }) in
      sym (same_bytes-empty bytes) ∙ sym other ∙ ne_eqb n 0 (λ z. omega arith)

-- What has bytes has a length.
pub full_size : (pool : List ℕ) (offset size : ℕ) → is_empty (part pool offset size) ≡ false → 0 < size
full_size pool offset zero full = absurd (true-not-false refl full)
full_size pool offset (suc n) full = omega arith

-- The offset of a name that has a mark is one less.
mark-offset : (names : List (List ℕ)) (bytes : List ℕ) {mark : ℕ} → is_empty bytes ≡ false → 0 < mark → mark ≡ mark_of names bytes → mark - 1 ≡ offset_in names bytes
unfolding offset_in mark_of
mark-offset names bytes {mark} full h is =
    let held = mark-held names bytes (rw is at h) in
    let start : mark ≡ start_of names bytes + 1 = is ∙ rw held refl in
    rw full (omega arith)

module _ (spelling : ℕ → List ℕ) (last : ℕ) (names : List (List ℕ)) (starts : List ℕ) where
  -- The marks that are kept stay right, and so does a new one.
  pub starts-kept : (bytes : List ℕ) → ((n : ℕ) → n ≤ last → Marks names (get_or starts n 0) (spelling n)) → (n : ℕ) → n ≤ last → Marks (entered names bytes) (get_or starts n 0) (spelling n)
  unfolding entered_all
  starts-kept bytes marks n l = marks-kept names (bytes ∷ []) (spelling n) (marks n l)

  pub starts-new :
      (number mark : ℕ) (bytes : List ℕ) → Names spelling last number bytes → last < length starts → mark ≡ mark_of (entered names bytes) bytes
      → ((n : ℕ) → n ≤ last → Marks names (get_or starts n 0) (spelling n)) → (n : ℕ) → n ≤ last → Marks (entered names bytes) (get_or (set starts number mark) n 0) (spelling n)
  starts-new number mark bytes named given is marks n l =
      let known = named.known in
      by_cases (eqb n number)
      (λ q. let same = eqb-true n number q in rw (same, named.spelled, get_or-set_same starts number mark 0 (omega arith)) (λ h. is))
      (λ q. rw (get_or-set_other starts number n mark 0 (eqb-false n number q)) (starts-kept bytes marks n l))

module _ {tables pool : List ℕ} {spelling : ℕ → List ℕ} {last limit : ℕ} {easy : Bool} (names : List (List ℕ)) where
  -- An empty field.
  pub empty-packs :
      {more at : ℕ} {bytes index starts out table : List ℕ} → is_empty bytes ≡ true → State tables pool spelling last limit (more + 1) index starts out names
      → Packs tables pool spelling last limit more index starts out table table easy true names ((at, bytes) ∷ [])
  unfolding entered_all patches
  empty-packs {more} {bytes = bytes} none s =
      record {
        state = λ t. rw (enters_none names bytes none) (fewer more (omega arith) s);
        words = λ t. rw none refl;
        past = λ f. absurd (true-not-false refl f);
      }

  -- A field that has its mark.
  pub marked-packs :
      {more at mark : ℕ} {bytes index index' starts starts' out out' table table' : List ℕ} → is_empty bytes ≡ false → 0 < mark → State tables pool spelling last limit (more + 1) index starts out names
      → Marked (hash_in tables) pool index index' out out' limit easy mark names bytes → length index' ≡ length index → length starts' ≡ length starts
      → ((n : ℕ) → n ≤ last → Marks (entered names bytes) (get_or starts' n 0) (spelling n)) → table' ≡ set table at (mark - 1)
      → Packs tables pool spelling last limit more index' starts' out' table table' easy true names ((at, bytes) ∷ [])
  unfolding entered_all patches
  marked-packs {more} {at} {mark} {bytes} {table = table} full h s m long count marks set_there =
      let room = s.room in
      let few = s.few in
      let most = m.few in
      let given = s.given in
      record {
        state = λ t.
            record {
              right = m.right h;
              room = omega arith;
              few = omega arith;
              marks = marks;
              given = omega arith;
              stands = m.stands h s.stands;
              short = m.short h s.short;
            };
        words = λ t. rw full (set_there ∙ ap (set table at) (mark-offset (entered names bytes) bytes full h (m.is h)));
        past = λ f. absurd (true-not-false refl f);
      }

  -- A field that does not fit.
  pub past-packs1 :
      {more at mark : ℕ} {bytes index index' starts out out' table table' : List ℕ} → mark ≡ 0 → Marked (hash_in tables) pool index index' out out' limit easy mark names bytes
      → Packs tables pool spelling last limit more index' starts out' table table' easy false names ((at, bytes) ∷ [])
  unfolding entered_all
  past-packs1 z m = record { state = λ t. absurd (true-not-false t refl); words = λ t. absurd (true-not-false t refl); past = λ f. m.past z }

-- Offsets stay when more names are entered.
module _ (names later : List (List ℕ)) where
  patches-kept : (fields : List (ℕ × List ℕ)) (table : List ℕ) → all_of (is_held names) (uses_of fields) ≡ true → patches (entered_all names later) fields table ≡ patches names fields table
  unfolding patches
  patches-kept [] table h = refl
  patches-kept (f ∷ fields) table h =
      let b = both_true (is_held names f.1) (all_of (is_held names) (uses_of fields)) h in
      rw (offset-kept names later f.1 b.0) (patches-kept fields (patched names f table) b.1)

patches-apart : (names : List (List ℕ)) (fs gs : List (ℕ × List ℕ)) (table : List ℕ) → patches names (fs ++ gs) table ≡ patches names gs (patches names fs table)
unfolding patches
patches-apart names [] gs table = refl
patches-apart names (f ∷ fs) gs table = patches-apart names fs gs (patched names f table)

-- Fields after fields.
module _ (names : List (List ℕ)) (fs gs : List (ℕ × List ℕ)) where
  together : entered_all names (uses_of (fs ++ gs)) ≡ entered_all (entered_all names (uses_of fs)) (uses_of gs)
  together = ap (entered_all names) (map-append (λ (f : ℕ × List ℕ). f.1) fs gs) ∙ entered-apart names (uses_of fs) (uses_of gs)

  pub then-packs :
      {tables pool : List ℕ} {spelling : ℕ → List ℕ} {last limit more more' : ℕ} {easy : Bool} {index index' starts starts' out out' table table' table'' : List ℕ} {done : Bool} → Packs tables pool spelling last limit more' index starts out table table' easy true names fs
      → Packs tables pool spelling last limit more index' starts' out' table' table'' easy done (entered_all names (uses_of fs)) gs
      → Packs tables pool spelling last limit more index' starts' out' table table'' easy done names (fs ++ gs)
  then-packs {table = table} p q =
      let one = entered_all names (uses_of fs) in
      let two = entered_all one (uses_of gs) in
      record {
        state = λ t. rw together (q.state t);
        words = λ t.
            rw together
            (q.words t ∙ ap (patches two gs) (p.words refl ∙ sym (patches-kept one (uses_of gs) fs table (all_held (uses_of fs) names))) ∙ sym (patches-apart two fs gs table));
        past = λ f e. rw together (q.past f e);
      }

  pub past-packs :
      {tables pool : List ℕ} {spelling : ℕ → List ℕ} {last limit more more' : ℕ} {easy : Bool} {index starts out table table' table'' : List ℕ} → Packs tables pool spelling last limit more index starts out table table' easy false names fs
      → Packs tables pool spelling last limit more' index starts out table table'' easy false names (fs ++ gs)
  past-packs p =
      record {
        state = λ t. absurd (true-not-false t refl);
        words = λ t. absurd (true-not-false t refl);
        past = λ f e. let over = p.past refl e in let l = longer (entered_all names (uses_of fs)) (uses_of gs) in rw together (omega arith);
      }

-- The row stays ready as its words are set.
pub ready-kept :
    {table pool tables notes out_table out_table' : List ℕ} {spelling : ℕ → List ℕ} {last limit r : ℕ} → length out_table' ≡ length out_table → Ready table pool tables notes out_table spelling last limit r
    → Ready table pool tables notes out_table' spelling last limit r
ready-kept same g =
    let room = g.room in
    record {
      row = g.row;
      small = g.small;
      fields = g.fields;
      records = g.records;
      hashes = g.hashes;
      spelled = g.spelled;
      numbered = g.numbered;
      limited = g.limited;
      room = omega arith;
    }

-- All three names of a row are empty.
pub no_names :
    {table pool tables notes out_table : List ℕ} {spelling : ℕ → List ℕ} {last limit r more : ℕ} {index starts out : List ℕ} {easy none : Bool} (names : List (List ℕ))
    → none ≡ ltb (note_at notes r N.PREFIX + note_at notes r N.LOCAL_NAME + note_at notes r N.URI) 1 → none ≡ true → Ready table pool tables notes out_table spelling last limit r
    → State tables pool spelling last limit (more + 3) index starts out names → Packs tables pool spelling last limit more index starts out out_table out_table easy true names (name_fields table pool r)
no_names {table} {pool} {notes = notes} {r = r} {more = more} {easy = easy} names is said g s =
    let few = ltb-true (note_at notes r N.PREFIX + note_at notes r N.LOCAL_NAME + note_at notes r N.URI) 1 (sym is ∙ said) in
    let f₁ = field_of table pool r PREFIX in
    let f₂ = field_of table pool r LOCAL_NAME in
    let f₃ = field_of table pool r URI in
    let p₁ = empty-packs {easy = easy} names (empty_name g.spelled g.numbered.prefix (omega arith)) (fewer (more + 2 + 1) (omega arith) s) in
    let n₁ = entered_all names (uses_of (f₁ ∷ [])) in
    let p₂ = empty-packs n₁ (empty_name g.spelled g.numbered.local (omega arith)) (fewer (more + 1 + 1) (omega arith) (p₁.state refl)) in
    let n₂ = entered_all n₁ (uses_of (f₂ ∷ [])) in
    let p₃ = empty-packs n₂ (empty_name g.spelled g.numbered.uri (omega arith)) (p₂.state refl) in
    then-packs names (f₁ ∷ []) (f₂ ∷ f₃ ∷ []) p₁ (then-packs n₁ (f₂ ∷ []) (f₃ ∷ []) p₂ p₃)

-- A declaration's value has the number that is noted, and any other value none.
pub value-noted :
    {table pool tables notes out_table : List ℕ} {spelling : ℕ → List ℕ} {last limit r : ℕ} → Ready table pool tables notes out_table spelling last limit r → word table r TYPE ≡ DECLARATION
    → Names spelling last (note_at notes r N.VALUE) (field_at table pool r VALUE).bytes
value-noted {table} {pool} {r = r} g is =
    let declared : declared_uri (node_at table pool r) ≡ (field_at table pool r VALUE).bytes = rw (eq-eqb (word table r TYPE) DECLARATION is) refl in
    let v = g.numbered.value in
    record { known = v.known; spelled = v.spelled ∙ declared }

-- A field of no length has no bytes, and one of some length that lies in the pool has some.
pub no_bytes : (pool : List ℕ) (offset : ℕ) {size : ℕ} → size ≡ 0 → is_empty (part pool offset size) ≡ true
no_bytes pool offset z = rw z refl

pub some_bytes : (pool : List ℕ) (offset size : ℕ) → offset + size ≤ length pool → 0 < size → is_empty (part pool offset size) ≡ false
some_bytes pool offset size within h =
    let long = inside-length pool offset size within in
    length-empty (part pool offset size) ∙ ne_eqb (length (part pool offset size)) 0 (λ z. omega arith)

-- What a field answered.
module _ {tables pool : List ℕ} {spelling : ℕ → List ℕ} {last limit more : ℕ} {index starts out table table' : List ℕ} {easy done : Bool} {names : List (List ℕ)} {fields : List (ℕ × List ℕ)} where
  pub failed : not done ≡ true → Packs tables pool spelling last limit more index starts out table table' easy done names fields → Packs tables pool spelling last limit more index starts out table table' easy false names fields
  failed q p = subst (λ (d : Bool). Packs tables pool spelling last limit more index starts out table table' easy d names fields) (not-true done q) p

  pub passed : not done ≡ false → Packs tables pool spelling last limit more index starts out table table' easy done names fields → Packs tables pool spelling last limit more index starts out table table' easy true names fields
  passed q p = subst (λ (d : Bool). Packs tables pool spelling last limit more index starts out table table' easy d names fields) (not-false done q) p
