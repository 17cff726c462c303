-- What the buffers hold after a write.
-- Assumes nothing.
use Prim.Native.Nat.{ℕ, suc, ◌+◌, ◌*◌, ◌≤◌, ◌<◌}
use mathlib.Core.Path.{◌≡◌, refl, sym, ◌∙◌, ap}
use mathlib.Core.Bool.{Bool, false, cond}
use mathlib.Core.List.{List, [], ◌∷◌, ◌++◌}
use native.Mathlib.Numerals.{add-one}
use native.Mathlib.Omega.{arith}
use lib.ListN.{length, set, length-set, length-append}
use lib.Seq.{get_or-set_same, get_or-set_other}
use lib.Dec.{eqb, ltb}
use borrow.Author.Tests.{eqb-true, eqb-false, eq-eqb, ne_eqb, ltb-true, ltb-false}
use Rattle.rules.specs.Table.{TYPE, PARENT, DECLARATION, Field, Node, node, words, word, row_count}
use Rattle.rules.specs.Lists.{same_bytes}
use Rattle.rules.specs.Normalization.{numbered_prefix, new_declaration, with_value, with_prefix}
use Rattle.rules.proofs.Lists.{by_cases, same_bytes-refl, unequal-same_bytes}
use Rattle.rules.proofs.Prefixes.{numbered-injective}
use Rattle.rules.proofs.Unique.{node-last}
use Rattle.rules.proofs.Table.{word-words, length-words}
use Rattle.rules.proofs.Scope.{SameCore, node-append, node-set-same, node-set-other}
use Rattle.chains.specs.Chains.{latest}
use Rattle.chains.proofs.Laws.{latest-same}
use Rattle.notes.specs.Notes as noting
use Rattle.notes.specs.Notes.{NOTES, LATEST, note_at, noted}
use Rattle.notes.proofs.Laws.{length-noted, noted-same, noted_other}
use Rattle.numbers.specs.Numbers.{Names, Spelling, number_in}
use Rattle.numbers.specs.Noted.{NodeNumbered}
use Rattle.scopes.specs.Rows.{SameTree}
use Rattle.stacks.specs.Stacks.{NUMBERED, under_at}
use Rattle.bindings.proofs.Scopes.{blank-name}
use Rattle.bindings.proofs.Free.{no_number}
use Rattle.changes.specs.Changes.{noted_for}
use Rattle.working.specs.Working.{Numbers}

-- Rows whose words stand in two tables.
module _ {u v : List ℕ} (ns ms : List Node) (us : u ≡ words ns) (vs : v ≡ words ms) where
  count-words : (l : List ℕ) (ks : List Node) → l ≡ words ks → row_count l ≡ length ks
  count-words l ks is = let n = ap length is ∙ length-words ks in omega arith

  pub same-tree : length ns ≤ length ms → ((r : ℕ) → r < length ns → SameCore (node ns r) (node ms r)) → SameTree u v
  same-tree fewer core =
      let nu = count-words u ns us in
      let nv = count-words v ms vs in
      record {
        count = omega arith;
        types = λ r below.
            let low : r < length ns = omega arith in
            ap (λ (l : List ℕ). word l r TYPE) vs ∙ word-words ms r TYPE (omega arith) (omega arith) ∙ (core r low).type
            ∙ sym (ap (λ (l : List ℕ). word l r TYPE) us ∙ word-words ns r TYPE low (omega arith));
        parents = λ r below.
            let low : r < length ns = omega arith in
            ap (λ (l : List ℕ). word l r PARENT) vs ∙ word-words ms r PARENT (omega arith) (omega arith) ∙ (core r low).parent
            ∙ sym (ap (λ (l : List ℕ). word l r PARENT) us ∙ word-words ns r PARENT low (omega arith));
      }

-- The numbers of a row whose notes are kept.
node_kept :
    (notes notes' : List ℕ) (spelling : ℕ → List ℕ) (names r : ℕ) (n : Node) → ((k : ℕ) → k < LATEST → note_at notes' r k ≡ note_at notes r k)
    → NodeNumbered notes spelling names r n → NodeNumbered notes' spelling names r n
node_kept notes notes' spelling names r n kept h =
    record {
      prefix = rw (kept noting.PREFIX (omega arith)) h.prefix;
      local = rw (kept noting.LOCAL_NAME (omega arith)) h.local;
      uri = rw (kept noting.URI (omega arith)) h.uri;
      value = rw (kept noting.VALUE (omega arith)) h.value;
    }

module _ {ns : List Node} {notes path : List ℕ} {names limit : ℕ} (n : Numbers ns notes path names limit) where
  -- The same numbers for other rows and notes.
  numbers_of : (ms : List Node) (notes' : List ℕ) → ((r : ℕ) → r < length ms → NodeNumbered notes' n.spelling names r (node ms r)) → Numbers ms notes' path names limit
  numbers_of ms notes' rows = record { spelling = n.spelling; spelled = n.spelled; rows = rows; xml = n.xml; numbered = n.numbered }

  -- Row a takes a prefix that has a number.
  pub numbers-prefixed :
      (a : ℕ) → a < length ns → NOTES * length ns ≤ length notes → (f : Field) (x : ℕ) → Names n.spelling names x f.bytes
      → Numbers (set ns a (with_prefix f (node ns a))) (noted notes a noting.PREFIX x) path names limit
  numbers-prefixed a below room f x is =
      let m = with_prefix f (node ns a) in
      let notes' = noted notes a noting.PREFIX x in
      numbers_of (set ns a m) notes'
      (λ r less.
      let low : r < length ns = rw (length-set ns a m) at less in
      by_cases (eqb r a)
      (λ q.
      let same = eqb-true r a q in
      let old = n.rows a below in
      let other : (k : ℕ) → k < NOTES → (k ≡ noting.PREFIX → ⊥) → note_at notes' a k ≡ note_at notes a k = λ k i d. noted_other notes a noting.PREFIX x a k (omega arith) i (λ z w. d w) in
      rw (same, node-set-same ns a m below)
      (record {
        prefix = rw (noted-same notes a noting.PREFIX x (omega arith)) is;
        local = rw (other noting.LOCAL_NAME (omega arith) (λ z. omega arith)) old.local;
        uri = rw (other noting.URI (omega arith) (λ z. omega arith)) old.uri;
        value = rw (other noting.VALUE (omega arith) (λ z. omega arith)) old.value;
      }))
      (λ q.
      let apart = eqb-false r a q in
      rw (node-set-other ns a r m apart)
      (node_kept notes notes' n.spelling names r (node ns r) (λ k i. noted_other notes a noting.PREFIX x r k (omega arith) (omega arith) (λ z w. apart z)) (n.rows r low))))

  -- Declaration d takes a value that has a number.
  pub numbers-valued :
      (d : ℕ) → d < length ns → NOTES * length ns ≤ length notes → (node ns d).type ≡ DECLARATION → (f : Field) (x : ℕ) → Names n.spelling names x f.bytes
      → Numbers (set ns d (with_value f (node ns d))) (noted notes d noting.VALUE x) path names limit
  numbers-valued d below room kind f x is =
      let m = with_value f (node ns d) in
      let notes' = noted notes d noting.VALUE x in
      numbers_of (set ns d m) notes'
      (λ r less.
      let low : r < length ns = rw (length-set ns d m) at less in
      by_cases (eqb r d)
      (λ q.
      let same = eqb-true r d q in
      let old = n.rows d below in
      let other : (k : ℕ) → k < NOTES → (k ≡ noting.VALUE → ⊥) → note_at notes' d k ≡ note_at notes d k = λ k i z. noted_other notes d noting.VALUE x d k (omega arith) i (λ y w. z w) in
      rw (same, node-set-same ns d m below)
      (record {
        prefix = rw (other noting.PREFIX (omega arith) (λ z. omega arith)) old.prefix;
        local = rw (other noting.LOCAL_NAME (omega arith) (λ z. omega arith)) old.local;
        uri = rw (other noting.URI (omega arith) (λ z. omega arith)) old.uri;
        value = rw (noted-same notes d noting.VALUE x (omega arith), kind) is;
      }))
      (λ q.
      let apart = eqb-false r d q in
      rw (node-set-other ns d r m apart)
      (node_kept notes notes' n.spelling names r (node ns r) (λ k i. noted_other notes d noting.VALUE x r k (omega arith) (omega arith) (λ z w. apart z)) (n.rows r low))))

  -- What the notes of a new declaration are.
  module _ (new r : ℕ) (room : NOTES * new + NOTES ≤ length notes) where
    pub for-other : (q j : ℕ) → j < NOTES → (q ≡ new → ⊥) → note_at (noted_for notes new r) q j ≡ note_at notes q j
    unfolding noted_for
    for-other q j inside apart =
        noted_other _ new noting.VALUE _ q j (omega arith) inside (λ z w. apart z)
        ∙ noted_other _ new noting.URI _ q j (omega arith) inside (λ z w. apart z)
        ∙ noted_other _ new noting.LOCAL_NAME _ q j (omega arith) inside (λ z w. apart z)
        ∙ noted_other notes new noting.PREFIX 0 q j (omega arith) inside (λ z w. apart z)

    abbrev one : List ℕ
    one = noted notes new noting.PREFIX 0

    abbrev two : List ℕ
    two = noted one new noting.LOCAL_NAME (note_at notes r noting.PREFIX)

    abbrev three : List ℕ
    three = noted two new noting.URI 0

    sizes : (length one ≡ length notes) × (length two ≡ length notes) × (length three ≡ length notes)
    sizes =
        let a = length-noted notes new noting.PREFIX 0 in
        let b = length-noted one new noting.LOCAL_NAME (note_at notes r noting.PREFIX) ∙ a in
        (a, b, length-noted two new noting.URI 0 ∙ b)

    pub length-for : length (noted_for notes new r) ≡ length notes
    unfolding noted_for
    length-for = length-noted three new noting.VALUE (note_at notes r noting.URI) ∙ sizes.2

    -- the links are kept
    pub for-links : (q j : ℕ) → LATEST ≤ j → j < NOTES → note_at (noted_for notes new r) q j ≡ note_at notes q j
    unfolding noted_for
    for-links q j late inside =
        noted_other three new noting.VALUE _ q j (omega arith) inside (λ z w. omega arith)
        ∙ noted_other two new noting.URI _ q j (omega arith) inside (λ z w. omega arith)
        ∙ noted_other one new noting.LOCAL_NAME _ q j (omega arith) inside (λ z w. omega arith)
        ∙ noted_other notes new noting.PREFIX 0 q j (omega arith) inside (λ z w. omega arith)

    for-prefix : note_at (noted_for notes new r) new noting.PREFIX ≡ 0
    unfolding noted_for
    for-prefix =
        noted_other three new noting.VALUE _ new noting.PREFIX (omega arith) (omega arith) (λ z w. omega arith)
        ∙ noted_other two new noting.URI _ new noting.PREFIX (omega arith) (omega arith) (λ z w. omega arith)
        ∙ noted_other one new noting.LOCAL_NAME _ new noting.PREFIX (omega arith) (omega arith) (λ z w. omega arith)
        ∙ noted-same notes new noting.PREFIX 0 (omega arith)

    pub for-local : note_at (noted_for notes new r) new noting.LOCAL_NAME ≡ note_at notes r noting.PREFIX
    unfolding noted_for
    for-local =
        noted_other three new noting.VALUE _ new noting.LOCAL_NAME (omega arith) (omega arith) (λ z w. omega arith)
        ∙ noted_other two new noting.URI _ new noting.LOCAL_NAME (omega arith) (omega arith) (λ z w. omega arith)
        ∙ noted-same one new noting.LOCAL_NAME _ (omega (arith, sizes.0))

    for-uri : note_at (noted_for notes new r) new noting.URI ≡ 0
    unfolding noted_for
    for-uri =
        noted_other three new noting.VALUE _ new noting.URI (omega arith) (omega arith) (λ z w. omega arith)
        ∙ noted-same two new noting.URI 0 (omega (arith, sizes.1))

    pub for-value : note_at (noted_for notes new r) new noting.VALUE ≡ note_at notes r noting.URI
    unfolding noted_for
    for-value = noted-same three new noting.VALUE _ (omega (arith, sizes.2))

  -- One declaration more, for row r.
  pub numbers-appended :
      (e r : ℕ) → r < length ns → NOTES * length ns + NOTES ≤ length notes
      → Numbers (ns ++ new_declaration e (node ns r).maker (node ns r).prefix (node ns r).uri ∷ []) (noted_for notes (length ns) r) path names limit
  numbers-appended e r below room =
      let new = length ns in
      let d = new_declaration e (node ns r).maker (node ns r).prefix (node ns r).uri in
      let notes' = noted_for notes new r in
      let none? : Names n.spelling names 0 [] = blank-name n.spelled in
      numbers_of (ns ++ d ∷ []) notes'
      (λ q less.
      let l = length-append ns (d ∷ []) in
      by_cases (ltb q new)
      (λ t.
      let low = ltb-true q new t in
      rw (node-append ns (d ∷ []) q low)
      (node_kept notes notes' n.spelling names q (node ns q) (λ k i. for-other new r room q k (omega arith) (λ z. omega arith)) (n.rows q low)))
      (λ t.
      let past = ltb-false q new t in
      let last : q ≡ new = omega arith in
      rw (last, node-last ns d)
      (record {
        prefix = rw (for-prefix new r room) none?;
        local = rw (for-local new r room) (n.rows r below).prefix;
        uri = rw (for-uri new r room) none?;
        value = rw (for-value new r room) (n.rows r below).uri;
      })))

  -- Notes that differ in links.
  pub numbers-relinked : (notes' : List ℕ) → ((r k : ℕ) → k < LATEST → note_at notes' r k ≡ note_at notes r k) → Numbers ns notes' path names limit
  numbers-relinked notes' kept = numbers_of ns notes' (λ r below. node_kept notes notes' n.spelling names r (node ns r) (kept r) (n.rows r below))

pub latest-last : (test : ℕ → Bool) (m : ℕ) → latest test (m + 1) ≡ cond (test (m + 1)) (m + 1) (latest test m)
unfolding latest
latest-last test m = rw (add-one m) refl

-- A name that has no number gets the next one.
module _ {spelling : ℕ → List ℕ} {names : ℕ} (s : Spelling spelling names) (name : List ℕ) (unlike : (m : ℕ) → m ≤ names → spelling m ≡ name → ⊥) where
  abbrev pub spell : ℕ → List ℕ
  spell m = cond (eqb m (names + 1)) name (spelling m)

  spell-old : (m : ℕ) → m ≤ names → spell m ≡ spelling m
  spell-old m known = rw (ne_eqb m (names + 1) (λ z. omega arith)) refl

  spell-new : (m : ℕ) → m ≡ names + 1 → spell m ≡ name
  spell-new m is = rw (eq-eqb m (names + 1) is) refl

  pub names-old : {m : ℕ} {bytes : List ℕ} → Names spelling names m bytes → Names spell (names + 1) m bytes
  names-old {m} h = record { known = omega (arith, h.known); spelled = spell-old m h.known ∙ h.spelled }

  pub names-new : Names spell (names + 1) (names + 1) name
  names-new = record { known = omega arith; spelled = spell-new (names + 1) refl }

  pub spelled-next : Spelling spell (names + 1)
  spelled-next =
      record {
        empty = spell-old 0 (omega arith) ∙ s.empty;
        distinct = λ m m' i j.
            by_cases (eqb m (names + 1))
            (λ q.
            by_cases (eqb m' (names + 1))
            (λ q'. rw (q, q') (eq-eqb m m' (eqb-true m (names + 1) q ∙ sym (eqb-true m' (names + 1) q')) ∙ sym (same_bytes-refl name)))
            (λ q'.
            let a = eqb-true m (names + 1) q in
            let b = eqb-false m' (names + 1) q' in
            rw (q, q') (ne_eqb m m' (λ z. omega arith) ∙ sym (unequal-same_bytes name (spelling m') (λ z. unlike m' (omega arith) (sym z))))))
            (λ q.
            let a = eqb-false m (names + 1) q in
            by_cases (eqb m' (names + 1))
            (λ q'.
            let b = eqb-true m' (names + 1) q' in
            rw (q, q') (ne_eqb m m' (λ z. omega arith) ∙ sym (unequal-same_bytes (spelling m) name (λ z. unlike m (omega arith) z))))
            (λ q'. let b = eqb-false m' (names + 1) q' in rw (q, q') (s.distinct m m' (omega arith) (omega arith))));
      }

  abbrev is_it : (ℕ → List ℕ) → List ℕ → ℕ → Bool
  is_it of other m = same_bytes (of m) other

  pub number-other : (other : List ℕ) → (name ≡ other → ⊥) → number_in spell (names + 1) other ≡ number_in spelling names other
  number-other other apart =
      let not_new : is_it spell other (names + 1) ≡ false = ap (λ (b : List ℕ). same_bytes b other) (spell-new (names + 1) refl) ∙ unequal-same_bytes name other apart in
      latest-last (is_it spell other) names
      ∙ ap (λ (b : Bool). cond b (names + 1) (latest (is_it spell other) names)) not_new
      ∙ latest-same (is_it spelling other) (is_it spell other) names (λ m less. ap (λ (b : List ℕ). same_bytes b other) (spell-old (suc m) less))

  pub number-new : number_in spell (names + 1) name ≡ names + 1
  number-new =
      latest-last (is_it spell name) names
      ∙ ap (λ (b : Bool). cond b (names + 1) (latest (is_it spell name) names)) (ap (λ (b : List ℕ). same_bytes b name) (spell-new (names + 1) refl) ∙ same_bytes-refl name)

-- The names of rows keep their numbers.
pub rows_next :
    {spelling : ℕ → List ℕ} {names : ℕ} (s : Spelling spelling names) (name : List ℕ) (unlike : (m : ℕ) → m ≤ names → spelling m ≡ name → ⊥) (notes : List ℕ) (r : ℕ) (n : Node)
    → NodeNumbered notes spelling names r n → NodeNumbered notes (spell s name unlike) (names + 1) r n
rows_next s name unlike notes r n h =
    record { prefix = names-old s name unlike h.prefix; local = names-old s name unlike h.local; uri = names-old s name unlike h.uri; value = names-old s name unlike h.value }

-- The name NSk does.
module _ {ns : List Node} {notes path : List ℕ} {names limit : ℕ} (n : Numbers ns notes path names limit) (k : ℕ) (low : 1 ≤ k) (high : k ≤ limit)
    (free : under_at path NUMBERED k ≡ 0) (room : 4 * limit + 4 ≤ length path) where
  unlike : (m : ℕ) → m ≤ names → n.spelling m ≡ numbered_prefix k → ⊥
  unlike = no_number n.spelled k (sym (n.numbered k low high) ∙ free)

  pub numbers-named : Numbers ns notes (set path (4 * k + NUMBERED) (names + 1)) (names + 1) limit
  numbers-named =
      record {
        spelling = spell n.spelled (numbered_prefix k) unlike;
        spelled = spelled-next n.spelled (numbered_prefix k) unlike;
        rows = λ r below. rows_next n.spelled (numbered_prefix k) unlike notes r (node ns r) (n.rows r below);
        xml = rw (get_or-set_other path (4 * k + NUMBERED) (4 * 0 + NUMBERED) (names + 1) 0 (λ z. omega arith)) (names-old n.spelled (numbered_prefix k) unlike n.xml);
        numbered = λ j i l.
            by_cases (eqb j k)
            (λ q.
            let same = eqb-true j k q in
            rw same (get_or-set_same path (4 * k + NUMBERED) (names + 1) 0 (omega arith) ∙ sym (number-new n.spelled (numbered_prefix k) unlike)))
            (λ q.
            let apart = eqb-false j k q in
            get_or-set_other path (4 * k + NUMBERED) (4 * j + NUMBERED) (names + 1) 0 (λ z. apart (omega arith))
            ∙ n.numbered j i l
            ∙ sym (number-other n.spelled (numbered_prefix k) unlike (numbered_prefix j) (λ z. apart (sym (numbered-injective k j z)))));
      }

  -- It stands for NSk.
  pub named_new : Names numbers-named.spelling (names + 1) (names + 1) (numbered_prefix k)
  unfolding numbers-named
  named_new = names-new n.spelled (numbered_prefix k) unlike
