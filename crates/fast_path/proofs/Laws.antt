-- A plain row is passed: its names are noted, and it is entered.
-- Assumes nothing.
use Prim.Native.Nat.{ℕ, ◌+◌, ◌*◌, ◌≤◌, ◌<◌}
use mathlib.Core.Path.{◌≡◌, refl, sym, ◌∙◌}
use mathlib.Core.Bool.{Bool, true, false, cond, ◌||◌}
use mathlib.Core.Logic.{inr}
use mathlib.Core.List.{List, [], ◌∷◌}
use native.Mathlib.Omega.{arith}
use borrow.Author.Tests.{eqb-true, eqb-false, eq-eqb, ne_eqb}
use lib.Dec.{eqb}
use lib.ListN.{length}
use Rattle.rules.specs.Lists.{is_one_of}
use Rattle.rules.specs.Table.{NONE, TYPE, PARENT, ELEMENT, ATTRIBUTE, TEXT, DECLARATION, LEVEL1_ATTRIBUTE, word, node_at, nodes, row_count}
use Rattle.rules.proofs.Lists.{by_cases, true-not-false}
use Rattle.rules.proofs.Refusals.{verdict-accepted}
use Rattle.notes.specs.Notes.{NOTES, PREFIX, LOCAL_NAME, URI, VALUE, LATEST, note_at, noted}
use Rattle.notes.proofs.Laws.{length-noted, noted-same, noted_other}
use Rattle.numbers.specs.Noted.{NodeNumbered, Numbered}
use Rattle.dictionary.specs.Dictionary.{last_of, spelling}
use Rattle.dictionary.proofs.Laws.{spelled}
use Rattle.doubles.specs.Doubles.{key_of, is_owned, bucket_at, entered, Entered, has_double}
use Rattle.doubles.proofs.Keys.{key-attribute, owned-read, bucket-none, double-none}
use Rattle.doubles.proofs.Adding.{entered-none, added, renumbered}
use Rattle.numbering.proofs.Numbering.{no_value}
use Rattle.conflicts.specs.Conflicts.{conflict_refusal}
use Rattle.conflicts.proofs.Laws.{declaration-other, conflict-none}
use Rattle.plain_rows.specs.declared.Told.{Told}
use Rattle.plain_rows.specs.Plain.{Plain}
use Rattle.fast_path.specs.Passing.{every_row, Reached, Passed, named}

-- The words that are written, and those that are kept.
module _ (notes : List ℕ) (r prefix local uri : ℕ) where
  abbrev first : List ℕ
  first = noted notes r PREFIX prefix

  abbrev second : List ℕ
  second = noted first r LOCAL_NAME local

  abbrev third : List ℕ
  third = noted second r URI uri

  pub named-length : length (named notes r prefix local uri) ≡ length notes
  unfolding named
  named-length = length-noted third r VALUE 0 ∙ length-noted second r URI uri ∙ length-noted first r LOCAL_NAME local ∙ length-noted notes r PREFIX prefix

  pub named_other : (q j : ℕ) → j < NOTES → (q ≡ r → j < 4 → ⊥) → note_at (named notes r prefix local uri) q j ≡ note_at notes q j
  unfolding named
  named_other q j h o =
      noted_other third r VALUE 0 q j (omega arith) h (λ e i. o e (omega arith)) ∙ noted_other second r URI uri q j (omega arith) h (λ e i. o e (omega arith))
      ∙ noted_other first r LOCAL_NAME local q j (omega arith) h (λ e i. o e (omega arith)) ∙ noted_other notes r PREFIX prefix q j (omega arith) h (λ e i. o e (omega arith))

  module _ (room : NOTES * r + NOTES ≤ length notes) where
    pub named-prefix : note_at (named notes r prefix local uri) r PREFIX ≡ prefix
    unfolding named
    named-prefix =
        noted_other third r VALUE 0 r PREFIX (omega arith) (omega arith) (λ e i. omega arith) ∙ noted_other second r URI uri r PREFIX (omega arith) (omega arith) (λ e i. omega arith)
        ∙ noted_other first r LOCAL_NAME local r PREFIX (omega arith) (omega arith) (λ e i. omega arith) ∙ noted-same notes r PREFIX prefix (omega arith)

    pub named-local : note_at (named notes r prefix local uri) r LOCAL_NAME ≡ local
    unfolding named
    named-local =
        let l = length-noted notes r PREFIX prefix in
        noted_other third r VALUE 0 r LOCAL_NAME (omega arith) (omega arith) (λ e i. omega arith) ∙ noted_other second r URI uri r LOCAL_NAME (omega arith) (omega arith) (λ e i. omega arith)
        ∙ noted-same first r LOCAL_NAME local (omega arith)

    pub named-uri : note_at (named notes r prefix local uri) r URI ≡ uri
    unfolding named
    named-uri =
        let l = length-noted first r LOCAL_NAME local ∙ length-noted notes r PREFIX prefix in
        noted_other third r VALUE 0 r URI (omega arith) (omega arith) (λ e i. omega arith) ∙ noted-same second r URI uri (omega arith)

    pub named_value : note_at (named notes r prefix local uri) r VALUE ≡ 0
    unfolding named
    named_value =
        let l = length-noted second r URI uri ∙ length-noted first r LOCAL_NAME local ∙ length-noted notes r PREFIX prefix in
        noted-same third r VALUE 0 (omega arith)

-- Of the three types none is a declaration; an attribute is compared, the others are not.
module _ (type : ℕ) (is : is_one_of (ELEMENT ∷ ATTRIBUTE ∷ TEXT ∷ []) type ≡ true) where
  pub no-declaration : type ≡ DECLARATION → ⊥
  no-declaration d = let none : false ≡ true = rw d at is in true-not-false none refl

  pub not-compared : (type ≡ ATTRIBUTE → ⊥) → (eqb type ATTRIBUTE || eqb type DECLARATION || eqb type LEVEL1_ATTRIBUTE) ≡ false
  not-compared n =
      by_cases (eqb type ELEMENT)
      (λ a. rw (eqb-true type ELEMENT a) refl)
      (λ a.
      by_cases (eqb type TEXT)
      (λ b. rw (eqb-true type TEXT b) refl)
      (λ b. let none : false ≡ true = rw (a, ne_eqb type ATTRIBUTE n, b) at is in absurd (true-not-false none refl)))

pub has_room : {table pool dictionary notes chains : List ℕ} {r : ℕ} → Reached table pool dictionary notes chains r → r < row_count table → {size : ℕ} → size ≡ length notes → NOTES * r + NOTES ≤ size
has_room g h s = let n = g.owned.named in omega arith

module _ {table pool dictionary notes chains : List ℕ} {r : ℕ} (h : r < row_count table) (g : Reached table pool dictionary notes chains r) {of : Told} (p : Plain table pool dictionary r of) {after : List ℕ} (w : after ≡ named notes r of.prefix.0 of.local.0 of.uri.0) where
  room : NOTES * r + NOTES ≤ length notes
  room = has_room g h refl

  size-kept : length after ≡ length notes
  size-kept = rw w (named-length notes r of.prefix.0 of.local.0 of.uri.0)

  others-kept : (q j : ℕ) → j < NOTES → (q ≡ r → j < 4 → ⊥) → note_at after q j ≡ note_at notes q j
  others-kept = rw w (named_other notes r of.prefix.0 of.local.0 of.uri.0)

  pub links-kept : (q k : ℕ) → LATEST ≤ k → k < NOTES → note_at after q k ≡ note_at notes q k
  links-kept q k l i = others-kept q k i (λ e m. omega arith)

  this-row : NodeNumbered after (spelling dictionary pool) (last_of dictionary) r (node_at table pool r)
  this-row =
      let n = p.named in
      rw w
      (record {
        prefix = rw (named-prefix notes r of.prefix.0 of.local.0 of.uri.0 room) n.prefix;
        local = rw (named-local notes r of.prefix.0 of.local.0 of.uri.0 room) n.local;
        uri = rw (named-uri notes r of.prefix.0 of.local.0 of.uri.0 room) n.uri;
        value =
            rw (named_value notes r of.prefix.0 of.local.0 of.uri.0 room, no_value (node_at table pool r) (no-declaration (word table r TYPE) p.type))
            (record { known = omega arith; spelled = (spelled g.right).empty });
      })

  earlier-row : (q : ℕ) → q < r → NodeNumbered after (spelling dictionary pool) (last_of dictionary) q (node_at table pool q)
  earlier-row q i =
      let o = g.numbered.rows q i in
      record {
        prefix = rw (others-kept q PREFIX (omega arith) (λ e m. omega arith)) o.prefix;
        local = rw (others-kept q LOCAL_NAME (omega arith) (λ e m. omega arith)) o.local;
        uri = rw (others-kept q URI (omega arith) (λ e m. omega arith)) o.uri;
        value = rw (others-kept q VALUE (omega arith) (λ e m. omega arith)) o.value;
      }

  pub numbered_next : Numbered table pool after (spelling dictionary pool) (last_of dictionary) (r + 1)
  numbered_next =
      record {
        spelled = g.numbered.spelled;
        rows = λ q i.
            by_cases (eqb q r)
            (λ e. rw (eqb-true q r e) this-row)
            (λ e. let d = eqb-false q r e in earlier-row q (omega arith));
      }

  pub owned-still : Entered every_row table after chains r
  owned-still = renumbered g.owned after size-kept (λ j k i l. others-kept j k l (λ e m. omega arith))

  -- The row is noted, and nothing is entered: it may be a double.
  pub reached-still : Reached table pool dictionary after chains r
  reached-still = record { bound = g.bound; right = g.right; numbered = record { spelled = g.numbered.spelled; rows = earlier-row }; owned = owned-still }

  -- It is entered.
  reached-next : {chains' : List ℕ} → chains' ≡ entered chains (bucket_at table after (r + 1)) r → Reached table pool dictionary after chains' (r + 1)
  reached-next e = record { bound = omega arith; right = g.right; numbered = numbered_next; owned = rw e (added h owned-still refl (inr p.inside.before) refl) }

  passed : {double : Bool} → double ≡ has_double every_row (nodes table pool) r → double ≡ false → Passed table pool r
  passed d e =
      record {
        inside = p.inside;
        faultless = p.faultless;
        alone =
            verdict-accepted (conflict_refusal every_row (nodes table pool) r)
            (sym (conflict-none every_row table pool r h (declaration-other (node_at table pool r) refl (no-declaration (word table r TYPE) p.type)) refl d e));
      }

  owner : word table r PARENT ≡ NONE → ⊥
  owner e =
      let before = p.inside.before in
      let few = g.owned.few in
      omega arith

  -- A row that is not compared has no double and no bucket.
  module _ (n : of.kind ≡ ATTRIBUTE → ⊥) where
    apart : is_owned (key_of table after r) ≡ false
    apart = sym (owned-read table after r refl refl) ∙ rw (not-compared (word table r TYPE) p.type (λ e. n (p.named.kind ∙ e))) refl

    pub other-reached : Reached table pool dictionary after chains (r + 1)
    other-reached = reached-next (entered-none chains (bucket_at table after (r + 1)) r (let b = bucket-none table after r apart in omega arith))

    pub other-passed : Passed table pool r
    other-passed = passed (double-none every_row table pool after r h apart) refl

  -- An attribute is compared, by its key.
  module _ (a : of.kind ≡ ATTRIBUTE) where
    type : word table r TYPE ≡ ATTRIBUTE
    type = sym p.named.kind ∙ a

    pub compared : is_owned (key_of table after r) ≡ true
    compared = sym (owned-read table after r refl refl) ∙ rw (eq-eqb (word table r TYPE) ATTRIBUTE type, ne_eqb (word table r PARENT) NONE owner) refl

    pub key-read : record { owner = of.owner; kind = of.kind; local = of.local; uri = of.uri } ≡ key_of table after r
    key-read =
        key-attribute table after r p.named.owner p.named.kind (rw w (sym (named-local notes r of.prefix.0 of.local.0 of.uri.0 room))) a
        (rw w (sym (named-uri notes r of.prefix.0 of.local.0 of.uri.0 room)))

    module _ (double : Bool) {chains' : List ℕ} (c : chains' ≡ cond double chains (entered chains (bucket_at table after (r + 1)) r)) where
      pub attribute-reached : double ≡ false → Reached table pool dictionary after chains' (r + 1)
      attribute-reached e = reached-next (c ∙ rw e refl)

      pub attribute-still : double ≡ true → Reached table pool dictionary after chains' r
      attribute-still e = rw (c, e) reached-still

    pub attribute-passed : {double : Bool} → double ≡ has_double every_row (nodes table pool) r → double ≡ false → Passed table pool r
    attribute-passed d e = passed d e
