-- What is read of a field in both tables tells whether it is kept.
-- Assumes nothing.
use Prim.Native.Nat.{ℕ, zero, suc, ◌+◌, ◌*◌, ◌≤◌, ◌<◌}
use mathlib.Core.Path.{◌≡◌, refl, sym, ◌∙◌}
use mathlib.Core.Bool.{Bool, true, false, ◌&&◌, ◌||◌, not}
use mathlib.Core.List.{List}
use native.Mathlib.Omega.{arith}
use lib.Dec.{eqb}
use lib.ListN.{length, get_or}
use Rattle.rules.specs.Lists.{same_bytes}
use Rattle.rules.specs.Table.{MOST_ROWS, TYPE, PREFIX, LOCAL_NAME, URI, TEXT, ATTRIBUTE, field_at, word, row_count, part}
use Rattle.rules.specs.declared.Place.{Place}
use Rattle.rules.proofs.Lists.{equal-same_bytes}
use Rattle.notes.specs.Notes.{NOTES, note_at}
use Rattle.numbers.specs.Numbers.{Names}
use Rattle.rows.specs.Reading.{place_at}
use Rattle.pairs.specs.Pairs.{Within}
use Rattle.name_pairs.specs.Noted.{Noted}
use Rattle.name_pairs.specs.Met.{WORDS, Met}
use Rattle.name_pairs.proofs.Laws.{met-same}
use Rattle.kept_fields.specs.Fields.{Placed, Meeting, IsName}

-- The two places of a field.
module _ (original pool proposal other : List ℕ) (r k : ℕ) {first second : Place} (p : first ≡ place_at original r k) (q : second ≡ place_at proposal r k) where
  pub first-within : Within pool (word original r k) (word original r (k + 1)) → Within pool first.offset.0 first.length
  first-within w = rw p w

  pub second-within : Within other (word proposal r k) (word proposal r (k + 1)) → Within other second.offset.0 second.length
  second-within w = rw q w

  pub field-kept : {is : Bool} → is ≡ same_bytes (part other second.offset.0 second.length) (part pool first.offset.0 first.length) → is ≡ same_bytes (field_at proposal other r k).bytes (field_at original pool r k).bytes
  field-kept e = e ∙ rw (p, q) refl

-- The number of a name of a row.
module _ (table pool notes : List ℕ) (g : Noted table pool notes) (r : ℕ) (inside : r < row_count table) where
  named_in : (k : ℕ) → k < 3 → Names g.spelling g.last (note_at notes r k) (field_at table pool r (2 * k + 2)).bytes
  named_in zero small = (g.numbered.rows r inside).prefix
  named_in (suc zero) small = (g.numbered.rows r inside).local
  named_in (suc (suc zero)) small = (g.numbered.rows r inside).uri
  named_in (suc (suc (suc k))) small = absurd (omega arith)

  pub has-note : (k : ℕ) → k < 3 → NOTES * r + k < length notes
  has-note k small = let long = g.records in omega arith

  module _ (k field : ℕ) (is : IsName k field) {n : ℕ} (e : n ≡ note_at notes r k) where
    pub named : Names g.spelling g.last n (field_at table pool r field).bytes
    named = rw (e, is.1) (named_in k is.0)

    pub few-names : row_count table ≤ MOST_ROWS → n < WORDS
    few-names few = let known = named.known in let bound = g.few in omega arith

-- A name of a row of both tables.
module _ (original pool mine proposal other theirs met : List ℕ) (m : Meeting original pool mine proposal other theirs met) (r : ℕ) (inside : r < row_count original) (there : r < row_count proposal) (k field : ℕ) (is : IsName k field) {n n' : ℕ} (e : n ≡ note_at mine r k) (e' : n' ≡ note_at theirs r k) where
  here : Names m.first.spelling m.first.last n (field_at original pool r field).bytes
  here = named original pool mine m.first r inside k field is e

  there? : Names m.second.spelling m.second.last n' (field_at proposal other r field).bytes
  there? = named proposal other theirs m.second r there k field is e'

  -- Numbers that are known to be a pair.
  pub known_kept : {met? : Bool} → met? ≡ eqb (get_or met n 0) (n' + 1) → met? ≡ true → true ≡ same_bytes (field_at proposal other r field).bytes (field_at original pool r field).bytes
  known_kept told sure =
      let same = met-same m.known n n' (sym told ∙ sure) in
      sym (equal-same_bytes (sym there?.spelled ∙ sym same ∙ here.spelled))

  -- What is known when the numbers have been held against each other.
  module _ {one two : Place} (p : one ≡ place_at original r field) (q : two ≡ place_at proposal r field) where
    pub met-after :
        {after : List ℕ}
        → ((s s' : ℕ → List ℕ) → Met met s s' → s n ≡ part pool one.offset.0 one.length → s' n' ≡ part other two.offset.0 two.length → Met after s s')
        → Meeting original pool mine proposal other theirs after
    met-after keeps =
        record {
          first = m.first;
          second = m.second;
          known = keeps m.first.spelling m.second.spelling m.known (rw p here.spelled) (rw q there?.spelled);
        }

-- A text has no names to keep.
pub text-names :
    (original pool proposal other : List ℕ) (r kind : ℕ) (owned : Bool) → Placed original pool → Placed proposal other → r < row_count original → r < row_count proposal
    → kind ≡ word original r TYPE → kind ≡ word proposal r TYPE → kind ≡ TEXT
    → true ≡ (same_bytes (field_at proposal other r LOCAL_NAME).bytes (field_at original pool r LOCAL_NAME).bytes && same_bytes (field_at proposal other r URI).bytes (field_at original pool r URI).bytes && (not (eqb kind ATTRIBUTE && owned) || same_bytes (field_at proposal other r PREFIX).bytes (field_at original pool r PREFIX).bytes))
text-names original pool proposal other r kind owned a b inside there e e' is =
    let mine = a.nameless r inside (sym e ∙ is) in
    let theirs = b.nameless r there (sym e' ∙ is) in
    rw (mine.0, mine.1, theirs.0, theirs.1, is) refl

-- The names of a row, one by one.
module _ (local uri bare prefix : Bool) where
  pub local-lost : local ≡ false → false ≡ (local && uri && (not bare || prefix))
  local-lost e = rw e refl

  module _ (l : local ≡ true) where
    pub uri-lost : uri ≡ false → false ≡ (local && uri && (not bare || prefix))
    uri-lost e = rw (l, e) refl

    module _ (u : uri ≡ true) where
      pub prefix-decides : bare ≡ true → {is : Bool} → is ≡ prefix → is ≡ (local && uri && (not bare || prefix))
      prefix-decides b e = rw (l, u, b) e

      pub names-kept : bare ≡ false → true ≡ (local && uri && (not bare || prefix))
      names-kept b = rw (l, u, b) refl

-- A test that decides whether another one counts.
pub free : {a : Bool} → a ≡ true → (b : Bool) → true ≡ (a || b)
free e b = rw e refl

pub bound_by : {a is b : Bool} → a ≡ false → is ≡ b → is ≡ (a || b)
bound_by e told = rw e told
