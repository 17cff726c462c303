-- What the functions that write read and leave.
-- Assumes nothing.
use Prim.Native.Nat.{ℕ, ◌+◌, ◌*◌, ◌≤◌, ◌<◌}
use mathlib.Core.Path.{◌≡◌, refl, sym, ◌∙◌, ap, ap₂}
use mathlib.Core.List.{List, [], ◌∷◌}
use native.Mathlib.Omega.{arith}
use lib.ListN.{length, take}
use lib.Seq.{length-take-le}
use Rattle.rules.specs.Table as Table
use Rattle.rules.specs.Table.{WIDTH, xml_prefix, row_count}
use Rattle.rules.specs.Normalization.{numbered_prefix}
use Rattle.rules.specs.declared.Place.{Place}
use Rattle.buffers.specs.Writes.{written, placed, declaration_words}
use Rattle.notes.specs.Notes.{PREFIX, LOCAL_NAME, URI, VALUE, note_at, noted}
use Rattle.changes.specs.Changes.{noted_for, Named}

-- The part of a buffer that counts.
pub count-part : (t : List ℕ) (k : ℕ) → k ≤ length t → k ≡ length (take k t)
count-part t k h = sym (length-take-le k t h)

pub counted : (t : List ℕ) (rows : ℕ) → WIDTH * rows ≤ length t → row_count (take (WIDTH * rows) t) ≡ rows
counted t rows h = rw (length-take-le (WIDTH * rows) t h) (omega arith)

pub row_within : (t : List ℕ) (rows r : ℕ) → WIDTH * rows ≤ length t → r < rows → r < row_count (take (WIDTH * rows) t)
row_within t rows r h below = rw (counted t rows h) below

-- The four notes of a new declaration.
pub noted-for :
    (notes : List ℕ) (new r : ℕ) {p u : ℕ} {a b c d : List ℕ} → p ≡ note_at notes r PREFIX → u ≡ note_at notes r URI → a ≡ noted notes new PREFIX 0 → b ≡ noted a new LOCAL_NAME p
    → c ≡ noted b new URI 0 → d ≡ noted c new VALUE u → d ≡ noted_for notes new r
unfolding noted_for
noted-for notes new r prefix uri one two three four = rw (four, three, two, one, prefix, uri) refl

-- The words of a new declaration, by the maker and the places that were read.
pub written_as :
    (t : List ℕ) (at owner : ℕ) {m m' : ℕ} {p p' u u' : Place} {t' : List ℕ} → t' ≡ written t at (declaration_words owner m p u) → m ≡ m' → p ≡ p' → u ≡ u'
    → t' ≡ written t at (declaration_words owner m' p' u')
written_as t at owner {m' = m'} {p = p} {u = u} made maker prefix uri =
    made
    ∙ ap (λ (x : ℕ). written t at (declaration_words owner x p u)) maker
    ∙ ap₂ (λ (x y : Place). written t at (declaration_words owner m' x y)) prefix uri

-- A name behind the pool's bytes, as a prefix.
pub named-xml :
    (table pool notes : List ℕ) (a bytes x : ℕ) {table' pool' notes' : List ℕ} {number : ℕ} → pool' ≡ written pool bytes (120 ∷ 109 ∷ 108 ∷ [])
    → table' ≡ placed table a Table.PREFIX (record { offset = record { 0 = bytes }; length = 3 }) → number ≡ x → notes' ≡ noted notes a PREFIX number
    → Named table table' pool pool' notes notes' a bytes (bytes + 3) x xml_prefix
unfolding xml_prefix
named-xml table pool notes a bytes x held made read noted-number =
    record { prefix = made; appended = held; numbered = noted-number ∙ ap (noted notes a PREFIX) read; size = refl }

pub named-numbered :
    (table pool notes : List ℕ) (a bytes x k : ℕ) {table' pool' notes' : List ℕ} {n : ℕ} → n ≡ length (numbered_prefix k) → pool' ≡ written pool bytes (numbered_prefix k)
    → table' ≡ placed table a Table.PREFIX (record { offset = record { 0 = bytes }; length = n }) → notes' ≡ noted notes a PREFIX x
    → Named table table' pool pool' notes notes' a bytes (bytes + n) x (numbered_prefix k)
named-numbered table pool notes a bytes x k sized held made noted-number =
    record {
      prefix = made ∙ ap (λ (l : ℕ). placed table a Table.PREFIX (record { offset = record { 0 = bytes }; length = l })) sized;
      appended = held;
      numbered = noted-number;
      size = ap (λ (l : ℕ). bytes + l) sized;
    }
