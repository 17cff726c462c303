-- The numbers of the names when the input is judged.
-- Assumes nothing.
use Rattle.std.specs.Prelude.{Result, Ok, Err}
use Prim.Native.Nat.{ℕ, zero, suc, ◌+◌, ◌*◌, ◌≤◌, ◌<◌, max}
use mathlib.Core.Path.{◌≡◌, refl, ◌∙◌, ap, subst}
use mathlib.Core.Bool.{true, false, true≢false}
use mathlib.Core.List.{List, [], ◌∷◌}
use mathlib.Core.Option.{none, some}
use native.Mathlib.Omega.{arith}
use lib.ListN.{length, get_or, set, replicate, length-replicate, length-set}
use lib.Seq.{get_or-set_other}
use lib.Dec.{eqb}
use Rattle.rules.specs.Lists.{same_bytes}
use Rattle.rules.specs.Table.{MOST_ROWS, xml_prefix, row_count}
use Rattle.rules.specs.Normalization.{numbered_prefix}
use Rattle.rules.specs.declared.Refusal.{Refusal}
use Rattle.notes.specs.Notes.{NOTES, LATEST, note_at}
use Rattle.numbers.specs.Numbers.{Names, number_in}
use Rattle.dictionary.specs.Dictionary.{last_of, spelling}
use Rattle.ns_names.specs.Records as records
use Rattle.row_checks.specs.Arrays.{dictionary_words, Named}
use Rattle.table_size.specs.Small.{FEW_ROWS}
use Rattle.checker.specs.Lent as checking
use Rattle.checker.proofs.Lending.{zeros-lent}
use Rattle.stacks.specs.Stacks.{BELOW, NUMBERED, under_at}
use Rattle.input.proofs.Xml.{numbers-start}
use Rattle.input.specs.Input.{input_refusal}
use Rattle.input.specs.Lent.{Blank, Entered, Prepared}

-- Zeros are cleared arrays.
pub zeros : (size i : ℕ) → ◌≡◌ {A = ℕ} (get_or (replicate size 0) i 0) 0
zeros zero i = refl
zeros (suc size) zero = refl
zeros (suc size) (suc i) = zeros size i

zeros-blank : (rows a b : ℕ) → ((n : ℕ) → n ≤ MOST_ROWS → n ≤ 2 * rows → (NOTES * n ≤ a) × (4 * n + 4 ≤ b)) → Blank rows (replicate a 0) (replicate b 0)
unfolding note_at
zeros-blank rows a b enough =
    record {
      enough = record { each = λ n small twice. let e = enough n small twice in (rw (length-replicate {A = ℕ} a 0) e.0, rw (length-replicate {A = ℕ} b 0) e.1) };
      unnoted = λ e k. zeros a (NOTES * e + k);
      unplaced = λ i. zeros b i;
    }

pub blank-small : (rows : ℕ) → rows ≤ FEW_ROWS → Blank rows (replicate (NOTES * (2 * FEW_ROWS)) 0) (replicate (4 * (2 * FEW_ROWS) + 4) 0)
blank-small rows few = zeros-blank rows (NOTES * (2 * FEW_ROWS)) (4 * (2 * FEW_ROWS) + 4) (λ n small twice. (omega arith, omega arith))

pub blank-any : (rows : ℕ) → Blank rows (replicate (NOTES * MOST_ROWS) 0) (replicate (4 * MOST_ROWS + 4) 0)
blank-any rows = zeros-blank rows (NOTES * MOST_ROWS) (4 * MOST_ROWS + 4) (λ n small twice. (omega arith, omega arith))

-- And a dictionary of zeros is one to lend.
pub zeros-numbering :
    (table notes path : List ℕ) (most : ℕ) → (row_count table ≤ MOST_ROWS → row_count table ≤ most) → Blank (row_count table) notes path
    → checking.Lent table (replicate (dictionary_words most) 0) notes
zeros-numbering table notes path most small blank =
    let lent = zeros-lent table most small in
    record { cleared = lent.cleared; words = lent.words; records = λ few. (blank.enough.each (row_count table) few (omega arith)).0 }

-- The numbers that are entered in a cleared path.
module _ (dictionary pool before path after : List ℕ) (x : ℕ) (cleared : (i : ℕ) → get_or before i 0 ≡ 0)
    (ns : records.Entered (spelling dictionary pool) (last_of dictionary) before path) (size : length path ≡ length before) (room : 4 ≤ length before)
    (most : x ≤ last_of dictionary + 1)
    (only : (n : ℕ) (bytes : List ℕ) → Names (spelling dictionary pool) (last_of dictionary) n bytes → eqb n x ≡ same_bytes bytes (120 ∷ 109 ∷ 108 ∷ []))
    (is : after ≡ set path NUMBERED x) where
  abbrev last : ℕ
  last = last_of dictionary

  only-xml : (n : ℕ) (bytes : List ℕ) → Names (spelling dictionary pool) last n bytes → eqb n x ≡ same_bytes bytes xml_prefix
  unfolding xml_prefix
  only-xml n bytes named = only n bytes named

  numbered : (limit : ℕ) → limit ≤ MOST_ROWS → 4 * limit + 4 ≤ length path → (k : ℕ) → 1 ≤ k → k ≤ limit → under_at path NUMBERED k ≡ number_in (spelling dictionary pool) last (numbered_prefix k)
  numbered limit small fits k one high = ns.numbers k one (omega arith) (omega arith)

  after-size : length after ≡ length path
  after-size = ap length is ∙ length-set path NUMBERED x

  pub names-entered : (names : ℕ) → names ≡ max last x → Entered dictionary pool after names
  names-entered names all =
      record {
        most = omega arith;
        numbers = λ table notes limit given small fits.
            let wide : 4 * limit + 4 ≤ length path = subst (λ (n : ℕ). 4 * limit + 4 ≤ n) after-size fits in
            rw (is, all) (numbers-start table pool notes path (spelling dictionary pool) last limit given (numbered limit small wide) wide x most only-xml);
        unpushed = ap (λ (l : List ℕ). under_at l BELOW 0) is ∙ get_or-set_other path NUMBERED (4 * 0 + BELOW) x 0 (λ z. omega arith) ∙ ns.others (4 * 0 + BELOW) (λ z. omega arith) ∙ cleared (4 * 0 + BELOW);
      }

-- What `judge` answers.
module _ (table pool notes path : List ℕ) where
  abbrev pub JudgedAs : Result ℕ Refusal → Type 0
  JudgedAs r = ((n : ℕ) → r ≡ Ok n → Prepared table pool notes path n) × ((y : Refusal) → r ≡ Err y → input_refusal table pool ≡ some y)

  pub judged-refused : (x : Refusal) → input_refusal table pool ≡ some x → JudgedAs (Err x)
  judged-refused x is = (λ n e. let bad : true ≡ false = cc in absurd (true≢false bad), λ y e. let same : x ≡ y = cc in is ∙ ap some same)

  pub judged-numbered : (k : ℕ) → Prepared table pool notes path k → JudgedAs (Ok k)
  judged-numbered k prepared = (
    λ n e. let same : k ≡ n = cc in subst (Prepared table pool notes path) same prepared,
    λ y e. let bad : true ≡ false = cc in absurd (true≢false bad),
  )

pub prepared-start :
    {table pool notes dictionary path : List ℕ} {names : ℕ} (before : List ℕ) → input_refusal table pool ≡ none → Named table pool dictionary notes
    → ((e k : ℕ) → note_at before e k ≡ 0) → ((q k : ℕ) → LATEST ≤ k → k < NOTES → note_at notes q k ≡ note_at before q k) → Entered dictionary pool path names
    → Prepared table pool notes path names
prepared-start {table} {notes = notes} before input named unnoted kept entered =
    record {
      input = input;
      few = omega (arith, named.few, entered.most);
      numbers = λ limit small fits. entered.numbers table notes limit named.numbered small fits;
      unlinked = λ e k late inside. kept e k late inside ∙ unnoted e k;
      unpushed = entered.unpushed;
    }
