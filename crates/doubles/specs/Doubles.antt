-- Refusal 7 by keys: the owner, the type and the numbers of the names of a row. Rows of one key are doubles, and stand in one chain.
use Rattle.std.specs.Prelude.{ℕ, ◌+◌, ◌-◌, ◌*◌, ◌/◌, ◌%◌, ◌≤◌, ◌<◌, ◌≡◌, ◌⊎◌, Bool, true, cond, ◌&&◌, not, List, [], ◌∷◌, eqb, ltb, length, get_or, set}
use Rattle.rules.specs.Lists.{any_of, numbers_from, is_one_of}
use Rattle.rules.specs.Table.{MOST_ROWS, NONE, TYPE, PARENT, ATTRIBUTE, DECLARATION, LEVEL1_ATTRIBUTE, Node, word, row_count, node}
use Rattle.rules.specs.Refusals.{is_double}
use Rattle.notes.specs.Notes.{NOTES, LOCAL_NAME, URI, note_at}
use Rattle.chains.specs.Chains.{Chained}
use Rattle.doubles.specs.declared.Key.{Key}

-- what decides whether rows are doubles; the URI does for attributes alone
unfoldable pub key_of : List ℕ → List ℕ → ℕ → Key
key_of table notes r =
    record {
      owner = record { 0 = word table r PARENT };
      kind = word table r TYPE;
      local = record { 0 = note_at notes r LOCAL_NAME };
      uri = record { 0 = cond (eqb (word table r TYPE) ATTRIBUTE) (note_at notes r URI) 0 };
    }

abbrev pub same_key : Key → Key → Bool
same_key a b =
    eqb a.owner.0 b.owner.0 && eqb a.kind b.kind && eqb a.local.0 b.local.0 && eqb a.uri.0 b.uri.0

abbrev pub BUCKETS : ℕ
BUCKETS = 1024

abbrev pub bucket_of : Key → ℕ
bucket_of key = (key.owner.0 * 40503 + key.kind * 7 + key.local.0 * 45053 + key.uri.0 * 57149) / 64 % BUCKETS

-- Refusal 7 compares attributes and declarations that have an owner.
abbrev pub is_owned : Key → Bool
is_owned key = is_one_of (ATTRIBUTE ∷ DECLARATION ∷ LEVEL1_ATTRIBUTE ∷ []) key.kind && not (eqb key.owner.0 NONE)

-- the bucket of row m - 1; only rows that are compared have one
unfoldable pub bucket_at : List ℕ → List ℕ → ℕ → ℕ
bucket_at table notes m =
    let key = key_of table notes (m - 1) in
    cond (is_owned key) (bucket_of key) BUCKETS

-- Which rows are entered is a test of their numbers. A row that is not entered has no bucket either.
unfoldable pub bucket_among : (ℕ → Bool) → List ℕ → List ℕ → ℕ → ℕ
bucket_among enters table notes m = cond (enters (m - 1)) (bucket_at table notes m) BUCKETS

-- Row m - 1 is entered and has the key.
abbrev pub has_key : (ℕ → Bool) → List ℕ → List ℕ → Key → ℕ → Bool
has_key enters table notes key m = enters (m - 1) && same_key (key_of table notes (m - 1)) key

-- The words of the chains: a head for each bucket, and behind them a link for each row. In the chains rows are counted from 1, since 0
-- ends a chain.
abbrev pub head_at : List ℕ → ℕ → ℕ
head_at chains b = get_or chains b 0

abbrev pub link_at : List ℕ → ℕ → ℕ
link_at chains m = get_or chains (BUCKETS + m) 0

-- the chains with row r in bucket b: the bucket leads to the row, and the row to what the bucket led to
unfoldable pub entered : List ℕ → ℕ → ℕ → List ℕ
entered chains b r = cond (ltb b BUCKETS) (set (set chains (BUCKETS + (r + 1)) (head_at chains b)) b (r + 1)) chains

-- The parent of row r is NONE or an earlier row.
abbrev pub Behind : List ℕ → ℕ → Type 0
Behind table r = (word table r PARENT ≡ NONE) ⊎ (word table r PARENT < r)

-- Of the rows before row r those that pass the test are entered, and stand behind their owners.
pub record Entered (enters : ℕ → Bool) (table notes chains : List ℕ) (r : ℕ) : Type 0 where
  pub few : row_count table ≤ MOST_ROWS
  pub named : NOTES * row_count table ≤ length notes
  pub room : BUCKETS + row_count table < length chains
  pub chained : Chained BUCKETS (bucket_among enters table notes) (head_at chains) (link_at chains) r
  pub behind : (s : ℕ) → s < r → enters s ≡ true → Behind table s

-- Some rows before row r are entered.
pub record SomeEntered (table notes chains : List ℕ) (r : ℕ) : Type 0 where
  pub enters : ℕ → Bool
  pub those : Entered enters table notes chains r

-- Row r is a double of an earlier row that is entered.
abbrev pub has_double : (ℕ → Bool) → List Node → ℕ → Bool
has_double enters ns r = any_of (λ s. enters s && is_double (node ns r) (node ns s)) (numbers_from 0 r)
