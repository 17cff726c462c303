-- The entries of a dictionary: the heads of the chains, the last number given, how hard the names are for the plain
-- hash, the tables of the pool, and five words for each number. Number 0 is the empty name and in no chain.
use Rattle.std.specs.Prelude.{ℕ, suc, ◌+◌, ◌*◌, ◌%◌, ◌≤◌, ◌<◌, ◌≡◌, Bool, false, List, length, get_or, set, take, drop}
use Rattle.rules.specs.Lists.{same_bytes}
use Rattle.rules.specs.Table.{part}
use Rattle.chains.specs.Chains.{Chained}
use Rattle.numbers.specs.Numbers.{Names}
use Rattle.marks.specs.Marks.{MOST}
use Rattle.kinds.specs.Kinds.{EMPTY, kind_of}
use Rattle.tables.specs.Tables.{WORDS, hash_in, Tables}

abbrev pub BUCKETS : ℕ
BUCKETS = 1024

-- Where the last number given stands.
abbrev pub LAST : ℕ
LAST = 1024

-- Where it stands how hard the names are, and where the tables begin.
abbrev pub HARD : ℕ
HARD = 1025

-- Names are hard beyond this.
abbrev pub MUCH : ℕ
MUCH = 512

abbrev pub TABLES : ℕ
TABLES = 1026

-- Where the words of number 0 begin, and how many words a number has.
abbrev pub NAMES : ℕ
NAMES = 3859

abbrev pub WIDTH : ℕ
WIDTH = 5

-- The words of a number: where its name stands in the pool, the hash and the link of its chain, and what the name is.
abbrev pub OFFSET : ℕ
OFFSET = 0

abbrev pub LENGTH : ℕ
LENGTH = 1

abbrev pub HASH : ℕ
HASH = 2

abbrev pub LINK : ℕ
LINK = 3

abbrev pub KIND : ℕ
KIND = 4

-- the last number given
abbrev pub last_number : List ℕ → ℕ
last_number entries = get_or entries LAST 0

-- the tables of the pool
unfoldable pub tables_of : List ℕ → List ℕ
tables_of entries = take WORDS (drop TABLES entries)

-- word k of number n
abbrev pub word : List ℕ → ℕ → ℕ → ℕ
word entries n k = get_or entries (NAMES + WIDTH * n + k) 0

-- the name of number n
abbrev pub name_at : List ℕ → List ℕ → ℕ → List ℕ
name_at entries pool n = part pool (word entries n OFFSET) (word entries n LENGTH)

-- Number n has this name.
abbrev pub is_named : List ℕ → List ℕ → List ℕ → ℕ → Bool
is_named entries pool name n = same_bytes (name_at entries pool n) name

-- the chains
abbrev pub bucket_at : List ℕ → ℕ → ℕ
bucket_at entries n = word entries n HASH % BUCKETS

abbrev pub head_at : List ℕ → ℕ → ℕ
head_at entries b = get_or entries b 0

abbrev pub link_at : List ℕ → ℕ → ℕ
link_at entries n = word entries n LINK

-- Number n has the length, the hash and the kind of its name, which no smaller number has.
pub record Entry (entries pool : List ℕ) (n : ℕ) : Type 0 where
  pub size : word entries n LENGTH ≡ length (name_at entries pool n)
  pub hash : word entries n HASH ≡ hash_in (tables_of entries) (name_at entries pool n)
  pub kind : word entries n KIND ≡ kind_of (name_at entries pool n)
  pub new : (m : ℕ) → m < n → is_named entries pool (name_at entries pool n) m ≡ false

pub record Entries (entries pool : List ℕ) : Type 0 where
  pub room : NAMES + WIDTH * (last_number entries + 1) ≤ length entries
  pub tables : Tables (tables_of entries) pool
  pub empty : word entries 0 LENGTH ≡ 0
  pub kind : word entries 0 KIND ≡ EMPTY
  pub each : (m : ℕ) → m < last_number entries → Entry entries pool (suc m)
  pub chained : Chained BUCKETS (bucket_at entries) (head_at entries) (link_at entries) (last_number entries)

-- the entries with one more, of the next number
unfoldable pub entered : List ℕ → ℕ → ℕ → ℕ → ℕ → ℕ → List ℕ
entered entries offset size hash kind hard =
    let n = last_number entries + 1 in
    let at = NAMES + WIDTH * n in
    let link = head_at entries (hash % BUCKETS) in
    let named = set (set entries (at + OFFSET) offset) (at + LENGTH) size in
    let filled = set (set (set named (at + HASH) hash) (at + LINK) link) (at + KIND) kind in
    set (set (set filled HARD hard) (hash % BUCKETS) n) LAST n

-- Number n denotes the name.
abbrev pub Denotes : List ℕ → List ℕ → ℕ → List ℕ → Type 0
Denotes entries pool n name = Names (name_at entries pool) (last_number entries) n name

-- A name has got its number: what denoted a name denotes it still.
pub record Interned (before after pool name : List ℕ) (n : ℕ) : Type 0 where
  pub denotes : Denotes after pool n name
  pub kept : (m : ℕ) (other : List ℕ) → Denotes before pool m other → Denotes after pool m other
  pub few : last_number after ≤ last_number before + 1

-- There is room for one more number.
abbrev pub HasRoom : List ℕ → Type 0
HasRoom entries = (NAMES + WIDTH * (last_number entries + 2) ≤ length entries) × (last_number entries < 65535)

-- The place lies in the pool, which is not too long.
abbrev pub Within : List ℕ → ℕ → ℕ → Type 0
Within pool offset size = (offset + size ≤ length pool) × (length pool ≤ MOST)
