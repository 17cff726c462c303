-- The index of the packed names, in one list of words: the heads of the chains, how many names there are, how many bytes they have,
-- how hard they are for the plain hash, a stretch of the pool that repeats itself, the places seen, and five words for each name.
-- Names are counted from 1.
use Rattle.std.specs.Prelude.{ℕ, suc, ◌+◌, ◌*◌, ◌%◌, ◌≤◌, ◌<◌, ◌≡◌, Bool, true, cond, List, length, get_or, set}
use Rattle.rules.specs.Lists.{any_of, same_bytes}
use Rattle.rules.specs.Table.{part}
use Rattle.chains.specs.Chains.{latest, Chained}
use Rattle.packing.specs.Packing.{joined, start_of}

abbrev pub BUCKETS : ℕ
BUCKETS = 1024

abbrev pub COUNT : ℕ
COUNT = 1024

abbrev pub USED : ℕ
USED = 1025

abbrev pub HARD : ℕ
HARD = 1026

-- Which of the places seen makes room for the next long one.
abbrev pub NEXT : ℕ
NEXT = 1027

-- A stretch of the pool: where it starts, how many bytes from there on stand once more, and how many bytes further on they do.
abbrev pub START : ℕ
START = 1028

abbrev pub SIZE : ℕ
SIZE = 1029

abbrev pub STEP : ℕ
STEP = 1030

-- The places seen: the offset, the length and the mark of each.
abbrev pub PLACES : ℕ
PLACES = 1031

abbrev pub SLOTS : ℕ
SLOTS = 1024

-- Where the words of number 0 begin, and how many words a name has.
abbrev pub ENTRIES : ℕ
ENTRIES = 4103

abbrev pub WIDTH : ℕ
WIDTH = 5

abbrev pub OFFSET : ℕ
OFFSET = 0

abbrev pub LENGTH : ℕ
LENGTH = 1

abbrev pub HASH : ℕ
HASH = 2

abbrev pub LINK : ℕ
LINK = 3

abbrev pub MARK : ℕ
MARK = 4

-- how many names there are
abbrev pub count_of : List ℕ → ℕ
count_of index = get_or index COUNT 0

-- word k of name n
abbrev pub word : List ℕ → ℕ → ℕ → ℕ
word index n k = get_or index (ENTRIES + WIDTH * n + k) 0

-- word k of slot s of the places seen
abbrev pub seen : List ℕ → ℕ → ℕ → ℕ
seen index s k = get_or index (PLACES + 3 * s + k) 0

-- name n, by its place in the pool that is packed
abbrev pub name_at : List ℕ → List ℕ → ℕ → List ℕ
name_at index pool n = part pool (word index n OFFSET) (word index n LENGTH)

abbrev pub is_named : List ℕ → List ℕ → List ℕ → ℕ → Bool
is_named index pool name n = same_bytes (name_at index pool n) name

-- the chains
abbrev pub bucket_at : List ℕ → ℕ → ℕ
bucket_at index n = word index n HASH % BUCKETS

abbrev pub head_at : List ℕ → ℕ → ℕ
head_at index b = get_or index b 0

abbrev pub link_at : List ℕ → ℕ → ℕ
link_at index n = word index n LINK

-- Name n has its length and its hash.
pub record Entry (hashed : List ℕ → ℕ) (index pool : List ℕ) (n : ℕ) : Type 0 where
  pub size : word index n LENGTH ≡ length (name_at index pool n)
  pub hash : word index n HASH ≡ hashed (name_at index pool n)

pub record Chains (hashed : List ℕ → ℕ) (index pool : List ℕ) : Type 0 where
  pub room : ENTRIES + WIDTH * (count_of index + 1) ≤ length index
  pub each : (m : ℕ) → m < count_of index → Entry hashed index pool (suc m)
  pub chained : Chained BUCKETS (bucket_at index) (head_at index) (link_at index) (count_of index)

-- The mark of a name: one more than where it starts in the packed pool, or 0 where it is not there.
unfoldable pub mark_of : List (List ℕ) → List ℕ → ℕ
mark_of names bytes = cond (any_of (same_bytes bytes) names) (start_of names bytes + 1) 0

-- A number is 0, which tells nothing, or the mark of a name.
abbrev pub Marks : List (List ℕ) → ℕ → List ℕ → Type 0
Marks names mark bytes = 0 < mark → mark ≡ mark_of names bytes

-- So many bytes from a start on stand once more, a step further on.
abbrev pub Repeats : List ℕ → ℕ → ℕ → ℕ → Type 0
Repeats pool start size step = (i : ℕ) → i < size → get_or pool (start + i) 0 ≡ get_or pool (start + step + i) 0

-- The pool repeats itself as the index tells.
abbrev pub Repeating : List ℕ → List ℕ → Type 0
Repeating index pool = Repeats pool (get_or index START 0) (get_or index SIZE 0) (get_or index STEP 0)

-- The index is that of these names.
pub record Index (hashed : List ℕ → ℕ) (index pool : List ℕ) (names : List (List ℕ)) : Type 0 where
  pub chains : Chains hashed index pool
  pub used : get_or index USED 0 ≡ length (joined names)
  pub marks : (m : ℕ) → m < count_of index → (0 < word index (suc m) MARK) × (word index (suc m) MARK ≡ mark_of names (name_at index pool (suc m)))
  pub covered : (bytes : List ℕ) → any_of (same_bytes bytes) names ≡ true → 0 < latest (is_named index pool bytes) (count_of index)
  pub repeating : Repeating index pool
  pub places : (s : ℕ) → s < SLOTS → Marks names (seen index s 2) (part pool (seen index s 0) (seen index s 1))

-- There is room for one name more.
abbrev pub HasRoom : List ℕ → Type 0
HasRoom index = (ENTRIES + WIDTH * (count_of index + 2) ≤ length index) × (count_of index < 65535)

-- the index with one name more
unfoldable pub followed : List ℕ → ℕ → ℕ → ℕ → List ℕ
followed index offset size hash =
    let n = count_of index + 1 in
    let at = ENTRIES + WIDTH * n in
    let link = head_at index (hash % BUCKETS) in
    let used = get_or index USED 0 in
    let named = set (set index (at + OFFSET) offset) (at + LENGTH) size in
    let filled = set (set (set named (at + HASH) hash) (at + LINK) link) (at + MARK) (used + 1) in
    set (set (set filled (hash % BUCKETS) n) COUNT n) USED (used + size)

-- the index with a place and its mark in slot s
unfoldable pub remembered : List ℕ → ℕ → ℕ → ℕ → ℕ → List ℕ
remembered index s offset size mark = set (set (set index (PLACES + 3 * s + 0) offset) (PLACES + 3 * s + 1) size) (PLACES + 3 * s + 2) mark

-- the index with another stretch of the pool
unfoldable pub stretched : List ℕ → ℕ → ℕ → ℕ → List ℕ
stretched index start size step = set (set (set index START start) SIZE size) STEP step
