-- Rows from before makers, read one after the other.
-- Assumes nothing.
use Prim.Native.Nat.{ℕ, zero, suc, ◌+◌, ◌-◌, ◌*◌, ◌≤◌, ◌<◌}
use mathlib.Core.Path.{◌≡◌, refl, sym, ap, ◌∙◌}
use mathlib.Core.List.{List, [], ◌∷◌, ◌++◌, append-nil, append_assoc}
use native.Mathlib.Omega.{arith}
use lib.ListN.{length, take, drop, length-append, length-drop}
use lib.Seq.{take_all, drop-length, drop-drop, take_at, drop_at}
use borrow.Rule.Slice.PartMut.{put_mid, Post-is}
use Rattle.rules.specs.Table.{WIDTH}
use Rattle.buffers.specs.Writes.{written}
use Rattle.buffers.proofs.Writes.{written-from-start, length-written, written_behind}
use Rattle.little_endian.specs.Numbers.{number_of, number_at, words_from}
use Rattle.little_endian.proofs.Numbers.{length-words_from}
use Rattle.bundles.specs.Bundles.{OLD_WIDTH, OLD_ROW_BYTES, widened}
use Rattle.bundles.proofs.OldRows.{length-widened}

-- The ten words of a row at the start of bytes, and the maker 0.
abbrev pub row_from : List ℕ → List ℕ
row_from bytes = words_from OLD_WIDTH bytes ++ 0 ∷ []

-- The first rows, so many.
abbrev pub rows_from : ℕ → List ℕ → List ℕ
rows_from rows bytes = widened rows (words_from (OLD_WIDTH * rows) bytes)

pub length-row : (bytes : List ℕ) → length (row_from bytes) ≡ WIDTH
length-row bytes =
    let long = length-words_from OLD_WIDTH bytes in
    let all = length-append (words_from OLD_WIDTH bytes) (0 ∷ []) in
    omega arith

pub length-rows : (rows : ℕ) (bytes : List ℕ) → length (rows_from rows bytes) ≡ WIDTH * rows
length-rows rows bytes = let long = length-words_from (OLD_WIDTH * rows) bytes in length-widened rows (words_from (OLD_WIDTH * rows) bytes) (omega arith)

more-words : (m n : ℕ) (bytes : List ℕ) → words_from (m + n) bytes ≡ words_from m bytes ++ words_from n (drop (4 * m) bytes)
unfolding words_from
more-words zero n bytes = let none : 0 + n ≡ n = omega arith in ap (λ (k : ℕ). words_from k bytes) none
more-words (suc m) n bytes =
    let next : suc m + n ≡ suc (m + n) = omega arith in
    let place : 4 + 4 * m ≡ 4 * suc m = omega arith in
    ap (λ (k : ℕ). words_from k bytes) next
    ∙ ap (λ (l : List ℕ). number_of (take 4 bytes) ∷ l) (more-words m n (drop 4 bytes))
    ∙ ap (λ (l : List ℕ). number_of (take 4 bytes) ∷ words_from m (drop 4 bytes) ++ words_from n l) (drop-drop (4 * m) 4 bytes ∙ ap (λ (k : ℕ). drop k bytes) place)

-- One row more, at the front and at the end.
more-front : (rows : ℕ) (bytes : List ℕ) → rows_from (suc rows) bytes ≡ row_from bytes ++ rows_from rows (drop OLD_ROW_BYTES bytes)
unfolding widened
more-front rows bytes =
    let first = words_from OLD_WIDTH bytes in
    let rest = words_from (OLD_WIDTH * rows) (drop OLD_ROW_BYTES bytes) in
    let long = length-words_from OLD_WIDTH bytes in
    let count : OLD_WIDTH * suc rows ≡ OLD_WIDTH + OLD_WIDTH * rows = omega arith in
    ap (λ (k : ℕ). widened (suc rows) (words_from k bytes)) count
    ∙ ap (widened (suc rows)) (more-words OLD_WIDTH (OLD_WIDTH * rows) bytes)
    ∙ ap (λ (l : List ℕ). l ++ (0 ∷ widened rows (drop OLD_WIDTH (first ++ rest)))) (take_at first rest OLD_WIDTH long)
    ∙ ap (λ (l : List ℕ). first ++ (0 ∷ widened rows l)) (drop_at first rest OLD_WIDTH long)
    ∙ sym (append_assoc first (0 ∷ []) (widened rows rest))

more-end : (rows : ℕ) (bytes : List ℕ) → rows_from (suc rows) bytes ≡ rows_from rows bytes ++ row_from (drop (OLD_ROW_BYTES * rows) bytes)
unfolding widened
more-end zero bytes = more-front 0 bytes ∙ append-nil (row_from bytes)
more-end (suc rows) bytes =
    let next = drop OLD_ROW_BYTES bytes in
    let place : OLD_ROW_BYTES + OLD_ROW_BYTES * rows ≡ OLD_ROW_BYTES * suc rows = omega arith in
    more-front (suc rows) bytes
    ∙ ap (λ (l : List ℕ). row_from bytes ++ l) (more-end rows next)
    ∙ sym (append_assoc (row_from bytes) (rows_from rows next) (row_from (drop (OLD_ROW_BYTES * rows) next)))
    ∙ ap (λ (l : List ℕ). l ++ row_from (drop (OLD_ROW_BYTES * rows) next)) (sym (more-front rows bytes))
    ∙ ap (λ (l : List ℕ). rows_from (suc rows) bytes ++ row_from l) (drop-drop (OLD_ROW_BYTES * rows) OLD_ROW_BYTES bytes ∙ ap (λ (k : ℕ). drop k bytes) place)

-- The first word behind a place, and the others.
words-at : (count at : ℕ) (bytes : List ℕ) → words_from (suc count) (drop at bytes) ≡ number_at bytes at 4 ∷ words_from count (drop (at + 4) bytes)
unfolding words_from
words-at count at bytes = ap (λ (l : List ℕ). number_at bytes at 4 ∷ words_from count l) (drop-drop 4 at bytes)

-- The words of a row, one by one.
row_words : (bytes : List ℕ) → row_from bytes ≡ number_at bytes 0 4 ∷ number_at bytes 4 4 ∷ number_at bytes 8 4 ∷ number_at bytes 12 4 ∷ number_at bytes 16 4 ∷ number_at bytes 20 4 ∷ number_at bytes 24 4 ∷ number_at bytes 28 4 ∷ number_at bytes 32 4 ∷ number_at bytes 36 4 ∷ 0 ∷ []
unfolding words_from
row_words bytes =
    ap (λ (l : List ℕ). l ++ 0 ∷ [])
    (words-at 9 0 bytes ∙ ap (λ (l : List ℕ). number_at bytes 0 4 ∷ l) (words-at 8 4 bytes ∙ ap (λ (l : List ℕ). number_at bytes 4 4 ∷ l) (words-at 7 8 bytes ∙ ap (λ (l : List ℕ). number_at bytes 8 4 ∷ l) (words-at 6 12 bytes ∙ ap (λ (l : List ℕ). number_at bytes 12 4 ∷ l) (words-at 5 16 bytes ∙ ap (λ (l : List ℕ). number_at bytes 16 4 ∷ l) (words-at 4 20 bytes ∙ ap (λ (l : List ℕ). number_at bytes 20 4 ∷ l) (words-at 3 24 bytes ∙ ap (λ (l : List ℕ). number_at bytes 24 4 ∷ l) (words-at 2 28 bytes ∙ ap (λ (l : List ℕ). number_at bytes 28 4 ∷ l) (words-at 1 32 bytes ∙ ap (λ (l : List ℕ). number_at bytes 32 4 ∷ l) (words-at 0 36 bytes))))))))))

pub row_read :
    (table bytes : List ℕ) {a b c d e f g h i j : ℕ} {after : List ℕ} → a ≡ number_at bytes 0 4 → b ≡ number_at bytes 4 4 → c ≡ number_at bytes 8 4 → d ≡ number_at bytes 12 4 → e ≡ number_at bytes 16 4 → f ≡ number_at bytes 20 4 → g ≡ number_at bytes 24 4 → h ≡ number_at bytes 28 4 → i ≡ number_at bytes 32 4 → j ≡ number_at bytes 36 4
    → after ≡ (a ∷ b ∷ c ∷ d ∷ e ∷ f ∷ g ∷ h ∷ i ∷ j ∷ 0 ∷ []) ++ drop WIDTH table → after ≡ written table 0 (row_from bytes)
row_read table bytes ea eb ec ed ee ef eg eh ei ej made =
    let words : List ℕ = number_at bytes 0 4 ∷ number_at bytes 4 4 ∷ number_at bytes 8 4 ∷ number_at bytes 12 4 ∷ number_at bytes 16 4 ∷ number_at bytes 20 4 ∷ number_at bytes 24 4 ∷ number_at bytes 28 4 ∷ number_at bytes 32 4 ∷ number_at bytes 36 4 ∷ 0 ∷ [] in
    made ∙ rw (ea, eb, ec, ed, ee, ef, eg, eh, ei, ej) (sym (written-from-start table words)) ∙ ap (written table 0) (sym (row_words bytes))

-- The rest of a table, written from its start and put back.
rest_back : (t row : List ℕ) (a : ℕ) → a ≤ length t → (rest : List ℕ) → rest ≡ written (take (length t - a) (drop a t)) 0 row → put_mid a (length t - a) t rest ≡ written t a row
rest_back t row a h rest e =
    let cut = length-drop a t in
    ap (λ (l : List ℕ). take a t ++ (rest ++ l)) (Post-is a (length t) t h ∙ drop-length t)
    ∙ ap (λ (l : List ℕ). take a t ++ l) (append-nil rest ∙ e ∙ ap (λ (l : List ℕ). written l 0 row) (take_all (length t - a) (drop a t) (omega arith)) ∙ written-from-start (drop a t) row ∙ ap (λ (l : List ℕ). row ++ l) (drop-drop (length row) a t))
    ∙ sym (append_assoc (take a t) row (drop (a + length row) t))

pub rows-kept : (t bytes : List ℕ) (rows : ℕ) → WIDTH * rows ≤ length t → length (written t 0 (rows_from rows bytes)) ≡ length t
rows-kept t bytes rows room = let long = length-rows rows bytes in length-written t 0 (rows_from rows bytes) (omega arith)

-- No row is read yet; and a turn of the loop that reads rows.
pub no_rows : (t bytes : List ℕ) → t ≡ written t 0 (rows_from 0 bytes)
unfolding widened
no_rows t bytes = refl

module _ (t₀ t bytes : List ℕ) (rows r : ℕ) (room : WIDTH * rows ≤ length t₀) (within : r < rows) (done : t ≡ written t₀ 0 (rows_from r bytes)) where
  pub rows_step :
      (rest : List ℕ) → rest ≡ written (take (length t - WIDTH * r) (drop (WIDTH * r) t)) 0 (row_from (take (length bytes - OLD_ROW_BYTES * r) (drop (OLD_ROW_BYTES * r) bytes)))
      → put_mid (WIDTH * r) (length t - WIDTH * r) t rest ≡ written t₀ 0 (rows_from (r + 1) bytes)
  rows_step rest e =
      let front = rows_from r bytes in
      let next = drop (OLD_ROW_BYTES * r) bytes in
      let long : length front ≡ WIDTH * r = length-rows r bytes in
      let row = length-row next in
      let kept = ap length done ∙ rows-kept t₀ bytes r (omega arith) in
      let cut = length-drop (OLD_ROW_BYTES * r) bytes in
      let place : WIDTH * r ≡ 0 + length front = omega arith in
      let count : suc r ≡ r + 1 = omega arith in
      rest_back t (row_from next) (WIDTH * r) (omega arith) rest (e ∙ ap (λ (l : List ℕ). written (take (length t - WIDTH * r) (drop (WIDTH * r) t)) 0 (row_from l)) (take_all (length bytes - OLD_ROW_BYTES * r) next (omega arith)))
      ∙ ap (λ (l : List ℕ). written l (WIDTH * r) (row_from next)) done
      ∙ ap (λ (k : ℕ). written (written t₀ 0 front) k (row_from next)) place
      ∙ written_behind t₀ 0 front (row_from next) (omega arith)
      ∙ ap (written t₀ 0) (sym (more-end r bytes) ∙ ap (λ (k : ℕ). rows_from k bytes) count)
