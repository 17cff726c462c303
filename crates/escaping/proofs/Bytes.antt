-- Laws for the code: the escape of each byte, and its row in the table.
-- Assumes nothing.
use Prim.Native.Nat.{ℕ, ◌+◌, ◌-◌, ◌*◌, ◌%◌, ◌≤◌}
use mathlib.Core.Path.{◌≡◌, refl, sym, ◌∙◌, ap}
use mathlib.Core.Bool.{Bool, true, false}
use mathlib.Core.List.{List, [], ◌∷◌, ◌++◌, append-nil}
use native.Mathlib.Omega.{arith}
use lib.ListN.{length, get_or, take, drop, replicate, length-replicate, length-drop, drop_of_length-le}
use lib.Seq.{length-take-le}
use Rattle.rules.proofs.Lists.{true-not-false}
use Rattle.buffers.specs.Writes.{written, Put}
use Rattle.buffers.proofs.Writes.{put_front, put-fits, written-from-start}
use Rattle.escapes.specs.Escapes.{escapes, is_escaped, escape}
use Rattle.escapes.proofs.Values.{every_byte, escape-none}
use Rattle.escapes.proofs.Asking.{in-quotes}
use Rattle.escaping.specs.Rows.{ROW, rows}

-- the row of a byte
abbrev pub row_of : ℕ → List ℕ
row_of b = take ROW (drop (ROW * (b % 16)) rows)

-- The row of a byte that is escaped starts with its escape, and tells its length.
row-starts : (quoted : Bool) (b : ℕ) → is_escaped quoted b ≡ true → (row_of b ≡ escape quoted b ++ drop (length (escape quoted b)) (row_of b)) × (length (escape quoted b) ≡ get_or rows (ROW * (b % 16) + 7) 0)
unfolding escapes escape rows is_escaped
row-starts =
    every_byte (λ (quoted : Bool) (b : ℕ) (l : List ℕ). is_escaped quoted b ≡ true → (row_of b ≡ l ++ drop (length l) (row_of b)) × (length l ≡ get_or rows (ROW * (b % 16) + 7) 0))
    (λ quoted. (λ e. (refl, refl), λ e. (refl, refl), λ e. (refl, refl), λ e. (refl, refl), λ e. (refl, refl)))
    (λ e. (refl, refl), λ e. (refl, refl))
    (λ quoted b no? e. absurd (true-not-false e no?))

-- A row lies in the table.
pub row_within : (b : ℕ) {table : List ℕ} → table ≡ rows → ROW * (b % 16) + ROW ≤ length table
unfolding rows
row_within b is = rw is (omega arith)

-- Bytes that are written over as many zeros.
pub block-whole : (n : ℕ) (l : List ℕ) → length l ≡ n → written (replicate n 0) 0 l ≡ l
block-whole n l h =
    let short : length (replicate {A = ℕ} n 0) ≤ length l = rw length-replicate (omega (arith, h)) in
    written-from-start (replicate n 0) l
    ∙ ap (λ (m : List ℕ). l ++ m) (drop_of_length-le (replicate n 0) short)
    ∙ append-nil l

-- The row of a byte is written, and its escape is put.
module _ (out : List ℕ) (at b : ℕ) {table : List ℕ} (is : table ≡ rows) (e : is_escaped true b ≡ true) (room : at + ROW ≤ length out) where
  abbrev from : ℕ
  from = ROW * (b % 16)

  row_read : take (from + ROW - from) (drop from table) ≡ row_of b
  row_read =
      let size : from + ROW - from ≡ ROW = omega arith in
      ap (λ (t : List ℕ). take (from + ROW - from) (drop from t)) is ∙ ap (λ (k : ℕ). take k (drop from rows)) size

  row-long : length (row_of b) ≡ ROW
  row-long = let within : from + ROW ≤ length rows = row_within b refl in length-take-le ROW (drop from rows) (rw length-drop (omega arith))

  pub escape-put : {size : ℕ} {bytes out' : List ℕ} → bytes ≡ written (replicate ROW 0) 0 (take (from + ROW - from) (drop from table)) → out' ≡ written out at bytes → size ≡ get_or table (from + 7) 0 → Put out at (escape true b) (at + size) out'
  escape-put {size} {bytes} {out'} made w told =
      let starts = row-starts true b e in
      let more = drop (length (escape true b)) (row_of b) in
      let full : bytes ≡ escape true b ++ more = made ∙ ap (λ (l : List ℕ). written (replicate ROW 0) 0 l) row_read ∙ block-whole ROW (row_of b) row-long ∙ starts.0 in
      let long : length (escape true b ++ more) ≡ ROW = ap length (sym starts.0) ∙ row-long in
      let end : size ≡ length (escape true b) = told ∙ ap (λ (t : List ℕ). get_or t (from + 7) 0) is ∙ sym starts.1 in
      put_front out at (escape true b) more (omega (arith, long, room)) (ap (λ (k : ℕ). at + k) end) (w ∙ ap (written out at) full)

-- No escape has more bytes.
pub escape-short : (quoted : Bool) (b : ℕ) → length (escape quoted b) ≤ ROW
unfolding escapes escape
escape-short =
    every_byte (λ (quoted : Bool) (b : ℕ) (l : List ℕ). length l ≤ ROW)
    (λ quoted. (omega arith, omega arith, omega arith, omega arith, omega arith))
    (omega arith, omega arith)
    (λ quoted b no?. omega arith)

-- What is equal to what was put is put.
pub as-put : {l m out : List ℕ} {at r : ℕ} {out' : List ℕ} → m ≡ l → Put out at l r out' → Put out at m r out'
as-put e p = rw e p

-- A byte that is escaped, and one that is not.
pub escaped-put : (quoted : Bool) (b : ℕ) {told : Bool} → told ≡ is_escaped quoted b → told ≡ true → {out : List ℕ} {at r : ℕ} {out' : List ℕ} → Put out at (escape true b) r out' → Put out at (escape quoted b) r out'
escaped-put quoted b is e p = as-put (in-quotes quoted b (sym is ∙ e)).1 p

pub bare-put : (quoted : Bool) (b : ℕ) {told : Bool} → told ≡ is_escaped quoted b → told ≡ false → (out : List ℕ) (at : ℕ) → at + ROW ≤ length out → {r : ℕ} {out' : List ℕ} → r ≡ at + length {A = ℕ} (b ∷ []) → out' ≡ written out at (b ∷ []) → Put out at (escape quoted b) r out'
bare-put quoted b is e out at room end w = as-put (escape-none quoted b (sym is ∙ e)) (put-fits out at (b ∷ []) (omega arith) end w)

-- What was put at the start of some bytes, and is put from there.
module _ (l : List ℕ) {end : ℕ} {bytes' : List ℕ} (short : length l ≤ ROW) (p : Put (replicate ROW 0) 0 l end bytes') where
  made-size : length bytes' ≡ ROW
  made-size = p.size ∙ length-replicate {A = ℕ} ROW 0

  pub made-within : end ≤ length bytes'
  made-within = let here = p.fits (rw length-replicate (omega (arith, short))) in omega (arith, here.0, short, made-size)

  pub made-count : end ≡ length (take end bytes')
  made-count = sym (length-take-le end bytes' made-within)

  pub made-put : {out : List ℕ} {at r : ℕ} {out' : List ℕ} → Put out at (take end bytes') r out' → Put out at l r out'
  made-put q = as-put (sym (p.fits (rw length-replicate (omega (arith, short)))).1) q
