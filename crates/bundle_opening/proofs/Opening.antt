-- What the tests of a bundle's beginning tell.
-- Assumes nothing.
use Rattle.std.specs.Prelude.{Result, Ok, Err}
use Prim.Native.Nat.{ℕ, ◌+◌, ◌-◌, ◌*◌, ◌%◌, ◌≤◌, ◌<◌}
use mathlib.Core.Path.{◌≡◌, refl, sym, ap, ◌∙◌, subst}
use mathlib.Core.Bool.{Bool, true, false, ◌&&◌, ◌||◌, not, true≢false}
use mathlib.Core.List.{List, [], ◌∷◌}
use mathlib.Core.Option.{none, some}
use native.Mathlib.Omega.{arith}
use lib.ListN.{length, get_or, take, drop, length-drop}
use lib.Seq.{take_all, take_at}
use lib.Dec.{eqb, ltb}
use borrow.Author.Tests.{lt-ltb, le-ltb, eq-eqb, ne_eqb}
use Rattle.rules.specs.Table.{WIDTH, MOST_ROWS, MOST_BYTES}
use Rattle.rules.specs.Refusals.{refused_if, bad_size, verdict}
use Rattle.rules.specs.declared.Refusal.{Refusal}
use Rattle.rules.proofs.Refusals.{not-refused, all_none, verdict-accepted}
use Rattle.rules.proofs.Accepted.{sized}
use Rattle.buffers.specs.Writes.{written}
use Rattle.buffers.proofs.Writes.{written-from-start, length-written}
use Rattle.rules.proofs.Lists.{unequal-same_bytes}
use Rattle.little_endian.specs.Numbers.{words_from}
use Rattle.bundles.specs.Bundles.{MARK, VERSION, OLD_VERSION, HEADER, OLD_WIDTH, OLD_ROW_BYTES, bundle_version, bundle_rows, bundle_pool_length, is_old, row_bytes, pool_start, wrong_mark, other_version, bad_lengths, bundle_refusal, widened, bundle_table, bundle_pool}
use Rattle.bundles.specs.Opening.{opening_refusal, HasRoom, Opens}
use Rattle.bundles.proofs.Opening.{Agreed, bundle-agreed, new-bytes, old-bytes, new-table, old-table, length-table, length-pool}

neither : (a b : Bool) → not (a || b) ≡ (not a && not b)
neither true b = refl
neither false b = refl

module _ (bytes : List ℕ) where
  pub mark-cut : length bytes < 3 → true ≡ wrong_mark bytes
  unfolding wrong_mark
  mark-cut h =
      sym
      (ap not
      (unequal-same_bytes (take 3 bytes) MARK (λ e.
      let long : length bytes ≡ length MARK = ap length (sym (take_all 3 bytes (omega arith)) ∙ e) in
      omega arith)))

  pub version-cut : length bytes < 5 → true ≡ other_version bytes
  unfolding other_version
  version-cut h = rw (lt-ltb (length bytes) 5 h) refl

  pub version-told : 5 ≤ length bytes → (version : ℕ) → version ≡ bundle_version bytes → (not (eqb version VERSION) && not (eqb version OLD_VERSION)) ≡ other_version bytes
  unfolding other_version is_old
  version-told h version is = rw (is, le-ltb (length bytes) 5 h) (sym (neither (eqb (bundle_version bytes) VERSION) (eqb (bundle_version bytes) OLD_VERSION)))

  pub lengths-cut : length bytes < HEADER → true ≡ bad_lengths bytes
  unfolding bad_lengths
  lengths-cut h = rw (lt-ltb (length bytes) HEADER h) refl

  pub zero-other : HEADER ≤ length bytes → (get_or bytes 5 0 ≡ 0 → ⊥) → true ≡ bad_lengths bytes
  unfolding bad_lengths
  zero-other h e = rw (le-ltb (length bytes) HEADER h, ne_eqb (get_or bytes 5 0) 0 e) refl

  pub lengths-told : HEADER ≤ length bytes → get_or bytes 5 0 ≡ 0 → not (eqb (length bytes) (pool_start bytes + bundle_pool_length bytes)) ≡ bad_lengths bytes
  unfolding bad_lengths
  lengths-told h e = rw (le-ltb (length bytes) HEADER h, eq-eqb (get_or bytes 5 0) 0 e) refl

-- The refusals of opening, one after the other.
module _ (bytes : List ℕ) where
  pub refused-mark : true ≡ wrong_mark bytes → opening_refusal bytes ≡ some Refusal.Mark
  unfolding opening_refusal bundle_refusal
  refused-mark e = rw (sym e) refl

  pub refused-version : false ≡ wrong_mark bytes → true ≡ other_version bytes → opening_refusal bytes ≡ some Refusal.Version
  unfolding opening_refusal bundle_refusal
  refused-version a e = rw (sym a, sym e) refl

  pub refused-lengths : false ≡ wrong_mark bytes → false ≡ other_version bytes → true ≡ bad_lengths bytes → opening_refusal bytes ≡ some Refusal.Lengths
  unfolding opening_refusal bundle_refusal
  refused-lengths a b e = rw (sym a, sym b, sym e) refl

  pub is-bundle : false ≡ wrong_mark bytes → false ≡ other_version bytes → false ≡ bad_lengths bytes → bundle_refusal bytes ≡ none
  unfolding bundle_refusal
  is-bundle a b c = rw (sym a, sym b, sym c) refl

  pub refused-rows : bundle_refusal bytes ≡ none → MOST_ROWS < bundle_rows bytes → opening_refusal bytes ≡ some Refusal.Size
  unfolding opening_refusal bad_size
  refused-rows b h =
      let long = length-table bytes in
      let many : ltb (WIDTH * MOST_ROWS) (length (bundle_table bytes)) ≡ true = lt-ltb (WIDTH * MOST_ROWS) (length (bundle_table bytes)) (omega arith) in
      let whole : length (bundle_table bytes) % WIDTH ≡ 0 = omega arith in
      rw (b, whole, many) refl

  pub refused-bytes : bundle_refusal bytes ≡ none → Agreed bytes → bundle_rows bytes ≤ MOST_ROWS → MOST_BYTES < bundle_pool_length bytes → opening_refusal bytes ≡ some Refusal.Size
  unfolding opening_refusal bad_size
  refused-bytes b known few h =
      let long = length-table bytes in
      let size = length-pool bytes known in
      let fits : ltb (WIDTH * MOST_ROWS) (length (bundle_table bytes)) ≡ false = le-ltb (WIDTH * MOST_ROWS) (length (bundle_table bytes)) (omega arith) in
      let many : ltb MOST_BYTES (length (bundle_pool bytes)) ≡ true = lt-ltb MOST_BYTES (length (bundle_pool bytes)) (omega arith) in
      let whole : length (bundle_table bytes) % WIDTH ≡ 0 = omega arith in
      rw (b, whole, fits, many) refl

  pub not-opening-refused : bundle_refusal bytes ≡ none → Agreed bytes → bundle_rows bytes ≤ MOST_ROWS → bundle_pool_length bytes ≤ MOST_BYTES → opening_refusal bytes ≡ none
  unfolding opening_refusal bad_size
  not-opening-refused b known few small =
      let long = length-table bytes in
      let size = length-pool bytes known in
      let fits : ltb (WIDTH * MOST_ROWS) (length (bundle_table bytes)) ≡ false = le-ltb (WIDTH * MOST_ROWS) (length (bundle_table bytes)) (omega arith) in
      let fit : ltb MOST_BYTES (length (bundle_pool bytes)) ≡ false = le-ltb MOST_BYTES (length (bundle_pool bytes)) (omega arith) in
      let whole : length (bundle_table bytes) % WIDTH ≡ 0 = omega arith in
      rw (b, whole, fits, fit) refl

-- What a bundle tells that is not refused.
pub record Ready (bytes : List ℕ) : Type 0 where
  pub bundle : bundle_refusal bytes ≡ none
  pub known : Agreed bytes
  pub few : bundle_rows bytes ≤ MOST_ROWS
  pub short : length (bundle_pool bytes) ≤ MOST_BYTES

pub ready : (bytes : List ℕ) → verdict (opening_refusal bytes) ≡ Ok tt → Ready bytes
unfolding opening_refusal
ready bytes e =
    let bad = bad_size (bundle_table bytes) (bundle_pool bytes) in
    let a = all_none (bundle_refusal bytes ∷ refused_if bad Refusal.Size ∷ []) (verdict-accepted (opening_refusal bytes) e) in
    let long = length-table bytes in
    let size = sized (bundle_table bytes) (bundle_pool bytes) (not-refused bad Refusal.Size a.1.0) in
    let bound = size.table_bound in
    record { bundle = a.0; known = bundle-agreed bytes a.0; few = omega arith; short = size.pool_bound }

-- The bytes behind the header, as a slice has them.
pub behind-header : (bytes : List ℕ) → take (length bytes - HEADER) (drop HEADER bytes) ≡ drop HEADER bytes
behind-header bytes =
    let long = length-drop HEADER bytes in
    take_all (length bytes - HEADER) (drop HEADER bytes) (omega arith)

-- The rows, read into the start of a buffer.
pub opens : (bytes buffer : List ℕ) (n : ℕ) (left : List ℕ) → HasRoom bytes buffer → Ready bytes → n ≡ bundle_rows bytes → left ≡ written buffer 0 (bundle_table bytes) → Opens bytes left n
opens bytes buffer n left has can is read =
    let total = can.known.total in
    let few = can.few in
    let size = has can.known.header few in
    let long : length (bundle_table bytes) ≡ WIDTH * n = length-table bytes ∙ ap (λ (k : ℕ). WIDTH * k) (sym is) in
    record {
      bundle = can.bundle;
      rows = sym is;
      few = omega arith;
      short = can.short;
      room = let kept = ap length read ∙ length-written buffer 0 (bundle_table bytes) (omega arith) in omega arith;
      inside = omega arith;
      table = ap (take (WIDTH * n)) (read ∙ written-from-start buffer (bundle_table bytes)) ∙ take_at (bundle_table bytes) (drop (length (bundle_table bytes)) buffer) (WIDTH * n) long;
    }

-- They stand behind the header, and are read by the version.
module _ (bytes : List ℕ) (n : ℕ) (is : n ≡ bundle_rows bytes) where
  abbrev behind : List ℕ
  behind = take (length bytes - HEADER) (drop HEADER bytes)

  behind-long : Agreed bytes → row_bytes bytes * n ≤ length behind
  behind-long known =
      let total = known.total in
      let long = ap length (behind-header bytes) ∙ length-drop HEADER bytes in
      let rows : row_bytes bytes * n ≡ row_bytes bytes * bundle_rows bytes = ap (λ (k : ℕ). row_bytes bytes * k) is in
      omega arith

  pub new-inside : Agreed bytes → is_old bytes ≡ false → 4 * (WIDTH * n) ≤ length behind
  new-inside known new = let long = rw (new-bytes bytes new) at (behind-long known) in omega arith

  pub old-inside : Agreed bytes → is_old bytes ≡ true → OLD_ROW_BYTES * n ≤ length behind
  old-inside known old = rw (old-bytes bytes old) at (behind-long known)

  pub new-rows : is_old bytes ≡ false → (buffer left : List ℕ) → left ≡ written buffer 0 (words_from (WIDTH * n) behind) → left ≡ written buffer 0 (bundle_table bytes)
  new-rows new buffer left read =
      read ∙ ap (λ (l : List ℕ). written buffer 0 (words_from (WIDTH * n) l)) (behind-header bytes)
      ∙ ap (λ (k : ℕ). written buffer 0 (words_from (WIDTH * k) (drop HEADER bytes))) is ∙ ap (written buffer 0) (sym (new-table bytes new))

  pub old-rows : is_old bytes ≡ true → (buffer left : List ℕ) → left ≡ written buffer 0 (widened n (words_from (OLD_WIDTH * n) behind)) → left ≡ written buffer 0 (bundle_table bytes)
  old-rows old buffer left read =
      read ∙ ap (λ (l : List ℕ). written buffer 0 (widened n (words_from (OLD_WIDTH * n) l))) (behind-header bytes)
      ∙ ap (λ (k : ℕ). written buffer 0 (widened k (words_from (OLD_WIDTH * k) (drop HEADER bytes)))) is ∙ ap (written buffer 0) (sym (old-table bytes old))

-- What opening answers.
module _ (bytes left : List ℕ) where
  abbrev pub Answers : Result ℕ Refusal → Type 0
  Answers answer = ((n : ℕ) → answer ≡ Ok n → Opens bytes left n) × ((x : Refusal) → answer ≡ Err x → opening_refusal bytes ≡ some x)

  pub opened_rows : (k : ℕ) → Opens bytes left k → Answers (Ok k)
  opened_rows k is = (λ n e. let same : k ≡ n = cc in subst (Opens bytes left) same is, λ y e. cc)

  pub opened-refused : (x : Refusal) → opening_refusal bytes ≡ some x → Answers (Err x)
  opened-refused x is = (λ n e. let bad : true ≡ false = cc in absurd (true≢false bad), λ y e. let same : x ≡ y = cc in is ∙ ap some same)
