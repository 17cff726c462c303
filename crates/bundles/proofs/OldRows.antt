-- Rows of ten words and rows of eleven: the maker 0 is put in and left out again.
-- Assumes nothing.
use Prim.Native.Nat.{ℕ, zero, suc, ◌+◌, ◌*◌, ◌≤◌, ◌<◌}
use mathlib.Core.Path.{◌≡◌, refl, sym, ap, ◌∙◌}
use mathlib.Core.Bool.{true}
use mathlib.Core.List.{List, [], ◌∷◌, ◌++◌}
use native.Mathlib.Omega.{arith}
use lib.ListN.{length, get_or, take, drop, length-append, length-drop, take-append-drop}
use lib.Seq.{length-take-le, drop-drop, get_or-drop, split_at, take_at, drop_at, get_or_at}
use Rattle.rules.specs.Lists.{all_of}
use Rattle.rules.specs.Table.{WIDTH, MAKER, word}
use Rattle.rules.proofs.Lists.{true-both, all_of-append}
use Rattle.little_endian.specs.Numbers.{is_word}
use Rattle.little_endian.proofs.Numbers.{all_take, all_drop}
use Rattle.bundles.specs.Bundles.{OLD_WIDTH, widened}
use Rattle.bundles.specs.Versions.{narrowed}

pub length-widened : (rows : ℕ) (words : List ℕ) → OLD_WIDTH * rows ≤ length words → length (widened rows words) ≡ WIDTH * rows
unfolding widened
length-widened zero words h = refl
length-widened (suc rows) words h =
    let first = length-take-le OLD_WIDTH words (omega arith) in
    let rest = length-drop OLD_WIDTH words in
    let later = length-widened rows (drop OLD_WIDTH words) (omega arith) in
    let all = length-append (take OLD_WIDTH words) (0 ∷ widened rows (drop OLD_WIDTH words)) in
    omega arith

pub length-narrowed : (rows : ℕ) (table : List ℕ) → length table ≡ WIDTH * rows → length (narrowed rows table) ≡ OLD_WIDTH * rows
unfolding narrowed
length-narrowed zero table h = refl
length-narrowed (suc rows) table h =
    let first = length-take-le OLD_WIDTH table (omega arith) in
    let rest = length-drop WIDTH table in
    let later = length-narrowed rows (drop WIDTH table) (omega arith) in
    let all = length-append (take OLD_WIDTH table) (narrowed rows (drop WIDTH table)) in
    omega arith

pub widened_words : (rows : ℕ) (words : List ℕ) → all_of is_word words ≡ true → all_of is_word (widened rows words) ≡ true
unfolding widened
widened_words zero words all = refl
widened_words (suc rows) words all =
    all_of-append is_word (take OLD_WIDTH words) (0 ∷ widened rows (drop OLD_WIDTH words)) (all_take is_word OLD_WIDTH words all)
    (true-both refl (widened_words rows (drop OLD_WIDTH words) (all_drop is_word OLD_WIDTH words all)))

pub narrowed-words : (rows : ℕ) (table : List ℕ) → all_of is_word table ≡ true → all_of is_word (narrowed rows table) ≡ true
unfolding narrowed
narrowed-words zero table all = refl
narrowed-words (suc rows) table all =
    all_of-append is_word (take OLD_WIDTH table) (narrowed rows (drop WIDTH table)) (all_take is_word OLD_WIDTH table all)
    (narrowed-words rows (drop WIDTH table) (all_drop is_word WIDTH table all))

-- Put in, the makers are 0.
pub widened-makers : (rows : ℕ) (words : List ℕ) → OLD_WIDTH * rows ≤ length words → (r : ℕ) → r < rows → word (widened rows words) r MAKER ≡ 0
unfolding widened
widened-makers zero words h r i = absurd (omega arith)
widened-makers (suc rows) words h zero i = get_or_at (take OLD_WIDTH words) 0 (widened rows (drop OLD_WIDTH words)) 0 OLD_WIDTH (length-take-le OLD_WIDTH words (omega arith))
widened-makers (suc rows) words h (suc r) i =
    let first = length-take-le OLD_WIDTH words (omega arith) in
    let rest = length-drop OLD_WIDTH words in
    let row = take OLD_WIDTH words ++ (0 ∷ widened rows (drop OLD_WIDTH words)) in
    let place : WIDTH * suc r + MAKER ≡ OLD_WIDTH + suc (WIDTH * r + MAKER) = omega arith in
    ap (λ (k : ℕ). get_or row k 0) place
    ∙ sym (get_or-drop OLD_WIDTH row (suc (WIDTH * r + MAKER)) 0)
    ∙ ap (λ (l : List ℕ). get_or l (suc (WIDTH * r + MAKER)) 0) (drop_at (take OLD_WIDTH words) (0 ∷ widened rows (drop OLD_WIDTH words)) OLD_WIDTH first)
    ∙ widened-makers rows (drop OLD_WIDTH words) (omega arith) r (omega arith)

-- Left out and put in again, makers that are 0 are as they were.
pub narrow-widen : (rows : ℕ) (table : List ℕ) → length table ≡ WIDTH * rows → ((r : ℕ) → r < rows → word table r MAKER ≡ 0) → widened rows (narrowed rows table) ≡ table
unfolding widened narrowed
narrow-widen zero [] h none = refl
narrow-widen zero (w ∷ table) h none = absurd (omega arith)
narrow-widen (suc rows) table h none =
    let first = length-take-le OLD_WIDTH table (omega arith) in
    let rest = length-drop WIDTH table in
    let later = narrowed rows (drop WIDTH table) in
    let back = narrow-widen rows (drop WIDTH table) (omega arith) (λ r i.
    let place : WIDTH + (WIDTH * r + MAKER) ≡ WIDTH * suc r + MAKER = omega arith in
    get_or-drop WIDTH table (WIDTH * r + MAKER) 0 ∙ ap (λ (k : ℕ). get_or table k 0) place ∙ none (suc r) (omega arith)) in
    ap (λ (l : List ℕ). l ++ (0 ∷ widened rows (drop OLD_WIDTH (take OLD_WIDTH table ++ later)))) (take_at (take OLD_WIDTH table) later OLD_WIDTH first)
    ∙ ap (λ (l : List ℕ). take OLD_WIDTH table ++ (0 ∷ widened rows l)) (drop_at (take OLD_WIDTH table) later OLD_WIDTH first)
    ∙ ap (λ (l : List ℕ). take OLD_WIDTH table ++ (0 ∷ l)) back
    ∙ ap (λ (w : ℕ). take OLD_WIDTH table ++ (w ∷ drop WIDTH table)) (sym (none 0 (omega arith)))
    ∙ sym (split_at table OLD_WIDTH 0 (omega arith))

-- Put in and left out again, the words are as they were.
pub widen-narrow : (rows : ℕ) (words : List ℕ) → length words ≡ OLD_WIDTH * rows → narrowed rows (widened rows words) ≡ words
unfolding widened narrowed
widen-narrow zero [] h = refl
widen-narrow zero (w ∷ words) h = absurd (omega arith)
widen-narrow (suc rows) words h =
    let first = length-take-le OLD_WIDTH words (omega arith) in
    let rest = length-drop OLD_WIDTH words in
    let later = widened rows (drop OLD_WIDTH words) in
    let row = take OLD_WIDTH words ++ (0 ∷ later) in
    ap (λ (l : List ℕ). l ++ narrowed rows (drop WIDTH row)) (take_at (take OLD_WIDTH words) (0 ∷ later) OLD_WIDTH first)
    ∙ ap (λ (l : List ℕ). take OLD_WIDTH words ++ narrowed rows l) (sym (drop-drop 1 OLD_WIDTH row))
    ∙ ap (λ (l : List ℕ). take OLD_WIDTH words ++ narrowed rows (drop 1 l)) (drop_at (take OLD_WIDTH words) (0 ∷ later) OLD_WIDTH first)
    ∙ ap (λ (l : List ℕ). take OLD_WIDTH words ++ l) (widen-narrow rows (drop OLD_WIDTH words) (omega arith))
    ∙ take-append-drop OLD_WIDTH words
