-- A part as far as the pool goes, and the part that an answer stands for.
-- Assumes nothing.
use Rattle.std.specs.Prelude.{Some, None, Ok, Err}
use Prim.Native.Nat.{ℕ, zero, suc, ◌-◌, min}
use mathlib.Core.Path.{◌≡◌, ap, ◌∙◌}
use mathlib.Core.List.{List, [], ◌∷◌}
use native.Mathlib.Nat.{zero-min, min-zero, suc-min-suc}
use lib.ListN.{length, take, drop, length-drop}
use Rattle.rules.specs.Table.{part}
use Rattle.rules.specs.declared.Place.{Place}
use Rattle.rules.specs.Lookups.{bound_part, located_part}
use Rattle.rules.specs.Answers.{bound_place, located_place, Located, Lookup}
use Rattle.rules.specs.declared.Bound.{Bound}

-- To take or to drop more bytes than there are is to take or to drop all of them.
take_min : (n : ℕ) (l : List ℕ) → take (min n (length l)) l ≡ take n l
take_min zero l = rw zero-min
take_min (suc n) [] = rw min-zero
take_min (suc n) (x ∷ xs) = rw suc-min-suc (ap (λ r. x ∷ r) (take_min n xs))

drop_min : (n : ℕ) (l : List ℕ) → drop (min n (length l)) l ≡ drop n l
drop_min zero l = rw zero-min
drop_min (suc n) [] = rw min-zero
drop_min (suc n) (x ∷ xs) = rw suc-min-suc (drop_min n xs)

-- A part as far as the pool goes.
pub part-within :
    (pool : List ℕ) (offset size start count : ℕ) → start ≡ min offset (length pool) → count ≡ min size (length pool - start)
    → take count (drop start pool) ≡ part pool offset size
part-within pool offset size start count e f =
    let front : take count (drop start pool) ≡ take size (drop start pool) = rw (f, ← length-drop start pool) (take_min size (drop start pool)) in
    let back : drop start pool ≡ drop offset pool = rw e (drop_min offset pool) in
    front ∙ ap (take size) back

-- The part that an answer stands for is the one at its place.
pub bound-there : (pool : List ℕ) (found : Lookup) {place : Place} → place ≡ bound_place found → part pool place.offset.0 place.length ≡ bound_part pool found
unfolding bound_part bound_place
bound-there pool (Ok (Some (Bound.At p))) e = rw e
bound-there pool (Ok (Some Bound.Xml)) e = rw e
bound-there pool (Ok (Some Bound.Xmlns)) e = rw e
bound-there pool (Ok None) e = rw e
bound-there pool (Err x) e = rw e

pub located-there : (pool : List ℕ) (found : Located) {place : Place} → place ≡ located_place found → part pool place.offset.0 place.length ≡ located_part pool found
unfolding located_part located_place
located-there pool (Ok (Some p)) e = rw e
located-there pool (Ok None) e = rw e
located-there pool (Err x) e = rw e
