use Prim.Native.Nat.{ℕ, ◌+◌, ◌<◌}
use native.Mathlib.Omega.{arith}
use mathlib.Core.Path.{◌≡◌, sym, subst, ◌∙◌}
use mathlib.Core.List.{List}
use lib.ListN.{length, set, length-set}
use Rattle.scopes.specs.Rows.{up}
use Rattle.scopes.proofs.Reading.{up-falls}
use Rattle.ways.specs.Ways.{Leads}
use Rattle.ways.proofs.Ways.{written-place, leads-found, leads-next}
use Rattle.ways.proofs.+climb.Goals as goal

below : (table : List ℕ) (top r : ℕ) → r ≡ up table top → 0 < top → r < top
below table top r e h = subst (λ x. x < top) (sym e) (up-falls table top h)

further :
    (table way : List ℕ) (to n top above : ℕ) → above ≡ up table top → 0 < top → n < length way
    → Leads table way n to top → Leads table (set way n top) (n + 1) to above
further table way to n top above e h room leads = subst (Leads table (set way n top) (n + 1) to) (sym e) (leads-next table way to n top room leads h)

pub bounds-way-n : goal.bounds-way-n
bounds-way-n t c = omega (arith, c.requires.1)

pub up-above-requires : goal.up-above-requires
up-above-requires t c = (omega arith, c.requires.0)

pub bounds-way-n-then-at-top : goal.bounds-way-n-then-at-top
bounds-way-n-then-at-top t c =
    let kept = length-set c.args.way.now c.args.n c.args.top.0 in
    omega (arith, c.requires.1)

pub up-requires : goal.up-requires
up-requires t c =
    let lower = below c.args.table.now c.args.top.0 c.up-above.result.0 c.up-above.ensures (omega arith) in
    (omega arith, omega (arith, c.requires.0))

pub climb-requires : goal.climb-requires
climb-requires t c =
    let lower = below c.args.table.now c.args.top.0 c.up-above.result.0 c.up-above.ensures (omega arith) in
    let lowest = below c.args.table.now c.up-above.result.0 c.up.result.0 c.up.ensures (omega arith) in
    let kept = length-set c.args.way.now c.args.n c.args.top.0 in
    let kept2 = length-set (set c.args.way.now c.args.n c.args.top.0) (c.args.n + 1) c.up-above.result.0 in
    let falls : c.up.result.0 < c.args.top.0 = omega arith in
    (subst (λ t. c.up.result.0 < t) c.decreases falls, (omega (arith, c.requires.0), omega (arith, c.requires.1)))

pub shape_of-way-then-at-above : goal.shape_of-way-then-at-above
shape_of-way-then-at-above t c =
    c.climb.auto.way ∙ length-set (set c.args.way.now c.args.n c.args.top.0) (c.args.n + 1) c.up-above.result.0 ∙ length-set c.args.way.now c.args.n c.args.top.0

pub returns-then-at-above : goal.returns-then-at-above
returns-then-at-above t c =
    let way = c.args.way.now in
    let kept = length-set way c.args.n c.args.top.0 in
    let lower = below c.args.table.now c.args.top.0 c.up-above.result.0 c.up-above.ensures (omega arith) in
    let room : c.args.n < length way = omega (arith, c.requires.1) in
    let room2 : c.args.n + 1 < length (set way c.args.n c.args.top.0) = omega (arith, c.requires.1) in
    let two : c.args.n + 1 + 1 ≡ c.args.n + 2 = omega arith in record { upper_bound = c.climb.ensures.upper_bound; by_index = λ to leads. c.climb.ensures.by_index to (subst (λ k. Leads c.args.table.now (set (set way c.args.n c.args.top.0) (c.args.n + 1) c.up-above.result.0) k to c.up.result.0) two (further c.args.table.now (set way c.args.n c.args.top.0) to (c.args.n + 1) c.up-above.result.0 c.up.result.0 c.up.ensures (omega arith) room2 (further c.args.table.now way to c.args.n c.args.top.0 c.up-above.result.0 c.up-above.ensures (omega arith) room leads))) }

pub shape_of-way-then-at-top : goal.shape_of-way-then-at-top
shape_of-way-then-at-top t c =
    length-set (set c.args.way.now c.args.n c.args.top.0) (c.args.n + 1) c.up-above.result.0 ∙ length-set c.args.way.now c.args.n c.args.top.0

pub returns-then-at-top : goal.returns-then-at-top
returns-then-at-top t c =
    let way = c.args.way.now in
    let kept = length-set way c.args.n c.args.top.0 in
    let lower = below c.args.table.now c.args.top.0 c.up-above.result.0 c.up-above.ensures (omega arith) in
    let room : c.args.n < length way = omega (arith, c.requires.1) in
    let room2 : c.args.n + 1 < length (set way c.args.n c.args.top.0) = omega (arith, c.requires.1) in record { upper_bound = written-place (set way c.args.n c.args.top.0) (c.args.n + 1) c.up-above.result.0 room2 c.args.at.0 (omega arith); by_index = λ to leads. leads-found c.args.table.now (set way c.args.n c.args.top.0) to (c.args.n + 1) c.up-above.result.0 room2 (further c.args.table.now way to c.args.n c.args.top.0 c.up-above.result.0 c.up-above.ensures (omega arith) room leads) }

pub shape_of-way : goal.shape_of-way
shape_of-way t c = length-set c.args.way.now c.args.n c.args.top.0

pub returns : goal.returns
returns t c =
    let room : c.args.n < length c.args.way.now = omega (arith, c.requires.1) in record { upper_bound = written-place c.args.way.now c.args.n c.args.top.0 room c.args.at.0 (omega arith); by_index = λ to leads. leads-found c.args.table.now c.args.way.now to c.args.n c.args.top.0 room leads }
