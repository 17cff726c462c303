-- The first of an element's declarations that passes a test, along the links: from the last one backwards.
-- Assumes nothing.
use Prim.Native.Nat.{ℕ, ◌-◌, ◌≤◌, ◌<◌}
use native.Mathlib.Omega.{arith}
use mathlib.Core.Bool.{Bool, true, false, cond}
use mathlib.Core.List.{List, [], ◌∷◌, ◌++◌, map}
use mathlib.Core.Option.{Option, none, some}
use mathlib.Core.Path.{◌≡◌, refl, sym, ap, subst, ◌∙◌}
use lib.Dec.{eqb}
use borrow.Author.Tests.{eqb-true}
use Rattle.rules.specs.Lists.{first_that}
use Rattle.rules.specs.Table.{MOST_ROWS, NONE, TYPE, DECLARATION, Node, nodes, node_at, word, row_count}
use Rattle.rules.specs.Lookups.{own_declarations}
use Rattle.rules.proofs.Lists.{by_cases}
use Rattle.notes.specs.Notes.{LATEST, PREVIOUS, note_at}
use Rattle.rows.specs.Reading.{found}
use Rattle.ancestors.specs.Paths.{Element}
use Rattle.scopes.specs.Rows.{owner_of, own_among, Tree}
use Rattle.scopes.proofs.Own.{Reached, reach-first, own_first, reach-next, reach-falls, own-next}
use Rattle.scopes.proofs.Definitions.{own-defined}
use Rattle.declarations.specs.Along.{Ready}
use Rattle.declarations.proofs.Rows.{found_some, found_none}

-- What is found first, or what was found behind it.
abbrev or_later : Option Node → Option Node → Option Node
or_later none later = later
or_later (some n) later = some n

or-none : (o : Option Node) → or_later o none ≡ o
or-none none = refl
or-none (some n) = refl

last_one :
    (test : Node → Bool) (row : ℕ → Node) (ds : List ℕ) (d : ℕ) (later : Option Node)
    → or_later (first_that test (map row (ds ++ d ∷ []))) later ≡ or_later (first_that test (map row ds)) (cond (test (row d)) (some (row d)) later)
last_one test row [] d later = by_cases (test (row d)) (λ t. rw t refl) (λ t. rw t refl)
last_one test row (x ∷ ds) d later = by_cases (test (row x)) (λ t. rw t refl) (λ t. rw t (last_one test row ds d later))

-- The walk has come to position `at`, and has found row `first` behind it: what is found from there on, or else that row, is what
-- there is to find.
pub record Walking (table pool : List ℕ) (e : ℕ) (test : Node → Bool) (at first : ℕ) : Type 0 where
  pub left :
      or_later (first_that test (map (λ (d : ℕ). node_at table pool (d - 1)) (own_among table e at))) (found (nodes table pool) first)
      ≡ first_that test (own_declarations (nodes table pool) e)

own-none : (table : List ℕ) (e : ℕ) → own_among table e 0 ≡ []
unfolding own_among
own-none table e = refl

-- A row that is owned is a declaration.
owned-type : (table : List ℕ) (d e : ℕ) → owner_of table d ≡ e → e < NONE → word table (d - 1) TYPE ≡ DECLARATION
unfolding owner_of
owned-type table d e owned less =
    by_cases (eqb (word table (d - 1) TYPE) DECLARATION)
    (λ t. eqb-true (word table (d - 1) TYPE) DECLARATION t)
    (λ t. let none? : NONE ≡ e = rw t at owned in absurd (omega arith))

module _ (table notes : List ℕ) (ready : Ready table notes) (e : ℕ) (element : Element table e) where
  few : e < MOST_ROWS
  few = omega (arith, ready.few, element.within)

  pub walk_first : (at : ℕ) → at ≡ note_at notes e LATEST → Reached table e at
  walk_first at head = reach-first table e notes ready.linked few at head

  module _ (at : ℕ) (reached : Reached table e at) (some? : 0 < at) (r : ℕ) (row : r ≡ at - 1) where
    pub walk-within : r < row_count table
    walk-within = let w : at ≤ row_count table = reached.within in omega arith

    pub walk-type : word table r TYPE ≡ DECLARATION
    walk-type = subst (λ (q : ℕ). word table q TYPE ≡ DECLARATION) (sym row) (owned-type table at e (reached.owned some?) (let small = few in omega arith))

    module _ (next : ℕ) (link : next ≡ note_at notes r PREVIOUS) where
      back : next ≡ note_at notes (at - 1) PREVIOUS
      back = link ∙ ap (λ (q : ℕ). note_at notes q PREVIOUS) row

      pub walk-next : Reached table e next
      walk-next = reach-next table e notes ready.linked few at some? reached next back

      pub walk-falls : next < at
      walk-falls = reach-falls table e notes ready.linked few at some? reached next back

  -- What the walk finds.
  module _ (pool : List ℕ) (tree : Tree (nodes table pool)) (test : Node → Bool) where
    pub walking-first : (at : ℕ) → at ≡ note_at notes e LATEST → Walking table pool e test at NONE
    walking-first at head =
        record {
          left =
              ap (or_later (first_that test (map (λ (d : ℕ). node_at table pool (d - 1)) (own_among table e at)))) (found_none table pool NONE (omega (arith, ready.few)))
              ∙ or-none (first_that test (map (λ (d : ℕ). node_at table pool (d - 1)) (own_among table e at)))
              ∙ ap (λ l. first_that test (map (λ (d : ℕ). node_at table pool (d - 1)) l)) (own_first table e notes ready.linked few at head)
              ∙ sym (ap (first_that test) (own-defined table pool ready.few tree e element.within));
        }

    module _ (at first : ℕ) (walking : Walking table pool e test at first) where
      pub walking-end : at ≤ 0 → found (nodes table pool) first ≡ first_that test (own_declarations (nodes table pool) e)
      walking-end over =
          let zero : at ≡ 0 = omega arith in
          sym (ap (λ l. or_later (first_that test (map (λ (d : ℕ). node_at table pool (d - 1)) l)) (found (nodes table pool) first)) (ap (own_among table e) zero ∙ own-none table e))
          ∙ walking.left

      module _ (reached : Reached table e at) (some? : 0 < at) (r : ℕ) (row : r ≡ at - 1) (next : ℕ) (link : next ≡ note_at notes r PREVIOUS) where
        later-found : (t : Bool) → cond t (some (node_at table pool r)) (found (nodes table pool) first) ≡ found (nodes table pool) (cond t r first)
        later-found true = sym (found_some table pool r (walk-within at reached some? r row))
        later-found false = refl

        pub walking-next : (t : Bool) → t ≡ test (node_at table pool r) → (first' : ℕ) → first' ≡ cond t r first → Walking table pool e test next first'
        walking-next t is first' chosen =
            let rows : List ℕ = own_among table e next in
            record {
              left =
                  ap (λ (f : ℕ). or_later (first_that test (map (λ (d : ℕ). node_at table pool (d - 1)) rows)) (found (nodes table pool) f)) chosen
                  ∙ sym (ap (or_later (first_that test (map (λ (d : ℕ). node_at table pool (d - 1)) rows))) (later-found t))
                  ∙ ap (λ (u : Bool). or_later (first_that test (map (λ (d : ℕ). node_at table pool (d - 1)) rows)) (cond u (some (node_at table pool r)) (found (nodes table pool) first))) is
                  ∙ ap (λ (q : ℕ). or_later (first_that test (map (λ (d : ℕ). node_at table pool (d - 1)) rows)) (cond (test (node_at table pool q)) (some (node_at table pool q)) (found (nodes table pool) first))) row
                  ∙ sym (last_one test (λ (d : ℕ). node_at table pool (d - 1)) rows at (found (nodes table pool) first))
                  ∙ sym (ap (λ l. or_later (first_that test (map (λ (d : ℕ). node_at table pool (d - 1)) l)) (found (nodes table pool) first)) (own-next table e notes ready.linked few at some? reached next (back at reached some? r row next link)))
                  ∙ walking.left;
            }
