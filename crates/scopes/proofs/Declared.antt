-- A declaration more: the table's last row, linked and on top.
-- Assumes nothing.
use Prim.Native.Nat.{ℕ, suc, ◌+◌, ◌-◌, ◌≤◌, ◌<◌}
use mathlib.Core.Path.{◌≡◌, refl, sym, ap, subst, ◌∙◌}
use mathlib.Core.List.{List, [], ◌∷◌, ◌++◌, append_assoc}
use native.Mathlib.Omega.{arith}
use borrow.Author.Tests.{eq-eqb, lt-ltb}
use lib.ListN.{length, length-append}
use Rattle.rules.specs.Lists.{gathered}
use Rattle.rules.specs.Table.{row_count}
use Rattle.notes.specs.Notes.{LOCAL_NAME, VALUE}
use Rattle.stacks.specs.Scopes.{nearest, serving, Alike, Each}
use Rattle.stacks.specs.Stacks.{PREFIXES, top_at, prefix_at, value_at, Inside, NoneOrInside, On}
use Rattle.stacks.proofs.Each.{each_all, each_map}
use Rattle.stacks.proofs.Pushed.{top-inside}
use Rattle.scopes.specs.Rows.{up, owner_of, own_among, own_rows, outward, scope_rows, SameTree, Grown}
use Rattle.scopes.specs.Standing.{Layers, layer, Standing, Linked, Relinked, Room, Ready, Declaring}
use Rattle.scopes.proofs.Reading.{up-falls}
use Rattle.scopes.proofs.Own.{own-last, own-each}
use Rattle.scopes.proofs.Alike.{alike-trans, alike-front, alike-behind}
use Rattle.scopes.proofs.Layers.{outward-in, outward-below, layers-below}
use Rattle.scopes.proofs.Moving.{room-same, room-inside}
use Rattle.scopes.proofs.Changes.{each-gathered, own_same, outward-same, member-kept, rows-kept, layers-kept, on-kept, linked-changed}

module _ (before table : List ℕ) (e : ℕ) (grown : Grown before table e) where
  -- The new row is e's, and no other row's.
  pub owner-new : owner_of table (row_count table) ≡ e
  unfolding owner_of
  owner-new =
      let one : row_count table ≡ row_count before + 1 = grown.one in
      let s : row_count table - 1 ≡ row_count before = omega arith in
      rw (s, grown.declares, grown.owned, lt-ltb e (row_count before) grown.earlier)

  pub new-only : (q : ℕ) → q ≤ e → (d : ℕ) → row_count before < d → d ≤ row_count table → q ≤ owner_of table d
  new-only q h d i j =
      let one : row_count table ≡ row_count before + 1 = grown.one in
      let s : d ≡ row_count table = omega arith in
      rw (s, owner-new) h

  own-grown : own_rows table e ≡ own_rows before e ++ row_count table ∷ []
  own-grown =
      let one : row_count table ≡ row_count before + 1 = grown.one in
      let s : row_count table ≡ suc (row_count before) = omega arith in
      let mine : owner_of table (suc (row_count before)) ≡ e = rw (← s) owner-new in
      ap (own_among table e) s
      ∙ own-last table e (row_count before)
      ∙ rw (eq-eqb (owner_of table (suc (row_count before))) e mine, own_same before table grown.tree e (row_count before) (omega arith), s)

  module _ (pre val : ℕ → ℕ) where
    abbrev d : ℕ
    d = row_count table

    layers-grown-from :
        (q : ℕ) (scope : List ℕ) → up before q ≤ e → Layers before pre val (e ∷ outward before (up before q)) scope
        → nearest pre (gathered (own_rows before) (e ∷ outward before (up before q))) (pre d) ≡ 0
        → serving pre val (gathered (own_rows before) (e ∷ outward before (up before q))) (val d) ≡ []
        → Layers table pre val (e ∷ outward before (up before q)) (d ∷ scope)
    layers-grown-from q scope above (layer {own = own} {scope = further} l layers) new needed =
        let one : d ≡ row_count before + 1 = grown.one in
        let outer : List ℕ = outward before (up before q) in
        let below : Each (λ x. x < up before q) outer = outward-below before (up before q) in
        let rest : List ℕ = gathered (own_rows before) outer in
        let positive : Each (λ x. 0 < x) (own_rows before e ++ rest) =
        each-gathered (λ x. 0 < x) (own_rows before) (e ∷ outer) (each_all (λ x. each_map (λ y o. o.0) (own_rows before x) (own-each before x (row_count before))) (e ∷ outer)) in
        let same : own_rows before e ++ d ∷ rest ≡ gathered (own_rows table) (e ∷ outer) =
        sym (append_assoc (own_rows before e) (d ∷ []) rest)
        ∙ rw (← own-grown, ← rows-kept before table grown.tree pre val pre val (up before q) (new-only (up before q) above) (λ x h i j. (refl, refl)) outer below) in
        layer {e = e} {outer = outer} {own = d ∷ own} {scope = further}
        (record {
          count = let more = ap length own-grown ∙ length-append (own_rows before e) (d ∷ []) in let count = l.count in omega arith;
          members = (record { row = omega arith; within = omega arith; owned = rw owner-new (omega arith) }, each_map (member-kept before table grown.tree e) (own ++ further) l.members);
          alike =
              alike-trans pre val (alike-front pre val (d ∷ []) l.alike)
              (subst (Alike pre val (d ∷ own_rows before e ++ rest)) same (alike-behind pre val d (own_rows before e) rest positive new needed));
        })
        (layers-kept before table grown.tree pre val pre val (up before q) (new-only (up before q) above) (λ x h i j. (refl, refl)) outer further below layers)

tree-refl : (table : List ℕ) → SameTree table table
tree-refl table = record { count = omega arith; types = λ r h. refl; parents = λ r h. refl }

relinked-agree : (notes notes' : List ℕ) → Relinked notes notes' → (d : ℕ) → (prefix_at notes' d ≡ prefix_at notes d) × (value_at notes' d ≡ value_at notes d)
relinked-agree notes notes' kept d =
    (kept (d - 1) LOCAL_NAME (omega arith) (λ z. omega arith) (λ z. omega arith), kept (d - 1) VALUE (omega arith) (λ z. omega arith) (λ z. omega arith))

room-relinked : (table notes notes' tops path : List ℕ) → Relinked notes notes' → length notes' ≡ length notes → Room table notes tops path → Room table notes' tops path
room-relinked table notes notes' tops path kept long room =
    record {
      small = room.small;
      noted = rw long room.noted;
      placed = room.placed;
      prefixes = λ d h i. rw (relinked-agree notes notes' kept d).0 (room.prefixes d h i);
      values = λ d h i. rw (relinked-agree notes notes' kept d).1 (room.values d h i);
    }

module _ (table notes tops path : List ℕ) (q : ℕ) (c : Declaring table notes tops path q) where
  pub declaring-linked : (n : ℕ) → n ≡ row_count table → Linked table notes (n - 1)
  declaring-linked n all =
      let one : row_count table ≡ row_count c.before + 1 = c.grown.one in
      let s : row_count c.before ≡ n - 1 = omega arith in
      subst (Linked table notes) s
      (linked-changed c.before table notes notes (row_count c.before) c.linked (omega arith) c.grown.tree (λ e. refl) (λ r h. refl))

  module _ (notes' tops' path' : List ℕ) (kept : Relinked notes notes') (long : length notes' ≡ length notes) where
    pub declared-ready : (n : ℕ) → n ≡ row_count table → Room table notes tops path → length tops' ≡ length tops → length path' ≡ length path → Linked table notes' (n - 1 + 1) → Ready table notes' tops' path'
    declared-ready n all room t p linked =
        let one : row_count table ≡ row_count c.before + 1 = c.grown.one in
        let s : n - 1 + 1 ≡ row_count table = omega arith in
        record {
          room = room-same tops' path' t p (room-relinked table notes notes' tops path kept long room);
          linked = subst (Linked table notes') s linked;
        }

    still-on : On notes' tops path c.standing.scope
    still-on =
        on-kept notes notes' tops path c.standing.scope (omega arith) (each_all (relinked-agree notes notes' kept) c.standing.scope) c.standing.on

    -- what pushing asks
    pub declared-inside : (n : ℕ) → n ≡ row_count table → Room table notes tops path → Inside notes' tops path n × NoneOrInside notes' tops path (top_at tops PREFIXES (prefix_at notes' n))
    declared-inside n all room =
        let one : row_count table ≡ row_count c.before + 1 = c.grown.one in
        (room-inside n (room-relinked table notes notes' tops path kept long room) (omega arith) (omega arith), top-inside notes' tops path c.standing.scope still-on (prefix_at notes' n))

    declared-at :
        ((scope : List ℕ) → Each (λ d. d ≡ row_count table → ⊥) scope → On notes' tops path scope → On notes' tops' path' (row_count table ∷ scope))
        → Standing table notes' tops' path' q
    unfolding scope_rows
    declared-at push =
        let before = c.before in
        let s = c.standing in
        let one : row_count table ≡ row_count before + 1 = c.grown.one in
        let earlier : q - 1 < row_count before = c.grown.earlier in
        let position : 0 < q = c.position in
        let falls = up-falls before q position in
        let out : outward before q ≡ (q - 1) ∷ outward before (up before q) = outward-in before q position in
        let layers : Layers table (prefix_at notes) (value_at notes) ((q - 1) ∷ outward before (up before q)) (row_count table ∷ s.scope) =
        layers-grown-from before table (q - 1) c.grown (prefix_at notes) (value_at notes) q s.scope (omega arith) (rw out at s.layers) (rw out at c.new) (rw out at c.needed) in
        let agree = relinked-agree notes notes' kept in
        let below = layers-below before (prefix_at notes) (value_at notes) q s.scope s.layers in
        let here : outward table q ≡ (q - 1) ∷ outward before (up before q) = outward-same before table c.grown.tree q (omega arith) ∙ out in
        record {
          scope = row_count table ∷ s.scope;
          on =
              push s.scope
              (each_map (λ x b e. let within : x ≤ row_count before = b.1 in omega arith) s.scope below)
              still-on;
          layers =
              layers-kept table table (tree-refl table) (prefix_at notes) (value_at notes) (prefix_at notes') (value_at notes') q (λ d h i. absurd (omega arith)) (λ d h i j. agree d)
              (outward table q) (row_count table ∷ s.scope) (outward-below table q) (rw (← here) at layers);
        }

    pub declared :
        (n : ℕ) → n ≡ row_count table
        → ((scope : List ℕ) → Each (λ d. d ≡ n → ⊥) scope → On notes' tops path scope → On notes' tops' path' (n ∷ scope))
        → Standing table notes' tops' path' q
    declared n all push =
        declared-at
        (subst (λ m. (scope : List ℕ) → Each (λ d. d ≡ m → ⊥) scope → On notes' tops path scope → On notes' tops' path' (m ∷ scope)) all push)
