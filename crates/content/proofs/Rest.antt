-- What is left to put of an element, piece by piece: on the way into the elements and out of them again.
-- Assumes nothing.
use Prim.Native.Nat.{ℕ, zero, suc, ◌+◌, ◌-◌, ◌≤◌, ◌<◌}
use mathlib.Core.Path.{◌≡◌, refl, sym, ap, subst, ◌∙◌}
use mathlib.Core.Bool.{true, false}
use mathlib.Core.List.{List, [], ◌∷◌, ◌++◌, append_assoc}
use native.Mathlib.Omega.{arith}
use borrow.Author.Tests.{eq-eqb, ne_eqb}
use lib.ListN.{length}
use Rattle.rules.specs.Lists.{gathered}
use Rattle.rules.specs.Table.{TYPE, PARENT, ELEMENT, nodes, node_at, row_count, word}
use Rattle.rules.proofs.Table.{length-nodes, node-nodes}
use Rattle.notes.specs.Notes.{LATEST, note_at}
use Rattle.buffers.specs.Writes.{Put}
use Rattle.buffers.proofs.Writes.{put-nothing, put-behind}
use Rattle.escapes.specs.Escapes.{escaped}
use Rattle.children.specs.Children.{is_under}
use Rattle.markup.specs.Trees.{Content, nothing, text, element, Qualified, qualified_name, written_attributes, written_tree}
use Rattle.markup.specs.Markup.{start_tag, end_tag, markup}
use Rattle.markup.proofs.Reading.{gathered-append}
use Rattle.tags.specs.Links.{Linked, before}
use Rattle.content.proofs.Rows.{content, items, none-items, Here, parent_is, here-first, here-next, next-items, content-items}

-- the tags and texts of a content, in order
unfoldable pub pieces : Content Qualified → List (List ℕ)
pieces nothing = []
pieces (text value following) = escaped false value ∷ pieces following
pieces (element name attributes inside following) = start_tag name attributes ∷ (pieces inside ++ (end_tag name ∷ pieces following))

abbrev pub whole : List ℕ → List ℕ
whole piece = piece

pieces-markup : (c : Content Qualified) → gathered whole (pieces c) ≡ markup c
unfolding pieces markup
pieces-markup nothing = refl
pieces-markup (text value following) = ap (λ l. escaped false value ++ l) (pieces-markup following)
pieces-markup (element name attributes inside following) =
    let start = start_tag name attributes in
    let end = end_tag name in
    ap (λ l. start ++ l) (gathered-append whole (pieces inside) (end ∷ pieces following))
    ∙ ap (λ l. start ++ (l ++ (end ++ gathered whole (pieces following)))) (pieces-markup inside)
    ∙ ap (λ l. start ++ (markup inside ++ (end ++ l))) (pieces-markup following)
    ∙ sym (append_assoc start (markup inside) (end ++ markup following))
    ∙ sym (append_assoc (start ++ markup inside) end (markup following))

-- The pieces that are left, put from `to` on, make the whole that is put from `at` of the output at first.
pub record Left (all out₀ : List ℕ) (at : ℕ) (out : List ℕ) (to : ℕ) (ahead : List (List ℕ)) : Type 0 where
  pub size : length out ≡ length out₀
  pub more : {r : ℕ} {out' : List ℕ} → Put out to (gathered whole ahead) r out' → Put out₀ at all r out'

-- At first all are left.
left-all : (ahead : List (List ℕ)) (out : List ℕ) (at : ℕ) → Left (gathered whole ahead) out at out at ahead
left-all ahead out at = record { size = refl; more = λ p. p }

module _ {all out₀ : List ℕ} {at : ℕ} {out : List ℕ} {to : ℕ} where
  pub left-none : Left all out₀ at out to [] → Put out₀ at all to out
  left-none l = l.more (put-nothing out to)

  -- The first of them is put, and some of the others.
  left-through : {piece : List ℕ} {others ahead : List (List ℕ)} {to₁ to₂ : ℕ} {out₁ out₂ : List ℕ} → Left all out₀ at out to (piece ∷ others) → Put out to piece to₁ out₁ → Left (gathered whole others) out₁ to₁ out₂ to₂ ahead → Left all out₀ at out₂ to₂ ahead
  left-through l p m = record { size = m.size ∙ p.size ∙ l.size; more = λ q. l.more (put-behind p (m.more q)) }

  left-next : {ahead : List (List ℕ)} (piece : List ℕ) (others : List (List ℕ)) → ahead ≡ piece ∷ others → {to₁ : ℕ} {out₁ : List ℕ} → Left all out₀ at out to ahead → Put out to piece to₁ out₁ → Left all out₀ at out₁ to₁ others
  left-next piece others is {to₁} {out₁} l p = left-through (subst (Left all out₀ at out to) is l) p (left-all others out₁ to₁)

module _ (table pool links : List ℕ) where
  abbrev n : ℕ
  n = row_count table

  abbrev parent : ℕ → ℕ
  parent e = word table e PARENT

  abbrev pub tree : ℕ → Content Qualified
  tree e = written_tree (nodes table pool) e

  abbrev start : ℕ → List ℕ
  start e = start_tag (qualified_name (node_at table pool e)) (written_attributes (nodes table pool) e)

  abbrev end : ℕ → List ℕ
  end e = end_tag (qualified_name (node_at table pool e))

  -- what follows the end tag of row e, as many elements outward
  unfoldable pub after : ℕ → ℕ → List (List ℕ)
  after zero e = []
  after (suc depth) e = pieces (items table pool n (parent e) (note_at links e (LATEST + 1))) ++ (end (parent e) ∷ after depth (parent e))

  -- what is left from a position in the content of row e on
  unfoldable pub rest : ℕ → ℕ → ℕ → List (List ℕ)
  rest depth e position = pieces (items table pool n e position) ++ (end e ∷ after depth e)

  -- what is left from the start tag of row e on
  abbrev pub opened : ℕ → ℕ → List (List ℕ)
  opened depth e = start e ∷ rest depth e (note_at links e LATEST)

  rest-last : (e position : ℕ) → position ≡ 0 → rest 0 e position ≡ end e ∷ []
  unfolding rest after pieces
  rest-last e position z = rw (none-items table pool n e position z) refl

  rest_out : (depth e position : ℕ) → position ≡ 0 → rest (suc depth) e position ≡ end e ∷ rest depth (parent e) (note_at links e (LATEST + 1))
  unfolding rest after pieces
  rest_out depth e position z = rw (none-items table pool n e position z) refl

  module _ (linked : Linked table links) (depth e : ℕ) (row : e < n) (position : ℕ) (h : 0 < position) (here : Here table pool links linked e row position) where
    inner : before position < n
    inner = let within : position ≤ n = here.within in omega arith

    rest_over : (next : ℕ) → next ≡ note_at links (before position) (LATEST + 1) → (word table (before position) TYPE ≡ ELEMENT → ⊥) → rest depth e position ≡ escaped false (node_at table pool (before position)).value.bytes ∷ rest depth e next
    unfolding rest pieces
    rest_over next link other =
        ap (λ c. pieces c ++ (end e ∷ after depth e)) (next-items table pool links linked e row position h here next link n)
        ∙ rw (node-nodes table pool (before position) inner, ne_eqb (word table (before position) TYPE) ELEMENT other) refl

    rest_in : word table (before position) TYPE ≡ ELEMENT → rest depth e position ≡ opened (suc depth) (before position)
    unfolding rest after pieces
    rest_in is =
        let r = before position in
        let first = note_at links r LATEST in
        let next = note_at links r (LATEST + 1) in
        let follows = end r ∷ pieces (items table pool n e next) in
        let outer = end e ∷ after depth e in
        let item : pieces (items table pool n e position) ≡ start r ∷ (pieces (content table pool n r) ++ follows) =
        ap pieces (next-items table pool links linked e row position h here next refl n)
        ∙ rw (node-nodes table pool r inner, eq-eqb (word table r TYPE) ELEMENT is) refl in
        ap (λ l. l ++ outer) item
        ∙ ap (λ l. start r ∷ l) (append_assoc (pieces (content table pool n r)) follows outer)
        ∙ ap (λ c. start r ∷ (pieces c ++ (follows ++ outer))) (content-items table pool links linked r inner first refl)
        ∙ ap (λ x. start r ∷ (pieces (items table pool n r first) ++ (end r ∷ (pieces (items table pool n x next) ++ (end x ∷ after depth x))))) (sym (parent_is table pool links linked e position (here.own h)))

  -- Row e stands in the content of its parent, and so outward.
  abbrev Under : ℕ → ℕ → Type 0
  Under zero e = Unit {0}
  Under (suc depth) e = (parent e < n) × (is_under false table (parent e) (e + 1) ≡ true) × Under depth (parent e)

  module _ (linked : Linked table links) where
    -- An element is deeper than its parent, and a later row.
    few-deep : (depth e : ℕ) → e < n → Under depth e → depth ≤ e
    few-deep zero e row under = omega arith
    few-deep (suc depth) e row under =
        let later = linked.later (parent e) (e + 1) under.0 (omega arith) (omega arith) under.1 in
        let outer = few-deep depth (parent e) under.0 under.2 in
        omega arith

    -- Row e is the next element to put.
    pub record Ready (all out₀ : List ℕ) (at : ℕ) (out : List ℕ) (to e depth : ℕ) : Type 0 where
      pub row : e < n
      pub under : Under depth e
      pub left : Left all out₀ at out to (opened depth e)

    tree-opened : (top : ℕ) → top < n → pieces (tree top) ≡ opened 0 top
    unfolding rest after pieces written_tree
    tree-opened top row =
        rw (length-nodes table pool, node-nodes table pool top row)
        (ap (λ c. start top ∷ (pieces c ++ (end top ∷ []))) (content-items table pool links linked top row (note_at links top LATEST) refl))

    pub ready-start : (top : ℕ) → top < n → (out : List ℕ) (at : ℕ) → Ready (markup (tree top)) out at out at top 0
    ready-start top row out at =
        let same : gathered whole (opened 0 top) ≡ markup (tree top) = ap (gathered whole) (sym (tree-opened top row)) ∙ pieces-markup (tree top) in
        record {
          row = row;
          under = tt;
          left = record { size = refl; more = λ {r} {out'} p. subst (λ l. Put out at l r out') same p };
        }

    pub ready-deep : {all out₀ : List ℕ} {at : ℕ} {out : List ℕ} {to e depth : ℕ} → Ready all out₀ at out to e depth → depth ≤ e
    ready-deep {all} {out₀} {at} {out} {to} {e} {depth} l = few-deep depth e l.row l.under

    -- A position in the content of row e comes next.
    pub record Inside (all out₀ : List ℕ) (at : ℕ) (out : List ℕ) (to e depth position : ℕ) : Type 0 where
      pub row : e < n
      pub under : Under depth e
      pub here : Here table pool links linked e row position
      pub left : Left all out₀ at out to (rest depth e position)

    -- Behind a start tag.
    module _ {all out₀ : List ℕ} {at : ℕ} {out : List ℕ} {to e depth : ℕ} (ready : Ready all out₀ at out to e depth) (first : ℕ) (head : first ≡ note_at links e LATEST) (k : ℕ) (same : k ≡ depth) where
      pub inside-start : (out₁ : List ℕ) (to₁ : ℕ) → Inside (gathered whole (rest k e first)) out₁ to₁ out₁ to₁ e k first
      inside-start out₁ to₁ =
          record {
            row = ready.row;
            under = rw same ready.under;
            here = here-first table pool links linked e ready.row first head;
            left = left-all (rest k e first) out₁ to₁;
          }

      pub rest-less : length (rest k e first) < length (opened depth e)
      rest-less = rw (same, head) (omega arith)

      -- What was left there is what is left of the whole.
      pub through : {out₁ out₂ : List ℕ} {to₁ to₂ : ℕ} {ahead : List (List ℕ)} → Put out to (start e) to₁ out₁ → Left (gathered whole (rest k e first)) out₁ to₁ out₂ to₂ ahead → Left all out₀ at out₂ to₂ ahead
      through {out₁} {out₂} {to₁} {to₂} {ahead} p l = left-through ready.left p (subst (λ m. Left (gathered whole m) out₁ to₁ out₂ to₂ ahead) (ap (λ d. rest d e first) same ∙ ap (rest depth e) head) l)

    module _ {all out₀ : List ℕ} {at : ℕ} {out : List ℕ} {to e depth position : ℕ} (l : Inside all out₀ at out to e depth position) where
      -- Out of an element.
      module _ (z : position ≡ 0) where
        pub inside-end : depth ≡ 0 → {out' : List ℕ} {to' : ℕ} → Put out to (end e) to' out' → Left all out₀ at out' to' []
        inside-end d p = left-next (end e) [] (ap (λ k. rest k e position) d ∙ rest-last e position z) l.left p

        module _ (d : depth ≡ 0 → ⊥) (next : ℕ) (link : next ≡ note_at links e (LATEST + 1)) (owner : ℕ) (is : owner ≡ parent e) where
          deeper : depth ≡ suc (depth - 1)
          deeper = omega arith

          out_step : rest depth e position ≡ end e ∷ rest (depth - 1) owner next
          out_step =
              ap (λ k. rest k e position) deeper ∙ rest_out (depth - 1) e position z
              ∙ ap (λ x. end e ∷ rest (depth - 1) x (note_at links e (LATEST + 1))) (sym is)
              ∙ ap (λ x. end e ∷ rest (depth - 1) owner x) (sym link)

          pub out-less : length (rest (depth - 1) owner next) < length (rest depth e position)
          out-less = rw out_step (omega arith)

          pub inside-out : {out' : List ℕ} {to' : ℕ} → Put out to (end e) to' out' → Inside all out₀ at out' to' owner (depth - 1) next
          inside-out p =
              let under = subst (λ k. Under k e) deeper l.under in
              let outer : owner < n = rw is under.0 in
              let place : e + 1 - 1 ≡ e = omega arith in
              let own : is_under false table owner (e + 1) ≡ true = ap (λ x. is_under false table x (e + 1)) is ∙ under.1 in
              let row : e < n = l.row in
              let back : Here table pool links linked owner outer (e + 1) = record { within = omega arith; own = λ h. own } in
              record {
                row = outer;
                under = rw is under.2;
                here = here-next table pool links linked owner outer (e + 1) (omega arith) back next (rw place link);
                left = left-next (end e) (rest (depth - 1) owner next) out_step l.left p;
              }

      module _ (h : 0 < position) {r : ℕ} (there : r ≡ before position) where
        pub inside-row : r < n
        inside-row = rw there (inner linked depth e l.row position h l.here)

        -- To an element.
        module _ (is : word table r TYPE ≡ ELEMENT) where
          pub in-same : rest depth e position ≡ opened (suc depth) r
          in-same = rest_in linked depth e l.row position h l.here (subst (λ x. word table x TYPE ≡ ELEMENT) there is) ∙ ap (λ x. opened (suc depth) x) (sym there)

          pub inside-in : Under (suc depth) r
          inside-in =
              let place : position ≡ r + 1 = omega arith in
              let owner : e ≡ parent r = sym (ap (λ x. parent x) there ∙ parent_is table pool links linked e position (l.here.own h)) in
              let own : is_under false table (parent r) (r + 1) ≡ true =
              ap (λ x. is_under false table x (r + 1)) (sym owner) ∙ ap (λ x. is_under false table e x) (sym place) ∙ l.here.own h in
              (subst (λ x. x < n) owner l.row, own, subst (λ x. Under depth x) owner l.under)

        -- Over a text.
        module _ (other : word table r TYPE ≡ ELEMENT → ⊥) (next : ℕ) (link : next ≡ note_at links r (LATEST + 1)) where
          link-there : next ≡ note_at links (before position) (LATEST + 1)
          link-there = link ∙ ap (λ x. note_at links x (LATEST + 1)) there

          over-step : rest depth e position ≡ escaped false (node_at table pool (before position)).value.bytes ∷ rest depth e next
          over-step = rest_over linked depth e l.row position h l.here next link-there (λ z. other (subst (λ x. word table x TYPE ≡ ELEMENT) (sym there) z))

          pub over-less : length (rest depth e next) < length (rest depth e position)
          over-less = rw over-step (omega arith)

          pub inside-over : {out' : List ℕ} {to' : ℕ} → Put out to (escaped false (node_at table pool r).value.bytes) to' out' → Inside all out₀ at out' to' e depth next
          inside-over {out'} {to'} p =
              record {
                row = l.row;
                under = l.under;
                here = here-next table pool links linked e l.row position h l.here next link-there;
                left =
                    left-next (escaped false (node_at table pool (before position)).value.bytes) (rest depth e next) over-step l.left
                    (subst (λ x. Put out to (escaped false (node_at table pool x).value.bytes) to' out') there p);
              }

    -- The element that is reached is the next to put.
    pub ready-next :
        {all out₀ : List ℕ} {at : ℕ} {out : List ℕ} {to e depth : ℕ} → e < n → (k : ℕ) → suc k ≡ depth → Under (suc k) e → {ahead : List (List ℕ)} → ahead ≡ opened (suc k) e → Left all out₀ at out to ahead
        → Ready all out₀ at out to e depth
    ready-next {all} {out₀} {at} {out} {to} {e} {depth} row k same under is l =
        record {
          row = row;
          under = subst (λ d. Under d e) same under;
          left = subst (Left all out₀ at out to) (is ∙ ap (λ d. opened d e) same) l;
        }

    pub ready-length : (e depth k : ℕ) → suc k ≡ depth → {ahead : List (List ℕ)} → ahead ≡ opened (suc k) e → length (opened depth e) ≡ length ahead
    ready-length e depth k same is = sym (ap length (is ∙ ap (λ d. opened d e) same))
