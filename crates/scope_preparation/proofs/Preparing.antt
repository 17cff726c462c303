-- A scope that is ready, from what the functions leave.
-- Assumes nothing.
use Prim.Native.Nat.{ℕ, ◌+◌, ◌*◌, ◌≤◌, ◌<◌}
use mathlib.Core.Path.{◌≡◌, ap, ◌∙◌, subst}
use mathlib.Core.List.{List, [], ◌∷◌}
use mathlib.Core.Option.{none}
use native.Mathlib.Omega.{arith}
use lib.Dec.{eqb}
use lib.ListN.{length, set, length-set}
use lib.Seq.{get_or-set_same, get_or-set_other}
use Rattle.rules.specs.Table.{xml_prefix, row_count}
use Rattle.rules.specs.Refusals.{check_refusal, checked}
use Rattle.rules.proofs.Table.{length-nodes, node-nodes}
use Rattle.rules.proofs.Refusals.{verdict-accepted}
use Rattle.stacks.specs.Stacks.{BELOW, NUMBERED, under_at}
use Rattle.scopes.specs.Standing.{Linked, Relinked}
use Rattle.scopes.proofs.Changes.{standing-start}
use Rattle.declarations.specs.Meant.{Meant}
use Rattle.declarations.proofs.Meanings.{meant-relinked}
use Rattle.beginning.specs.Ground.{Ground}
use Rattle.unsettled.specs.Walkable.{Walkable, Prepared}
use Rattle.scope_preparation.specs.Arrays.{Cleared}

-- Where a lookup has begun, the check accepts the table.
pub accepted-ground : {table pool notes name : List ℕ} {r x : ℕ} → Ground table pool r notes x name → check_refusal table pool ≡ none
unfolding checked
accepted-ground {table} {pool} ground = verdict-accepted (check_refusal table pool) ground.meant.accepted

-- A lookup of xml has begun.
module _ {table pool notes tops path : List ℕ} {r x : ℕ} (lent : Cleared table tops path) (ground : Ground table pool r notes x (120 ∷ 109 ∷ 108 ∷ [])) where
  pub path_room : 4 ≤ length path
  path_room = omega (arith, lent.placed ground.unlinked.few)

  xml-meant : Meant table pool notes x xml_prefix
  unfolding xml_prefix
  xml-meant = ground.meant

  -- The number of xml is stored, and the declarations are linked.
  module _ {path' : List ℕ} (is : path' ≡ set path (4 * 0 + NUMBERED) x) {linked : List ℕ} (size : length linked ≡ length notes) (links : Linked table linked (row_count table)) (kept : Relinked notes linked) where
    walkable : Walkable table pool linked tops path'
    walkable =
        let m = meant-relinked linked xml-meant kept in
        let number : under_at path' NUMBERED 0 ≡ x = ap (λ (l : List ℕ). under_at l NUMBERED 0) is ∙ get_or-set_same path (4 * 0 + NUMBERED) x 0 (omega (arith, path_room)) in
        let same : length path' ≡ length path = ap length is ∙ length-set path (4 * 0 + NUMBERED) x in
        record {
          accepted = accepted-ground ground;
          spelling = m.spelling;
          names = m.last;
          spelled = m.numbered.spelled;
          numbered = λ r within.
              let below : r < row_count table = subst (λ (k : ℕ). r < k) (length-nodes table pool) within in
              rw (node-nodes table pool r below) (m.numbered.rows r below);
          xml = λ n bytes named. ap (eqb n) number ∙ m.asked n bytes named;
          topped = omega (arith, m.few, lent.topped ground.unlinked.few);
          noted = rw size ground.unlinked.noted;
          placed = rw same (lent.placed ground.unlinked.few);
          linked = links;
        }

    pub prepared : Prepared table pool linked tops path'
    prepared =
        let unpushed = ap (λ (l : List ℕ). under_at l BELOW 0) is ∙ get_or-set_other path (4 * 0 + NUMBERED) (4 * 0 + BELOW) x 0 (λ z. omega arith) ∙ lent.unplaced (4 * 0 + BELOW) in
        record { walkable = walkable; standing = standing-start table linked tops path' lent.unstacked unpushed }
