-- What the numbers of a row say of its names.
-- Assumes nothing.
use Prim.Native.Nat.{ℕ, ◌<◌, zero-le}
use mathlib.Core.List.{List, [], ◌∷◌}
use mathlib.Core.Path.{◌≡◌, refl, ap, ◌∙◌, subst}
use native.Mathlib.Omega.{arith}
use lib.Dec.{eqb}
use borrow.Author.Tests.{eq-eqb}
use lib.ListN.{length}
use Rattle.rules.specs.Lists.{is_one_of, is_empty}
use Rattle.rules.specs.Table.{ELEMENT, ATTRIBUTE, DECLARATION, Node, nodes, node_at, row_count}
use Rattle.rules.proofs.Lists.{same_bytes-empty}
use Rattle.rules.proofs.Table.{node-nodes, length-nodes}
use Rattle.rules.proofs.Declarations.{Legal}
use Rattle.rules.proofs.Accepted.{accepted, NamespaceAccepted, namespace-accepted, declaration-accepted}
use Rattle.notes.specs.Notes.{PREFIX, LOCAL_NAME, URI, VALUE, note_at}
use Rattle.numbers.specs.Numbers.{Names}
use Rattle.numbers.proofs.Laws.{same_number}
use Rattle.scopes.specs.Rows.{Tree}
use Rattle.scopes.specs.Standing.{Relinked}
use Rattle.scopes.proofs.Definitions.{tree-accepted}
use Rattle.declarations.specs.Meant.{Meant}

module _ {table pool notes : List ℕ} {number : ℕ} {name : List ℕ} (m : Meant table pool notes number name) where
  pub tree : Tree (nodes table pool)
  tree = tree-accepted table pool (accepted table pool m.accepted)

  -- The empty name.
  pub none-names : Names m.spelling m.last 0 []
  none-names = record { known = zero-le; spelled = m.numbered.spelled.empty }

  pub empty-number : {n : ℕ} {bytes : List ℕ} → Names m.spelling m.last n bytes → eqb n 0 ≡ is_empty bytes
  empty-number {n} {bytes} names = same_number m.numbered.spelled names none-names ∙ same_bytes-empty bytes

  -- A name that has a number is meant by it.
  pub meant-too : {n : ℕ} {bytes : List ℕ} → Names m.spelling m.last n bytes → Meant table pool notes n bytes
  meant-too names =
      record {
        accepted = m.accepted;
        spelling = m.spelling;
        last = m.last;
        few = m.few;
        numbered = m.numbered;
        asked = λ k bytes other. same_number m.numbered.spelled other names;
      }

  module _ (r : ℕ) (within : r < row_count table) where
    pub prefix-names : Names m.spelling m.last (note_at notes r PREFIX) (node_at table pool r).prefix.bytes
    prefix-names = (m.numbered.rows r within).prefix

    pub local-names : Names m.spelling m.last (note_at notes r LOCAL_NAME) (node_at table pool r).local.bytes
    local-names = (m.numbered.rows r within).local

    pub uri-names : Names m.spelling m.last (note_at notes r URI) (node_at table pool r).uri.bytes
    uri-names = (m.numbered.rows r within).uri

    pub value-names : (node_at table pool r).type ≡ DECLARATION → Names m.spelling m.last (note_at notes r VALUE) (node_at table pool r).value.bytes
    value-names type = let v = (m.numbered.rows r within).value in rw (eq-eqb (node_at table pool r).type DECLARATION type) at v

    -- What the check leaves of a declaration, and of an element's name.
    pub declared-legal : (node_at table pool r).type ≡ DECLARATION → Legal (node_at table pool r)
    declared-legal type =
        let row = node-nodes table pool r within in
        subst Legal row (declaration-accepted (nodes table pool) (length pool) r ((accepted table pool m.accepted).row r (rw length-nodes within)) (ap (λ (n : Node). n.type) row ∙ type))

    pub named-legal : (node_at table pool r).type ≡ ELEMENT → NamespaceAccepted (node_at table pool r)
    named-legal type =
        let row = node-nodes table pool r within in
        subst NamespaceAccepted row (namespace-accepted (nodes table pool) (length pool) r ((accepted table pool m.accepted).row r (rw length-nodes within)) (ap (λ (n : Node). is_one_of (ELEMENT ∷ ATTRIBUTE ∷ []) n.type) row ∙ rw type refl))

-- Links are no names.
pub meant-relinked : {table pool notes : List ℕ} (notes' : List ℕ) {number : ℕ} {name : List ℕ} → Meant table pool notes number name → Relinked notes notes' → Meant table pool notes' number name
meant-relinked notes' m same =
    record {
      accepted = m.accepted;
      spelling = m.spelling;
      last = m.last;
      few = m.few;
      numbered =
          record {
            spelled = m.numbered.spelled;
            rows = λ r within.
                let n = m.numbered.rows r within in
                record {
                  prefix = rw (same r PREFIX (omega arith) (λ e. absurd (omega arith)) (λ e. absurd (omega arith))) n.prefix;
                  local = rw (same r LOCAL_NAME (omega arith) (λ e. absurd (omega arith)) (λ e. absurd (omega arith))) n.local;
                  uri = rw (same r URI (omega arith) (λ e. absurd (omega arith)) (λ e. absurd (omega arith))) n.uri;
                  value = rw (same r VALUE (omega arith) (λ e. absurd (omega arith)) (λ e. absurd (omega arith))) n.value;
                };
          };
      asked = m.asked;
    }
