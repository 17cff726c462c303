-- What the numbers of names stand for, and the declarations of a scope by numbers.
use Rattle.std.specs.Prelude.{ℕ, ◌+◌, ◌≤◌, ◌<◌, cond, true, false, List, map, ◌≡◌, eqb, length}
use Rattle.std.proofs.Math.Option.{Option, none, some}
use Rattle.rules.specs.Lists.{all_of}
use Rattle.rules.specs.Table.{MOST_ROWS, DECLARATION, Node, nodes, node, row_count, is_element}
use Rattle.rules.specs.Refusals.{bad_declaration}
use Rattle.rules.proofs.Passable.{is_passable}
use Rattle.numbers.specs.Numbers.{Names, Spelling}
use Rattle.numbers.specs.Noted.{NodeNumbered}
use Rattle.stacks.specs.Scopes.{Alike, Each}
use Rattle.scopes.specs.Rows.{Tree}
use Rattle.scopes.specs.Standing.{Standing}

-- Position d is that of a declaration which the check accepts, and its numbers stand for the prefix and the value that it
-- declares.
pub record Declares (spelling : ℕ → List ℕ) (names : ℕ) (pre val : ℕ → ℕ) (row : ℕ → Node) (d : ℕ) : Type 0 where
  pub some : d ≡ 0 → ⊥
  pub kind : (row d).type ≡ DECLARATION
  pub legal : bad_declaration (row d) ≡ false
  pub prefix : Names spelling names (pre d) (row d).local.bytes
  pub value : Names spelling names (val d) (row d).value.bytes

-- The stack answers for the scope S, whose declarations have numbers.
pub record Here (spelling : ℕ → List ℕ) (names : ℕ) (pre val : ℕ → ℕ) (row : ℕ → Node) (stack : List ℕ) (S : List Node) : Type 0 where
  pub spells : Spelling spelling names
  pub scope : List ℕ
  pub alike : Alike pre val stack scope
  pub each : Each (Declares spelling names pre val row) scope
  pub rows : map row scope ≡ S

-- The row at a position; none at 0.
abbrev pub row_at : (ℕ → Node) → ℕ → Option Node
row_at row d = cond (eqb d 0) none (some (row d))

-- The number of a position; 0 at 0.
abbrev pub number_at : (ℕ → ℕ) → ℕ → ℕ
number_at key d = cond (eqb d 0) 0 (key d)

-- The arrays stand at element e of these rows, whose names have numbers. (proofs/Held.antt: then they answer for what is in scope
-- there.)
pub record Scoped (table notes tops path : List ℕ) (ns : List Node) (spelling : ℕ → List ℕ) (names e : ℕ) : Type 0 where
  pub pool : List ℕ
  pub rows : nodes table pool ≡ ns
  pub small : row_count table ≤ MOST_ROWS
  pub tree : Tree ns
  pub passable : all_of is_passable ns ≡ true
  pub within : e < row_count table
  pub kind : is_element (node ns e).type ≡ true
  pub spelled : Spelling spelling names
  pub numbered : (r : ℕ) → r < length ns → NodeNumbered notes spelling names r (node ns r)
  pub standing : Standing table notes tops path (e + 1)
