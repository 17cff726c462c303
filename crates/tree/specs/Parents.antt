-- The rules' table of allowed parents, asked as the code's table is asked.
use Rattle.std.specs.Prelude.{ℕ, ◌+◌, ◌/◌, ◌^◌, ◌≡◌, Bool, true, false, cond, List, eqb, leb, length, get_or}
use Rattle.std.specs.Bool.{beq}
use Rattle.std.proofs.Math.Option.{Option, none, some}
use Rattle.std.specs.Int.Bits.{bit_and}
use Rattle.rules.specs.Lists.{all_of, numbers_from, is_one_of}
use Rattle.rules.specs.Table.{ELEMENT, ATTRIBUTE, DECLARATION, LEVEL1_ELEMENT, LEVEL1_ATTRIBUTE, ParentRule}
use Rattle.rules.specs.Refusals.{parent_rule}

-- The line of a type: its number, 257 and 258 standing with 1 and 2; line 0 for every unknown type.
unfoldable pub line_of : ℕ → ℕ
line_of type = cond (leb type DECLARATION) type (cond (eqb type LEVEL1_ELEMENT) ELEMENT (cond (eqb type LEVEL1_ATTRIBUTE) ATTRIBUTE 0))

-- In place of the line of a parent: there is none.
abbrev pub NOTHING : ℕ
NOTHING = DECLARATION + 1

-- The rule lets a row stand under a row of the line above, or under nothing.
unfoldable pub rule_allows : Option ParentRule → ℕ → Bool
rule_allows none above = false
rule_allows (some rule) above = cond (eqb above NOTHING) rule.alone (is_one_of rule.parents above)

-- A bit of a line.
abbrev pub bit : ℕ → ℕ → Bool
bit line above = eqb (bit_and (line / 2 ^ above) 1) 1

-- The table has a line for each type up to 13, and each of its bits is what the rule of the type says.
pub record Right (table : List ℕ) : Type 0 where
  pub size : length table ≡ NOTHING
  pub bits : all_of (λ type. all_of (λ above. beq (bit (get_or table type 0) above) (rule_allows (parent_rule type) above)) (numbers_from 0 (NOTHING + 1))) (numbers_from 0 NOTHING) ≡ true
