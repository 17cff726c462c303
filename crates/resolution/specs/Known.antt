-- What is remembered: that a prefix stands for a URI at a position.
use Rattle.std.specs.Prelude.{ℕ, ◌≤◌, ◌≡◌, true, ◌||◌, List, eqb, length}
use Rattle.stacks.specs.Stacks.{PREFIXES, NUMBERED, top_at, under_at, value_at}
use Rattle.scopes.specs.Standing.{Standing}
use Rattle.bindings.specs.Spelled.{number_at}
use Rattle.name_slots.specs.Slots.{WORDS, NEAR, DECLARED, STANDS, known_at}

-- Some arrays of these lengths, with this number of xml, stand at position n, and say that prefix p stands for URI u.
pub record Settled (table notes : List ℕ) (tops_length path_length xml n p u : ℕ) : Type 0 where
  pub tops : List ℕ
  pub path : List ℕ
  pub tops_size : length tops ≡ tops_length
  pub path_size : length path ≡ path_length
  pub number : under_at path NUMBERED 0 ≡ xml
  pub standing : Standing table notes tops path n
  pub agrees : (eqb (number_at (value_at notes) (top_at tops PREFIXES p)) u || eqb p (under_at path NUMBERED 0)) ≡ true

-- So it is with each slot.
pub record Known (table notes known : List ℕ) (tops_length path_length xml : ℕ) : Type 0 where
  pub words : WORDS ≤ length known
  pub settled : (s : ℕ) → Settled table notes tops_length path_length xml (known_at known s NEAR) (known_at known s DECLARED) (known_at known s STANDS)
