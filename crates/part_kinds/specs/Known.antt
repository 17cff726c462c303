-- What is known of a pool: its marks, and its ends of names.
use Rattle.std.specs.Prelude.{ℕ, ◌≤◌, Bool, List, length}
use Rattle.marks.specs.Marks as marked
use Rattle.ends.specs.Ends as ended

abbrev pub Marks : List ℕ → List ℕ → Type 0
Marks pool words = (marked.WORDS ≤ length words) × marked.Marked pool words

abbrev pub Ends : Bool → List ℕ → List ℕ → Type 0
Ends colons pool words = (ended.WORDS ≤ length words) × ended.Ended colons pool words
