-- The list of the rows that are dropped, by the fates of all.
use Rattle.std.specs.Prelude.{ℕ, zero, suc, cond, List, [], ◌∷◌, ◌++◌, eqb, get_or}

-- the words of those of the rows below r that are dropped: a row's number, and its fate
unfoldable pub dropped_words : List ℕ → ℕ → List ℕ
dropped_words fates zero = []
dropped_words fates (suc r) =
    let before = dropped_words fates r in
    cond (eqb (get_or fates r 0) 0) before ((before ++ r ∷ []) ++ get_or fates r 0 ∷ [])
