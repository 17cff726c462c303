-- `is_known` meets its contract.
use Rattle.pairs.proofs.is_known.Goals as goal

pub returns : goal.returns
returns c = rw (c.pair_word.ensures, c.pair_word-2.ensures, c.pair_word-3.ensures)
