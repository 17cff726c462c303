-- What an answer means, once its case is known.
-- Assumes nothing.
use mathlib.Core.Path.{◌≡◌, sym, ap}

pub told : {A B : Type 0} (meaning : A → B) {answer known : A} → answer ≡ known → meaning known ≡ meaning answer
told meaning e = sym (ap meaning e)
