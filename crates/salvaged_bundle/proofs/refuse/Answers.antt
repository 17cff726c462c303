-- `salvaged_bundle::refuse` meets its contract.
use mathlib.Core.Path.{refl}
use Rattle.salvage.specs.Salvage.{rescue_refused}
use Rattle.salvaged_bundle.proofs.Rescue.{all-zero}
use Rattle.salvaged_bundle.proofs.refuse.Goals as goal

pub returns : goal.returns
unfolding rescue_refused
returns c =
    record { value = refl; out_after = all-zero c.args.out.now c.clear_bytes.ensures; list_after = all-zero c.args.list.now c.clear_words.ensures }
