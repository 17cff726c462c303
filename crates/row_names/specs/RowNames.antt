-- The names of a row: what they are, and that they draw no refusal.
use Rattle.std.specs.Prelude.{ℕ, ◌≡◌, true, false}
use Rattle.std.proofs.Math.Option.{none}
use Rattle.rules.specs.Table.{Node}
use Rattle.rules.specs.Utf8.{well_formed}
use Rattle.rules.specs.Refusals.{encodings_refusal, bad_names, bad_namespace}
use Rattle.numbers.specs.Noted.{declared_uri}
use Rattle.kinds.specs.Kinds.{kind_of}
use Rattle.row_names.specs.declared.Kinds.{Kinds}

-- what the names of a row are
unfoldable pub kinds_of : Node → Kinds
kinds_of n =
    record {
      prefix = kind_of n.prefix.bytes;
      local = kind_of n.local.bytes;
      uri = kind_of n.uri.bytes;
      value = kind_of (declared_uri n);
    }

-- The names of a row draw none of 14, 4 and 5.
pub record GoodNames (n : Node) : Type 0 where
  pub prefix : well_formed n.prefix.bytes ≡ true
  pub local : well_formed n.local.bytes ≡ true
  pub uri : well_formed n.uri.bytes ≡ true
  pub names : (r : ℕ) → encodings_refusal r n ≡ none → bad_names n ≡ false
  pub namespace : bad_namespace n ≡ false
