-- What a row draws for its names: 14 of its fields in word order, then 4 and 5.
-- Assumes nothing.
use Rattle.std.specs.Prelude.{Result, Ok, Err, ⊤}
use Prim.Native.Nat.{ℕ}
use mathlib.Core.Path.{◌≡◌, refl, sym, ◌∙◌}
use mathlib.Core.Bool.{Bool, true, false, not}
use mathlib.Core.Option.{none}
use Rattle.rules.specs.Table.{PREFIX, LOCAL_NAME, URI, VALUE, Node}
use Rattle.rules.specs.Utf8.{well_formed}
use Rattle.rules.specs.Refusals.{verdict, encodings_refusal, bad_names, bad_namespace}
use Rattle.rules.specs.declared.Refusal.{Refusal}
use Rattle.rules.proofs.Refusals.{verdict-accepted, verdict-refused}
use Rattle.row_names.specs.RowNames.{GoodNames}
use Rattle.name_refusals.specs.NameRefusals.{names_refusal}

-- 14, of the fields in word order
module _ (r : ℕ) (n : Node) where
  pub encoding-prefix : well_formed n.prefix.bytes ≡ false → Err (Refusal.MalformedUtf8 (record { 0 = r }) PREFIX) ≡ verdict (encodings_refusal r n)
  unfolding encodings_refusal
  encoding-prefix e = rw e

  module _ (p : well_formed n.prefix.bytes ≡ true) where
    pub encoding-local : well_formed n.local.bytes ≡ false → Err (Refusal.MalformedUtf8 (record { 0 = r }) LOCAL_NAME) ≡ verdict (encodings_refusal r n)
    unfolding encodings_refusal
    encoding-local e = rw (p, e)

    module _ (l : well_formed n.local.bytes ≡ true) where
      pub encoding-uri : well_formed n.uri.bytes ≡ false → Err (Refusal.MalformedUtf8 (record { 0 = r }) URI) ≡ verdict (encodings_refusal r n)
      unfolding encodings_refusal
      encoding-uri e = rw (p, l, e)

      module _ (u : well_formed n.uri.bytes ≡ true) {bad : Bool} (b : bad ≡ not (well_formed n.value.bytes)) where
        pub encoding-value : bad ≡ true → Err (Refusal.MalformedUtf8 (record { 0 = r }) VALUE) ≡ verdict (encodings_refusal r n)
        unfolding encodings_refusal
        encoding-value e = rw (p, l, u, ← b, e)

        pub encoding-passed : bad ≡ false → (Ok tt) ≡ verdict (encodings_refusal r n)
        unfolding encodings_refusal
        encoding-passed e = rw (p, l, u, ← b, e)

-- What a row draws for its names, one after the other.
module _ (r : ℕ) (n : Node) {drawn : Result ⊤ Refusal} (d : drawn ≡ verdict (encodings_refusal r n)) where
  pub refused-encoding : (x : Refusal) → drawn ≡ Err x → drawn ≡ verdict (names_refusal r n)
  refused-encoding x e = let u = verdict-refused (encodings_refusal r n) x (sym d ∙ e) in rw u e

  module _ (a : drawn ≡ Ok tt) where
    pub passed-encoding : encodings_refusal r n ≡ none
    passed-encoding = verdict-accepted (encodings_refusal r n) (sym d ∙ a)

    pub refused-names : bad_names n ≡ true → Err (Refusal.Names (record { 0 = r })) ≡ verdict (names_refusal r n)
    refused-names b = rw (passed-encoding, b)

    module _ (b : bad_names n ≡ false) where
      pub refused-namespace : bad_namespace n ≡ true → Err (Refusal.Namespace (record { 0 = r })) ≡ verdict (names_refusal r n)
      refused-namespace s = rw (passed-encoding, b, s)

      pub refused_none : bad_namespace n ≡ false → (Ok tt) ≡ verdict (names_refusal r n)
      refused_none s = rw (passed-encoding, b, s)

-- Of a row of good names only the value can draw a refusal.
module _ (r : ℕ) (n : Node) (g : GoodNames n) {bad : Bool} (b : bad ≡ not (well_formed n.value.bytes)) where
  pub good-refused : bad ≡ true → Err (Refusal.MalformedUtf8 (record { 0 = r }) VALUE) ≡ verdict (names_refusal r n)
  good-refused e = refused-encoding r n (encoding-value r n g.prefix g.local g.uri b e) _ refl

  pub good-passed : bad ≡ false → (Ok tt) ≡ verdict (names_refusal r n)
  good-passed e =
      let d = encoding-passed r n g.prefix g.local g.uri b e in
      refused_none r n d refl (g.names r (passed-encoding r n d refl)) g.namespace
