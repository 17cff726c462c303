-- What a long name is: none of the built-in ones, so that three tests are left.
-- Assumes nothing.
use Prim.Native.Nat.{ℕ, ◌-◌, ◌≤◌, ◌<◌}
use mathlib.Core.Path.{◌≡◌, ap, ◌∙◌}
use mathlib.Core.Bool.{true, false}
use mathlib.Core.List.{List}
use native.Mathlib.Omega.{arith}
use borrow.Author.Tests.{ne_eqb}
use lib.ListN.{length, length-take, length-drop}
use Rattle.rules.specs.Lists.{is_empty, same_bytes}
use Rattle.rules.specs.Table.{xml_prefix, xmlns_prefix, xml_uri, xmlns_uri}
use Rattle.rules.specs.Utf8.{well_formed}
use Rattle.rules.specs.Refusals.{good_name}
use Rattle.rules.proofs.Lists.{length-empty, unequal-same_bytes}
use Rattle.marks.specs.Marks.{between}
use Rattle.kinds.specs.Kinds.{GOOD, GOOD_WITH_COLONS, OTHER, MALFORMED, kind_of}

pub between-long : (pool : List ℕ) (start end : ℕ) → start ≤ end → end ≤ length pool → length (between pool start end) ≡ end - start
between-long pool start end h l = rw (length-take, length-drop) (omega arith)

module _ (name : List ℕ) (long : 256 < length name) where
  full : is_empty name ≡ false
  full = length-empty name ∙ ne_eqb (length name) 0 (λ e. omega arith)

  other : (word : List ℕ) → length word ≤ 256 → same_bytes name word ≡ false
  other word h = unequal-same_bytes name word (λ e. let same = ap length e in omega arith)

  not-xml : same_bytes name xml_prefix ≡ false
  unfolding xml_prefix
  not-xml = other xml_prefix (omega arith)

  not-xmlns : same_bytes name xmlns_prefix ≡ false
  unfolding xmlns_prefix
  not-xmlns = other xmlns_prefix (omega arith)

  not-xml-uri : same_bytes name xml_uri ≡ false
  unfolding xml_uri
  not-xml-uri = other xml_uri (omega arith)

  not-xmlns-uri : same_bytes name xmlns_uri ≡ false
  unfolding xmlns_uri
  not-xmlns-uri = other xmlns_uri (omega arith)

  pub long-malformed : well_formed name ≡ false → MALFORMED ≡ kind_of name
  unfolding kind_of
  long-malformed w = rw (full, w)

  module _ (w : well_formed name ≡ true) where
    pub long-good : good_name false name ≡ true → GOOD ≡ kind_of name
    unfolding kind_of
    long-good g = rw (full, w, not-xml, not-xmlns, g)

    module _ (g : good_name false name ≡ false) where
      pub long-colons : good_name true name ≡ true → GOOD_WITH_COLONS ≡ kind_of name
      unfolding kind_of
      long-colons k = rw (full, w, not-xml, not-xmlns, g, k)

      pub long-other : good_name true name ≡ false → OTHER ≡ kind_of name
      unfolding kind_of
      long-other k = rw (full, w, not-xml, not-xmlns, g, k, not-xml-uri, not-xmlns-uri)
