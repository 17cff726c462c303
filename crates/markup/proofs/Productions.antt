-- What each production finds in what the writer writes for it.
-- Assumes nothing.
use Prim.Native.Nat.{ℕ, zero, suc, ◌≤◌, ◌<◌}
use mathlib.Core.Path.{◌≡◌, refl, ◌∙◌, ap}
use mathlib.Core.Bool.{Bool, true, false}
use mathlib.Core.List.{List, [], ◌∷◌, ◌++◌, append_assoc}
use mathlib.Core.Option.{some}
use native.Mathlib.Omega.{arith}
use lib.ListN.{length, length-append}
use lib.Dec.{eqb}
use Rattle.rules.specs.Lists.{all_of, gathered, is_empty}
use Rattle.rules.specs.Refusals.{is_first_byte, is_name_byte, good_name}
use Rattle.rules.proofs.Lists.{both_true, true-both, either_left, same_bytes-refl}
use Rattle.escapes.specs.Escapes.{escaped}
use Rattle.markup.specs.Trees.{Content, element, Qualified}
use Rattle.markup.specs.Markup.{name_markup, attribute_markup, start_tag, end_tag}
use Rattle.markup.specs.Reader.{Found, and_then, past, front, behind, nc_name, q_name_behind, q_name, is_legal, not_quote, att_value, attribute, attributes_behind, attributes, s_tag, e_tag, element_by}
use Rattle.markup.proofs.Values.{value_read, quote-ends}

-- Bytes that pass a test, up to one that does not.
abbrev pub stops : (ℕ → Bool) → List ℕ → Type 0
stops test [] = Unit {0}
stops test (b ∷ bs) = test b ≡ false

module _ (test : ℕ → Bool) (rest : List ℕ) (s : stops test rest) where
  front_rest : (l : List ℕ) → stops test l → front test l ≡ []
  front_rest [] k = refl
  front_rest (b ∷ bs) k = rw k refl

  behind-rest : (l : List ℕ) → stops test l → behind test l ≡ l
  behind-rest [] k = refl
  behind-rest (b ∷ bs) k = rw k refl

  pub front-is : (l : List ℕ) → all_of test l ≡ true → front test (l ++ rest) ≡ l
  front-is [] h = front_rest rest s
  front-is (b ∷ bs) h =
      let k = both_true (test b) (all_of test bs) h in
      rw (k.0, front-is bs k.1) refl

  pub behind-is : (l : List ℕ) → all_of test l ≡ true → behind test (l ++ rest) ≡ rest
  behind-is [] h = behind-rest rest s
  behind-is (b ∷ bs) h =
      let k = both_true (test b) (all_of test bs) h in
      rw (k.0, behind-is bs k.1) refl

-- A name that can be written.
pub record Good (n : Qualified) : Type 0 where
  pub prefix : good_name false n.prefix ≡ true
  pub local : good_name false n.local ≡ true
  pub full : is_empty n.local ≡ false

-- A good name is of name bytes.
pub good-bytes : (l : List ℕ) → good_name false l ≡ true → all_of (is_name_byte false) l ≡ true
unfolding good_name
good-bytes [] h = refl
good-bytes (b ∷ bs) h =
    let k = both_true (is_first_byte false b) (all_of (is_name_byte false) bs) h in
    true-both (either_left _ k.0) k.1

-- A byte behind a name: it is no name byte, and no colon.
pub record Ends (b : ℕ) : Type 0 where
  pub not_name : is_name_byte false b ≡ false
  pub not_colon : eqb b 58 ≡ false

module _ (name : List ℕ) (good : good_name false name ≡ true) (full : is_empty name ≡ false) (b : ℕ) (stop : is_name_byte false b ≡ false) (rest : List ℕ) where
  nc-read : nc_name (name ++ b ∷ rest) ≡ some (name, b ∷ rest)
  unfolding nc_name
  nc-read =
      rw (front-is (is_name_byte false) (b ∷ rest) stop name (good-bytes name good), behind-is (is_name_byte false) (b ∷ rest) stop name (good-bytes name good), full, good) refl

module _ (b : ℕ) (ends : Ends b) (rest : List ℕ) where
  prefixed-read : (prefix local : List ℕ) → Good (record { prefix = prefix; local = local }) → is_empty prefix ≡ false → q_name ((prefix ++ 58 ∷ local) ++ b ∷ rest) ≡ some (record { prefix = prefix; local = local }, b ∷ rest)
  unfolding q_name
  prefixed-read prefix local g f =
      ap (λ (l : List ℕ). and_then (nc_name l) (λ (first : List ℕ × List ℕ). q_name_behind first (past 58 first.1))) (append_assoc prefix (58 ∷ local) (b ∷ rest))
      ∙ rw (nc-read prefix g.prefix f 58 refl (local ++ b ∷ rest), nc-read local g.local g.full b ends.not_name rest) refl

  unprefixed-read : (local : List ℕ) → Good (record { prefix = []; local = local }) → q_name (local ++ b ∷ rest) ≡ some (record { prefix = []; local = local }, b ∷ rest)
  unfolding q_name
  unprefixed-read local g = rw (nc-read local g.local g.full b ends.not_name rest, ends.not_colon) refl

  name-read : (prefix local : List ℕ) → Good (record { prefix = prefix; local = local }) → q_name (name_markup (record { prefix = prefix; local = local }) ++ b ∷ rest) ≡ some (record { prefix = prefix; local = local }, b ∷ rest)
  unfolding name_markup
  name-read [] local g = unprefixed-read local g
  name-read (p ∷ ps) local g = prefixed-read (p ∷ ps) local g refl

-- A name, and what can stand behind it.
abbrev pub EndsName : List ℕ → Type 0
EndsName [] = ⊥
EndsName (b ∷ bs) = Ends b

pub q-name-read : (n : Qualified) → Good n → (rest : List ℕ) → EndsName rest → q_name (name_markup n ++ rest) ≡ some (n, rest)
q-name-read n g [] e = absurd e
q-name-read n g (b ∷ bs) e = name-read b e bs n.prefix n.local g

space-ends : Ends 32
space-ends = record { not_name = refl; not_colon = refl }

equals-ends : Ends 61
equals-ends = record { not_name = refl; not_colon = refl }

greater-ends : Ends 62
greater-ends = record { not_name = refl; not_colon = refl }

-- Attributes with good names and legal values.
pub record GoodAttribute (a : Qualified × List ℕ) : Type 0 where
  pub name : Good a.0
  pub value : is_legal a.1 ≡ true

abbrev pub AllGood : List (Qualified × List ℕ) → Type 0
AllGood [] = Unit {0}
AllGood (a ∷ owned) = GoodAttribute a × AllGood owned

module _ (value : List ℕ) (legal : is_legal value ≡ true) (rest : List ℕ) where
  value-ends : att_value (34 ∷ (escaped true value ++ 34 ∷ rest)) ≡ some (value, rest)
  unfolding att_value
  value-ends =
      rw (front-is not_quote (34 ∷ rest) refl (escaped true value) (quote-ends true value), behind-is not_quote (34 ∷ rest) refl (escaped true value) (quote-ends true value), value_read true value legal) refl

module _ (a : Qualified × List ℕ) (g : GoodAttribute a) (rest : List ℕ) where
  attribute-layout : attribute_markup a ++ rest ≡ 32 ∷ (name_markup a.0 ++ 61 ∷ 34 ∷ (escaped true a.1 ++ 34 ∷ rest))
  unfolding attribute_markup
  attribute-layout = simp append_assoc

  attribute-read : attribute (name_markup a.0 ++ 61 ∷ 34 ∷ (escaped true a.1 ++ 34 ∷ rest)) ≡ some (a, rest)
  unfolding attribute
  attribute-read =
      rw (q-name-read a.0 g.name (61 ∷ 34 ∷ (escaped true a.1 ++ 34 ∷ rest)) equals-ends, value-ends a.1 g.value rest) refl

pub attributes-read : (owned : List (Qualified × List ℕ)) → AllGood owned → (steps : ℕ) → length owned < steps → (rest : List ℕ) → attributes steps (gathered attribute_markup owned ++ 62 ∷ rest) ≡ some (owned, 62 ∷ rest)
unfolding attributes
attributes-read [] g zero h rest = absurd (omega arith)
attributes-read [] g (suc steps) h rest = refl
attributes-read (a ∷ owned) g zero h rest = absurd (omega arith)
attributes-read (a ∷ owned) g (suc steps) h rest =
    let more = gathered attribute_markup owned ++ 62 ∷ rest in
    let layout : (attribute_markup a ++ gathered attribute_markup owned) ++ 62 ∷ rest ≡ 32 ∷ (name_markup a.0 ++ 61 ∷ 34 ∷ (escaped true a.1 ++ 34 ∷ more)) =
    append_assoc (attribute_markup a) (gathered attribute_markup owned) (62 ∷ rest) ∙ attribute-layout a g.0 more in
    ap (λ (l : List ℕ). attributes_behind (attributes steps) l (past 32 l)) layout
    ∙ rw (attribute-read a g.0 more, attributes-read owned g.1 steps (omega arith) rest) refl

-- The name of a start tag ends where its attributes start, or at >.
attributes-end : (owned : List (Qualified × List ℕ)) → AllGood owned → (rest : List ℕ) → EndsName (gathered attribute_markup owned ++ 62 ∷ rest)
attributes-end [] g rest = greater-ends
attributes-end (a ∷ owned) g rest =
    rw (append_assoc (attribute_markup a) (gathered attribute_markup owned) (62 ∷ rest), attribute-layout a g.0 (gathered attribute_markup owned ++ 62 ∷ rest)) space-ends

attributes-long : (owned : List (Qualified × List ℕ)) → length owned ≤ length (gathered attribute_markup owned)
unfolding attribute_markup
attributes-long [] = omega arith
attributes-long (a ∷ owned) = simp length-append (omega (arith, attributes-long owned))

module _ (n : Qualified) (g : Good n) (rest : List ℕ) where
  module _ (owned : List (Qualified × List ℕ)) (h : AllGood owned) where
    pub start-layout : start_tag n owned ++ rest ≡ 60 ∷ (name_markup n ++ (gathered attribute_markup owned ++ 62 ∷ rest))
    unfolding start_tag
    start-layout = simp append_assoc

    pub start-read : s_tag (start_tag n owned ++ rest) ≡ some ((n, owned), rest)
    unfolding s_tag
    start-read =
        let more = gathered attribute_markup owned ++ 62 ∷ rest in
        let enough : length owned < suc (length more) = simp length-append (omega (arith, attributes-long owned)) in
        rw (start-layout, q-name-read n g more (attributes-end owned h rest), attributes-read owned h (suc (length more)) enough rest) refl

  pub end-layout : end_tag n ++ rest ≡ 60 ∷ 47 ∷ (name_markup n ++ 62 ∷ rest)
  unfolding end_tag
  end-layout = simp append_assoc

  pub end_read : e_tag n (end_tag n ++ rest) ≡ some rest
  unfolding e_tag
  end_read =
      rw (end-layout, q-name-read n g (62 ∷ rest) greater-ends, same_bytes-refl n.prefix, same_bytes-refl n.local) refl

-- An element whose content is read.
pub element-read :
    (content : List ℕ → Found (Content Qualified)) (n : Qualified) → Good n → (owned : List (Qualified × List ℕ)) → AllGood owned → (inside rest : List ℕ) (found : Content Qualified)
    → content (inside ++ (end_tag n ++ rest)) ≡ some (found, end_tag n ++ rest)
    → element_by content (start_tag n owned ++ (inside ++ (end_tag n ++ rest))) ≡ some (element n owned found, rest)
unfolding element_by
element-read content n g owned h inside rest found e =
    rw (start-read n g (inside ++ (end_tag n ++ rest)) owned h, e, end_read n g rest) refl
