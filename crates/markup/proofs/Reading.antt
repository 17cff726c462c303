-- The reader's first part: from the markup of a tree it gets the tree, with adjoining texts joined.
-- Assumes nothing.
use Prim.Native.Nat.{ℕ, zero, suc, ◌+◌, ◌≤◌}
use mathlib.Core.Path.{◌≡◌, refl, sym, ◌∙◌, ap}
use mathlib.Core.Bool.{Bool, true, false, cond, ◌||◌}
use mathlib.Core.List.{List, [], ◌∷◌, ◌++◌, append_assoc, append-nil}
use mathlib.Core.Option.{none, some}
use native.Mathlib.Omega.{arith}
use lib.ListN.{length, length-append}
use lib.Dec.{eqb}
use borrow.Author.Tests.{eqb-true}
use Rattle.rules.specs.Lists.{any_of, all_of, gathered, is_empty}
use Rattle.rules.specs.Refusals.{is_first_byte, is_name_byte, good_name}
use Rattle.rules.proofs.Lists.{by_cases, both_true, true-not-false, any_of-append}
use Rattle.rules.specs.Utf8.{well_formed, decoded}
use Rattle.escapes.specs.Escapes.{escaped}
use Rattle.escapes.specs.Undoing.{starts_with}
use Rattle.escapes.proofs.Values.{lines-kept, no_return}
use Rattle.markup.specs.Trees.{Content, nothing, text, element, Qualified}
use Rattle.markup.specs.Markup.{name_markup, attribute_markup, start_tag, end_tag, markup}
use Rattle.markup.specs.Reader.{Found, and_then, is_legal, not_less, element_by, with_text, content, read_markup}
use Rattle.markup.specs.ReadingBack.{joined_after, joined}
use Rattle.markup.proofs.Values.{legal-append, value_read, less-ends}
use Rattle.markup.proofs.Productions.{stops, front-is, behind-is, Good, good-bytes, AllGood, start-layout, end-layout, element-read}

pub gathered-append : {A B : Type 0} (f : B → List A) (xs ys : List B) → gathered f (xs ++ ys) ≡ gathered f xs ++ gathered f ys
gathered-append f [] ys = refl
gathered-append f (x ∷ xs) ys = ap (λ (l : List _). f x ++ l) (gathered-append f xs ys) ∙ sym (append_assoc (f x) (gathered f xs) (gathered f ys))

-- A tree that can be written: good names, legal values.
abbrev pub Writable : Content Qualified → Type 0
Writable nothing = Unit {0}
Writable (text value following) = (is_legal value ≡ true) × Writable following
Writable (element n owned inside following) = Good n × AllGood owned × Writable inside × Writable following

-- How many steps reading a content takes at most.
abbrev steps_of : Content Qualified → ℕ
steps_of nothing = 1
steps_of (text value following) = steps_of following
steps_of (element n owned inside following) = suc (steps_of inside + steps_of following)

-- Where content ends.
abbrev is_end : List ℕ → Bool
is_end l = is_empty l || starts_with (60 ∷ 47 ∷ []) l

record AtEnd (rest : List ℕ) : Type 0 where
  pub less : stops not_less rest
  pub ends : is_end rest ≡ true

end-ends : (n : Qualified) → Good n → (rest : List ℕ) → AtEnd (end_tag n ++ rest)
end-ends n g rest = rw (end-layout n g rest) (record { less = refl; ends = refl })

nothing_ends : AtEnd []
nothing_ends = record { less = tt; ends = refl }

-- A text is read, up to what follows.
module _ (steps : ℕ) (before rest : List ℕ) (legal : is_legal before ≡ true) (s : stops not_less rest) where
  abbrev onward : Found (Content Qualified)
  onward =
      and_then (element_by (content steps) rest) (λ (first : (Content Qualified → Content Qualified) × List ℕ).
      and_then (content steps first.1) (λ (following : Content Qualified × List ℕ).
      some (with_text before (first.0 following.0), following.1)))

  text-read : content (suc steps) (escaped false before ++ rest) ≡ cond (is_end rest) (some (with_text before nothing, rest)) onward
  unfolding content
  text-read =
      rw (front-is not_less rest s (escaped false before) (less-ends false before), behind-is not_less rest s (escaped false before) (less-ends false before), value_read false before legal) refl

-- A start tag is no end tag.
first-not-slash : (b : ℕ) → is_first_byte false b ≡ true → eqb 47 b ≡ false
first-not-slash b h =
    by_cases (eqb 47 b) (λ q. absurd (true-not-false (ap (is_first_byte false) (eqb-true 47 b q) ∙ h) refl)) (λ q. q)

name-start : (prefix local : List ℕ) → Good (record { prefix = prefix; local = local }) → (rest : List ℕ) → starts_with (47 ∷ []) (name_markup (record { prefix = prefix; local = local }) ++ rest) ≡ false
unfolding name_markup good_name
name-start [] [] g rest = absurd (true-not-false {b = is_empty []} refl g.full)
name-start [] (b ∷ bs) g rest = rw (first-not-slash b (both_true (is_first_byte false b) _ g.local).0) refl
name-start (p ∷ ps) local g rest = rw (first-not-slash p (both_true (is_first_byte false p) _ g.prefix).0) refl

module _ (n : Qualified) (g : Good n) (owned : List (Qualified × List ℕ)) (h : AllGood owned) (rest : List ℕ) where
  start-less : stops not_less (start_tag n owned ++ rest)
  start-less = rw (start-layout n g rest owned h) refl

  start-goes-on : is_end (start_tag n owned ++ rest) ≡ false
  start-goes-on =
      rw (start-layout n g rest owned h) (name-start n.prefix n.local g (gathered attribute_markup owned ++ 62 ∷ rest))

element-layout : (n : Qualified) (owned : List (Qualified × List ℕ)) (inside following : Content Qualified) (rest : List ℕ) → markup (element n owned inside following) ++ rest ≡ start_tag n owned ++ (markup inside ++ (end_tag n ++ (markup following ++ rest)))
unfolding markup
element-layout n owned inside following rest = simp append_assoc

-- A text behind a text.
joined-values : (before value more rest : List ℕ) → escaped false before ++ ((escaped false value ++ more) ++ rest) ≡ escaped false (before ++ value) ++ (more ++ rest)
unfolding escaped
joined-values before value more rest = rw gathered-append (simp append_assoc)

empty-legal : is_legal [] ≡ true
unfolding is_legal well_formed decoded
empty-legal = refl

-- Content is read, behind a text.
content-read :
    (c : Content Qualified) → Writable c → (steps : ℕ) → steps_of c ≤ steps → (before : List ℕ) → is_legal before ≡ true → (rest : List ℕ) → AtEnd rest
    → content steps (escaped false before ++ (markup c ++ rest)) ≡ some (joined_after before c, rest)
unfolding markup joined_after escaped
content-read nothing w zero h before legal rest end = absurd (omega arith)
content-read nothing w (suc steps) h before legal rest end = text-read steps before rest legal end.less ∙ rw end.ends refl
content-read (text value following) w steps h before legal rest end =
    ap (content steps) (joined-values before value (markup following) rest)
    ∙ content-read following w.1 steps h (before ++ value) (legal-append before value legal w.0) rest end
content-read (element n owned inside following) w zero h before legal rest end = absurd (omega arith)
content-read (element n owned inside following) w (suc steps) h before legal rest end =
    let later = markup following ++ rest in
    let all = start_tag n owned ++ (markup inside ++ (end_tag n ++ later)) in
    let inner : content steps (markup inside ++ (end_tag n ++ later)) ≡ some (joined inside, end_tag n ++ later) =
    content-read inside w.2 steps (omega arith) [] empty-legal (end_tag n ++ later) (end-ends n w.0 later) in
    let outer : content steps later ≡ some (joined following, rest) = content-read following w.3 steps (omega arith) [] empty-legal rest end in
    ap (λ (l : List ℕ). content (suc steps) (escaped false before ++ l)) (element-layout n owned inside following rest)
    ∙ text-read steps before all legal (start-less n w.0 owned w.1 (markup inside ++ (end_tag n ++ later)))
    ∙ rw (start-goes-on n w.0 owned w.1 (markup inside ++ (end_tag n ++ later)), element-read (content steps) n w.0 owned w.1 (markup inside) later (joined inside) inner, outer) refl

-- As many steps as there are bytes are enough.
steps-short : (c : Content Qualified) → steps_of c ≤ suc (length (markup c))
unfolding markup start_tag end_tag
steps-short nothing = omega arith
steps-short (text value following) = simp length-append (omega (arith, steps-short following))
steps-short (element n owned inside following) = simp length-append (omega (arith, steps-short inside, steps-short following))

-- Markup holds no bare carriage return, so nothing changes at its line ends.
name-return : (l : List ℕ) → all_of (is_name_byte false) l ≡ true → any_of (eqb 13) l ≡ false
name-return [] h = refl
name-return (b ∷ bs) h =
    let k = both_true (is_name_byte false b) (all_of (is_name_byte false) bs) h in
    by_cases (eqb 13 b)
    (λ q. absurd (true-not-false (ap (is_name_byte false) (eqb-true 13 b q) ∙ k.0) refl))
    (λ q. rw q (name-return bs k.1))

return-append : (a b : List ℕ) → any_of (eqb 13) a ≡ false → any_of (eqb 13) b ≡ false → any_of (eqb 13) (a ++ b) ≡ false
return-append a b p q = any_of-append (eqb 13) a b ∙ rw (p, q) refl

qualified-return : (prefix local : List ℕ) → Good (record { prefix = prefix; local = local }) → any_of (eqb 13) (name_markup (record { prefix = prefix; local = local })) ≡ false
unfolding name_markup
qualified-return [] local g = name-return local (good-bytes local g.local)
qualified-return (p ∷ ps) local g =
    return-append (p ∷ ps) (58 ∷ local) (name-return (p ∷ ps) (good-bytes (p ∷ ps) g.prefix)) (name-return local (good-bytes local g.local))

attributes-return : (owned : List (Qualified × List ℕ)) → AllGood owned → any_of (eqb 13) (gathered attribute_markup owned) ≡ false
unfolding attribute_markup
attributes-return [] h = refl
attributes-return (a ∷ owned) h =
    let name = qualified-return a.0.prefix a.0.local h.0.name in
    return-append (attribute_markup a) (gathered attribute_markup owned)
    (return-append ((32 ∷ name_markup a.0) ++ (61 ∷ 34 ∷ escaped true a.1)) (34 ∷ []) (return-append (32 ∷ name_markup a.0) (61 ∷ 34 ∷ escaped true a.1) name (no_return true a.1)) refl)
    (attributes-return owned h.1)

markup-return : (c : Content Qualified) → Writable c → any_of (eqb 13) (markup c) ≡ false
unfolding markup start_tag end_tag
markup-return nothing w = refl
markup-return (text value following) w = return-append (escaped false value) (markup following) (no_return false value) (markup-return following w.1)
markup-return (element n owned inside following) w =
    let name = qualified-return n.prefix n.local w.0 in
    return-append (start_tag n owned ++ markup inside ++ end_tag n) (markup following)
    (return-append (start_tag n owned ++ markup inside) (end_tag n)
    (return-append (start_tag n owned) (markup inside)
    (return-append ((60 ∷ name_markup n) ++ gathered attribute_markup owned) (62 ∷ []) (return-append (60 ∷ name_markup n) (gathered attribute_markup owned) name (attributes-return owned w.1)) refl)
    (markup-return inside w.2))
    (return-append (60 ∷ 47 ∷ name_markup n) (62 ∷ []) name refl))
    (markup-return following w.3)

-- An element reads back from its markup.
pub markup-back : (n : Qualified) (owned : List (Qualified × List ℕ)) (inside : Content Qualified) → Writable (element n owned inside nothing) → read_markup (markup (element n owned inside nothing)) ≡ some (joined (element n owned inside nothing))
unfolding read_markup joined_after escaped markup
markup-back n owned inside w =
    let bytes = markup (element n owned inside nothing) in
    let layout = sym (append-nil bytes) ∙ element-layout n owned inside nothing [] in
    let long : length (markup inside) ≤ length bytes = rw layout (simp length-append (omega arith)) in
    let inner : content (suc (length bytes)) (markup inside ++ (end_tag n ++ [])) ≡ some (joined inside, end_tag n ++ []) =
    content-read inside w.2 (suc (length bytes)) (omega (arith, steps-short inside)) [] empty-legal (end_tag n ++ []) (end-ends n w.0 []) in
    rw (lines-kept bytes (markup-return (element n owned inside nothing) w))
    (ap (λ (l : List ℕ). and_then (element_by (content (suc (length bytes))) l) (λ (found : (Content Qualified → Content Qualified) × List ℕ). cond (is_empty found.1) (some (found.0 nothing)) none)) layout
    ∙ rw (element-read (content (suc (length bytes))) n w.0 owned w.1 (markup inside) [] (joined inside) inner) refl)
