-- RULES 7, cases: M1 to M12, and before them one for each trap of RULES 8 that they leave out, the order of a row's fields, 14 and makers among them.
-- Each is an input, the sizes of the two outputs, and the whole outcome.
use Rattle.std.specs.Prelude.{ℕ, Bool, ◌&&◌, List, [], ◌∷◌, ◌++◌, replicate}
use Rattle.rules.specs.Lists.{all_of, ascii, same_bytes}
use Rattle.rules.specs.Table.{NONE}
use Rattle.rules.specs.Answers.{filled_number, filled_rows, filled_bytes}
use Rattle.rules.specs.Outputs.{Outcome}
use Rattle.rules.specs.Normalization.{normalized}

pub record Case : Type 0 where
  pub table : List ℕ
  pub pool : List ℕ
  pub table_size : ℕ
  pub pool_size : ℕ
  -- the refusal's number, row and word, the row count and the pool length
  pub answer : List ℕ
  pub out_table : List ℕ
  pub out_pool : List ℕ

-- An outcome's answer as numbers.
unfoldable pub answer_numbers : Outcome → List ℕ
answer_numbers o =
    (filled_number o.answer).number ∷ (filled_number o.answer).row ∷ (filled_number o.answer).word
    ∷ filled_rows o.answer ∷ filled_bytes o.answer ∷ []

unfoldable pub gives : Case → Outcome → Bool
gives c o = same_bytes (answer_numbers o) c.answer && same_bytes o.table c.out_table && same_bytes o.pool c.out_pool

unfoldable pub passes : Case → Bool
passes c = gives c (normalized c.table c.pool c.table_size c.pool_size)

-- A row: the maker, the type, the parent, and the offset and length of prefix, local name, URI and value.
abbrev pub row_by : ℕ → ℕ → ℕ → ℕ × ℕ → ℕ × ℕ → ℕ × ℕ → ℕ × ℕ → List ℕ
row_by maker type parent prefix local uri value =
    type ∷ parent ∷ prefix.0 ∷ prefix.1 ∷ local.0 ∷ local.1 ∷ uri.0 ∷ uri.1 ∷ value.0 ∷ value.1 ∷ maker ∷ []

-- A row of maker 0.
abbrev pub row : ℕ → ℕ → ℕ × ℕ → ℕ × ℕ → ℕ × ℕ → ℕ × ℕ → List ℕ
row = row_by 0

-- An element and a namespace URI that is not declared.
abbrev example_a : List ℕ
example_a = row 1 NONE (0, 0) (0, 1) (1, 1) (0, 0)

-- An attribute with a URI and no prefix.
abbrev example_b : List ℕ
example_b = row 1 NONE (0, 0) (0, 1) (0, 0) (0, 0) ++ row 2 0 (0, 0) (2, 1) (1, 1) (0, 0)

abbrev example_b' : List ℕ
example_b' = row 1 NONE (0, 0) (0, 1) (0, 0) (0, 0) ++ row 2 0 (3, 3) (2, 1) (1, 1) (0, 0) ++ row 13 0 (0, 0) (3, 3) (0, 0) (1, 1)

-- The names of the two trees of RULES 7.2: root, parent, ns, bar, child1, child2 and the two URIs.
abbrev tree_names : List ℕ
tree_names = ascii "rootparentnsbarchild1child2http://www.example.org/ns1http://www.example.org/ns2"

-- B.1.1: root, parent with xmlns:ns and xmlns:bar, ns:child1 with its xmlns:ns, and ns:child2.
abbrev tree1 : List ℕ
tree1 =
    row 1 NONE (0, 0) (0, 4) (0, 0) (0, 0) ++ row 1 0 (0, 0) (4, 6) (0, 0) (0, 0) ++ row 13 1 (0, 0) (10, 2) (0, 0) (27, 26)
    ++ row 13 1 (0, 0) (12, 3) (0, 0) (53, 26) ++ row 1 1 (10, 2) (15, 6) (53, 26) (0, 0)
    ++ row 13 4 (0, 0) (10, 2) (0, 0) (53, 26) ++ row 1 1 (10, 2) (21, 6) (53, 26) (0, 0)

-- B.1.2: root, ns:child1, renamed to the second URI, with xmlns:ns of the first, and ns:child2 below it.
abbrev tree2 : ℕ × ℕ → List ℕ
tree2 value =
    row 1 NONE (0, 0) (0, 4) (0, 0) (0, 0) ++ row 1 0 (10, 2) (15, 6) (53, 26) (0, 0) ++ row 13 1 (0, 0) (10, 2) (0, 0) value
    ++ row 1 1 (10, 2) (21, 6) (27, 26) (0, 0)

-- M9: under an element in U with xmlns="U", an element without URI.
abbrev example_m9 : List ℕ
example_m9 =
    row 1 NONE (0, 0) (0, 1) (1, 1) (0, 0) ++ row 13 0 (0, 0) (0, 0) (0, 0) (1, 1) ++ row 1 0 (0, 0) (2, 1) (0, 0) (0, 0)

-- Two elements, p declared as U above and as V below; an attribute of the lower one with URI U and no prefix, or a new one.
abbrev rebound : ℕ × ℕ → List ℕ
rebound prefix =
    row 1 NONE (0, 0) (0, 1) (0, 0) (0, 0) ++ row 13 0 (0, 0) (2, 1) (0, 0) (3, 1) ++ row 1 0 (0, 0) (0, 1) (0, 0) (0, 0)
    ++ row 13 2 (0, 0) (2, 1) (0, 0) (4, 1) ++ row 2 2 prefix (1, 1) (3, 1) (0, 0)

-- An element in U with xmlns="U", and an attribute in U without a prefix, or a new one.
abbrev defaulted : ℕ × ℕ → List ℕ
defaulted prefix =
    row 1 NONE (0, 0) (0, 1) (3, 1) (0, 0) ++ row 13 0 (0, 0) (0, 0) (0, 0) (3, 1) ++ row 2 0 prefix (1, 1) (3, 1) (0, 0)

-- An element p:a in U with xmlns:p="U", and an attribute p:b in V, or with a new prefix.
abbrev conflicting : ℕ × ℕ → List ℕ
conflicting prefix =
    row 1 NONE (2, 1) (0, 1) (3, 1) (0, 0) ++ row 13 0 (0, 0) (2, 1) (0, 0) (3, 1) ++ row 2 0 prefix (1, 1) (4, 1) (0, 0)

-- The names of the three above: a, b, p, U, V.
abbrev namesabp : List ℕ
namesabp = ascii "abpUV"

unfoldable pub cases : List Case
cases =
    -- the attribute's prefix is in scope with another URI: NS1
    record { table = conflicting (2, 1); pool = namesabp; table_size = 44; pool_size = 8; answer = 0 ∷ 0 ∷ 0 ∷ 4 ∷ 8 ∷ []; out_table = conflicting (5, 3) ++ row 13 0 (0, 0) (5, 3) (0, 0) (4, 1); out_pool = namesabp ++ ascii "NS1" }
    -- a nearer declaration rebinds the prefix: NS1
    ∷ record { table = rebound (0, 0); pool = namesabp; table_size = 66; pool_size = 8; answer = 0 ∷ 0 ∷ 0 ∷ 6 ∷ 8 ∷ []; out_table = rebound (5, 3) ++ row 13 2 (0, 0) (5, 3) (0, 0) (3, 1); out_pool = namesabp ++ ascii "NS1" }
    -- the default declaration does not serve an attribute: NS1
    ∷ record { table = defaulted (0, 0); pool = namesabp; table_size = 44; pool_size = 8; answer = 0 ∷ 0 ∷ 0 ∷ 4 ∷ 8 ∷ []; out_table = defaulted (5, 3) ++ row 13 0 (0, 0) (5, 3) (0, 0) (3, 1); out_pool = namesabp ++ ascii "NS1" }
    -- a value with an offset past the pool and no length: 3 before 12
    ∷ record { table = row 1 NONE (0, 0) (0, 1) (0, 0) (2, 0); pool = ascii "a"; table_size = 11; pool_size = 1; answer = 3 ∷ 0 ∷ 8 ∷ 0 ∷ 0 ∷ []; out_table = replicate 11 0; out_pool = replicate 1 0 }
    -- 12 of the prefix before 3 of the local name
    ∷ record { table = row 1 NONE (1, 0) (0, 2) (0, 0) (0, 0); pool = ascii "a"; table_size = 11; pool_size = 1; answer = 12 ∷ 0 ∷ 2 ∷ 0 ∷ 0 ∷ []; out_table = replicate 11 0; out_pool = replicate 1 0 }
    -- a text: 3 of the value before 13 of the prefix
    ∷ record { table = row 3 NONE (0, 1) (0, 0) (0, 0) (0, 2); pool = ascii "a"; table_size = 11; pool_size = 1; answer = 3 ∷ 0 ∷ 8 ∷ 0 ∷ 0 ∷ []; out_table = replicate 11 0; out_pool = replicate 1 0 }
    -- a text: 13 of the local name before 13 of the URI
    ∷ record { table = row 3 NONE (0, 0) (0, 1) (0, 1) (0, 0); pool = ascii "a"; table_size = 11; pool_size = 1; answer = 13 ∷ 0 ∷ 4 ∷ 0 ∷ 0 ∷ []; out_table = replicate 11 0; out_pool = replicate 1 0 }
    -- a text: 14 of a value that ends within a sequence, though the pool goes on
    ∷ record { table = row 3 NONE (0, 0) (0, 0) (0, 0) (0, 1); pool = 0xC3 ∷ 0xA9 ∷ []; table_size = 11; pool_size = 1; answer = 14 ∷ 0 ∷ 8 ∷ 0 ∷ 0 ∷ []; out_table = replicate 11 0; out_pool = replicate 1 0 }
    -- a text: 13 of the local name before 14 of the value
    ∷ record { table = row 3 NONE (0, 0) (0, 1) (0, 0) (0, 1); pool = 0xFF ∷ []; table_size = 11; pool_size = 1; answer = 13 ∷ 0 ∷ 4 ∷ 0 ∷ 0 ∷ []; out_table = replicate 11 0; out_pool = replicate 1 0 }
    -- an attribute without a name: 14 of the URI before 14 of the value and before 4
    ∷ record { table = row 2 NONE (0, 0) (0, 0) (0, 1) (0, 1); pool = 0xFF ∷ []; table_size = 11; pool_size = 1; answer = 14 ∷ 0 ∷ 6 ∷ 0 ∷ 0 ∷ []; out_table = replicate 11 0; out_pool = replicate 1 0 }
    -- makers: an element in U of maker 7 and its attributes in V of maker 9 and in W of maker NONE; each added declaration takes that of
    -- the row that needed it
    ∷ record { table = row_by 7 1 NONE (0, 0) (0, 1) (2, 1) (0, 0) ++ row_by 9 2 0 (0, 0) (1, 1) (3, 1) (0, 0) ++ row_by NONE 2 0 (0, 1) (1, 1) (4, 1) (0, 0); pool = ascii "abUVW"; table_size = 66; pool_size = 8; answer = 0 ∷ 0 ∷ 0 ∷ 6 ∷ 8 ∷ []; out_table = row_by 7 1 NONE (0, 0) (0, 1) (2, 1) (0, 0) ++ row_by 9 2 0 (5, 3) (1, 1) (3, 1) (0, 0) ++ row_by NONE 2 0 (0, 1) (1, 1) (4, 1) (0, 0) ++ row_by 7 13 0 (0, 0) (0, 0) (0, 0) (2, 1) ++ row_by 9 13 0 (0, 0) (5, 3) (0, 0) (3, 1) ++ row_by NONE 13 0 (0, 0) (0, 1) (0, 0) (4, 1); out_pool = ascii "abUVWNS1" }
    -- a declaration that is changed keeps its maker
    ∷ record { table = row_by 7 1 NONE (0, 0) (0, 1) (1, 1) (0, 0) ++ row_by 5 13 0 (0, 0) (0, 0) (0, 0) (2, 1); pool = ascii "aUV"; table_size = 22; pool_size = 3; answer = 0 ∷ 0 ∷ 0 ∷ 2 ∷ 3 ∷ []; out_table = row_by 7 1 NONE (0, 0) (0, 1) (1, 1) (0, 0) ++ row_by 5 13 0 (0, 0) (0, 0) (0, 0) (1, 1); out_pool = ascii "aUV" }
    -- M1: A
    ∷ record { table = example_a; pool = ascii "aU"; table_size = 22; pool_size = 2; answer = 0 ∷ 0 ∷ 0 ∷ 2 ∷ 2 ∷ []; out_table = example_a ++ row 13 0 (0, 0) (0, 0) (0, 0) (1, 1); out_pool = ascii "aU" }
    -- M2: B, with room left over
    ∷ record { table = example_b; pool = ascii "aUb"; table_size = 40; pool_size = 8; answer = 0 ∷ 0 ∷ 0 ∷ 3 ∷ 6 ∷ []; out_table = example_b' ++ replicate 7 0; out_pool = ascii "aUbNS1" ++ replicate 2 0 }
    -- M3: an empty table
    ∷ record { table = []; pool = []; table_size = 11; pool_size = 2; answer = 0 ∷ 0 ∷ 0 ∷ 0 ∷ 0 ∷ []; out_table = replicate 11 0; out_pool = replicate 2 0 }
    -- M4: 12 words
    ∷ record { table = example_a ++ 0 ∷ []; pool = ascii "aU"; table_size = 22; pool_size = 2; answer = 1 ∷ 0 ∷ 0 ∷ 0 ∷ 0 ∷ []; out_table = replicate 22 0; out_pool = replicate 2 0 }
    -- M5: A with output for one row
    ∷ record { table = example_a; pool = ascii "aU"; table_size = 11; pool_size = 2; answer = 10 ∷ 0 ∷ 0 ∷ 0 ∷ 0 ∷ []; out_table = replicate 11 0; out_pool = replicate 2 0 }
    -- M6: B with a 5-byte output pool, and with 6 bytes
    ∷ record { table = example_b; pool = ascii "aUb"; table_size = 33; pool_size = 5; answer = 11 ∷ 0 ∷ 0 ∷ 0 ∷ 0 ∷ []; out_table = replicate 33 0; out_pool = replicate 5 0 }
    ∷ record { table = example_b; pool = ascii "aUb"; table_size = 33; pool_size = 6; answer = 0 ∷ 0 ∷ 0 ∷ 3 ∷ 6 ∷ []; out_table = example_b'; out_pool = ascii "aUbNS1" }
    -- M7: B.1.1's child2 gets its own xmlns:ns
    ∷ record { table = tree1; pool = tree_names; table_size = 88; pool_size = 79; answer = 0 ∷ 0 ∷ 0 ∷ 8 ∷ 79 ∷ []; out_table = tree1 ++ row 13 6 (0, 0) (10, 2) (0, 0) (53, 26); out_pool = tree_names }
    -- M8: B.1.2's child1 declaration is changed, child2 gets one
    ∷ record { table = tree2 (27, 26); pool = tree_names; table_size = 55; pool_size = 79; answer = 0 ∷ 0 ∷ 0 ∷ 5 ∷ 79 ∷ []; out_table = tree2 (53, 26) ++ row 13 3 (0, 0) (10, 2) (0, 0) (27, 26); out_pool = tree_names }
    -- M9: the element without URI gets xmlns=""
    ∷ record { table = example_m9; pool = ascii "aUb"; table_size = 44; pool_size = 3; answer = 0 ∷ 0 ∷ 0 ∷ 4 ∷ 3 ∷ []; out_table = example_m9 ++ row 13 2 (0, 0) (0, 0) (0, 0) (0, 0); out_pool = ascii "aUb" }
    -- M10: an attribute with XML_URI and no prefix gets xml
    ∷ record { table = row 1 NONE (0, 0) (0, 1) (0, 0) (0, 0) ++ row 2 0 (0, 0) (1, 1) (2, 36) (0, 0); pool = ascii "abhttp://www.w3.org/XML/1998/namespace"; table_size = 22; pool_size = 41; answer = 0 ∷ 0 ∷ 0 ∷ 2 ∷ 41 ∷ []; out_table = row 1 NONE (0, 0) (0, 1) (0, 0) (0, 0) ++ row 2 0 (38, 3) (1, 1) (2, 36) (0, 0); out_pool = ascii "abhttp://www.w3.org/XML/1998/namespacexml" }
    -- M11: xmlns:p=""
    ∷ record { table = row 1 NONE (0, 0) (0, 1) (0, 0) (0, 0) ++ row 13 0 (0, 0) (1, 1) (0, 0) (0, 0); pool = ascii "ap"; table_size = 22; pool_size = 2; answer = 6 ∷ 1 ∷ 0 ∷ 0 ∷ 0 ∷ []; out_table = replicate 22 0; out_pool = replicate 2 0 }
    -- M12: a row that is its own parent
    ∷ record { table = row 1 0 (0, 0) (0, 1) (0, 0) (0, 0); pool = ascii "a"; table_size = 11; pool_size = 1; answer = 2 ∷ 0 ∷ 0 ∷ 0 ∷ 0 ∷ []; out_table = replicate 11 0; out_pool = replicate 1 0 }
    ∷ []

-- Every case comes out as RULES 7.1 says.
unfoldable pub all_pass : Bool
all_pass = all_of passes cases
