-- RULES 12.10, XML text: what is written of small tables, and what a reader makes of small texts.
use Rattle.std.specs.Prelude.{ℕ, ◌-◌, Bool, ◌&&◌, ◌||◌, List, [], ◌∷◌, ◌++◌, length, replicate, ltb}
use Rattle.std.proofs.Math.Option.{Option, none, some}
use Rattle.rules.specs.Lists.{all_of, gathered, ascii}
use Rattle.rules.specs.Cases.{row, row_by}
use Rattle.rules.specs.Table.{NONE, nodes}
use Rattle.bundles.specs.Cases.{write_gives, same_lists}
use Rattle.markup.specs.Trees.{Content, nothing, text, element, Expanded, meant_tree}
use Rattle.markup.specs.Writing.{element_to_write, text_written}
use Rattle.markup.specs.Namespaces.{read}
use Rattle.markup.specs.ReadingBack.{joined}

abbrev no? : ℕ × ℕ
no? = (0, 0)

-- What a reader gets, as a list of byte strings; none: nothing.
abbrev pub attribute_shown : Expanded × List ℕ → List (List ℕ)
attribute_shown a = ascii "@" ∷ a.0.uri ∷ a.0.local ∷ a.1 ∷ []

abbrev pub content_shown : Content Expanded → List (List ℕ)
content_shown nothing = []
content_shown (text value following) = ascii "text" ∷ value ∷ content_shown following
content_shown (element name attributes inside following) =
    ascii "<" ∷ name.uri ∷ name.local ∷ (gathered attribute_shown attributes ++ (content_shown inside ++ (ascii ">" ∷ content_shown following)))

abbrev pub shown : Option (Content Expanded) → List (List ℕ)
shown none = ascii "none" ∷ []
shown (some c) = content_shown c

-- A table, a start, and what is written: the refusal's number and row and the bytes used, and the text. A table whose text is
-- written reads back.
pub record Case : Type 0 where
  pub table : List ℕ
  pub pool : List ℕ
  pub start : ℕ
  pub size : ℕ
  pub number : ℕ
  pub at : ℕ
  pub text : List ℕ

abbrev pub writes : Case → Bool
writes c =
    same_lists (write_gives (text_written c.table c.pool c.start c.size))
    ((c.number ∷ c.at ∷ 0 ∷ length c.text ∷ []) ∷ (c.text ++ replicate (c.size - length c.text) 0) ∷ [])

-- The tree of the table, as the reader has it.
abbrev pub meant_shown : Case → Option ℕ → List (List ℕ)
meant_shown c none = ascii "none" ∷ []
meant_shown c (some e) = content_shown (joined (meant_tree (nodes c.table c.pool) e))

abbrev pub is_refused : ℕ → Bool
is_refused n = ltb 0 n

abbrev pub reads_back : Case → Bool
reads_back c =
    is_refused c.number || same_lists (shown (read c.text)) (meant_shown c (element_to_write (nodes c.table c.pool) c.start))

unfoldable pub cases : List Case
cases =
    -- example A normalized
    record { table = row 1 NONE no? (0, 1) (1, 1) no? ++ row 13 0 no? no? no? (1, 1); pool = ascii "aU"; start = 0; size = 17; number = 0; at = 0; text = (ascii "<a xmlns=" ++ (34 ∷ []) ++ ascii "U" ++ (34 ∷ []) ++ ascii "></a>") }
    -- of two makers, whom no text tells
    ∷ record { table = row_by 7 1 NONE no? (0, 1) (1, 1) no? ++ row_by NONE 13 0 no? no? no? (1, 1); pool = ascii "aU"; start = 0; size = 17; number = 0; at = 0; text = (ascii "<a xmlns=" ++ (34 ∷ []) ++ ascii "U" ++ (34 ∷ []) ++ ascii "></a>") }
    -- with room left over
    ∷ record { table = row 1 NONE no? (0, 1) (1, 1) no? ++ row 13 0 no? no? no? (1, 1); pool = ascii "aU"; start = 0; size = 20; number = 0; at = 0; text = (ascii "<a xmlns=" ++ (34 ∷ []) ++ ascii "U" ++ (34 ∷ []) ++ ascii "></a>") }
    -- one byte too few: 22
    ∷ record { table = row 1 NONE no? (0, 1) (1, 1) no? ++ row 13 0 no? no? no? (1, 1); pool = ascii "aU"; start = 0; size = 16; number = 22; at = 0; text = [] }
    -- example A itself: 23
    ∷ record { table = row 1 NONE no? (0, 1) (1, 1) no?; pool = ascii "aU"; start = 0; size = 17; number = 23; at = 0; text = [] }
    -- a row that is not in the table: 8; the word count before it: 1
    ∷ record { table = row 1 NONE no? (0, 1) (1, 1) no? ++ row 13 0 no? no? no? (1, 1); pool = ascii "aU"; start = 2; size = 17; number = 8; at = 0; text = [] }
    -- example B normalized: attributes and declarations in row order
    ∷ record { table = row 1 NONE no? (0, 1) no? no? ++ row 2 0 (3, 3) (2, 1) (1, 1) no? ++ row 13 0 no? (3, 3) no? (1, 1); pool = ascii "aUbNS1"; start = 0; size = 40; number = 0; at = 0; text = (ascii "<a NS1:b=" ++ (34 ∷ []) ++ (34 ∷ []) ++ ascii " xmlns:NS1=" ++ (34 ∷ []) ++ ascii "U" ++ (34 ∷ []) ++ ascii "></a>") }
    -- a declaration in an earlier row than an attribute
    ∷ record { table = row 1 NONE (2, 1) (0, 1) (1, 1) no? ++ row 13 0 no? (2, 1) no? (1, 1) ++ row 2 0 (2, 1) (0, 1) (1, 1) (0, 1); pool = ascii "aUp"; start = 0; size = 40; number = 0; at = 0; text = (ascii "<p:a xmlns:p=" ++ (34 ∷ []) ++ ascii "U" ++ (34 ∷ []) ++ ascii " p:a=" ++ (34 ∷ []) ++ ascii "a" ++ (34 ∷ []) ++ ascii "></p:a>") }
    -- example B itself, an attribute with a URI and no prefix: 23
    ∷ record { table = row 1 NONE no? (0, 1) no? no? ++ row 2 0 no? (2, 1) (1, 1) no?; pool = ascii "aUb"; start = 0; size = 40; number = 23; at = 1; text = [] }
    -- M9 normalized: the empty default declaration is written
    ∷ record { table = row 1 NONE no? (0, 1) (1, 1) no? ++ row 13 0 no? no? no? (1, 1) ++ row 1 0 no? (2, 1) no? no? ++ row 13 2 no? no? no? no?; pool = ascii "aUb"; start = 0; size = 40; number = 0; at = 0; text = (ascii "<a xmlns=" ++ (34 ∷ []) ++ ascii "U" ++ (34 ∷ []) ++ ascii "><b xmlns=" ++ (34 ∷ []) ++ (34 ∷ []) ++ ascii "></b></a>") }
    -- every escape: in a text, whose tab and line feed stay, and in an attribute
    ∷ record { table = row 1 NONE no? (0, 1) no? no? ++ row 2 0 no? (1, 1) no? (2, 7) ++ row 3 0 no? no? no? (2, 7); pool = (ascii "ab&<>" ++ (34 ∷ []) ++ (13 ∷ []) ++ (9 ∷ []) ++ (10 ∷ [])); start = 0; size = 80; number = 0; at = 0; text = (ascii "<a b=" ++ (34 ∷ []) ++ ascii "&amp;&lt;&gt;&quot;&#13;&#9;&#10;" ++ (34 ∷ []) ++ ascii ">&amp;&lt;&gt;&quot;&#13;" ++ (9 ∷ []) ++ (10 ∷ []) ++ ascii "</a>") }
    -- children in row order, their own between them; two texts are read as one, an empty one not at all
    ∷ record { table = row 1 NONE no? (0, 1) no? no? ++ row 3 0 no? no? no? (2, 1) ++ row 1 0 no? (1, 1) no? no? ++ row 3 0 no? no? no? (3, 1) ++ row 3 2 no? no? no? (2, 2) ++ row 3 0 no? no? no? (2, 1) ++ row 3 0 no? no? no? no?; pool = ascii "abxy"; start = 0; size = 40; number = 0; at = 0; text = ascii "<a>x<b>xy</b>yx</a>" }
    -- a document's element; what stands beside it does not count
    ∷ record { table = row 9 NONE no? no? no? no? ++ row 8 0 no? no? no? (0, 1) ++ row 1 0 no? (0, 1) no? no? ++ row 8 0 no? no? no? no?; pool = ascii "a"; start = 0; size = 8; number = 0; at = 0; text = ascii "<a></a>" }
    -- a document without an element: 20 at its own row
    ∷ record { table = row 9 NONE no? no? no? no? ++ row 8 0 no? no? no? (0, 1); pool = ascii "a"; start = 0; size = 8; number = 20; at = 0; text = [] }
    -- a text as the start: 20
    ∷ record { table = row 1 NONE no? (0, 1) no? no? ++ row 3 0 no? no? no? (0, 1); pool = ascii "a"; start = 1; size = 8; number = 20; at = 1; text = [] }
    -- a comment in the subtree: 20, before 21 of a lower row
    ∷ record { table = row 1 NONE no? (0, 1) no? no? ++ row 3 0 no? no? no? (1, 1) ++ row 8 0 no? no? no? (0, 1); pool = (ascii "a" ++ (1 ∷ [])); start = 0; size = 8; number = 20; at = 2; text = [] }
    -- a byte below 32: 21, before 23 of a lower row
    ∷ record { table = row 1 NONE no? (0, 1) (0, 1) no? ++ row 3 0 no? no? no? (1, 1); pool = (ascii "a" ++ (1 ∷ [])); start = 0; size = 8; number = 21; at = 1; text = [] }
    -- U+FFFE in an attribute: 21; U+FFFD is written
    ∷ record { table = row 1 NONE no? (0, 1) no? no? ++ row 2 0 no? (0, 1) no? (1, 3); pool = (ascii "a" ++ (239 ∷ 191 ∷ 190 ∷ [])); start = 0; size = 8; number = 21; at = 1; text = [] }
    -- U+FFFD
    ∷ record { table = row 1 NONE no? (0, 1) no? no? ++ row 2 0 no? (0, 1) no? (1, 3); pool = (ascii "a" ++ (239 ∷ 191 ∷ 189 ∷ [])); start = 0; size = 20; number = 0; at = 0; text = (ascii "<a a=" ++ (34 ∷ []) ++ (239 ∷ 191 ∷ 189 ∷ []) ++ (34 ∷ []) ++ ascii "></a>") }
    -- a Level 1 row anywhere: 9, before 20
    ∷ record { table = row 3 NONE no? no? no? no? ++ row 257 NONE no? (0, 1) no? no?; pool = ascii "a"; start = 0; size = 8; number = 9; at = 1; text = [] }
    -- the prefix xml needs no declaration
    ∷ record { table = row 1 NONE no? (0, 1) no? no? ++ row 2 0 (37, 3) (0, 1) (1, 36) (0, 1); pool = ascii "ahttp://www.w3.org/XML/1998/namespacexml"; start = 0; size = 30; number = 0; at = 0; text = (ascii "<a xml:a=" ++ (34 ∷ []) ++ ascii "a" ++ (34 ∷ []) ++ ascii "></a>") }
    -- an ancestor's declaration that the start does not use: 24, at the declaration
    ∷ record { table = row 1 NONE no? (0, 1) no? no? ++ row 13 0 no? (1, 1) no? (2, 1) ++ row 1 0 no? (0, 1) no? no?; pool = ascii "apU"; start = 2; size = 20; number = 24; at = 1; text = [] }
    -- its prefix declared by the start
    ∷ record { table = row 1 NONE no? (0, 1) no? no? ++ row 13 0 no? (1, 1) no? (2, 1) ++ row 1 0 no? (0, 1) no? no? ++ row 13 2 no? (1, 1) no? (0, 1); pool = ascii "apU"; start = 2; size = 20; number = 0; at = 0; text = (ascii "<a xmlns:p=" ++ (34 ∷ []) ++ ascii "a" ++ (34 ∷ []) ++ ascii "></a>") }
    -- a default that an element between declares as empty
    ∷ record { table = row 1 NONE no? (0, 1) (1, 1) no? ++ row 13 0 no? no? no? (1, 1) ++ row 1 0 no? (0, 1) no? no? ++ row 13 2 no? no? no? no? ++ row 1 2 no? (0, 1) no? no?; pool = ascii "aU"; start = 4; size = 20; number = 0; at = 0; text = ascii "<a></a>" }
    -- 23 before 24 of a lower row
    ∷ record { table = row 1 NONE no? (0, 1) no? no? ++ row 13 0 no? (1, 1) no? (2, 1) ++ row 1 0 no? (0, 1) (0, 1) no?; pool = ascii "apU"; start = 2; size = 20; number = 23; at = 2; text = [] }
    ∷ []

-- Texts, and what a reader gets from each.
unfoldable pub texts : List (List ℕ × List (List ℕ))
texts =
    -- an end tag of another name
    (ascii "<a></b>", ascii "none" ∷ [])
    -- a start tag alone, and something behind the element
    ∷ (ascii "<a>", ascii "none" ∷ [])
    -- something behind the element
    ∷ (ascii "<a></a>x", ascii "none" ∷ [])
    -- a bare & and an unknown name
    ∷ (ascii "<a>&</a>", ascii "none" ∷ [])
    -- an unknown name
    ∷ (ascii "<a>&nbsp;</a>", ascii "none" ∷ [])
    -- < in quotes
    ∷ ((ascii "<a b=" ++ (34 ∷ []) ++ ascii "<" ++ (34 ∷ []) ++ ascii "></a>"), ascii "none" ∷ [])
    -- two attributes of one name
    ∷ ((ascii "<a b=" ++ (34 ∷ []) ++ (34 ∷ []) ++ ascii " b=" ++ (34 ∷ []) ++ (34 ∷ []) ++ ascii "></a>"), ascii "none" ∷ [])
    -- two prefixes of one URI, and one local name
    ∷ ((ascii "<a xmlns:p=" ++ (34 ∷ []) ++ ascii "U" ++ (34 ∷ []) ++ ascii " xmlns:q=" ++ (34 ∷ []) ++ ascii "U" ++ (34 ∷ []) ++ ascii " p:b=" ++ (34 ∷ []) ++ (34 ∷ []) ++ ascii " q:b=" ++ (34 ∷ []) ++ (34 ∷ []) ++ ascii "></a>"), ascii "none" ∷ [])
    -- two declarations of one prefix
    ∷ ((ascii "<a xmlns:p=" ++ (34 ∷ []) ++ ascii "U" ++ (34 ∷ []) ++ ascii " xmlns:p=" ++ (34 ∷ []) ++ ascii "V" ++ (34 ∷ []) ++ ascii "></a>"), ascii "none" ∷ [])
    -- a prefix that is not declared
    ∷ (ascii "<p:a></p:a>", ascii "none" ∷ [])
    -- a prefix that is undeclared
    ∷ ((ascii "<p:a xmlns:p=" ++ (34 ∷ []) ++ (34 ∷ []) ++ ascii "></p:a>"), ascii "none" ∷ [])
    -- a character that is none
    ∷ (ascii "<a>&#1;</a>", ascii "none" ∷ [])
    -- tab, line feed and carriage return in quotes are spaces, referenced ones are not
    ∷ ((ascii "<a b=" ++ (34 ∷ []) ++ (9 ∷ []) ++ (10 ∷ []) ++ (13 ∷ []) ++ ascii "&#9;&#10;&#13;" ++ (34 ∷ []) ++ ascii "></a>"), ascii "<" ∷ [] ∷ ascii "a" ∷ ascii "@" ∷ [] ∷ ascii "b" ∷ (ascii "   " ++ (9 ∷ []) ++ (10 ∷ []) ++ (13 ∷ [])) ∷ ascii ">" ∷ [])
    -- line ends in text
    ∷ ((ascii "<a>" ++ (13 ∷ []) ++ (10 ∷ []) ++ (13 ∷ []) ++ ascii "&#13;</a>"), ascii "<" ∷ [] ∷ ascii "a" ∷ ascii "text" ∷ ((10 ∷ []) ++ (10 ∷ []) ++ (13 ∷ [])) ∷ ascii ">" ∷ [])
    -- the five names
    ∷ (ascii "<a>&lt;&gt;&amp;&apos;&quot;</a>", ascii "<" ∷ [] ∷ ascii "a" ∷ ascii "text" ∷ (ascii "<>&'" ++ (34 ∷ [])) ∷ ascii ">" ∷ [])
    -- the default namespace is not for attributes, and ends with its element
    ∷ ((ascii "<p:a xmlns:p=" ++ (34 ∷ []) ++ ascii "U" ++ (34 ∷ []) ++ ascii "><b xmlns=" ++ (34 ∷ []) ++ ascii "V" ++ (34 ∷ []) ++ ascii " c=" ++ (34 ∷ []) ++ ascii "1" ++ (34 ∷ []) ++ ascii "></b><c></c></p:a>"), ascii "<" ∷ ascii "U" ∷ ascii "a" ∷ ascii "<" ∷ ascii "V" ∷ ascii "b" ∷ ascii "@" ∷ [] ∷ ascii "c" ∷ ascii "1" ∷ ascii ">" ∷ ascii "<" ∷ [] ∷ ascii "c" ∷ ascii ">" ∷ ascii ">" ∷ [])
    ∷ []

unfoldable pub is_read : List ℕ × List (List ℕ) → Bool
is_read (bytes, expected) = same_lists (shown (read bytes)) expected

-- Every case comes out as it should.
unfoldable pub all_pass : Bool
all_pass = all_of (λ (c : Case). writes c && reads_back c) cases && all_of is_read texts
