-- The leaves of a text in which identifiers are renamed, and the parser's input that they make.
use Rattle.std.specs.Prelude.{◌≡◌, ℕ, Bool, true, List, [], ◌∷◌, ◌++◌, None}
use Rattle.std.specs.List.{flat_map}
use Rattle.rustc_lexer.specs.Characters.{is_ident}
use Rattle.rustc_lexer.specs.Tokens.{first_lexeme}
use Rattle.parser_input.specs.Input.{input}
use Rattle.parser_input.specs.Kinds.{IDENT}
use Rattle.parser_input.specs.Keywords.{contextual_kind}
use Rattle.parser_input.specs.Leaf.{Leaf, word_kind}
use Rattle.parser_input.specs.Lexed.{Lexed, lexed, preface, content, cut, next_leaf}
use Rattle.parser_input.specs.declared.edition.Edition.{Edition}
use Rattle.plain_names.specs.TokenNames.{name_lexeme}

-- the texts of leaves, joined
abbrev pub texts : List Lexed → List ℕ
texts ls = flat_map (λ l. l.leaf.text) ls

-- the leaf of an identifier token
abbrev pub leaf_of_name : Edition → List ℕ → Lexed
leaf_of_name edition name = next_leaf edition (name_lexeme name)

-- The second leaves are the first ones, some identifiers replaced by identifiers. What follows an
-- identifier is read in the old text.
pub data AreRenamedLeaves (edition : Edition) : List Lexed → List Lexed → Type 0 where
  none : AreRenamedLeaves edition [] []
  same :
      {l : Lexed} {ls ms : List Lexed}
      → AreRenamedLeaves edition ls ms → AreRenamedLeaves edition (l ∷ ls) (l ∷ ms)
  renamed :
      (name other : List ℕ) {ls ms : List Lexed}
      → first_lexeme (name ++ texts ls) ≡ name_lexeme name
      → is_ident other ≡ true → AreRenamedLeaves edition ls ms
      → AreRenamedLeaves edition (leaf_of_name edition name ∷ ls) (leaf_of_name edition other ∷ ms)

-- Any identifiers of a text's content may be renamed at once: the new text has the same preface, and
-- then exactly these leaves.
abbrev pub RenamedTextsHaveTheirLeaves : Type 0
RenamedTextsHaveTheirLeaves =
    (edition : Edition) (text : List ℕ) (ms : List Lexed) →
    AreRenamedLeaves edition (cut edition 0 (content text)) ms →
    lexed edition (texts (preface text) ++ texts ms) ≡ preface text ++ ms

-- The name is neither `_` nor a keyword of the edition, nor a contextual keyword.
pub record IsPlain (edition : Edition) (name : List ℕ) : Type 0 where
  pub word : word_kind edition name ≡ IDENT
  pub contextual : contextual_kind edition name ≡ None

-- The second leaves are the first ones, some names replaced by names, none of them a contextual
-- keyword.
pub data ReplacesNames (edition : Edition) : List Leaf → List Leaf → Type 0 where
  no_leaves : ReplacesNames edition [] []
  one_stays :
      {l : Leaf} {ls ms : List Leaf}
      → ReplacesNames edition ls ms → ReplacesNames edition (l ∷ ls) (l ∷ ms)
  one_goes :
      {l m : Leaf} {ls ms : List Leaf}
      → l.kind ≡ IDENT → m.kind ≡ IDENT
      → contextual_kind edition l.text ≡ None → contextual_kind edition m.text ≡ None
      → ReplacesNames edition ls ms → ReplacesNames edition (l ∷ ls) (m ∷ ms)

-- The parser's input does not depend on names.
abbrev pub InputsIgnoreNames : Type 0
InputsIgnoreNames =
    (whole : Bool) (edition : Edition) (ls ms : List Leaf) → ReplacesNames edition ls ms →
    input whole edition ls ≡ input whole edition ms
