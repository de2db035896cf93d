-- What a test of a plain renaming looks at, in code: the changes, the replaced tokens and the new ones.
use Rattle.std.specs.Prelude.{◌≡◌, ℕ, Bool, true, List, [], ◌∷◌, drop, chars, slice_get, Some}
use Rattle.std.specs.Str.{IsUtf8}
use Rattle.rustc_lexer.specs.Tokens.{first_lexeme}
use Rattle.rowan_green.specs.declared.utility_types.NodeOrToken.TheVariants.{Token}
use Rattle.rowan.specs.Place.{start_of, text_at}
use Rattle.parser_input.specs.Kinds.{IDENT}
use Rattle.parser_input.specs.Lexed.{lexed}
use Rattle.parser_input.specs.Stored.{offset}
use Rattle.parser_input.specs.declared.edition.Edition.{Edition}
use Rattle.plain_names.specs.Forests.{leaf_of}
use Rattle.plain_names.specs.LeafNames.{texts}
use Rattle.plain_names.specs.TokenNames.{name_lexeme}
use Rattle.syntax_tree.specs.Element.{Way, Element, term_of}
use Rattle.tree_rewrite.specs.Change.{Change, replace}
use Rattle.rust_document.specs.Renames.{is_plain_name}
use Rattle.rust_document.specs.Step.{State}
use Rattle.rust_document.specs.declared.tokens.LexedToken.{LexedToken}

-- The change replaces one element by one element.
pub record IsOneByOne (c : Change) (old new : Element) : Type 0 where
  pub single : Bool
  pub is : c ≡ replace old.place.up 0 (new ∷ []) single

-- The change does something else.
abbrev pub IsNotOneByOne : Change → Type 0
IsNotOneByOne c = (up : Way) (new : Element) (single : Bool) → c ≡ replace up 0 (new ∷ []) single → ⊥

-- The element is an identifier token, whose text is a plain name.
pub record IsPlainIdentifier (edition : Edition) (e : Element) : Type 0 where
  pub text : List ℕ
  pub token : term_of e ≡ Some (Token (leaf_of IDENT text))
  pub utf8 : IsUtf8 text
  pub plain : is_plain_name edition (chars text) ≡ true

-- A token of the list starts at a byte.
pub record StartsToken (tokens : List LexedToken) (start : ℕ) : Type 0 where
  pub index : ℕ
  pub token : LexedToken
  pub is_at : slice_get tokens index ≡ Some token
  pub starts : token.range.start.0 ≡ start

-- Where the element starts, the text has an identifier token with its name: no raw identifier, and no prefix of a literal.
pub record IsNameToken (d : State) (e : Element) : Type 0 where
  pub number : ℕ
  pub starts : start_of e.place ≡ offset (lexed d.edition (chars d.text)) number
  pub raw : first_lexeme (texts (drop number (lexed d.edition (chars d.text)))) ≡ name_lexeme (chars (text_at e.place))
