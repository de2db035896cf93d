-- Edits that turn one plain identifier into another: the tree of the new text is the old one with that token replaced.
use Rattle.std.specs.Prelude.{◌≡◌, ℕ, ◌-◌, ◌≤◌, true, List, [], map, take, drop, length, chars, slice_get, Some}
use Rattle.std.specs.Str.{IsUtf8}
use Rattle.rustc_lexer.specs.Tokens.{first_lexeme}
use Rattle.rowan_green.specs.Forest.{Tree}
use Rattle.rowan_green.specs.declared.utility_types.NodeOrToken.TheVariants.{Token}
use Rattle.rowan.specs.Place.{Place, term_at, text_at, term_by, start_by}
use Rattle.rowan.specs.Replace.{put_token}
use Rattle.parser_input.specs.Kinds.{IDENT}
use Rattle.parser_input.specs.declared.edition.Edition.{Edition}
use Rattle.ra_parser.specs.declared.grammar.Grammar.{Grammar}
use Rattle.plain_names.specs.Forests.{leaf_of}
use Rattle.plain_names.specs.TokenNames.{name_lexeme}
use Rattle.rust_document.specs.NextReading.{tokens_in}
use Rattle.rust_document.specs.Reading.{tree_in}
use Rattle.rust_document.specs.Renames.{is_plain_name}
use Rattle.rust_document.specs.Tokens.{tokens_of, span_of}
use Rattle.rust_document.specs.declared.name_edit.Names.{Names}
use Rattle.rust_document.specs.declared.name_edit.ReadText.{ReadText}
use Rattle.rust_document.specs.declared.name_edit.TokenPlace.{TokenPlace}
use Rattle.rust_document.specs.declared.tokens.LexedToken.{LexedToken}

-- The tokens and the root are those of the text.
pub record IsRead (text : List ℕ) (r : ReadText) : Type 0 where
  pub tokens_are : map span_of r.tokens.now ≡ tokens_of r.edition (chars text)
  pub root_is : r.root.now.place ≡ record { root = tree_in r.grammar r.edition (chars text); up = [] }

-- A token of the list contains the bytes from `start` to just before `end`.
pub record IsAround (tokens : List LexedToken) (start end : ℕ) (p : TokenPlace) : Type 0 where
  pub token : LexedToken
  pub is_at : slice_get tokens p.index ≡ Some token
  pub own_range : token.range ≡ p.range
  pub from_start : p.range.start.0 ≤ start
  pub to_end : end ≤ p.range.end.0

-- the bytes of a text from `start` to just before `end`
pub record IsPart (text : List ℕ) (start end : ℕ) (part : List ℕ) : Type 0 where
  pub in_order : start ≤ end
  pub within : end ≤ length text
  pub is : part ≡ take (end - start) (drop start text)
  pub utf8 : IsUtf8 part

-- The bytes of a range, before and after an edit within it: both are plain names, and the first one is an identifier token.
pub record ArePlainNames (edition : Edition) (before after : List ℕ) (start end : ℕ) (n : Names) : Type 0 where
  pub back : length before - end ≤ length after
  pub old_is : IsPart before start end n.old.now
  pub new_is : IsPart after start (length after - (length before - end)) n.new.now
  pub old_plain : is_plain_name edition (chars n.old.now) ≡ true
  pub new_plain : is_plain_name edition (chars n.new.now) ≡ true
  pub rest_text : IsUtf8 (drop start before)
  pub is_token : first_lexeme (chars (drop start before)) ≡ name_lexeme (chars n.old.now)

-- The root of an identifier's tree, the identifier replaced by `name`.
pub record IsPut (p : Place) (name : List ℕ) (root : Tree) : Type 0 where
  pub stands : term_at p ≡ Some (Token (leaf_of IDENT (text_at p)))
  pub is : root ≡ put_token p.root p.up (leaf_of IDENT name)

-- A tree with the identifier replaced that starts at a byte.
pub record IsTokenReplaced (t : Tree) (start : ℕ) (n : Names) (root : Tree) : Type 0 where
  pub up : List ℕ
  pub stands : term_by t up ≡ Some (Token (leaf_of IDENT n.old.now))
  pub starts : start_by t up ≡ start
  pub is : root ≡ put_token t up (leaf_of IDENT n.new.now)

-- The tree is that of the second text, which has the first one's parser's input.
pub record IsRenamedTree (grammar : Grammar) (edition : Edition) (before after : List ℕ) (root : Tree) : Type 0 where
  pub is_read : root ≡ tree_in grammar edition (chars after)
  pub same_input : tokens_in grammar edition (chars before) ≡ tokens_in grammar edition (chars after)
