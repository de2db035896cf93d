-- Trees whose leaves are parted by whitespace and spelled as their kinds.
use Rattle.std.specs.Prelude.{◌≡◌, ℕ, ◌==◌, ◌&&◌, ◌||◌, Bool, true, false, not, List, [], ◌∷◌, ◌++◌, length, map, chars, None, is_none, if◌then◌else◌}
use Rattle.std.specs.List.{list_all}
use Rattle.std.specs.Str.{IsUtf8}
use Rattle.rustc_lexer.specs.Characters.{is_whitespace}
use Rattle.rustc_lexer.specs.Tokens.{Lexeme, tokens}
use Rattle.rowan_green.specs.Forest.{Forest, empty, node, leaf, Tree}
use Rattle.rowan_green.specs.Leaf.{Leaf}
use Rattle.parser_input.specs.Edition.{is_from}
use Rattle.parser_input.specs.Kind.{is_trivia}
use Rattle.parser_input.specs.Kinds.{COMMENT, IDENT, PIPE, PIPE_GT, R_ANGLE, WHITESPACE}
use Rattle.parser_input.specs.Keywords.{contextual_kind}
use Rattle.parser_input.specs.Leaf.{leaves}
use Rattle.parser_input.specs.Lexed.{is_split}
use Rattle.parser_input.specs.Messages.{message_of}
use Rattle.parser_input.specs.Input.{Token}
use Rattle.parser_input.specs.declared.edition.Edition.{Edition}
use Rattle.parser_input.specs.declared.edition.Edition.TheVariants.{EditionNext}
use Rattle.parser_events.specs.Forest as parser
use Rattle.core_language.specs.Language.{IsCoreFile}
use Rattle.core_language.specs.Spaced.{characters_in, composites}

-- The kinds of the tokens that a leaf of this kind has in a text: punctuation of several characters has one for each.
unfoldable pub characters_of : ℕ → List ℕ
characters_of kind =
    let pipe = PIPE ∷ R_ANGLE ∷ [] in
    let other = characters_in composites kind in
    if kind == PIPE_GT then pipe else other

-- The token is one leaf, and has no message.
unfoldable pub is_sound : Edition → Lexeme → Bool
is_sound edition t = not (is_split edition t.kind) && is_none (message_of edition t.kind t.text)

-- The text reads as the tokens of the kind, without messages; an identifier is no contextual keyword, and `|>` is an
-- operator of the edition.
pub record IsSpelled (edition : Edition) (kind : ℕ) (text : List ℕ) : Type 0 where
  pub kinds : map (λ l. l.kind) (leaves edition text) ≡ characters_of kind
  pub sound : list_all (is_sound edition) (tokens text) ≡ true
  pub name : kind ≡ IDENT → contextual_kind edition text ≡ None
  pub pipe : kind ≡ PIPE_GT → is_from EditionNext edition ≡ true

-- one or more whitespace characters
abbrev pub is_space : List ℕ → Bool
is_space [] = false
is_space (c ∷ cs) = is_whitespace c && list_all is_whitespace cs

-- The leaf is whitespace, or it is spelled as its kind and is no comment.
pub record IsWritten (edition : Edition) (l : Leaf) : Type 0 where
  pub utf8 : IsUtf8 l.text
  pub no_comment : (l.kind == COMMENT) ≡ false
  pub space : (l.kind == WHITESPACE) ≡ true → is_space (chars l.text) ≡ true
  pub spelled : (l.kind == WHITESPACE) ≡ false → IsSpelled edition l.kind (chars l.text)

-- This leaf or the next one is whitespace.
abbrev pub is_parted : Leaf → List Leaf → Bool
is_parted l [] = true
is_parted l (m ∷ ls) = (l.kind == WHITESPACE) || (m.kind == WHITESPACE)

-- Each leaf is written so, and of two leaves side by side one is whitespace.
abbrev pub AreSpaced : Edition → List Leaf → Type 0
AreSpaced edition [] = Unit {0}
AreSpaced edition (l ∷ ls) = IsWritten edition l × (is_parted l ls ≡ true) × AreSpaced edition ls

-- the leaves of a forest, from left to right
abbrev pub leaves_of : Forest → List Leaf
leaves_of empty = []
leaves_of (node k f r) = leaves_of f ++ leaves_of r
leaves_of (leaf l r) = l ∷ leaves_of r

-- the parser's trees of a forest, which have no whitespace and no comments
unfoldable pub shape : Forest → parser.Forest
shape empty = parser.End
shape (node k f r) = parser.Node k (shape f) (shape r)
shape (leaf l r) =
    let rest = shape r in
    if is_trivia l.kind then rest else parser.Leaf l.kind (length (characters_of l.kind)) rest

-- The leaves of the tree are spaced, and without whitespace it is the tree of a core file.
pub record IsWellSpaced (edition : Edition) (t : Tree) : Type 0 where
  pub spaced : AreSpaced edition (leaves_of t.forest)
  pub tokens : List Token
  pub core : IsCoreFile tokens (parser.Node t.kind (shape t.forest) parser.End)
