-- Tokens of a text that spell a name but are not the identifier.
use Rattle.std.specs.Prelude.{ℕ, ◌+◌, ◌==◌, ◌&&◌, ◌||◌, Bool, List, [], ◌∷◌, ◌++◌, chars, codes, encode_utf8_all, Option, Some, None, if◌then◌else◌}
use Rattle.std.specs.List.{starts_with}
use Rattle.std.specs.Str.{bytes_eq}
use Rattle.rustc_lexer.specs.Characters.{size}
use Rattle.parser_input.specs.Kinds.{IDENT, STRING, BYTE_STRING, C_STRING, CHAR, BYTE, COMMENT, LIFETIME_IDENT, SHEBANG, FRONTMATTER, ERROR}
use Rattle.parser_input.specs.Lexed.{Lexed, lexed}
use Rattle.parser_input.specs.declared.edition.Edition.{Edition}
use Rattle.name_mentions.specs.Words.{names_in}
use Rattle.name_mentions.specs.declared.place.Mention.{Mention}
use Rattle.name_mentions.specs.declared.place.MentionPlace.{MentionPlace}
use Rattle.name_mentions.specs.declared.place.MentionPlace.TheVariants.{StringLiteral, CharLiteral, Comment, RawIdentifier, Lifetime, Other}

-- an identifier with this text is raw
abbrev pub is_raw : List ℕ → Bool
is_raw text = starts_with (λ a b. a == b) text (codes "r#")

-- The kind of token that may spell a name and is no identifier itself. A raw identifier is another spelling of one.
abbrev pub place_of : (kind : ℕ) (text : List ℕ) → Option MentionPlace
place_of kind text =
    if kind == STRING || (kind == BYTE_STRING || kind == C_STRING) then Some StringLiteral
    else (if kind == CHAR || kind == BYTE then Some CharLiteral
    else (if kind == COMMENT then Some Comment
    else (if kind == LIFETIME_IDENT then Some Lifetime
    else (if kind == IDENT then (if is_raw text then Some RawIdentifier else None)
    else (if kind == SHEBANG || (kind == FRONTMATTER || kind == ERROR) then Some Other
    else None)))))

-- the words for a place that spells a name
abbrev pub words_of : MentionPlace → List ℕ → List ℕ
words_of StringLiteral name = name ++ codes " in a string"
words_of CharLiteral name = name ++ codes " in a character"
words_of Comment name = name ++ codes " in a comment"
words_of RawIdentifier name = codes "r#" ++ name
words_of Lifetime name = codes "'" ++ name
words_of Other name = name ++ codes " in another token"

-- the places where a token of this kind spells a name; its text starts at an offset
abbrev pub mentions_by : Option MentionPlace → List ℕ → ℕ → List ℕ → List Mention
mentions_by None name at text = []
mentions_by (Some place) name at text = names_in name place at text

abbrev pub bytes_of : Lexed → List ℕ
bytes_of l = encode_utf8_all l.leaf.text

abbrev pub mentions_of_leaf : List ℕ → ℕ → Lexed → List Mention
mentions_of_leaf name at l = mentions_by (place_of l.leaf.kind (bytes_of l)) name at (bytes_of l)

-- the places where leaves spell a name but are not the identifier; the first leaf starts at the offset `at`
unfoldable pub mentions_from : List ℕ → ℕ → List Lexed → List Mention
mentions_from name at [] = []
mentions_from name at (l ∷ ls) = mentions_of_leaf name at l ++ mentions_from name (at + size l.leaf.text) ls

-- the places where a text spells a name but is not the identifier
abbrev pub mentions_in : List ℕ → Edition → List ℕ → List Mention
mentions_in name edition text = mentions_from name 0 (lexed edition (chars text))

-- a token with this kind and text is the identifier with a name
abbrev pub has_name : (name : List ℕ) (kind : ℕ) (text : List ℕ) → Bool
has_name name kind text = (kind == IDENT) && bytes_eq text name

abbrev pub is_identifier : List ℕ → Lexed → Bool
is_identifier name l = has_name name l.leaf.kind (bytes_of l)
