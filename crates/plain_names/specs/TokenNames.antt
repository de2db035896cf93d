-- The tokens of a text in which identifiers are renamed.
use Rattle.std.specs.Prelude.{◌≡◌, ℕ, suc, ◌≤◌, true, false, ◌&&◌, ◌==◌, List, [], ◌∷◌, ◌++◌, length, take, drop}
use Rattle.rustc_lexer.specs.Characters.{letter_r, is_id_start, is_ident}
use Rattle.rustc_lexer.specs.Scan.{peek}
use Rattle.rustc_lexer.specs.Lexeme.{lexeme, opens_raw}
use Rattle.rustc_lexer.specs.Tokens.{Lexeme, first_lexeme, tokens, joined, token_list}
use Rattle.rustc_lexer.specs.Shebang.{opens_attribute}
use Rattle.rustc_lexer.specs.declared.token.TokenKind.TheVariants.{Ident}

-- The text starts with a name, and with no raw string or raw identifier.
pub record StartsWithName (text : List ℕ) : Type 0 where
  pub starts : is_id_start (peek 0 text) ≡ true
  pub not_raw : (peek 0 text == letter_r && opens_raw (peek 1 text)) ≡ false

-- A lexeme that ends before a name does not depend on that name.
abbrev pub LexemesIgnoreNames : Type 0
LexemesIgnoreNames =
    (front text other : List ℕ) → StartsWithName text → StartsWithName other →
    (lexeme (front ++ text)).taken ≤ length front → lexeme (front ++ other) ≡ lexeme (front ++ text)

-- the identifier token with this text
abbrev pub name_lexeme : List ℕ → Lexeme
name_lexeme name = record { kind = Ident; text = name }

-- Where one identifier token is replaced by another identifier, all other tokens stay.
abbrev pub RenamingKeepsTokens : Type 0
RenamingKeepsTokens =
    (k : ℕ) (front name other rest : List ℕ) →
    joined (take k (tokens (front ++ (name ++ rest)))) ≡ front →
    first_lexeme (name ++ rest) ≡ name_lexeme name → is_ident other ≡ true →
    tokens (front ++ (other ++ rest))
    ≡ take k (tokens (front ++ (name ++ rest))) ++ name_lexeme other
    ∷ drop (suc k) (tokens (front ++ (name ++ rest)))

-- The second tokens are the first ones, some identifiers replaced by identifiers.
pub data AreRenamedTokens : List Lexeme → List Lexeme → Type 0 where
  none : AreRenamedTokens [] []
  same :
      {l : Lexeme} {ls ms : List Lexeme}
      → AreRenamedTokens ls ms → AreRenamedTokens (l ∷ ls) (l ∷ ms)
  renamed :
      {name other : List ℕ} {ls ms : List Lexeme}
      → is_ident other ≡ true → AreRenamedTokens ls ms
      → AreRenamedTokens (name_lexeme name ∷ ls) (name_lexeme other ∷ ms)

-- Any identifier tokens of a text may be renamed at once: the new text has exactly these tokens.
abbrev pub RenamedTextsHaveTheirTokens : Type 0
RenamedTextsHaveTheirTokens =
    (text : List ℕ) (ms : List Lexeme) → AreRenamedTokens (tokens text) ms → tokens (joined ms) ≡ ms

-- Whether a text opens an attribute, which tells `#![` from a shebang, does not depend on names.
abbrev pub AttributesIgnoreNames : Type 0
AttributesIgnoreNames =
    (front name other rest : List ℕ) →
    first_lexeme (name ++ rest) ≡ name_lexeme name → is_ident other ≡ true →
    opens_attribute (token_list (front ++ (other ++ rest)))
    ≡ opens_attribute (token_list (front ++ (name ++ rest)))
