-- Tokens that end before whitespace.
use Rattle.std.specs.Prelude.{◌≡◌, ℕ, Bool, true, false, is_some, List, ◌∷◌, ◌++◌}
use Rattle.std.specs.List.{All}
use Rattle.rustc_lexer.specs.Characters.{is_whitespace}
use Rattle.rustc_lexer.specs.Tokens.{tokens}
use Rattle.rustc_lexer.specs.declared.token.LiteralKind.{LiteralKind}
use Rattle.rustc_lexer.specs.declared.token.LiteralKind.TheVariants.{Int, Float, Char, Byte, Str, ByteStr, CStr, RawStr, RawByteStr, RawCStr}
use Rattle.rustc_lexer.specs.declared.token.TokenKind.{TokenKind}
use Rattle.rustc_lexer.specs.declared.token.TokenKind.TheVariants.{LineComment, BlockComment, Whitespace, Literal}

-- the literal has its closing quote, or needs none
unfoldable pub is_terminated : LiteralKind → Bool
is_terminated (Int base empty) = true
is_terminated (Float base empty) = true
is_terminated (Char terminated) = terminated
is_terminated (Byte terminated) = terminated
is_terminated (Str terminated) = terminated
is_terminated (ByteStr terminated) = terminated
is_terminated (CStr terminated) = terminated
is_terminated (RawStr hashes) = is_some hashes
is_terminated (RawByteStr hashes) = is_some hashes
is_terminated (RawCStr hashes) = is_some hashes

-- Whitespace after the token is no part of it.
unfoldable pub is_closed : TokenKind → Bool
is_closed (LineComment style) = false
is_closed (BlockComment style terminated) = terminated
is_closed Whitespace = false
is_closed (Literal kind suffix_start) = is_terminated kind
is_closed kind = true

-- Whitespace after a text whose tokens are closed starts a new token.
abbrev pub SpaceEndsTokens : Type 0
SpaceEndsTokens =
    (text : List ℕ) (space : ℕ) (rest : List ℕ) → is_whitespace space ≡ true →
    All (λ l. is_closed l.kind ≡ true) (tokens text) →
    tokens (text ++ space ∷ rest) ≡ tokens text ++ tokens (space ∷ rest)
