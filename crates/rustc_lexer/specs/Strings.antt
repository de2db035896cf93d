-- Strings by what they are made of.
use Rattle.std.specs.Prelude.{ℕ, Bool, Option}
use Rattle.rustc_lexer.specs.declared.literals.StringKind.{StringKind}
use Rattle.rustc_lexer.specs.declared.literals.StringKind.TheVariants.{Str, ByteStr, CStr}
use Rattle.rustc_lexer.specs.declared.token.LiteralKind.{LiteralKind}
use Rattle.rustc_lexer.specs.declared.token.LiteralKind.TheVariants as literals

-- the letters that tell the kind
abbrev pub letters : StringKind → ℕ
letters Str = 0
letters ByteStr = 1
letters CStr = 1

-- the kind of the literal, by whether it is closed
abbrev pub quoted_kind : StringKind → Bool → LiteralKind
quoted_kind Str = λ terminated. literals.Str terminated
quoted_kind ByteStr = λ terminated. literals.ByteStr terminated
quoted_kind CStr = λ terminated. literals.CStr terminated

-- the kind of the raw literal, by its hashes
abbrev pub raw_kind : StringKind → Option ℕ → LiteralKind
raw_kind Str = λ hashes. literals.RawStr hashes
raw_kind ByteStr = λ hashes. literals.RawByteStr hashes
raw_kind CStr = λ hashes. literals.RawCStr hashes
