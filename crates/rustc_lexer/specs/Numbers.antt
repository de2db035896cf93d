-- Numbers by their parts: the prefix of a base, digits, a dot with digits, an exponent. Each part is as long as it can be.
use Rattle.std.specs.Prelude.{◌≡◌, ℕ, Bool, true, false, not, List, [], ◌∷◌, ◌++◌, Option, Some, None}
use Rattle.std.specs.List.{list_all}
use Rattle.rustc_lexer.specs.Characters.{dot, letter_b, letter_o, letter_x, is_digit}
use Rattle.rustc_lexer.specs.Scan.{peek}
use Rattle.rustc_lexer.specs.Lexeme.{base_of, digits_of, digit_or_underscore, has_digit, is_exponent, is_sign, is_point}
use Rattle.rustc_lexer.specs.declared.token.Base.{Base}
use Rattle.rustc_lexer.specs.declared.token.Base.TheVariants.{Binary, Octal, Decimal, Hexadecimal}
use Rattle.rustc_lexer.specs.declared.token.LiteralKind.{LiteralKind}
use Rattle.rustc_lexer.specs.declared.token.LiteralKind.TheVariants.{Int, Float}

-- the characters at the front of a text that pass, all of them, and what they leave
pub record LongestRun (passes : ℕ → Bool) (text run rest : List ℕ) : Type 0 where
  pub whole : text ≡ run ++ rest
  pub all : list_all passes run ≡ true
  pub longest : passes (peek 0 rest) ≡ false

-- the prefix of a base: `0b`, `0o`, `0x`
abbrev pub prefix : Base → List ℕ
prefix Binary = 48 ∷ letter_b ∷ []
prefix Octal = 48 ∷ letter_o ∷ []
prefix Decimal = []
prefix Hexadecimal = 48 ∷ letter_x ∷ []

-- the exponent at the front of a text, by its digits, and what it leaves: `e` or `E`, a sign or none, digits and `_`
pub data ExponentPart : List ℕ → Option (List ℕ) → List ℕ → Type 0 where
  no_exponent : {text : List ℕ} → is_exponent (peek 0 text) ≡ false → ExponentPart text None text
  unsigned : {e : ℕ} {text run rest : List ℕ} → is_exponent e ≡ true → is_sign (peek 0 text) ≡ false →
      LongestRun digit_or_underscore text run rest → ExponentPart (e ∷ text) (Some run) rest
  signed : {e s : ℕ} {text run rest : List ℕ} → is_exponent e ≡ true → is_sign s ≡ true →
      LongestRun digit_or_underscore text run rest → ExponentPart (e ∷ s ∷ text) (Some run) rest

-- whether a dot stands at the front of a text, and what it leaves, with the digits and `_` after it
pub data PointPart : List ℕ → Bool → List ℕ → Type 0 where
  no_point : {text : List ℕ} → is_point (peek 0 text) (peek 1 text) ≡ false → PointPart text false text
  point : {text run rest : List ℕ} → is_point dot (peek 0 text) ≡ true →
      LongestRun digit_or_underscore text run rest → PointPart (dot ∷ text) true rest

-- a number with a dot or an exponent is a float; an exponent without a digit is empty
abbrev pub number_kind : Base → Bool → Option (List ℕ) → LiteralKind
number_kind base false None = Int base false
number_kind base true None = Float base false
number_kind base pointed (Some exponent) = Float base (not (has_digit exponent))

-- the number at the front of a text, by its kind, and what it leaves
pub data NumberParts : List ℕ → LiteralKind → List ℕ → Type 0 where
  decimal : {text run mid end rest : List ℕ} {pointed : Bool} {exponent : Option (List ℕ)} →
      is_digit (peek 0 text) ≡ true → base_of (peek 0 text) (peek 1 text) ≡ None →
      LongestRun digit_or_underscore text run mid → PointPart mid pointed end → ExponentPart end exponent rest →
      NumberParts text (number_kind Decimal pointed exponent) rest
  based : {base : Base} {text run mid end rest : List ℕ} {pointed : Bool} {exponent : Option (List ℕ)} →
      (base ≡ Decimal → ⊥) → LongestRun (digits_of base) text run mid → has_digit run ≡ true →
      PointPart mid pointed end → ExponentPart end exponent rest →
      NumberParts (prefix base ++ text) (number_kind base pointed exponent) rest
  no_digits : {base : Base} {text run rest : List ℕ} →
      (base ≡ Decimal → ⊥) → LongestRun (digits_of base) text run rest → has_digit run ≡ false →
      NumberParts (prefix base ++ text) (Int base true) rest
