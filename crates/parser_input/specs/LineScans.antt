-- The two scans for whitespace at the ends of a text, by what they find.
use Rattle.std.specs.Prelude.{◌≡◌, ℕ, ◌≤◌, ◌⊎◌, Bool, true, not, ◌==◌, List, [], ◌∷◌, ◌++◌, length, take, drop}
use Rattle.std.specs.List.{All}
use Rattle.rustc_lexer.specs.Characters.{line_feed, is_whitespace}
use Rattle.parser_input.specs.Lines.{blank_len, solid_len}

-- a text whose last character is of this sort
pub record EndsIn (sort : ℕ → Bool) (text : List ℕ) : Type 0 where
  pub init : List ℕ
  pub last : ℕ
  pub text_is : text ≡ init ++ last ∷ []
  pub last_is : sort last ≡ true

abbrev pub IsEmptyOrEndsIn : (ℕ → Bool) → List ℕ → Type 0
IsEmptyOrEndsIn sort text = (text ≡ []) ⊎ EndsIn sort text

abbrev pub AreSpaces : List ℕ → Type 0
AreSpaces text = All (λ c. is_whitespace c ≡ true) text

-- whole lines of whitespace
abbrev pub AreBlankLines : List ℕ → Type 0
AreBlankLines text = AreSpaces text × IsEmptyOrEndsIn (λ c. c == line_feed) text

-- `blank_len` is the length of the longest front of a text that is blank lines alone.
pub record BlankLines (text : List ℕ) : Type 0 where
  pub within : blank_len text ≤ length text
  pub blank : AreBlankLines (take (blank_len text) text)
  pub longest : (front rest : List ℕ) → text ≡ front ++ rest → AreBlankLines front → length front ≤ blank_len text

-- `solid_len` is the length of a text without the whitespace at its end.
pub record SolidPart (text : List ℕ) : Type 0 where
  pub within : solid_len text ≤ length text
  pub solid : IsEmptyOrEndsIn (λ c. not (is_whitespace c)) (take (solid_len text) text)
  pub spaces : AreSpaces (drop (solid_len text) text)

abbrev pub BlankLinesAreLongest : Type 0
BlankLinesAreLongest = (text : List ℕ) → BlankLines text

abbrev pub SpacesEndTexts : Type 0
SpacesEndTexts = (text : List ℕ) → SolidPart text
