-- Which texts are spelled: punctuation by its characters, and whatever `single_token` takes for one token without a message.
use Rattle.std.specs.Prelude.{◌≡◌, ℕ, ◌==◌, false, List, [], ◌∷◌, codes, Some, None}
use Rattle.std.specs.List.{All}
use Rattle.parser_input.specs.Keywords.{contextual_kind}
use Rattle.parser_input.specs.Kinds.{AMP2, AMPEQ, CARETEQ, COLON2, DOT2, DOT2EQ, EQ2, FAT_ARROW, GTEQ, IDENT, LTEQ, MINUSEQ, NEQ, PERCENTEQ, PIPE2, PIPEEQ, PIPE_GT, PLUSEQ, POUND, SHL, SHLEQ, SHR, SHREQ, SLASHEQ, STAREQ, THIN_ARROW}
use Rattle.parser_input.specs.Lexed.{quiet}
use Rattle.parser_input.specs.Single.{single}
use Rattle.parser_input.specs.declared.edition.Edition.{Edition}
use Rattle.parser_input.specs.declared.edition.Edition.TheVariants.{EditionNext}
use Rattle.spaced_core.specs.WellSpaced.{IsSpelled, characters_of}

-- a kind, and its text
pub record Spelling : Type 0 where
  pub kind : ℕ
  pub text : List ℕ

abbrev spelling : ℕ → List ℕ → Spelling
spelling kind text = record { kind = kind; text = text }

-- punctuation of several characters, but `|>`
abbrev pub punctuation : List Spelling
punctuation =
    spelling DOT2 (codes "..")
    ∷ spelling DOT2EQ (codes "..=")
    ∷ spelling COLON2 (codes "::")
    ∷ spelling EQ2 (codes "==")
    ∷ spelling FAT_ARROW (codes "=>")
    ∷ spelling NEQ (codes "!=")
    ∷ spelling LTEQ (codes "<=")
    ∷ spelling GTEQ (codes ">=")
    ∷ spelling AMP2 (codes "&&")
    ∷ spelling PIPE2 (codes "||")
    ∷ spelling SHL (codes "<<")
    ∷ spelling SHR (codes ">>")
    ∷ spelling THIN_ARROW (codes "->")
    ∷ spelling PLUSEQ (codes "+=")
    ∷ spelling MINUSEQ (codes "-=")
    ∷ spelling STAREQ (codes "*=")
    ∷ spelling SLASHEQ (codes "/=")
    ∷ spelling PERCENTEQ (codes "%=")
    ∷ spelling AMPEQ (codes "&=")
    ∷ spelling PIPEEQ (codes "|=")
    ∷ spelling CARETEQ (codes "^=")
    ∷ spelling SHLEQ (codes "<<=")
    ∷ spelling SHREQ (codes ">>=")
    ∷ []

-- In each edition punctuation is spelled by its characters; `|>` is where it is an operator.
abbrev pub PunctuationIsSpelled : Type 0
PunctuationIsSpelled =
    ((edition : Edition) → All (λ s. IsSpelled edition s.kind s.text) punctuation) × IsSpelled EditionNext PIPE_GT (codes "|>")

-- So is a text that is one token and one leaf of the kind, without a message, unless it is `#` or a contextual keyword.
abbrev pub SingleTokensAreSpelled : Type 0
SingleTokensAreSpelled =
    (edition : Edition) (kind : ℕ) (text : List ℕ) → single edition text ≡ Some (quiet kind text) →
    characters_of kind ≡ kind ∷ [] → (kind == POUND) ≡ false → (kind ≡ IDENT → contextual_kind edition text ≡ None) →
    IsSpelled edition kind text
