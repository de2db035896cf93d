-- The input tokens of the core language. In all that follows a `Bool` named after a token says whether that token touches the
-- next one; where it is free, whitespace makes no difference.
use Rattle.std.specs.Prelude.{ℕ, Bool, true, false, List, [], ◌∷◌}
use Rattle.parser_input.specs.Kinds.{EOF, IDENT, PIPE, R_ANGLE, PIPE_GT}
use Rattle.parser_input.specs.Input.{Token}

-- a token of this kind that is no name: a keyword, a literal, one character of punctuation
abbrev pub of_kind : ℕ → Bool → Token
of_kind kind joint = record { kind = kind; contextual = EOF; joint = joint; whole = false }

-- a name, which is no keyword, and no contextual keyword either
abbrev pub name_token : Bool → Token
name_token joint = record { kind = IDENT; contextual = IDENT; joint = joint; whole = false }

-- Punctuation of these characters, and the tokens after it: one token a character, of which each but the last touches the next.
abbrev pub joint_tokens : List ℕ → Bool → List Token → List Token
joint_tokens [] joint more = more
joint_tokens (kind ∷ []) joint more = of_kind kind joint ∷ more
joint_tokens (kind ∷ next ∷ kinds) joint more = of_kind kind true ∷ joint_tokens (next ∷ kinds) joint more

-- The operator `|>`, and the tokens after it: a `|` that is marked as its first character, and a `>`.
abbrev pub pipe_tokens : Bool → List Token → List Token
pipe_tokens joint more = record { kind = PIPE; contextual = PIPE_GT; joint = true; whole = false } ∷ of_kind R_ANGLE joint ∷ more

-- These tokens in an input that is read by the whole language.
unfoldable pub of_whole : List Token → List Token
of_whole [] = []
of_whole (t ∷ ts) = record { kind = t.kind; contextual = t.contextual; joint = t.joint; whole = true } ∷ of_whole ts
