-- The input as it is recorded, token by token.
use Rattle.std.specs.Prelude.{ℕ, Bool, true, false, List, [], ◌∷◌, ◌++◌, slice_index_or, if◌then◌else◌}
use Rattle.parser_input.specs.Kinds.{EOF, IDENT, PIPE, PIPE_GT}
use Rattle.parser_input.specs.Input.{Token}

-- a token with all that is known of it
abbrev pub token : ℕ → ℕ → (joint whole : Bool) → Token
token kind contextual joint whole = record { kind = kind; contextual = contextual; joint = joint; whole = whole }

-- a token that is no identifier
abbrev pub plain : ℕ → Token
plain kind = record { kind = kind; contextual = EOF; joint = false; whole = false }

-- an identifier, with the kind that its word has as a contextual keyword
abbrev pub identifier : ℕ → Token
identifier contextual = record { kind = IDENT; contextual = contextual; joint = false; whole = false }

-- a `|` that is the first token of the operator `|>`
abbrev pub pipe : Token
pipe = record { kind = PIPE; contextual = PIPE_GT; joint = false; whole = false }

-- the same token, which touches the next one
abbrev pub touching : Token → Token
touching t = record { kind = t.kind; contextual = t.contextual; joint = true; whole = t.whole }

-- tokens, and one more where there was room
abbrev pub tokens_with : Bool → List Token → Token → List Token
tokens_with room tokens token = if room then tokens ++ token ∷ [] else tokens

-- the token at a place; past the end it is one of kind `EOF`
abbrev pub token_at : List Token → ℕ → Token
token_at tokens n = slice_index_or tokens n (plain EOF)
