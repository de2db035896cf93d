-- The leaves of a tree as the input tokens of a text with whitespace between them: no token touches the next, but inside
-- punctuation of several characters. Of a float's token the input has, in place of this, whether its text does not end in a dot;
-- a tree does not know that, so it is given.
use Rattle.std.specs.Prelude.{ℕ, ◌==◌, Bool, false, not, List, [], ◌∷◌, if◌then◌else◌}
use Rattle.parser_input.specs.Kinds.{AMP, AMP2, AMPEQ, BANG, CARET, CARETEQ, COLON, COLON2, DOT, DOT2, DOT2EQ, EQ, EQ2, FAT_ARROW, FLOAT_NUMBER, GTEQ, IDENT, LTEQ, L_ANGLE, MINUS, MINUSEQ, NEQ, PERCENT, PERCENTEQ, PIPE, PIPE2, PIPEEQ, PIPE_GT, PLUS, PLUSEQ, R_ANGLE, SHL, SHLEQ, SHR, SHREQ, SLASH, SLASHEQ, STAR, STAREQ, THIN_ARROW}
use Rattle.parser_input.specs.Input.{Token}
use Rattle.parser_events.specs.Forest.{Forest, End, Leaf, Said, ErrorLeaf, Node, Float}
use Rattle.core_language.specs.Tokens.{of_kind, name_token, joint_tokens, pipe_tokens}

-- a kind of leaf, and its characters
pub record Composite : Type 0 where
  pub kind : ℕ
  pub characters : List ℕ

-- the leaves of several characters
abbrev pub composites : List Composite
composites =
    record { kind = DOT2; characters = DOT ∷ DOT ∷ [] } ∷
    record { kind = DOT2EQ; characters = DOT ∷ DOT ∷ EQ ∷ [] } ∷
    record { kind = COLON2; characters = COLON ∷ COLON ∷ [] } ∷
    record { kind = EQ2; characters = EQ ∷ EQ ∷ [] } ∷
    record { kind = FAT_ARROW; characters = EQ ∷ R_ANGLE ∷ [] } ∷
    record { kind = NEQ; characters = BANG ∷ EQ ∷ [] } ∷
    record { kind = LTEQ; characters = L_ANGLE ∷ EQ ∷ [] } ∷
    record { kind = GTEQ; characters = R_ANGLE ∷ EQ ∷ [] } ∷
    record { kind = AMP2; characters = AMP ∷ AMP ∷ [] } ∷
    record { kind = PIPE2; characters = PIPE ∷ PIPE ∷ [] } ∷
    record { kind = SHL; characters = L_ANGLE ∷ L_ANGLE ∷ [] } ∷
    record { kind = SHR; characters = R_ANGLE ∷ R_ANGLE ∷ [] } ∷
    record { kind = THIN_ARROW; characters = MINUS ∷ R_ANGLE ∷ [] } ∷
    record { kind = PLUSEQ; characters = PLUS ∷ EQ ∷ [] } ∷
    record { kind = MINUSEQ; characters = MINUS ∷ EQ ∷ [] } ∷
    record { kind = STAREQ; characters = STAR ∷ EQ ∷ [] } ∷
    record { kind = SLASHEQ; characters = SLASH ∷ EQ ∷ [] } ∷
    record { kind = PERCENTEQ; characters = PERCENT ∷ EQ ∷ [] } ∷
    record { kind = AMPEQ; characters = AMP ∷ EQ ∷ [] } ∷
    record { kind = PIPEEQ; characters = PIPE ∷ EQ ∷ [] } ∷
    record { kind = CARETEQ; characters = CARET ∷ EQ ∷ [] } ∷
    record { kind = SHLEQ; characters = L_ANGLE ∷ L_ANGLE ∷ EQ ∷ [] } ∷
    record { kind = SHREQ; characters = R_ANGLE ∷ R_ANGLE ∷ EQ ∷ [] } ∷ []

-- the characters of a leaf, by these composites
abbrev pub characters_in : List Composite → ℕ → List ℕ
characters_in [] kind = kind ∷ []
characters_in (c ∷ cs) kind = let others = characters_in cs kind in if c.kind == kind then c.characters else others

-- the tokens of a leaf that is no float; a name is taken for no contextual keyword, and the first character of `|>` is marked
abbrev pub leaf_tokens : ℕ → List Token → List Token
leaf_tokens kind more =
    let name = name_token false ∷ more in
    let pipe = pipe_tokens false more in
    let other = joint_tokens (characters_in composites kind) false more in
    if kind == IDENT then name else if kind == PIPE_GT then pipe else other

-- the first of these; a float that has none does not touch the next token
abbrev pub first_float : List Bool → Bool
first_float [] = false
first_float (float ∷ floats) = float

-- those after the first
abbrev pub other_floats : List Bool → List Bool
other_floats [] = []
other_floats (float ∷ floats) = floats

-- The tokens of one leaf, and those after it, which are given the floats that are left.
abbrev pub leaf_before : ℕ → List Bool → (List Bool → List Token) → List Token
leaf_before kind floats more =
    let float = of_kind FLOAT_NUMBER (first_float floats) ∷ more (other_floats floats) in
    let other = leaf_tokens kind (more floats) in
    if kind == FLOAT_NUMBER then float else other

-- The tokens of the leaves of trees, and those after; `floats` tells of each float in its turn whether its text does not end in
-- a dot. The mark of a float after a dot tells it of itself.
unfoldable pub spaced_before : Forest → List Bool → (List Bool → List Token) → List Token
spaced_before End floats more = more floats
spaced_before (Leaf kind count f) floats more = leaf_before kind floats (λ left. spaced_before f left more)
spaced_before (Said message f) floats more = spaced_before f floats more
spaced_before (ErrorLeaf message kind f) floats more = leaf_before kind floats (λ left. spaced_before f left more)
spaced_before (Node kind children f) floats more = spaced_before children floats (λ left. spaced_before f left more)
spaced_before (Float ends_in_dot receiver f) floats more =
    spaced_before receiver floats (λ left. of_kind FLOAT_NUMBER (not ends_in_dot) ∷ spaced_before f left more)

-- the tokens of the leaves of trees
abbrev pub spaced : Forest → List Bool → List Token
spaced f floats = spaced_before f floats (λ left. [])
