-- Names that belong to a macro definition: metavariables and fragment specifiers. The kinds before a token are the nearest first, and
-- without trivia.
use Rattle.std.specs.Prelude.{ℕ, ◌==◌, ◌&&◌, ◌||◌, not, Bool, true, false, List, [], ◌∷◌, codes}
use Rattle.std.specs.Str.{bytes_eq}
use Rattle.parser_input.specs.Kinds.{COLON, DOLLAR, TOKEN_TREE}

abbrev pub is_one_of : List ℕ → List (List ℕ) → Bool
is_one_of text [] = false
is_one_of text (word ∷ words) = bytes_eq text word || is_one_of text words

-- the words of fragment specifiers
abbrev pub fragments : List (List ℕ)
fragments =
    codes "block" ∷ codes "expr" ∷ codes "expr_2021" ∷ codes "ident" ∷ codes "item" ∷ codes "lifetime" ∷ codes "literal" ∷ codes "meta"
    ∷ codes "pat" ∷ codes "pat_param" ∷ codes "path" ∷ codes "stmt" ∷ codes "tt" ∷ codes "ty" ∷ codes "vis" ∷ []

abbrev pub is_fragment : List ℕ → Bool
is_fragment text = is_one_of text fragments

-- behind a `$`
abbrev pub follows_dollar : List ℕ → Bool
follows_dollar [] = false
follows_dollar (k ∷ ks) = k == DOLLAR

-- behind a metavariable and a colon, as `$x:`
abbrev pub follows_variable : List ℕ → Bool
follows_variable [] = false
follows_variable (c ∷ []) = false
follows_variable (c ∷ v ∷ []) = false
follows_variable (c ∷ v ∷ d ∷ ks) = (c == COLON) && ((d == DOLLAR) && not (v == TOKEN_TREE))

-- A token with this text belongs to a macro definition.
abbrev pub is_macro_name : (text before : List ℕ) → Bool
is_macro_name text before = follows_dollar before || (is_fragment text && follows_variable before)
