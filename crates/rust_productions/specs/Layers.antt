-- Layers of operators, one within the other.
use Rattle.std.specs.Prelude.{ℕ, zero, suc, List, [], ◌∷◌, get_or}
use Rattle.parser_input.specs.Kinds.{BIN_EXPR, CAST_EXPR}
use Rattle.parser_events.specs.Forest.{ExpectedExpression}
use Rattle.rust_grammar.specs.Calls.{TypeNoBounds}
use Rattle.rust_grammar.specs.Expressions.{assignment}
use Rattle.rust_grammar.specs.Notation.{◌or◌, ◌▸◌, ◌!, ◌<⟨◌⟩, op}
use Rattle.rust_grammar.specs.Words.{'==', '!=', '<=', '>=', '&&', '||', '|>', '<<', '>>', '<', '>', '-', '&', '|', '+', '*', '/', '^', '%', 'as'}
use Rattle.rust_grammar.specs.Rule.{Production, disjunction, conjunction, comparison, bit_or, bit_xor, bit_and, bit_shift, sum, product, cast, prefixed, Never, Rule, Nothing, One, Then, Star, Want, When, Call}

-- by height: operands with their prefixes, and above them the layers, the tightest first
unfoldable pub layers : List Production
layers = prefixed ∷ cast ∷ product ∷ sum ∷ bit_shift ∷ bit_and ∷ bit_xor ∷ bit_or ∷ comparison ∷ conjunction ∷ disjunction ∷ []

unfoldable pub layer_at : ℕ → Production
layer_at height = get_or layers height disjunction

abbrev pub never : Rule
never = When Never Nothing

-- The operators of each layer, by its height; above the layers stand `|>`, whose operands are those of the top layer, and above
-- that the operators of assignments.
unfoldable pub operators : List Rule
operators =
    never
    ∷ One 'as'
    ∷ (op '*' or op '/' or op '%')
    ∷ (op '+' or op '-')
    ∷ (op '<<' or op '>>')
    ∷ op '&'
    ∷ op '^'
    ∷ op '|'
    ∷ (op '==' or op '!=' or op '<' or op '>' or op '<=' or op '>=')
    ∷ op '&&'
    ∷ op '||'
    ∷ op '|>'
    ∷ assignment
    ∷ []

unfoldable pub operators_at : ℕ → Rule
operators_at height = get_or operators height never

-- An operator of the layer of this height and its right operand: a type, or an operand of the layer below.
unfoldable pub turn_at : ℕ → Rule
turn_at zero = never
turn_at (suc zero) = CAST_EXPR <⟨ operators_at 1 ▸ TypeNoBounds ! ⟩
turn_at (suc (suc h)) = BIN_EXPR <⟨ operators_at (suc (suc h)) ▸ Want (Call (layer_at (suc h))) ExpectedExpression ⟩

-- the turns of `count` layers, from the height `low` on
unfoldable pub turns_from : (count low : ℕ) → List Rule
turns_from zero low = []
turns_from (suc n) low = turn_at low ∷ turns_from n (suc low)

-- The turns of some layers, those of the layer that binds most first: each repeated, one after the other.
abbrev pub repeated : List Rule → Rule
repeated [] = Nothing
repeated (a ∷ xs) = Then (Star a) (repeated xs)
