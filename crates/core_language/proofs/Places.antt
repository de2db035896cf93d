-- What may follow an expression, and how the layers of operators are numbered: 0 for casts, then from products up to `||`. The
-- turns of `|>` are those of a layer 10, which is no production of its own.
use Rattle.std.proofs.Common.{◌≡◌, ℕ, zero, suc, ◌+◌, ◌≤◌, ◌⊎◌, inl, inr, arith, Bool, true, false, not, ◌&&◌, List, ◌∷◌, refl, ◌==◌}
use Rattle.parser_input.specs.Input.{Token}
use Rattle.parser_input.specs.Kinds.{AS_KW, DOT, QUESTION, COLON, BANG, L_CURLY, L_PAREN, L_BRACK, BIN_EXPR}
use Rattle.parser_events.specs.Forest.{ExpectedExpression, Forest, End}
use Rattle.rust_grammar.specs.Rule.{Production, cast, product, sum, bit_shift, bit_and, bit_xor, bit_or, comparison, conjunction, disjunction, block_like, Both, Not, Kind, Rule, Then, Or, Wrap, Want, Call}
use Rattle.rust_grammar.specs.Meaning.{ahead, sees}
use Rattle.rust_grammar.specs.Notation.{op, next}
use Rattle.rust_grammar.specs.Words.{'==', '!=', '<=', '>=', '&&', '||', '|>', '<<', '>>', '<', '>', '-', '&', '|', '+', '*', '/', '^', '%'}
use Rattle.core_language.specs.Operators.{BitAnd, BitOr, BitXor, Divide, Equal, Greater, GreaterOrEqual, Less, LessOrEqual, LogicalAnd, LogicalOr, Minus, NotEqual, Operator, Pipe, Plus, Remainder, ShiftLeft, ShiftRight, Times, power}
use Rattle.core_language.specs.Expressions.{Expression, expression_tree}
use Rattle.core_language.proofs.Rules.{at, begins_at}
use Rattle.core_language.proofs.Flagged.{name_token}

-- the production of a layer
abbrev pub layer_of : ℕ → Production
layer_of zero = cast
layer_of (suc zero) = product
layer_of (suc (suc zero)) = sum
layer_of (suc (suc (suc zero))) = bit_shift
layer_of (suc (suc (suc (suc zero)))) = bit_and
layer_of (suc (suc (suc (suc (suc zero))))) = bit_xor
layer_of (suc (suc (suc (suc (suc (suc zero)))))) = bit_or
layer_of (suc (suc (suc (suc (suc (suc (suc zero))))))) = comparison
layer_of (suc (suc (suc (suc (suc (suc (suc (suc zero)))))))) = conjunction
layer_of _ = disjunction

-- the operators of the layer suc d
abbrev pub ops : ℕ → Rule
ops zero = Or (op '*') (Or (op '/') (op '%'))
ops (suc zero) = Or (op '+') (op '-')
ops (suc (suc zero)) = Or (op '<<') (op '>>')
ops (suc (suc (suc zero))) = op '&'
ops (suc (suc (suc (suc zero)))) = op '^'
ops (suc (suc (suc (suc (suc zero))))) = op '|'
ops (suc (suc (suc (suc (suc (suc zero)))))) = Or (op '==') (Or (op '!=') (Or (op '<') (Or (op '>') (Or (op '<=') (op '>=')))))
ops (suc (suc (suc (suc (suc (suc (suc zero))))))) = op '&&'
ops (suc (suc (suc (suc (suc (suc (suc (suc zero)))))))) = op '||'
ops _ = op '|>'

-- a turn of the layer suc d
abbrev pub turn : ℕ → Rule
turn d = Wrap BIN_EXPR (Then (ops d) (Want (Call (layer_of d)) ExpectedExpression))

-- the layer of an operator, less one
abbrev pub under : Operator → ℕ
under Pipe = 9
under LogicalOr = 8
under LogicalAnd = 7
under Equal = 6
under NotEqual = 6
under Less = 6
under Greater = 6
under LessOrEqual = 6
under GreaterOrEqual = 6
under BitOr = 5
under BitXor = 4
under BitAnd = 3
under ShiftLeft = 2
under ShiftRight = 2
under Plus = 1
under Minus = 1
under Times = 0
under Divide = 0
under Remainder = 0

-- An operator is `|>`, or of one of nine layers; no operator has the power 3.
pub place : (o : Operator) → (o ≡ Pipe) ⊎ ((under o + power o ≡ 12) × (under o ≤ 8))
place Pipe = inl refl
place LogicalOr = inr (refl, omega arith)
place LogicalAnd = inr (refl, omega arith)
place Equal = inr (refl, omega arith)
place NotEqual = inr (refl, omega arith)
place Less = inr (refl, omega arith)
place Greater = inr (refl, omega arith)
place LessOrEqual = inr (refl, omega arith)
place GreaterOrEqual = inr (refl, omega arith)
place BitOr = inr (refl, omega arith)
place BitXor = inr (refl, omega arith)
place BitAnd = inr (refl, omega arith)
place ShiftLeft = inr (refl, omega arith)
place ShiftRight = inr (refl, omega arith)
place Plus = inr (refl, omega arith)
place Minus = inr (refl, omega arith)
place Times = inr (refl, omega arith)
place Divide = inr (refl, omega arith)
place Remainder = inr (refl, omega arith)

-- The next token is not of this kind.
abbrev pub IsNotNext : ℕ → List Token → Type 0
IsNotNext k more = ((ahead 0 more).kind == k) ≡ false

-- Nothing here goes on with a path: no `::`, no `{`, no `!` but that of `!=`.
pub record Calm (flag : Bool) (more : List Token) : Type 0 where
  pub colon : IsNotNext COLON more
  pub curly : IsNotNext L_CURLY more
  pub block : (j : Bool) (g : Forest) → begins_at (Call block_like) (at g (name_token flag j ∷ more)) ≡ false
  pub bang : (g : Forest) → sees false (at g more) (Both (Not (next '!=')) (Kind 0 BANG)) ≡ false

-- Nothing here goes on with an atom or a cast.
pub record Base (more : List Token) : Type 0 where
  pub cast : IsNotNext AS_KW more
  pub paren : IsNotNext L_PAREN more
  pub bracket : IsNotNext L_BRACK more
  pub question : IsNotNext QUESTION more
  pub dot : IsNotNext DOT more

-- No operator of the lowest d layers stands here.
abbrev pub Stops : ℕ → List Token → Type 0
Stops zero more = Base more
Stops (suc d) more = ((g : Forest) → begins_at (turn d) (at g more) ≡ false) × Stops d more

-- `Calm`, `Base` and `Stops` as tests, which compute if the next tokens are known.
abbrev pub is_calm : (flag : Bool) → Bool → Forest → List Token → Bool
is_calm flag j g more =
    let kind = (ahead 0 more).kind in
    let block = begins_at (Call block_like) (at g (name_token flag j ∷ more)) in
    let bang = sees false (at g more) (Both (Not (next '!=')) (Kind 0 BANG)) in
    not (kind == COLON) && not (kind == L_CURLY) && not block && not bang

-- nothing here goes on with an atom or a cast
abbrev pub is_base : List Token → Bool
is_base more =
    let kind = (ahead 0 more).kind in
    not (kind == AS_KW) && not (kind == L_PAREN) && not (kind == L_BRACK) && not (kind == QUESTION) && not (kind == DOT)

-- no operator of the lowest d layers stands here
abbrev pub stops_at : ℕ → Forest → List Token → Bool
stops_at zero g more = is_base more
stops_at (suc d) g more = not (begins_at (turn d) (at g more)) && stops_at d g more

none-of-four : (a b c d : Bool) → (not a && not b && not c && not d) ≡ true → (a ≡ false) × (b ≡ false) × (c ≡ false) × (d ≡ false)
none-of-four false false false false e = (refl, refl, refl, refl)
none-of-four true b c d e = absurd cc
none-of-four false true c d e = absurd cc
none-of-four false false true d e = absurd cc
none-of-four false false false true e = absurd cc

pub calm-of : (flag : Bool) (more : List Token) → ((j : Bool) (g : Forest) → is_calm flag j g more ≡ true) → Calm flag more
calm-of flag more e =
    let block : Bool → Forest → Bool = λ j g. begins_at (Call block_like) (at g (name_token flag j ∷ more)) in
    let bang : Forest → Bool = λ g. sees false (at g more) (Both (Not (next '!=')) (Kind 0 BANG)) in
    let kind = (ahead 0 more).kind in
    let none : (j : Bool) (g : Forest) → (kind == COLON ≡ false) × (kind == L_CURLY ≡ false) × (block j g ≡ false) × (bang g ≡ false) =
    λ j g. none-of-four (kind == COLON) (kind == L_CURLY) (block j g) (bang g) (e j g) in
    record { colon = (none true End).0; curly = (none true End).1; block = λ j g. (none j g).2; bang = λ g. (none true g).3 }

base-of : (more : List Token) → is_base more ≡ true → Base more
base-of more e =
    let kind = (ahead 0 more).kind in
    let none = none-of-five (kind == AS_KW) (kind == L_PAREN) (kind == L_BRACK) (kind == QUESTION) (kind == DOT) e in
    record { cast = none.0; paren = none.1; bracket = none.2; question = none.3; dot = none.4 }
  where
    none-of-five : (a b c d x : Bool) → (not a && not b && not c && not d && not x) ≡ true
        → (a ≡ false) × (b ≡ false) × (c ≡ false) × (d ≡ false) × (x ≡ false)
    none-of-five false false false false false e = (refl, refl, refl, refl, refl)
    none-of-five true b c d x e = absurd cc
    none-of-five false true c d x e = absurd cc
    none-of-five false false true d x e = absurd cc
    none-of-five false false false true x e = absurd cc
    none-of-five false false false false true e = absurd cc

pub stops-of : (d : ℕ) (more : List Token) → ((g : Forest) → stops_at d g more ≡ true) → Stops d more
stops-of zero more e = base-of more (e End)
stops-of (suc d) more e =
    let test : Forest → Bool = λ g. begins_at (turn d) (at g more) in
    let parts : (g : Forest) → (test g ≡ false) × (stops_at d g more ≡ true) = λ g. first-false (test g) (stops_at d g more) (e g) in
    (λ g. (parts g).0, stops-of d more (λ g. (parts g).1))
  where
    first-false : (a b : Bool) → (not a && b) ≡ true → (a ≡ false) × (b ≡ true)
    first-false false true e = (refl, refl)
    first-false true b e = absurd cc
    first-false false false e = absurd cc

-- whether an opening bracket is next
abbrev pub is_paren : List Token → Bool
is_paren more = (ahead 0 more).kind == L_PAREN

-- the node of an expression alone
abbrev pub tree : Expression → Forest
tree e = expression_tree e End
