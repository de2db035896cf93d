-- No block, and no macro call in braces, begins where a core expression does.
use Rattle.std.proofs.Common.{◌≡◌, Bool, true, false, List, ◌∷◌, refl}
use Rattle.parser_input.specs.Input.{Token}
use Rattle.parser_input.specs.Kinds.{DOT, L_PAREN}
use Rattle.parser_events.specs.Forest.{Forest}
use Rattle.rust_grammar.specs.Rule.{Call, block_like}
use Rattle.core_language.specs.Expressions.{Assignment, Binary, Borrow, Expression, FieldAccess, FunctionCall, Literal, MethodCall, Named, Parenthesized, Prefixed}
use Rattle.core_language.specs.Operators.{Assign, AssignBitAnd, AssignBitOr, AssignBitXor, AssignDivide, AssignMinus, AssignPlus, AssignRemainder, AssignShiftLeft, AssignShiftRight, AssignTimes, Assigner, BitAnd, BitOr, BitXor, Byte, ByteText, CText, Character, Dereference, Divide, Equal, FalseWord, FloatNumber, Greater, GreaterOrEqual, Integer, Invert, Less, LessOrEqual, LiteralForm, LogicalAnd, LogicalOr, Minus, Negate, NotEqual, Operator, Pipe, Plus, Remainder, ShiftLeft, ShiftRight, Text, Times, TrueWord, literal_kind}
use Rattle.core_language.proofs.Atoms.{block-path}
use Rattle.core_language.proofs.Rules.{at, begins_at, idle, table}
use Rattle.core_language.proofs.Starts.{IsNoName, Start, WithAmpersand, WithLiteral, WithName, WithParen, WithSign, token_of}
use Rattle.core_language.proofs.Flagged.{assigner_tokens, expression_tokens, name_token, of_kind, operator_tokens}

-- No block begins at a name before these tokens.
abbrev NotBlock : (flag : Bool) → List Token → Type 0
NotBlock flag more = (j : Bool) (g : Forest) → begins_at (Call block_like) (at g (name_token flag j ∷ more)) ≡ false

not-block-op : (flag : Bool) (o : Operator) (j : Bool) (ts : List Token) → NotBlock flag (operator_tokens flag o j ts)
unfolding table
not-block-op flag Pipe j ts i g = rw (idle flag) refl
not-block-op flag LogicalOr j ts i g = rw (idle flag) refl
not-block-op flag LogicalAnd j ts i g = rw (idle flag) refl
not-block-op flag Equal j ts i g = rw (idle flag) refl
not-block-op flag NotEqual j ts i g = rw (idle flag) refl
not-block-op flag Less j ts i g = rw (idle flag) refl
not-block-op flag Greater j ts i g = rw (idle flag) refl
not-block-op flag LessOrEqual j ts i g = rw (idle flag) refl
not-block-op flag GreaterOrEqual j ts i g = rw (idle flag) refl
not-block-op flag BitOr j ts i g = rw (idle flag) refl
not-block-op flag BitXor j ts i g = rw (idle flag) refl
not-block-op flag BitAnd j ts i g = rw (idle flag) refl
not-block-op flag ShiftLeft j ts i g = rw (idle flag) refl
not-block-op flag ShiftRight j ts i g = rw (idle flag) refl
not-block-op flag Plus j ts i g = rw (idle flag) refl
not-block-op flag Minus j ts i g = rw (idle flag) refl
not-block-op flag Times j ts i g = rw (idle flag) refl
not-block-op flag Divide j ts i g = rw (idle flag) refl
not-block-op flag Remainder j ts i g = rw (idle flag) refl

not-block-set : (flag : Bool) (o : Assigner) (j : Bool) (ts : List Token) → NotBlock flag (assigner_tokens flag o j ts)
unfolding table
not-block-set flag Assign j ts i g = rw (idle flag) refl
not-block-set flag AssignPlus j ts i g = rw (idle flag) refl
not-block-set flag AssignMinus j ts i g = rw (idle flag) refl
not-block-set flag AssignTimes j ts i g = rw (idle flag) refl
not-block-set flag AssignDivide j ts i g = rw (idle flag) refl
not-block-set flag AssignRemainder j ts i g = rw (idle flag) refl
not-block-set flag AssignBitAnd j ts i g = rw (idle flag) refl
not-block-set flag AssignBitOr j ts i g = rw (idle flag) refl
not-block-set flag AssignBitXor j ts i g = rw (idle flag) refl
not-block-set flag AssignShiftLeft j ts i g = rw (idle flag) refl
not-block-set flag AssignShiftRight j ts i g = rw (idle flag) refl

not-block-paren : (flag : Bool) (j : Bool) (ts : List Token) → NotBlock flag (of_kind flag L_PAREN j ∷ ts)
unfolding table
not-block-paren flag j ts i g = rw (idle flag) refl

not-block-dot : (flag : Bool) (j : Bool) (ts : List Token) → NotBlock flag (of_kind flag DOT j ∷ ts)
unfolding table
not-block-dot flag j ts i g = rw (idle flag) refl

block-literal : (flag : Bool) (l : LiteralForm) (j : Bool) (g : Forest) (ts : List Token)
    → begins_at (Call block_like) (at g (of_kind flag (literal_kind l) j ∷ ts)) ≡ false
unfolding table
block-literal flag Integer j g ts = rw (idle flag) refl
block-literal flag FloatNumber j g ts = rw (idle flag) refl
block-literal flag Character j g ts = rw (idle flag) refl
block-literal flag Byte j g ts = rw (idle flag) refl
block-literal flag Text j g ts = rw (idle flag) refl
block-literal flag ByteText j g ts = rw (idle flag) refl
block-literal flag CText j g ts = rw (idle flag) refl
block-literal flag TrueWord j g ts = rw (idle flag) refl
block-literal flag FalseWord j g ts = rw (idle flag) refl

block-token : (flag : Bool) (k : Start) (g : Forest) (ts : List Token) → IsNoName k → begins_at (Call block_like) (at g (token_of flag k ∷ ts)) ≡ false
unfolding table
block-token true (WithName j) g ts n = absurd n
block-token false (WithName j) g ts n = absurd n
block-token true (WithLiteral l j) g ts n = block-literal true l j g ts
block-token false (WithLiteral l j) g ts n = block-literal false l j g ts
block-token flag (WithParen j) g ts n = rw (idle flag) refl
block-token flag (WithSign Negate j) g ts n = rw (idle flag) refl
block-token flag (WithSign Invert j) g ts n = rw (idle flag) refl
block-token flag (WithSign Dereference j) g ts n = rw (idle flag) refl
block-token flag (WithAmpersand j) g ts n = rw (idle flag) refl

pub no-block : (flag : Bool) (e : Expression) (more : List Token) → NotBlock flag more → (g : Forest)
    → begins_at (Call block_like) (at g (expression_tokens flag e more)) ≡ false
no-block flag (Literal l j) more h g = block-literal flag l j g more
no-block flag (Named p) more h g = block-path flag p more h g
no-block flag (Parenthesized j e k) more h g = block-token flag (WithParen j) g _ tt
no-block flag (FunctionCall e j es k) more h g = no-block flag e _ (not-block-paren flag j _) g
no-block flag (MethodCall e d n j es k) more h g = no-block flag e _ (not-block-dot flag d _) g
no-block flag (FieldAccess e d n) more h g = no-block flag e _ (not-block-dot flag d _) g
no-block flag (Prefixed s j e) more h g = block-token flag (WithSign s j) g _ tt
no-block flag (Borrow j m e) more h g = block-token flag (WithAmpersand j) g _ tt
no-block flag (Binary l o j r) more h g = no-block flag l _ (not-block-op flag o j _) g
no-block flag (Assignment l o j r) more h g = no-block flag l _ (not-block-set flag o j _) g
