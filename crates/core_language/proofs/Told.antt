-- Literals and operators are determined by the kinds of their leaves, and the bit of an operator by its tokens.
use Rattle.std.proofs.Common.{◌≡◌, ◌⊎◌, ◌<◌, inl, inr, ℕ, Bool, List, [], ◌∷◌, length, refl, ap, sym, ◌∙◌, ◌==◌, if◌then◌else◌, arith}
use Rattle.parser_input.specs.Input.{Token}
use Rattle.parser_input.specs.Kinds.{AMP, AMP2, AMPEQ, BANG, BYTE, BYTE_STRING, CARET, CARETEQ, CHAR, C_STRING, EQ, EQ2, FLOAT_NUMBER, GTEQ, INT_NUMBER, LTEQ, L_ANGLE, MINUS, MINUSEQ, NEQ, PERCENT, PERCENTEQ, PIPE, PIPE2, PIPE_GT, PIPEEQ, PLUS, PLUSEQ, R_ANGLE, SHL, SHLEQ, SHR, SLASH, SLASHEQ, STAR, STAREQ, STRING, TRUE_KW}
use Rattle.core_language.specs.Operators.{Assign, AssignBitAnd, AssignBitOr, AssignBitXor, AssignDivide, AssignMinus, AssignPlus, AssignRemainder, AssignShiftLeft, AssignShiftRight, AssignTimes, Assigner, BitAnd, BitOr, BitXor, Byte, ByteText, CText, Character, Dereference, Divide, Equal, FalseWord, FloatNumber, Greater, GreaterOrEqual, Integer, Invert, Less, LessOrEqual, LiteralForm, LogicalAnd, LogicalOr, Minus, Negate, NotEqual, Operator, Pipe, Plus, PrefixOperator, Remainder, ShiftLeft, ShiftRight, Text, Times, TrueWord, assigner_characters, assigner_kind, assigner_tokens, literal_kind, operator_characters, operator_kind, operator_tokens, prefix_kind}
use Rattle.core_language.specs.Tokens.{joint_tokens}

-- the operator or the assignment with a leaf of this kind
abbrev binary_of : ℕ → Operator ⊎ Assigner
binary_of k =
    if k == PIPE_GT then inl Pipe
    else if k == PIPE2 then inl LogicalOr
    else if k == AMP2 then inl LogicalAnd
    else if k == EQ2 then inl Equal
    else if k == NEQ then inl NotEqual
    else if k == L_ANGLE then inl Less
    else if k == R_ANGLE then inl Greater
    else if k == LTEQ then inl LessOrEqual
    else if k == GTEQ then inl GreaterOrEqual
    else if k == PIPE then inl BitOr
    else if k == CARET then inl BitXor
    else if k == AMP then inl BitAnd
    else if k == SHL then inl ShiftLeft
    else if k == SHR then inl ShiftRight
    else if k == PLUS then inl Plus
    else if k == MINUS then inl Minus
    else if k == STAR then inl Times
    else if k == SLASH then inl Divide
    else if k == PERCENT then inl Remainder
    else if k == EQ then inr Assign
    else if k == PLUSEQ then inr AssignPlus
    else if k == MINUSEQ then inr AssignMinus
    else if k == STAREQ then inr AssignTimes
    else if k == SLASHEQ then inr AssignDivide
    else if k == PERCENTEQ then inr AssignRemainder
    else if k == AMPEQ then inr AssignBitAnd
    else if k == PIPEEQ then inr AssignBitOr
    else if k == CARETEQ then inr AssignBitXor
    else if k == SHLEQ then inr AssignShiftLeft
    else inr AssignShiftRight

-- an operator is that of its kind
operator-back : (o : Operator) → binary_of (operator_kind o) ≡ inl o
operator-back Pipe = refl
operator-back o = refl

-- an assignment is that of its kind
assigner-back : (o : Assigner) → binary_of (assigner_kind o) ≡ inr o
assigner-back Assign = refl
assigner-back o = refl

-- operators of one kind are one
pub operator-same : (o p : Operator) → operator_kind o ≡ operator_kind p → o ≡ p
operator-same o p e = let t = sym (operator-back o) ∙ ap binary_of e ∙ operator-back p in cc

-- assignments of one kind are one
pub assigner-same : (o p : Assigner) → assigner_kind o ≡ assigner_kind p → o ≡ p
assigner-same o p e = let t = sym (assigner-back o) ∙ ap binary_of e ∙ assigner-back p in cc

-- no operator has the kind of an assignment
pub not-assigner : (o : Operator) (p : Assigner) → operator_kind o ≡ assigner_kind p → ⊥
not-assigner o p e = let t = sym (operator-back o) ∙ ap binary_of e ∙ assigner-back p in absurd cc

-- the literal of this kind
abbrev literal_of : ℕ → LiteralForm
literal_of k =
    if k == INT_NUMBER then Integer
    else if k == FLOAT_NUMBER then FloatNumber
    else if k == CHAR then Character
    else if k == BYTE then Byte
    else if k == STRING then Text
    else if k == BYTE_STRING then ByteText
    else if k == C_STRING then CText
    else if k == TRUE_KW then TrueWord
    else FalseWord

literal-back : (o : LiteralForm) → literal_of (literal_kind o) ≡ o
literal-back Integer = refl
literal-back o = refl

-- literals of one kind are one
pub literal-same : (o p : LiteralForm) → literal_kind o ≡ literal_kind p → o ≡ p
literal-same o p e = sym (literal-back o) ∙ ap literal_of e ∙ literal-back p

-- the prefix with a leaf of this kind
abbrev prefix_of : ℕ → PrefixOperator
prefix_of k = if k == MINUS then Negate else if k == BANG then Invert else Dereference

prefix-back : (o : PrefixOperator) → prefix_of (prefix_kind o) ≡ o
prefix-back Negate = refl
prefix-back o = refl

-- prefixes of one kind are one
pub prefix-same : (o p : PrefixOperator) → prefix_kind o ≡ prefix_kind p → o ≡ p
prefix-same o p e = sym (prefix-back o) ∙ ap prefix_of e ∙ prefix-back p

-- a token and those after it
pub head-one : (t u : Token) (more other : List Token) → t ∷ more ≡ u ∷ other → (t.joint ≡ u.joint) × (more ≡ other)
head-one t u more other e = let x : t ≡ u = cc in (ap (λ (y : Token). y.joint) x, cc)

-- the bit of the last token of punctuation, and the tokens after it
joint-one : (kinds : List ℕ) → 0 < length kinds → (j k : Bool) (ts us : List Token) → joint_tokens kinds j ts ≡ joint_tokens kinds k us → (j ≡ k) × (ts ≡ us)
joint-one [] some j k ts us e = absurd (omega arith)
joint-one (kind ∷ []) some j k ts us e = head-one _ _ ts us e
joint-one (kind ∷ next ∷ kinds) some j k ts us e = joint-one (next ∷ kinds) (omega arith) j k ts us (head-one _ _ _ _ e).1

-- the bit of an operator, and the tokens after it
pub operator-one : (o : Operator) (j k : Bool) (ts us : List Token) → operator_tokens o j ts ≡ operator_tokens o k us → (j ≡ k) × (ts ≡ us)
operator-one Pipe j k ts us e = head-one _ _ ts us (head-one _ _ _ _ e).1
operator-one o j k ts us e = joint-one (operator_characters o) (omega arith) j k ts us e

-- the bit of an assignment, and the tokens after it
pub assigner-one : (o : Assigner) (j k : Bool) (ts us : List Token) → assigner_tokens o j ts ≡ assigner_tokens o k us → (j ≡ k) × (ts ≡ us)
assigner-one Assign j k ts us e = head-one _ _ ts us e
assigner-one o j k ts us e = joint-one (assigner_characters o) (omega arith) j k ts us e
