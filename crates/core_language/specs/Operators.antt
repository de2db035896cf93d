-- The literals and the operators of the core language, each with the kind of its leaf, its characters and its power.
use Rattle.std.specs.Prelude.{ℕ, Bool, List, [], ◌∷◌, length}
use Rattle.parser_input.specs.Kinds.{AMP, AMP2, AMPEQ, BANG, BYTE, BYTE_STRING, CARET, CARETEQ, CHAR, C_STRING, EQ, EQ2, FALSE_KW, FLOAT_NUMBER, GTEQ, INT_NUMBER, LTEQ, L_ANGLE, MINUS, MINUSEQ, NEQ, PERCENT, PERCENTEQ, PIPE, PIPE2, PIPEEQ, PIPE_GT, PLUS, PLUSEQ, R_ANGLE, SHL, SHLEQ, SHR, SHREQ, SLASH, SLASHEQ, STAR, STAREQ, STRING, TRUE_KW}
use Rattle.parser_input.specs.Input.{Token}
use Rattle.parser_events.specs.Forest.{Forest, Leaf}
use Rattle.core_language.specs.Tokens.{joint_tokens, pipe_tokens}

-- what a literal can be
pub data LiteralForm : Type 0 where
  Integer : LiteralForm
  FloatNumber : LiteralForm
  Character : LiteralForm
  Byte : LiteralForm
  Text : LiteralForm
  ByteText : LiteralForm
  CText : LiteralForm
  TrueWord : LiteralForm
  FalseWord : LiteralForm

-- the kind of its token, and of its leaf
abbrev pub literal_kind : LiteralForm → ℕ
literal_kind Integer = INT_NUMBER
literal_kind FloatNumber = FLOAT_NUMBER
literal_kind Character = CHAR
literal_kind Byte = BYTE
literal_kind Text = STRING
literal_kind ByteText = BYTE_STRING
literal_kind CText = C_STRING
literal_kind TrueWord = TRUE_KW
literal_kind FalseWord = FALSE_KW

-- the operators before an operand: `-`, `!`, `*`
pub data PrefixOperator : Type 0 where
  Negate : PrefixOperator
  Invert : PrefixOperator
  Dereference : PrefixOperator

-- the kind of such an operator's token, and of its leaf
abbrev pub prefix_kind : PrefixOperator → ℕ
prefix_kind Negate = MINUS
prefix_kind Invert = BANG
prefix_kind Dereference = STAR

-- the operators between two operands that give a value
pub data Operator : Type 0 where
  Pipe : Operator
  LogicalOr : Operator
  LogicalAnd : Operator
  Equal : Operator
  NotEqual : Operator
  Less : Operator
  Greater : Operator
  LessOrEqual : Operator
  GreaterOrEqual : Operator
  BitOr : Operator
  BitXor : Operator
  BitAnd : Operator
  ShiftLeft : Operator
  ShiftRight : Operator
  Plus : Operator
  Minus : Operator
  Times : Operator
  Divide : Operator
  Remainder : Operator

-- its binding power
abbrev pub power : Operator → ℕ
power Pipe = 2
power LogicalOr = 4
power LogicalAnd = 5
power Equal = 6
power NotEqual = 6
power Less = 6
power Greater = 6
power LessOrEqual = 6
power GreaterOrEqual = 6
power BitOr = 7
power BitXor = 8
power BitAnd = 9
power ShiftLeft = 10
power ShiftRight = 10
power Plus = 11
power Minus = 11
power Times = 12
power Divide = 12
power Remainder = 12

-- its characters
abbrev pub operator_characters : Operator → List ℕ
operator_characters Pipe = PIPE ∷ R_ANGLE ∷ []
operator_characters LogicalOr = PIPE ∷ PIPE ∷ []
operator_characters LogicalAnd = AMP ∷ AMP ∷ []
operator_characters Equal = EQ ∷ EQ ∷ []
operator_characters NotEqual = BANG ∷ EQ ∷ []
operator_characters Less = L_ANGLE ∷ []
operator_characters Greater = R_ANGLE ∷ []
operator_characters LessOrEqual = L_ANGLE ∷ EQ ∷ []
operator_characters GreaterOrEqual = R_ANGLE ∷ EQ ∷ []
operator_characters BitOr = PIPE ∷ []
operator_characters BitXor = CARET ∷ []
operator_characters BitAnd = AMP ∷ []
operator_characters ShiftLeft = L_ANGLE ∷ L_ANGLE ∷ []
operator_characters ShiftRight = R_ANGLE ∷ R_ANGLE ∷ []
operator_characters Plus = PLUS ∷ []
operator_characters Minus = MINUS ∷ []
operator_characters Times = STAR ∷ []
operator_characters Divide = SLASH ∷ []
operator_characters Remainder = PERCENT ∷ []

-- the kind of its leaf
abbrev pub operator_kind : Operator → ℕ
operator_kind Pipe = PIPE_GT
operator_kind LogicalOr = PIPE2
operator_kind LogicalAnd = AMP2
operator_kind Equal = EQ2
operator_kind NotEqual = NEQ
operator_kind Less = L_ANGLE
operator_kind Greater = R_ANGLE
operator_kind LessOrEqual = LTEQ
operator_kind GreaterOrEqual = GTEQ
operator_kind BitOr = PIPE
operator_kind BitXor = CARET
operator_kind BitAnd = AMP
operator_kind ShiftLeft = SHL
operator_kind ShiftRight = SHR
operator_kind Plus = PLUS
operator_kind Minus = MINUS
operator_kind Times = STAR
operator_kind Divide = SLASH
operator_kind Remainder = PERCENT

-- its tokens
abbrev pub operator_tokens : Operator → Bool → List Token → List Token
operator_tokens Pipe last more = pipe_tokens last more
operator_tokens o last more = joint_tokens (operator_characters o) last more

-- how many tokens its leaf covers: one a character
abbrev pub operator_count : Operator → ℕ
operator_count o = length (operator_characters o)

-- its leaf
abbrev pub operator_tree : Operator → Forest → Forest
operator_tree o f = Leaf (operator_kind o) (operator_count o) f

-- the assignments: `=`, and those that compute
pub data Assigner : Type 0 where
  Assign : Assigner
  AssignPlus : Assigner
  AssignMinus : Assigner
  AssignTimes : Assigner
  AssignDivide : Assigner
  AssignRemainder : Assigner
  AssignBitAnd : Assigner
  AssignBitOr : Assigner
  AssignBitXor : Assigner
  AssignShiftLeft : Assigner
  AssignShiftRight : Assigner

-- its characters
abbrev pub assigner_characters : Assigner → List ℕ
assigner_characters Assign = EQ ∷ []
assigner_characters AssignPlus = PLUS ∷ EQ ∷ []
assigner_characters AssignMinus = MINUS ∷ EQ ∷ []
assigner_characters AssignTimes = STAR ∷ EQ ∷ []
assigner_characters AssignDivide = SLASH ∷ EQ ∷ []
assigner_characters AssignRemainder = PERCENT ∷ EQ ∷ []
assigner_characters AssignBitAnd = AMP ∷ EQ ∷ []
assigner_characters AssignBitOr = PIPE ∷ EQ ∷ []
assigner_characters AssignBitXor = CARET ∷ EQ ∷ []
assigner_characters AssignShiftLeft = L_ANGLE ∷ L_ANGLE ∷ EQ ∷ []
assigner_characters AssignShiftRight = R_ANGLE ∷ R_ANGLE ∷ EQ ∷ []

-- the kind of its leaf
abbrev pub assigner_kind : Assigner → ℕ
assigner_kind Assign = EQ
assigner_kind AssignPlus = PLUSEQ
assigner_kind AssignMinus = MINUSEQ
assigner_kind AssignTimes = STAREQ
assigner_kind AssignDivide = SLASHEQ
assigner_kind AssignRemainder = PERCENTEQ
assigner_kind AssignBitAnd = AMPEQ
assigner_kind AssignBitOr = PIPEEQ
assigner_kind AssignBitXor = CARETEQ
assigner_kind AssignShiftLeft = SHLEQ
assigner_kind AssignShiftRight = SHREQ

-- its tokens
abbrev pub assigner_tokens : Assigner → Bool → List Token → List Token
assigner_tokens o last more = joint_tokens (assigner_characters o) last more

-- how many tokens its leaf covers: one a character
abbrev pub assigner_count : Assigner → ℕ
assigner_count o = length (assigner_characters o)

-- its leaf
abbrev pub assigner_tree : Assigner → Forest → Forest
assigner_tree o f = Leaf (assigner_kind o) (assigner_count o) f
