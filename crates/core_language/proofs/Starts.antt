-- How expressions begin.
use Rattle.std.proofs.Common.{◌≡◌, ℕ, zero, suc, ◌≤◌, Bool, true, false, List, ◌∷◌, refl, arith, ◌==◌}
use Rattle.parser_input.specs.Input.{Token}
use Rattle.parser_input.specs.Kinds.{MUT_KW, RAW_KW, EQ, L_ANGLE, R_ANGLE, PIPE, AMP, L_PAREN, R_PAREN, DOT}
use Rattle.parser_events.specs.Forest.{Forest, End}
use Rattle.rust_grammar.specs.Rule.{prefixed, operation, expression, Call}
use Rattle.rust_grammar.specs.Meaning.{sees, look_of}
use Rattle.rust_grammar.specs.Whole.{whole}
use Rattle.core_language.specs.Expressions.{Assignment, Binary, Borrow, Expression, FieldAccess, FunctionCall, IsWellFormed, Literal, MethodCall, Named, Parenthesized, Prefixed, begins_with_ampersand, level}
use Rattle.core_language.specs.Operators.{Byte, ByteText, CText, Character, Dereference, FalseWord, FloatNumber, Integer, Invert, LiteralForm, Negate, PrefixOperator, Text, TrueWord, literal_kind, power, prefix_kind}
use Rattle.core_language.proofs.Places.{layer_of}
use Rattle.core_language.proofs.Rules.{at, begins_at, call-there, either, table}
use Rattle.core_language.proofs.Types.{path-begins}
use Rattle.core_language.proofs.Flagged.{expression_tokens, name_token, of_kind}

-- how an expression begins
pub data Start : Type 0 where
  WithName : (j : Bool) → Start
  WithLiteral : LiteralForm → (j : Bool) → Start
  WithParen : (j : Bool) → Start
  WithSign : PrefixOperator → (j : Bool) → Start
  WithAmpersand : (j : Bool) → Start

-- the first token
abbrev pub token_of : (flag : Bool) → Start → Token
token_of flag (WithName j) = name_token flag j
token_of flag (WithLiteral l j) = of_kind flag (literal_kind l) j
token_of flag (WithParen j) = of_kind flag L_PAREN j
token_of flag (WithSign s j) = of_kind flag (prefix_kind s) j
token_of flag (WithAmpersand j) = of_kind flag AMP j

-- that is no name
abbrev pub IsNoName : Start → Type 0
IsNoName (WithName j) = ⊥
IsNoName k = Unit {0}

-- whether that is an `&`
abbrev pub is_ampersand : Start → Bool
is_ampersand (WithAmpersand j) = true
is_ampersand s = false

-- whether that is no prefix
abbrev pub is_high : Start → Bool
is_high (WithSign s j) = false
is_high (WithAmpersand j) = false
is_high s = true

-- The first token of an expression, and what is known of it.
pub record Begins (flag : Bool) (e : Expression) (ts : List Token) : Type 0 where
  pub start : Start
  pub rest : List Token
  pub are : ts ≡ token_of flag start ∷ rest
  pub amp : begins_with_ampersand e ≡ is_ampersand start
  pub high : IsWellFormed e → 15 ≤ level e → is_high start ≡ true

pub expression-begins : (flag : Bool) (e : Expression) (more : List Token) → Begins flag e (expression_tokens flag e more)
expression-begins flag (Literal l j) more = record { start = WithLiteral l j; rest = more; are = refl; amp = refl; high = λ i h. refl }
expression-begins flag (Named p) more = let b = path-begins flag p more in record { start = WithName b.j; rest = b.rest; are = b.are; amp = refl; high = λ i h. refl }
expression-begins flag (Parenthesized j e k) more = record { start = WithParen j; rest = _; are = refl; amp = refl; high = λ i h. refl }
expression-begins flag (FunctionCall e j es k) more =
    let b = expression-begins flag e _ in record { start = b.start; rest = b.rest; are = b.are; amp = b.amp; high = λ i h. b.high i.0 i.1 }
expression-begins flag (MethodCall e d n j es k) more =
    let b = expression-begins flag e _ in record { start = b.start; rest = b.rest; are = b.are; amp = b.amp; high = λ i h. b.high i.0 i.1 }
expression-begins flag (FieldAccess e d n) more =
    let b = expression-begins flag e _ in record { start = b.start; rest = b.rest; are = b.are; amp = b.amp; high = λ i h. b.high i.0 i.1 }
expression-begins flag (Prefixed s j e) more = record { start = WithSign s j; rest = _; are = refl; amp = refl; high = λ i h. absurd (omega arith) }
expression-begins flag (Borrow j m e) more = record { start = WithAmpersand j; rest = _; are = refl; amp = refl; high = λ i h. absurd (omega arith) }
expression-begins flag (Binary l o j r) more =
    let b = expression-begins flag l _ in record { start = b.start; rest = b.rest; are = b.are; amp = b.amp; high = λ i h. b.high i.0 (le_trans' h i.2) }
  where
    le_trans' : 15 ≤ power o → power o ≤ level l → 15 ≤ level l
    le_trans' x y = omega arith
expression-begins flag (Assignment l o j r) more =
    let b = expression-begins flag l _ in record { start = b.start; rest = b.rest; are = b.are; amp = b.amp; high = λ i h. absurd (omega arith) }

-- what no expression begins with
pub record Free (t : Token) : Type 0 where
  pub eq : (t.kind == EQ) ≡ false
  pub lt : (t.kind == L_ANGLE) ≡ false
  pub gt : (t.kind == R_ANGLE) ≡ false
  pub pipe : (t.kind == PIPE) ≡ false
  pub dot : (t.kind == DOT) ≡ false
  pub paren : (t.kind == R_PAREN) ≡ false
  pub mut : (t.kind == MUT_KW) ≡ false
  pub raw : (t.contextual == RAW_KW) ≡ false

free-literal : (flag : Bool) (l : LiteralForm) (j : Bool) → Free (of_kind flag (literal_kind l) j)
free-literal flag Integer j = record { eq = refl; lt = refl; gt = refl; pipe = refl; dot = refl; paren = refl; mut = refl; raw = refl }
free-literal flag FloatNumber j = record { eq = refl; lt = refl; gt = refl; pipe = refl; dot = refl; paren = refl; mut = refl; raw = refl }
free-literal flag Character j = record { eq = refl; lt = refl; gt = refl; pipe = refl; dot = refl; paren = refl; mut = refl; raw = refl }
free-literal flag Byte j = record { eq = refl; lt = refl; gt = refl; pipe = refl; dot = refl; paren = refl; mut = refl; raw = refl }
free-literal flag Text j = record { eq = refl; lt = refl; gt = refl; pipe = refl; dot = refl; paren = refl; mut = refl; raw = refl }
free-literal flag ByteText j = record { eq = refl; lt = refl; gt = refl; pipe = refl; dot = refl; paren = refl; mut = refl; raw = refl }
free-literal flag CText j = record { eq = refl; lt = refl; gt = refl; pipe = refl; dot = refl; paren = refl; mut = refl; raw = refl }
free-literal flag TrueWord j = record { eq = refl; lt = refl; gt = refl; pipe = refl; dot = refl; paren = refl; mut = refl; raw = refl }
free-literal flag FalseWord j = record { eq = refl; lt = refl; gt = refl; pipe = refl; dot = refl; paren = refl; mut = refl; raw = refl }

pub start-free : (flag : Bool) (s : Start) → Free (token_of flag s)
start-free flag (WithName j) = record { eq = refl; lt = refl; gt = refl; pipe = refl; dot = refl; paren = refl; mut = refl; raw = refl }
start-free flag (WithLiteral l j) = free-literal flag l j
start-free flag (WithParen j) = record { eq = refl; lt = refl; gt = refl; pipe = refl; dot = refl; paren = refl; mut = refl; raw = refl }
start-free flag (WithSign Negate j) = record { eq = refl; lt = refl; gt = refl; pipe = refl; dot = refl; paren = refl; mut = refl; raw = refl }
start-free flag (WithSign Invert j) = record { eq = refl; lt = refl; gt = refl; pipe = refl; dot = refl; paren = refl; mut = refl; raw = refl }
start-free flag (WithSign Dereference j) = record { eq = refl; lt = refl; gt = refl; pipe = refl; dot = refl; paren = refl; mut = refl; raw = refl }
start-free flag (WithAmpersand j) = record { eq = refl; lt = refl; gt = refl; pipe = refl; dot = refl; paren = refl; mut = refl; raw = refl }

pub start-ampersand : (flag : Bool) (s : Start) → is_ampersand s ≡ false → ((token_of flag s).kind == AMP) ≡ false
start-ampersand flag (WithName j) e = refl
start-ampersand flag (WithLiteral Integer j) e = refl
start-ampersand flag (WithLiteral FloatNumber j) e = refl
start-ampersand flag (WithLiteral Character j) e = refl
start-ampersand flag (WithLiteral Byte j) e = refl
start-ampersand flag (WithLiteral Text j) e = refl
start-ampersand flag (WithLiteral ByteText j) e = refl
start-ampersand flag (WithLiteral CText j) e = refl
start-ampersand flag (WithLiteral TrueWord j) e = refl
start-ampersand flag (WithLiteral FalseWord j) e = refl
start-ampersand flag (WithParen j) e = refl
start-ampersand flag (WithSign Negate j) e = refl
start-ampersand flag (WithSign Invert j) e = refl
start-ampersand flag (WithSign Dereference j) e = refl
start-ampersand flag (WithAmpersand j) e = absurd cc

-- where expressions begin, in terms of the first token
begins-prefixed : (flag : Bool) (s : Start) (g : Forest) (ts : List Token) → sees false (at g (token_of flag s ∷ ts)) (look_of whole prefixed) ≡ true
unfolding table
begins-prefixed true (WithName j) g ts = either _
begins-prefixed false (WithName j) g ts = either _
begins-prefixed true (WithLiteral Integer j) g ts = refl
begins-prefixed false (WithLiteral Integer j) g ts = refl
begins-prefixed true (WithLiteral FloatNumber j) g ts = refl
begins-prefixed false (WithLiteral FloatNumber j) g ts = refl
begins-prefixed true (WithLiteral Character j) g ts = refl
begins-prefixed false (WithLiteral Character j) g ts = refl
begins-prefixed true (WithLiteral Byte j) g ts = refl
begins-prefixed false (WithLiteral Byte j) g ts = refl
begins-prefixed true (WithLiteral Text j) g ts = refl
begins-prefixed false (WithLiteral Text j) g ts = refl
begins-prefixed true (WithLiteral ByteText j) g ts = refl
begins-prefixed false (WithLiteral ByteText j) g ts = refl
begins-prefixed true (WithLiteral CText j) g ts = refl
begins-prefixed false (WithLiteral CText j) g ts = refl
begins-prefixed true (WithLiteral TrueWord j) g ts = refl
begins-prefixed false (WithLiteral TrueWord j) g ts = refl
begins-prefixed true (WithLiteral FalseWord j) g ts = refl
begins-prefixed false (WithLiteral FalseWord j) g ts = refl
begins-prefixed true (WithParen j) g ts = refl
begins-prefixed false (WithParen j) g ts = refl
begins-prefixed true (WithSign Negate j) g ts = refl
begins-prefixed false (WithSign Negate j) g ts = refl
begins-prefixed true (WithSign Invert j) g ts = refl
begins-prefixed false (WithSign Invert j) g ts = refl
begins-prefixed true (WithSign Dereference j) g ts = refl
begins-prefixed false (WithSign Dereference j) g ts = refl
begins-prefixed true (WithAmpersand j) g ts = either _
begins-prefixed false (WithAmpersand j) g ts = refl

-- all layers begin alike
layer-begins : (d : ℕ) → d ≤ 9 → look_of whole (layer_of d) ≡ look_of whole prefixed
unfolding table
layer-begins zero h = refl
layer-begins (suc zero) h = refl
layer-begins (suc (suc zero)) h = refl
layer-begins (suc (suc (suc zero))) h = refl
layer-begins (suc (suc (suc (suc zero)))) h = refl
layer-begins (suc (suc (suc (suc (suc zero))))) h = refl
layer-begins (suc (suc (suc (suc (suc (suc zero)))))) h = refl
layer-begins (suc (suc (suc (suc (suc (suc (suc zero))))))) h = refl
layer-begins (suc (suc (suc (suc (suc (suc (suc (suc zero)))))))) h = refl
layer-begins (suc (suc (suc (suc (suc (suc (suc (suc (suc d))))))))) h = refl

pub prefixed-is-there : (flag : Bool) (e : Expression) (more : List Token) (g : Forest)
    → begins_at (Call prefixed) (at g (expression_tokens flag e more)) ≡ true
prefixed-is-there flag e more g = let b = expression-begins flag e more in rw b.are (call-there prefixed g _ (begins-prefixed flag b.start End b.rest))

pub layer-is-there : (flag : Bool) (d : ℕ) → d ≤ 9 → (e : Expression) (more : List Token) (g : Forest)
    → begins_at (Call (layer_of d)) (at g (expression_tokens flag e more)) ≡ true
layer-is-there flag d h e more g =
    let b = expression-begins flag e more in
    rw b.are (call-there (layer_of d) g _ (rw (layer-begins d h) (begins-prefixed flag b.start End b.rest)))

-- an operation begins with a range mark or as a layer does
begins-operation : (flag : Bool) (s : Start) (g : Forest) (ts : List Token) → sees false (at g (token_of flag s ∷ ts)) (look_of whole operation) ≡ true
unfolding table
begins-operation true (WithName j) g ts = either _
begins-operation false (WithName j) g ts = either _
begins-operation true (WithLiteral Integer j) g ts = refl
begins-operation false (WithLiteral Integer j) g ts = refl
begins-operation true (WithLiteral FloatNumber j) g ts = refl
begins-operation false (WithLiteral FloatNumber j) g ts = refl
begins-operation true (WithLiteral Character j) g ts = refl
begins-operation false (WithLiteral Character j) g ts = refl
begins-operation true (WithLiteral Byte j) g ts = refl
begins-operation false (WithLiteral Byte j) g ts = refl
begins-operation true (WithLiteral Text j) g ts = refl
begins-operation false (WithLiteral Text j) g ts = refl
begins-operation true (WithLiteral ByteText j) g ts = refl
begins-operation false (WithLiteral ByteText j) g ts = refl
begins-operation true (WithLiteral CText j) g ts = refl
begins-operation false (WithLiteral CText j) g ts = refl
begins-operation true (WithLiteral TrueWord j) g ts = refl
begins-operation false (WithLiteral TrueWord j) g ts = refl
begins-operation true (WithLiteral FalseWord j) g ts = refl
begins-operation false (WithLiteral FalseWord j) g ts = refl
begins-operation true (WithParen j) g ts = refl
begins-operation false (WithParen j) g ts = refl
begins-operation true (WithSign Negate j) g ts = refl
begins-operation false (WithSign Negate j) g ts = refl
begins-operation true (WithSign Invert j) g ts = refl
begins-operation false (WithSign Invert j) g ts = refl
begins-operation true (WithSign Dereference j) g ts = refl
begins-operation false (WithSign Dereference j) g ts = refl
begins-operation true (WithAmpersand j) g ts = either _
begins-operation false (WithAmpersand j) g ts = refl

pub operation-is-there : (flag : Bool) (e : Expression) (more : List Token) (g : Forest)
    → begins_at (Call operation) (at g (expression_tokens flag e more)) ≡ true
operation-is-there flag e more g = let b = expression-begins flag e more in rw b.are (call-there operation g _ (begins-operation flag b.start End b.rest))

expression-look : look_of whole expression ≡ look_of whole operation
unfolding table
expression-look = refl

pub expression-is-there : (flag : Bool) (e : Expression) (more : List Token) (g : Forest)
    → begins_at (Call expression) (at g (expression_tokens flag e more)) ≡ true
expression-is-there flag e more g =
    let b = expression-begins flag e more in
    rw b.are (call-there expression g _ (rw expression-look (begins-operation flag b.start End b.rest)))
