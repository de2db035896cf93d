-- An expression that begins with a path, read part by part: the path, its postfix operators, the operators of each layer. So the
-- whole language reads a statement that begins with a path of several segments, and it reads the expression that is there.
use Rattle.std.proofs.Common.{◌≡◌, ℕ, zero, suc, ◌≤◌, ◌⊎◌, inl, inr, Bool, true, false, List, ◌∷◌, refl, ap, sym, ◌∙◌, arith, ◌==◌}
use Rattle.parser_input.specs.Input.{Token}
use Rattle.parser_input.specs.Kinds.{COLON, DOT, L_PAREN}
use Rattle.parser_events.specs.Forest.{Forest, End}
use Rattle.rust_grammar.specs.Rule.{Production, Rule, Then, When, Star, Call, Continue, atom, block_like, cast, disjunction, expr_path, expression, operation, operation_tail, postfix, prefixed, statement, statement_end}
use Rattle.rust_grammar.specs.Expressions.{after_operand, after_path, braced_macro, braced_macro_begins, casts}
use Rattle.rust_grammar.specs.Meaning.{Reading, ahead, sees}
use Rattle.rust_grammar.specs.Statements.{after_block, in_block, long_path_statement, operators_and_end, path_tail}
use Rattle.rust_grammar.specs.Whole.{rule}
use Rattle.rust_grammar.proofs.WholeTable.{whole-means}
use Rattle.core_language.specs.Expressions.{Assignment, Binary, Borrow, Expression, FieldAccess, FunctionCall, Literal, MethodCall, Named, Parenthesized, Prefixed}
use Rattle.core_language.specs.Operators.{Assign, AssignBitAnd, AssignBitOr, AssignBitXor, AssignDivide, AssignMinus, AssignPlus, AssignRemainder, AssignShiftLeft, AssignShiftRight, AssignTimes, Assigner, BitAnd, BitOr, BitXor, Divide, Equal, Greater, GreaterOrEqual, Less, LessOrEqual, LogicalAnd, LogicalOr, Minus, NotEqual, Operator, Pipe, Plus, Remainder, ShiftLeft, ShiftRight, Times}
use Rattle.core_language.specs.Types.{Below, Name, Path, path_tree}
use Rattle.core_language.proofs.Atoms.{path-picks}
use Rattle.core_language.proofs.Flagged.{assigner_tokens, expression_tokens, name_token, of_kind, operator_tokens, path_tokens}
use Rattle.core_language.proofs.Layers.{cast-rule, layer-rule}
use Rattle.core_language.proofs.Paths.{NoColon, expression_path-reads}
use Rattle.core_language.proofs.Places.{layer_of, turn}
use Rattle.core_language.proofs.Postfix.{high-picks}
use Rattle.core_language.proofs.Rules.{at, begins_at, call-reads, forms, gives, or-second, reads, table, then-reads}
use Rattle.core_language.proofs.Starts.{IsNoName, Start, WithAmpersand, WithLiteral, WithName, WithParen, WithSign, token_of}
use Rattle.core_language.proofs.Tails.{continue-reads, expression-rule, operation-picks}

-- what is called before anything was given gives what it means
call-first : (x : Production) (a : Rule) (ts : List Token) → reads (Then (Call x) a) (at End ts) ≡ reads a (gives x (at End ts))
unfolding forms
call-first x a ts = refl

call-only : (x : Production) (ts : List Token) → reads (Call x) (at End ts) ≡ gives x (at End ts)
unfolding forms
call-only x ts = refl

-- the turns of the lowest d layers, one layer after the other
abbrev turned : ℕ → Reading → Reading
turned zero s = s
turned (suc d) s = reads (Star (turn d)) (turned d s)

layers-flow : (d : ℕ) → d ≤ 9 → (ts : List Token) → gives (layer_of d) (at End ts) ≡ turned d (gives cast (at End ts))
layers-flow zero h ts = refl
layers-flow (suc d) h ts =
    whole-means (layer_of (suc d)) false _
    ∙ ap (λ (a : Rule). reads a (at End ts)) (layer-rule d (omega (arith, h)))
    ∙ call-first (layer_of d) (Star (turn d)) ts
    ∙ ap (λ (s : Reading). reads (Star (turn d)) s) (layers-flow d (omega (arith, h)) ts)

cast-flows : (ts : List Token) → gives cast (at End ts) ≡ reads casts (gives prefixed (at End ts))
cast-flows ts = whole-means cast false _ ∙ ap (λ (a : Rule). reads a (at End ts)) cast-rule ∙ call-first prefixed casts ts

operators-flow : (s : Reading) → reads after_operand s ≡ gives operation_tail (turned 9 (reads casts s))
unfolding forms
operators-flow s = refl

-- the postfix operators after a path, and what follows the path itself
abbrev operand_after : Reading → Reading
operand_after u = reads (Star (Continue postfix)) (reads after_path u)

prefixed-flows : (flag j : Bool) (ts : List Token) (u : Reading) → begins_at (Call block_like) (at End (name_token flag j ∷ ts)) ≡ false
    → gives expr_path (at End (name_token flag j ∷ ts)) ≡ u → gives prefixed (at End (name_token flag j ∷ ts)) ≡ operand_after u
prefixed-flows flag j ts u n e =
    whole-means prefixed false _
    ∙ high-picks flag (WithName j) refl ts
    ∙ call-first atom (Star (Continue postfix)) _
    ∙ ap (λ (s : Reading). reads (Star (Continue postfix)) s)
    (whole-means atom false _ ∙ path-picks flag j ts n ∙ call-first expr_path after_path _ ∙ ap (λ (s : Reading). reads after_path s) e)

not-dot : (flag j : Bool) (ts : List Token) → ((ahead 0 (name_token flag j ∷ ts)).kind == DOT) ≡ false
unfolding ahead
not-dot flag j ts = refl

-- An expression that begins with a path is what the path is, with its operators.
expression-flows : (flag j : Bool) (ts : List Token) (u : Reading) → begins_at (Call block_like) (at End (name_token flag j ∷ ts)) ≡ false
    → gives expr_path (at End (name_token flag j ∷ ts)) ≡ u
    → gives expression (at End (name_token flag j ∷ ts)) ≡ reads after_operand (operand_after u)
expression-flows flag j ts u n e =
    let operand : gives cast (at End (name_token flag j ∷ ts)) ≡ reads casts (operand_after u) =
    cast-flows _ ∙ ap (λ (s : Reading). reads casts s) (prefixed-flows flag j ts u n e) in
    let operands : gives disjunction (at End (name_token flag j ∷ ts)) ≡ turned 9 (reads casts (operand_after u)) =
    layers-flow 9 (omega arith) _ ∙ ap (λ (s : Reading). turned 9 s) operand in
    whole-means expression false _
    ∙ ap (λ (a : Rule). reads a (at End (name_token flag j ∷ ts))) expression-rule
    ∙ call-only operation _
    ∙ whole-means operation false _
    ∙ operation-picks End _ (not-dot flag j ts)
    ∙ call-first disjunction (Continue operation_tail) _
    ∙ ap (λ (s : Reading). reads (Continue operation_tail) s) operands
    ∙ continue-reads operation_tail _
    ∙ sym (operators-flow (operand_after u))

-- a path of several segments, by its first three tokens
record TwoColons (flag : Bool) (ts : List Token) : Type 0 where
  pub first : Bool
  pub colons : Bool
  pub rest : List Token
  pub are : ts ≡ name_token flag first ∷ of_kind flag COLON true ∷ of_kind flag COLON colons ∷ rest

two-colons : (flag : Bool) (p : Path) (c j : Bool) (more : List Token) → TwoColons flag (path_tokens flag (Below p c j) more)
two-colons flag (Name i) c j more = record { first = i; colons = c; rest = name_token flag j ∷ more; are = refl }
two-colons flag (Below p d i) c j more = two-colons flag p d i (of_kind flag COLON true ∷ of_kind flag COLON c ∷ name_token flag j ∷ more)

long-picks : (j c : Bool) (ts : List Token) →
    reads (rule statement) (at End (name_token true j ∷ of_kind true COLON true ∷ of_kind true COLON c ∷ ts))
    ≡ reads (long_path_statement in_block) (at End (name_token true j ∷ of_kind true COLON true ∷ of_kind true COLON c ∷ ts))
unfolding table
long-picks j c ts = refl

-- no macro call in braces begins here
abbrev pub NotBraced : List Token → Type 0
NotBraced more = (g : Forest) → sees false (at g more) braced_macro_begins ≡ false

no-braced : (a : Rule) (g : Forest) (more : List Token) → NotBraced more → begins_at (When braced_macro_begins a) (at g more) ≡ false
unfolding forms
no-braced a g more b = b g

tail-flows : (u : Reading) → reads (Then after_path (Then (Star (Continue postfix)) (operators_and_end in_block))) u ≡ gives statement_end (reads after_operand (operand_after u))
unfolding forms
tail-flows u = refl

-- A statement of the whole language that begins with such a path is the expression there, and its end.
pub long-path-reads : (p : Path) (c j : Bool) (more : List Token) (v : Reading) → NoColon more → NotBraced more
    → begins_at (Call block_like) (at End (path_tokens true (Below p c j) more)) ≡ false
    → gives expression (at End (path_tokens true (Below p c j) more)) ≡ v
    → gives statement (at End (path_tokens true (Below p c j) more)) ≡ gives statement_end v
long-path-reads p c j more v colon braced n e =
    let b = two-colons true p c j more in
    let pick : reads (rule statement) (at End (path_tokens true (Below p c j) more)) ≡ reads (long_path_statement in_block) (at End (path_tokens true (Below p c j) more)) = rw b.are (long-picks b.first b.colons b.rest) in
    let path = expression_path-reads true (Below p c j) more colon in
    let flows : gives expression (at End (path_tokens true (Below p c j) more)) ≡ reads after_operand (operand_after (at (path_tree (Below p c j) End) more)) =
    rw b.are (expression-flows true b.first _ _ (rw b.are at n) (rw b.are at path)) in
    whole-means statement false _
    ∙ pick
    ∙ then-reads (Call expr_path) (path_tail in_block) _ (call-reads expr_path _ _ more path)
    (or-second (When braced_macro_begins (Then braced_macro (after_block in_block))) (Then after_path (Then (Star (Continue postfix)) (operators_and_end in_block))) _ (no-braced _ _ more braced)
    ∙ tail-flows (at (path_tree (Below p c j) End) more)
    ∙ ap (λ (s : Reading). gives statement_end s) (sym flows ∙ e))

-- The path that an expression begins with, and the tokens after it; else the first token, which is no name.
pub record Front (flag : Bool) (ts : List Token) : Type 0 where
  pub path : Path
  pub more : List Token
  pub are : ts ≡ path_tokens flag path more
  pub colon : NoColon more
  pub braced : NotBraced more

pub record NoFront (flag : Bool) (ts : List Token) : Type 0 where
  pub start : Start
  pub rest : List Token
  pub are : ts ≡ token_of flag start ∷ rest
  pub no_name : IsNoName start

-- what may follow a path in an expression
record Follows (ts : List Token) : Type 0 where
  pub colon : NoColon ts
  pub braced : NotBraced ts

follows-operator : (flag : Bool) (o : Operator) (j : Bool) (ts : List Token) → Follows (operator_tokens flag o j ts)
unfolding forms
follows-operator flag Pipe j ts = record { colon = refl; braced = λ g. refl }
follows-operator flag LogicalOr j ts = record { colon = refl; braced = λ g. refl }
follows-operator flag LogicalAnd j ts = record { colon = refl; braced = λ g. refl }
follows-operator flag Equal j ts = record { colon = refl; braced = λ g. refl }
follows-operator flag NotEqual j ts = record { colon = refl; braced = λ g. refl }
follows-operator flag Less j ts = record { colon = refl; braced = λ g. refl }
follows-operator flag Greater j ts = record { colon = refl; braced = λ g. refl }
follows-operator flag LessOrEqual j ts = record { colon = refl; braced = λ g. refl }
follows-operator flag GreaterOrEqual j ts = record { colon = refl; braced = λ g. refl }
follows-operator flag BitOr j ts = record { colon = refl; braced = λ g. refl }
follows-operator flag BitXor j ts = record { colon = refl; braced = λ g. refl }
follows-operator flag BitAnd j ts = record { colon = refl; braced = λ g. refl }
follows-operator flag ShiftLeft j ts = record { colon = refl; braced = λ g. refl }
follows-operator flag ShiftRight j ts = record { colon = refl; braced = λ g. refl }
follows-operator flag Plus j ts = record { colon = refl; braced = λ g. refl }
follows-operator flag Minus j ts = record { colon = refl; braced = λ g. refl }
follows-operator flag Times j ts = record { colon = refl; braced = λ g. refl }
follows-operator flag Divide j ts = record { colon = refl; braced = λ g. refl }
follows-operator flag Remainder j ts = record { colon = refl; braced = λ g. refl }

follows-assigner : (flag : Bool) (o : Assigner) (j : Bool) (ts : List Token) → Follows (assigner_tokens flag o j ts)
unfolding forms
follows-assigner flag Assign j ts = record { colon = refl; braced = λ g. refl }
follows-assigner flag AssignPlus j ts = record { colon = refl; braced = λ g. refl }
follows-assigner flag AssignMinus j ts = record { colon = refl; braced = λ g. refl }
follows-assigner flag AssignTimes j ts = record { colon = refl; braced = λ g. refl }
follows-assigner flag AssignDivide j ts = record { colon = refl; braced = λ g. refl }
follows-assigner flag AssignRemainder j ts = record { colon = refl; braced = λ g. refl }
follows-assigner flag AssignBitAnd j ts = record { colon = refl; braced = λ g. refl }
follows-assigner flag AssignBitOr j ts = record { colon = refl; braced = λ g. refl }
follows-assigner flag AssignBitXor j ts = record { colon = refl; braced = λ g. refl }
follows-assigner flag AssignShiftLeft j ts = record { colon = refl; braced = λ g. refl }
follows-assigner flag AssignShiftRight j ts = record { colon = refl; braced = λ g. refl }

follows-paren : (flag j : Bool) (ts : List Token) → Follows (of_kind flag L_PAREN j ∷ ts)
unfolding forms
follows-paren flag j ts = record { colon = refl; braced = λ g. refl }

follows-dot : (flag j : Bool) (ts : List Token) → Follows (of_kind flag DOT j ∷ ts)
unfolding forms
follows-dot flag j ts = record { colon = refl; braced = λ g. refl }

pub front : (flag : Bool) (e : Expression) (more : List Token) → NoColon more → NotBraced more
    → Front flag (expression_tokens flag e more) ⊎ NoFront flag (expression_tokens flag e more)
front flag (Literal l j) more c b = inr (record { start = WithLiteral l j; rest = more; are = refl; no_name = tt })
front flag (Named p) more c b = inl (record { path = p; more = more; are = refl; colon = c; braced = b })
front flag (Parenthesized j e k) more c b = inr (record { start = WithParen j; rest = _; are = refl; no_name = tt })
front flag (FunctionCall e j es k) more c b = let f = follows-paren flag j _ in front flag e _ f.colon f.braced
front flag (MethodCall e d n j es k) more c b = let f = follows-dot flag d _ in front flag e _ f.colon f.braced
front flag (FieldAccess e d n) more c b = let f = follows-dot flag d _ in front flag e _ f.colon f.braced
front flag (Prefixed s j e) more c b = inr (record { start = WithSign s j; rest = _; are = refl; no_name = tt })
front flag (Borrow j m e) more c b = inr (record { start = WithAmpersand j; rest = _; are = refl; no_name = tt })
front flag (Binary l o j r) more c b = let f = follows-operator flag o j _ in front flag l _ f.colon f.braced
front flag (Assignment l o j r) more c b = let f = follows-assigner flag o j _ in front flag l _ f.colon f.braced
