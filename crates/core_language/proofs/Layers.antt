-- The layers of operators, all by one lemma each.
use Rattle.std.proofs.Common.{◌≡◌, ℕ, zero, suc, ◌<◌, ◌≤◌, Bool, true, false, ◌&&◌, List, ◌∷◌, length, refl, ap, sym, ◌∙◌, subst, arith, inl, inr}
use native.Mathlib.Nat.{eq-or-lt_of_le}
use Rattle.parser_input.specs.Input.{Token}
use Rattle.parser_input.specs.Kinds.{DOT, COLON, R_PAREN, L_PAREN, COMMA, BIN_EXPR, CAST_EXPR}
use Rattle.parser_events.specs.Forest.{ExpectedType, Forest, End, Leaf, Node, ◌then◌}
use Rattle.rust_grammar.specs.Rule.{Rule, One, Wrap, Then, Want, Star, Call, cast, prefixed, type_no_bounds}
use Rattle.rust_grammar.specs.Meaning.{Reading}
use Rattle.rust_grammar.specs.Words.{'as'}
use Rattle.rust_grammar.specs.Whole.{rule}
use Rattle.rust_grammar.proofs.WholeTable.{whole-means}
use Rattle.core_language.specs.Expressions.{ArgumentComma, Arguments, Assignment, Binary, Borrow, Expression, FieldAccess, FunctionCall, LastArgument, Literal, MethodCall, Named, NoArgument, Parenthesized, Prefixed, begins_with_ampersand, expression_kind, inside_expression, is_bit_and}
use Rattle.core_language.specs.Operators.{Assign, AssignBitAnd, AssignBitOr, AssignBitXor, AssignDivide, AssignMinus, AssignPlus, AssignRemainder, AssignShiftLeft, AssignShiftRight, AssignTimes, Assigner, BitAnd, BitOr, BitXor, Divide, Equal, Greater, GreaterOrEqual, Less, LessOrEqual, LogicalAnd, LogicalOr, Minus, NotEqual, Operator, Pipe, Plus, Remainder, ShiftLeft, ShiftRight, Times, operator_count, operator_kind, operator_tree}
use Rattle.core_language.specs.Types.{Below, Immutable, Mutability, Mutable, Name, Path}
use Rattle.core_language.proofs.Operators.{Between, NotBoth, between}
use Rattle.core_language.proofs.Places.{Base, Calm, Stops, layer_of, ops, turn, under, tree}
use Rattle.core_language.proofs.Rules.{StarReads, Stop, Turn, at, begins_at, call-reads, forms, gives, reads, star-reads, table, then-reads}
use Rattle.core_language.proofs.Starts.{expression-begins, layer-is-there, start-ampersand, start-free, token_of}
use Rattle.core_language.proofs.Flagged.{arguments_tokens, assigner_tokens, expression_tokens, mut_tokens, name_token, of_kind, operator_tokens, path_tokens}

-- Expressions have tokens.
path-longer : (flag : Bool) (p : Path) (more : List Token) → length more < length (path_tokens flag p more)
path-longer flag (Name j) more = omega arith
path-longer flag (Below p c j) more = let h = path-longer flag p (of_kind flag COLON true ∷ of_kind flag COLON c ∷ name_token flag j ∷ more) in omega (arith, h)

mut-longer : (flag : Bool) (m : Mutability) (ts : List Token) → length ts ≤ length (mut_tokens flag m ts)
mut-longer flag Immutable ts = omega arith
mut-longer flag (Mutable j) ts = omega arith

operator-longer : (flag : Bool) (o : Operator) (j : Bool) (ts : List Token) → length ts < length (operator_tokens flag o j ts)
operator-longer flag Pipe j ts = omega arith
operator-longer flag LogicalOr j ts = omega arith
operator-longer flag LogicalAnd j ts = omega arith
operator-longer flag Equal j ts = omega arith
operator-longer flag NotEqual j ts = omega arith
operator-longer flag Less j ts = omega arith
operator-longer flag Greater j ts = omega arith
operator-longer flag LessOrEqual j ts = omega arith
operator-longer flag GreaterOrEqual j ts = omega arith
operator-longer flag BitOr j ts = omega arith
operator-longer flag BitXor j ts = omega arith
operator-longer flag BitAnd j ts = omega arith
operator-longer flag ShiftLeft j ts = omega arith
operator-longer flag ShiftRight j ts = omega arith
operator-longer flag Plus j ts = omega arith
operator-longer flag Minus j ts = omega arith
operator-longer flag Times j ts = omega arith
operator-longer flag Divide j ts = omega arith
operator-longer flag Remainder j ts = omega arith

assigner-longer : (flag : Bool) (o : Assigner) (j : Bool) (ts : List Token) → length ts < length (assigner_tokens flag o j ts)
assigner-longer flag Assign j ts = omega arith
assigner-longer flag AssignPlus j ts = omega arith
assigner-longer flag AssignMinus j ts = omega arith
assigner-longer flag AssignTimes j ts = omega arith
assigner-longer flag AssignDivide j ts = omega arith
assigner-longer flag AssignRemainder j ts = omega arith
assigner-longer flag AssignBitAnd j ts = omega arith
assigner-longer flag AssignBitOr j ts = omega arith
assigner-longer flag AssignBitXor j ts = omega arith
assigner-longer flag AssignShiftLeft j ts = omega arith
assigner-longer flag AssignShiftRight j ts = omega arith

mutual
  pub expression-longer : (flag : Bool) (e : Expression) (more : List Token) → length more < length (expression_tokens flag e more)
  expression-longer flag (Literal l j) more = omega arith
  expression-longer flag (Named p) more = path-longer flag p more
  expression-longer flag (Parenthesized j e k) more = let h = expression-longer flag e (of_kind flag R_PAREN k ∷ more) in omega (arith, h)
  expression-longer flag (FunctionCall e j es k) more =
      let h = expression-longer flag e (of_kind flag L_PAREN j ∷ arguments_tokens flag es (of_kind flag R_PAREN k ∷ more)) in
      let i = arguments-longer flag es (of_kind flag R_PAREN k ∷ more) in
      omega (arith, h, i)
  expression-longer flag (MethodCall e d n j es k) more =
      let h = expression-longer flag e (of_kind flag DOT d ∷ name_token flag n ∷ of_kind flag L_PAREN j ∷ arguments_tokens flag es (of_kind flag R_PAREN k ∷ more)) in
      let i = arguments-longer flag es (of_kind flag R_PAREN k ∷ more) in
      omega (arith, h, i)
  expression-longer flag (FieldAccess e d n) more = let h = expression-longer flag e (of_kind flag DOT d ∷ name_token flag n ∷ more) in omega (arith, h)
  expression-longer flag (Prefixed s j e) more = let h = expression-longer flag e more in omega (arith, h)
  expression-longer flag (Borrow j m e) more = let h = expression-longer flag e more in let i = mut-longer flag m (expression_tokens flag e more) in omega (arith, h, i)
  expression-longer flag (Binary l o j r) more =
      let h = expression-longer flag l (operator_tokens flag o j (expression_tokens flag r more)) in
      let i = operator-longer flag o j (expression_tokens flag r more) in
      let k = expression-longer flag r more in
      omega (arith, h, i, k)
  expression-longer flag (Assignment l o j r) more =
      let h = expression-longer flag l (assigner_tokens flag o j (expression_tokens flag r more)) in
      let i = assigner-longer flag o j (expression_tokens flag r more) in
      let k = expression-longer flag r more in
      omega (arith, h, i, k)

  pub arguments-longer : (flag : Bool) (es : Arguments) (more : List Token) → length more ≤ length (arguments_tokens flag es more)
  arguments-longer flag NoArgument more = omega arith
  arguments-longer flag (LastArgument e) more = let h = expression-longer flag e more in omega (arith, h)
  arguments-longer flag (ArgumentComma e j es) more =
      let h = expression-longer flag e (of_kind flag COMMA j ∷ arguments_tokens flag es more) in
      let i = arguments-longer flag es more in
      omega (arith, h, i)

pub layer-rule : (d : ℕ) → d ≤ 8 → rule (layer_of (suc d)) ≡ Then (Call (layer_of d)) (Star (turn d))
unfolding table
layer-rule zero h = refl
layer-rule (suc zero) h = refl
layer-rule (suc (suc zero)) h = refl
layer-rule (suc (suc (suc zero))) h = refl
layer-rule (suc (suc (suc (suc zero)))) h = refl
layer-rule (suc (suc (suc (suc (suc zero))))) h = refl
layer-rule (suc (suc (suc (suc (suc (suc zero)))))) h = refl
layer-rule (suc (suc (suc (suc (suc (suc (suc zero))))))) h = refl
layer-rule (suc (suc (suc (suc (suc (suc (suc (suc zero)))))))) h = refl
layer-rule (suc (suc (suc (suc (suc (suc (suc (suc (suc d))))))))) h = absurd (omega arith)

-- An operand and its layer's operator before it are taken together.
pub turn-reads : (d k : ℕ) (i : Forest) (kind count : ℕ) (before after : List Token) (l : ℕ) (r : Forest) (more : List Token) →
    ((g : Forest) → reads (ops d) (at g before) ≡ at (g then Leaf kind count End) after) →
    ((g : Forest) → begins_at (Call (layer_of d)) (at g after) ≡ true) →
    gives (layer_of d) (at End after) ≡ at (Node l r End) more →
    reads (turn d) (at (Node k i End) before) ≡ at (Node BIN_EXPR (Node k i (Leaf kind count (Node l r End))) End) more
unfolding forms
turn-reads d k i kind count before after l r more taken there e = rw (taken (Node k i End)) (rw (there (Node k i (Leaf kind count End))) (rw e refl))

-- An expression as an operand of the layer d, and as the left one of a layer of operators.
abbrev pub ReadsAt : (flag : Bool) → ℕ → Expression → Type 0
ReadsAt flag d e = (more : List Token) → Calm flag more → Stops d more → gives (layer_of d) (at End (expression_tokens flag e more)) ≡ at (tree e) more

-- An expression as the left operand of the layer d + 1: where its turns end, the layer ends.
abbrev pub LoopAt : (flag : Bool) → ℕ → Expression → Type 0
LoopAt flag d e =
    (more : List Token) (t : Reading) → Calm flag more → Stops d more → StarReads (turn d) (at (tree e) more) t → gives (layer_of (suc d)) (at End (expression_tokens flag e more)) ≡ t

pub loop-of : (flag : Bool) (d : ℕ) → d ≤ 8 → (e : Expression) → ReadsAt flag d e → LoopAt flag d e
loop-of flag d h e r more t calm stops stars =
    whole-means (layer_of (suc d)) false _
    ∙ ap (λ (a : Rule). reads a (at End (expression_tokens flag e more))) (layer-rule d h)
    ∙ then-reads (Call (layer_of d)) (Star (turn d)) _ (call-reads (layer_of d) _ _ more (r more calm stops)) (star-reads (turn d) stars)

pub loop-ends : (flag : Bool) (d : ℕ) (e : Expression) → LoopAt flag d e → ReadsAt flag (suc d) e
loop-ends flag d e l more calm stops = l more _ calm stops.1 (Stop (stops.0 _))

third : (a b c : Bool) → (a && b && c) ≡ false → a ≡ true → b ≡ true → c ≡ false
third true true c h p q = h
third true false c h p q = absurd cc
third false b c h p q = absurd cc

-- A binary expression, from its operands.
pub binary-loop : (flag : Bool) (l : Expression) (o : Operator) (j : Bool) (r : Expression) → under o ≤ 8
    → (is_bit_and o && j && begins_with_ampersand r) ≡ false → LoopAt flag (under o) l → ReadsAt flag (under o) r → LoopAt flag (under o) (Binary l o j r)
binary-loop flag l o j r h apart left right more t calm stops stars =
    let b = expression-begins flag r more in
    let not_both : NotBoth o j (token_of flag b.start) = λ p q. start-ampersand flag b.start (sym b.amp ∙ third _ _ _ apart p q) in
    let m = between flag o j (token_of flag b.start) b.rest (start-free flag b.start) not_both in
    let w : Between flag o j (token_of flag b.start) b.rest = m in
    let there : (g : Forest) → begins_at (turn (under o)) (at g (operator_tokens flag o j (expression_tokens flag r more))) ≡ true = λ g. rw b.are (m.there g) in
    let taken : (g : Forest) → reads (ops (under o)) (at g (operator_tokens flag o j (expression_tokens flag r more))) ≡ at (g then operator_tree o End) (expression_tokens flag r more) = λ g. rw b.are (m.taken g) in
    let stop : Stops (under o) (operator_tokens flag o j (expression_tokens flag r more)) = rw b.are m.stops in
    let calm' : Calm flag (operator_tokens flag o j (expression_tokens flag r more)) = rw b.are m.calm in
    let i = operator-longer flag o j (expression_tokens flag r more) in
    let k = expression-longer flag r more in
    left (operator_tokens flag o j (expression_tokens flag r more)) t calm' stop
    (Turn (there (tree l))
    (turn-reads (under o) (expression_kind l) (inside_expression l) (operator_kind o) (operator_count o) (operator_tokens flag o j (expression_tokens flag r more)) (expression_tokens flag r more) (expression_kind r) (inside_expression r) more taken (λ g. layer-is-there flag (under o) (omega (arith, h)) r more g) (right more calm stops))
    (omega (arith, i, k)) stars)

-- from a layer up
pub climb : (flag : Bool) (e : Expression) (h d : ℕ) → h ≤ d → d ≤ 9 → ReadsAt flag h e → ReadsAt flag d e
climb flag e h zero p q r = let z : h ≡ 0 = omega arith in subst (λ (n : ℕ). ReadsAt flag n e) z r
climb flag e h (suc d) p q r = elim (eq-or-lt_of_le p) [
  | inl s ↦ subst (λ (n : ℕ). ReadsAt flag n e) s r
  | inr s ↦ loop-ends flag d e (loop-of flag d (omega arith) e (climb flag e h d (omega arith) (omega arith) r))
]

-- below the layers: casts, which the core language has none of
pub cast-rule : rule cast ≡ Then (Call prefixed) (Star (Wrap CAST_EXPR (Then (One 'as') (Want (Call type_no_bounds) ExpectedType))))
unfolding table
cast-rule = refl

no-cast : (g : Forest) (more : List Token) → Base more
    → begins_at (Wrap CAST_EXPR (Then (One 'as') (Want (Call type_no_bounds) ExpectedType))) (at g more) ≡ false
unfolding forms
no-cast g more b = b.cast

-- An expression as the operand of a prefix.
abbrev pub ReadsPrefixed : (flag : Bool) → Expression → Type 0
ReadsPrefixed flag e = (more : List Token) → Calm flag more → Base more → gives prefixed (at End (expression_tokens flag e more)) ≡ at (tree e) more

pub reads-cast : (flag : Bool) (e : Expression) → ReadsPrefixed flag e → ReadsAt flag 0 e
reads-cast flag e r more calm base =
    whole-means cast false _
    ∙ ap (λ (a : Rule). reads a (at End (expression_tokens flag e more))) cast-rule
    ∙ then-reads (Call prefixed) (Star (Wrap CAST_EXPR (Then (One 'as') (Want (Call type_no_bounds) ExpectedType)))) _ (call-reads prefixed _ _ more (r more calm base)) (star-reads (Wrap CAST_EXPR (Then (One 'as') (Want (Call type_no_bounds) ExpectedType))) (Stop (no-cast _ more base)))
