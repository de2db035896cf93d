-- Assignments, and whole expressions.
use Rattle.std.proofs.Common.{◌≡◌, ℕ, Bool, true, false, List, ◌∷◌, refl, ap, ◌∙◌, arith}
use Rattle.parser_input.specs.Input.{Token}
use Rattle.parser_input.specs.Kinds.{DOT, BIN_EXPR}
use Rattle.parser_events.specs.Forest.{ExpectedExpression, Forest, End, Leaf, Node, ◌then◌}
use Rattle.rust_grammar.specs.Rule.{Production, Rule, Or, Wrap, Then, Want, Call, Continue, Nothing, operation, operation_tail, pipe_tail, expression, disjunction}
use Rattle.rust_grammar.specs.Meaning.{Reading, ahead}
use Rattle.rust_grammar.specs.Notation.{op}
use Rattle.rust_grammar.specs.Words.{'+=', '-=', '*=', '/=', '%=', '&=', '|=', '^=', '<<=', '>>=', '='}
use Rattle.rust_grammar.specs.Whole.{rule}
use Rattle.rust_grammar.proofs.WholeTable.{whole-means}
use Rattle.core_language.specs.Expressions.{Assignment, Binary, Expression, expression_kind, inside_expression}
use Rattle.core_language.specs.Operators.{Assign, AssignBitAnd, AssignBitOr, AssignBitXor, AssignDivide, AssignMinus, AssignPlus, AssignRemainder, AssignShiftLeft, AssignShiftRight, AssignTimes, Assigner, Pipe, assigner_count, assigner_kind, assigner_tree, operator_count, operator_kind, operator_tree}
use Rattle.core_language.proofs.Layers.{ReadsAt, turn-reads}
use Rattle.core_language.proofs.Operators.{Between, between}
use Rattle.core_language.proofs.Places.{Base, Calm, IsNotNext, Stops, is_calm, ops, stops_at, calm-of, stops-of, tree, turn}
use Rattle.core_language.proofs.Rules.{at, begins_at, call-reads, forms, gives, idle, or-first, or-second, reads, table, then-reads}
use Rattle.core_language.proofs.Starts.{Free, expression-begins, layer-is-there, operation-is-there, start-free, token_of}
use Rattle.core_language.proofs.Flagged.{assigner_tokens, expression_tokens, operator_tokens}

-- the spellings of assignments
abbrev pub assignment : Rule
assignment =
    Or (op '=') (Or (op '+=') (Or (op '-=') (Or (op '*=') (Or (op '/=') (Or (op '%=') (Or (op '&=') (Or (op '|=') (Or (op '^=') (Or (op '<<=') (op '>>='))))))))))

-- an assignment with its right operand
abbrev pub setting : Rule
setting = Wrap BIN_EXPR (Then assignment (Want (Call operation) ExpectedExpression))

-- An assigner after its left operand, where the right one begins with the token t.
pub record Set (flag : Bool) (o : Assigner) (j : Bool) (t : Token) (ts : List Token) : Type 0 where
  pub there : (g : Forest) → begins_at setting (at g (assigner_tokens flag o j (t ∷ ts))) ≡ true
  pub taken : (g : Forest) → reads assignment (at g (assigner_tokens flag o j (t ∷ ts))) ≡ at (g then assigner_tree o End) (t ∷ ts)
  pub stops : Stops 10 (assigner_tokens flag o j (t ∷ ts))
  pub calm : Calm flag (assigner_tokens flag o j (t ∷ ts))

-- `Set` from tests that compute
found : (flag : Bool) → {o : Assigner} {j : Bool} {t : Token} {ts : List Token} →
    ((g : Forest) → begins_at setting (at g (assigner_tokens flag o j (t ∷ ts))) ≡ true) →
    ((g : Forest) → reads assignment (at g (assigner_tokens flag o j (t ∷ ts))) ≡ at (g then assigner_tree o End) (t ∷ ts)) →
    ((g : Forest) → stops_at 10 g (assigner_tokens flag o j (t ∷ ts)) ≡ true) →
    ((i : Bool) (g : Forest) → is_calm flag i g (assigner_tokens flag o j (t ∷ ts)) ≡ true) → Set flag o j t ts
found flag there taken stops calm = record { there = there; taken = taken; stops = stops-of 10 _ stops; calm = calm-of flag _ calm }

assigner-between : (flag : Bool) (o : Assigner) (j : Bool) (t : Token) (ts : List Token) → Free t → Set flag o j t ts
unfolding table
assigner-between flag Assign true t ts f = found flag (λ g. rw (f.eq, f.gt) refl) (λ g. rw (f.eq, f.gt) refl) (λ g. rw (f.eq) refl) (λ i g. rw (idle flag) refl)
assigner-between flag Assign false t ts f = found flag (λ g. refl) (λ g. refl) (λ g. refl) (λ i g. rw (idle flag) refl)
assigner-between flag AssignPlus true t ts f = found flag (λ g. refl) (λ g. refl) (λ g. refl) (λ i g. rw (idle flag) refl)
assigner-between flag AssignPlus false t ts f = found flag (λ g. refl) (λ g. refl) (λ g. refl) (λ i g. rw (idle flag) refl)
assigner-between flag AssignMinus true t ts f = found flag (λ g. refl) (λ g. refl) (λ g. refl) (λ i g. rw (idle flag) refl)
assigner-between flag AssignMinus false t ts f = found flag (λ g. refl) (λ g. refl) (λ g. refl) (λ i g. rw (idle flag) refl)
assigner-between flag AssignTimes true t ts f = found flag (λ g. refl) (λ g. refl) (λ g. refl) (λ i g. rw (idle flag) refl)
assigner-between flag AssignTimes false t ts f = found flag (λ g. refl) (λ g. refl) (λ g. refl) (λ i g. rw (idle flag) refl)
assigner-between flag AssignDivide true t ts f = found flag (λ g. refl) (λ g. refl) (λ g. refl) (λ i g. rw (idle flag) refl)
assigner-between flag AssignDivide false t ts f = found flag (λ g. refl) (λ g. refl) (λ g. refl) (λ i g. rw (idle flag) refl)
assigner-between flag AssignRemainder true t ts f = found flag (λ g. refl) (λ g. refl) (λ g. refl) (λ i g. rw (idle flag) refl)
assigner-between flag AssignRemainder false t ts f = found flag (λ g. refl) (λ g. refl) (λ g. refl) (λ i g. rw (idle flag) refl)
assigner-between flag AssignBitAnd true t ts f = found flag (λ g. refl) (λ g. refl) (λ g. refl) (λ i g. rw (idle flag) refl)
assigner-between flag AssignBitAnd false t ts f = found flag (λ g. refl) (λ g. refl) (λ g. refl) (λ i g. rw (idle flag) refl)
assigner-between flag AssignBitOr true t ts f = found flag (λ g. refl) (λ g. refl) (λ g. refl) (λ i g. rw (idle flag) refl)
assigner-between flag AssignBitOr false t ts f = found flag (λ g. refl) (λ g. refl) (λ g. refl) (λ i g. rw (idle flag) refl)
assigner-between flag AssignBitXor true t ts f = found flag (λ g. refl) (λ g. refl) (λ g. refl) (λ i g. rw (idle flag) refl)
assigner-between flag AssignBitXor false t ts f = found flag (λ g. refl) (λ g. refl) (λ g. refl) (λ i g. rw (idle flag) refl)
assigner-between flag AssignShiftLeft true t ts f = found flag (λ g. refl) (λ g. refl) (λ g. refl) (λ i g. rw (idle flag) refl)
assigner-between flag AssignShiftLeft false t ts f = found flag (λ g. refl) (λ g. refl) (λ g. refl) (λ i g. rw (idle flag) refl)
assigner-between flag AssignShiftRight true t ts f = found flag (λ g. refl) (λ g. refl) (λ g. refl) (λ i g. rw (idle flag) refl)
assigner-between flag AssignShiftRight false t ts f = found flag (λ g. refl) (λ g. refl) (λ g. refl) (λ i g. rw (idle flag) refl)

-- where no dot is next, an operation begins with an operand, and its tail is no range
pub operation-picks : (g : Forest) (ts : List Token) → IsNotNext DOT ts
    → reads (rule operation) (at g ts) ≡ reads (Then (Call disjunction) (Continue operation_tail)) (at g ts)
unfolding table
operation-picks g ts h = rw h refl

tail-picks : (g : Forest) (ts : List Token) → IsNotNext DOT ts
    → reads (rule operation_tail) (at g ts) ≡ reads (Continue pipe_tail) (at g ts)
unfolding table
tail-picks g ts h = rw h refl

pub continue-reads : (x : Production) (s : Reading) → reads (Continue x) s ≡ gives x s
unfolding forms
continue-reads x s = refl

nothing-reads : (s : Reading) → reads Nothing s ≡ s
unfolding forms
nothing-reads s = refl

-- `|>` with its right operand, and the tail after it
abbrev piping : Rule
piping = Then (turn 9) (Continue pipe_tail)

pipe-rule : rule pipe_tail ≡ Or piping (Or setting Nothing)
unfolding table
pipe-rule = refl

pipe-begins : (s : Reading) → begins_at piping s ≡ begins_at (turn 9) s
unfolding forms
pipe-begins s = refl

-- where no `|>` is next, the tail of an operand is an assignment or nothing
pipe-ends : (g : Forest) (ts : List Token) → begins_at (turn 9) (at g ts) ≡ false
    → gives pipe_tail (at g ts) ≡ reads (Or setting Nothing) (at g ts)
pipe-ends g ts h =
    whole-means pipe_tail false _
    ∙ ap (λ (a : Rule). reads a (at g ts)) pipe-rule
    ∙ or-second piping (Or setting Nothing) _ (pipe-begins _ ∙ h)

pipe-turns : (g : Forest) (ts : List Token) (u t : Reading) → begins_at (turn 9) (at g ts) ≡ true
    → reads (turn 9) (at g ts) ≡ u → gives pipe_tail u ≡ t → gives pipe_tail (at g ts) ≡ t
pipe-turns g ts u t h e f =
    whole-means pipe_tail false _
    ∙ ap (λ (a : Rule). reads a (at g ts)) pipe-rule
    ∙ or-first piping (Or setting Nothing) _ (pipe-begins _ ∙ h)
    ∙ then-reads (turn 9) (Continue pipe_tail) _ e (continue-reads pipe_tail _ ∙ f)

-- Nothing here goes on with an expression.
pub record Closed (flag : Bool) (more : List Token) : Type 0 where
  pub calm : Calm flag more
  pub stops : Stops 10 more
  pub set : (g : Forest) → begins_at setting (at g more) ≡ false

-- `Closed` from tests that compute
pub closed-of : (flag : Bool) (more : List Token) → ((i : Bool) (g : Forest) → is_calm flag i g more ≡ true) → ((g : Forest) → stops_at 10 g more ≡ true) →
    ((g : Forest) → begins_at setting (at g more) ≡ false) → Closed flag more
closed-of flag more calm stops set = record { calm = calm-of flag more calm; stops = stops-of 10 more stops; set = set }

setting-reads : (k : ℕ) (i : Forest) (kind count : ℕ) (before after : List Token) (l : ℕ) (r : Forest) (more : List Token) →
    ((g : Forest) → reads assignment (at g before) ≡ at (g then Leaf kind count End) after) →
    ((g : Forest) → begins_at (Call operation) (at g after) ≡ true) →
    gives operation (at End after) ≡ at (Node l r End) more →
    reads setting (at (Node k i End) before) ≡ at (Node BIN_EXPR (Node k i (Leaf kind count (Node l r End))) End) more
unfolding forms
setting-reads k i kind count before after l r more taken there e = rw (taken (Node k i End)) (rw (there (Node k i (Leaf kind count End))) (rw e refl))

-- An expression is read as a whole where nothing after it goes on with it.
abbrev pub ReadsWhole : (flag : Bool) → Expression → Type 0
ReadsWhole flag e = (more : List Token) → Closed flag more → gives operation (at End (expression_tokens flag e more)) ≡ at (tree e) more

no-dot : (flag : Bool) (e : Expression) (more : List Token) → IsNotNext DOT (expression_tokens flag e more)
unfolding ahead
no-dot flag e more = let b = expression-begins flag e more in rw b.are ((start-free flag b.start).dot)

bottom : {ts : List Token} → Stops 9 ts → Base ts
bottom s = s.1.1.1.1.1.1.1.1.1

-- An expression as the left operand of `|>` or of an assignment: where the tail after it ends, the whole ends.
abbrev pub ReadsPiped : (flag : Bool) → Expression → Type 0
ReadsPiped flag e =
    (more : List Token) (t : Reading) → Calm flag more → Stops 9 more → gives pipe_tail (at (tree e) more) ≡ t → gives operation (at End (expression_tokens flag e more)) ≡ t

-- An operand of the highest layer is such a one.
pub piped-operand : (flag : Bool) (e : Expression) → ReadsAt flag 9 e → ReadsPiped flag e
piped-operand flag e r more t calm stops end =
    whole-means operation false _
    ∙ operation-picks End (expression_tokens flag e more) (no-dot flag e more)
    ∙ then-reads (Call disjunction) (Continue operation_tail) _
    (call-reads disjunction _ _ more (r more calm stops))
    (continue-reads operation_tail _
    ∙ whole-means operation_tail false _
    ∙ tail-picks (tree e) more (bottom stops).dot
    ∙ continue-reads pipe_tail _
    ∙ end)

-- So is `|>` between such a one and an operand of the highest layer.
pub piped-turn : (flag : Bool) (l : Expression) (j : Bool) (r : Expression) → ReadsPiped flag l → ReadsAt flag 9 r → ReadsPiped flag (Binary l Pipe j r)
piped-turn flag l j r left right more t calm stops end =
    let b = expression-begins flag r more in
    let m : Between flag Pipe j (token_of flag b.start) b.rest = between flag Pipe j (token_of flag b.start) b.rest (start-free flag b.start) (λ p q. absurd cc) in
    let there : (g : Forest) → begins_at (turn 9) (at g (operator_tokens flag Pipe j (expression_tokens flag r more))) ≡ true = λ g. rw b.are (m.there g) in
    let taken : (g : Forest) → reads (ops 9) (at g (operator_tokens flag Pipe j (expression_tokens flag r more))) ≡ at (g then operator_tree Pipe End) (expression_tokens flag r more) = λ g. rw b.are (m.taken g) in
    let stop : Stops 9 (operator_tokens flag Pipe j (expression_tokens flag r more)) = rw b.are m.stops in
    let calm' : Calm flag (operator_tokens flag Pipe j (expression_tokens flag r more)) = rw b.are m.calm in
    left (operator_tokens flag Pipe j (expression_tokens flag r more)) t calm' stop
    (pipe-turns (tree l) (operator_tokens flag Pipe j (expression_tokens flag r more)) _ t (there (tree l))
    (turn-reads 9 (expression_kind l) (inside_expression l) (operator_kind Pipe) (operator_count Pipe) (operator_tokens flag Pipe j (expression_tokens flag r more)) (expression_tokens flag r more) (expression_kind r) (inside_expression r) more taken (λ g. layer-is-there flag 9 (omega arith) r more g) (right more calm stops))
    end)

-- It is whole where nothing goes on with it.
pub whole-piped : (flag : Bool) (e : Expression) → ReadsPiped flag e → ReadsWhole flag e
whole-piped flag e r more c = r more _ c.calm c.stops.1 (pipe-ends (tree e) more (c.stops.0 _) ∙ or-second setting Nothing _ (c.set _) ∙ nothing-reads _)

pub whole-assign : (flag : Bool) (l : Expression) (o : Assigner) (j : Bool) (r : Expression) → ReadsPiped flag l → ReadsWhole flag r
    → ReadsWhole flag (Assignment l o j r)
whole-assign flag l o j r left right more c =
    let b = expression-begins flag r more in
    let m = assigner-between flag o j (token_of flag b.start) b.rest (start-free flag b.start) in
    let there : (g : Forest) → begins_at setting (at g (assigner_tokens flag o j (expression_tokens flag r more))) ≡ true = λ g. rw b.are (m.there g) in
    let taken : (g : Forest) → reads assignment (at g (assigner_tokens flag o j (expression_tokens flag r more))) ≡ at (g then assigner_tree o End) (expression_tokens flag r more) = λ g. rw b.are (m.taken g) in
    let stop : Stops 10 (assigner_tokens flag o j (expression_tokens flag r more)) = rw b.are m.stops in
    let calm' : Calm flag (assigner_tokens flag o j (expression_tokens flag r more)) = rw b.are m.calm in
    left (assigner_tokens flag o j (expression_tokens flag r more)) _ calm' stop.1
    (pipe-ends (tree l) (assigner_tokens flag o j (expression_tokens flag r more)) (stop.0 _)
    ∙ or-first setting Nothing _ (there _)
    ∙ setting-reads (expression_kind l) (inside_expression l) (assigner_kind o) (assigner_count o) (assigner_tokens flag o j (expression_tokens flag r more)) (expression_tokens flag r more) (expression_kind r) (inside_expression r) more taken (operation-is-there flag r more) (right more c))

pub expression-rule : rule expression ≡ Call operation
unfolding table
expression-rule = refl

pub expression-reads : (flag : Bool) (e : Expression) (more : List Token) → gives operation (at End (expression_tokens flag e more)) ≡ at (tree e) more
    → gives expression (at End (expression_tokens flag e more)) ≡ at (tree e) more
expression-reads flag e more h =
    whole-means expression false _
    ∙ ap (λ (a : Rule). reads a (at End (expression_tokens flag e more))) expression-rule
    ∙ call-reads operation _ _ more h
