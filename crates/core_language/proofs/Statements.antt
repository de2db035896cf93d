-- Core statements and blocks are read.
use Rattle.std.proofs.Common.{◌≡◌, ℕ, suc, inl, inr, ◌<◌, ◌≤◌, Bool, true, false, List, ◌∷◌, length, nat_lt, not, refl, ap, ◌∙◌, subst, arith, if◌then◌else◌}
use Rattle.parser_input.specs.Input.{Token}
use Rattle.parser_input.specs.Kinds.{DEFER_KW, DEFER_STMT, COLON, EQ, SEMICOLON, LET_KW, L_CURLY, R_CURLY, LET_STMT, LET_ELSE, EXPR_STMT, STMT_LIST, BLOCK_EXPR}
use Rattle.parser_events.specs.Forest.{Expected, ExpectedType, ExpectedPattern, ExpectedExpression, Forest, End, Leaf, Node, ◌then◌}
use Rattle.rust_grammar.specs.Rule.{Production, Look, Rule, Then, Opt, Want, Call, Continue, Unless, Mode, Star, One, block_like, expression, pattern, any_type, block, statement, statement_end, statement_list}
use Rattle.rust_grammar.specs.Rule as rules
use Rattle.rust_grammar.specs.Meaning.{Reading, ahead, sees}
use Rattle.rust_grammar.specs.Notation.{until, wide}
use Rattle.rust_grammar.specs.Expressions.{macro_block_begins}
use Rattle.rust_grammar.specs.Statements.{new_statement_begins}
use Rattle.rust_grammar.specs.Words.{':', '=', 'semi', 'let', 'defer', 'else', 'l_curly', 'r_curly'}
use Rattle.rust_grammar.specs.Whole.{rule}
use Rattle.rust_grammar.proofs.WholeTable.{whole-means}
use Rattle.core_language.specs.Expressions.{Expression, IsWellFormed, expression_kind, inside_expression}
use Rattle.core_language.specs.Operators.{Byte, ByteText, CText, Character, Dereference, FalseWord, FloatNumber, Integer, Invert, Negate, Text, TrueWord}
use Rattle.core_language.specs.Statements.{AnnotatedBy, Annotation, AreWellFormedStatements, Block, Braces, Defer, InitializedBy, Initializer, IsWellFormedBlock, IsWellFormedStatement, LastExpression, Let, NamePattern, NoAnnotation, NoInitializer, NoStatement, Pattern, Run, Statement, StatementThen, Statements, block_tree, statement_tree, statements_tree}
use Rattle.core_language.specs.Types.{Below, Immutable, Mutable, Name, Path, inside_type, type_kind}
use Rattle.core_language.proofs.Expressions.{core-expression-reads}
use Rattle.core_language.proofs.Layers.{expression-longer}
use Rattle.core_language.proofs.LongPaths.{NotBraced, front, long-path-reads}
use Rattle.core_language.proofs.NotBlocks.{no-block}
use Rattle.core_language.proofs.Paths.{NoColon}
use Rattle.core_language.proofs.Patterns.{BeforeEnd, BeforeValue, pattern-is-there, pattern-reads, type-there, typed}
use Rattle.core_language.proofs.Postfix.{some-left, then-assoc, then-end}
use Rattle.core_language.proofs.Rules.{StarReads, Stop, Turn, at, begins_at, call-reads, either, forms, gives, idle, reads, star-reads, table, then-reads}
use Rattle.core_language.proofs.Starts.{IsNoName, Start, WithAmpersand, WithLiteral, WithName, WithParen, WithSign, expression-begins, expression-is-there, token_of}
use Rattle.core_language.proofs.Tails.{closed-of, Closed, continue-reads}
use Rattle.core_language.proofs.Types.{path-begins, type-longer, type-reads}
use Rattle.core_language.proofs.Places.{tree}
use Rattle.core_language.proofs.Flagged.{annotation_tokens, block_tokens, expression_tokens, initializer_tokens, name_token, of_kind, path_tokens, pattern_tokens, statement_tokens, statements_tokens, type_tokens}

either-picks : {A : Type 0} (b : Bool) (x y : A) → (if (if b then true else true) then x else y) ≡ x
either-picks true x y = refl
either-picks false x y = refl

-- an expression among statements
run-picks : (flag : Bool) (s : Start) (ts : List Token) → IsNoName s →
    reads (rule statement) (at End (token_of flag s ∷ ts)) ≡ reads (Then (Call expression) (Continue statement_end)) (at End (token_of flag s ∷ ts))
unfolding table
run-picks flag (WithName j) ts n = absurd n
run-picks flag (WithLiteral Integer j) ts n = rw (idle flag) refl
run-picks flag (WithLiteral FloatNumber j) ts n = rw (idle flag) refl
run-picks flag (WithLiteral Character j) ts n = rw (idle flag) refl
run-picks flag (WithLiteral Byte j) ts n = rw (idle flag) refl
run-picks flag (WithLiteral Text j) ts n = rw (idle flag) refl
run-picks flag (WithLiteral ByteText j) ts n = rw (idle flag) refl
run-picks flag (WithLiteral CText j) ts n = rw (idle flag) refl
run-picks flag (WithLiteral TrueWord j) ts n = rw (idle flag) refl
run-picks flag (WithLiteral FalseWord j) ts n = rw (idle flag) refl
run-picks flag (WithParen j) ts n = rw (idle flag) refl
run-picks flag (WithSign Negate j) ts n = rw (idle flag) refl
run-picks flag (WithSign Invert j) ts n = rw (idle flag) refl
run-picks flag (WithSign Dereference j) ts n = rw (idle flag) refl
run-picks true (WithAmpersand j) ts n = either-picks _ _ _
run-picks false (WithAmpersand j) ts n = refl

-- a name that no `::` follows, and in the profile any name
short-picks : (flag j : Bool) (ts : List Token) → NoColon ts → begins_at (Call block_like) (at End (name_token flag j ∷ ts)) ≡ false →
    reads (rule statement) (at End (name_token flag j ∷ ts)) ≡ reads (Then (Call expression) (Continue statement_end)) (at End (name_token flag j ∷ ts))
unfolding table
short-picks true j ts c n = rw (c, n) refl
short-picks false j ts c n = rw n refl

profile-picks : (j : Bool) (ts : List Token) → begins_at (Call block_like) (at End (name_token false j ∷ ts)) ≡ false →
    reads (rule statement) (at End (name_token false j ∷ ts)) ≡ reads (Then (Call expression) (Continue statement_end)) (at End (name_token false j ∷ ts))
unfolding table
profile-picks j ts n = rw n refl

either-same : {A : Type 0} (b : Bool) (x y : A) → (if (if not b then true else true) then x else y) ≡ x
either-same true x y = refl
either-same false x y = refl

end-semi : (flag : Bool) (k : ℕ) (i : Forest) (j : Bool) (more : List Token)
    → gives statement_end (at (Node k i End) (of_kind flag SEMICOLON j ∷ more)) ≡ at (Node EXPR_STMT (Node k i (Leaf SEMICOLON 1 End)) End) more
unfolding table
end-semi flag k i j more = whole-means statement_end false _ ∙ refl

end-last : (flag : Bool) (g : Forest) (j : Bool) (more : List Token)
    → gives statement_end (at g (of_kind flag R_CURLY j ∷ more)) ≡ at g (of_kind flag R_CURLY j ∷ more)
unfolding table
end-last flag g j more = whole-means statement_end false _ ∙ either-same (nat_lt 0 (suc (length more))) (at g (of_kind flag R_CURLY j ∷ more)) _

closed-semi : (flag : Bool) (k : Bool) (more : List Token) → Closed flag (of_kind flag SEMICOLON k ∷ more)
unfolding table
closed-semi true k more = closed-of true _ (λ i g. refl) (λ g. refl) (λ g. refl)
closed-semi false k more = closed-of false _ (λ i g. refl) (λ g. refl) (λ g. refl)

closed-curly : (flag : Bool) (k : Bool) (more : List Token) → Closed flag (of_kind flag R_CURLY k ∷ more)
unfolding table
closed-curly true k more = closed-of true _ (λ i g. refl) (λ g. refl) (λ g. refl)
closed-curly false k more = closed-of false _ (λ i g. refl) (λ g. refl) (λ g. refl)

-- a statement that is read as an expression and its end
ended : (ts : List Token) (s t : Reading) → reads (rule statement) (at End ts) ≡ reads (Then (Call expression) (Continue statement_end)) (at End ts)
    → gives expression (at End ts) ≡ s → gives statement_end s ≡ t → gives statement (at End ts) ≡ t
ended ts s t pick e h =
    whole-means statement false _ ∙ pick ∙ then-reads (Call expression) (Continue statement_end) _ (call-reads expression _ _ s.rest e) (continue-reads statement_end _ ∙ h)

-- The path that a statement begins with: one of several segments is read by a row of its own in the whole language.
path-run : (flag : Bool) (p : Path) (more : List Token) (s t : Reading) → NoColon more → NotBraced more
    → begins_at (Call block_like) (at End (path_tokens flag p more)) ≡ false
    → gives expression (at End (path_tokens flag p more)) ≡ s → gives statement_end s ≡ t → gives statement (at End (path_tokens flag p more)) ≡ t
path-run flag (Name j) more s t c b n e h = ended _ s t (short-picks flag j more c n) e h
path-run true (Below p d j) more s t c b n e h = long-path-reads p d j more s c b n e ∙ h
path-run false (Below p d j) more s t c b n e h =
    let first = path-begins false (Below p d j) more in
    ended _ s t (rw first.are (profile-picks first.j first.rest (rw first.are at n))) e h

run-reads : (flag : Bool) (e : Expression) (more : List Token) (t : Reading) → IsWellFormed e → Closed flag more → NotBraced more
    → gives statement_end (at (tree e) more) ≡ t → gives statement (at End (expression_tokens flag e more)) ≡ t
run-reads flag e more t i c b h =
    let n = no-block flag e more c.calm.block End in
    let r = core-expression-reads flag e i more c in
    elim (front flag e more c.calm.colon b) [
      | inl f ↦ rw f.are (path-run flag f.path f.more _ t f.colon f.braced (rw f.are at n) (rw f.are at r) h)
      | inr f ↦ rw f.are (ended _ _ t (run-picks flag f.start f.rest f.no_name) (rw f.are at r) h)
    ]

not-braced-semi : (flag k : Bool) (more : List Token) → NotBraced (of_kind flag SEMICOLON k ∷ more)
unfolding forms
not-braced-semi flag k more g = refl

not-braced-curly : (flag k : Bool) (more : List Token) → NotBraced (of_kind flag R_CURLY k ∷ more)
unfolding forms
not-braced-curly flag k more g = refl

-- a `let`
abbrev value_part : Rule
value_part = Opt (Then (One '=') (Want (Call expression) ExpectedExpression))

-- the rule of a `let`
abbrev let_rule : Rule
let_rule =
    rules.Node LET_STMT
    (Then (One 'let') (Then (Want (Call pattern) ExpectedPattern) (Then (Opt (Then (One ':') (Want (Call any_type) ExpectedType)))
    (Then value_part (Then (Opt (rules.Node LET_ELSE (Then (One 'else') (Want (Call block) (Expected BLOCK_EXPR))))) (Want (One 'semi') (Expected SEMICOLON)))))))

let-picks : (flag : Bool) (j : Bool) (ts : List Token)
    → reads (rule statement) (at End (of_kind flag LET_KW j ∷ ts)) ≡ reads let_rule (at End (of_kind flag LET_KW j ∷ ts))
unfolding table
let-picks flag j ts = refl

-- The four forms of a `let`, of its parts.
let-bare : (flag : Bool) (j : Bool) (ts : List Token) (x : ℕ) (i : Forest) (k : Bool) (more : List Token)
    → ((g : Forest) → begins_at (Call pattern) (at g ts) ≡ true)
    → gives pattern (at End ts) ≡ at (Node x i End) (of_kind flag SEMICOLON k ∷ more) →
    reads let_rule (at End (of_kind flag LET_KW j ∷ ts)) ≡ at (Node LET_STMT (Leaf LET_KW 1 (Node x i (Leaf SEMICOLON 1 End))) End) more
unfolding forms
let-bare flag j ts x i k more there e = rw (there (Leaf LET_KW 1 End)) (rw e refl)

let-typed : (flag : Bool) (j : Bool) (ts : List Token) (x : ℕ) (i : Forest) (c : Bool) (us : List Token) (y : ℕ) (h : Forest) (k : Bool) (more : List Token) →
    ((g : Forest) → begins_at (Call pattern) (at g ts) ≡ true) → gives pattern (at End ts) ≡ at (Node x i End) (of_kind flag COLON c ∷ us) →
    ((g : Forest) → begins_at (Call any_type) (at g us) ≡ true)
    → gives any_type (at End us) ≡ at (Node y h End) (of_kind flag SEMICOLON k ∷ more) →
    reads let_rule (at End (of_kind flag LET_KW j ∷ ts))
    ≡ at (Node LET_STMT (Leaf LET_KW 1 (Node x i (Leaf COLON 1 (Node y h (Leaf SEMICOLON 1 End))))) End) more
unfolding forms
let-typed flag j ts x i c us y h k more there e there' e' =
    rw (there (Leaf LET_KW 1 End)) (rw e (rw (there' (Leaf LET_KW 1 (Node x i (Leaf COLON 1 End)))) (rw e' refl)))

let-valued : (flag : Bool) (j : Bool) (ts : List Token) (x : ℕ) (i : Forest) (c : Bool) (us : List Token) (y : ℕ) (h : Forest) (k : Bool) (more : List Token) →
    ((g : Forest) → begins_at (Call pattern) (at g ts) ≡ true) → gives pattern (at End ts) ≡ at (Node x i End) (of_kind flag EQ c ∷ us) →
    ((g : Forest) → begins_at (Call expression) (at g us) ≡ true)
    → gives expression (at End us) ≡ at (Node y h End) (of_kind flag SEMICOLON k ∷ more) →
    reads let_rule (at End (of_kind flag LET_KW j ∷ ts))
    ≡ at (Node LET_STMT (Leaf LET_KW 1 (Node x i (Leaf EQ 1 (Node y h (Leaf SEMICOLON 1 End))))) End) more
unfolding forms
let-valued flag j ts x i c us y h k more there e there' e' =
    rw (there (Leaf LET_KW 1 End)) (rw e (rw (there' (Leaf LET_KW 1 (Node x i (Leaf EQ 1 End)))) (rw e' refl)))

let-both : (flag : Bool) (j : Bool) (ts : List Token) (x : ℕ) (i : Forest) (c : Bool) (us : List Token) (y : ℕ) (h : Forest) (d : Bool) (vs : List Token) (z : ℕ) (l : Forest) (k : Bool) (more : List Token) →
    ((g : Forest) → begins_at (Call pattern) (at g ts) ≡ true) → gives pattern (at End ts) ≡ at (Node x i End) (of_kind flag COLON c ∷ us) →
    ((g : Forest) → begins_at (Call any_type) (at g us) ≡ true) → gives any_type (at End us) ≡ at (Node y h End) (of_kind flag EQ d ∷ vs) →
    ((g : Forest) → begins_at (Call expression) (at g vs) ≡ true)
    → gives expression (at End vs) ≡ at (Node z l End) (of_kind flag SEMICOLON k ∷ more) →
    reads let_rule (at End (of_kind flag LET_KW j ∷ ts))
    ≡ at (Node LET_STMT (Leaf LET_KW 1 (Node x i (Leaf COLON 1 (Node y h (Leaf EQ 1 (Node z l (Leaf SEMICOLON 1 End))))))) End) more
unfolding forms
let-both flag j ts x i c us y h d vs z l k more t1 e1 t2 e2 t3 e3 =
    rw (t1 (Leaf LET_KW 1 End)) (rw e1 (rw (t2 (Leaf LET_KW 1 (Node x i (Leaf COLON 1 End)))) (rw e2 (rw (t3 (Leaf LET_KW 1 (Node x i (Leaf COLON 1 (Node y h (Leaf EQ 1 End)))))) (rw e3 refl)))))

-- a block that is deferred
abbrev defer_rule : Rule
defer_rule = rules.Node DEFER_STMT (Then (One 'defer') (Want (Call block) (Expected BLOCK_EXPR)))

defer-picks : (flag : Bool) (j : Bool) (ts : List Token)
    → reads (rule statement) (at End (of_kind flag DEFER_KW j ∷ ts)) ≡ reads defer_rule (at End (of_kind flag DEFER_KW j ∷ ts))
unfolding table
defer-picks flag j ts = refl

block-there : (flag : Bool) (j : Bool) (g : Forest) (ts : List Token) → begins_at (Call block) (at g (of_kind flag L_CURLY j ∷ ts)) ≡ true
unfolding table
block-there flag j g ts = refl

defer-reads : (flag : Bool) (j : Bool) (ts : List Token) (f : Forest) (more : List Token) → ((g : Forest) → begins_at (Call block) (at g ts) ≡ true)
    → gives block (at End ts) ≡ at f more
    → reads defer_rule (at End (of_kind flag DEFER_KW j ∷ ts)) ≡ at (Node DEFER_STMT (Leaf DEFER_KW 1 f) End) more
unfolding forms
defer-reads flag j ts f more there e = rw (there (Leaf DEFER_KW 1 End)) (rw e refl)

-- The statements of a block, one a turn.
abbrev turn_statement : Rule
turn_statement = Unless (until 'r_curly') (Call statement)

turn-closed : (flag : Bool) (g : Forest) (k : Bool) (more : List Token) → begins_at turn_statement (at g (of_kind flag R_CURLY k ∷ more)) ≡ false
unfolding table
turn-closed flag g k more = rw (some-left more) refl

turn-let : (flag : Bool) (g : Forest) (j : Bool) (ts : List Token) → begins_at turn_statement (at g (of_kind flag LET_KW j ∷ ts)) ≡ true
unfolding table
turn-let flag g j ts = rw (some-left ts) refl

turn-defer : (flag : Bool) (g : Forest) (j : Bool) (ts : List Token) → begins_at turn_statement (at g (of_kind flag DEFER_KW j ∷ ts)) ≡ true
unfolding table
turn-defer flag g j ts = rw (some-left ts) refl

either-twice : (b : Bool) → (if b then true else (if (if b then true else true) then true else true)) ≡ true
either-twice true = refl
either-twice false = refl

either-thrice : (a b : Bool) → (if a then true else (if b then true else (if (if b then true else true) then true else true))) ≡ true
either-thrice true b = refl
either-thrice false b = either-twice b

turn-start : (flag : Bool) (s : Start) (g : Forest) (ts : List Token) → begins_at turn_statement (at g (token_of flag s ∷ ts)) ≡ true
unfolding table
turn-start true (WithName j) g ts =
    let s : Reading = at g (name_token true j ∷ ts) in
    rw (some-left ts) (either-thrice (sees false s (wide new_statement_begins)) (sees false s macro_block_begins))
turn-start false (WithName j) g ts = rw (some-left ts) (either-twice _)
turn-start true (WithLiteral Integer j) g ts = rw (some-left ts) refl
turn-start false (WithLiteral Integer j) g ts = rw (some-left ts) refl
turn-start true (WithLiteral FloatNumber j) g ts = rw (some-left ts) refl
turn-start false (WithLiteral FloatNumber j) g ts = rw (some-left ts) refl
turn-start true (WithLiteral Character j) g ts = rw (some-left ts) refl
turn-start false (WithLiteral Character j) g ts = rw (some-left ts) refl
turn-start true (WithLiteral Byte j) g ts = rw (some-left ts) refl
turn-start false (WithLiteral Byte j) g ts = rw (some-left ts) refl
turn-start true (WithLiteral Text j) g ts = rw (some-left ts) refl
turn-start false (WithLiteral Text j) g ts = rw (some-left ts) refl
turn-start true (WithLiteral ByteText j) g ts = rw (some-left ts) refl
turn-start false (WithLiteral ByteText j) g ts = rw (some-left ts) refl
turn-start true (WithLiteral CText j) g ts = rw (some-left ts) refl
turn-start false (WithLiteral CText j) g ts = rw (some-left ts) refl
turn-start true (WithLiteral TrueWord j) g ts = rw (some-left ts) refl
turn-start false (WithLiteral TrueWord j) g ts = rw (some-left ts) refl
turn-start true (WithLiteral FalseWord j) g ts = rw (some-left ts) refl
turn-start false (WithLiteral FalseWord j) g ts = rw (some-left ts) refl
turn-start true (WithParen j) g ts = rw (some-left ts) refl
turn-start false (WithParen j) g ts = rw (some-left ts) refl
turn-start true (WithSign Negate j) g ts = rw (some-left ts) refl
turn-start false (WithSign Negate j) g ts = rw (some-left ts) refl
turn-start true (WithSign Invert j) g ts = rw (some-left ts) refl
turn-start false (WithSign Invert j) g ts = rw (some-left ts) refl
turn-start true (WithSign Dereference j) g ts = rw (some-left ts) refl
turn-start false (WithSign Dereference j) g ts = rw (some-left ts) refl
turn-start true (WithAmpersand j) g ts = rw (some-left ts) (either _)
turn-start false (WithAmpersand j) g ts = rw (some-left ts) refl

turn-run : (flag : Bool) (e : Expression) (more : List Token) (g : Forest) → begins_at turn_statement (at g (expression_tokens flag e more)) ≡ true
turn-run flag e more g = let b = expression-begins flag e more in rw b.are (turn-start flag b.start g b.rest)

turn-there : (flag : Bool) (s : Statement) (more : List Token) (g : Forest) → begins_at turn_statement (at g (statement_tokens flag s more)) ≡ true
turn-there flag (Let j p n v k) more g = turn-let flag g j _
turn-there flag (Run e k) more g = turn-run flag e _ g
turn-there flag (Defer j b) more g = turn-defer flag g j _

pub unless-reads : (l : Look) (x : Production) (g : Forest) (ts : List Token) (f : Forest) (more : List Token)
    → gives x (at End ts) ≡ at f more → reads (Unless l (Call x)) (at g ts) ≡ at (g then f) more
unfolding forms
unless-reads l x g ts f more e = rw e refl

pub pattern-longer : (flag : Bool) (p : Pattern) (more : List Token) → length more < length (pattern_tokens flag p more)
pattern-longer flag (NamePattern Immutable n) more = omega arith
pattern-longer flag (NamePattern (Mutable i) n) more = omega arith

annotation-longer : (flag : Bool) (n : Annotation) (more : List Token) → length more ≤ length (annotation_tokens flag n more)
annotation-longer flag NoAnnotation more = omega arith
annotation-longer flag (AnnotatedBy c t) more = let h = type-longer flag t more in omega (arith, h)

initializer-longer : (flag : Bool) (v : Initializer) (more : List Token) → length more ≤ length (initializer_tokens flag v more)
initializer-longer flag NoInitializer more = omega arith
initializer-longer flag (InitializedBy j e) more = let h = expression-longer flag e more in omega (arith, h)

mutual
  pub statement-longer : (flag : Bool) (s : Statement) (more : List Token) → length more < length (statement_tokens flag s more)
  statement-longer flag (Let j p n v k) more =
      let a = pattern-longer flag p (annotation_tokens flag n (initializer_tokens flag v (of_kind flag SEMICOLON k ∷ more))) in
      let b = annotation-longer flag n (initializer_tokens flag v (of_kind flag SEMICOLON k ∷ more)) in
      let c = initializer-longer flag v (of_kind flag SEMICOLON k ∷ more) in
      omega (arith, a, b, c)
  statement-longer flag (Run e k) more = let h = expression-longer flag e (of_kind flag SEMICOLON k ∷ more) in omega (arith, h)
  statement-longer flag (Defer j b) more = let h = block-longer flag b more in omega (arith, h)

  statements-longer : (flag : Bool) (ss : Statements) (more : List Token) → length more ≤ length (statements_tokens flag ss more)
  statements-longer flag NoStatement more = omega arith
  statements-longer flag (LastExpression e) more = let h = expression-longer flag e more in omega (arith, h)
  statements-longer flag (StatementThen s ss) more =
      let h = statement-longer flag s (statements_tokens flag ss more) in
      let i = statements-longer flag ss more in
      omega (arith, h, i)

  block-longer : (flag : Bool) (b : Block) (more : List Token) → length more < length (block_tokens flag b more)
  block-longer flag (Braces j ss k) more = let h = statements-longer flag ss (of_kind flag R_CURLY k ∷ more) in omega (arith, h)

statement-then : (s : Statement) (f : Forest) → statement_tree s End then f ≡ statement_tree s f
statement-then (Let j p n v k) f = refl
statement-then (Run e k) f = refl
statement-then (Defer j b) f = refl

-- A list in braces.
pub braces-read : (flag : Bool) (list : ℕ) (a : Rule) (j k : Bool) (ts : List Token) (f : Forest) (more : List Token)
    → reads (Star a) (at (Leaf L_CURLY 1 End) ts) ≡ at (Leaf L_CURLY 1 f) (of_kind flag R_CURLY k ∷ more) →
    reads (rules.Node list (Then (One 'l_curly') (Then (Mode false (Star a)) (Want (One 'r_curly') (Expected R_CURLY))))) (at End (of_kind flag L_CURLY j ∷ ts)) ≡ at (Node list (Leaf L_CURLY 1 (f then Leaf R_CURLY 1 End)) End) more
unfolding forms
braces-read flag list a j k ts f more e = rw e refl

-- `braces-read` after other trees
pub braces-read-in : (flag : Bool) (list : ℕ) (a : Rule) (g : Forest) (j k : Bool) (ts : List Token) (f : Forest) (more : List Token)
    → reads (Star a) (at (Leaf L_CURLY 1 End) ts) ≡ at (Leaf L_CURLY 1 f) (of_kind flag R_CURLY k ∷ more) →
    reads (rules.Node list (Then (One 'l_curly') (Then (Mode false (Star a)) (Want (One 'r_curly') (Expected R_CURLY))))) (at g (of_kind flag L_CURLY j ∷ ts)) ≡ at (g then Node list (Leaf L_CURLY 1 (f then Leaf R_CURLY 1 End)) End) more
unfolding forms
braces-read-in flag list a g j k ts f more e = rw e refl

list-rule : rule statement_list
    ≡ rules.Node STMT_LIST (Then (One 'l_curly') (Then (Mode false (Star turn_statement)) (Want (One 'r_curly') (Expected R_CURLY))))
unfolding table
list-rule = refl

block-picks : (ts : List Token) (f : Forest) (more : List Token) → gives statement_list (at End ts) ≡ at f more
    → reads (rule block) (at End ts) ≡ at (Node BLOCK_EXPR f End) more
unfolding table
block-picks ts f more e = rw e refl

statements-then : (ss : Statements) (f : Forest) → statements_tree ss End then f ≡ statements_tree ss f
statements-then NoStatement f = refl
statements-then (LastExpression e) f = refl
statements-then (StatementThen (Let j p n v k) ss) f = ap (λ (x : Forest). statement_tree (Let j p n v k) x) (statements-then ss f)
statements-then (StatementThen (Defer j b) ss) f = ap (λ (x : Forest). statement_tree (Defer j b) x) (statements-then ss f)
statements-then (StatementThen (Run e k) ss) f = ap (λ (x : Forest). statement_tree (Run e k) x) (statements-then ss f)

-- Statements, lists of them and blocks are read.
mutual
  unfolding ahead

  statement-reads : (flag : Bool) (s : Statement) (more : List Token) → IsWellFormedStatement s
      → gives statement (at End (statement_tokens flag s more)) ≡ at (statement_tree s End) more
  statement-reads flag (Let j (NamePattern m n) NoAnnotation NoInitializer k) more i =
      whole-means statement false _ ∙ let-picks flag j _
      ∙ let-bare flag j _ _ _ k more (pattern-is-there flag (NamePattern m n) (BeforeEnd k more)) (pattern-reads flag (NamePattern m n) (BeforeEnd k more))
  statement-reads flag (Let j (NamePattern m n) (AnnotatedBy c t) NoInitializer k) more i =
      whole-means statement false _ ∙ let-picks flag j _
      ∙ let-typed flag j _ _ _ c (type_tokens flag t (of_kind flag SEMICOLON k ∷ more)) (type_kind t) (inside_type t) k more (pattern-is-there flag (NamePattern m n) (typed flag c t _)) (pattern-reads flag (NamePattern m n) (typed flag c t _)) (type-there flag t _) (type-reads flag t _ (record { colon = refl; angle = refl; paren = refl; bang = refl; plus = refl }))
  statement-reads flag (Let j (NamePattern m n) NoAnnotation (InitializedBy d e) k) more i =
      whole-means statement false _ ∙ let-picks flag j _
      ∙ let-valued flag j _ _ _ d (expression_tokens flag e (of_kind flag SEMICOLON k ∷ more)) (expression_kind e) (inside_expression e) k more (pattern-is-there flag (NamePattern m n) (BeforeValue d _)) (pattern-reads flag (NamePattern m n) (BeforeValue d _)) (expression-is-there flag e _) (core-expression-reads flag e i _ (closed-semi flag k more))
  statement-reads flag (Let j (NamePattern m n) (AnnotatedBy c t) (InitializedBy d e) k) more i =
      whole-means statement false _ ∙ let-picks flag j _
      ∙ let-both flag j _ _ _ c (type_tokens flag t (of_kind flag EQ d ∷ expression_tokens flag e (of_kind flag SEMICOLON k ∷ more))) (type_kind t) (inside_type t) d (expression_tokens flag e (of_kind flag SEMICOLON k ∷ more)) (expression_kind e) (inside_expression e) k more
      (pattern-is-there flag (NamePattern m n) (typed flag c t _)) (pattern-reads flag (NamePattern m n) (typed flag c t _)) (type-there flag t _) (type-reads flag t _ (record { colon = refl; angle = refl; paren = refl; bang = refl; plus = refl })) (expression-is-there flag e _) (core-expression-reads flag e i _ (closed-semi flag k more))
  statement-reads flag (Run e k) more i = run-reads flag e (of_kind flag SEMICOLON k ∷ more) _ i (closed-semi flag k more) (not-braced-semi flag k more) (end-semi flag (expression_kind e) (inside_expression e) k more)
  statement-reads flag (Defer j (Braces k ss m)) more i =
      whole-means statement false _ ∙ defer-picks flag j _
      ∙ defer-reads flag j _ _ more (λ g. block-there flag k g _) (block-reads flag (Braces k ss m) more i)

  statements-read : (flag : Bool) (ss : Statements) → AreWellFormedStatements ss → (g : Forest) (k : Bool) (more : List Token) →
      StarReads turn_statement (at g (statements_tokens flag ss (of_kind flag R_CURLY k ∷ more))) (at (g then statements_tree ss End) (of_kind flag R_CURLY k ∷ more))
  statements-read flag NoStatement i g k more = rw then-end (Stop (turn-closed flag g k more))
  statements-read flag (LastExpression e) i g k more =
      Turn (turn-run flag e _ g) (unless-reads (until 'r_curly') statement g _ (tree e) _ (run-reads flag e (of_kind flag R_CURLY k ∷ more) _ i (closed-curly flag k more) (not-braced-curly flag k more) (end-last flag (tree e) k more))) (expression-longer flag e (of_kind flag R_CURLY k ∷ more)) (Stop (turn-closed flag _ k more))
  statements-read flag (StatementThen s ss) i g k more =
      let h = statement-longer flag s (statements_tokens flag ss (of_kind flag R_CURLY k ∷ more)) in
      let last = statements-read flag ss i.1 (g then statement_tree s End) k more in
      let same : (g then statement_tree s End) then statements_tree ss End ≡ g then statements_tree (StatementThen s ss) End =
      then-assoc g (statement_tree s End) (statements_tree ss End) ∙ ap (λ (f : Forest). g then f) (statement-then s (statements_tree ss End)) in
      Turn (turn-there flag s _ g) (unless-reads (until 'r_curly') statement g _ (statement_tree s End) _ (statement-reads flag s _ i.0)) h
      (subst (λ (f : Forest). StarReads turn_statement (at (g then statement_tree s End) (statements_tokens flag ss (of_kind flag R_CURLY k ∷ more))) (at f (of_kind flag R_CURLY k ∷ more))) same last)

  pub block-reads : (flag : Bool) (b : Block) (more : List Token) → IsWellFormedBlock b
      → gives block (at End (block_tokens flag b more)) ≡ at (block_tree b End) more
  block-reads flag (Braces j ss k) more i =
      whole-means block false _
      ∙ block-picks _ _ more
      (whole-means statement_list false _
      ∙ ap (λ (a : Rule). reads a (at End (of_kind flag L_CURLY j ∷ statements_tokens flag ss (of_kind flag R_CURLY k ∷ more)))) list-rule
      ∙ braces-read flag STMT_LIST turn_statement j k _ (statements_tree ss End) more (star-reads turn_statement (statements-read flag ss i (Leaf L_CURLY 1 End) k more))
      ∙ ap (λ (f : Forest). at (Node STMT_LIST (Leaf L_CURLY 1 f) End) more) (statements-then ss (Leaf R_CURLY 1 End)))
