-- Arguments, and the postfix and prefix operators of an atom.
use Rattle.std.proofs.Common.{◌≡◌, ℕ, suc, ◌≤◌, Bool, true, false, ◌==◌, ◌&&◌, List, ◌∷◌, length, nat_lt, refl, ap, ◌∙◌, subst, arith}
use Rattle.std.proofs.lemmas.Bool.{lt-ltb}
use Rattle.parser_input.specs.Input.{Token}
use Rattle.parser_input.specs.Kinds.{COLON, DOT, AMP, COMMA, MUT_KW, RAW_KW, L_PAREN, R_PAREN, ARG_LIST, CALL_EXPR, FIELD_EXPR, METHOD_CALL_EXPR, PREFIX_EXPR, REF_EXPR}
use Rattle.parser_events.specs.Forest.{Expected, ExpectedExpression, UnexpectedIn, Forest, End, Leaf, Said, ErrorLeaf, Node, Float, ◌then◌}
use Rattle.rust_grammar.specs.Rule.{Rule, Or, Then, Want, Star, Opt, Call, Continue, Mode, Unless, When, Both, Not, Left, Say, Skip, Nothing, One, atom, arguments, expression, postfix, after_dot, prefixed}
use Rattle.rust_grammar.specs.Rule as rules
use Rattle.rust_grammar.specs.Meaning.{Reading, ahead}
use Rattle.rust_grammar.specs.Notation.{next, until, one_of, stops}
use Rattle.rust_grammar.specs.Words.{'l_paren', 'r_paren', 'comma', '!', '-', '*', '&', 'mut'}
use Rattle.rust_grammar.specs.Whole.{rule}
use Rattle.rust_grammar.proofs.WholeTable.{whole-means}
use Rattle.core_language.specs.Expressions.{ArgumentComma, Arguments, Borrow, Expression, FieldAccess, FunctionCall, IsWellFormed, LastArgument, MethodCall, NoArgument, Prefixed, arguments_tree, expression_kind, inside_expression, is_field_access, level}
use Rattle.core_language.specs.Operators.{Byte, ByteText, CText, Character, Dereference, FalseWord, FloatNumber, Integer, Invert, Negate, PrefixOperator, Text, TrueWord, prefix_kind}
use Rattle.core_language.specs.Types.{Immutable, Mutability, Mutable, name_ref_tree}
use Rattle.core_language.proofs.Layers.{ReadsPrefixed, arguments-longer, expression-longer}
use Rattle.core_language.proofs.Places.{Base, Calm, IsNotNext, is_paren, tree}
use Rattle.core_language.proofs.Rules.{StarReads, Stop, Turn, at, begins_at, call-reads, forms, gives, idle, reads, star-reads, table, then-reads}
use Rattle.core_language.proofs.Starts.{Start, WithAmpersand, WithLiteral, WithName, WithParen, WithSign, expression-begins, expression-is-there, is_high, prefixed-is-there, start-free, token_of}
use Rattle.core_language.proofs.Tails.{closed-of, Closed}
use Rattle.core_language.proofs.Flagged.{arguments_tokens, expression_tokens, name_token, of_kind}

pub then-end : (f : Forest) → f then End ≡ f
then-end End = refl
then-end (Leaf k n f) = ap (λ (x : Forest). Leaf k n x) (then-end f)
then-end (Said m f) = ap (λ (x : Forest). Said m x) (then-end f)
then-end (ErrorLeaf m k f) = ap (λ (x : Forest). ErrorLeaf m k x) (then-end f)
then-end (Node k c f) = ap (λ (x : Forest). Node k c x) (then-end f)
then-end (Float e c f) = ap (λ (x : Forest). Float e c x) (then-end f)

pub then-assoc : (f g h : Forest) → (f then g) then h ≡ f then (g then h)
then-assoc End g h = refl
then-assoc (Leaf k n f) g h = ap (λ (x : Forest). Leaf k n x) (then-assoc f g h)
then-assoc (Said m f) g h = ap (λ (x : Forest). Said m x) (then-assoc f g h)
then-assoc (ErrorLeaf m k f) g h = ap (λ (x : Forest). ErrorLeaf m k x) (then-assoc f g h)
then-assoc (Node k c f) g h = ap (λ (x : Forest). Node k c x) (then-assoc f g h)
then-assoc (Float e c f) g h = ap (λ (x : Forest). Float e c x) (then-assoc f g h)

-- one argument, and what parts it from the next
abbrev element : Rule
element =
    Unless (until 'r_paren')
    (Or (Then (Call expression) (Or (One 'comma') (Or (When (next 'r_paren') Nothing) (Say (Expected COMMA)))))
    (When (Both Left (Not (one_of 0 stops))) (Skip (UnexpectedIn ARG_LIST))))

arguments-rule : rule arguments
    ≡ rules.Node ARG_LIST (Then (One 'l_paren') (Then (Mode false (Star element)) (Want (One 'r_paren') (Expected R_PAREN))))
unfolding table
arguments-rule = refl

-- a token is left
pub some-left : (ts : List Token) → nat_lt 0 (suc (length ts)) ≡ true
some-left ts = lt-ltb _ _ (omega arith)

element-begins : (g : Forest) (t : Token) (ts : List Token) → IsNotNext R_PAREN (t ∷ ts)
    → begins_at (Call expression) (at g (t ∷ ts)) ≡ true → begins_at element (at g (t ∷ ts)) ≡ true
unfolding forms
element-begins g t ts n h = rw n (rw h (rw (some-left ts) refl))

element-there : (flag : Bool) (g : Forest) (e : Expression) (more : List Token) → begins_at element (at g (expression_tokens flag e more)) ≡ true
unfolding ahead
element-there flag g e more =
    let b = expression-begins flag e more in rw b.are (element-begins g (token_of flag b.start) b.rest ((start-free flag b.start).paren) (rw b.are at (expression-is-there flag e more g)))

element-closed : (flag : Bool) (g : Forest) (k : Bool) (more : List Token) → begins_at element (at g (of_kind flag R_PAREN k ∷ more)) ≡ false
unfolding forms
element-closed flag g k more = rw (some-left more) refl

element-last : (flag : Bool) (g : Forest) (k : Bool) (ts : List Token) (f : Forest) (more : List Token) → begins_at (Call expression) (at g ts) ≡ true
    → gives expression (at End ts) ≡ at f (of_kind flag R_PAREN k ∷ more) →
    reads element (at g ts) ≡ at (g then f) (of_kind flag R_PAREN k ∷ more)
unfolding forms
element-last flag g k ts f more there e = rw there (rw e refl)

element-comma : (flag : Bool) (g : Forest) (k : Bool) (ts : List Token) (f : Forest) (more : List Token) → begins_at (Call expression) (at g ts) ≡ true
    → gives expression (at End ts) ≡ at f (of_kind flag COMMA k ∷ more) →
    reads element (at g ts) ≡ at ((g then f) then Leaf COMMA 1 End) more
unfolding forms
element-comma flag g k ts f more there e = rw there (rw e refl)

pub closed-paren : (flag : Bool) (k : Bool) (more : List Token) → Closed flag (of_kind flag R_PAREN k ∷ more)
unfolding table
closed-paren true k more = closed-of true _ (λ i g. refl) (λ g. refl) (λ g. refl)
closed-paren false k more = closed-of false _ (λ i g. refl) (λ g. refl) (λ g. refl)

pub closed-comma : (flag : Bool) (k : Bool) (more : List Token) → Closed flag (of_kind flag COMMA k ∷ more)
unfolding table
closed-comma true k more = closed-of true _ (λ i g. refl) (λ g. refl) (λ g. refl)
closed-comma false k more = closed-of false _ (λ i g. refl) (λ g. refl) (λ g. refl)

-- Arguments are read up to the bracket after them.
abbrev pub ArgumentsRead : (flag : Bool) → Arguments → Type 0
ArgumentsRead flag es =
    (g : Forest) (k : Bool) (more : List Token) → StarReads element (at g (arguments_tokens flag es (of_kind flag R_PAREN k ∷ more))) (at (g then arguments_tree es End) (of_kind flag R_PAREN k ∷ more))

-- An expression is read where nothing after it goes on with it.
abbrev pub ReadsExpression : (flag : Bool) → Expression → Type 0
ReadsExpression flag e = (more : List Token) → Closed flag more → gives expression (at End (expression_tokens flag e more)) ≡ at (tree e) more

pub no-argument-read : (flag : Bool) → ArgumentsRead flag NoArgument
no-argument-read flag g k more = rw then-end (Stop (element-closed flag g k more))

pub last-argument-read : (flag : Bool) (e : Expression) → ReadsExpression flag e → ArgumentsRead flag (LastArgument e)
last-argument-read flag e r g k more =
    Turn (element-there flag g e _) (element-last flag g k _ (tree e) more (expression-is-there flag e _ g) (r _ (closed-paren flag k more))) (expression-longer flag e (of_kind flag R_PAREN k ∷ more)) (Stop (element-closed flag _ k more))

pub argument-comma-read : (flag : Bool) (e : Expression) (j : Bool) (es : Arguments) → ReadsExpression flag e → ArgumentsRead flag es
    → ArgumentsRead flag (ArgumentComma e j es)
argument-comma-read flag e j es r rest g k more =
    let h = expression-longer flag e (of_kind flag COMMA j ∷ arguments_tokens flag es (of_kind flag R_PAREN k ∷ more)) in
    let last = rest ((g then tree e) then Leaf COMMA 1 End) k more in
    let same : ((g then tree e) then Leaf COMMA 1 End) then arguments_tree es End ≡ g then arguments_tree (ArgumentComma e j es) End =
    then-assoc (g then tree e) (Leaf COMMA 1 End) (arguments_tree es End) ∙ then-assoc g (tree e) (Leaf COMMA 1 (arguments_tree es End)) in
    Turn (element-there flag g e _) (element-comma flag g j _ (tree e) _ (expression-is-there flag e _ g) (r _ (closed-comma flag j _))) (omega (arith, h))
    (subst (λ (f : Forest). StarReads element (at ((g then tree e) then Leaf COMMA 1 End) (arguments_tokens flag es (of_kind flag R_PAREN k ∷ more))) (at f (of_kind flag R_PAREN k ∷ more))) same last)

arguments-then : (es : Arguments) (f : Forest) → arguments_tree es End then f ≡ arguments_tree es f
arguments-then NoArgument f = refl
arguments-then (LastArgument e) f = refl
arguments-then (ArgumentComma e j es) f = ap (λ (x : Forest). Node (expression_kind e) (inside_expression e) (Leaf COMMA 1 x)) (arguments-then es f)

list-reads : (flag : Bool) (j k : Bool) (ts : List Token) (f : Forest) (more : List Token)
    → reads (Star element) (at (Leaf L_PAREN 1 End) ts) ≡ at (Leaf L_PAREN 1 f) (of_kind flag R_PAREN k ∷ more) →
    reads (rules.Node ARG_LIST (Then (One 'l_paren') (Then (Mode false (Star element)) (Want (One 'r_paren') (Expected R_PAREN))))) (at End (of_kind flag L_PAREN j ∷ ts)) ≡ at (Node ARG_LIST (Leaf L_PAREN 1 (f then Leaf R_PAREN 1 End)) End) more
unfolding forms
list-reads flag j k ts f more e = rw e refl

pub arguments-read : (flag : Bool) (j k : Bool) (es : Arguments) (more : List Token) → ArgumentsRead flag es →
    gives arguments (at End (of_kind flag L_PAREN j ∷ arguments_tokens flag es (of_kind flag R_PAREN k ∷ more)))
    ≡ at (Node ARG_LIST (Leaf L_PAREN 1 (arguments_tree es (Leaf R_PAREN 1 End))) End) more
arguments-read flag j k es more r =
    whole-means arguments false _
    ∙ ap (λ (a : Rule). reads a (at End (of_kind flag L_PAREN j ∷ arguments_tokens flag es (of_kind flag R_PAREN k ∷ more)))) arguments-rule
    ∙ list-reads flag j k (arguments_tokens flag es (of_kind flag R_PAREN k ∷ more)) (arguments_tree es End) more (star-reads element (r (Leaf L_PAREN 1 End) k more))
    ∙ ap (λ (f : Forest). at (Node ARG_LIST (Leaf L_PAREN 1 f) End) more) (arguments-then es (Leaf R_PAREN 1 End))

-- An atom and all postfix operators after it.
abbrev pub high : Rule
high = Then (Call atom) (Star (Continue postfix))

-- Where the turns after an atom end, its reading ends; a field access has no bracket after it.
abbrev pub ReadsHigh : (flag : Bool) → Expression → Type 0
ReadsHigh flag e =
    (more : List Token) (t : Reading) → Calm flag more → (is_field_access e && is_paren more) ≡ false → StarReads (Continue postfix) (at (tree e) more) t → reads high (at End (expression_tokens flag e more)) ≡ t

pub high-atom : (flag : Bool) (e : Expression) → ((more : List Token) → Calm flag more → gives atom (at End (expression_tokens flag e more)) ≡ at (tree e) more)
    → ReadsHigh flag e
high-atom flag e r more t calm free stars =
    then-reads (Call atom) (Star (Continue postfix)) _ (call-reads atom _ _ more (r more calm)) (star-reads (Continue postfix) stars)

there-paren : (flag : Bool) (j : Bool) (g : Forest) (ts : List Token) → begins_at (Continue postfix) (at g (of_kind flag L_PAREN j ∷ ts)) ≡ true
unfolding table
there-paren flag j g ts = refl

there-dot : (flag : Bool) (d n : Bool) (g : Forest) (ts : List Token) → begins_at (Continue postfix) (at g (of_kind flag DOT d ∷ name_token flag n ∷ ts)) ≡ true
unfolding table
there-dot flag true n g ts = refl
there-dot flag false n g ts = refl

calm-paren : (flag : Bool) (j : Bool) (ts : List Token) → Calm flag (of_kind flag L_PAREN j ∷ ts)
unfolding table
calm-paren true j ts = record { colon = refl; curly = refl; block = λ i g. refl; bang = λ g. refl }
calm-paren false j ts = record { colon = refl; curly = refl; block = λ i g. refl; bang = λ g. refl }

calm-dot : (flag : Bool) (j : Bool) (ts : List Token) → Calm flag (of_kind flag DOT j ∷ ts)
unfolding table
calm-dot true j ts = record { colon = refl; curly = refl; block = λ i g. refl; bang = λ g. refl }
calm-dot false j ts = record { colon = refl; curly = refl; block = λ i g. refl; bang = λ g. refl }

not-paren : (flag : Bool) (b d : Bool) (ts : List Token) → (b && is_paren (of_kind flag DOT d ∷ ts)) ≡ false
unfolding ahead
not-paren flag true d ts = refl
not-paren flag false d ts = refl

call-turn : (flag : Bool) (k : ℕ) (i : Forest) (j : Bool) (ts : List Token) (f : Forest) (more : List Token)
    → gives arguments (at End (of_kind flag L_PAREN j ∷ ts)) ≡ at f more →
    reads (Continue postfix) (at (Node k i End) (of_kind flag L_PAREN j ∷ ts)) ≡ at (Node CALL_EXPR (Node k i f) End) more
unfolding table
call-turn flag k i j ts f more e = whole-means postfix false _ ∙ rw e refl

method-turn : (flag : Bool) (k : ℕ) (i : Forest) (d n j : Bool) (ts : List Token) (f : Forest) (more : List Token)
    → gives arguments (at End (of_kind flag L_PAREN j ∷ ts)) ≡ at f more →
    reads (Continue postfix) (at (Node k i End) (of_kind flag DOT d ∷ name_token flag n ∷ of_kind flag L_PAREN j ∷ ts))
    ≡ at (Node METHOD_CALL_EXPR (Node k i (Leaf DOT 1 (name_ref_tree f))) End) more
unfolding table
method-turn flag k i true n j ts f more e = whole-means postfix false _ ∙ whole-means after_dot false _ ∙ rw e refl
method-turn flag k i false n j ts f more e = whole-means postfix false _ ∙ whole-means after_dot false _ ∙ rw e refl

field-turn : (flag : Bool) (k : ℕ) (i : Forest) (d n : Bool) (more : List Token) → IsNotNext L_PAREN more → IsNotNext COLON more →
    reads (Continue postfix) (at (Node k i End) (of_kind flag DOT d ∷ name_token flag n ∷ more))
    ≡ at (Node FIELD_EXPR (Node k i (Leaf DOT 1 (name_ref_tree End))) End) more
unfolding table
field-turn true k i true n more p c = whole-means postfix false _ ∙ whole-means after_dot false _ ∙ rw (p, c) refl
field-turn false k i true n more p c = whole-means postfix false _ ∙ whole-means after_dot false _ ∙ rw (p, c) refl
field-turn true k i false n more p c = whole-means postfix false _ ∙ whole-means after_dot false _ ∙ rw (p, c) refl
field-turn false k i false n more p c = whole-means postfix false _ ∙ whole-means after_dot false _ ∙ rw (p, c) refl

pub high-call : (flag : Bool) (e : Expression) (j : Bool) (es : Arguments) (k : Bool) → ReadsHigh flag e → is_field_access e ≡ false → ArgumentsRead flag es
    → ReadsHigh flag (FunctionCall e j es k)
high-call flag e j es k r no_field as' more t calm free stars =
    let h = arguments-longer flag es (of_kind flag R_PAREN k ∷ more) in
    r (of_kind flag L_PAREN j ∷ arguments_tokens flag es (of_kind flag R_PAREN k ∷ more)) t (calm-paren flag j _) (rw no_field refl)
    (Turn (there-paren flag j _ _) (call-turn flag (expression_kind e) (inside_expression e) j _ _ more (arguments-read flag j k es more as')) (omega (arith, h)) stars)

pub high-method : (flag : Bool) (e : Expression) (d n j : Bool) (es : Arguments) (k : Bool) → ReadsHigh flag e → ArgumentsRead flag es
    → ReadsHigh flag (MethodCall e d n j es k)
high-method flag e d n j es k r as' more t calm free stars =
    let h = arguments-longer flag es (of_kind flag R_PAREN k ∷ more) in
    r (of_kind flag DOT d ∷ name_token flag n ∷ of_kind flag L_PAREN j ∷ arguments_tokens flag es (of_kind flag R_PAREN k ∷ more)) t (calm-dot flag d _) (not-paren flag (is_field_access e) d _)
    (Turn (there-dot flag d n _ _) (method-turn flag (expression_kind e) (inside_expression e) d n j _ _ more (arguments-read flag j k es more as')) (omega (arith, h)) stars)

pub high-field : (flag : Bool) (e : Expression) (d n : Bool) → ReadsHigh flag e → ReadsHigh flag (FieldAccess e d n)
high-field flag e d n r more t calm free stars =
    r (of_kind flag DOT d ∷ name_token flag n ∷ more) t (calm-dot flag d _) (not-paren flag (is_field_access e) d _)
    (Turn (there-dot flag d n _ _) (field-turn flag (expression_kind e) (inside_expression e) d n more free calm.colon) (omega arith) stars)

pub high-picks : (flag : Bool) (s : Start) → is_high s ≡ true → (ts : List Token)
    → reads (rule prefixed) (at End (token_of flag s ∷ ts)) ≡ reads high (at End (token_of flag s ∷ ts))
unfolding table
high-picks flag (WithName j) h ts = rw (idle flag) refl
high-picks flag (WithLiteral Integer j) h ts = rw (idle flag) refl
high-picks flag (WithLiteral FloatNumber j) h ts = rw (idle flag) refl
high-picks flag (WithLiteral Character j) h ts = rw (idle flag) refl
high-picks flag (WithLiteral Byte j) h ts = rw (idle flag) refl
high-picks flag (WithLiteral Text j) h ts = rw (idle flag) refl
high-picks flag (WithLiteral ByteText j) h ts = rw (idle flag) refl
high-picks flag (WithLiteral CText j) h ts = rw (idle flag) refl
high-picks flag (WithLiteral TrueWord j) h ts = rw (idle flag) refl
high-picks flag (WithLiteral FalseWord j) h ts = rw (idle flag) refl
high-picks flag (WithParen j) h ts = rw (idle flag) refl
high-picks true (WithSign s j) h ts = absurd cc
high-picks false (WithSign s j) h ts = absurd cc
high-picks true (WithAmpersand j) h ts = absurd cc
high-picks false (WithAmpersand j) h ts = absurd cc

no-postfix : (g : Forest) (more : List Token) → Base more → begins_at (Continue postfix) (at g more) ≡ false
unfolding table
no-postfix g more b = rw (b.paren, b.bracket, b.question, b.dot) refl

and-false : (b : Bool) → (b && false) ≡ false
and-false true = refl
and-false false = refl

pub prefixed-high : (flag : Bool) (e : Expression) → IsWellFormed e → 15 ≤ level e → ReadsHigh flag e → ReadsPrefixed flag e
prefixed-high flag e i h r more calm base =
    let b = expression-begins flag e more in
    let pick : reads (rule prefixed) (at End (expression_tokens flag e more)) ≡ reads high (at End (expression_tokens flag e more)) = rw b.are (high-picks flag b.start (b.high i h) b.rest) in
    whole-means prefixed false _ ∙ pick ∙ r more _ calm (rw base.paren (and-false _)) (Stop (no-postfix _ more base))

-- a prefix with its operand
abbrev signed : Rule
signed = rules.Node PREFIX_EXPR (Then (Or (One '-') (Or (One '!') (One '*'))) (Want (Call prefixed) ExpectedExpression))

sign-picks : (flag : Bool) (s : PrefixOperator) (j : Bool) (ts : List Token)
    → reads (rule prefixed) (at End (of_kind flag (prefix_kind s) j ∷ ts)) ≡ reads signed (at End (of_kind flag (prefix_kind s) j ∷ ts))
unfolding table
sign-picks flag Negate j ts = refl
sign-picks flag Invert j ts = refl
sign-picks flag Dereference j ts = refl

sign-reads : (flag : Bool) (s : PrefixOperator) (j : Bool) (ts : List Token) (f : Forest) (more : List Token)
    → ((g : Forest) → begins_at (Call prefixed) (at g ts) ≡ true) → gives prefixed (at End ts) ≡ at f more →
    reads signed (at End (of_kind flag (prefix_kind s) j ∷ ts)) ≡ at (Node PREFIX_EXPR (Leaf (prefix_kind s) 1 f) End) more
unfolding forms
sign-reads flag Negate j ts f more there e = rw (there (Leaf (prefix_kind Negate) 1 End)) (rw e refl)
sign-reads flag Invert j ts f more there e = rw (there (Leaf (prefix_kind Invert) 1 End)) (rw e refl)
sign-reads flag Dereference j ts f more there e = rw (there (Leaf (prefix_kind Dereference) 1 End)) (rw e refl)

pub prefixed-sign : (flag : Bool) (s : PrefixOperator) (j : Bool) (e : Expression) → ReadsPrefixed flag e → ReadsPrefixed flag (Prefixed s j e)
prefixed-sign flag s j e r more calm base =
    whole-means prefixed false _
    ∙ sign-picks flag s j _
    ∙ sign-reads flag s j (expression_tokens flag e more) (tree e) more (prefixed-is-there flag e more) (r more calm base)

-- a borrow with its operand
abbrev borrowed : Rule
borrowed = rules.Node REF_EXPR (Then (One '&') (Then (Opt (One 'mut')) (Want (Call prefixed) ExpectedExpression)))

-- The next token is no word `raw`.
abbrev IsNotRaw : List Token → Type 0
IsNotRaw ts = ((ahead 0 ts).contextual == RAW_KW) ≡ false

borrow-picks : (flag : Bool) (j : Bool) (ts : List Token) → IsNotRaw ts
    → reads (rule prefixed) (at End (of_kind flag AMP j ∷ ts)) ≡ reads borrowed (at End (of_kind flag AMP j ∷ ts))
unfolding table
borrow-picks true j ts h = rw h refl
borrow-picks false j ts h = refl

borrow-reads : (flag : Bool) (j : Bool) (ts : List Token) (f : Forest) (more : List Token) → IsNotNext MUT_KW ts
    → ((g : Forest) → begins_at (Call prefixed) (at g ts) ≡ true) → gives prefixed (at End ts) ≡ at f more →
    reads borrowed (at End (of_kind flag AMP j ∷ ts)) ≡ at (Node REF_EXPR (Leaf AMP 1 f) End) more
unfolding forms
borrow-reads flag j ts f more n there e = rw n (rw (there (Leaf AMP 1 End)) (rw e refl))

borrow-mut-reads : (flag : Bool) (j i : Bool) (ts : List Token) (f : Forest) (more : List Token)
    → ((g : Forest) → begins_at (Call prefixed) (at g ts) ≡ true) → gives prefixed (at End ts) ≡ at f more →
    reads borrowed (at End (of_kind flag AMP j ∷ of_kind flag MUT_KW i ∷ ts)) ≡ at (Node REF_EXPR (Leaf AMP 1 (Leaf MUT_KW 1 f)) End) more
unfolding forms
borrow-mut-reads flag j i ts f more there e = rw (there (Leaf AMP 1 (Leaf MUT_KW 1 End))) (rw e refl)

not-mut : (flag : Bool) (e : Expression) (more : List Token) → IsNotNext MUT_KW (expression_tokens flag e more)
unfolding ahead
not-mut flag e more = let b = expression-begins flag e more in rw b.are ((start-free flag b.start).mut)

not-raw : (flag : Bool) (e : Expression) (more : List Token) → IsNotRaw (expression_tokens flag e more)
unfolding ahead
not-raw flag e more = let b = expression-begins flag e more in rw b.are ((start-free flag b.start).raw)

pub prefixed-borrow : (flag : Bool) (j : Bool) (m : Mutability) (e : Expression) → ReadsPrefixed flag e → ReadsPrefixed flag (Borrow j m e)
unfolding ahead
prefixed-borrow flag j Immutable e r more calm base =
    whole-means prefixed false _
    ∙ borrow-picks flag j _ (not-raw flag e more)
    ∙ borrow-reads flag j (expression_tokens flag e more) (tree e) more (not-mut flag e more) (prefixed-is-there flag e more) (r more calm base)
prefixed-borrow flag j (Mutable i) e r more calm base =
    whole-means prefixed false _
    ∙ borrow-picks flag j _ refl
    ∙ borrow-mut-reads flag j i (expression_tokens flag e more) (tree e) more (prefixed-is-there flag e more) (r more calm base)
