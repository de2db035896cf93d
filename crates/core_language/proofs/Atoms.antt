-- Literals, paths and brackets as atoms.
use Rattle.std.proofs.Common.{◌≡◌, ℕ, Bool, true, false, List, ◌∷◌, refl, ◌∙◌}
use Rattle.parser_input.specs.Input.{Token}
use Rattle.parser_input.specs.Kinds.{COLON, L_PAREN, R_PAREN, LITERAL, TOKEN_TREE, MACRO_CALL, MACRO_EXPR, RECORD_EXPR, PATH_EXPR, TUPLE_EXPR, PAREN_EXPR}
use Rattle.parser_events.specs.Forest.{Expected, ExpectedExpression, Forest, End, Leaf, Node}
use Rattle.rust_grammar.specs.Rule.{Rule, Or, Wrap, Then, Want, Call, Mode, Unless, InCondition, Nothing, One, atom, literal, block_like, expr_path, token_tree, field_values, expression}
use Rattle.rust_grammar.specs.Meaning.{ahead}
use Rattle.rust_grammar.specs.Notation.{next, rest_listed}
use Rattle.rust_grammar.specs.Words.{'l_paren', 'r_paren', 'comma', '!', '!='}
use Rattle.rust_grammar.specs.Whole.{rule}
use Rattle.rust_grammar.proofs.WholeTable.{whole-means}
use Rattle.core_language.specs.Expressions.{Expression, Literal, Named, Parenthesized, expression_kind, inside_expression}
use Rattle.core_language.specs.Operators.{Byte, ByteText, CText, Character, FalseWord, FloatNumber, Integer, LiteralForm, Text, TrueWord, literal_kind}
use Rattle.core_language.specs.Types.{Below, Name, Path}
use Rattle.core_language.proofs.Paths.{expression_path-reads}
use Rattle.core_language.proofs.Places.{Calm, IsNotNext, tree}
use Rattle.core_language.proofs.Rules.{at, begins_at, call-reads, forms, gives, idle, reads, table, then-reads}
use Rattle.core_language.proofs.Starts.{expression-begins, expression-is-there, start-free}
use Rattle.core_language.proofs.Types.{path-begins}
use Rattle.core_language.proofs.Flagged.{expression_tokens, name_token, of_kind, path_tokens}

literal-reads : (flag : Bool) (l : LiteralForm) (j : Bool) (more : List Token)
    → gives literal (at End (of_kind flag (literal_kind l) j ∷ more)) ≡ at (Node LITERAL (Leaf (literal_kind l) 1 End) End) more
unfolding table
literal-reads flag Integer j more = whole-means literal false _ ∙ refl
literal-reads flag FloatNumber j more = whole-means literal false _ ∙ refl
literal-reads flag Character j more = whole-means literal false _ ∙ refl
literal-reads flag Byte j more = whole-means literal false _ ∙ refl
literal-reads flag Text j more = whole-means literal false _ ∙ refl
literal-reads flag ByteText j more = whole-means literal false _ ∙ refl
literal-reads flag CText j more = whole-means literal false _ ∙ refl
literal-reads flag TrueWord j more = whole-means literal false _ ∙ refl
literal-reads flag FalseWord j more = whole-means literal false _ ∙ refl

pub literal-atom : (flag : Bool) (l : LiteralForm) (j : Bool) (more : List Token)
    → gives atom (at End (of_kind flag (literal_kind l) j ∷ more)) ≡ at (tree (Literal l j)) more
unfolding table
literal-atom flag Integer j more = whole-means atom false _ ∙ rw (literal-reads flag Integer j more) refl
literal-atom flag FloatNumber j more = whole-means atom false _ ∙ rw (literal-reads flag FloatNumber j more) refl
literal-atom flag Character j more = whole-means atom false _ ∙ rw (literal-reads flag Character j more) refl
literal-atom flag Byte j more = whole-means atom false _ ∙ rw (literal-reads flag Byte j more) refl
literal-atom flag Text j more = whole-means atom false _ ∙ rw (literal-reads flag Text j more) refl
literal-atom flag ByteText j more = whole-means atom false _ ∙ rw (literal-reads flag ByteText j more) refl
literal-atom flag CText j more = whole-means atom false _ ∙ rw (literal-reads flag CText j more) refl
literal-atom flag TrueWord j more = whole-means atom false _ ∙ rw (literal-reads flag TrueWord j more) refl
literal-atom flag FalseWord j more = whole-means atom false _ ∙ rw (literal-reads flag FalseWord j more) refl

-- the rest of an expression that begins with a path: a macro call, a record, or the path alone
abbrev after_path : Rule
after_path =
    Or (Unless (next '!=') (Then (Wrap MACRO_CALL (Then (One '!') (Want (Call token_tree) (Expected TOKEN_TREE)))) (Wrap MACRO_EXPR Nothing)))
    (Or (Unless InCondition (Wrap RECORD_EXPR (Call field_values))) (Wrap PATH_EXPR Nothing))

after-reads : (flag : Bool) (g : Forest) (more : List Token) → Calm flag more → reads after_path (at g more) ≡ at (Node PATH_EXPR g End) more
unfolding table
after-reads flag g more c = rw (c.bang g) (rw (c.curly) refl)

block-colon : (flag : Bool) (i c j : Bool) (more : List Token) (g : Forest)
    → begins_at (Call block_like) (at g (name_token flag i ∷ of_kind flag COLON true ∷ of_kind flag COLON c ∷ name_token flag j ∷ more)) ≡ false
unfolding table
block-colon flag i c j more g = rw (idle flag) refl

pub block-path : (flag : Bool) (p : Path) (more : List Token)
    → ((j : Bool) (g : Forest) → begins_at (Call block_like) (at g (name_token flag j ∷ more)) ≡ false) → (g : Forest)
    → begins_at (Call block_like) (at g (path_tokens flag p more)) ≡ false
block-path flag (Name j) more h g = h j g
block-path flag (Below p c j) more h g = block-path flag p (of_kind flag COLON true ∷ of_kind flag COLON c ∷ name_token flag j ∷ more) (λ i k. block-colon flag i c j more k) g

pub path-picks : (flag : Bool) (j : Bool) (ts : List Token) → begins_at (Call block_like) (at End (name_token flag j ∷ ts)) ≡ false →
    reads (rule atom) (at End (name_token flag j ∷ ts)) ≡ reads (Then (Call expr_path) after_path) (at End (name_token flag j ∷ ts))
unfolding table
path-picks flag j ts h = rw h refl

pub path-atom : (flag : Bool) (p : Path) (more : List Token) → Calm flag more → gives atom (at End (path_tokens flag p more)) ≡ at (tree (Named p)) more
path-atom flag p more c =
    let b = path-begins flag p more in
    let h : begins_at (Call block_like) (at End (name_token flag b.j ∷ b.rest)) ≡ false = rw b.are at (block-path flag p more c.block End) in
    let pick : reads (rule atom) (at End (path_tokens flag p more)) ≡ reads (Then (Call expr_path) after_path) (at End (path_tokens flag p more)) = rw b.are (path-picks flag b.j b.rest h) in
    whole-means atom false _ ∙ pick ∙ then-reads (Call expr_path) after_path _ (call-reads expr_path _ _ more (expression_path-reads flag p more c.colon)) (after-reads flag _ more c)

-- what an opening bracket begins
abbrev in_brackets : Rule
in_brackets =
    Then (One 'l_paren')
    (Or (Wrap TUPLE_EXPR (One 'r_paren'))
    (Then (Mode false (Want (Call expression) ExpectedExpression))
    (Or (Wrap TUPLE_EXPR (Then (One 'comma') (rest_listed TUPLE_EXPR (Call expression) 'r_paren'))) (Wrap PAREN_EXPR (Want (One 'r_paren') (Expected R_PAREN))))))

paren-picks : (flag : Bool) (j : Bool) (ts : List Token)
    → reads (rule atom) (at End (of_kind flag L_PAREN j ∷ ts)) ≡ reads in_brackets (at End (of_kind flag L_PAREN j ∷ ts))
unfolding table
paren-picks flag j ts = rw (idle flag) refl

not-closed : (flag : Bool) (e : Expression) (more : List Token) → IsNotNext R_PAREN (expression_tokens flag e more)
unfolding ahead
not-closed flag e more = let b = expression-begins flag e more in rw b.are ((start-free flag b.start).paren)

paren-reads : (flag : Bool) (j k : Bool) (ts : List Token) (l : ℕ) (r : Forest) (more : List Token) → IsNotNext R_PAREN ts
    → ((g : Forest) → begins_at (Call expression) (at g ts) ≡ true) →
    gives expression (at End ts) ≡ at (Node l r End) (of_kind flag R_PAREN k ∷ more) →
    reads in_brackets (at End (of_kind flag L_PAREN j ∷ ts)) ≡ at (Node PAREN_EXPR (Leaf L_PAREN 1 (Node l r (Leaf R_PAREN 1 End))) End) more
unfolding forms
paren-reads flag j k ts l r more n there e = rw n (rw (there (Leaf L_PAREN 1 End)) (rw e refl))

pub paren-atom : (flag : Bool) (j : Bool) (e : Expression) (k : Bool) (more : List Token)
    → gives expression (at End (expression_tokens flag e (of_kind flag R_PAREN k ∷ more))) ≡ at (tree e) (of_kind flag R_PAREN k ∷ more) →
    gives atom (at End (expression_tokens flag (Parenthesized j e k) more)) ≡ at (tree (Parenthesized j e k)) more
paren-atom flag j e k more h =
    whole-means atom false _
    ∙ paren-picks flag j _
    ∙ paren-reads flag j k (expression_tokens flag e (of_kind flag R_PAREN k ∷ more)) (expression_kind e) (inside_expression e) more (not-closed flag e _) (expression-is-there flag e _) h
