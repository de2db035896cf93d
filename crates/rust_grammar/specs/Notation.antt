-- The writing of a grammar: `One 'let'` is a leaf that is so spelled, `a ▸ b` is a followed by b, `a ▹ b` the same where the
-- looks of both are asked, `a or b` the first whose looks are there (of several, the last where none is), `⁅ a ⁆` an option,
-- `a *` a repetition, `a ⁺` one of one turn at least, `N ⟨ a ⟩` a node, `N <⟨ a ⟩` a node around all that the present production
-- gave so far and a, `a !` a part that is expected, `more a` a production as a continuation of the present one. Looks take
-- spellings.
use Rattle.std.specs.Prelude.{ℕ, ◌+◌, ◌==◌, Bool, true, false, ◌&&◌, List, [], ◌∷◌, length, Option, Some, None, if◌then◌else◌}
use Rattle.parser_input.specs.Kinds.{COMMA, GENERIC_PARAM_LIST, ASSOC_ITEM_LIST, VARIANT_LIST, META, TOKEN_TREE, USE_TREE, PARAM_LIST, NAME, NAME_REF, PATH, LITERAL, STMT_LIST, BLOCK_EXPR, ARG_LIST, MATCH_ARM_LIST, RECORD_FIELD_LIST}
use Rattle.parser_events.specs.Forest.{Message, Expected, UnexpectedIn, ExpectedType, ExpectedPattern, ExpectedExpression}
use Rattle.rust_grammar.specs.Rule.{type_no_bounds, arm_body, generic_params, assoc_items, variants, meta, token_tree, use_tree, params, name, name_ref, path, any_type, pattern, single_pattern, literal, statement_list, block, expression, operation, disjunction, comparison, prefixed, arguments, match_arms, Production, Look, Always, Never, Left, Both, Either, Not, Spelling, Rule, Nothing, One, Then, Near, Or, Opt, Star, Node, Wrap, Want, Say, Skip, When, Unless, Call, Continue, Mode, spelled_at, Whole, Lead, record_fields}
use Rattle.rust_grammar.specs.Words.{'dots', 'dots_eq', '==', '=>', '!=', '<=', '>=', '&&', '||', '|>', '<<', '>>', '+=', '-=', '*=', '/=', '%=', '&=', '|=', '^=', '<<=', '>>=', 'semi', 'comma', 'r_paren', 'l_curly', 'r_curly', ']', '=', '<', '>', '-', '&', '|', '+', '*', '/', '^', '%'}

infixr 40 ◌or◌
infixr 50 ◌▸◌
infixr 55 ◌▹◌
infixl 70 ◌*
infixl 70 ◌⁺
infixl 70 ◌!
infixl 80 ◌⟨◌⟩
infixl 80 ◌<⟨◌⟩
abbrev pub ◌or◌ : Rule → Rule → Rule
a or b = Or a b

abbrev pub ◌▸◌ : Rule → Rule → Rule
a ▸ b = Then a b

-- how many tokens a part stands over that is one leaf, whichever of its alternatives it is
abbrev same_width : Option ℕ → Option ℕ → Option ℕ
same_width (Some m) (Some n) = if m == n then Some m else None
same_width m n = None

abbrev pub width : Rule → Option ℕ
width (One x) = Some (length x.parts)
width (Or a b) = same_width (width a) (width b)
width (When l a) = width a
width (Node k a) = width a
width a = None

-- `a ▹ b` is a rule where a is one leaf, whose tokens are counted; after any other part it is none, and an error where a rule
-- is asked.
abbrev pub Measured : Option ℕ → Type 0
Measured (Some n) = Rule
Measured None = Unit {0}

abbrev pub near : (width : Option ℕ) → Rule → Rule → Measured width
near (Some n) a b = Near n a b
near None a b = tt

abbrev pub ◌▹◌ : (a : Rule) → Rule → Measured (width a)
a ▹ b = near (width a) a b

abbrev pub ⁅◌⁆ : Rule → Rule
⁅ a ⁆ = Opt a

abbrev pub ◌* : Rule → Rule
a * = Star a

abbrev pub ◌⁺ : Rule → Rule
a ⁺ = Then a (Star a)

abbrev pub ◌⟨◌⟩ : ℕ → Rule → Rule
k ⟨ a ⟩ = Node k a

abbrev pub ◌<⟨◌⟩ : ℕ → Rule → Rule
k <⟨ a ⟩ = Wrap k a

abbrev pub more : Production → Rule
more x = Continue x

-- what was given goes into the one node that a gives
abbrev pub lead : Rule → Rule
lead a = Lead a

-- out of condition mode, and in it
abbrev pub off : Rule → Rule
off a = Mode false a

abbrev pub on : Rule → Rule
on a = Mode true a

-- What is expected where a production is missing that some rule wants: the one kind that it gives, or what all that it can give
-- is called.
abbrev pub wanted : Production → Option Message
wanted assoc_items = Some (Expected ASSOC_ITEM_LIST)
wanted variants = Some (Expected VARIANT_LIST)
wanted meta = Some (Expected META)
wanted token_tree = Some (Expected TOKEN_TREE)
wanted use_tree = Some (Expected USE_TREE)
wanted params = Some (Expected PARAM_LIST)
wanted name = Some (Expected NAME)
wanted name_ref = Some (Expected NAME_REF)
wanted path = Some (Expected PATH)
wanted any_type = Some ExpectedType
wanted pattern = Some ExpectedPattern
wanted single_pattern = Some ExpectedPattern
wanted literal = Some (Expected LITERAL)
wanted statement_list = Some (Expected STMT_LIST)
wanted block = Some (Expected BLOCK_EXPR)
wanted expression = Some ExpectedExpression
wanted operation = Some ExpectedExpression
wanted disjunction = Some ExpectedExpression
wanted comparison = Some ExpectedExpression
wanted prefixed = Some ExpectedExpression
wanted arguments = Some (Expected ARG_LIST)
wanted match_arms = Some (Expected MATCH_ARM_LIST)
wanted generic_params = Some (Expected GENERIC_PARAM_LIST)
wanted type_no_bounds = Some ExpectedType
wanted record_fields = Some (Expected RECORD_FIELD_LIST)
wanted arm_body = Some ExpectedExpression
wanted x = None

-- the message of a part that is missing, if it can be: a leaf, a node, a production that has one
abbrev pub expected : Rule → Option Message
expected (One x) = Some (Expected x.kind)
expected (Node k a) = Some (Expected k)
expected (Call x) = wanted x
expected (Mode c a) = expected a
expected a = None

-- A part with a message is a rule where it is expected; `!` after any other part is no rule, and an error where one is asked.
abbrev pub Wanted : Option Message → Type 0
Wanted (Some m) = Rule
Wanted None = Unit {0}

abbrev pub want : Rule → (m : Option Message) → Wanted m
want a (Some m) = Want a m
want a None = tt

abbrev pub ◌! : (a : Rule) → Wanted (expected a)
a ! = want a (expected a)

-- Looks. No token is left:
abbrev pub at_end : Look
at_end = Not Left

-- these spellings stand one after the other, from the n-th token on
unfoldable pub row : ℕ → List Spelling → Look
row n [] = Always
row n (x ∷ xs) = Both (spelled_at n x) (row (n + length x.parts) xs)

-- one of these spellings stands at the n-th token
unfoldable pub one_of : ℕ → List Spelling → Look
one_of n [] = Never
one_of n (x ∷ xs) = Either (row n (x ∷ [])) (one_of n xs)

-- one of these spellings is next, as a choice of their leaves asks it
abbrev pub leaf_of : Spelling → List Spelling → Look
leaf_of x [] = spelled_at 0 x
leaf_of x (y ∷ ys) = Either (spelled_at 0 x) (leaf_of y ys)

unfoldable pub any_of : List Look → Look
any_of [] = Never
any_of (l ∷ ls) = Either l (any_of ls)

abbrev pub next : Spelling → Look
next x = row 0 (x ∷ [])

-- a look where the whole language is read
abbrev pub wide : Look → Look
wide l = Both (Whole 0) l

-- x is next, and y after it; and one of these is; and none of these is
infix 68 ◌before◌
infix 68 ◌before_any◌
infix 68 ◌not_before◌
abbrev pub ◌before◌ : Spelling → Spelling → Look
x before y = row 0 (x ∷ y ∷ [])

abbrev pub ◌before_any◌ : Spelling → List Spelling → Look
x before_any ys = Both (next x) (one_of (length x.parts) ys)

abbrev pub ◌not_before◌ : Spelling → List Spelling → Look
x not_before ys = Both (next x) (Not (one_of (length x.parts) ys))

-- a list ends here: at its closing spelling, or with the input
abbrev pub until : Spelling → Look
until x = Either (Not Left) (next x)

-- the spellings at which a list gives up: a list is left open where one of these is next
abbrev pub stops : List Spelling
stops = 'semi' ∷ 'l_curly' ∷ 'r_curly' ∷ 'r_paren' ∷ ']' ∷ []

-- a token that a list skips into an error
abbrev pub unexpected : Look
unexpected = Both Left (Not (one_of 0 stops))

-- the comma after an element of a list; a missing one is an error, unless the list closes
abbrev pub separator : (close : Spelling) → Rule
separator close = One 'comma' or When (next close) Nothing or Say (Expected COMMA)

-- an element of a list with the comma after it, or an error over one token
abbrev pub list_element : (list : ℕ) → (element : Rule) → (close : Spelling) → Rule
list_element list element close = element ▸ separator close or When unexpected (Skip (UnexpectedIn list))

-- The rest of a list after its opening spelling, in the node `list`: elements with commas between them, up to `close`. A
-- missing comma is reported; what begins no element goes into an error, up to a token at which the list gives up.
abbrev pub rest_listed : (list : ℕ) → (element : Rule) → (close : Spelling) → Rule
rest_listed list element close = off ((Unless (until close) (list_element list element close)) *) ▸ One close !

abbrev pub listed : (list : ℕ) → (opening : Spelling) → (element : Rule) → (close : Spelling) → Rule
listed list opening element close = One opening ▸ rest_listed list element close

-- after the first part in parentheses: a comma and the rest of a tuple, or the closing parenthesis
abbrev pub tuple_tail : (tuple paren : ℕ) → (element : Rule) → Rule
tuple_tail tuple paren element = tuple <⟨ One 'comma' ▸ rest_listed tuple element 'r_paren' ⟩ or paren <⟨ One 'r_paren' ! ⟩

-- after an opening parenthesis: an empty tuple, a tuple, or one part in parentheses
abbrev pub in_parentheses : (tuple paren : ℕ) → (first element : Rule) → Rule
in_parentheses tuple paren first element = tuple <⟨ One 'r_paren' ⟩ or first ▸ tuple_tail tuple paren element

-- The operators of expressions, and the marks that one of them could be taken for the front of.
abbrev pub operators : List Spelling
operators = '=' ∷ '+=' ∷ '-=' ∷ '*=' ∷ '/=' ∷ '%=' ∷ '&=' ∷ '|=' ∷ '^=' ∷ '<<=' ∷ '>>=' ∷ '|>' ∷ '||' ∷ '&&' ∷ '==' ∷ '!=' ∷ '<' ∷ '>' ∷ '<=' ∷ '>=' ∷ '|' ∷ '^' ∷ '&' ∷ '<<' ∷ '>>' ∷ '+' ∷ '-' ∷ '*' ∷ '/' ∷ '%' ∷ 'dots_eq' ∷ 'dots' ∷ '=>' ∷ []

-- whether the second spelling begins with the first and is longer
unfoldable pub is_longer : List ℕ → List ℕ → Bool
is_longer [] [] = false
is_longer [] (l ∷ ls) = true
is_longer (k ∷ ks) [] = false
is_longer (k ∷ ks) (l ∷ ls) = k == l && is_longer ks ls

-- a look, and where that is so not this spelling
abbrev but_not : Bool → Spelling → Look → Look
but_not true x l = Both (Not (spelled_at 0 x)) l
but_not false x l = l

-- none of these stands here that begins with this spelling and is longer
unfoldable pub no_longer : List ℕ → List Spelling → Look
no_longer ks [] = Always
no_longer ks (x ∷ xs) = but_not (is_longer ks x.parts) x (no_longer ks xs)

-- a spelling is next, and no longer operator that begins with it
unfoldable pub longest : Spelling → Look
longest x = Both (spelled_at 0 x) (no_longer x.parts operators)

-- an operator, where no longer one is next
abbrev pub op : Spelling → Rule
op x = When (longest x) (One x)
