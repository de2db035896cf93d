-- Core items and source files are read.
use Rattle.std.proofs.Common.{◌≡◌, ℕ, ◌<◌, ◌≤◌, Bool, true, false, List, [], ◌∷◌, length, refl, ap, sym, ◌∙◌, subst, arith}
use Rattle.parser_input.specs.Input.{Token}
use Rattle.parser_input.specs.Kinds.{COMMA, SEMICOLON, L_PAREN, R_PAREN, L_CURLY, R_CURLY, MINUS, R_ANGLE, THIN_ARROW, STRUCT_KW, MOD_KW, FN_KW, SHEBANG, FRONTMATTER, NAME, PARAM_LIST, RET_TYPE, STRUCT, MODULE, ITEM_LIST, FN, SOURCE_FILE}
use Rattle.parser_events.specs.Forest.{Expected, ExpectedType, Forest, End, Leaf, Node, ◌then◌}
use Rattle.rust_grammar.specs.Rule.{Look, Rule, One, Or, Then, Want, Star, Opt, Mode, Unless, When, Wrap, Not, Left, Call, name, visibility, attribute, type_no_bounds, ret_type, block, record_fields, params, item, body, source_file}
use Rattle.rust_grammar.specs.Rule as rules
use Rattle.rust_grammar.specs.Meaning.{Reading, ahead, turns}
use Rattle.rust_grammar.specs.Notation.{until, ◌before◌}
use Rattle.rust_grammar.specs.Words.{one, '->', 'semi', 'l_curly', 'r_curly', '#', '!', 'mod', 'shebang', 'frontmatter'}
use Rattle.rust_grammar.specs.Whole.{rule}
use Rattle.rust_grammar.proofs.WholeTable.{whole-means}
use Rattle.core_language.specs.Items.{AreWellFormedItems, ElementComma, Function, InnerModule, IsWellFormedItem, Item, ItemThen, Items, LastElement, Listed, NoElement, NoItem, NoReturnType, OuterModule, Parameter, Private, Public, RecordStruct, ReturnType, Returns, UnitStruct, Visibility, file_tree, item_tree, items_tree, visibility_tree}
use Rattle.core_language.specs.Statements.{Block, Braces, IsWellFormedBlock, LastExpression, NoStatement, StatementThen, Statements, block_tree, name_tree}
use Rattle.core_language.specs.Types.{CoreType, type_tree}
use Rattle.core_language.proofs.Fields.{field-longer, fields-read, node-reads, parameters-read, visibility-reads, parameter-longer}
use Rattle.core_language.proofs.Layers.{expression-longer}
use Rattle.core_language.proofs.Patterns.{name-reads, bare-type-there}
use Rattle.core_language.proofs.Places.{IsNotNext}
use Rattle.core_language.proofs.Postfix.{some-left, then-assoc, then-end}
use Rattle.core_language.proofs.Rules.{StarReads, Stop, Turn, at, begins_at, forms, gives, idle, opt-skips, or-first, reads, star-reads, table, then-reads}
use Rattle.core_language.proofs.Statements.{block-reads, braces-read-in, statement-longer}
use Rattle.core_language.proofs.Types.{type-longer, bare-type-reads}
use Rattle.core_language.proofs.Flagged.{block_tokens, field_tokens, item_tokens, items_tokens, listed_tokens, name_token, of_kind, parameter_tokens, return_type_tokens, statements_tokens, type_tokens, visibility_tokens}

-- The word that an item begins with.
data ItemWord : Type 0 where
  OfStruct : ItemWord
  OfMod : ItemWord
  OfFn : ItemWord

-- its kind
abbrev item_word_kind : ItemWord → ℕ
item_word_kind OfStruct = STRUCT_KW
item_word_kind OfMod = MOD_KW
item_word_kind OfFn = FN_KW

item-head : (flag : Bool) (w : ItemWord) (v : Visibility) (j : Bool) (ts : List Token)
    → reads (rule item) (at End (visibility_tokens flag v (of_kind flag (item_word_kind w) j ∷ ts)))
    ≡ gives body (at (visibility_tree v End) (of_kind flag (item_word_kind w) j ∷ ts))
unfolding table turns
item-head flag OfStruct Private j ts = refl
item-head flag OfMod Private j ts = refl
item-head flag OfFn Private j ts = refl
item-head flag OfStruct (Public i) j ts = rw (visibility-reads flag i (of_kind flag STRUCT_KW j) ts refl) refl
item-head flag OfMod (Public i) j ts = rw (visibility-reads flag i (of_kind flag MOD_KW j) ts refl) refl
item-head flag OfFn (Public i) j ts = rw (visibility-reads flag i (of_kind flag FN_KW j) ts refl) refl

struct-semi : (flag : Bool) (v : Visibility) (j n k : Bool) (more : List Token)
    → gives body (at (visibility_tree v End) (of_kind flag STRUCT_KW j ∷ name_token flag n ∷ of_kind flag SEMICOLON k ∷ more))
    ≡ at (item_tree (UnitStruct v j n k) End) more
unfolding table
struct-semi true Private j n k more = whole-means body false _ ∙ rw (name-reads true n (of_kind true SEMICOLON k ∷ more)) refl
struct-semi false Private j n k more = whole-means body false _ ∙ rw (name-reads false n (of_kind false SEMICOLON k ∷ more)) refl
struct-semi true (Public i) j n k more = whole-means body false _ ∙ rw (name-reads true n (of_kind true SEMICOLON k ∷ more)) refl
struct-semi false (Public i) j n k more = whole-means body false _ ∙ rw (name-reads false n (of_kind false SEMICOLON k ∷ more)) refl

struct-fields : (flag : Bool) (v : Visibility) (j n l : Bool) (ts : List Token) (f : Forest) (more : List Token)
    → gives record_fields (at End (of_kind flag L_CURLY l ∷ ts)) ≡ at f more →
    gives body (at (visibility_tree v End) (of_kind flag STRUCT_KW j ∷ name_token flag n ∷ of_kind flag L_CURLY l ∷ ts))
    ≡ at (Node STRUCT (visibility_tree v (Leaf STRUCT_KW 1 (name_tree f))) End) more
unfolding table
struct-fields true Private j n l ts f more e = whole-means body false _ ∙ rw (name-reads true n (of_kind true L_CURLY l ∷ ts)) (rw e refl)
struct-fields false Private j n l ts f more e = whole-means body false _ ∙ rw (name-reads false n (of_kind false L_CURLY l ∷ ts)) (rw e refl)
struct-fields true (Public i) j n l ts f more e = whole-means body false _ ∙ rw (name-reads true n (of_kind true L_CURLY l ∷ ts)) (rw e refl)
struct-fields false (Public i) j n l ts f more e = whole-means body false _ ∙ rw (name-reads false n (of_kind false L_CURLY l ∷ ts)) (rw e refl)

mod-semi : (flag : Bool) (v : Visibility) (j n k : Bool) (more : List Token)
    → gives body (at (visibility_tree v End) (of_kind flag MOD_KW j ∷ name_token flag n ∷ of_kind flag SEMICOLON k ∷ more))
    ≡ at (item_tree (OuterModule v j n k) End) more
unfolding table
mod-semi true Private j n k more = whole-means body false _ ∙ rw (name-reads true n (of_kind true SEMICOLON k ∷ more)) refl
mod-semi false Private j n k more = whole-means body false _ ∙ rw (name-reads false n (of_kind false SEMICOLON k ∷ more)) refl
mod-semi true (Public i) j n k more = whole-means body false _ ∙ rw (name-reads true n (of_kind true SEMICOLON k ∷ more)) refl
mod-semi false (Public i) j n k more = whole-means body false _ ∙ rw (name-reads false n (of_kind false SEMICOLON k ∷ more)) refl

-- one item of a list, which ends where `l` looks
abbrev one_item : Look → Rule
one_item l = Unless l (Or (When ('#' before '!') (Call attribute)) (Call item))

-- the items of a module in braces
abbrev items_node : Rule
items_node = rules.Node ITEM_LIST (Then (One 'l_curly') (Then (Mode false (Star (one_item (until 'r_curly')))) (Want (One 'r_curly') (Expected R_CURLY))))

-- a module, which holds this or ends in `;`
abbrev mod_rule : Rule → Rule
mod_rule a = Wrap MODULE (Then (One 'mod') (Then (Want (Call name) (Expected NAME)) (Or a (Want (One 'semi') (Expected SEMICOLON)))))

mod-picks : (flag : Bool) (g : Forest) (j : Bool) (ts : List Token)
    → reads (rule body) (at g (of_kind flag MOD_KW j ∷ ts)) ≡ reads (mod_rule items_node) (at g (of_kind flag MOD_KW j ∷ ts))
unfolding table
mod-picks flag g j ts = rw (idle flag) refl

name-there : (flag : Bool) (g : Forest) (n : Bool) (ts : List Token) → begins_at (Call name) (at g (name_token flag n ∷ ts)) ≡ true
unfolding table
name-there flag g n ts = refl

braces-there : (flag : Bool) (g : Forest) (l : Bool) (ts : List Token) → begins_at items_node (at g (of_kind flag L_CURLY l ∷ ts)) ≡ true
unfolding forms
braces-there flag g l ts = refl

mod-word : (flag : Bool) (v : Visibility) (j : Bool) (ts : List Token)
    → reads (One 'mod') (at (visibility_tree v End) (of_kind flag MOD_KW j ∷ ts)) ≡ at (visibility_tree v (Leaf MOD_KW 1 End)) ts
unfolding forms
mod-word flag Private j ts = refl
mod-word flag (Public i) j ts = refl

mod-name : (flag : Bool) (v : Visibility) (n : Bool) (ts : List Token)
    → reads (Want (Call name) (Expected NAME)) (at (visibility_tree v (Leaf MOD_KW 1 End)) (name_token flag n ∷ ts))
    ≡ at (visibility_tree v (Leaf MOD_KW 1 (name_tree End))) ts
unfolding table
mod-name flag Private n ts = rw (name-reads flag n ts) refl
mod-name flag (Public i) n ts = rw (name-reads flag n ts) refl

wrap-reads : (kind : ℕ) (a : Rule) (s : Reading) (f : Forest) (more : List Token) → reads a s ≡ at f more
    → reads (Wrap kind a) s ≡ at (Node kind f End) more
unfolding forms
wrap-reads kind a s f more e = rw e refl

visibility-then : (v : Visibility) (g f : Forest)
    → visibility_tree v (Leaf MOD_KW 1 (name_tree End)) then f ≡ visibility_tree v (Leaf MOD_KW 1 (name_tree f))
visibility-then Private g f = refl
visibility-then (Public i) g f = refl

mod-items : (flag : Bool) (v : Visibility) (j n l : Bool) (ts : List Token) (f : Forest) (more : List Token)
    → ((g : Forest) → reads items_node (at g (of_kind flag L_CURLY l ∷ ts)) ≡ at (g then f) more) →
    gives body (at (visibility_tree v End) (of_kind flag MOD_KW j ∷ name_token flag n ∷ of_kind flag L_CURLY l ∷ ts))
    ≡ at (Node MODULE (visibility_tree v (Leaf MOD_KW 1 (name_tree f))) End) more
mod-items flag v j n l ts f more e =
    whole-means body false _
    ∙ mod-picks flag (visibility_tree v End) j _
    ∙ wrap-reads MODULE (Then (One 'mod') (Then (Want (Call name) (Expected NAME)) (Or items_node (Want (One 'semi') (Expected SEMICOLON))))) _ _ more
    (then-reads (One 'mod') (Then (Want (Call name) (Expected NAME)) (Or items_node (Want (One 'semi') (Expected SEMICOLON)))) _ (mod-word flag v j _)
    (then-reads (Want (Call name) (Expected NAME)) (Or items_node (Want (One 'semi') (Expected SEMICOLON))) _ (mod-name flag v n _)
    (or-first items_node (Want (One 'semi') (Expected SEMICOLON)) _ (braces-there flag _ l ts) ∙ e _ ∙ ap (λ (x : Forest). at x more) (visibility-then v End f))))

ret-reads : (flag : Bool) (a : Bool) (t : CoreType) (more : List Token) → ((g : Forest) → begins_at (Call type_no_bounds) (at g (type_tokens flag t more)) ≡ true)
    → gives type_no_bounds (at End (type_tokens flag t more)) ≡ at (type_tree t End) more →
    reads (rules.Node RET_TYPE (Then (One '->') (Want (Call type_no_bounds) ExpectedType))) (at End (of_kind flag MINUS true ∷ of_kind flag R_ANGLE a ∷ type_tokens flag t more)) ≡ at (Node RET_TYPE (Leaf THIN_ARROW 2 (type_tree t End)) End) more
unfolding forms
ret-reads flag a t more there e = rw (there (Leaf THIN_ARROW 2 End)) (rw e refl)

ret-rule : rule ret_type ≡ rules.Node RET_TYPE (Then (One '->') (Want (Call type_no_bounds) ExpectedType))
unfolding table
ret-rule = refl

ret_type-reads : (flag : Bool) (a : Bool) (t : CoreType) (j : Bool) (more : List Token)
    → gives ret_type (at End (of_kind flag MINUS true ∷ of_kind flag R_ANGLE a ∷ type_tokens flag t (of_kind flag L_CURLY j ∷ more)))
    ≡ at (Node RET_TYPE (Leaf THIN_ARROW 2 (type_tree t End)) End) (of_kind flag L_CURLY j ∷ more)
unfolding ahead
ret_type-reads flag a t j more =
    whole-means ret_type false _
    ∙ ap (λ (r : Rule). reads r (at End (of_kind flag MINUS true ∷ of_kind flag R_ANGLE a ∷ type_tokens flag t (of_kind flag L_CURLY j ∷ more)))) ret-rule
    ∙ ret-reads flag a t (of_kind flag L_CURLY j ∷ more) (bare-type-there flag t _) (bare-type-reads flag t _ (record { colon = refl; angle = refl; paren = refl; bang = refl; plus = refl }))

function-plain : (flag : Bool) (v : Visibility) (j n l : Bool) (ts : List Token) (f : Forest) (c : Bool) (us : List Token) (h : Forest) (more : List Token) →
    gives params (at End (of_kind flag L_PAREN l ∷ ts)) ≡ at (Node PARAM_LIST f End) (of_kind flag L_CURLY c ∷ us)
    → gives block (at End (of_kind flag L_CURLY c ∷ us)) ≡ at h more →
    gives body (at (visibility_tree v End) (of_kind flag FN_KW j ∷ name_token flag n ∷ of_kind flag L_PAREN l ∷ ts))
    ≡ at (Node FN (visibility_tree v (Leaf FN_KW 1 (name_tree (Node PARAM_LIST f h)))) End) more
unfolding table
function-plain true Private j n l ts f c us h more e e' = whole-means body false _ ∙ rw (name-reads true n (of_kind true L_PAREN l ∷ ts)) (rw e (rw e' refl))
function-plain false Private j n l ts f c us h more e e' = whole-means body false _ ∙ rw (name-reads false n (of_kind false L_PAREN l ∷ ts)) (rw e (rw e' refl))
function-plain true (Public i) j n l ts f c us h more e e' = whole-means body false _ ∙ rw (name-reads true n (of_kind true L_PAREN l ∷ ts)) (rw e (rw e' refl))
function-plain false (Public i) j n l ts f c us h more e e' = whole-means body false _ ∙ rw (name-reads false n (of_kind false L_PAREN l ∷ ts)) (rw e (rw e' refl))

function-returns : (flag : Bool) (v : Visibility) (j n l : Bool) (ts : List Token) (f : Forest) (a : Bool) (us : List Token) (r : Forest) (c : Bool) (vs : List Token) (h : Forest) (more : List Token) →
    gives params (at End (of_kind flag L_PAREN l ∷ ts)) ≡ at (Node PARAM_LIST f End) (of_kind flag MINUS true ∷ of_kind flag R_ANGLE a ∷ us) →
    gives ret_type (at End (of_kind flag MINUS true ∷ of_kind flag R_ANGLE a ∷ us)) ≡ at (Node RET_TYPE r End) (of_kind flag L_CURLY c ∷ vs) →
    gives block (at End (of_kind flag L_CURLY c ∷ vs)) ≡ at h more →
    gives body (at (visibility_tree v End) (of_kind flag FN_KW j ∷ name_token flag n ∷ of_kind flag L_PAREN l ∷ ts))
    ≡ at (Node FN (visibility_tree v (Leaf FN_KW 1 (name_tree (Node PARAM_LIST f (Node RET_TYPE r h))))) End) more
unfolding table
function-returns true Private j n l ts f a us r c vs h more e e' e'' =
    whole-means body false _
    ∙ rw (name-reads true n (of_kind true L_PAREN l ∷ ts)) (rw e (rw e' (rw e'' refl)))
function-returns false Private j n l ts f a us r c vs h more e e' e'' =
    whole-means body false _
    ∙ rw (name-reads false n (of_kind false L_PAREN l ∷ ts)) (rw e (rw e' (rw e'' refl)))
function-returns true (Public i) j n l ts f a us r c vs h more e e' e'' =
    whole-means body false _
    ∙ rw (name-reads true n (of_kind true L_PAREN l ∷ ts)) (rw e (rw e' (rw e'' refl)))
function-returns false (Public i) j n l ts f a us r c vs h more e e' e'' =
    whole-means body false _
    ∙ rw (name-reads false n (of_kind false L_PAREN l ∷ ts)) (rw e (rw e' (rw e'' refl)))

-- the turns of a list of items
item-turn : (flag : Bool) (w : ItemWord) (l : Look) (v : Visibility) (j : Bool) (ts : List Token) (g f : Forest) (more : List Token)
    → gives item (at End (visibility_tokens flag v (of_kind flag (item_word_kind w) j ∷ ts))) ≡ at f more →
    reads (one_item l) (at g (visibility_tokens flag v (of_kind flag (item_word_kind w) j ∷ ts))) ≡ at (g then f) more
unfolding forms
item-turn flag OfStruct l Private j ts g f more e = rw e refl
item-turn flag OfMod l Private j ts g f more e = rw e refl
item-turn flag OfFn l Private j ts g f more e = rw e refl
item-turn flag OfStruct l (Public i) j ts g f more e = rw e refl
item-turn flag OfMod l (Public i) j ts g f more e = rw e refl
item-turn flag OfFn l (Public i) j ts g f more e = rw e refl

there-braces : (flag : Bool) (w : ItemWord) (v : Visibility) (j : Bool) (ts : List Token) (g : Forest)
    → begins_at (one_item (until 'r_curly')) (at g (visibility_tokens flag v (of_kind flag (item_word_kind w) j ∷ ts))) ≡ true
unfolding table
there-braces true OfStruct Private j ts g = rw (some-left ts) refl
there-braces false OfStruct Private j ts g = rw (some-left ts) refl
there-braces true OfMod Private j ts g = rw (some-left ts) refl
there-braces false OfMod Private j ts g = rw (some-left ts) refl
there-braces true OfFn Private j ts g = rw (some-left ts) refl
there-braces false OfFn Private j ts g = rw (some-left ts) refl
there-braces true OfStruct (Public i) j ts g = rw (some-left (of_kind true STRUCT_KW j ∷ ts)) refl
there-braces false OfStruct (Public i) j ts g = rw (some-left (of_kind false STRUCT_KW j ∷ ts)) refl
there-braces true OfMod (Public i) j ts g = rw (some-left (of_kind true MOD_KW j ∷ ts)) refl
there-braces false OfMod (Public i) j ts g = rw (some-left (of_kind false MOD_KW j ∷ ts)) refl
there-braces true OfFn (Public i) j ts g = rw (some-left (of_kind true FN_KW j ∷ ts)) refl
there-braces false OfFn (Public i) j ts g = rw (some-left (of_kind false FN_KW j ∷ ts)) refl

there-end : (flag : Bool) (w : ItemWord) (v : Visibility) (j : Bool) (ts : List Token) (g : Forest)
    → begins_at (one_item (Not Left)) (at g (visibility_tokens flag v (of_kind flag (item_word_kind w) j ∷ ts))) ≡ true
unfolding table
there-end true OfStruct Private j ts g = rw (some-left ts) refl
there-end false OfStruct Private j ts g = rw (some-left ts) refl
there-end true OfMod Private j ts g = rw (some-left ts) refl
there-end false OfMod Private j ts g = rw (some-left ts) refl
there-end true OfFn Private j ts g = rw (some-left ts) refl
there-end false OfFn Private j ts g = rw (some-left ts) refl
there-end true OfStruct (Public i) j ts g = rw (some-left (of_kind true STRUCT_KW j ∷ ts)) refl
there-end false OfStruct (Public i) j ts g = rw (some-left (of_kind false STRUCT_KW j ∷ ts)) refl
there-end true OfMod (Public i) j ts g = rw (some-left (of_kind true MOD_KW j ∷ ts)) refl
there-end false OfMod (Public i) j ts g = rw (some-left (of_kind false MOD_KW j ∷ ts)) refl
there-end true OfFn (Public i) j ts g = rw (some-left (of_kind true FN_KW j ∷ ts)) refl
there-end false OfFn (Public i) j ts g = rw (some-left (of_kind false FN_KW j ∷ ts)) refl

closed-braces : (flag : Bool) (k : Bool) (more : List Token) (g : Forest)
    → begins_at (one_item (until 'r_curly')) (at g (of_kind flag R_CURLY k ∷ more)) ≡ false
unfolding table
closed-braces flag k more g = rw (some-left more) refl

closed-end : (g : Forest) → begins_at (one_item (Not Left)) (at g []) ≡ false
unfolding table
closed-end g = refl

-- how an item begins
record ItemBegins (flag : Bool) (ts : List Token) : Type 0 where
  pub keyword : ItemWord
  pub visibility : Visibility
  pub j : Bool
  pub rest : List Token
  pub are : ts ≡ visibility_tokens flag visibility (of_kind flag (item_word_kind keyword) j ∷ rest)

item-begins : (flag : Bool) (i : Item) (more : List Token) → ItemBegins flag (item_tokens flag i more)
item-begins flag (UnitStruct v j n k) more = record { keyword = OfStruct; visibility = v; j = j; rest = _; are = refl }
item-begins flag (RecordStruct v j n l fs k) more = record { keyword = OfStruct; visibility = v; j = j; rest = _; are = refl }
item-begins flag (OuterModule v j n k) more = record { keyword = OfMod; visibility = v; j = j; rest = _; are = refl }
item-begins flag (InnerModule v j n l is k) more = record { keyword = OfMod; visibility = v; j = j; rest = _; are = refl }
item-begins flag (Function v j n l ps k r b) more = record { keyword = OfFn; visibility = v; j = j; rest = _; are = refl }

-- items have tokens
visibility-longer : (flag : Bool) (v : Visibility) (more : List Token) → length more ≤ length (visibility_tokens flag v more)
visibility-longer flag Private more = omega arith
visibility-longer flag (Public j) more = omega arith

listed-longer : (flag : Bool) → {A : Type 0} (put : A → List Token → List Token) → ((a : A) (more : List Token) → length more < length (put a more))
    → (l : Listed A) (more : List Token) → length more ≤ length (listed_tokens flag put l more)
listed-longer flag put h NoElement more = omega arith
listed-longer flag put h (LastElement a) more = let n = h a more in omega (arith, n)
listed-longer flag put h (ElementComma a j l) more =
    let n = h a (of_kind flag COMMA j ∷ listed_tokens flag put l more) in let m = listed-longer flag put h l more in omega (arith, n, m)

statements-longer : (flag : Bool) (ss : Statements) (more : List Token) → length more ≤ length (statements_tokens flag ss more)
statements-longer flag NoStatement more = omega arith
statements-longer flag (LastExpression e) more = let n = expression-longer flag e more in omega (arith, n)
statements-longer flag (StatementThen s ss) more = let n = statement-longer flag s (statements_tokens flag ss more) in let m = statements-longer flag ss more in omega (arith, n, m)

block-longer : (flag : Bool) (b : Block) (more : List Token) → length more < length (block_tokens flag b more)
block-longer flag (Braces j ss k) more = let n = statements-longer flag ss (of_kind flag R_CURLY k ∷ more) in omega (arith, n)

return_type-longer : (flag : Bool) (r : ReturnType) (more : List Token) → length more ≤ length (return_type_tokens flag r more)
return_type-longer flag NoReturnType more = omega arith
return_type-longer flag (Returns a t) more = let n = type-longer flag t more in omega (arith, n)

mutual
  item-longer : (flag : Bool) (i : Item) (more : List Token) → length more < length (item_tokens flag i more)
  item-longer flag (UnitStruct v j n k) more = let h = visibility-longer flag v (of_kind flag STRUCT_KW j ∷ name_token flag n ∷ of_kind flag SEMICOLON k ∷ more) in omega (arith, h)
  item-longer flag (RecordStruct v j n l fs k) more =
      let h = visibility-longer flag v (of_kind flag STRUCT_KW j ∷ name_token flag n ∷ of_kind flag L_CURLY l ∷ listed_tokens flag (field_tokens flag) fs (of_kind flag R_CURLY k ∷ more)) in
      let m = listed-longer flag (field_tokens flag) (field-longer flag) fs (of_kind flag R_CURLY k ∷ more) in
      omega (arith, h, m)
  item-longer flag (OuterModule v j n k) more = let h = visibility-longer flag v (of_kind flag MOD_KW j ∷ name_token flag n ∷ of_kind flag SEMICOLON k ∷ more) in omega (arith, h)
  item-longer flag (InnerModule v j n l is k) more =
      let h = visibility-longer flag v (of_kind flag MOD_KW j ∷ name_token flag n ∷ of_kind flag L_CURLY l ∷ items_tokens flag is (of_kind flag R_CURLY k ∷ more)) in
      let m = items-longer flag is (of_kind flag R_CURLY k ∷ more) in
      omega (arith, h, m)
  item-longer flag (Function v j n l ps k r b) more =
      let h = visibility-longer flag v (of_kind flag FN_KW j ∷ name_token flag n ∷ of_kind flag L_PAREN l ∷ listed_tokens flag (parameter_tokens flag) ps (of_kind flag R_PAREN k ∷ return_type_tokens flag r (block_tokens flag b more))) in
      let m = listed-longer flag (parameter_tokens flag) (parameter-longer flag) ps (of_kind flag R_PAREN k ∷ return_type_tokens flag r (block_tokens flag b more)) in
      let x = return_type-longer flag r (block_tokens flag b more) in
      let y = block-longer flag b more in
      omega (arith, h, m, x, y)

  items-longer : (flag : Bool) (is : Items) (more : List Token) → length more ≤ length (items_tokens flag is more)
  items-longer flag NoItem more = omega arith
  items-longer flag (ItemThen i is) more = let h = item-longer flag i (items_tokens flag is more) in let m = items-longer flag is more in omega (arith, h, m)

item-joins : (i : Item) (f : Forest) → item_tree i End then f ≡ item_tree i f
item-joins (UnitStruct v j n k) f = refl
item-joins (RecordStruct v j n l fs k) f = refl
item-joins (OuterModule v j n k) f = refl
item-joins (InnerModule v j n l is k) f = refl
item-joins (Function v j n l ps k r b) f = refl

items-join : (is : Items) (f : Forest) → items_tree is End then f ≡ items_tree is f
items-join NoItem f = refl
items-join (ItemThen i is) f =
    ap (λ (x : Forest). x then f) (sym (item-joins i (items_tree is End)))
    ∙ then-assoc (item_tree i End) (items_tree is End) f
    ∙ item-joins i (items_tree is End then f)
    ∙ ap (λ (x : Forest). item_tree i x) (items-join is f)

item-turns : (flag : Bool) (i : Item) (l : Look) (more : List Token) (g : Forest) → gives item (at End (item_tokens flag i more)) ≡ at (item_tree i End) more
    → reads (one_item l) (at g (item_tokens flag i more)) ≡ at (g then item_tree i End) more
item-turns flag i l more g e =
    let b = item-begins flag i more in
    rw b.are (item-turn flag b.keyword l b.visibility b.j b.rest g (item_tree i End) more (rw b.are at e))

-- the next turn of a list of items, and the turns after it
add-item : (flag : Bool) (i : Item) (is : Items) (l : Look) (end more : List Token) (g : Forest)
    → gives item (at End (item_tokens flag i (items_tokens flag is end))) ≡ at (item_tree i End) (items_tokens flag is end) →
    begins_at (one_item l) (at g (item_tokens flag i (items_tokens flag is end))) ≡ true →
    StarReads (one_item l) (at (g then item_tree i End) (items_tokens flag is end)) (at ((g then item_tree i End) then items_tree is End) more) →
    StarReads (one_item l) (at g (items_tokens flag (ItemThen i is) end)) (at (g then items_tree (ItemThen i is) End) more)
add-item flag i is l end more g e there rest =
    let same : (g then item_tree i End) then items_tree is End ≡ g then items_tree (ItemThen i is) End =
    then-assoc g (item_tree i End) (items_tree is End) ∙ ap (λ (f : Forest). g then f) (item-joins i (items_tree is End)) in
    Turn there (item-turns flag i l (items_tokens flag is end) g e) (item-longer flag i (items_tokens flag is end))
    (subst (λ (f : Forest). StarReads (one_item l) (at (g then item_tree i End) (items_tokens flag is end)) (at f more)) same rest)

item-in-braces : (flag : Bool) (i : Item) (more : List Token) (g : Forest) → begins_at (one_item (until 'r_curly')) (at g (item_tokens flag i more)) ≡ true
item-in-braces flag i more g = let b = item-begins flag i more in rw b.are (there-braces flag b.keyword b.visibility b.j b.rest g)

item-in-file : (flag : Bool) (i : Item) (more : List Token) (g : Forest) → begins_at (one_item (Not Left)) (at g (item_tokens flag i more)) ≡ true
item-in-file flag i more g = let b = item-begins flag i more in rw b.are (there-end flag b.keyword b.visibility b.j b.rest g)

from-body : (flag : Bool) (w : ItemWord) (v : Visibility) (j : Bool) (ts : List Token) (t : Reading)
    → gives body (at (visibility_tree v End) (of_kind flag (item_word_kind w) j ∷ ts)) ≡ t
    → gives item (at End (visibility_tokens flag v (of_kind flag (item_word_kind w) j ∷ ts))) ≡ t
from-body flag w v j ts t e = whole-means item false _ ∙ item-head flag w v j ts ∙ e

function-reads : (flag : Bool) (v : Visibility) (j n l : Bool) (ps : Listed Parameter) (k : Bool) (r : ReturnType) (b : Block) (more : List Token)
    → IsWellFormedBlock b →
    gives body (at (visibility_tree v End) (of_kind flag FN_KW j ∷ name_token flag n ∷ of_kind flag L_PAREN l ∷ listed_tokens flag (parameter_tokens flag) ps (of_kind flag R_PAREN k ∷ return_type_tokens flag r (block_tokens flag b more)))) ≡ at (item_tree (Function v j n l ps k r b) End) more
function-reads flag v j n l ps k NoReturnType (Braces c ss d) more i =
    function-plain flag v j n l _ _ c _ (block_tree (Braces c ss d) End) more (parameters-read flag l k ps (block_tokens flag (Braces c ss d) more)) (block-reads flag (Braces c ss d) more i)
function-reads flag v j n l ps k (Returns a t) (Braces c ss d) more i =
    function-returns flag v j n l _ _ a (type_tokens flag t (block_tokens flag (Braces c ss d) more)) _ c _ (block_tree (Braces c ss d) End) more
    (parameters-read flag l k ps (of_kind flag MINUS true ∷ of_kind flag R_ANGLE a ∷ type_tokens flag t (block_tokens flag (Braces c ss d) more)))
    (ret_type-reads flag a t c _)
    (block-reads flag (Braces c ss d) more i)

items-node-reads : (flag : Bool) (g : Forest) (l k : Bool) (ts : List Token) (f : Forest) (more : List Token)
    → StarReads (one_item (until 'r_curly')) (at (Leaf L_CURLY 1 End) ts) (at (Leaf L_CURLY 1 f) (of_kind flag R_CURLY k ∷ more)) →
    reads items_node (at g (of_kind flag L_CURLY l ∷ ts)) ≡ at (g then Node ITEM_LIST (Leaf L_CURLY 1 (f then Leaf R_CURLY 1 End)) End) more
items-node-reads flag g l k ts f more stars =
    braces-read-in flag ITEM_LIST (one_item (until 'r_curly')) g l k ts f more (star-reads (one_item (until 'r_curly')) stars)

mutual
  item-reads : (flag : Bool) (i : Item) (more : List Token) → IsWellFormedItem i → gives item (at End (item_tokens flag i more)) ≡ at (item_tree i End) more
  item-reads flag (UnitStruct v j n k) more h = from-body flag OfStruct v j _ _ (struct-semi flag v j n k more)
  item-reads flag (RecordStruct v j n l fs k) more h = from-body flag OfStruct v j _ _ (struct-fields flag v j n l _ _ more (fields-read flag l k fs more))
  item-reads flag (OuterModule v j n k) more h = from-body flag OfMod v j _ _ (mod-semi flag v j n k more)
  item-reads flag (InnerModule v j n l is k) more h =
      from-body flag OfMod v j _ _
      (mod-items flag v j n l _ (Node ITEM_LIST (Leaf L_CURLY 1 (items_tree is (Leaf R_CURLY 1 End))) End) more
      (λ g. items-node-reads flag g l k _ (items_tree is End) more (items-in-braces flag is h (Leaf L_CURLY 1 End) k more)
      ∙ ap (λ (f : Forest). at (g then Node ITEM_LIST (Leaf L_CURLY 1 f) End) more) (items-join is (Leaf R_CURLY 1 End))))
  item-reads flag (Function v j n l ps k r b) more h = from-body flag OfFn v j _ _ (function-reads flag v j n l ps k r b more h)

  items-in-braces : (flag : Bool) (is : Items) → AreWellFormedItems is → (g : Forest) (k : Bool) (more : List Token) →
      StarReads (one_item (until 'r_curly')) (at g (items_tokens flag is (of_kind flag R_CURLY k ∷ more))) (at (g then items_tree is End) (of_kind flag R_CURLY k ∷ more))
  items-in-braces flag NoItem h g k more = rw then-end (Stop (closed-braces flag k more g))
  items-in-braces flag (ItemThen i is) h g k more =
      add-item flag i is (until 'r_curly') (of_kind flag R_CURLY k ∷ more) (of_kind flag R_CURLY k ∷ more) g (item-reads flag i _ h.0) (item-in-braces flag i _ g) (items-in-braces flag is h.1 (g then item_tree i End) k more)

items-in-file : (flag : Bool) (is : Items) → AreWellFormedItems is → (g : Forest)
    → StarReads (one_item (Not Left)) (at g (items_tokens flag is [])) (at (g then items_tree is End) [])
items-in-file flag NoItem h g = rw then-end (Stop (closed-end g))
items-in-file flag (ItemThen i is) h g = add-item flag i is (Not Left) [] [] g (item-reads flag i _ h.0) (item-in-file flag i _ g) (items-in-file flag is h.1 (g then item_tree i End))

-- no shebang and no frontmatter
first-skips : (flag : Bool) (is : Items) → (IsNotNext SHEBANG (items_tokens flag is [])) × (IsNotNext FRONTMATTER (items_tokens flag is []))
unfolding ahead
first-skips flag NoItem = (refl, refl)
first-skips flag (ItemThen i is) = let b = item-begins flag i (items_tokens flag is []) in rw b.are (word-skips b.keyword b.visibility b.j b.rest)
  where
    word-skips : (w : ItemWord) (v : Visibility) (j : Bool) (ts : List Token)
        → (IsNotNext SHEBANG (visibility_tokens flag v (of_kind flag (item_word_kind w) j ∷ ts))) × (IsNotNext FRONTMATTER (visibility_tokens flag v (of_kind flag (item_word_kind w) j ∷ ts)))
    word-skips OfStruct Private j ts = (refl, refl)
    word-skips OfMod Private j ts = (refl, refl)
    word-skips OfFn Private j ts = (refl, refl)
    word-skips OfStruct (Public i) j ts = (refl, refl)
    word-skips OfMod (Public i) j ts = (refl, refl)
    word-skips OfFn (Public i) j ts = (refl, refl)

file-rule : rule source_file ≡ rules.Node SOURCE_FILE (Then (Opt (One 'shebang')) (Then (Opt (One 'frontmatter')) (Star (one_item (Not Left)))))
unfolding table
file-rule = refl

one-skips : (k : ℕ) (ts : List Token) → IsNotNext k ts → begins_at (One (one k)) (at End ts) ≡ false
unfolding forms
one-skips k ts h = h

-- A core file is read as its tree.
pub file-reads : (flag : Bool) (is : Items) → AreWellFormedItems is → gives source_file (at End (items_tokens flag is [])) ≡ at (file_tree is) []
file-reads flag is h =
    let skips = first-skips flag is in
    whole-means source_file false _
    ∙ ap (λ (a : Rule). reads a (at End (items_tokens flag is []))) file-rule
    ∙ node-reads SOURCE_FILE (Then (Opt (One 'shebang')) (Then (Opt (One 'frontmatter')) (Star (one_item (Not Left))))) End _ _ []
    (then-reads (Opt (One 'shebang')) (Then (Opt (One 'frontmatter')) (Star (one_item (Not Left)))) _ (opt-skips (One 'shebang') _ (one-skips SHEBANG _ skips.0))
    (then-reads (Opt (One 'frontmatter')) (Star (one_item (Not Left))) _ (opt-skips (One 'frontmatter') _ (one-skips FRONTMATTER _ skips.1))
    (star-reads (one_item (Not Left)) (items-in-file flag is h End))))
