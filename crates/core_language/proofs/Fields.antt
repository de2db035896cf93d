-- Visibilities, the fields of structs and the parameters of functions are read.
use Rattle.std.proofs.Common.{◌≡◌, ℕ, ◌<◌, Bool, true, false, List, ◌∷◌, length, refl, ap, ◌∙◌, arith, ◌==◌}
use Rattle.parser_input.specs.Input.{Token}
use Rattle.parser_input.specs.Kinds.{COMMA, COLON, EQ, L_PAREN, R_PAREN, L_CURLY, R_CURLY, PUB_KW, NAME, VISIBILITY, RECORD_FIELD, RECORD_FIELD_LIST, PARAM, PARAM_LIST}
use Rattle.parser_events.specs.Forest.{Expected, Forest, End, Leaf, Node, ◌then◌}
use Rattle.rust_grammar.specs.Rule.{Production, Rule, One, Then, Want, Star, Opt, Mode, Call, name, visibility, attribute, record_fields, params, param, pattern}
use Rattle.rust_grammar.specs.Rule as rules
use Rattle.rust_grammar.specs.Items.{param_type, unsafe_field}
use Rattle.rust_grammar.specs.Meaning.{ahead, turns}
use Rattle.rust_grammar.specs.Words.{'l_paren', 'r_paren', 'l_curly', 'r_curly'}
use Rattle.rust_grammar.specs.Whole.{rule}
use Rattle.rust_grammar.proofs.WholeTable.{whole-means}
use Rattle.core_language.specs.Items.{Field, Listed, NamedField, Parameter, Private, Public, TypedPattern, Visibility, field_tree, listed_tree, parameter_tree, visibility_tree}
use Rattle.core_language.specs.Statements.{NamePattern, Pattern, name_tree, pattern_tree}
use Rattle.core_language.specs.Types.{Immutable, Mutable}
use Rattle.core_language.proofs.Lists.{Element, Plain, item_of, list-reads, listed-then, parens-read}
use Rattle.core_language.proofs.Paths.{EndsType}
use Rattle.core_language.proofs.Patterns.{BeforeEnd, BeforeType, BeforeValue, After, field_type, field_type-reads, name-reads, param_type-reads, pattern-reads, typed}
use Rattle.core_language.proofs.Places.{IsNotNext}
use Rattle.core_language.proofs.Rules.{at, begins_at, forms, gives, idle, reads, star-reads, table, then-reads}
use Rattle.core_language.proofs.Statements.{braces-read, pattern-longer}
use Rattle.core_language.proofs.Types.{type-longer}
use Rattle.core_language.proofs.Flagged.{field_tokens, listed_tokens, name_token, of_kind, parameter_tokens, pattern_tokens, type_tokens, visibility_tokens}

pub visibility-reads : (flag : Bool) (j : Bool) (t : Token) (ts : List Token) → (t.kind == L_PAREN) ≡ false
    → gives visibility (at End (of_kind flag PUB_KW j ∷ t ∷ ts)) ≡ at (Node VISIBILITY (Leaf PUB_KW 1 End) End) (t ∷ ts)
unfolding table
visibility-reads flag j t ts h = whole-means visibility false _ ∙ rw h refl

-- A field of a struct.
abbrev field_rule : Rule → Rule
field_rule a = rules.Node RECORD_FIELD (Then (Star (Call attribute)) (Then (Opt (Call visibility)) (Then unsafe_field (Then (Want (Call name) (Expected NAME)) a))))

no-attributes : (flag : Bool) (v : Visibility) (n : Bool) (ts : List Token)
    → reads (Star (Call attribute)) (at End (visibility_tokens flag v (name_token flag n ∷ ts))) ≡ at End (visibility_tokens flag v (name_token flag n ∷ ts))
unfolding table turns
no-attributes flag Private n ts = refl
no-attributes flag (Public j) n ts = refl

visibility-opt-reads : (flag : Bool) (v : Visibility) (n : Bool) (ts : List Token)
    → reads (Opt (Call visibility)) (at End (visibility_tokens flag v (name_token flag n ∷ ts))) ≡ at (visibility_tree v End) (name_token flag n ∷ ts)
unfolding table
visibility-opt-reads flag Private n ts = refl
visibility-opt-reads flag (Public j) n ts = rw (visibility-reads flag j (name_token flag n) ts refl) refl

no-unsafe : (flag : Bool) (g : Forest) (n : Bool) (ts : List Token) → reads unsafe_field (at g (name_token flag n ∷ ts)) ≡ at g (name_token flag n ∷ ts)
unfolding forms
no-unsafe flag g n ts = rw (idle flag) refl

named : (flag : Bool) (v : Visibility) (n : Bool) (ts : List Token)
    → reads (Want (Call name) (Expected NAME)) (at (visibility_tree v End) (name_token flag n ∷ ts)) ≡ at (visibility_tree v (name_tree End)) ts
unfolding table
named flag Private n ts = rw (name-reads flag n ts) refl
named flag (Public j) n ts = rw (name-reads flag n ts) refl

pub node-reads : (kind : ℕ) (a : Rule) (g : Forest) (ts : List Token) (f : Forest) (more : List Token) → reads a (at End ts) ≡ at f more
    → reads (rules.Node kind a) (at g ts) ≡ at (g then Node kind f End) more
unfolding forms
node-reads kind a g ts f more e = rw e refl

field-head : (flag : Bool) (a : Rule) (g : Forest) (v : Visibility) (n : Bool) (ts : List Token) (f : Forest) (more : List Token)
    → reads a (at (visibility_tree v (name_tree End)) ts) ≡ at f more →
    reads (field_rule a) (at g (visibility_tokens flag v (name_token flag n ∷ ts))) ≡ at (g then Node RECORD_FIELD f End) more
field-head flag a g v n ts f more e =
    node-reads RECORD_FIELD (Then (Star (Call attribute)) (Then (Opt (Call visibility)) (Then unsafe_field (Then (Want (Call name) (Expected NAME)) a)))) g _ f more
    (then-reads (Star (Call attribute)) (Then (Opt (Call visibility)) (Then unsafe_field (Then (Want (Call name) (Expected NAME)) a))) _ (no-attributes flag v n ts)
    (then-reads (Opt (Call visibility)) (Then unsafe_field (Then (Want (Call name) (Expected NAME)) a)) _ (visibility-opt-reads flag v n ts)
    (then-reads unsafe_field (Then (Want (Call name) (Expected NAME)) a) _ (no-unsafe flag _ n ts)
    (then-reads (Want (Call name) (Expected NAME)) a _ (named flag v n ts) e))))

field-reads : (flag : Bool) (x : Field) (g : Forest) (c : Bool) (k : ℕ) (more : List Token) → EndsType k → (k == EQ) ≡ false
    → reads (field_rule field_type) (at g (field_tokens flag x (of_kind flag k c ∷ more))) ≡ at (g then field_tree x End) (of_kind flag k c ∷ more)
unfolding ahead
field-reads flag (NamedField Private n d t) g c k more p q = field-head flag field_type g Private n _ _ _ (field_type-reads flag (name_tree End) d t k c more p q)
field-reads flag (NamedField (Public j) n d t) g c k more p q =
    field-head flag field_type g (Public j) n _ _ _ (field_type-reads flag (visibility_tree (Public j) (name_tree End)) d t k c more p q)

field-there : (flag : Bool) (x : Field) (more : List Token) (g : Forest) → begins_at (field_rule field_type) (at g (field_tokens flag x more)) ≡ true
unfolding table
field-there true (NamedField Private n c t) more g = refl
field-there false (NamedField Private n c t) more g = refl
field-there true (NamedField (Public j) n c t) more g = refl
field-there false (NamedField (Public j) n c t) more g = refl

field-first : (flag : Bool) (x : Field) (more : List Token) → IsNotNext R_CURLY (field_tokens flag x more)
unfolding ahead
field-first flag (NamedField Private n c t) more = refl
field-first flag (NamedField (Public j) n c t) more = refl

pub field-longer : (flag : Bool) (x : Field) (more : List Token) → length more < length (field_tokens flag x more)
field-longer flag (NamedField Private n c t) more = let h = type-longer flag t more in omega (arith, h)
field-longer flag (NamedField (Public j) n c t) more = let h = type-longer flag t more in omega (arith, h)

field-joins : (x : Field) (f : Forest) → field_tree x End then f ≡ field_tree x f
field-joins (NamedField v n c t) f = refl

plain-field : Plain (field_rule field_type) R_CURLY
unfolding forms
plain-field = record { passes = refl; speaks = refl; same = refl; other = refl }

fields : (flag : Bool) → Element flag (field_tokens flag) field_tree (field_rule field_type) R_CURLY
fields flag = record {
  plain = plain-field;
  there = field-there flag;
  first = field-first flag;
  longer = field-longer flag;
  last = λ a k more g. field-reads flag a g k R_CURLY more (record { colon = refl; angle = refl; paren = refl; bang = refl; plus = refl }) refl;
  comma = λ a k more g. field-reads flag a g k COMMA more (record { colon = refl; angle = refl; paren = refl; bang = refl; plus = refl }) refl;
  joins = field-joins;
}

fields-rule : rule record_fields
    ≡ rules.Node RECORD_FIELD_LIST (Then (One 'l_curly') (Then (Mode false (Star (item_of RECORD_FIELD_LIST R_CURLY (field_rule field_type)))) (Want (One 'r_curly') (Expected R_CURLY))))
unfolding table
fields-rule = refl

pub fields-read : (flag : Bool) (j k : Bool) (l : Listed Field) (more : List Token) →
    gives record_fields (at End (of_kind flag L_CURLY j ∷ listed_tokens flag (field_tokens flag) l (of_kind flag R_CURLY k ∷ more)))
    ≡ at (Node RECORD_FIELD_LIST (Leaf L_CURLY 1 (listed_tree field_tree l (Leaf R_CURLY 1 End))) End) more
fields-read flag j k l more =
    whole-means record_fields false _
    ∙ ap (λ (a : Rule). reads a (at End (of_kind flag L_CURLY j ∷ listed_tokens flag (field_tokens flag) l (of_kind flag R_CURLY k ∷ more)))) fields-rule
    ∙ braces-read flag RECORD_FIELD_LIST (item_of RECORD_FIELD_LIST R_CURLY (field_rule field_type)) j k _ (listed_tree field_tree l End) more
    (star-reads (item_of RECORD_FIELD_LIST R_CURLY (field_rule field_type)) (list-reads flag (field_tokens flag) field_tree RECORD_FIELD_LIST R_CURLY (field_rule field_type) (fields flag) l (Leaf L_CURLY 1 End) k more))
    ∙ ap (λ (f : Forest). at (Node RECORD_FIELD_LIST (Leaf L_CURLY 1 f) End) more) (listed-then field_tree field-joins l (Leaf R_CURLY 1 End))

-- A parameter of a function.
parameter-picks : (flag : Bool) (p : Pattern) {more : List Token} → After flag more
    → reads (rule param) (at End (pattern_tokens flag p more))
    ≡ reads (rules.Node PARAM (Then (Call pattern) param_type)) (at End (pattern_tokens flag p more))
unfolding table
parameter-picks flag (NamePattern Immutable n) (BeforeType c t ts h) = rw (idle flag) refl
parameter-picks flag (NamePattern Immutable n) (BeforeValue j ts) = rw (idle flag) refl
parameter-picks flag (NamePattern Immutable n) (BeforeEnd k ts) = rw (idle flag) refl
parameter-picks flag (NamePattern (Mutable i) n) (BeforeType c t ts h) = rw (idle flag) refl
parameter-picks flag (NamePattern (Mutable i) n) (BeforeValue j ts) = rw (idle flag) refl
parameter-picks flag (NamePattern (Mutable i) n) (BeforeEnd k ts) = rw (idle flag) refl

pub call-after : (x : Production) (g : Forest) (ts : List Token) (f : Forest) (more : List Token) → gives x (at End ts) ≡ at f more
    → reads (Call x) (at g ts) ≡ at (g then f) more
unfolding forms
call-after x g ts f more e = rw e refl

parameter-reads : (flag : Bool) (x : Parameter) (g : Forest) (c : Bool) (k : ℕ) (more : List Token) → EndsType k
    → reads (Call param) (at g (parameter_tokens flag x (of_kind flag k c ∷ more))) ≡ at (g then parameter_tree x End) (of_kind flag k c ∷ more)
unfolding ahead
parameter-reads flag (TypedPattern (NamePattern m n) d t) g c k more h =
    call-after param g _ _ _
    (whole-means param false _
    ∙ parameter-picks flag (NamePattern m n) (typed flag d t _)
    ∙ node-reads PARAM (Then (Call pattern) param_type) End _ _ _
    (then-reads (Call pattern) param_type _ (call-after pattern End _ _ _ (pattern-reads flag (NamePattern m n) (typed flag d t _))) (param_type-reads flag (pattern_tree (NamePattern m n) End) d t (of_kind flag k c ∷ more) h)))

parameter-begins : (flag : Bool) (p : Pattern) {more : List Token} → After flag more → (g : Forest)
    → begins_at (Call param) (at g (pattern_tokens flag p more)) ≡ true
unfolding table
parameter-begins true (NamePattern Immutable n) (BeforeType true t ts h) g = rw h refl
parameter-begins false (NamePattern Immutable n) (BeforeType true t ts h) g = rw h refl
parameter-begins true (NamePattern Immutable n) (BeforeType false t ts h) g = refl
parameter-begins false (NamePattern Immutable n) (BeforeType false t ts h) g = refl
parameter-begins true (NamePattern Immutable n) (BeforeValue j ts) g = refl
parameter-begins false (NamePattern Immutable n) (BeforeValue j ts) g = refl
parameter-begins true (NamePattern Immutable n) (BeforeEnd k ts) g = refl
parameter-begins false (NamePattern Immutable n) (BeforeEnd k ts) g = refl
parameter-begins true (NamePattern (Mutable i) n) (BeforeType c t ts h) g = refl
parameter-begins false (NamePattern (Mutable i) n) (BeforeType c t ts h) g = refl
parameter-begins true (NamePattern (Mutable i) n) (BeforeValue j ts) g = refl
parameter-begins false (NamePattern (Mutable i) n) (BeforeValue j ts) g = refl
parameter-begins true (NamePattern (Mutable i) n) (BeforeEnd k ts) g = refl
parameter-begins false (NamePattern (Mutable i) n) (BeforeEnd k ts) g = refl

parameter-first : (flag : Bool) (x : Parameter) (more : List Token) → IsNotNext R_PAREN (parameter_tokens flag x more)
unfolding ahead
parameter-first flag (TypedPattern (NamePattern Immutable n) c t) more = refl
parameter-first flag (TypedPattern (NamePattern (Mutable i) n) c t) more = refl

pub parameter-longer : (flag : Bool) (x : Parameter) (more : List Token) → length more < length (parameter_tokens flag x more)
parameter-longer flag (TypedPattern p c t) more =
    let h = type-longer flag t more in let i = pattern-longer flag p (of_kind flag COLON c ∷ type_tokens flag t more) in omega (arith, h, i)

parameter-joins : (x : Parameter) (f : Forest) → parameter_tree x End then f ≡ parameter_tree x f
parameter-joins (TypedPattern p c t) f = refl

plain-parameter : Plain (Call param) R_PAREN
unfolding forms
plain-parameter = record { passes = refl; speaks = refl; same = refl; other = refl }

parameter-there : (flag : Bool) (x : Parameter) (more : List Token) (g : Forest) → begins_at (Call param) (at g (parameter_tokens flag x more)) ≡ true
parameter-there flag (TypedPattern p c t) more g = parameter-begins flag p (typed flag c t more) g

parameters : (flag : Bool) → Element flag (parameter_tokens flag) parameter_tree (Call param) R_PAREN
parameters flag = record {
  plain = plain-parameter;
  there = parameter-there flag;
  first = parameter-first flag;
  longer = parameter-longer flag;
  last = λ a k more g. parameter-reads flag a g k R_PAREN more (record { colon = refl; angle = refl; paren = refl; bang = refl; plus = refl });
  comma = λ a k more g. parameter-reads flag a g k COMMA more (record { colon = refl; angle = refl; paren = refl; bang = refl; plus = refl });
  joins = parameter-joins;
}

parameters-rule : rule params
    ≡ rules.Node PARAM_LIST (Then (One 'l_paren') (Then (Mode false (Star (item_of PARAM_LIST R_PAREN (Call param)))) (Want (One 'r_paren') (Expected R_PAREN))))
unfolding table
parameters-rule = refl

pub parameters-read : (flag : Bool) (j k : Bool) (l : Listed Parameter) (more : List Token) →
    gives params (at End (of_kind flag L_PAREN j ∷ listed_tokens flag (parameter_tokens flag) l (of_kind flag R_PAREN k ∷ more)))
    ≡ at (Node PARAM_LIST (Leaf L_PAREN 1 (listed_tree parameter_tree l (Leaf R_PAREN 1 End))) End) more
parameters-read flag j k l more =
    whole-means params false _
    ∙ ap (λ (a : Rule). reads a (at End (of_kind flag L_PAREN j ∷ listed_tokens flag (parameter_tokens flag) l (of_kind flag R_PAREN k ∷ more)))) parameters-rule
    ∙ parens-read flag PARAM_LIST (item_of PARAM_LIST R_PAREN (Call param)) j k _ (listed_tree parameter_tree l End) more
    (star-reads (item_of PARAM_LIST R_PAREN (Call param)) (list-reads flag (parameter_tokens flag) parameter_tree PARAM_LIST R_PAREN (Call param) (parameters flag) l (Leaf L_PAREN 1 End) k more))
    ∙ ap (λ (f : Forest). at (Node PARAM_LIST (Leaf L_PAREN 1 f) End) more) (listed-then parameter_tree parameter-joins l (Leaf R_PAREN 1 End))
