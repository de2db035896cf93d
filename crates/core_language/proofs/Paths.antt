-- Core paths are read as paths of types and of expressions.
use Rattle.std.proofs.Common.{◌≡◌, ℕ, ◌<◌, Bool, true, false, List, ◌∷◌, length, refl, ◌∙◌, arith, ◌==◌}
use Rattle.parser_input.specs.Input.{Token}
use Rattle.parser_input.specs.Kinds.{BANG, COLON, L_ANGLE, L_PAREN, PLUS, NAME_REF, PATH, PATH_SEGMENT, IDENT}
use Rattle.parser_events.specs.Forest.{Expected, Forest, End, Leaf, Node}
use Rattle.rust_grammar.specs.Rule.{type_path, expr_path, name_ref, Rule, One, Star, Opt, Or, Want, Then, When, Unless}
use Rattle.rust_grammar.specs.Rule as rules
use Rattle.rust_grammar.specs.Meaning.{Reading, ahead}
use Rattle.rust_grammar.specs.Words.{'::', '<'}
use Rattle.rust_grammar.specs.Calls.{Ref, GenericArgs}
use Rattle.rust_grammar.specs.Shared.{colons_before_more}
use Rattle.rust_grammar.specs.Notation.{wide, ◌before◌}
use Rattle.rust_grammar.specs.Paths.{angle_args_begin, fn_args, fn_args_begin}
use Rattle.rust_grammar.proofs.WholeTable.{whole-means}
use Rattle.core_language.specs.Types.{Below, Name, Path, path_tree}
use Rattle.core_language.proofs.Rules.{StarReads, Stop, Turn, at, begins_at, forms, gives, idle, reads, rows, star-reads, table, then-reads}
use Rattle.core_language.proofs.Flagged.{name_token, of_kind, path_tokens}

-- the first segment, with these arguments or none
abbrev pub first_part : Rule → Rule
first_part args = rules.Node PATH (rules.Node PATH_SEGMENT (Then (Opt (One '::')) (Then (Want Ref (Expected NAME_REF)) (Opt args))))

-- one more segment, with these arguments or none
abbrev pub next_part : Rule → Rule
next_part args =
    Unless colons_before_more (rules.Wrap PATH (Then (One '::') (Want (rules.Node PATH_SEGMENT (Then Ref (Opt args))) (Expected PATH_SEGMENT))))

pub name_ref-reads : (flag : Bool) (j : Bool) (more : List Token)
    → gives name_ref (at End (name_token flag j ∷ more)) ≡ at (Node NAME_REF (Leaf IDENT 1 End) End) more
unfolding table
name_ref-reads flag j more = whole-means name_ref false _ ∙ refl

-- no arguments begin here
abbrev pub NoArgs : Rule → List Token → Type 0
NoArgs args more = (g : Forest) → begins_at args (at g more) ≡ false

first-reads : (flag : Bool) (l : Rule) (j : Bool) (more : List Token) → NoArgs l more
    → reads (first_part l) (at End (name_token flag j ∷ more)) ≡ at (path_tree (Name j) End) more
unfolding table
first-reads flag l j more none = rw (name_ref-reads flag j more) (rw (none _) refl)

next-begins : (flag : Bool) (l : Rule) (c j : Bool) (g : Forest) (more : List Token)
    → begins_at (next_part l) (at g (of_kind flag COLON true ∷ of_kind flag COLON c ∷ name_token flag j ∷ more)) ≡ true
unfolding forms
next-begins flag l c j g more = refl

next-reads : (flag : Bool) (l : Rule) (p : Path) (c j : Bool) (more : List Token) → NoArgs l more →
    reads (next_part l) (at (path_tree p End) (of_kind flag COLON true ∷ of_kind flag COLON c ∷ name_token flag j ∷ more))
    ≡ at (path_tree (Below p c j) End) more
unfolding table
next-reads flag l p c j more none = rw (name_ref-reads flag j more) (rw (none _) refl)

three-fewer : (a b c : Token) (more : List Token) → length more < length (a ∷ b ∷ c ∷ more)
three-fewer a b c more = omega arith

-- these arguments do not begin at a `::` with a name after it
abbrev pub Apart : (flag : Bool) → Rule → Type 0
Apart flag l = (c j : Bool) (more : List Token) → NoArgs l (of_kind flag COLON true ∷ of_kind flag COLON c ∷ name_token flag j ∷ more)

pub path-goes-on : (flag : Bool) (l : Rule) → Apart flag l → (p : Path) (more : List Token) (t : Reading) → NoArgs l more
    → StarReads (next_part l) (at (path_tree p End) more) t →
    reads (Then (first_part l) (Star (next_part l))) (at End (path_tokens flag p more)) ≡ t
path-goes-on flag l apart (Name j) more t none stars = then-reads (first_part l) (Star (next_part l)) _ (first-reads flag l j more none) (star-reads (next_part l) stars)
path-goes-on flag l apart (Below p c j) more t none stars =
    path-goes-on flag l apart p _ t (apart c j more) (Turn (next-begins flag l c j _ more) (next-reads flag l p c j more none) (three-fewer (of_kind flag COLON true) (of_kind flag COLON c) (name_token flag j) more) stars)

-- the next token is no colon
abbrev pub NoColon : List Token → Type 0
NoColon more = ((ahead 0 more).kind == COLON) ≡ false

pub no-next : (l : Rule) (g : Forest) (more : List Token) → NoColon more → begins_at (next_part l) (at g more) ≡ false
unfolding forms
no-next l g more h = rw h refl

-- the arguments of a type's path
abbrev pub type_arguments : Rule
type_arguments = Or (When (wide fn_args_begin) fn_args) (When angle_args_begin GenericArgs)

-- those of an expression's path
abbrev pub expression_arguments : Rule
expression_arguments = When ('::' before '<') GenericArgs

pub apart-type : (flag : Bool) → Apart flag type_arguments
unfolding forms
apart-type flag c j more g = rw (idle flag) refl

pub apart-expr : (flag : Bool) → Apart flag expression_arguments
unfolding forms
apart-expr flag c j more g = refl

no-args-expr : (more : List Token) → NoColon more → NoArgs expression_arguments more
unfolding forms
no-args-expr more h g = rw h refl

pub expression_path-reads : (flag : Bool) (p : Path) (more : List Token) → NoColon more
    → gives expr_path (at End (path_tokens flag p more)) ≡ at (path_tree p End) more
unfolding rows
expression_path-reads flag p more h =
    whole-means expr_path false _
    ∙ path-goes-on flag expression_arguments (apart-expr flag) p more _ (no-args-expr more h) (Stop (no-next expression_arguments _ more h))

-- The kind of a token that ends a type: nothing here goes on with its path, with a macro call or with bounds.
pub record EndsType (kind : ℕ) : Type 0 where
  pub colon : (kind == COLON) ≡ false
  pub angle : (kind == L_ANGLE) ≡ false
  pub paren : (kind == L_PAREN) ≡ false
  pub bang : (kind == BANG) ≡ false
  pub plus : (kind == PLUS) ≡ false

-- The next token ends a type.
abbrev pub TypeEnds : List Token → Type 0
TypeEnds more = EndsType (ahead 0 more).kind

no-args-type : (more : List Token) → TypeEnds more → NoArgs type_arguments more
unfolding forms
no-args-type more h g = rw (h.colon, h.angle, h.paren) (rw (idle (ahead 0 more).whole) refl)

pub type_path-reads : (flag : Bool) (p : Path) (more : List Token) → TypeEnds more
    → gives type_path (at End (path_tokens flag p more)) ≡ at (path_tree p End) more
unfolding rows
type_path-reads flag p more h =
    whole-means type_path false _
    ∙ path-goes-on flag type_arguments (apart-type flag) p more _ (no-args-type more h) (Stop (no-next type_arguments _ more h.colon))
