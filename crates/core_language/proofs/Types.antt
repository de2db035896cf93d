-- Core types are read.
use Rattle.std.proofs.Common.{◌≡◌, ◌<◌, Bool, true, false, List, ◌∷◌, length, refl, ◌∙◌, arith, if◌then◌else◌}
use Rattle.parser_input.specs.Input.{Token}
use Rattle.parser_input.specs.Kinds.{COLON, AMP, L_BRACK, R_BRACK, MUT_KW, PATH_TYPE, REF_TYPE, SLICE_TYPE}
use Rattle.parser_events.specs.Forest.{Forest, End, Leaf, Node, ◌then◌}
use Rattle.rust_grammar.specs.Notation.{wide}
use Rattle.rust_grammar.specs.Rule.{When, Call, any_type, lifetime, type_no_bounds, type_path}
use Rattle.rust_grammar.specs.Shared.{dots_dot, three_dots}
use Rattle.rust_grammar.specs.Meaning.{Reading, sees, ahead, look_of}
use Rattle.rust_grammar.specs.Types.{array_or_slice, ref_type}
use Rattle.rust_grammar.specs.Whole.{rule, whole}
use Rattle.rust_grammar.proofs.WholeTable.{whole-means}
use Rattle.core_language.specs.Types.{Below, CoreType, Immutable, Mutable, Name, Path, PathType, ReferenceType, SliceType, path_tree, type_tree}
use Rattle.core_language.proofs.Paths.{TypeEnds, type_path-reads}
use Rattle.core_language.proofs.Rules.{at, begins_at, call-there, forms, gives, idle, reads, table}
use Rattle.core_language.proofs.Flagged.{mut_tokens, name_token, of_kind, path_tokens, type_tokens}

-- how a type begins
data TypeStart : Type 0 where
  TypeWithName : (j : Bool) → TypeStart
  TypeWithAmpersand : (j : Bool) → TypeStart
  TypeWithBracket : (j : Bool) → TypeStart

-- the first token
abbrev type_start_token : (flag : Bool) → TypeStart → Token
type_start_token flag (TypeWithName j) = name_token flag j
type_start_token flag (TypeWithAmpersand j) = of_kind flag AMP j
type_start_token flag (TypeWithBracket j) = of_kind flag L_BRACK j

-- the first token of a list, and the others
pub record PathBegins (flag : Bool) (ts : List Token) : Type 0 where
  pub j : Bool
  pub rest : List Token
  pub are : ts ≡ name_token flag j ∷ rest

pub path-begins : (flag : Bool) (p : Path) (more : List Token) → PathBegins flag (path_tokens flag p more)
path-begins flag (Name j) more = record { j = j; rest = more; are = refl }
path-begins flag (Below p c j) more = path-begins flag p (of_kind flag COLON true ∷ of_kind flag COLON c ∷ name_token flag j ∷ more)

-- The first token of a type, and the others.
record Begins (flag : Bool) (ts : List Token) : Type 0 where
  pub start : TypeStart
  pub rest : List Token
  pub are : ts ≡ type_start_token flag start ∷ rest

type-begins : (flag : Bool) (t : CoreType) (more : List Token) → Begins flag (type_tokens flag t more)
type-begins flag (PathType p) more = let b = path-begins flag p more in record { start = TypeWithName b.j; rest = b.rest; are = b.are }
type-begins flag (ReferenceType j m t) more = record { start = TypeWithAmpersand j; rest = mut_tokens flag m (type_tokens flag t more); are = refl }
type-begins flag (SliceType j t k) more = record { start = TypeWithBracket j; rest = type_tokens flag t (of_kind flag R_BRACK k ∷ more); are = refl }

begins-type : (flag : Bool) (s : TypeStart) (g : Forest) (ts : List Token) → sees false (at g (type_start_token flag s ∷ ts)) (look_of whole any_type) ≡ true
unfolding table
begins-type true (TypeWithName j) g ts = refl
begins-type false (TypeWithName j) g ts = refl
begins-type true (TypeWithAmpersand j) g ts = refl
begins-type false (TypeWithAmpersand j) g ts = refl
begins-type true (TypeWithBracket j) g ts = refl
begins-type false (TypeWithBracket j) g ts = refl

pub type-is-there : (flag : Bool) (t : CoreType) (g : Forest) (more : List Token) → sees false (at g (type_tokens flag t more)) (look_of whole any_type) ≡ true
type-is-there flag t g more = let b = type-begins flag t more in rw b.are (begins-type flag b.start g b.rest)

path-type : (flag j : Bool) (ts : List Token) (u : Reading) → gives type_path (at End (name_token flag j ∷ ts)) ≡ u → TypeEnds u.rest
    → gives any_type (at End (name_token flag j ∷ ts)) ≡ at (Node PATH_TYPE (u.given) End) u.rest
unfolding table
path-type true j ts u e h = whole-means any_type false _ ∙ rw e (rw (h.bang, h.plus) refl)
path-type false j ts u e h = whole-means any_type false _ ∙ rw e refl

-- Where a type without bounds is expected, a path is read without what could follow it; else the type is read as it is.
bare-path : (flag j : Bool) (ts : List Token) (u : Reading) → gives type_path (at End (name_token flag j ∷ ts)) ≡ u → TypeEnds u.rest
    → gives type_no_bounds (at End (name_token flag j ∷ ts)) ≡ at (Node PATH_TYPE (u.given) End) u.rest
unfolding table
bare-path true j ts u e h = whole-means type_no_bounds false _ ∙ rw e (rw h.bang refl)
bare-path false j ts u e h = whole-means type_no_bounds false _ ∙ rw (path-type false j ts u e h) refl

bare-reference : (flag j : Bool) (ts : List Token) (u : Reading) → gives any_type (at End (of_kind flag AMP j ∷ ts)) ≡ u
    → gives type_no_bounds (at End (of_kind flag AMP j ∷ ts)) ≡ u
unfolding table
bare-reference true j ts u e = whole-means type_no_bounds false _ ∙ rw e refl
bare-reference false j ts u e = whole-means type_no_bounds false _ ∙ rw e refl

bare-slice : (flag j : Bool) (ts : List Token) (u : Reading) → gives any_type (at End (of_kind flag L_BRACK j ∷ ts)) ≡ u
    → gives type_no_bounds (at End (of_kind flag L_BRACK j ∷ ts)) ≡ u
unfolding table
bare-slice true j ts u e = whole-means type_no_bounds false _ ∙ rw e refl
bare-slice false j ts u e = whole-means type_no_bounds false _ ∙ rw e refl

begins-bare : (flag : Bool) (s : TypeStart) (g : Forest) (ts : List Token) → sees false (at g (type_start_token flag s ∷ ts)) (look_of whole type_no_bounds) ≡ true
unfolding table
begins-bare true (TypeWithName j) g ts = refl
begins-bare true (TypeWithAmpersand j) g ts = refl
begins-bare true (TypeWithBracket j) g ts = refl
begins-bare false (TypeWithName j) g ts = refl
begins-bare false (TypeWithAmpersand j) g ts = refl
begins-bare false (TypeWithBracket j) g ts = refl

bare-there : (flag : Bool) (s : TypeStart) (g : Forest) (ts : List Token) → begins_at (Call type_no_bounds) (at g (type_start_token flag s ∷ ts)) ≡ true
bare-there flag s g ts = call-there type_no_bounds g _ (begins-bare flag s End ts)

any-there : (flag : Bool) (s : TypeStart) (g : Forest) (ts : List Token) → begins_at (Call any_type) (at g (type_start_token flag s ∷ ts)) ≡ true
any-there flag s g ts = call-there any_type g _ (begins-type flag s End ts)

-- no lifetime begins at a type's first token, and none at `mut`
no-lifetime : (flag : Bool) (s : TypeStart) (g : Forest) (ts : List Token) → begins_at (Call lifetime) (at g (type_start_token flag s ∷ ts)) ≡ false
unfolding table
no-lifetime flag (TypeWithName j) g ts = refl
no-lifetime flag (TypeWithAmpersand j) g ts = refl
no-lifetime flag (TypeWithBracket j) g ts = refl

no-lifetime-mut : (flag k : Bool) (g : Forest) (ts : List Token) → begins_at (Call lifetime) (at g (of_kind flag MUT_KW k ∷ ts)) ≡ false
unfolding table
no-lifetime-mut flag k g ts = refl

reference-picks : (flag j : Bool) (ts : List Token)
    → reads (rule any_type) (at End (of_kind flag AMP j ∷ ts)) ≡ reads ref_type (at End (of_kind flag AMP j ∷ ts))
unfolding table
reference-picks flag j ts = refl

reference-reads : (flag j : Bool) (s : TypeStart) (ts : List Token) (u : Reading) → gives type_no_bounds (at End (type_start_token flag s ∷ ts)) ≡ u
    → reads ref_type (at End (of_kind flag AMP j ∷ type_start_token flag s ∷ ts)) ≡ at (Node REF_TYPE (Leaf AMP 1 u.given) End) u.rest
unfolding forms
reference-reads flag j (TypeWithName i) ts u e =
    rw (no-lifetime flag (TypeWithName i) (Leaf AMP 1 End) ts) (rw (bare-there flag (TypeWithName i) (Leaf AMP 1 End) ts) (rw e refl))
reference-reads flag j (TypeWithAmpersand i) ts u e =
    rw (no-lifetime flag (TypeWithAmpersand i) (Leaf AMP 1 End) ts) (rw (bare-there flag (TypeWithAmpersand i) (Leaf AMP 1 End) ts) (rw e refl))
reference-reads flag j (TypeWithBracket i) ts u e =
    rw (no-lifetime flag (TypeWithBracket i) (Leaf AMP 1 End) ts) (rw (bare-there flag (TypeWithBracket i) (Leaf AMP 1 End) ts) (rw e refl))

reference-mut-reads : (flag j k : Bool) (s : TypeStart) (ts : List Token) (u : Reading) → gives type_no_bounds (at End (type_start_token flag s ∷ ts)) ≡ u →
    reads ref_type (at End (of_kind flag AMP j ∷ of_kind flag MUT_KW k ∷ type_start_token flag s ∷ ts))
    ≡ at (Node REF_TYPE (Leaf AMP 1 (Leaf MUT_KW 1 u.given)) End) u.rest
unfolding forms
reference-mut-reads flag j k s ts u e =
    rw (no-lifetime-mut flag k (Leaf AMP 1 End) (type_start_token flag s ∷ ts)) (rw (bare-there flag s (Leaf AMP 1 (Leaf MUT_KW 1 End)) ts) (rw e refl))

slice-picks : (flag j : Bool) (ts : List Token)
    → reads (rule any_type) (at End (of_kind flag L_BRACK j ∷ ts)) ≡ reads array_or_slice (at End (of_kind flag L_BRACK j ∷ ts))
unfolding table
slice-picks flag j ts = refl

slice-reads : (flag j k : Bool) (s : TypeStart) (ts : List Token) (f : Forest) (more : List Token)
    → gives any_type (at End (type_start_token flag s ∷ ts)) ≡ at f (of_kind flag R_BRACK k ∷ more) →
    reads array_or_slice (at End (of_kind flag L_BRACK j ∷ type_start_token flag s ∷ ts))
    ≡ at (Node SLICE_TYPE (Leaf L_BRACK 1 (f then Leaf R_BRACK 1 End)) End) more
unfolding forms
slice-reads flag j k s ts f more e = rw (any-there flag s (Leaf L_BRACK 1 End) ts) (rw e refl)

-- A core type is read where no token goes on with it, as a type and where one without bounds is expected.
record IsReadBefore (flag : Bool) (t : CoreType) (more : List Token) : Type 0 where
  pub any : gives any_type (at End (type_tokens flag t more)) ≡ at (type_tree t End) more
  pub bare : gives type_no_bounds (at End (type_tokens flag t more)) ≡ at (type_tree t End) more

is-read : (flag : Bool) (t : CoreType) (more : List Token) → TypeEnds more → IsReadBefore flag t more
unfolding ahead
is-read flag (PathType p) more h =
    let b = path-begins flag p more in
    let e : gives type_path (at End (name_token flag b.j ∷ b.rest)) ≡ at (path_tree p End) more = rw b.are at (type_path-reads flag p more h) in
    record { any = rw b.are (path-type flag b.j b.rest _ e h); bare = rw b.are (bare-path flag b.j b.rest _ e h) }
is-read flag (ReferenceType j Immutable t) more h =
    let b = type-begins flag t more in
    let inner = is-read flag t more h in
    let e : gives type_no_bounds (at End (type_start_token flag b.start ∷ b.rest)) ≡ at (type_tree t End) more = rw b.are at (inner.bare) in
    let r : gives any_type (at End (type_tokens flag (ReferenceType j Immutable t) more)) ≡ at (type_tree (ReferenceType j Immutable t) End) more =
    rw b.are (whole-means any_type false _ ∙ reference-picks flag j _ ∙ reference-reads flag j b.start b.rest _ e) in
    record { any = r; bare = bare-reference flag j _ _ r }
is-read flag (ReferenceType j (Mutable i) t) more h =
    let b = type-begins flag t more in
    let inner = is-read flag t more h in
    let e : gives type_no_bounds (at End (type_start_token flag b.start ∷ b.rest)) ≡ at (type_tree t End) more = rw b.are at (inner.bare) in
    let r : gives any_type (at End (type_tokens flag (ReferenceType j (Mutable i) t) more)) ≡ at (type_tree (ReferenceType j (Mutable i) t) End) more =
    rw b.are (whole-means any_type false _ ∙ reference-picks flag j _ ∙ reference-mut-reads flag j i b.start b.rest _ e) in
    record { any = r; bare = bare-reference flag j _ _ r }
is-read flag (SliceType j t i) more h =
    let b = type-begins flag t (of_kind flag R_BRACK i ∷ more) in
    let inner = is-read flag t (of_kind flag R_BRACK i ∷ more) (record { colon = refl; angle = refl; paren = refl; bang = refl; plus = refl }) in
    let e : gives any_type (at End (type_start_token flag b.start ∷ b.rest)) ≡ at (type_tree t End) (of_kind flag R_BRACK i ∷ more) = rw b.are at (inner.any) in
    let r : gives any_type (at End (type_tokens flag (SliceType j t i) more)) ≡ at (type_tree (SliceType j t i) End) more =
    rw b.are (whole-means any_type false _ ∙ slice-picks flag j _ ∙ slice-reads flag j i b.start b.rest (type_tree t End) more e) in
    record { any = r; bare = bare-slice flag j _ _ r }

pub type-reads : (flag : Bool) (t : CoreType) (more : List Token) → TypeEnds more
    → gives any_type (at End (type_tokens flag t more)) ≡ at (type_tree t End) more
type-reads flag t more h = (is-read flag t more h).any

pub bare-type-reads : (flag : Bool) (t : CoreType) (more : List Token) → TypeEnds more
    → gives type_no_bounds (at End (type_tokens flag t more)) ≡ at (type_tree t End) more
bare-type-reads flag t more h = (is-read flag t more h).bare

no-dots : (flag : Bool) (s : TypeStart) (g : Forest) (ts : List Token) → begins_at (When (wide dots_dot) three_dots) (at g (type_start_token flag s ∷ ts)) ≡ false
unfolding table
no-dots flag (TypeWithName j) g ts = idle flag
no-dots flag (TypeWithAmpersand j) g ts = idle flag
no-dots flag (TypeWithBracket j) g ts = idle flag

-- A core type is no `...` of the whole language.
pub type-is-no-dots : (flag : Bool) (t : CoreType) (more : List Token) (g : Forest) → begins_at (When (wide dots_dot) three_dots) (at g (type_tokens flag t more)) ≡ false
type-is-no-dots flag t more g = let b = type-begins flag t more in rw b.are (no-dots flag b.start g b.rest)

-- A core type can start where a type without bounds is expected, and reads as itself there.
pub bare-type-is-there : (flag : Bool) (t : CoreType) (g : Forest) (more : List Token) → sees false (at g (type_tokens flag t more)) (look_of whole type_no_bounds) ≡ true
bare-type-is-there flag t g more = let b = type-begins flag t more in rw b.are (begins-bare flag b.start g b.rest)

path-longer : (flag : Bool) (p : Path) (more : List Token) → length more < length (path_tokens flag p more)
path-longer flag (Name j) more = omega arith
path-longer flag (Below p c j) more = let h = path-longer flag p (of_kind flag COLON true ∷ of_kind flag COLON c ∷ name_token flag j ∷ more) in omega (arith, h)

pub type-longer : (flag : Bool) (t : CoreType) (more : List Token) → length more < length (type_tokens flag t more)
type-longer flag (PathType p) more = path-longer flag p more
type-longer flag (ReferenceType j Immutable t) more = let h = type-longer flag t more in omega (arith, h)
type-longer flag (ReferenceType j (Mutable i) t) more = let h = type-longer flag t more in omega (arith, h)
type-longer flag (SliceType j t k) more = let h = type-longer flag t (of_kind flag R_BRACK k ∷ more) in omega (arith, h)
