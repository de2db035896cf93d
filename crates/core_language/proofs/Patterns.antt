-- Names, patterns, and what is read with a type after a colon.
use Rattle.std.proofs.Common.{◌≡◌, ℕ, Bool, true, false, List, ◌∷◌, refl, ◌∙◌, ◌==◌}
use Rattle.parser_input.specs.Input.{Token}
use Rattle.parser_input.specs.Kinds.{COLON, EQ, SEMICOLON}
use Rattle.parser_events.specs.Forest.{Expected, ExpectedType, Forest, End, Leaf, ◌then◌}
use Rattle.rust_grammar.specs.Rule.{Rule, One, Then, Want, When, Call, name, pattern, single_pattern, pattern_atom, any_type, type_no_bounds}
use Rattle.rust_grammar.specs.Items.{discriminant, dots_or_type, param_type}
use Rattle.rust_grammar.specs.Meaning.{ahead}
use Rattle.rust_grammar.specs.Notation.{wide}
use Rattle.rust_grammar.specs.Shared.{dots_dot, three_dots}
use Rattle.rust_grammar.specs.Words.{':'}
use Rattle.rust_grammar.proofs.WholeTable.{whole-means}
use Rattle.core_language.specs.Statements.{NamePattern, Pattern, name_tree, pattern_tree}
use Rattle.core_language.specs.Types.{CoreType, Immutable, Mutable, PathType, ReferenceType, SliceType, type_tree}
use Rattle.core_language.proofs.Paths.{EndsType, TypeEnds}
use Rattle.core_language.proofs.Rules.{at, begins_at, call-there, forms, gives, or-second, reads, table, then-reads}
use Rattle.core_language.proofs.Types.{bare-type-is-there, path-begins, type-is-no-dots, type-is-there, type-reads}
use Rattle.core_language.proofs.Flagged.{name_token, of_kind, pattern_tokens, type_tokens}

pub name-reads : (flag : Bool) (n : Bool) (more : List Token) → gives name (at End (name_token flag n ∷ more)) ≡ at (name_tree End) more
unfolding table
name-reads flag n more = whole-means name false _ ∙ refl

-- what may stand after a pattern: a colon that is not one of two, `=`, `;`
pub data After (flag : Bool) : List Token → Type 0 where
  BeforeType : (c : Bool) (t : Token) (ts : List Token) → (t.kind == COLON) ≡ false → After flag (of_kind flag COLON c ∷ t ∷ ts)
  BeforeValue : (j : Bool) (ts : List Token) → After flag (of_kind flag EQ j ∷ ts)
  BeforeEnd : (k : Bool) (ts : List Token) → After flag (of_kind flag SEMICOLON k ∷ ts)

atom-reads : (flag : Bool) (p : Pattern) {more : List Token} → After flag more
    → gives pattern_atom (at End (pattern_tokens flag p more)) ≡ at (pattern_tree p End) more
unfolding table
atom-reads true (NamePattern Immutable n) (BeforeType true t ts h) =
    whole-means pattern_atom false _
    ∙ rw (name-reads true n (of_kind true COLON true ∷ t ∷ ts)) (rw h refl)
atom-reads false (NamePattern Immutable n) (BeforeType true t ts h) =
    whole-means pattern_atom false _
    ∙ rw (name-reads false n (of_kind false COLON true ∷ t ∷ ts)) (rw h refl)
atom-reads true (NamePattern Immutable n) (BeforeType false t ts h) = whole-means pattern_atom false _ ∙ rw (name-reads true n (of_kind true COLON false ∷ t ∷ ts)) refl
atom-reads false (NamePattern Immutable n) (BeforeType false t ts h) = whole-means pattern_atom false _ ∙ rw (name-reads false n (of_kind false COLON false ∷ t ∷ ts)) refl
atom-reads true (NamePattern Immutable n) (BeforeValue j ts) = whole-means pattern_atom false _ ∙ rw (name-reads true n (of_kind true EQ j ∷ ts)) refl
atom-reads false (NamePattern Immutable n) (BeforeValue j ts) = whole-means pattern_atom false _ ∙ rw (name-reads false n (of_kind false EQ j ∷ ts)) refl
atom-reads true (NamePattern Immutable n) (BeforeEnd k ts) = whole-means pattern_atom false _ ∙ rw (name-reads true n (of_kind true SEMICOLON k ∷ ts)) refl
atom-reads false (NamePattern Immutable n) (BeforeEnd k ts) = whole-means pattern_atom false _ ∙ rw (name-reads false n (of_kind false SEMICOLON k ∷ ts)) refl
atom-reads true (NamePattern (Mutable i) n) (BeforeType c t ts h) = whole-means pattern_atom false _ ∙ rw (name-reads true n (of_kind true COLON c ∷ t ∷ ts)) refl
atom-reads false (NamePattern (Mutable i) n) (BeforeType c t ts h) = whole-means pattern_atom false _ ∙ rw (name-reads false n (of_kind false COLON c ∷ t ∷ ts)) refl
atom-reads true (NamePattern (Mutable i) n) (BeforeValue j ts) = whole-means pattern_atom false _ ∙ rw (name-reads true n (of_kind true EQ j ∷ ts)) refl
atom-reads false (NamePattern (Mutable i) n) (BeforeValue j ts) = whole-means pattern_atom false _ ∙ rw (name-reads false n (of_kind false EQ j ∷ ts)) refl
atom-reads true (NamePattern (Mutable i) n) (BeforeEnd k ts) = whole-means pattern_atom false _ ∙ rw (name-reads true n (of_kind true SEMICOLON k ∷ ts)) refl
atom-reads false (NamePattern (Mutable i) n) (BeforeEnd k ts) = whole-means pattern_atom false _ ∙ rw (name-reads false n (of_kind false SEMICOLON k ∷ ts)) refl

-- no range operator follows, where the token after it is read by the profile
single-reads : (flag : Bool) (p : Pattern) {more : List Token} → After flag more
    → gives single_pattern (at End (pattern_tokens flag p more)) ≡ at (pattern_tree p End) more
unfolding table
single-reads true (NamePattern Immutable n) (BeforeType true t ts h) = whole-means single_pattern false _ ∙ rw (atom-reads true (NamePattern Immutable n) (BeforeType true t ts h)) refl
single-reads false (NamePattern Immutable n) (BeforeType true t ts h) = whole-means single_pattern false _ ∙ rw (atom-reads false (NamePattern Immutable n) (BeforeType true t ts h)) refl
single-reads true (NamePattern Immutable n) (BeforeType false t ts h) = whole-means single_pattern false _ ∙ rw (atom-reads true (NamePattern Immutable n) (BeforeType false t ts h)) refl
single-reads false (NamePattern Immutable n) (BeforeType false t ts h) = whole-means single_pattern false _ ∙ rw (atom-reads false (NamePattern Immutable n) (BeforeType false t ts h)) refl
single-reads true (NamePattern Immutable n) (BeforeValue j ts) = whole-means single_pattern false _ ∙ rw (atom-reads true (NamePattern Immutable n) (BeforeValue j ts)) refl
single-reads false (NamePattern Immutable n) (BeforeValue j ts) = whole-means single_pattern false _ ∙ rw (atom-reads false (NamePattern Immutable n) (BeforeValue j ts)) refl
single-reads true (NamePattern Immutable n) (BeforeEnd k ts) = whole-means single_pattern false _ ∙ rw (atom-reads true (NamePattern Immutable n) (BeforeEnd k ts)) refl
single-reads false (NamePattern Immutable n) (BeforeEnd k ts) = whole-means single_pattern false _ ∙ rw (atom-reads false (NamePattern Immutable n) (BeforeEnd k ts)) refl
single-reads true (NamePattern (Mutable i) n) (BeforeType c t ts h) = whole-means single_pattern false _ ∙ rw (atom-reads true (NamePattern (Mutable i) n) (BeforeType c t ts h)) refl
single-reads false (NamePattern (Mutable i) n) (BeforeType c t ts h) = whole-means single_pattern false _ ∙ rw (atom-reads false (NamePattern (Mutable i) n) (BeforeType c t ts h)) refl
single-reads true (NamePattern (Mutable i) n) (BeforeValue j ts) = whole-means single_pattern false _ ∙ rw (atom-reads true (NamePattern (Mutable i) n) (BeforeValue j ts)) refl
single-reads false (NamePattern (Mutable i) n) (BeforeValue j ts) = whole-means single_pattern false _ ∙ rw (atom-reads false (NamePattern (Mutable i) n) (BeforeValue j ts)) refl
single-reads true (NamePattern (Mutable i) n) (BeforeEnd k ts) = whole-means single_pattern false _ ∙ rw (atom-reads true (NamePattern (Mutable i) n) (BeforeEnd k ts)) refl
single-reads false (NamePattern (Mutable i) n) (BeforeEnd k ts) = whole-means single_pattern false _ ∙ rw (atom-reads false (NamePattern (Mutable i) n) (BeforeEnd k ts)) refl

pattern-picks : (flag : Bool) (p : Pattern) {more : List Token} → After flag more
    → gives single_pattern (at End (pattern_tokens flag p more)) ≡ at (pattern_tree p End) more
    → gives pattern (at End (pattern_tokens flag p more)) ≡ at (pattern_tree p End) more
unfolding table
pattern-picks flag (NamePattern Immutable n) (BeforeType true t ts h) e = whole-means pattern false _ ∙ rw e refl
pattern-picks flag (NamePattern Immutable n) (BeforeType false t ts h) e = whole-means pattern false _ ∙ rw e refl
pattern-picks flag (NamePattern Immutable n) (BeforeValue j ts) e = whole-means pattern false _ ∙ rw e refl
pattern-picks flag (NamePattern Immutable n) (BeforeEnd k ts) e = whole-means pattern false _ ∙ rw e refl
pattern-picks flag (NamePattern (Mutable i) n) (BeforeType c t ts h) e = whole-means pattern false _ ∙ rw e refl
pattern-picks flag (NamePattern (Mutable i) n) (BeforeValue j ts) e = whole-means pattern false _ ∙ rw e refl
pattern-picks flag (NamePattern (Mutable i) n) (BeforeEnd k ts) e = whole-means pattern false _ ∙ rw e refl

pub pattern-reads : (flag : Bool) (p : Pattern) {more : List Token} → After flag more
    → gives pattern (at End (pattern_tokens flag p more)) ≡ at (pattern_tree p End) more
pattern-reads flag p b = pattern-picks flag p b (single-reads flag p b)

pub pattern-is-there : (flag : Bool) (p : Pattern) {more : List Token} → After flag more → (g : Forest)
    → begins_at (Call pattern) (at g (pattern_tokens flag p more)) ≡ true
unfolding table
pattern-is-there true (NamePattern Immutable n) (BeforeType true t ts h) g = rw h refl
pattern-is-there false (NamePattern Immutable n) (BeforeType true t ts h) g = rw h refl
pattern-is-there true (NamePattern Immutable n) (BeforeType false t ts h) g = refl
pattern-is-there false (NamePattern Immutable n) (BeforeType false t ts h) g = refl
pattern-is-there true (NamePattern Immutable n) (BeforeValue j ts) g = refl
pattern-is-there false (NamePattern Immutable n) (BeforeValue j ts) g = refl
pattern-is-there true (NamePattern Immutable n) (BeforeEnd k ts) g = refl
pattern-is-there false (NamePattern Immutable n) (BeforeEnd k ts) g = refl
pattern-is-there true (NamePattern (Mutable i) n) (BeforeType c t ts h) g = refl
pattern-is-there false (NamePattern (Mutable i) n) (BeforeType c t ts h) g = refl
pattern-is-there true (NamePattern (Mutable i) n) (BeforeValue j ts) g = refl
pattern-is-there false (NamePattern (Mutable i) n) (BeforeValue j ts) g = refl
pattern-is-there true (NamePattern (Mutable i) n) (BeforeEnd k ts) g = refl
pattern-is-there false (NamePattern (Mutable i) n) (BeforeEnd k ts) g = refl

-- a type begins with no colon
pub typed : (flag : Bool) (c : Bool) (t : CoreType) (more : List Token) → After flag (of_kind flag COLON c ∷ type_tokens flag t more)
typed flag c (PathType p) more = let b = path-begins flag p more in rw b.are (BeforeType c (name_token flag b.j) b.rest refl)
typed flag c (ReferenceType j m t) more = BeforeType c _ _ refl
typed flag c (SliceType j t k) more = BeforeType c _ _ refl

pub type-there : (flag : Bool) (t : CoreType) (more : List Token) (g : Forest) → begins_at (Call any_type) (at g (type_tokens flag t more)) ≡ true
type-there flag t more g = call-there any_type g (type_tokens flag t more) (type-is-there flag t End more)

pub bare-type-there : (flag : Bool) (t : CoreType) (more : List Token) (g : Forest) → begins_at (Call type_no_bounds) (at g (type_tokens flag t more)) ≡ true
bare-type-there flag t more g = call-there type_no_bounds g (type_tokens flag t more) (bare-type-is-there flag t End more)

-- what is read after a colon
abbrev pub after_colon : Rule → Rule
after_colon a = Then (Want (One ':') (Expected COLON)) a

colon-reads : (flag : Bool) (a : Rule) (g : Forest) (c : Bool) (ts : List Token) → reads (after_colon a) (at g (of_kind flag COLON c ∷ ts)) ≡ reads a (at (g then Leaf COLON 1 End) ts)
unfolding forms
colon-reads flag a g c ts = refl

wanted-reads : (g : Forest) (ts : List Token) (f : Forest) (more : List Token) → begins_at (Call any_type) (at g ts) ≡ true
    → gives any_type (at End ts) ≡ at f more → reads (Want (Call any_type) ExpectedType) (at g ts) ≡ at (g then f) more
unfolding forms
wanted-reads g ts f more there e = rw (there, e) refl

-- The type of a field: no default follows where no `=` does.
no-default : (flag : Bool) (g : Forest) (k : ℕ) (c : Bool) (more : List Token) → (k == EQ) ≡ false
    → reads discriminant (at g (of_kind flag k c ∷ more)) ≡ at g (of_kind flag k c ∷ more)
unfolding forms
no-default true g k c more h = rw h refl
no-default false g k c more h = refl

abbrev pub field_type : Rule
field_type = after_colon (Then (Want (Call any_type) ExpectedType) discriminant)

pub field_type-reads : (flag : Bool) (g : Forest) (c : Bool) (t : CoreType) (k : ℕ) (j : Bool) (more : List Token) → EndsType k → (k == EQ) ≡ false →
    reads field_type (at g (of_kind flag COLON c ∷ type_tokens flag t (of_kind flag k j ∷ more)))
    ≡ at ((g then Leaf COLON 1 End) then type_tree t End) (of_kind flag k j ∷ more)
unfolding ahead
field_type-reads flag g c t k j more h i =
    colon-reads flag (Then (Want (Call any_type) ExpectedType) discriminant) g c _
    ∙ then-reads (Want (Call any_type) ExpectedType) discriminant _
    (wanted-reads _ _ _ _ (type-there flag t _ _) (type-reads flag t (of_kind flag k j ∷ more) h))
    (no-default flag _ k j more i)

-- The type of a parameter.
pub param_type-reads : (flag : Bool) (g : Forest) (c : Bool) (t : CoreType) (more : List Token) → TypeEnds more
    → reads param_type (at g (of_kind flag COLON c ∷ type_tokens flag t more)) ≡ at ((g then Leaf COLON 1 End) then type_tree t End) more
param_type-reads flag g c t more h =
    colon-reads flag dots_or_type g c _
    ∙ or-second (When (wide dots_dot) three_dots) (Want (Call any_type) ExpectedType) _ (type-is-no-dots flag t more _)
    ∙ wanted-reads _ _ _ _ (type-there flag t more _) (type-reads flag t more h)
