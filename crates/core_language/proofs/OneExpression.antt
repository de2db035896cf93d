-- Tokens and tree together determine the derivation of a path, of a type and of an expression.
use Rattle.std.proofs.Common.{◌≡◌, ℕ, Bool, true, List, ◌∷◌, refl, ap, sym, ◌∙◌, arith}
use Rattle.parser_input.specs.Input.{Token}
use Rattle.parser_input.specs.Kinds.{AMP, COLON, COMMA, L_BRACK, MUT_KW, PATH, PATH_SEGMENT, R_BRACK, R_PAREN}
use Rattle.parser_events.specs.Forest.{End, Leaf}
use Rattle.core_language.specs.Expressions.{ArgumentComma, Arguments, Assignment, Binary, Borrow, Expression, FieldAccess, FunctionCall, LastArgument, Literal, MethodCall, Named, NoArgument, Parenthesized, Prefixed, arguments_tokens, arguments_tree, expression_kind, expression_tokens, inside_expression}
use Rattle.core_language.specs.Operators.{Assigner, Operator, assigner_tokens, operator_tokens}
use Rattle.core_language.specs.Tokens.{name_token, of_kind}
use Rattle.core_language.specs.Types.{Below, CoreType, Immutable, Mutable, Name, Path, PathType, ReferenceType, SliceType, inside_path, inside_type, path_tokens, type_kind, type_tokens}
use Rattle.core_language.proofs.Told.{assigner-one, assigner-same, head-one, literal-same, not-assigner, operator-one, operator-same, prefix-same}

-- a token and those after it
pub name-one : (j k : Bool) (more other : List Token) → name_token j ∷ more ≡ name_token k ∷ other → (j ≡ k) × (more ≡ other)
name-one j k more other e = let t : name_token j ≡ name_token k = cc in (ap (λ (x : Token). x.joint) t, cc)

pub mark-one : (x : ℕ) (j k : Bool) (more other : List Token) → of_kind x j ∷ more ≡ of_kind x k ∷ other → (j ≡ k) × (more ≡ other)
mark-one x j k more other e = let t : of_kind x j ≡ of_kind x k = cc in (ap (λ (y : Token). y.joint) t, cc)

pub path-one : (p q : Path) (more other : List Token) → inside_path p ≡ inside_path q → path_tokens p more ≡ path_tokens q other
    → (p ≡ q) × (more ≡ other)
path-one (Name j) (Name k) more other e h = let w = name-one j k more other h in (ap Name w.0, w.1)
path-one (Name j) (Below q d k) more other e h = let n : PATH_SEGMENT ≡ PATH = cc in absurd (omega arith)
path-one (Below p c j) (Name k) more other e h = let n : PATH ≡ PATH_SEGMENT = cc in absurd (omega arith)
path-one (Below p c j) (Below q d k) more other e h =
    let i : inside_path p ≡ inside_path q = cc in
    let r = path-one p q _ _ i h in
    let rest : of_kind COLON c ∷ name_token j ∷ more ≡ of_kind COLON d ∷ name_token k ∷ other = (mark-one COLON true true _ _ r.1).1 in
    let m = mark-one COLON c d _ _ rest in
    let w = name-one j k more other m.1 in
    (three r.0 m.0 w.0, w.1)
  where
    three : p ≡ q → c ≡ d → j ≡ k → Below p c j ≡ Below q d k
    three x y z = cc

pub type-one : (t u : CoreType) (more other : List Token) → type_kind t ≡ type_kind u → inside_type t ≡ inside_type u
    → type_tokens t more ≡ type_tokens u other → (t ≡ u) × (more ≡ other)
type-one (PathType p) (PathType q) more other n e h =
    let i : inside_path p ≡ inside_path q = cc in let r = path-one p q more other i h in (ap PathType r.0, r.1)
type-one (ReferenceType j Immutable t) (ReferenceType k Immutable u) more other n e h =
    let a : type_kind t ≡ type_kind u = cc in
    let b : inside_type t ≡ inside_type u = cc in
    let m = mark-one AMP j k _ _ h in
    let r = type-one t u more other a b m.1 in
    (two m.0 r.0, r.1)
  where
    two : j ≡ k → t ≡ u → ReferenceType j Immutable t ≡ ReferenceType k Immutable u
    two x y = cc
type-one (ReferenceType j (Mutable i) t) (ReferenceType k (Mutable l) u) more other n e h =
    let a : type_kind t ≡ type_kind u = cc in
    let b : inside_type t ≡ inside_type u = cc in
    let m = mark-one AMP j k _ _ h in
    let x = mark-one MUT_KW i l _ _ m.1 in
    let r = type-one t u more other a b x.1 in
    (three m.0 x.0 r.0, r.1)
  where
    three : j ≡ k → i ≡ l → t ≡ u → ReferenceType j (Mutable i) t ≡ ReferenceType k (Mutable l) u
    three x y z = cc
type-one (SliceType j t i) (SliceType k u l) more other n e h =
    let a : type_kind t ≡ type_kind u = cc in
    let b : inside_type t ≡ inside_type u = cc in
    let m = mark-one L_BRACK j k _ _ h in
    let r = type-one t u _ _ a b m.1 in
    let x = mark-one R_BRACK i l more other r.1 in
    (three m.0 r.0 x.0, x.1)
  where
    three : j ≡ k → t ≡ u → i ≡ l → SliceType j t i ≡ SliceType k u l
    three x y z = cc
type-one (ReferenceType j Immutable t) (ReferenceType k (Mutable l) u) more other n e h = absurd cc
type-one (ReferenceType j (Mutable i) t) (ReferenceType k Immutable u) more other n e h = absurd cc
type-one _ _ more other n e h = absurd (omega (arith, n))

mutual
  pub expression-one : (e h : Expression) (more other : List Token) → expression_kind e ≡ expression_kind h
      → inside_expression e ≡ inside_expression h → expression_tokens e more ≡ expression_tokens h other → (e ≡ h) × (more ≡ other)
  expression-one (Literal l j) (Literal m k) more other n i s =
      let a : l ≡ m = literal-same l m cc in
      let r = head-one _ _ more other s in
      let b : j ≡ k = r.0 in
      (cc, r.1)
  expression-one (Named p) (Named q) more other n i s = let a : inside_path p
      ≡ inside_path q = cc in let r = path-one p q more other a s in let b = r.0 in (ap Named b, r.1)
  expression-one (Parenthesized j e k) (Parenthesized l h m) more other n i s =
      let a : expression_kind e ≡ expression_kind h = cc in
      let b : inside_expression e ≡ inside_expression h = cc in
      let r = head-one _ _ _ _ s in
      let q = expression-one e h _ _ a b r.1 in
      let z = head-one _ _ more other q.1 in
      let c1 : j ≡ l = r.0 in
      let c2 : e ≡ h = q.0 in
      let c3 : k ≡ m = z.0 in
      (cc, z.1)
  expression-one (FunctionCall e j es k) (FunctionCall h l hs m) more other n i s =
      let a : expression_kind e ≡ expression_kind h = cc in
      let b : inside_expression e ≡ inside_expression h = cc in
      let c : arguments_tree es (Leaf R_PAREN 1 End) ≡ arguments_tree hs (Leaf R_PAREN 1 End) = cc in
      let q = expression-one e h _ _ a b s in
      let r = head-one _ _ _ _ q.1 in
      let w = arguments-one es hs k m more other c r.1 in
      let z = head-one _ _ more other w.1 in
      let c1 : j ≡ l = r.0 in
      let c2 : e ≡ h = q.0 in
      let c3 : k ≡ m = z.0 in
      let c4 : es ≡ hs = w.0 in
      (cc, z.1)
  expression-one (MethodCall e d v j es k) (MethodCall h f w' l hs m) more other n i s =
      let a : expression_kind e ≡ expression_kind h = cc in
      let b : inside_expression e ≡ inside_expression h = cc in
      let c : arguments_tree es (Leaf R_PAREN 1 End) ≡ arguments_tree hs (Leaf R_PAREN 1 End) = cc in
      let q = expression-one e h _ _ a b s in
      let r1 = head-one _ _ _ _ q.1 in
      let r2 = head-one _ _ _ _ r1.1 in
      let r = head-one _ _ _ _ r2.1 in
      let w = arguments-one es hs k m more other c r.1 in
      let z = head-one _ _ more other w.1 in
      let c1 : j ≡ l = r.0 in
      let c2 : e ≡ h = q.0 in
      let c3 : k ≡ m = z.0 in
      let c4 : es ≡ hs = w.0 in
      let c5 : d ≡ f = r1.0 in
      let c6 : v ≡ w' = r2.0 in
      (cc, z.1)
  expression-one (FieldAccess e d v) (FieldAccess h f w') more other n i s =
      let a : expression_kind e ≡ expression_kind h = cc in
      let b : inside_expression e ≡ inside_expression h = cc in
      let q = expression-one e h _ _ a b s in
      let r1 = head-one _ _ _ _ q.1 in
      let r2 = head-one _ _ more other r1.1 in
      let c2 : e ≡ h = q.0 in
      let c5 : d ≡ f = r1.0 in
      let c6 : v ≡ w' = r2.0 in
      (cc, r2.1)
  expression-one (Prefixed g j e) (Prefixed f k h) more other n i s =
      let a : expression_kind e ≡ expression_kind h = cc in
      let b : inside_expression e ≡ inside_expression h = cc in
      let c : g ≡ f = prefix-same g f cc in
      let r = head-one _ _ _ _ s in
      let q = expression-one e h more other a b r.1 in
      let c1 : j ≡ k = r.0 in
      let c2 : e ≡ h = q.0 in
      (cc, q.1)
  expression-one (Borrow j Immutable e) (Borrow k Immutable h) more other n i s =
      let a : expression_kind e ≡ expression_kind h = cc in
      let b : inside_expression e ≡ inside_expression h = cc in
      let r = head-one _ _ _ _ s in
      let q = expression-one e h more other a b r.1 in
      let c1 : j ≡ k = r.0 in
      let c2 : e ≡ h = q.0 in
      (cc, q.1)
  expression-one (Borrow j (Mutable x) e) (Borrow k (Mutable y) h) more other n i s =
      let a : expression_kind e ≡ expression_kind h = cc in
      let b : inside_expression e ≡ inside_expression h = cc in
      let r = head-one _ _ _ _ s in
      let z = head-one _ _ _ _ r.1 in
      let q = expression-one e h more other a b z.1 in
      let c1 : j ≡ k = r.0 in
      let c2 : e ≡ h = q.0 in
      let c3 : x ≡ y = z.0 in
      (cc, q.1)
  expression-one (Borrow j Immutable e) (Borrow k (Mutable y) h) more other n i s = absurd cc
  expression-one (Borrow j (Mutable x) e) (Borrow k Immutable h) more other n i s = absurd cc
  expression-one (Binary l o j r) (Binary m p k t) more other n i s =
      let a : expression_kind l ≡ expression_kind m = cc in
      let b : inside_expression l ≡ inside_expression m = cc in
      let a' : expression_kind r ≡ expression_kind t = cc in
      let b' : inside_expression r ≡ inside_expression t = cc in
      let c : o ≡ p = operator-same o p cc in
      let q = expression-one l m _ _ a b s in
      let u : operator_tokens p j (expression_tokens r more)
      ≡ operator_tokens p k (expression_tokens t other) = ap (λ (y : Operator). operator_tokens y j (expression_tokens r more)) (sym c) ∙ q.1 in
      let z = operator-one p j k _ _ u in
      let v = expression-one r t more other a' b' z.1 in
      let c1 : l ≡ m = q.0 in
      let c2 : j ≡ k = z.0 in
      let c3 : r ≡ t = v.0 in
      (cc, v.1)
  expression-one (Assignment l o j r) (Assignment m p k t) more other n i s =
      let a : expression_kind l ≡ expression_kind m = cc in
      let b : inside_expression l ≡ inside_expression m = cc in
      let a' : expression_kind r ≡ expression_kind t = cc in
      let b' : inside_expression r ≡ inside_expression t = cc in
      let c : o ≡ p = assigner-same o p cc in
      let q = expression-one l m _ _ a b s in
      let u : assigner_tokens p j (expression_tokens r more)
      ≡ assigner_tokens p k (expression_tokens t other) = ap (λ (y : Assigner). assigner_tokens y j (expression_tokens r more)) (sym c) ∙ q.1 in
      let z = assigner-one p j k _ _ u in
      let v = expression-one r t more other a' b' z.1 in
      let c1 : l ≡ m = q.0 in
      let c2 : j ≡ k = z.0 in
      let c3 : r ≡ t = v.0 in
      (cc, v.1)
  expression-one (Binary l o j r) (Assignment m p k t) more other n i s = absurd (not-assigner o p cc)
  expression-one (Assignment l o j r) (Binary m p k t) more other n i s = absurd (not-assigner p o cc)
  expression-one _ _ more other n i s = absurd (omega (arith, n))

  arguments-one : (es hs : Arguments) (j k : Bool) (more other : List Token)
      → arguments_tree es (Leaf R_PAREN 1 End) ≡ arguments_tree hs (Leaf R_PAREN 1 End)
      → arguments_tokens es (of_kind R_PAREN j ∷ more) ≡ arguments_tokens hs (of_kind R_PAREN k ∷ other) →
      (es ≡ hs) × (of_kind R_PAREN j ∷ more ≡ of_kind R_PAREN k ∷ other)
  arguments-one NoArgument NoArgument j k more other t s = (refl, s)
  arguments-one (LastArgument e) (LastArgument h) j k more other t s =
      let a : expression_kind e ≡ expression_kind h = cc in
      let b : inside_expression e ≡ inside_expression h = cc in
      let q = expression-one e h _ _ a b s in
      (ap LastArgument q.0, q.1)
  arguments-one (ArgumentComma e x es) (ArgumentComma h y hs) j k more other t s =
      let a : expression_kind e ≡ expression_kind h = cc in
      let b : inside_expression e ≡ inside_expression h = cc in
      let c : arguments_tree es (Leaf R_PAREN 1 End) ≡ arguments_tree hs (Leaf R_PAREN 1 End) = cc in
      let q = expression-one e h _ _ a b s in
      let r = head-one _ _ _ _ q.1 in
      let w = arguments-one es hs j k more other c r.1 in
      let c1 : e ≡ h = q.0 in
      let c2 : x ≡ y = r.0 in
      let c3 : es ≡ hs = w.0 in
      (cc, w.1)
  arguments-one (LastArgument e) (ArgumentComma h y hs) j k more other t s = let c : Leaf R_PAREN 1 End
      ≡ Leaf COMMA 1 (arguments_tree hs (Leaf R_PAREN 1 End)) = cc in let z : R_PAREN ≡ COMMA = cc in absurd (omega (arith, z))
  arguments-one (ArgumentComma e x es) (LastArgument h) j k more other t s = let c : Leaf COMMA 1 (arguments_tree es (Leaf R_PAREN 1 End))
      ≡ Leaf R_PAREN 1 End = cc in let z : COMMA ≡ R_PAREN = cc in absurd (omega (arith, z))
  arguments-one _ _ j k more other t s = absurd cc
