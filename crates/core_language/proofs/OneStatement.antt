-- Tokens and tree together determine the derivation of patterns, statements and blocks.
use Rattle.std.proofs.Common.{◌≡◌, ℕ, Bool, true, false, List, ◌∷◌, refl, ap, sym, ◌∙◌, arith, ◌==◌, ◌||◌}
use Rattle.parser_input.specs.Input.{Token}
use Rattle.parser_input.specs.Kinds.{PUB_KW, LET_KW, COLON, EQ, SEMICOLON, L_CURLY, R_CURLY, MUT_KW, LET_STMT, EXPR_STMT, DEFER_KW, DEFER_STMT}
use Rattle.parser_events.specs.Forest.{Forest, End, Leaf, Node}
use Rattle.core_language.specs.Expressions.{Expression, Literal, expression_kind, expression_tokens, expression_tree, inside_expression}
use Rattle.core_language.specs.Items.{Private, Public, Visibility, visibility_tokens, visibility_tree}
use Rattle.core_language.specs.Statements.{AnnotatedBy, Annotation, Block, Braces, Defer, InitializedBy, Initializer, LastExpression, Let, NamePattern, NoAnnotation, NoInitializer, NoStatement, Pattern, Run, Statement, StatementThen, Statements, annotation_tokens, annotation_tree, block_tokens, block_tree, initializer_tokens, initializer_tree, pattern_tokens, pattern_tree, statement_tokens, statement_tree, statements_tokens, statements_tree}
use Rattle.core_language.specs.Tokens.{of_kind}
use Rattle.core_language.specs.Types.{CoreType, Immutable, Mutable, inside_type, type_kind, type_tokens, type_tree}
use Rattle.core_language.proofs.OneExpression.{expression-one, mark-one, name-one, type-one}
use Rattle.core_language.proofs.Told.{head-one}

-- the kind of the first leaf, where a leaf is first
abbrev pub first_leaf : Forest → ℕ
first_leaf (Leaf k n f) = k
first_leaf f = 0

-- whether a node is first
abbrev pub is_node : Forest → Bool
is_node (Node k c f) = true
is_node f = false

-- the kind of the first node, where a node is first
abbrev pub first_node : Forest → ℕ
first_node (Node k c f) = k
first_node f = 0

-- what follows an equal part is equal
pub record Same {A : Type 0} (a b : A) (f g : Forest) (ts us : List Token) : Type 0 where
  pub part : a ≡ b
  pub trees : f ≡ g
  pub tokens : ts ≡ us

pub differ : (b : Bool) → b ≡ true → b ≡ false → ⊥
differ true p q = absurd cc
differ false p q = absurd cc

pub visibility-one : (v w : Visibility) (f g : Forest) (t u : Token) (ts us : List Token) → (t.kind == PUB_KW) ≡ false
    → (u.kind == PUB_KW) ≡ false
    → visibility_tree v f ≡ visibility_tree w g → visibility_tokens v (t ∷ ts) ≡ visibility_tokens w (u ∷ us)
    → Same v w f g (t ∷ ts) (u ∷ us)
visibility-one Private Private f g t u ts us p q e h = record { part = refl; trees = e; tokens = h }
visibility-one (Public j) (Public k) f g t u ts us p q e h =
    let r = head-one _ _ (t ∷ ts) (u ∷ us) h in
    let same : f ≡ g = cc in
    record { part = ap Public r.0; trees = same; tokens = r.1 }
visibility-one Private (Public k) f g t u ts us p q e h =
    let same : t ≡ of_kind PUB_KW k = cc in
    absurd (differ (t.kind == PUB_KW) (ap (λ (x : Token). x.kind == PUB_KW) same) p)
visibility-one (Public j) Private f g t u ts us p q e h =
    let same : u ≡ of_kind PUB_KW j = cc in
    absurd (differ (u.kind == PUB_KW) (ap (λ (x : Token). x.kind == PUB_KW) same) q)

-- A type in its tree.
pub type-in : (t u : CoreType) (f g : Forest) (more other : List Token) → type_tree t f ≡ type_tree u g
    → type_tokens t more ≡ type_tokens u other → Same t u f g more other
type-in t u f g more other e h =
    let kind : type_kind t ≡ type_kind u = cc in
    let inside : inside_type t ≡ inside_type u = cc in
    let same : f ≡ g = cc in
    let r = type-one t u more other kind inside h in
    record { part = r.0; trees = same; tokens = r.1 }

-- An expression in its tree.
pub expression-in : (a b : Expression) (f g : Forest) (more other : List Token) → expression_tree a f ≡ expression_tree b g
    → expression_tokens a more ≡ expression_tokens b other → Same a b f g more other
expression-in a b f g more other e h =
    let kind : expression_kind a ≡ expression_kind b = cc in
    let inside : inside_expression a ≡ inside_expression b = cc in
    let same : f ≡ g = cc in
    let r = expression-one a b more other kind inside h in
    record { part = r.0; trees = same; tokens = r.1 }

pub pattern-one : (p q : Pattern) (f g : Forest) (more other : List Token) → pattern_tree p f ≡ pattern_tree q g
    → pattern_tokens p more ≡ pattern_tokens q other → Same p q f g more other
pattern-one (NamePattern Immutable j) (NamePattern Immutable k) f g more other e h =
    let r = name-one j k more other h in
    let same : f ≡ g = cc in
    record { part = ap (NamePattern Immutable) r.0; trees = same; tokens = r.1 }
pattern-one (NamePattern (Mutable i) j) (NamePattern (Mutable l) k) f g more other e h =
    let m = mark-one MUT_KW i l _ _ h in
    let r = name-one j k more other m.1 in
    let mut : i ≡ l = m.0 in
    let name : j ≡ k = r.0 in
    let same : f ≡ g = cc in
    record { part = cc; trees = same; tokens = r.1 }
pattern-one (NamePattern Immutable j) (NamePattern (Mutable l) k) f g more other e h = absurd cc
pattern-one (NamePattern (Mutable i) j) (NamePattern Immutable k) f g more other e h = absurd cc

annotation-one : (a b : Annotation) (f g : Forest) (more other : List Token) → (first_leaf f == COLON) ≡ false
    → (first_leaf g == COLON) ≡ false
    → annotation_tree a f ≡ annotation_tree b g → annotation_tokens a more ≡ annotation_tokens b other → Same a b f g more other
annotation-one NoAnnotation NoAnnotation f g more other p q e h = record { part = refl; trees = e; tokens = h }
annotation-one (AnnotatedBy j t) (AnnotatedBy k u) f g more other p q e h =
    let m = mark-one COLON j k _ _ h in
    let inner : type_tree t f ≡ type_tree u g = cc in
    let r = type-in t u f g more other inner m.1 in
    let colon : j ≡ k = m.0 in
    let type : t ≡ u = r.part in
    record { part = cc; trees = r.trees; tokens = r.tokens }
annotation-one NoAnnotation (AnnotatedBy k u) f g more other p q e h = absurd (differ (first_leaf f == COLON) (ap (λ (x : Forest). first_leaf x == COLON) e) p)
annotation-one (AnnotatedBy j t) NoAnnotation f g more other p q e h =
    absurd (differ (first_leaf g == COLON) (ap (λ (x : Forest). first_leaf x == COLON) (sym e)) q)

initializer-one : (v w : Initializer) (more other : List Token)
    → initializer_tree v (Leaf SEMICOLON 1 End) ≡ initializer_tree w (Leaf SEMICOLON 1 End)
    → initializer_tokens v more ≡ initializer_tokens w other → (v ≡ w) × (more ≡ other)
initializer-one NoInitializer NoInitializer more other e h = (refl, h)
initializer-one (InitializedBy j a) (InitializedBy k b) more other e h =
    let m = mark-one EQ j k _ _ h in
    let inner : expression_tree a (Leaf SEMICOLON 1 End) ≡ expression_tree b (Leaf SEMICOLON 1 End) = cc in
    let r = expression-in a b _ _ more other inner m.1 in
    let equals : j ≡ k = m.0 in
    let same : a ≡ b = r.part in
    (cc, r.tokens)
initializer-one NoInitializer (InitializedBy k b) more other e h = let n : SEMICOLON ≡ EQ = ap first_leaf e in absurd (omega (arith, n))
initializer-one (InitializedBy j a) NoInitializer more other e h = let n : EQ ≡ SEMICOLON = ap first_leaf e in absurd (omega (arith, n))

no-colon : (v : Initializer) → (first_leaf (initializer_tree v (Leaf SEMICOLON 1 End)) == COLON) ≡ false
no-colon NoInitializer = refl
no-colon (InitializedBy j e) = refl

-- whether a statement's node has this kind
abbrev is_statement_kind : ℕ → Bool
is_statement_kind k = k == LET_STMT || k == DEFER_STMT || k == EXPR_STMT

-- an expression's kind is no statement's
expression-kinds : (e : Expression) → is_statement_kind (expression_kind e) ≡ false
expression-kinds (Literal l j) = refl
expression-kinds e = refl

-- a statement's kind is one
statement-kinds : (s : Statement) (f : Forest) → is_statement_kind (first_node (statement_tree s f)) ≡ true
statement-kinds (Let j p a v k) f = refl
statement-kinds s f = refl

-- an expression's node is no statement's
no-statement : (e : Expression) (s : Statement) (f g : Forest) → expression_tree e f ≡ statement_tree s g → ⊥
no-statement e s f g h = differ (is_statement_kind (expression_kind e)) (ap (λ (x : Forest). is_statement_kind (first_node x)) h ∙ statement-kinds s g) (expression-kinds e)

-- a statement is a node
statement-node : (s : Statement) (f : Forest) → is_node (statement_tree s f) ≡ true
statement-node (Let j p a v k) f = refl
statement-node s f = refl

mutual
  statement-one : (s t : Statement) (f g : Forest) (more other : List Token) → statement_tree s f ≡ statement_tree t g
      → statement_tokens s more ≡ statement_tokens t other → Same s t f g more other
  statement-one (Let j p a v k) (Let l q b w m) f g more other e h =
      let same : f ≡ g = cc in
      let pattern_trees : pattern_tree p (annotation_tree a (initializer_tree v (Leaf SEMICOLON 1 End))) ≡ pattern_tree q (annotation_tree b (initializer_tree w (Leaf SEMICOLON 1 End))) = cc in
      let first = mark-one LET_KW j l _ _ h in
      let x = pattern-one p q _ _ _ _ pattern_trees first.1 in
      let y = annotation-one a b _ _ _ _ (no-colon v) (no-colon w) x.trees x.tokens in
      let z = initializer-one v w _ _ y.trees y.tokens in
      let last = mark-one SEMICOLON k m more other z.1 in
      let e1 : j ≡ l = first.0 in
      let e2 : p ≡ q = x.part in
      let e3 : a ≡ b = y.part in
      let e4 : v ≡ w = z.0 in
      let e5 : k ≡ m = last.0 in
      record { part = cc; trees = same; tokens = last.1 }
  statement-one (Run a j) (Run b k) f g more other e h =
      let same : f ≡ g = cc in
      let inner : expression_tree a (Leaf SEMICOLON 1 End) ≡ expression_tree b (Leaf SEMICOLON 1 End) = cc in
      let x = expression-in a b _ _ _ _ inner h in
      let last = mark-one SEMICOLON j k more other x.tokens in
      let e1 : a ≡ b = x.part in
      let e2 : j ≡ k = last.0 in
      record { part = cc; trees = same; tokens = last.1 }
  statement-one (Defer j b) (Defer k c) f g more other e h =
      let same : f ≡ g = cc in
      let inner : block_tree b End ≡ block_tree c End = cc in
      let first = mark-one DEFER_KW j k _ _ h in
      let x = block-one b c End End more other inner first.1 in
      let e1 : j ≡ k = first.0 in
      let e2 : b ≡ c = x.part in
      record { part = cc; trees = same; tokens = x.tokens }
  statement-one _ _ f g more other e h = absurd (omega (arith, ap first_node e))

  statements-one : (ss us : Statements) (f g : Forest) (more other : List Token) → is_node f ≡ false → is_node g ≡ false
      → statements_tree ss f ≡ statements_tree us g → statements_tokens ss more ≡ statements_tokens us other → Same ss us f g more other
  statements-one NoStatement NoStatement f g more other p q e h = record { part = refl; trees = e; tokens = h }
  statements-one (LastExpression a) (LastExpression b) f g more other p q e h =
      let x = expression-in a b f g more other e h in
      record { part = ap LastExpression x.part; trees = x.trees; tokens = x.tokens }
  statements-one (StatementThen s ss) (StatementThen u us) f g more other p q e h =
      let x = statement-one s u _ _ _ _ e h in
      let y = statements-one ss us f g more other p q x.trees x.tokens in
      let e1 : s ≡ u = x.part in
      let e2 : ss ≡ us = y.part in
      record { part = cc; trees = y.trees; tokens = y.tokens }
  statements-one (LastExpression a) (StatementThen s us) f g more other p q e h = absurd (no-statement a s f _ e)
  statements-one (StatementThen s us) (LastExpression a) f g more other p q e h = absurd (no-statement a s g _ (sym e))
  statements-one NoStatement (LastExpression b) f g more other p q e h = absurd (differ (is_node f) (ap is_node e) p)
  statements-one NoStatement (StatementThen s us) f g more other p q e h = absurd (differ (is_node f) (ap is_node e ∙ statement-node s _) p)
  statements-one (LastExpression b) NoStatement f g more other p q e h = absurd (differ (is_node g) (ap is_node (sym e)) q)
  statements-one (StatementThen s us) NoStatement f g more other p q e h = absurd (differ (is_node g) (ap is_node (sym e) ∙ statement-node s _) q)

  pub block-one : (b c : Block) (f g : Forest) (more other : List Token) → block_tree b f ≡ block_tree c g
      → block_tokens b more ≡ block_tokens c other → Same b c f g more other
  block-one (Braces j ss k) (Braces l us m) f g more other e h =
      let same : f ≡ g = cc in
      let inner : statements_tree ss (Leaf R_CURLY 1 End) ≡ statements_tree us (Leaf R_CURLY 1 End) = cc in
      let first = mark-one L_CURLY j l _ _ h in
      let x = statements-one ss us _ _ _ _ refl refl inner first.1 in
      let last = mark-one R_CURLY k m more other x.tokens in
      let e1 : j ≡ l = first.0 in
      let e2 : ss ≡ us = x.part in
      let e3 : k ≡ m = last.0 in
      record { part = cc; trees = same; tokens = last.1 }
