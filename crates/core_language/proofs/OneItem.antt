-- Tokens and tree together determine the derivation of statements and of items; so an input has one derivation.
use Rattle.std.proofs.Common.{◌≡◌, ℕ, true, false, List, [], ◌∷◌, refl, ap, sym, ◌∙◌, arith, ◌==◌}
use Rattle.parser_input.specs.Input.{Token}
use Rattle.parser_input.specs.Kinds.{PUB_KW, COLON, COMMA, SEMICOLON, L_CURLY, R_CURLY, L_PAREN, R_PAREN, R_ANGLE, STRUCT_KW, MOD_KW, FN_KW, BLOCK_EXPR, RET_TYPE, PARAM_LIST, STRUCT, MODULE, FN, ITEM_LIST, RECORD_FIELD_LIST}
use Rattle.parser_events.specs.Forest.{Forest, End, Leaf, Node}
use Rattle.core_language.specs.Laws.{CoreFilesHaveOneDerivation, CoreTypesHaveOneDerivation, CoreExpressionsHaveOneDerivation}
use Rattle.core_language.specs.Items.{ElementComma, Field, Function, InnerModule, Item, ItemThen, Items, LastElement, Listed, NamedField, NoElement, NoItem, NoReturnType, OuterModule, Parameter, RecordStruct, ReturnType, Returns, TypedPattern, UnitStruct, Visibility, field_tokens, field_tree, file_tree, item_tokens, item_tree, items_tokens, items_tree, listed_tokens, listed_tree, parameter_tokens, parameter_tree, return_type_tokens, return_type_tree, visibility_tokens, visibility_tree}
use Rattle.core_language.specs.Statements.{Block, Braces, block_tokens, block_tree, name_tree, pattern_tree}
use Rattle.core_language.specs.Tokens.{name_token, of_kind}
use Rattle.core_language.specs.Types.{type_tree}
use Rattle.core_language.proofs.OneExpression.{mark-one, name-one}
use Rattle.core_language.proofs.OneStatement.{Same, block-one, differ, expression-in, first_leaf, first_node, is_node, pattern-one, type-in, visibility-one}
use Rattle.core_language.proofs.Read.{expressions-one, files-one, types-one}
use Rattle.core_language.proofs.Told.{head-one}

-- what is asked of the elements of a list
record Element {A : Type 0} (tree : A → Forest → Forest) (put : A → List Token → List Token) : Type 0 where
  pub one : (a b : A) (f g : Forest) (more other : List Token) → tree a f ≡ tree b g → put a more ≡ put b other → Same a b f g more other
  pub node : (a : A) (f : Forest) → is_node (tree a f) ≡ true

listed-one : {A : Type 0} (tree : A → Forest → Forest) (put : A → List Token → List Token) → Element tree put
    → (l m : Listed A) (f g : Forest) (more other : List Token)
    → is_node f ≡ false → is_node g ≡ false → (first_leaf f == COMMA) ≡ false → (first_leaf g == COMMA) ≡ false
    → listed_tree tree l f ≡ listed_tree tree m g → listed_tokens put l more ≡ listed_tokens put m other → Same l m f g more other
listed-one tree put x NoElement NoElement f g more other p q c d e h = record { part = refl; trees = e; tokens = h }
listed-one tree put x (LastElement a) (LastElement b) f g more other p q c d e h =
    let y = x.one a b f g more other e h in
    record { part = ap LastElement y.part; trees = y.trees; tokens = y.tokens }
listed-one tree put x (ElementComma a j l) (ElementComma b k m) f g more other p q c d e h =
    let y = x.one a b _ _ _ _ e h in
    let comma = mark-one COMMA j k _ _ y.tokens in
    let inner : listed_tree tree l f ≡ listed_tree tree m g = let t = y.trees in cc in
    let z = listed-one tree put x l m f g more other p q c d inner comma.1 in
    let e1 : a ≡ b = y.part in
    let e2 : j ≡ k = comma.0 in
    let e3 : l ≡ m = z.part in
    record { part = cc; trees = z.trees; tokens = z.tokens }
listed-one tree put x (LastElement a) (ElementComma b k m) f g more other p q c d e h =
    let y = x.one a b _ _ _ _ e h in
    absurd (differ (first_leaf f == COMMA) (ap (λ (t : Forest). first_leaf t == COMMA) y.trees) c)
listed-one tree put x (ElementComma a j l) (LastElement b) f g more other p q c d e h =
    let y = x.one a b _ _ _ _ e h in
    absurd (differ (first_leaf g == COMMA) (ap (λ (t : Forest). first_leaf t == COMMA) (sym y.trees)) d)
listed-one tree put x NoElement (LastElement b) f g more other p q c d e h = absurd (differ (is_node f) (ap is_node e ∙ x.node b _) p)
listed-one tree put x NoElement (ElementComma b k m) f g more other p q c d e h = absurd (differ (is_node f) (ap is_node e ∙ x.node b _) p)
listed-one tree put x (LastElement a) NoElement f g more other p q c d e h = absurd (differ (is_node g) (ap is_node (sym e) ∙ x.node a _) q)
listed-one tree put x (ElementComma a j l) NoElement f g more other p q c d e h = absurd (differ (is_node g) (ap is_node (sym e) ∙ x.node a _) q)

field-one : (a b : Field) (f g : Forest) (more other : List Token) → field_tree a f ≡ field_tree b g
    → field_tokens a more ≡ field_tokens b other → Same a b f g more other
field-one (NamedField v j k t) (NamedField w l m u) f g more other e h =
    let same : f ≡ g = cc in
    let inner : visibility_tree v (name_tree (Leaf COLON 1 (type_tree t End))) ≡ visibility_tree w (name_tree (Leaf COLON 1 (type_tree u End))) = cc in
    let x = visibility-one v w _ _ (name_token j) (name_token l) _ _ refl refl inner h in
    let name = name-one j l _ _ x.tokens in
    let colon = mark-one COLON k m _ _ name.1 in
    let types : type_tree t End ≡ type_tree u End = let y = x.trees in cc in
    let z = type-in t u _ _ more other types colon.1 in
    let e1 : v ≡ w = x.part in
    let e2 : j ≡ l = name.0 in
    let e3 : k ≡ m = colon.0 in
    let e4 : t ≡ u = z.part in
    record { part = cc; trees = same; tokens = z.tokens }

field-node : (a : Field) (f : Forest) → is_node (field_tree a f) ≡ true
field-node (NamedField v j k t) f = refl

parameter-one : (a b : Parameter) (f g : Forest) (more other : List Token) → parameter_tree a f ≡ parameter_tree b g
    → parameter_tokens a more ≡ parameter_tokens b other → Same a b f g more other
parameter-one (TypedPattern p k t) (TypedPattern q m u) f g more other e h =
    let same : f ≡ g = cc in
    let inner : pattern_tree p (Leaf COLON 1 (type_tree t End)) ≡ pattern_tree q (Leaf COLON 1 (type_tree u End)) = cc in
    let x = pattern-one p q _ _ _ _ inner h in
    let colon = mark-one COLON k m _ _ x.tokens in
    let types : type_tree t End ≡ type_tree u End = let y = x.trees in cc in
    let z = type-in t u _ _ more other types colon.1 in
    let e1 : p ≡ q = x.part in
    let e2 : k ≡ m = colon.0 in
    let e3 : t ≡ u = z.part in
    record { part = cc; trees = same; tokens = z.tokens }

parameter-node : (a : Parameter) (f : Forest) → is_node (parameter_tree a f) ≡ true
parameter-node (TypedPattern p k t) f = refl

return_type-one : (r s : ReturnType) (b c : Block) (more other : List Token)
    → return_type_tree r (block_tree b End) ≡ return_type_tree s (block_tree c End)
    → return_type_tokens r more ≡ return_type_tokens s other → Same r s (block_tree b End) (block_tree c End) more other
return_type-one NoReturnType NoReturnType b c more other e h = record { part = refl; trees = e; tokens = h }
return_type-one (Returns j t) (Returns k u) b c more other e h =
    let first = head-one _ _ _ _ h in
    let arrow = mark-one R_ANGLE j k _ _ first.1 in
    let blocks : block_tree b End ≡ block_tree c End = cc in
    let types : type_tree t End ≡ type_tree u End = cc in
    let x = type-in t u _ _ more other types arrow.1 in
    let e1 : j ≡ k = arrow.0 in
    let e2 : t ≡ u = x.part in
    record { part = cc; trees = blocks; tokens = x.tokens }
return_type-one NoReturnType (Returns k u) (Braces x ss y) c more other e h = let n : BLOCK_EXPR ≡ RET_TYPE = ap first_node e in absurd (omega (arith, n))
return_type-one (Returns j t) NoReturnType b (Braces x ss y) more other e h = let n : RET_TYPE ≡ BLOCK_EXPR = ap first_node e in absurd (omega (arith, n))

fields : Element field_tree field_tokens
fields = record { one = field-one; node = field-node }

parameters : Element parameter_tree parameter_tokens
parameters = record { one = parameter-one; node = parameter-node }

-- what an item's node holds after its visibility
abbrev item_inside : Item → Forest
item_inside (UnitStruct v j n k) = Leaf STRUCT_KW 1 (name_tree (Leaf SEMICOLON 1 End))
item_inside (RecordStruct v j n l fs k) =
    Leaf STRUCT_KW 1 (name_tree (Node RECORD_FIELD_LIST (Leaf L_CURLY 1 (listed_tree field_tree fs (Leaf R_CURLY 1 End))) End))
item_inside (OuterModule v j n k) = Leaf MOD_KW 1 (name_tree (Leaf SEMICOLON 1 End))
item_inside (InnerModule v j n l is k) = Leaf MOD_KW 1 (name_tree (Node ITEM_LIST (Leaf L_CURLY 1 (items_tree is (Leaf R_CURLY 1 End))) End))
item_inside (Function v j n l ps k r b) =
    Leaf FN_KW 1 (name_tree (Node PARAM_LIST (Leaf L_PAREN 1 (listed_tree parameter_tree ps (Leaf R_PAREN 1 End))) (return_type_tree r (block_tree b End))))

-- its visibility
abbrev visibility_of : Item → Visibility
visibility_of (UnitStruct v j n k) = v
visibility_of (RecordStruct v j n l fs k) = v
visibility_of (OuterModule v j n k) = v
visibility_of (InnerModule v j n l is k) = v
visibility_of (Function v j n l ps k r b) = v

-- the token of its keyword
abbrev word_of : Item → Token
word_of (UnitStruct v j n k) = of_kind STRUCT_KW j
word_of (RecordStruct v j n l fs k) = of_kind STRUCT_KW j
word_of (OuterModule v j n k) = of_kind MOD_KW j
word_of (InnerModule v j n l is k) = of_kind MOD_KW j
word_of (Function v j n l ps k r b) = of_kind FN_KW j

-- the tokens after that
abbrev after_word : Item → List Token → List Token
after_word (UnitStruct v j n k) more = name_token n ∷ of_kind SEMICOLON k ∷ more
after_word (RecordStruct v j n l fs k) more = name_token n ∷ of_kind L_CURLY l ∷ listed_tokens field_tokens fs (of_kind R_CURLY k ∷ more)
after_word (OuterModule v j n k) more = name_token n ∷ of_kind SEMICOLON k ∷ more
after_word (InnerModule v j n l is k) more = name_token n ∷ of_kind L_CURLY l ∷ items_tokens is (of_kind R_CURLY k ∷ more)
after_word (Function v j n l ps k r b) more =
    name_token n ∷ of_kind L_PAREN l ∷ listed_tokens parameter_tokens ps (of_kind R_PAREN k ∷ return_type_tokens r (block_tokens b more))

no-pub : (i : Item) → ((word_of i).kind == PUB_KW) ≡ false
no-pub (UnitStruct v j n k) = refl
no-pub (RecordStruct v j n l fs k) = refl
no-pub (OuterModule v j n k) = refl
no-pub (InnerModule v j n l is k) = refl
no-pub (Function v j n l ps k r b) = refl

item-tree-of : (i : Item) (f : Forest) → (k : ℕ) × (item_tree i f ≡ Node k (visibility_tree (visibility_of i) (item_inside i)) f)
item-tree-of (UnitStruct v j n k) f = (STRUCT, refl)
item-tree-of (RecordStruct v j n l fs k) f = (STRUCT, refl)
item-tree-of (OuterModule v j n k) f = (MODULE, refl)
item-tree-of (InnerModule v j n l is k) f = (MODULE, refl)
item-tree-of (Function v j n l ps k r b) f = (FN, refl)

item-tokens-of : (i : Item) (more : List Token) → item_tokens i more ≡ visibility_tokens (visibility_of i) (word_of i ∷ after_word i more)
item-tokens-of (UnitStruct v j n k) more = refl
item-tokens-of (RecordStruct v j n l fs k) more = refl
item-tokens-of (OuterModule v j n k) more = refl
item-tokens-of (InnerModule v j n l is k) more = refl
item-tokens-of (Function v j n l ps k r b) more = refl

-- two items of one tree and the same tokens have the same visibility, and the same trees and tokens after it
item-head-one : (i j : Item) (f g : Forest) (more other : List Token) → item_tree i f ≡ item_tree j g
    → item_tokens i more ≡ item_tokens j other
    → Same (visibility_of i) (visibility_of j) (item_inside i) (item_inside j) (word_of i ∷ after_word i more) (word_of j ∷ after_word j other) × (f ≡ g)
item-head-one i j f g more other e h =
    let x = item-tree-of i f in
    let y = item-tree-of j g in
    let nodes : Node x.0 (visibility_tree (visibility_of i) (item_inside i)) f ≡ Node y.0 (visibility_tree (visibility_of j) (item_inside j)) g = sym x.1 ∙ e ∙ y.1 in
    let inner : visibility_tree (visibility_of i) (item_inside i) ≡ visibility_tree (visibility_of j) (item_inside j) = cc in
    let same : f ≡ g = cc in
    let tokens = sym (item-tokens-of i more) ∙ h ∙ item-tokens-of j other in
    (visibility-one (visibility_of i) (visibility_of j) _ _ (word_of i) (word_of j) _ _ (no-pub i) (no-pub j) inner tokens, same)

item-node : (i : Item) (f : Forest) → is_node (item_tree i f) ≡ true
item-node (UnitStruct v j n k) f = refl
item-node (RecordStruct v j n l fs k) f = refl
item-node (OuterModule v j n k) f = refl
item-node (InnerModule v j n l is k) f = refl
item-node (Function v j n l ps k r b) f = refl

mutual
  item-one : (i j : Item) (f g : Forest) (more other : List Token) → item_tree i f ≡ item_tree j g
      → item_tokens i more ≡ item_tokens j other → Same i j f g more other
  item-one (UnitStruct v a n b) (UnitStruct w c m d) f g more other e h =
      let x = item-head-one (UnitStruct v a n b) (UnitStruct w c m d) f g more other e h in
      let word = mark-one STRUCT_KW a c _ _ x.0.tokens in
      let name = name-one n m _ _ word.1 in
      let last = mark-one SEMICOLON b d more other name.1 in
      let e1 : v ≡ w = x.0.part in
      let e2 : a ≡ c = word.0 in
      let e3 : n ≡ m = name.0 in
      let e4 : b ≡ d = last.0 in
      record { part = cc; trees = x.1; tokens = last.1 }
  item-one (RecordStruct v a n l fs b) (RecordStruct w c m k gs d) f g more other e h =
      let x = item-head-one (RecordStruct v a n l fs b) (RecordStruct w c m k gs d) f g more other e h in
      let word = mark-one STRUCT_KW a c _ _ x.0.tokens in
      let name = name-one n m _ _ word.1 in
      let first = mark-one L_CURLY l k _ _ name.1 in
      let inner : listed_tree field_tree fs (Leaf R_CURLY 1 End)
      ≡ listed_tree field_tree gs (Leaf R_CURLY 1 End) = let t = x.0.trees in cc in
      let y = listed-one field_tree field_tokens fields fs gs _ _ _ _ refl refl refl refl inner first.1 in
      let last = mark-one R_CURLY b d more other y.tokens in
      let e1 : v ≡ w = x.0.part in
      let e2 : a ≡ c = word.0 in
      let e3 : n ≡ m = name.0 in
      let e4 : l ≡ k = first.0 in
      let e5 : fs ≡ gs = y.part in
      let e6 : b ≡ d = last.0 in
      record { part = cc; trees = x.1; tokens = last.1 }
  item-one (OuterModule v a n b) (OuterModule w c m d) f g more other e h =
      let x = item-head-one (OuterModule v a n b) (OuterModule w c m d) f g more other e h in
      let word = mark-one MOD_KW a c _ _ x.0.tokens in
      let name = name-one n m _ _ word.1 in
      let last = mark-one SEMICOLON b d more other name.1 in
      let e1 : v ≡ w = x.0.part in
      let e2 : a ≡ c = word.0 in
      let e3 : n ≡ m = name.0 in
      let e4 : b ≡ d = last.0 in
      record { part = cc; trees = x.1; tokens = last.1 }
  item-one (InnerModule v a n l is b) (InnerModule w c m k js d) f g more other e h =
      let x = item-head-one (InnerModule v a n l is b) (InnerModule w c m k js d) f g more other e h in
      let word = mark-one MOD_KW a c _ _ x.0.tokens in
      let name = name-one n m _ _ word.1 in
      let first = mark-one L_CURLY l k _ _ name.1 in
      let inner : items_tree is (Leaf R_CURLY 1 End) ≡ items_tree js (Leaf R_CURLY 1 End) = let t = x.0.trees in cc in
      let y = items-one is js _ _ _ _ refl refl inner first.1 in
      let last = mark-one R_CURLY b d more other y.tokens in
      let e1 : v ≡ w = x.0.part in
      let e2 : a ≡ c = word.0 in
      let e3 : n ≡ m = name.0 in
      let e4 : l ≡ k = first.0 in
      let e5 : is ≡ js = y.part in
      let e6 : b ≡ d = last.0 in
      record { part = cc; trees = x.1; tokens = last.1 }
  item-one (Function v a n l ps b r x) (Function w c m k qs d s y) f g more other e h =
      let u = item-head-one (Function v a n l ps b r x) (Function w c m k qs d s y) f g more other e h in
      let word = mark-one FN_KW a c _ _ u.0.tokens in
      let name = name-one n m _ _ word.1 in
      let first = mark-one L_PAREN l k _ _ name.1 in
      let inner : listed_tree parameter_tree ps (Leaf R_PAREN 1 End)
      ≡ listed_tree parameter_tree qs (Leaf R_PAREN 1 End) = let t = u.0.trees in cc in
      let types : return_type_tree r (block_tree x End) ≡ return_type_tree s (block_tree y End) = let t = u.0.trees in cc in
      let z = listed-one parameter_tree parameter_tokens parameters ps qs _ _ _ _ refl refl refl refl inner first.1 in
      let last = mark-one R_PAREN b d _ _ z.tokens in
      let result = return_type-one r s x y _ _ types last.1 in
      let body = block-one x y _ _ more other result.trees result.tokens in
      let e1 : v ≡ w = u.0.part in
      let e2 : a ≡ c = word.0 in
      let e3 : n ≡ m = name.0 in
      let e4 : l ≡ k = first.0 in
      let e5 : ps ≡ qs = z.part in
      let e6 : b ≡ d = last.0 in
      let e7 : r ≡ s = result.part in
      let e8 : x ≡ y = body.part in
      record { part = cc; trees = u.1; tokens = body.tokens }
  item-one (UnitStruct v a n b) (RecordStruct w c m k gs d) f g more other e h =
      let t = (item-head-one (UnitStruct v a n b) (RecordStruct w c m k gs d) f g more other e h).0.trees in absurd cc
  item-one (UnitStruct v a n b) (OuterModule w c m d) f g more other e h = let kinds : STRUCT
      ≡ MODULE = ap first_node e in absurd (omega (arith, kinds))
  item-one (UnitStruct v a n b) (InnerModule w c m k js d) f g more other e h = let kinds : STRUCT
      ≡ MODULE = ap first_node e in absurd (omega (arith, kinds))
  item-one (UnitStruct v a n b) (Function w c m k qs d s y) f g more other e h = let kinds : STRUCT
      ≡ FN = ap first_node e in absurd (omega (arith, kinds))
  item-one (RecordStruct v a n l fs b) (UnitStruct w c m d) f g more other e h =
      let t = (item-head-one (RecordStruct v a n l fs b) (UnitStruct w c m d) f g more other e h).0.trees in absurd cc
  item-one (RecordStruct v a n l fs b) (OuterModule w c m d) f g more other e h = let kinds : STRUCT
      ≡ MODULE = ap first_node e in absurd (omega (arith, kinds))
  item-one (RecordStruct v a n l fs b) (InnerModule w c m k js d) f g more other e h = let kinds : STRUCT
      ≡ MODULE = ap first_node e in absurd (omega (arith, kinds))
  item-one (RecordStruct v a n l fs b) (Function w c m k qs d s y) f g more other e h = let kinds : STRUCT
      ≡ FN = ap first_node e in absurd (omega (arith, kinds))
  item-one (OuterModule v a n b) (UnitStruct w c m d) f g more other e h = let kinds : MODULE
      ≡ STRUCT = ap first_node e in absurd (omega (arith, kinds))
  item-one (OuterModule v a n b) (RecordStruct w c m k gs d) f g more other e h = let kinds : MODULE
      ≡ STRUCT = ap first_node e in absurd (omega (arith, kinds))
  item-one (OuterModule v a n b) (InnerModule w c m k js d) f g more other e h =
      let t = (item-head-one (OuterModule v a n b) (InnerModule w c m k js d) f g more other e h).0.trees in absurd cc
  item-one (OuterModule v a n b) (Function w c m k qs d s y) f g more other e h = let kinds : MODULE
      ≡ FN = ap first_node e in absurd (omega (arith, kinds))
  item-one (InnerModule v a n l is b) (UnitStruct w c m d) f g more other e h = let kinds : MODULE
      ≡ STRUCT = ap first_node e in absurd (omega (arith, kinds))
  item-one (InnerModule v a n l is b) (RecordStruct w c m k gs d) f g more other e h = let kinds : MODULE
      ≡ STRUCT = ap first_node e in absurd (omega (arith, kinds))
  item-one (InnerModule v a n l is b) (OuterModule w c m d) f g more other e h =
      let t = (item-head-one (InnerModule v a n l is b) (OuterModule w c m d) f g more other e h).0.trees in absurd cc
  item-one (InnerModule v a n l is b) (Function w c m k qs d s y) f g more other e h = let kinds : MODULE
      ≡ FN = ap first_node e in absurd (omega (arith, kinds))
  item-one (Function v a n l ps b r x) (UnitStruct w c m d) f g more other e h = let kinds : FN
      ≡ STRUCT = ap first_node e in absurd (omega (arith, kinds))
  item-one (Function v a n l ps b r x) (RecordStruct w c m k gs d) f g more other e h = let kinds : FN
      ≡ STRUCT = ap first_node e in absurd (omega (arith, kinds))
  item-one (Function v a n l ps b r x) (OuterModule w c m d) f g more other e h = let kinds : FN
      ≡ MODULE = ap first_node e in absurd (omega (arith, kinds))
  item-one (Function v a n l ps b r x) (InnerModule w c m k js d) f g more other e h = let kinds : FN
      ≡ MODULE = ap first_node e in absurd (omega (arith, kinds))

  items-one : (is js : Items) (f g : Forest) (more other : List Token) → is_node f ≡ false → is_node g ≡ false
      → items_tree is f ≡ items_tree js g → items_tokens is more ≡ items_tokens js other → Same is js f g more other
  items-one NoItem NoItem f g more other p q e h = record { part = refl; trees = e; tokens = h }
  items-one (ItemThen i is) (ItemThen j js) f g more other p q e h =
      let x = item-one i j _ _ _ _ e h in
      let y = items-one is js f g more other p q x.trees x.tokens in
      let e1 : i ≡ j = x.part in
      let e2 : is ≡ js = y.part in
      record { part = cc; trees = y.trees; tokens = y.tokens }
  items-one NoItem (ItemThen j js) f g more other p q e h = absurd (differ (is_node f) (ap is_node e ∙ item-node j _) p)
  items-one (ItemThen i is) NoItem f g more other p q e h = absurd (differ (is_node g) (ap is_node (sym e) ∙ item-node i _) q)

-- An input has one derivation: its tree is the one that is read, and tokens and tree determine the derivation.
pub one-file : CoreFilesHaveOneDerivation
one-file tokens tree other c d =
    let same = files-one tokens tree other c d in
    let trees : file_tree c.items ≡ file_tree d.items = c.has_tree ∙ same ∙ sym d.has_tree in
    let inner : items_tree c.items End ≡ items_tree d.items End = cc in
    (items-one c.items d.items End End [] [] refl refl inner (c.has_tokens ∙ sym d.has_tokens)).part

pub one-type : CoreTypesHaveOneDerivation
one-type tokens tree other c d =
    (type-in c.type d.type End End [] [] (c.has_tree ∙ types-one tokens tree other c d ∙ sym d.has_tree) (c.has_tokens ∙ sym d.has_tokens)).part

pub one-expression : CoreExpressionsHaveOneDerivation
one-expression tokens tree other c d =
    (expression-in c.expression d.expression End End [] [] (c.has_tree ∙ expressions-one tokens tree other c d ∙ sym d.has_tree) (c.has_tokens ∙ sym d.has_tokens)).part
