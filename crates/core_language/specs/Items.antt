-- Items and source files of the core language: derivations, each with its tokens, its tree and its conditions.
use Rattle.std.specs.Prelude.{Bool, List, [], ◌∷◌}
use Rattle.parser_input.specs.Kinds.{COLON, COMMA, FN, FN_KW, ITEM_LIST, L_CURLY, L_PAREN, MINUS, MODULE, MOD_KW, PARAM, PARAM_LIST, PUB_KW, RECORD_FIELD, RECORD_FIELD_LIST, RET_TYPE, R_ANGLE, R_CURLY, R_PAREN, SEMICOLON, SOURCE_FILE, STRUCT, STRUCT_KW, THIN_ARROW, VISIBILITY}
use Rattle.parser_input.specs.Input.{Token}
use Rattle.parser_events.specs.Forest.{Forest, End, Leaf, Node}
use Rattle.core_language.specs.Tokens.{of_kind, name_token, joint_tokens}
use Rattle.core_language.specs.Types.{CoreType, type_tokens, type_tree}
use Rattle.core_language.specs.Statements.{name_tree, Pattern, pattern_tokens, pattern_tree, Block, block_tokens, block_tree, IsWellFormedBlock}

-- `pub`, or nothing
pub data Visibility : Type 0 where
  Private : Visibility
  Public : (pub_word : Bool) → Visibility

-- the token of `pub`
abbrev pub visibility_tokens : Visibility → List Token → List Token
visibility_tokens Private more = more
visibility_tokens (Public pub_word) more = of_kind PUB_KW pub_word ∷ more

-- its node
abbrev pub visibility_tree : Visibility → Forest → Forest
visibility_tree Private f = f
visibility_tree (Public pub_word) f = Node VISIBILITY (Leaf PUB_KW 1 End) f

-- Elements in brackets: a comma parts two of them, and one may stand after the last.
pub data Listed (A : Type 0) : Type 0 where
  NoElement : Listed A
  LastElement : A → Listed A
  ElementComma : A → (comma : Bool) → Listed A → Listed A

-- the tokens of elements, each by this function
abbrev pub listed_tokens : {A : Type 0} → (A → List Token → List Token) → Listed A → List Token → List Token
listed_tokens tokens NoElement more = more
listed_tokens tokens (LastElement a) more = tokens a more
listed_tokens tokens (ElementComma a comma l) more = tokens a (of_kind COMMA comma ∷ listed_tokens tokens l more)

-- their trees, each by this function
abbrev pub listed_tree : {A : Type 0} → (A → Forest → Forest) → Listed A → Forest → Forest
listed_tree tree NoElement f = f
listed_tree tree (LastElement a) f = tree a f
listed_tree tree (ElementComma a comma l) f = tree a (Leaf COMMA 1 (listed_tree tree l f))

-- A field of a struct: a name, `:` and a type.
pub data Field : Type 0 where
  NamedField : Visibility → (name colon : Bool) → CoreType → Field

-- the tokens of a field
abbrev pub field_tokens : Field → List Token → List Token
field_tokens (NamedField v name colon t) more = visibility_tokens v (name_token name ∷ of_kind COLON colon ∷ type_tokens t more)

-- its node
abbrev pub field_tree : Field → Forest → Forest
field_tree (NamedField v name colon t) f = Node RECORD_FIELD (visibility_tree v (name_tree (Leaf COLON 1 (type_tree t End)))) f

-- A parameter of a function: a pattern, `:` and a type.
pub data Parameter : Type 0 where
  TypedPattern : Pattern → (colon : Bool) → CoreType → Parameter

-- the tokens of a parameter
abbrev pub parameter_tokens : Parameter → List Token → List Token
parameter_tokens (TypedPattern p colon t) more = pattern_tokens p (of_kind COLON colon ∷ type_tokens t more)

-- its node
abbrev pub parameter_tree : Parameter → Forest → Forest
parameter_tree (TypedPattern p colon t) f = Node PARAM (pattern_tree p (Leaf COLON 1 (type_tree t End))) f

-- `->` and a type, or nothing
pub data ReturnType : Type 0 where
  NoReturnType : ReturnType
  Returns : (arrow : Bool) → CoreType → ReturnType

-- the tokens of a return type
abbrev pub return_type_tokens : ReturnType → List Token → List Token
return_type_tokens NoReturnType more = more
return_type_tokens (Returns arrow t) more = joint_tokens (MINUS ∷ R_ANGLE ∷ []) arrow (type_tokens t more)

-- its node
abbrev pub return_type_tree : ReturnType → Forest → Forest
return_type_tree NoReturnType f = f
return_type_tree (Returns arrow t) f = Node RET_TYPE (Leaf THIN_ARROW 2 (type_tree t End)) f

-- Items: a struct without fields or with them, a module in another file or in place, a function; and rows of them.
mutual
  pub data Item : Type 0 where
    UnitStruct : Visibility → (struct_word name semicolon : Bool) → Item
    RecordStruct : Visibility → (struct_word name opening : Bool) → Listed Field → (closing : Bool) → Item
    OuterModule : Visibility → (mod_word name semicolon : Bool) → Item
    InnerModule : Visibility → (mod_word name opening : Bool) → Items → (closing : Bool) → Item
    Function : Visibility → (fn_word name opening : Bool) → Listed Parameter → (closing : Bool) → ReturnType → Block → Item

  pub data Items : Type 0 where
    NoItem : Items
    ItemThen : Item → Items → Items

-- the tokens of an item, and of items
abbrev mutual
  pub item_tokens : Item → List Token → List Token
  item_tokens (UnitStruct v struct_word name semicolon) more =
      visibility_tokens v (of_kind STRUCT_KW struct_word ∷ name_token name ∷ of_kind SEMICOLON semicolon ∷ more)
  item_tokens (RecordStruct v struct_word name opening fs closing) more =
      let fields = of_kind L_CURLY opening ∷ listed_tokens field_tokens fs (of_kind R_CURLY closing ∷ more) in
      visibility_tokens v (of_kind STRUCT_KW struct_word ∷ name_token name ∷ fields)
  item_tokens (OuterModule v mod_word name semicolon) more =
      visibility_tokens v (of_kind MOD_KW mod_word ∷ name_token name ∷ of_kind SEMICOLON semicolon ∷ more)
  item_tokens (InnerModule v mod_word name opening is closing) more =
      let items = of_kind L_CURLY opening ∷ items_tokens is (of_kind R_CURLY closing ∷ more) in
      visibility_tokens v (of_kind MOD_KW mod_word ∷ name_token name ∷ items)
  item_tokens (Function v fn_word name opening ps closing r b) more =
      let body = of_kind R_PAREN closing ∷ return_type_tokens r (block_tokens b more) in
      visibility_tokens v (of_kind FN_KW fn_word ∷ name_token name ∷ of_kind L_PAREN opening ∷ listed_tokens parameter_tokens ps body)

  pub items_tokens : Items → List Token → List Token
  items_tokens NoItem more = more
  items_tokens (ItemThen i is) more = item_tokens i (items_tokens is more)

-- the node of an item, and the trees of items
abbrev mutual
  pub item_tree : Item → Forest → Forest
  item_tree (UnitStruct v struct_word name semicolon) f = Node STRUCT (visibility_tree v (Leaf STRUCT_KW 1 (name_tree (Leaf SEMICOLON 1 End)))) f
  item_tree (RecordStruct v struct_word name opening fs closing) f =
      let fields = Node RECORD_FIELD_LIST (Leaf L_CURLY 1 (listed_tree field_tree fs (Leaf R_CURLY 1 End))) End in
      Node STRUCT (visibility_tree v (Leaf STRUCT_KW 1 (name_tree fields))) f
  item_tree (OuterModule v mod_word name semicolon) f = Node MODULE (visibility_tree v (Leaf MOD_KW 1 (name_tree (Leaf SEMICOLON 1 End)))) f
  item_tree (InnerModule v mod_word name opening is closing) f =
      let items = Node ITEM_LIST (Leaf L_CURLY 1 (items_tree is (Leaf R_CURLY 1 End))) End in
      Node MODULE (visibility_tree v (Leaf MOD_KW 1 (name_tree items))) f
  item_tree (Function v fn_word name opening ps closing r b) f =
      let body = return_type_tree r (block_tree b End) in
      let parameters = Node PARAM_LIST (Leaf L_PAREN 1 (listed_tree parameter_tree ps (Leaf R_PAREN 1 End))) body in
      Node FN (visibility_tree v (Leaf FN_KW 1 (name_tree parameters))) f

  pub items_tree : Items → Forest → Forest
  items_tree NoItem f = f
  items_tree (ItemThen i is) f = item_tree i (items_tree is f)

-- the node of a source file
abbrev pub file_tree : Items → Forest
file_tree is = Node SOURCE_FILE (items_tree is End) End

-- The conditions on an item: those on each of its expressions.
abbrev mutual
  pub IsWellFormedItem : Item → Type 0
  IsWellFormedItem (UnitStruct v struct_word name semicolon) = Unit {0}
  IsWellFormedItem (RecordStruct v struct_word name opening fs closing) = Unit {0}
  IsWellFormedItem (OuterModule v mod_word name semicolon) = Unit {0}
  IsWellFormedItem (InnerModule v mod_word name opening is closing) = AreWellFormedItems is
  IsWellFormedItem (Function v fn_word name opening ps closing r b) = IsWellFormedBlock b

  pub AreWellFormedItems : Items → Type 0
  AreWellFormedItems NoItem = Unit {0}
  AreWellFormedItems (ItemThen i is) = IsWellFormedItem i × AreWellFormedItems is
