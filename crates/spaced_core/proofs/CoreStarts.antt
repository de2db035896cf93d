-- A core file begins with a keyword of an item.
use Rattle.std.proofs.Common.{◌≡◌, ℕ, Bool, true, ◌||◌, ◌==◌, List, [], ◌∷◌, ◌++◌, map, refl, sym, ◌∙◌, ap, inl, inr}
use Rattle.std.proofs.lemmas.Bool.{cases_Bool}
use Rattle.std.proofs.lemmas.List.{map-append}
use Rattle.rowan_green.specs.Forest.{Forest, empty, node, leaf}
use Rattle.rowan_green.specs.Leaf.{Leaf}
use Rattle.parser_input.specs.Kind.{is_trivia}
use Rattle.parser_input.specs.Kinds.{FN_KW, MOD_KW, PUB_KW, STRUCT_KW}
use Rattle.parser_events.specs.Forest as parser
use Rattle.core_language.specs.Items.{Function, InnerModule, Item, ItemThen, Items, NoItem, OuterModule, Private, Public, RecordStruct, UnitStruct, file_tree, item_tree, items_tree}
use Rattle.spaced_core.specs.WellSpaced.{leaves_of, shape}
use Rattle.spaced_core.specs.SpacedText.{solid}

-- the kinds of the leaves of trees
unfoldable pub kinds_in : parser.Forest → List ℕ
kinds_in parser.End = []
kinds_in (parser.Leaf k n f) = k ∷ kinds_in f
kinds_in (parser.Said m f) = kinds_in f
kinds_in (parser.ErrorLeaf m k f) = k ∷ kinds_in f
kinds_in (parser.Node k c f) = kinds_in c ++ kinds_in f
kinds_in (parser.Float e c f) = kinds_in c ++ kinds_in f

abbrev pub kinds_of : List Leaf → List ℕ
kinds_of ls = map (λ l. l.kind) ls

pub solid-append : (xs ys : List Leaf) → solid (xs ++ ys) ≡ solid xs ++ solid ys
solid-append [] ys = refl
solid-append (x ∷ xs) ys = elim (cases_Bool (is_trivia x.kind)) [
  | inl h ↦ rw h (solid-append xs ys)
  | inr h ↦ rw h (ap (λ (ls : List Leaf). x ∷ ls) (solid-append xs ys))
]

-- the kinds of a shape are those of the solid leaves
pub shape-kinds : (f : Forest) → kinds_in (shape f) ≡ kinds_of (solid (leaves_of f))
unfolding kinds_in shape
shape-kinds empty = refl
shape-kinds (node k f r) =
    ap (λ (ks : List ℕ). ks ++ kinds_in (shape r)) (shape-kinds f)
    ∙ ap (λ (ks : List ℕ). kinds_of (solid (leaves_of f)) ++ ks) (shape-kinds r)
    ∙ sym (map-append (λ (l : Leaf). l.kind) (solid (leaves_of f)) (solid (leaves_of r)))
    ∙ ap kinds_of (sym (solid-append (leaves_of f) (leaves_of r)))
shape-kinds (leaf l r) = elim (cases_Bool (is_trivia l.kind)) [
  | inl h ↦ rw h (shape-kinds r)
  | inr h ↦ rw h (ap (λ (ks : List ℕ). l.kind ∷ ks) (shape-kinds r))
]

-- the keywords that an item begins with
abbrev pub is_item_word : ℕ → Bool
is_item_word k = (k == PUB_KW) || (k == STRUCT_KW) || (k == MOD_KW) || (k == FN_KW)

-- nothing, or such a keyword
abbrev pub begins_item : List ℕ → Bool
begins_item [] = true
begins_item (k ∷ ks) = is_item_word k

item-begins : (i : Item) (f g : parser.Forest) → begins_item (kinds_in (item_tree i f) ++ kinds_in g) ≡ true
unfolding kinds_in
item-begins (UnitStruct Private s n e) f g = refl
item-begins (UnitStruct (Public p) s n e) f g = refl
item-begins (RecordStruct Private s n o fs c) f g = refl
item-begins (RecordStruct (Public p) s n o fs c) f g = refl
item-begins (OuterModule Private s n e) f g = refl
item-begins (OuterModule (Public p) s n e) f g = refl
item-begins (InnerModule Private s n o is c) f g = refl
item-begins (InnerModule (Public p) s n o is c) f g = refl
item-begins (Function Private s n o ps c r b) f g = refl
item-begins (Function (Public p) s n o ps c r b) f g = refl

pub file-begins : (is : Items) → begins_item (kinds_in (file_tree is)) ≡ true
unfolding kinds_in
file-begins NoItem = refl
file-begins (ItemThen i is) = item-begins i (items_tree is parser.End) parser.End
