-- Mappings from nodes to the corresponding nodes of other trees.
use Rattle.std.specs.Prelude.{◌≡◌, ℕ, ◌<◌, ◌≤◌, List, [], ◌∷◌, length, codes, Option, Some, None, Bool, true, false, ◌&&◌, nat_eq, nat_lt, if◌then◌else◌}
use Rattle.std.specs.List.{zip, list_all}
use Rattle.syntax_tree.specs.Element.{Way, same_way, Element, same_element}
use Rattle.syntax_tree.specs.declared.error.MappingError.{MappingError}
use Rattle.syntax_tree.specs.declared.error.MappingError.TheVariants.{NotChild, MoreInputs, Order, NoMemory}

-- inputs with their outputs, in the order in which they were recorded
abbrev pub Mapping : Type 0
Mapping = List (Element × Element)

abbrev pub or_else : {A : Type 0} → Option A → Option A → Option A
or_else None b = b
or_else (Some a) b = Some a

-- the output of the last entry with this input
abbrev pub image_of : Mapping → Element → Option Element
image_of [] e = None
image_of (m ∷ ms) e = or_else (image_of ms e) (if same_element m.0 e then Some m.1 else None)

abbrev pub is_child_way : Way → Way → Bool
is_child_way p [] = false
is_child_way p (i ∷ w) = same_way w p

-- the element is a child of the parent
abbrev pub is_child : Element → Element → Bool
is_child parent e = nat_eq e.number parent.number && is_child_way parent.place.up e.place.up

-- a builder: all outputs are children of the parent
pub record Building : Type 0 where
  pub parent : Element
  pub entries : Mapping

-- recording one entry fails: the output is not a child of the parent, or its tree number is not greater than the input's
abbrev pub RefusesNode : Element → Element → Element → MappingError → Type 0
RefusesNode parent i o NotChild = is_child parent o ≡ false
RefusesNode parent i o MoreInputs = ⊥
RefusesNode parent i o Order = (is_child parent o ≡ true) × (o.number ≤ i.number)
RefusesNode parent i o NoMemory = Unit {0}

-- one entry can be recorded
abbrev pub AcceptsNode : Element → Element → Element → Type 0
AcceptsNode parent i o = (is_child parent o ≡ true) × (i.number < o.number)

-- all outputs are children of the parent
abbrev pub are_children : Element → Mapping → Bool
are_children parent ms = list_all (λ m. is_child parent m.1) ms

-- the tree number of each output is greater than that of its input
abbrev pub are_ordered : Mapping → Bool
are_ordered ms = list_all (λ m. nat_lt m.0.number m.1.number) ms

-- recording several entries fails, with the first of these that holds: an output is not a child of the parent; there are more inputs than outputs; tree numbers are out of order
abbrev pub RefusesNodes : Element → List Element → List Element → MappingError → Type 0
RefusesNodes parent is os NotChild = are_children parent (zip is os) ≡ false
RefusesNodes parent is os MoreInputs = (are_children parent (zip is os) ≡ true) × (length os < length is)
RefusesNodes parent is os Order = (are_children parent (zip is os) ≡ true) × (length is ≤ length os) × (are_ordered (zip is os) ≡ false)
RefusesNodes parent is os NoMemory = Unit {0}

-- several entries can be recorded
pub record AcceptsNodes (parent : Element) (is os : List Element) : Type 0 where
  pub children : are_children parent (zip is os) ≡ true
  pub enough : length is ≤ length os
  pub ordered : are_ordered (zip is os) ≡ true

abbrev pub message_of : MappingError → List ℕ
message_of NotChild = codes "an output is no child of the parent"
message_of MoreInputs = codes "there are more inputs than outputs"
message_of Order = codes "an output's tree number is not the greater one"
message_of NoMemory = codes "out of memory"
