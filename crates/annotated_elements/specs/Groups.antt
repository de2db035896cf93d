-- Elements by their origins: a model of the code, used by proofs only.
use Rattle.std.specs.Prelude.{◌≡◌, ℕ, List, [], ◌∷◌, ◌++◌, map, true, Bool, ◌&&◌, nat_eq, Option, None, Some, option_map, Vec}
use Rattle.std.specs.List.{list_any}
use Rattle.std.specs.HashMap.{get_by, HashMap}
use Rattle.std.specs.HashSet.{contains}
use Rattle.syntax_tree.specs.Element.{Element, same_element, same_way}
use Rattle.syntax_tree.specs.Handle.{element_of}
use Rattle.syntax_tree.specs.Mapping.{Mapping}
use Rattle.syntax_tree.specs.declared.element.SyntaxElement.{SyntaxElement}
use Rattle.annotated_elements.specs.Following.{followed}
use Rattle.annotated_elements.specs.declared.groups.Groups.{Groups}

-- whether a key names this element
abbrev pub names : {Z : Type 0} → Element → ℕ × Vec ℕ Z → Bool
names e k = nat_eq e.number k.0 && same_way e.place.up k.1.items

-- the group of an origin, if it has one
abbrev pub group_of : {Z Y S X : Type 0} → HashMap (ℕ × Vec ℕ Z) (Vec X Y) S → Element → Option (List X)
group_of m e = option_map (λ v. v.items) (get_by (names e) m)

-- an origin has this group
pub record IsGroup (g : Groups) (e : Element) (es : List SyntaxElement) : Type 0 where
  pub group : group_of g.groups e ≡ Some es
  pub tree : contains nat_eq g.trees e.number ≡ true

abbrev pub items_of : {X : Type 0} → Option (List X) → List X
items_of None = []
items_of (Some xs) = xs

-- the element is one of these
abbrev pub is_among : {A : Type 0} → Element → List (Element × A) → Bool
is_among e xs = list_any (λ x. same_element x.0 e) xs

-- the end of an annotated element, with its annotation
abbrev pub end_with : {A : Type 0} → A → Option Element → List (Element × A)
end_with a None = []
end_with a (Some e) = (e, a) ∷ []

-- the ends of annotated elements, with their annotations
abbrev pub ends_of : {A : Type 0} → Mapping → List (Element × A) → List (Element × A)
ends_of ms [] = []
ends_of ms (x ∷ xs) = end_with x.1 (followed ms x.0) ++ ends_of ms xs

-- the groups of ends, each element with the annotation of the end
abbrev pub collected : {A : Type 0} → Groups → List (SyntaxElement × A) → List (SyntaxElement × A)
collected g [] = []
collected g (x ∷ xs) = map (λ e. (e, x.1)) (items_of (group_of g.groups (element_of x.0))) ++ collected g xs
