-- Annotated elements are found by the groups of their ends.
use Rattle.std.proofs.Common.{◌≡◌, List, [], ◌∷◌, ◌++◌, map, Option, None, Some, true, ◌||◌, refl, ap, sym, ◌∙◌, append_assoc}
use Rattle.std.proofs.Math.Bool.{or-true}
use Rattle.std.proofs.lemmas.List.{map-append}
use Rattle.std.specs.List.{zip}
use Rattle.syntax_tree.specs.Element.{Way, Element, element_at, same_element}
use Rattle.syntax_tree.specs.Handle.{element_of}
use Rattle.syntax_tree.specs.Mapping.{Mapping}
use Rattle.syntax_tree.specs.Same.{same_element-equiv}
use Rattle.syntax_tree.specs.Search.{elements}
use Rattle.syntax_tree.specs.declared.element.SyntaxElement.{SyntaxElement}
use Rattle.tree_rewrite.specs.Marked.{Marked}
use Rattle.annotated_elements.specs.Following.{followed}
use Rattle.annotated_elements.specs.Found.{found, found_if, picked, AreOrigins}
use Rattle.annotated_elements.specs.Annotated.{annotated, elements_of, elements_at}
use Rattle.annotated_elements.specs.Groups.{group_of, items_of, is_among, end_with, ends_of, collected, IsGroup}
use Rattle.annotated_elements.specs.declared.groups.Groups.{Groups}
use Rattle.annotated_elements.proofs.FoundLemmas.{found_beside}

-- elements, each with this annotation
abbrev all_with : {X A : Type 0} → A → List X → List (X × A)
all_with a xs = map (λ x. (x, a)) xs

elements_of-with : {A : Type 0} (a : A) (es : List SyntaxElement) → elements_of (all_with a es) ≡ all_with a (map element_of es)
elements_of-with a [] = refl
elements_of-with a (e ∷ es) = ap (λ l. (element_of e, a) ∷ l) (elements_of-with a es)

elements_at-with : {A : Type 0} (root : Element) (a : A) (ws : List Way) → elements_at root (all_with a ws) ≡ all_with a (map (element_at root.number root.place.root) ws)
elements_at-with root a [] = refl
elements_at-with root a (w ∷ ws) = ap (λ l. (element_at root.number root.place.root w, a) ∷ l) (elements_at-with root a ws)

-- ---- annotated elements and their ends
-- the ways of the elements that came from ends, by order of the ends, then of the tree
abbrev all_found : {A : Type 0} → List (Element × A) → Marked → List (Way × A)
all_found [] m = []
all_found (x ∷ xs) m = all_with x.1 (found m x.0) ++ all_found xs m

annotated-ends : {A : Type 0} (ms : Mapping) (xs : List (Element × A)) (m : Marked) → all_found (ends_of ms xs) m ≡ annotated ms xs m
annotated-ends ms [] m = refl
annotated-ends ms (x ∷ xs) m = by_end (annotated-ends ms xs m) (followed ms x.0)
  where
    by_end : all_found (ends_of ms xs) m ≡ annotated ms xs m → (o : Option Element) → all_found (end_with x.1 o ++ ends_of ms xs) m ≡ all_with x.1 (found_if m o) ++ annotated ms xs m
    by_end later None = later
    by_end later (Some e) = ap (λ l. all_with x.1 (found m e) ++ l) later

-- one that leads to an end
pub ends-more : {A : Type 0} (ms : Mapping) (x : SyntaxElement × A) (end : SyntaxElement) (new old rest all : List (SyntaxElement × A))
    → new ≡ old ++ (end, x.1) ∷ [] → Some (element_of end) ≡ followed ms (element_of x.0) → all ≡ x ∷ rest
    → elements_of new ++ ends_of ms (elements_of rest) ≡ elements_of old ++ ends_of ms (elements_of all)
ends-more ms x end new old rest all is leads first =
    let later = ends_of ms (elements_of rest) in
    ap (λ l. elements_of l ++ later) is
    ∙ ap (λ l. l ++ later) (map-append (λ y. (element_of y.0, y.1)) old ((end, x.1) ∷ []))
    ∙ append_assoc (elements_of old) ((element_of end, x.1) ∷ []) later
    ∙ ap (λ o. elements_of old ++ (end_with x.1 o ++ later)) leads
    ∙ ap (λ l. elements_of old ++ ends_of ms (elements_of l)) (sym first)

-- one that leads to none
pub ends-none : {A : Type 0} (ms : Mapping) (x : SyntaxElement × A) (old rest all : List (SyntaxElement × A))
    → None ≡ followed ms (element_of x.0) → all ≡ x ∷ rest
    → elements_of old ++ ends_of ms (elements_of rest) ≡ elements_of old ++ ends_of ms (elements_of all)
ends-none ms x old rest all leads first =
    ap (λ o. elements_of old ++ (end_with x.1 o ++ ends_of ms (elements_of rest))) leads
    ∙ ap (λ l. elements_of old ++ ends_of ms (elements_of l)) (sym first)

-- ---- the groups of the ends
abbrev HasFound : {A : Type 0} → Groups → Element → List Element → List (SyntaxElement × A) → Type 0
HasFound g root os ends = (e : Element) → is_among e (elements_of ends) ≡ true → IsGroup g e (picked (λ o. same_element o e) (zip (elements root) os))

collected-found : {A : Type 0} (g : Groups) (m : Marked) (root : Element) (os : List Element) (ends : List (SyntaxElement × A)) → AreOrigins m root os → HasFound g root os ends
    → elements_of (collected g ends) ≡ elements_at root (all_found (elements_of ends) m)
collected-found g m root os [] h has = refl
collected-found g m root os (x ∷ xs) h has =
    let e = element_of x.0 in
    let group = items_of (group_of g.groups e) in
    let ws = found m e in
    let ways = all_found (elements_of xs) m in
    let is = ap items_of (has e (ap (λ b. b || is_among e (elements_of xs)) (same_element-equiv.refl e))).group in
    let rest = collected-found g m root os xs h (λ d among. has d (ap (λ b. same_element e d || b) among ∙ or-true (same_element e d))) in
    map-append (λ y. (element_of y.0, y.1)) (all_with x.1 group) (collected g xs)
    ∙ ap (λ l. elements_of (all_with x.1 group) ++ l) rest
    ∙ ap (λ l. l ++ elements_at root ways) (elements_of-with x.1 group ∙ ap (all_with x.1) (ap (map element_of) is ∙ found_beside m root os e h) ∙ sym (elements_at-with root x.1 ws))
    ∙ sym (map-append (λ y. (element_at root.number root.place.root y.0, y.1)) (all_with x.1 ws) ways)

-- one end more
pub collected-more : {A : Type 0} (g : Groups) (x : SyntaxElement × A) (group : List SyntaxElement) (new old rest all : List (SyntaxElement × A))
    → new ≡ old ++ map (λ e. (e, x.1)) group → group ≡ items_of (group_of g.groups (element_of x.0)) → all ≡ x ∷ rest
    → new ++ collected g rest ≡ old ++ collected g all
collected-more g x group new old rest all is same first =
    ap (λ l. l ++ collected g rest) is
    ∙ append_assoc old (all_with x.1 group) (collected g rest)
    ∙ ap (λ l. old ++ (all_with x.1 l ++ collected g rest)) same
    ∙ ap (λ l. old ++ collected g l) (sym first)

-- all that is found
pub all-found : {A : Type 0} (g : Groups) (ms : Mapping) (m : Marked) (root : Element) (os : List Element) (annotations ends : List (SyntaxElement × A)) → AreOrigins m root os → HasFound g root os ends
    → elements_of ends ≡ ends_of ms (elements_of annotations)
    → elements_of (collected g ends) ≡ elements_at root (annotated ms (elements_of annotations) m)
all-found g ms m root os annotations ends h has is =
    collected-found g m root os ends h has
    ∙ ap (λ l. elements_at root (all_found l m)) is
    ∙ ap (elements_at root) (annotated-ends ms (elements_of annotations) m)

-- no annotated element has an end
pub none-found : {A : Type 0} (ms : Mapping) (m : Marked) (root : Element) (annotations ends : List (SyntaxElement × A))
    → ends ≡ [] → elements_of ends ≡ ends_of ms (elements_of annotations)
    → [] ≡ elements_at root (annotated ms (elements_of annotations) m)
none-found ms m root annotations ends none is =
    ap (λ l. elements_at root (all_found (elements_of l) m)) (sym none)
    ∙ ap (λ l. elements_at root (all_found l m)) is
    ∙ ap (elements_at root) (annotated-ends ms (elements_of annotations) m)
