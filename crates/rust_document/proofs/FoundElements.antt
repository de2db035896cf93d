-- An element that is found in a tree stands in it.
use Rattle.std.proofs.Common.{◌≡◌, ℕ, ◌+◌, Bool, cond, List, [], ◌∷◌, ◌++◌, map, Some, None, refl, sym, ◌∙◌, ap, inl, inr}
use Rattle.std.specs.Prelude.{find}
use Rattle.std.proofs.lemmas.Bool.{cases_Bool}
use Rattle.rowan_green.specs.Forest.{Forest, empty, node, leaf, Tree}
use Rattle.rowan_green.specs.Term.{forest_of}
use Rattle.rowan_green.specs.declared.utility_types.NodeOrToken.TheVariants as terms
use Rattle.rowan.specs.Around.{place_in}
use Rattle.rowan.specs.Place.{Place, below, terms_below}
use Rattle.rowan.specs.Walk.{Event, entered, walk, walk_forest, walk_from}
use Rattle.rowan.specs.declared.utility_types.WalkEvent.TheVariants.{Enter, Leave}
use Rattle.syntax_tree.specs.Element.{Element}
use Rattle.syntax_tree.specs.Handle.{element_of, with_cursor}
use Rattle.syntax_tree.specs.Search.{first_of, is_of}
use Rattle.syntax_tree.specs.declared.element.SyntaxElement.{SyntaxElement}

abbrev EntersOf : Tree → List Event → Type 0
EntersOf t [] = Unit {0}
EntersOf t (Enter c ∷ v) = ((place_in c).root ≡ t) × EntersOf t v
EntersOf t (Leave c ∷ v) = EntersOf t v

enters-both : (t : Tree) (v w : List Event) → EntersOf t v → EntersOf t w → EntersOf t (v ++ w)
enters-both t [] w a b = b
enters-both t (Enter c ∷ v) w a b = (a.0, enters-both t v w a.1 b)
enters-both t (Leave c ∷ v) w a b = enters-both t v w a b

enters-own : (p : Place) (i : ℕ) (f : Forest) → EntersOf p.root (walk_forest p i f)
enters-own p i empty = tt
enters-own p i (node k f r) =
    (refl, enters-both p.root (walk_forest (below p i) 0 f) (Leave (terms.Node (below p i)) ∷ walk_forest p (i + 1) r) (enters-own (below p i) 0 f) (enters-own p (i + 1) r))
enters-own p i (leaf l r) = (refl, enters-own p (i + 1) r)

found-own : (t : Tree) (n : ℕ) (test : SyntaxElement → Bool) (v : List Event) (x : SyntaxElement) → EntersOf t v → find test (map (with_cursor n) (entered v)) ≡ Some x → (element_of x).place.root ≡ t
found-own t n test [] x h e = absurd (let z : None ≡ Some x = e in cc)
found-own t n test (Enter (terms.Node p) ∷ v) x h e = elim (cases_Bool (test (with_cursor n (terms.Node p)))) [
  | inl same_test ↦
      let own : Some (with_cursor n (terms.Node p)) ≡ Some x = sym (ap (λ (b : Bool). cond b (Some (with_cursor n (terms.Node p))) (find test (map (with_cursor n) (entered v)))) same_test) ∙ e in
      let same : with_cursor n (terms.Node p) ≡ x = cc in
      ap (λ (y : SyntaxElement). (element_of y).place.root) (sym same) ∙ h.0
  | inr other ↦ found-own t n test v x h.1 (sym (ap (λ (b : Bool). cond b (Some (with_cursor n (terms.Node p))) (find test (map (with_cursor n) (entered v)))) other) ∙ e)
]
found-own t n test (Enter (terms.Token p) ∷ v) x h e = elim (cases_Bool (test (with_cursor n (terms.Token p)))) [
  | inl same_test ↦
      let own : Some (with_cursor n (terms.Token p)) ≡ Some x = sym (ap (λ (b : Bool). cond b (Some (with_cursor n (terms.Token p))) (find test (map (with_cursor n) (entered v)))) same_test) ∙ e in
      let same : with_cursor n (terms.Token p) ≡ x = cc in
      ap (λ (y : SyntaxElement). (element_of y).place.root) (sym same) ∙ h.0
  | inr other ↦ found-own t n test v x h.1 (sym (ap (λ (b : Bool). cond b (Some (with_cursor n (terms.Token p))) (find test (map (with_cursor n) (entered v)))) other) ∙ e)
]
found-own t n test (Leave c ∷ v) x h e = found-own t n test v x h e

pub first-root : (kind start end : ℕ) (top : Element) (x : SyntaxElement) → first_of kind start end top ≡ Some x → (element_of x).place.root ≡ top.place.root
first-root kind start end top x h =
    found-own top.place.root top.number (λ c. is_of kind start end (element_of c).place) (walk (terms.Node top.place)) x
    (refl, enters-both top.place.root (walk_from top.place 0) (Leave (terms.Node top.place) ∷ []) (enters-own top.place 0 (forest_of (terms_below top.place))) tt) h
