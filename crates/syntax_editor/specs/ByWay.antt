-- A map from the paths of elements to numbers. Model of the code; only proofs use it.
use Rattle.std.specs.Prelude.{◌≡◌, ℕ, true, Bool, Option}
use Rattle.std.proofs.Common.{ap}
use Rattle.std.specs.Cmp.Lexicographic.{bytes_decides}
use Rattle.std.specs.HashMap.{get_by, HashMap}
use Rattle.rowan.specs.Same.{numbers_fed}
use Rattle.syntax_tree.specs.Element.{Way, same_way}
use Rattle.syntax_tree.specs.Handle.{element_of}
use Rattle.syntax_tree.specs.declared.element.SyntaxElement.{SyntaxElement}
use Rattle.syntax_editor.specs.declared.by_way.Named.{Named}

abbrev pub way_of : SyntaxElement → Way
way_of x = (element_of x).place.up

-- whether two elements have one path
abbrev pub same_named : SyntaxElement → SyntaxElement → Bool
same_named x y = same_way (way_of x) (way_of y)

-- elements with one path hash alike
pub named_alike : (x y : SyntaxElement) → same_named x y ≡ true → numbers_fed (way_of x) ≡ numbers_fed (way_of y)
named_alike x y h = ap numbers_fed ((bytes_decides (way_of x) (way_of y)).0 h)

-- the number of the element with this path, if the map has one
abbrev pub number_at : {S : Type 0} → HashMap Named ℕ S → Way → Option ℕ
number_at m w = get_by (λ k. same_way w (way_of k.0)) m
