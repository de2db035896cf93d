-- Search for elements by kind and range.
use Rattle.std.specs.Prelude.{ℕ, ◌==◌, Bool, ◌&&◌, List, Option, option_map, find}
use Rattle.rowan_green.specs.declared.utility_types.NodeOrToken.TheVariants.{Node}
use Rattle.rowan.specs.Place.{Place, kind_at, start_of, end_of}
use Rattle.rowan.specs.Ranges.{child_at_range}
use Rattle.rowan.specs.Walk.{walk}
use Rattle.syntax_tree.specs.Element.{Element}
use Rattle.syntax_tree.specs.Handle.{element_of, elements_left, with_cursor}
use Rattle.syntax_tree.specs.declared.element.SyntaxElement.{SyntaxElement}

-- the element at the place has this kind and the range from `start` to just before `end`
abbrev pub is_of : ℕ → ℕ → ℕ → Place → Bool
is_of kind start end p = kind_at p == kind && (start_of p == start && end_of p == end)

-- the first child whose range contains the bytes from `start` to just before `end`, if any
abbrev pub child_holding : ℕ → ℕ → SyntaxElement → Option SyntaxElement
child_holding start end e = option_map (with_cursor (element_of e).number) (child_at_range start end (element_of e).place)

-- a node and all elements below it, in preorder
abbrev pub elements : Element → List SyntaxElement
elements e = elements_left (record { number = e.number; events = walk (Node e.place) })

-- the first of these elements with a kind and a range
abbrev pub first_in : ℕ → ℕ → ℕ → List SyntaxElement → Option SyntaxElement
first_in kind start end es = find (λ c. is_of kind start end (element_of c).place) es

-- the first element with a kind and a range, at and below a node
abbrev pub first_of : ℕ → ℕ → ℕ → Element → Option SyntaxElement
first_of kind start end e = first_in kind start end (elements e)
