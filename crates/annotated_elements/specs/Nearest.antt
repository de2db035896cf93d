-- Where the nearest mapped element leads: a model of the code, used by proofs only.
use Rattle.std.specs.Prelude.{◌++◌, Option, option_map}
use denote.Bor.{Bor}
use Rattle.syntax_tree.specs.Element.{Way, Element, element_at}

-- the element at an up-path below an element
abbrev pub further_down : Way → Element → Element
further_down v e = element_at e.number e.place.root (v ++ e.place.up)

-- the element at that up-path below the image
abbrev pub lead_by : Option (Bor Element × Bor Way) → Option Element
lead_by r = option_map (λ x. further_down x.1.now x.0.now) r
