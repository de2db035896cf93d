-- Where a mapping leads: from an element of a replaced tree on to its image.
use Rattle.std.specs.Prelude.{ℕ, zero, suc, ◌+◌, [], ◌∷◌, length, Option, Some, None, option_map, option_and_then}
use Rattle.rowan_green.specs.Forest.{Tree}
use Rattle.rowan.specs.Place.{below}
use Rattle.syntax_tree.specs.Element.{Way, Element, element_at}
use Rattle.syntax_tree.specs.Handle.{with_place, standing_at}
use Rattle.syntax_tree.specs.Mapping.{Mapping, image_of, or_else}

-- the child of this number, whether the element has such a child or not
abbrev pub child_of : ℕ → Element → Element
child_of i e = with_place e (below e.place i)

-- where the nearest mapped element at or above one leads it: to its own image, else to the child of its number of where its parent leads; none where none is mapped
abbrev pub lead_at : Mapping → ℕ → Tree → Way → Option Element
lead_at ms n t [] = image_of ms (element_at n t [])
lead_at ms n t (i ∷ up) = or_else (image_of ms (element_at n t (i ∷ up))) (option_map (child_of i) (lead_at ms n t up))

abbrev pub lead_of : Mapping → Element → Option Element
lead_of ms e = lead_at ms e.number e.place.root e.place.up

-- the element, if its tree has one there
abbrev pub standing : Element → Option Element
standing e = standing_at e e.place.up

-- an element that leads nowhere is its own end; else its end is that of where it leads, none if there is no element there
abbrev pub end_after : (Element → Option Element) → Element → Option Element → Option Element
end_after on e None = Some e
end_after on e (Some x) = option_and_then on (standing x)

-- the end of an element, if less than `n` steps lead to it
abbrev pub followed_within : ℕ → Mapping → Element → Option Element
followed_within zero ms e = None
followed_within (suc n) ms e = end_after (followed_within n ms) e (lead_of ms e)

-- the end of an element: each step leads to a tree of a greater number, so that there are no more steps than entries
abbrev pub followed : Mapping → Element → Option Element
followed ms e = followed_within (length ms + 1) ms e
