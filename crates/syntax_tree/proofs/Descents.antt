-- Where a range has bytes, what has it is found by going down, each time to the first child that contains it.
use Rattle.std.proofs.Common.{◌≡◌, ℕ, zero, suc, ◌+◌, ◌<◌, ◌≤◌, nat_le, List, [], ◌∷◌, ◌++◌, length, drop, map, refl, ap, sym, ◌∙◌, subst, arith, append_assoc, append-nil, Bool, true, false, ◌&&◌, Option, Some, None, slice_get, cond, option_map}
use Rattle.std.specs.Option.{option_or}
use Rattle.std.specs.List.{filter, cons_option}
use Rattle.std.proofs.lemmas.Bool.{and_parts, leb-true, cond-false, cond-true}
use Rattle.std.proofs.lemmas.List.Folds.{find-append}
use Rattle.rowan_green.specs.Term.{Term, forest_of}
use Rattle.rowan_green.specs.declared.utility_types.NodeOrToken.TheVariants.{Node, Token}
use Rattle.rowan.specs.Place.{Place, below, term_at, terms_below, start_of, end_of}
use Rattle.rowan.specs.Around.{Cursor, place_in, cursor_in, children_from, first}
use Rattle.rowan.specs.Around as around
use Rattle.rowan.specs.Ranges.{holds, child_at_range}
use Rattle.rowan.specs.Walk.{Event, walk, walk_from, entered}
use Rattle.rowan.specs.declared.utility_types.WalkEvent.TheVariants.{Enter, Leave}
use Rattle.rowan.proofs.Leaves.{count_in}
use Rattle.rowan.proofs.Lists.{from_here, none_from}
use Rattle.rowan.proofs.Places.{next_start}
use Rattle.rowan.proofs.Ranges.{range_falls}
use Rattle.rowan.proofs.Steps.{get_past}
use Rattle.rowan.proofs.Walks.{events_by, walk_here}
use Rattle.syntax_tree.specs.Handle.{element_of, cursor_of, with_cursor}
use Rattle.syntax_tree.specs.Search.{is_of, first_in, child_holding}
use Rattle.syntax_tree.specs.declared.element.SyntaxElement.{SyntaxElement}
use Rattle.syntax_tree.specs.declared.element.SyntaxElement.TheVariants as elements
use Rattle.syntax_tree.proofs.NestedWalks.{AreIn, none_in, map-both, entered-append, out_of, forest-from, forest-in, found}

or-none : (o : Option SyntaxElement) → option_or o None ≡ o
or-none None = refl
or-none (Some x) = refl

found-append : (n kind a b : ℕ) (v w : List Event) → found n kind a b (v ++ w) ≡ option_or (found n kind a b v) (found n kind a b w)
found-append n kind a b v w =
    let test : SyntaxElement → Bool = λ x. is_of kind a b (element_of x).place in
    ap (λ (cs : List Cursor). first_in kind a b (map (with_cursor n) cs)) (entered-append v w)
    ∙ ap (first_in kind a b) (map-both n (entered v) (entered w))
    ∙ find-append test (map (with_cursor n) (entered v)) (map (with_cursor n) (entered w))

-- leaving an element enters nothing
found-leaving : (n kind a b : ℕ) (w : List Event) (c : Cursor) → found n kind a b (w ++ Leave c ∷ []) ≡ found n kind a b w
found-leaving n kind a b w c = found-append n kind a b w (Leave c ∷ []) ∙ or-none (found n kind a b w)

-- the events of a child, and then the others
events_split : (c : Cursor) (w : List Event) → events_by (Some c) w ≡ walk c ++ w
events_split c w = ap (λ (v : List Event). Enter c ∷ v) (sym (append_assoc (walk_from (place_in c) 0) (Leave c ∷ []) w))

-- what is entered from an element on lies within its range
in_range : (c : Cursor) → AreIn (start_of (place_in c)) (end_of (place_in c)) (entered (walk c))
in_range c =
    let q = place_in c in
    let inside = walk_from q 0 in
    let P : List Cursor → Type 0 = AreIn (start_of q) (end_of q) in
    let same : entered (inside ++ Leave c ∷ []) ≡ entered inside = entered-append inside (Leave c ∷ []) ∙ append-nil (entered inside) in
    (omega arith, omega arith, subst P (sym same) (forest-in q 0 (forest_of (terms_below q))))

-- nothing in an element that does not contain the range has it
none_inside : (n kind a b : ℕ) (c : Cursor) → holds a b c ≡ false → found n kind a b (walk c) ≡ None
none_inside n kind a b c h = none_in n kind a b (start_of (place_in c)) (end_of (place_in c)) (entered (walk c)) (in_range c) (out_of a b (start_of (place_in c)) (end_of (place_in c)) h)

-- nor has any from a child on that begins after its first byte
none_late : (n kind a b : ℕ) (p : Place) (i : ℕ) → a < start_of (below p i) → found n kind a b (walk_from p i) ≡ None
none_late n kind a b p i h =
    let low = start_of (below p i) in
    none_in n kind a b low (end_of p) (entered (walk_from p i)) (forest-from p i low (forest_of (drop i (terms_below p))) (omega arith)) (λ l r. omega (arith, h, l))

-- what is found at an element, if there is one, and below it
abbrev pub found_at : ℕ → ℕ → ℕ → ℕ → Option Cursor → Option SyntaxElement
found_at n kind a b None = None
found_at n kind a b (Some c) = found n kind a b (walk c)

-- a child, and then those after it
by_child : (n kind a b : ℕ) → a < b → (p : Place) (i : ℕ) (c : Cursor) (t : Bool) → holds a b c ≡ t → place_in c ≡ below p i
    → found n kind a b (walk_from p (i + 1)) ≡ found_at n kind a b (first (filter (holds a b) (children_from p (i + 1))))
    → found n kind a b (walk c ++ walk_from p (i + 1)) ≡ found_at n kind a b (first (cond t (c ∷ filter (holds a b) (children_from p (i + 1))) (filter (holds a b) (children_from p (i + 1)))))
by_child n kind a b some p i c true h at ih =
    let own = and_parts (nat_le (start_of (place_in c)) a) (nat_le b (end_of (place_in c))) h in
    let reaches : b ≤ end_of (place_in c) = leb-true b (end_of (place_in c)) own.1 in
    let end : end_of (place_in c) ≡ end_of (below p i) = ap end_of at in
    let late : a < start_of (below p (i + 1)) = omega (arith, reaches, end, next_start p i, some) in
    found-append n kind a b (walk c) (walk_from p (i + 1))
    ∙ ap (option_or (found n kind a b (walk c))) (none_late n kind a b p (i + 1) late)
    ∙ or-none (found n kind a b (walk c))
by_child n kind a b some p i c false h at ih =
    found-append n kind a b (walk c) (walk_from p (i + 1))
    ∙ ap (λ (o : Option SyntaxElement). option_or o (found n kind a b (walk_from p (i + 1)))) (none_inside n kind a b c h)
    ∙ ih

place_of_cursor : (q : Place) (e : Term) → place_in (around.cursor_of q e) ≡ q
place_of_cursor q (Node t) = refl
place_of_cursor q (Token l) = refl

-- past the last child nothing is left
past : (n kind a b : ℕ) (p : Place) (i : ℕ) → slice_get (terms_below p) i ≡ None → found n kind a b (walk_from p i) ≡ found_at n kind a b (first (filter (holds a b) (children_from p i)))
past n kind a b p i h =
    ap (found n kind a b) (walk_here p i ∙ ap (λ (o : Option Term). events_by (cursor_in (below p i) o) (walk_from p (i + 1))) h)
    ∙ sym (ap (λ (cs : List Cursor). found_at n kind a b (first (filter (holds a b) cs))) (none_from p (terms_below p) i i h))

here_case : (n kind a b : ℕ) → a < b → (p : Place) (i : ℕ) (o : Option Term) → slice_get (terms_below p) i ≡ o
    → found n kind a b (walk_from p (i + 1)) ≡ found_at n kind a b (first (filter (holds a b) (children_from p (i + 1))))
    → found n kind a b (walk_from p i) ≡ found_at n kind a b (first (filter (holds a b) (children_from p i)))
here_case n kind a b some p i None h ih = past n kind a b p i h
here_case n kind a b some p i (Some e) h ih =
    let c = around.cursor_of (below p i) e in
    ap (found n kind a b) (walk_here p i ∙ ap (λ (o : Option Term). events_by (cursor_in (below p i) o) (walk_from p (i + 1))) h ∙ events_split c (walk_from p (i + 1)))
    ∙ by_child n kind a b some p i c (holds a b c) refl (place_of_cursor (below p i) e) ih
    ∙ sym (ap (λ (cs : List Cursor). found_at n kind a b (first (filter (holds a b) cs))) (from_here p i ∙ ap (λ (o : Option Term). cons_option (cursor_in (below p i) o) (children_from p (i + 1))) h))

from_child : (n kind a b : ℕ) → a < b → (p : Place) (k i : ℕ) → length (terms_below p) ≤ i + k → found n kind a b (walk_from p i) ≡ found_at n kind a b (first (filter (holds a b) (children_from p i)))
from_child n kind a b some p zero i h = past n kind a b p i (get_past (terms_below p) i (omega (arith, h)))
from_child n kind a b some p (suc k) i h = here_case n kind a b some p i (slice_get (terms_below p) i) refl (from_child n kind a b some p k (i + 1) (omega (arith, h)))

-- what is found below a place is what is found in the first child that contains the range
pub below_is_in_child : (n kind a b : ℕ) → a < b → (p : Place) → found n kind a b (walk_from p 0) ≡ found_at n kind a b (child_at_range a b p)
below_is_in_child n kind a b some p = from_child n kind a b some p (length (terms_below p)) 0 (omega arith)

-- ---- elements

-- what is found at an element and below it
abbrev pub found_from : ℕ → ℕ → ℕ → SyntaxElement → Option SyntaxElement
found_from kind a b e = found (element_of e).number kind a b (walk (cursor_of e))

place_at : (e : SyntaxElement) → place_in (cursor_of e) ≡ (element_of e).place
place_at (elements.Node e) = refl
place_at (elements.Token e) = refl

numbered_again : (e : SyntaxElement) → with_cursor (element_of e).number (cursor_of e) ≡ e
numbered_again (elements.Node e) = refl
numbered_again (elements.Token e) = refl

cursor_again : (n : ℕ) (c : Cursor) → cursor_of (with_cursor n c) ≡ c
cursor_again n (Node p) = refl
cursor_again n (Token p) = refl

number_again : (n : ℕ) (c : Cursor) → (element_of (with_cursor n c)).number ≡ n
number_again n (Node p) = refl
number_again n (Token p) = refl

place_again : (n : ℕ) (c : Cursor) → (element_of (with_cursor n c)).place ≡ place_in c
place_again n (Node p) = refl
place_again n (Token p) = refl

-- an element that is of the kind and has the range is found
pub found_here : (kind a b : ℕ) (e : SyntaxElement) → is_of kind a b (element_of e).place ≡ true → found_from kind a b e ≡ Some e
found_here kind a b e h =
    let again = numbered_again e in
    cond-true _ _ _ (ap (λ (x : SyntaxElement). is_of kind a b (element_of x).place) again ∙ h) ∙ ap Some again

-- else what is found from its first child on that contains the range
not_here : (kind a b : ℕ) → a < b → (e : SyntaxElement) → is_of kind a b (element_of e).place ≡ false
    → found_from kind a b e ≡ found_at (element_of e).number kind a b (child_at_range a b (element_of e).place)
not_here kind a b some e h =
    let n = (element_of e).number in
    let c = cursor_of e in
    cond-false _ _ _ (ap (λ (x : SyntaxElement). is_of kind a b (element_of x).place) (numbered_again e) ∙ h)
    ∙ found-leaving n kind a b (walk_from (place_in c) 0) c
    ∙ below_is_in_child n kind a b some (place_in c)
    ∙ ap (λ (p : Place). found_at n kind a b (child_at_range a b p)) (place_at e)

-- the child that was given
pub record ChildOf (kind a b : ℕ) (e x : SyntaxElement) : Type 0 where
  pub same : found_from kind a b e ≡ found_from kind a b x
  pub number : (element_of x).number ≡ (element_of e).number
  pub below : count_in (term_at (element_of x).place) < count_in (term_at (element_of e).place)

child_case : (kind a b : ℕ) (e x : SyntaxElement) (o : Option Cursor) → found_from kind a b e ≡ found_at (element_of e).number kind a b o
    → child_at_range a b (element_of e).place ≡ o → option_map (with_cursor (element_of e).number) o ≡ Some x → ChildOf kind a b e x
child_case kind a b e x None h at is = absurd (cc)
child_case kind a b e x (Some c) h at is =
    let n = (element_of e).number in
    let child : with_cursor n c ≡ x = cc in
    let cursor : c ≡ cursor_of x = sym (cursor_again n c) ∙ ap cursor_of child in
    let number : n ≡ (element_of x).number = sym (number_again n c) ∙ ap (λ (y : SyntaxElement). (element_of y).number) child in
    let place : place_in c ≡ (element_of x).place = sym (place_again n c) ∙ ap (λ (y : SyntaxElement). (element_of y).place) child in
    let falls = range_falls (element_of e).place a b c at in
    record {
      same = h ∙ ap (λ (m : ℕ). found m kind a b (walk c)) number ∙ ap (λ (d : Cursor). found (element_of x).number kind a b (walk d)) cursor;
      number = sym number;
      below = let P : Place → Type 0 = λ q. count_in (term_at q) < count_in (term_at (element_of e).place) in subst P place falls;
    }

pub child_of : (kind a b : ℕ) → a < b → (e x : SyntaxElement) → is_of kind a b (element_of e).place ≡ false → child_holding a b e ≡ Some x → ChildOf kind a b e x
child_of kind a b some e x h is = child_case kind a b e x (child_at_range a b (element_of e).place) (not_here kind a b some e h) refl is

none_case : (n kind a b : ℕ) (o : Option Cursor) → option_map (with_cursor n) o ≡ None → found_at n kind a b o ≡ None
none_case n kind a b None is = refl
none_case n kind a b (Some c) is = absurd (cc)

-- where no child contains the range, nothing has it
pub found_nowhere : (kind a b : ℕ) → a < b → (e : SyntaxElement) → is_of kind a b (element_of e).place ≡ false → child_holding a b e ≡ None → found_from kind a b e ≡ None
found_nowhere kind a b some e h is = not_here kind a b some e h ∙ none_case (element_of e).number kind a b (child_at_range a b (element_of e).place) is
