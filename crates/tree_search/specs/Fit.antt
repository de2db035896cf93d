-- Elements that fit the tree of a pattern, one by one, and what its places stand for then.
use Rattle.std.specs.Prelude.{◌≡◌, ℕ, ◌-◌, ◌==◌, ◌&&◌, not, Bool, true, false, nat_le, List, [], ◌∷◌, ◌++◌, length, take, drop, Option, Some, None, if◌then◌else◌}
use Rattle.std.specs.List.{list_any}
use Rattle.rowan_green.specs.Forest.{Forest, empty, node, leaf}
use Rattle.rowan_green.specs.Leaf.{Leaf}
use Rattle.rowan_green.specs.Term.{terms}
use Rattle.parser_input.specs.Kinds.{SEMICOLON}
use Rattle.syntax_tree.specs.declared.element.SyntaxElement.{SyntaxElement}
use Rattle.tree_patterns.specs.Places.{is_sequence, place_of}
use Rattle.tree_patterns.specs.declared.place.Place.{Place}
use Rattle.tree_patterns.specs.declared.place.Place.TheVariants.{ArraySequence}
use Rattle.tree_search.specs.Elements.{bones_below, is_leaf, is_node, kind_of, may_stand}

-- what places stand for, in their order: runs of elements, each of one element where the place is no sequence
abbrev pub Bound : Type 0
Bound = List (List SyntaxElement)

-- a sequence may stand for a run: of an array, for one without a `;`
abbrev pub may_run : Place → List SyntaxElement → Bool
may_run ArraySequence es = not (list_any (λ e. kind_of e == SEMICOLON) es)
may_run place es = true

-- one element is taken, if there is one and it passes a test
abbrev pub first_is : (SyntaxElement → Bool) → List SyntaxElement → Option ℕ
first_is test [] = None
first_is test (e ∷ es) = if test e then Some 1 else None

-- all elements but the last `rest` are taken, if there are that many and the sequence may stand for them
abbrev pub run_of : Place → ℕ → List SyntaxElement → Option ℕ
run_of place rest es =
    if nat_le rest (length es) && may_run place (take (length es - rest) es) then Some (length es - rest) else None

-- how many elements a leaf of a pattern takes, of those that are left, before `rest` further elements of the pattern
abbrev pub taken_by : Option Place → Leaf → ℕ → List SyntaxElement → Option ℕ
taken_by None l rest es = first_is (is_leaf l) es
taken_by (Some place) l rest es = if is_sequence place then run_of place rest es else first_is (may_stand place) es

abbrev pub taken : Leaf → ℕ → List SyntaxElement → Option ℕ
taken l rest es = taken_by (place_of l.kind) l rest es

-- what is bound with the elements that a leaf takes: a place binds them, a token nothing
abbrev pub with_taken : Option Place → List SyntaxElement → Bound → Bound
with_taken None es bound = bound
with_taken (Some place) es bound = bound ++ es ∷ []

abbrev pub and_then : {A B : Type 0} → Option A → (A → Option B) → Option B
and_then None f = None
and_then (Some a) f = f a

-- What is bound if elements fit a forest of a pattern, added to what was bound before. A node takes one node of its kind, whose
-- bones fit its children; a leaf takes what `taken` says; and the rest fits the rest.
abbrev pub fit : Forest → List SyntaxElement → Bound → Option Bound
fit empty [] bound = Some bound
fit empty (e ∷ es) bound = None
fit (node k f r) [] bound = None
fit (node k f r) (e ∷ es) bound = and_then (if is_node k e then fit f (bones_below e) bound else None) (fit r es)
fit (leaf l r) es bound =
    and_then (taken l (length (terms r)) es) (λ n. fit r (drop n es) (with_taken (place_of l.kind) (take n es) bound))

-- what is bound if an element fits a node of this kind with these children
abbrev pub fit_element : ℕ → Forest → SyntaxElement → Bound → Option Bound
fit_element k f e bound = if is_node k e then fit f (bones_below e) bound else None

-- the outcome of a fitting: the elements fit, and this is bound; or they do not
abbrev pub IsFit : Option Bound → Bool → Bound → Type 0
IsFit o true bound = o ≡ Some bound
IsFit o false bound = o ≡ None
