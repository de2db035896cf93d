-- Steps of a fitting: an element of a pattern takes elements, or it fits none.
use Rattle.std.proofs.Common.{◌≡◌, ℕ, ◌<◌, ◌≤◌, Bool, true, false, List, [], ◌∷◌, ◌++◌, length, get_or, take, drop, Option, Some, None, refl, ap, sym, ◌∙◌, arith, if◌then◌else◌}
use Rattle.rowan_green.specs.Forest.{Forest, empty, node, leaf, Tree, forest_count}
use Rattle.rowan_green.specs.Leaf.{Leaf}
use Rattle.rowan_green.specs.Term.{Term, terms, forest_of, children_of, terms-forest_of, forest_of-terms}
use Rattle.rowan_green.specs.declared.utility_types.NodeOrToken.TheVariants.{Node, Token}
use Rattle.syntax_tree.specs.declared.element.SyntaxElement.{SyntaxElement}
use Rattle.tree_patterns.specs.Places.{place_of}
use Rattle.tree_search.specs.Elements.{bones_below, is_node}
use Rattle.tree_search.specs.Fit.{Bound, and_then, fit, fit_element, taken, with_taken}
use Rattle.tree_search.proofs.Heads.{with_head}

-- all children of a pattern's node are left
pub fit_begin : (t : Tree) (left : List Term) (es : List SyntaxElement) (bound : Bound) → left ≡ children_of t
    → fit t.forest es bound ≡ fit (forest_of left) es bound
fit_begin t left es bound is = ap (λ f. fit f es bound) (sym (ap forest_of is ∙ forest_of-terms t.forest))

pub count_begin : (t : Tree) (left : List Term) → left ≡ children_of t → forest_count (forest_of left) ≤ forest_count t.forest
count_begin t left is = omega (arith, ap forest_count (ap forest_of is ∙ forest_of-terms t.forest))

-- a node takes an element
pub node_fits : (t : Tree) (old left : List Term) (es : List SyntaxElement) (e : SyntaxElement) (bound after : Bound)
    → old ≡ Node t ∷ left → 0 < length es → e ≡ get_or es 0 e → fit_element t.kind t.forest e bound ≡ Some after
    → fit (forest_of old) es bound ≡ fit (forest_of left) (drop 1 es) after
node_fits t old left es e bound after is some here fits =
    (λ i. fit (forest_of (is i)) (with_head es e some here i) bound)
    ∙ ap (λ o. and_then o (fit (forest_of left) (drop 1 es))) fits

-- it does not fit the element
pub node_off : (t : Tree) (old left : List Term) (es : List SyntaxElement) (e : SyntaxElement) (bound : Bound)
    → old ≡ Node t ∷ left → 0 < length es → e ≡ get_or es 0 e → fit_element t.kind t.forest e bound ≡ None
    → fit (forest_of old) es bound ≡ None
node_off t old left es e bound is some here fits =
    (λ i. fit (forest_of (is i)) (with_head es e some here i) bound)
    ∙ ap (λ o. and_then o (fit (forest_of left) (drop 1 es))) fits

none_fits : (k : ℕ) (f r : Forest) (es : List SyntaxElement) (bound : Bound) → length es ≡ 0 → fit (node k f r) es bound ≡ None
none_fits k f r [] bound none = refl
none_fits k f r (e ∷ es) bound none = absurd (omega arith)

-- no element is left for a node
pub node_none : (t : Tree) (old left : List Term) (es : List SyntaxElement) (bound : Bound)
    → old ≡ Node t ∷ left → length es ≡ 0 → fit (forest_of old) es bound ≡ None
node_none t old left es bound is none = ap (λ xs. fit (forest_of xs) es bound) is ∙ none_fits t.kind t.forest (forest_of left) es bound none

-- a leaf takes elements
pub leaf_fits : (l : Leaf) (old left : List Term) (es : List SyntaxElement) (n : ℕ) (bound : Bound)
    → old ≡ Token l ∷ left → taken l (length left) es ≡ Some n
    → fit (forest_of old) es bound ≡ fit (forest_of left) (drop n es) (with_taken (place_of l.kind) (take n es) bound)
leaf_fits l old left es n bound is takes =
    let next : ℕ → Option Bound = λ m. fit (forest_of left) (drop m es) (with_taken (place_of l.kind) (take m es) bound) in
    ap (λ xs. fit (forest_of xs) es bound) is
    ∙ ap (λ xs. and_then (taken l (length xs) es) next) (terms-forest_of left)
    ∙ ap (λ o. and_then o next) takes

-- it does not fit them
pub leaf_off : (l : Leaf) (old left : List Term) (es : List SyntaxElement) (bound : Bound)
    → old ≡ Token l ∷ left → taken l (length left) es ≡ None → fit (forest_of old) es bound ≡ None
leaf_off l old left es bound is takes =
    let next : ℕ → Option Bound = λ m. fit (forest_of left) (drop m es) (with_taken (place_of l.kind) (take m es) bound) in
    ap (λ xs. fit (forest_of xs) es bound) is
    ∙ ap (λ xs. and_then (taken l (length xs) es) next) (terms-forest_of left)
    ∙ ap (λ o. and_then o next) takes

-- no element of the pattern is left
pub ends_fit : (left : List Term) (es : List SyntaxElement) (bound : Bound) → left ≡ [] → length es ≡ 0 → fit (forest_of left) es bound ≡ Some bound
ends_fit left [] bound is none = ap (λ xs. fit (forest_of xs) [] bound) is
ends_fit left (e ∷ es) bound is none = absurd (omega arith)

pub ends_off : (left : List Term) (es : List SyntaxElement) (bound : Bound) → left ≡ [] → 0 < length es → fit (forest_of left) es bound ≡ None
ends_off left [] bound is some = absurd (omega arith)
ends_off left (e ∷ es) bound is some = ap (λ xs. fit (forest_of xs) (e ∷ es) bound) is

pub ruleset fit_steps = (fit_begin, count_begin, node_fits, node_off, node_none, leaf_fits, leaf_off, ends_fit, ends_off)
