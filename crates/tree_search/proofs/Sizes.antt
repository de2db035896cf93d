-- How many elements are at and below elements: what a match binds has fewer than the element that matches.
use Rattle.std.proofs.Common.{◌≡◌, ℕ, zero, suc, ◌+◌, ◌<◌, ◌≤◌, ◌-◌, Bool, true, false, List, [], ◌∷◌, ◌++◌, reverse, length, take, drop, map, Option, Some, None, slice_get, refl, ap, sym, ◌∙◌, arith, add-one, if◌then◌else◌}
use Rattle.std.specs.List.{filter}
use Rattle.std.proofs.lemmas.List.{take-append-drop, reverse-append}
use Rattle.rowan_green.specs.Forest.{Forest, empty, node, leaf, Tree, forest_count, tree_count}
use Rattle.rowan_green.specs.Leaf.{Leaf}
use Rattle.rowan_green.specs.Term.{Term, terms, term_count, forest_of, forest_of-terms}
use Rattle.rowan_green.specs.declared.utility_types.NodeOrToken.TheVariants as terms
use Rattle.rowan.specs.Place.{Place, below, children_in, term_at, terms_below}
use Rattle.rowan.specs.Around.{numbered}
use Rattle.syntax_tree.specs.Element.{Element, term_of}
use Rattle.syntax_tree.specs.Handle.{element_of, with_cursor}
use Rattle.syntax_tree.specs.declared.element.SyntaxElement.{SyntaxElement}
use Rattle.syntax_tree.specs.declared.element.SyntaxElement.TheVariants.{Node, Token}
use Rattle.tree_patterns.specs.Bones.{is_bone}
use Rattle.tree_patterns.specs.Patterns.{Shape}
use Rattle.tree_patterns.specs.Places.{place_of}
use Rattle.tree_patterns.specs.declared.place.Place as places
use Rattle.tree_search.specs.Elements.{bones_below, bones_of, children_below, children_of, is_node, kind_of}
use Rattle.tree_search.specs.Fit.{Bound, and_then, fit, fit_element, taken, with_taken}
use Rattle.tree_search.specs.Matching.{Names, agreeing, all_agree, matched, names}
use Rattle.tree_search.specs.Search.{bound_elements, is_first}

abbrev pub size_in : Option Term → ℕ
size_in None = 1
size_in (Some e) = term_count e

-- how many elements are at and below an element; one if there is none
abbrev pub size_of : SyntaxElement → ℕ
size_of e = size_in (term_of (element_of e))

abbrev pub size : List SyntaxElement → ℕ
size [] = 0
size (e ∷ es) = size_of e + size es

-- those of runs
abbrev pub bound_size : Bound → ℕ
bound_size [] = 0
bound_size (v ∷ vs) = size v + bound_size vs

pub size-append : (xs ys : List SyntaxElement) → size (xs ++ ys) ≡ size xs + size ys
size-append [] ys = omega arith
size-append (x ∷ xs) ys = omega (arith, size-append xs ys)

bound_size-append : (xs ys : Bound) → bound_size (xs ++ ys) ≡ bound_size xs + bound_size ys
bound_size-append [] ys = omega arith
bound_size-append (x ∷ xs) ys = omega (arith, bound_size-append xs ys)

-- ---- children

at_drop : (xs : List Term) (i : ℕ) (e : Term) (es : List Term) → drop i xs ≡ e ∷ es → (slice_get xs i ≡ Some e) × (drop (i + 1) xs ≡ es)
at_drop [] zero e es h = (cc, cc)
at_drop [] (suc i) e es h = (cc, cc)
at_drop (x ∷ xs) zero e es h = (cc, cc)
at_drop (x ∷ xs) (suc i) e es h =
    let further : (slice_get xs i ≡ Some e) × (drop (i + 1) xs ≡ es) = at_drop xs i e es h in
    (further.0, rw add-one (rw add-one at further.1))

sized : (e : SyntaxElement) (t : Term) → term_of (element_of e) ≡ Some t → size_of e ≡ term_count t
sized e t is = ap size_in is

children_by : (n : ℕ) (p : Place) (i : ℕ) (es : List Term) → drop i (terms_below p) ≡ es
    → size (map (with_cursor n) (numbered p i es)) ≡ forest_count (forest_of es)
children_by n p i [] is = refl
children_by n p i (terms.Node t ∷ es) is =
    let at = at_drop (terms_below p) i (terms.Node t) es is in
    let own : size_in (term_at (below p i)) ≡ tree_count t = ap size_in at.0 in
    let rest : size (map (with_cursor n) (numbered p (i + 1) es)) ≡ forest_count (forest_of es) = children_by n p (i + 1) es at.1 in
    omega (arith, own, rest)
children_by n p i (terms.Token l ∷ es) is =
    let at = at_drop (terms_below p) i (terms.Token l) es is in
    let own : size_in (term_at (below p i)) ≡ 1 = ap size_in at.0 in
    let rest : size (map (with_cursor n) (numbered p (i + 1) es)) ≡ forest_count (forest_of es) = children_by n p (i + 1) es at.1 in
    omega (arith, own, rest)

fewer_below : (o : Option Term) → forest_count (forest_of (drop 0 (children_in o))) < size_in o
fewer_below None = omega arith
fewer_below (Some (terms.Node t)) = omega (arith, ap forest_count (forest_of-terms t.forest))
fewer_below (Some (terms.Token l)) = omega arith

children_fewer : (e : Element) → size (children_of e) < size_of (Node e)
children_fewer e =
    let all : size (children_of e) ≡ forest_count (forest_of (drop 0 (terms_below e.place))) = children_by e.number e.place 0 (drop 0 (terms_below e.place)) refl in
    omega (arith, all, fewer_below (term_of e))

some_size : (o : Option Term) → 0 < size_in o
some_size None = omega arith
some_size (Some (terms.Node t)) = omega arith
some_size (Some (terms.Token l)) = omega arith

-- the children of an element have fewer
pub below_fewer : (e : SyntaxElement) → size (children_below e) < size_of e
below_fewer (Node e) = children_fewer e
below_fewer (Token e) = some_size (term_of e)

filtered : (test : SyntaxElement → Bool) (es : List SyntaxElement) → size (filter test es) ≤ size es
filtered test [] = omega arith
filtered test (e ∷ es) = chosen (test e) (filtered test es)
  where
    chosen : (b : Bool) → size (filter test es) ≤ size es → size (if b then e ∷ filter test es else filter test es) ≤ size (e ∷ es)
    chosen true h = omega (arith, h)
    chosen false h = omega (arith, h)

bones_fewer : (e : SyntaxElement) → size (bones_below e) < size_of e
bones_fewer (Node e) =
    let fewer : size (bones_of e) ≤ size (children_of e) = filtered (λ c. is_bone (kind_of (Node e)) (kind_of c)) (children_of e) in
    omega (arith, fewer, children_fewer e)
bones_fewer (Token e) = some_size (term_of e)

-- ---- what fits

split_size : (n : ℕ) (es : List SyntaxElement) → size (take n es) + size (drop n es) ≡ size es
split_size n es = sym (size-append (take n es) (drop n es)) ∙ ap size (take-append-drop n es)

taken_size : (place : Option places.Place) (es : List SyntaxElement) (bound : Bound) → bound_size (with_taken place es bound) ≤ bound_size bound + size es
taken_size None es bound = omega arith
taken_size (Some place) es bound = omega (arith, bound_size-append bound (es ∷ []))

-- what is bound has no more elements than those that fit
pub fit_size : (f : Forest) (es : List SyntaxElement) (before after : Bound)
    → fit f es before ≡ Some after → bound_size after ≤ bound_size before + size es
fit_size empty [] before after is =
    let same : before ≡ after = cc in
    omega (arith, ap bound_size same)
fit_size empty (e ∷ es) before after is = absurd (cc)
fit_size (node k f r) [] before after is = absurd (cc)
fit_size (node k f r) (e ∷ es) before after is =
    tested (is_node k e) (λ mid. fit_size f (bones_below e) before mid) (λ mid. fit_size r es mid after) is
  where
    inner : (o : Option Bound) → ((mid : Bound) → o ≡ Some mid → bound_size mid ≤ bound_size before + size (bones_below e))
        → ((mid : Bound) → fit r es mid ≡ Some after → bound_size after ≤ bound_size mid + size es)
        → and_then o (fit r es) ≡ Some after → bound_size after ≤ bound_size before + size (e ∷ es)
    inner None least most h = absurd (cc)
    inner (Some mid) least most h =
        let own : bound_size mid ≤ bound_size before + size (bones_below e) = least mid refl in
        let rest : bound_size after ≤ bound_size mid + size es = most mid h in
        omega (arith, own, rest, bones_fewer e)

    tested : (b : Bool) → ((mid : Bound) → fit f (bones_below e) before ≡ Some mid → bound_size mid ≤ bound_size before + size (bones_below e))
        → ((mid : Bound) → fit r es mid ≡ Some after → bound_size after ≤ bound_size mid + size es)
        → and_then (if b then fit f (bones_below e) before else None) (fit r es) ≡ Some after
        → bound_size after ≤ bound_size before + size (e ∷ es)
    tested true least most h = inner (fit f (bones_below e) before) least most h
    tested false least most h = absurd (cc)
fit_size (leaf l r) es before after is = counted (taken l (length (terms r)) es) (λ xs mid. fit_size r xs mid after) is
  where
    counted : (o : Option ℕ) → ((xs : List SyntaxElement) (mid : Bound) → fit r xs mid ≡ Some after → bound_size after ≤ bound_size mid + size xs) → and_then o (λ n. fit r (drop n es) (with_taken (place_of l.kind) (take n es) before)) ≡ Some after
        → bound_size after ≤ bound_size before + size es
    counted None most h = absurd (cc)
    counted (Some n) most h =
        let rest : bound_size after ≤ bound_size (with_taken (place_of l.kind) (take n es) before) + size (drop n es) =
        most (drop n es) (with_taken (place_of l.kind) (take n es) before) h in
        omega (arith, rest, taken_size (place_of l.kind) (take n es) before, split_size n es)

first_size : (seen ns : Names) (bound : Bound) → size (bound_elements seen ns bound) ≤ bound_size bound
first_size seen [] bound = omega arith
first_size seen (n ∷ ns) [] = omega arith
first_size seen (n ∷ ns) (v ∷ vs) = chosen (is_first seen n) (first_size (seen ++ n ∷ []) ns vs)
  where
    chosen : (b : Bool) → size (bound_elements (seen ++ n ∷ []) ns vs) ≤ bound_size vs
        → size ((if b then v else []) ++ bound_elements (seen ++ n ∷ []) ns vs) ≤ bound_size (v ∷ vs)
    chosen true h = omega (arith, h, size-append v (bound_elements (seen ++ n ∷ []) ns vs))
    chosen false h = omega (arith, h)

agreeing_is : (ns : Names) (o : Option Bound) (bound : Bound) → agreeing ns o ≡ Some bound → o ≡ Some bound
agreeing_is ns None bound is = absurd (cc)
agreeing_is ns (Some b) bound is = chosen (all_agree ns b) is
  where
    chosen : (t : Bool) → (if t then Some b else None) ≡ Some bound → Some b ≡ Some bound
    chosen true h = h
    chosen false h = absurd (cc)

element_size : (k : ℕ) (f : Forest) (e : SyntaxElement) (bound : Bound) → fit_element k f e [] ≡ Some bound → bound_size bound < size_of e
element_size k f e bound is = tested (is_node k e) is
  where
    tested : (b : Bool) → (if b then fit f (bones_below e) [] else None) ≡ Some bound → bound_size bound < size_of e
    tested true h = let own : bound_size bound ≤ 0 + size (bones_below e) = fit_size f (bones_below e) [] bound h in omega (arith, own, bones_fewer e)
    tested false h = absurd (cc)

-- what is searched in a match has fewer elements than the match
pub match_fewer : (p : Shape) (e : SyntaxElement) (bound : Bound) → matched p e ≡ Some bound
    → size (bound_elements [] (names p) bound) < size_of e
match_fewer p e bound is =
    let all : bound_size bound < size_of e = element_size p.tree.kind p.tree.forest e bound (agreeing_is (names p) (fit_element p.tree.kind p.tree.forest e []) bound is) in
    omega (arith, all, first_size [] (names p) bound)
