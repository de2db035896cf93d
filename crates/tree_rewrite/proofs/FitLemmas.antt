-- Which nodes of a list may have their children, as a test and as a fact.
use Rattle.std.proofs.Common.{◌≡◌, ℕ, ◌<◌, ◌^◌, List, length, Option, Some, None, Bool, true, false, ◌&&◌, ◌||◌, nat_lt, refl, ap, sym, ◌∙◌, subst}
use Rattle.std.proofs.lemmas.Bool.{ltb-true, lt-ltb, and_parts, false≢true}
use Rattle.rowan_green.specs.Forest.{Forest, Tree, tree_text, forest_text}
use Rattle.rowan_green.specs.Same.{same_tree-Decides}
use Rattle.rowan_green.specs.Term.{Term, terms, texts_of, children_of, forest_of-terms, FitsNode}
use Rattle.rowan_green.specs.declared.utility_types.NodeOrToken.TheVariants.{Node, Token}
use Rattle.syntax_tree.specs.Element.{Element, term_of}
use Rattle.tree_rewrite.specs.Marked.{Mark, Marked, nothing, inner, token, forest_in}
use Rattle.tree_rewrite.specs.Fits.{fits_node, is_tree, new_fits}
use Rattle.tree_rewrite.specs.Growing.{OwnFit, NewFit}

fits-from : (es : List Term) → fits_node es ≡ true → FitsNode es
fits-from es is =
    let both = and_parts (nat_lt (length es) (2 ^ 32)) (nat_lt (length (texts_of es)) (2 ^ 32)) is in
    record { count = ltb-true (length es) (2 ^ 32) both.0; text = ltb-true (length (texts_of es)) (2 ^ 32) both.1 }

fits-to : (es : List Term) → FitsNode es → fits_node es ≡ true
fits-to es fits = rw (lt-ltb (length es) (2 ^ 32) fits.count) (lt-ltb (length (texts_of es)) (2 ^ 32) fits.text)

tree-from : (o : Option Term) (u : Tree) → is_tree o u ≡ true → o ≡ Some (Node u)
tree-from None u is = absurd (false≢true is)
tree-from (Some (Node t)) u is = ap (λ (x : Tree). Some (Node x)) ((same_tree-Decides t u).0 is)
tree-from (Some (Token l)) u is = absurd (false≢true is)

tree-to : (o : Option Term) (u : Tree) → o ≡ Some (Node u) → is_tree o u ≡ true
tree-to o u is = rw is ((same_tree-Decides u u).1 refl)

either : (a b : Bool) → (a || b) ≡ true → (a ≡ false) → b ≡ true
either true b is first = absurd (false≢true (sym first))
either false b is first = is

second : (a b : Bool) → b ≡ true → (a || b) ≡ true
second true b is = refl
second false b is = is

-- the node equals its origin
abbrev here : Mark → ℕ → Marked → Bool
here m k f = is_tree (term_of m.origin) (record { kind = k; forest = forest_in f })

pub new-from : (m : Marked) → new_fits m ≡ true → NewFit m
new-from nothing is = tt
new-from (inner m k f r) is =
    let es = terms (forest_in f) in
    let both = and_parts (here m k f || fits_node es) (new_fits f && new_fits r) is in
    let rest = and_parts (new_fits f) (new_fits r) both.1 in
    (λ other. fits-from es (by-test (here m k f) refl both.0 other), new-from f rest.0, new-from r rest.1)
  where
    by-test : (b : Bool) → here m k f ≡ b → (here m k f || fits_node (terms (forest_in f))) ≡ true → (term_of m.origin ≡ Some (Node (record { kind = k; forest = forest_in f })) → ⊥) → fits_node (terms (forest_in f)) ≡ true
    by-test true holds is other = absurd (other (tree-from (term_of m.origin) _ holds))
    by-test false fails is other = either (here m k f) (fits_node (terms (forest_in f))) is fails
new-from (token m l r) is = new-from r is

pub new-to : (m : Marked) → NewFit m → new_fits m ≡ true
new-to nothing fits = refl
new-to (inner m k f r) fits = rw (by-test (here m k f) refl, new-to f fits.1) (new-to r fits.2)
  where
    by-test : (b : Bool) → here m k f ≡ b → (here m k f || fits_node (terms (forest_in f))) ≡ true
    by-test true holds = rw holds refl
    by-test false fails =
        second (here m k f) (fits_node (terms (forest_in f))) (fits-to (terms (forest_in f)) (fits.0 (λ same. false≢true (sym fails ∙ tree-to (term_of m.origin) _ same))))
new-to (token m l r) fits = new-to r fits

-- a list that does not fit fails the test
pub new-fails : (m : Marked) → (NewFit m → ⊥) → new_fits m ≡ false
new-fails m fails = by-test (new_fits m) refl
  where
    by-test : (b : Bool) → new_fits m ≡ b → new_fits m ≡ false
    by-test true holds = absurd (fails (new-from m holds))
    by-test false is = is

-- children that fit where they are those that an element has, and where they are not
pub fits-anyway : (P : Type 0) (es : List Term) → (P → FitsNode es) → ((P → ⊥) → FitsNode es) → FitsNode es
fits-anyway P es if unless = by-test (fits_node es) refl
  where
    by-test : (b : Bool) → fits_node es ≡ b → FitsNode es
    by-test true holds = fits-from es holds
    by-test false fails = unless (λ p. false≢true (sym fails ∙ fits-to es (if p)))

abbrev tree_or : Tree → Option Term → Tree
tree_or d None = d
tree_or d (Some (Node t)) = t
tree_or d (Some (Token l)) = d

-- the children that a node has
pub own-fits : (x : Element) (g : Tree) (m : ℕ) → term_of x ≡ Some (Node g) → length (children_of g) < 2 ^ 32 → m ≡ length (tree_text g) → m < 2 ^ 32 → OwnFit x
own-fits x g m is count long fits = λ t other.
    let same : g ≡ t = ap (tree_or g) (sym is ∙ other) in
    let text = long ∙ ap (λ (f : Forest). length (forest_text f)) (sym (forest_of-terms g.forest)) in
    subst (λ (u : Tree). FitsNode (terms u.forest)) same (record { count = count; text = subst (λ (n : ℕ). n < 2 ^ 32) text fits })
