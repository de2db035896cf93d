-- Shifted trees, child by child.
use Rattle.std.proofs.Common.{◌≡◌, ℕ, ◌+◌, ◌<◌, List, [], ◌∷◌, ◌++◌, map, refl, ap, sym, ◌∙◌, subst, arith, append_assoc}
use Rattle.rowan_green.specs.Forest.{Forest, empty, node, leaf, Tree, tree_count, forest_count}
use Rattle.rowan_green.specs.Leaf.{Leaf}
use Rattle.rowan_green.specs.Refusal.{RefusesUnless}
use Rattle.rowan_green.specs.Term.{Term, terms, forest_of, forest_of-terms, term_count, tree_of, children_of, FitsNode, FitsToken}
use Rattle.rowan_green.specs.declared.error.GreenError.{GreenError}
use Rattle.rowan_green.specs.declared.error.GreenError.TheVariants.{TooLong, Unbalanced, NoMemory}
use Rattle.rowan_green.specs.declared.utility_types.NodeOrToken.TheVariants.{Node, Token}
use Rattle.tree_indent.specs.Shifted.{shifted_leaf, shifted_forest, shifted_tree, FitsForest, FitsTree}
use Rattle.tree_indent.specs.declared.shift.Shift.{Shift}

abbrev pub shifted_term : Shift → Term → Term
shifted_term s (Node t) = Node (shifted_tree s t)
shifted_term s (Token l) = Token (shifted_leaf s l)

pub shifted-forest_of : (s : Shift) (es : List Term) → forest_of (map (shifted_term s) es) ≡ shifted_forest s (forest_of es)
shifted-forest_of s [] = refl
shifted-forest_of s (Node t ∷ es) = ap (λ f. node t.kind (shifted_forest s t.forest) f) (shifted-forest_of s es)
shifted-forest_of s (Token l ∷ es) = ap (λ f. leaf (shifted_leaf s l) f) (shifted-forest_of s es)

pub shifted-terms : (s : Shift) (f : Forest) → map (shifted_term s) (terms f) ≡ terms (shifted_forest s f)
shifted-terms s empty = refl
shifted-terms s (node k f r) = ap (λ es. Node (record { kind = k; forest = shifted_forest s f }) ∷ es) (shifted-terms s r)
shifted-terms s (leaf l r) = ap (λ es. Token (shifted_leaf s l) ∷ es) (shifted-terms s r)

-- all children make the tree
pub whole-tree : (s : Shift) (t : Tree) (k : ℕ) (es : List Term) → k ≡ t.kind → es ≡ map (shifted_term s) (children_of t) → tree_of k es ≡ shifted_tree s t
whole-tree s t k es kind is =
    ap (λ (n : ℕ). tree_of n es) kind
    ∙ ap (λ (l : List Term). tree_of t.kind l) is
    ∙ ap (λ (f : Forest). record { kind = t.kind; forest = f }) (shifted-forest_of s (children_of t) ∙ ap (shifted_forest s) (forest_of-terms t.forest))

-- one more child
pub next-child :
    (s : Shift) (made more rest before after : List Term) (e new : Term) (all : List Term)
    → before ≡ e ∷ after → new ≡ shifted_term s e → more ≡ made ++ new ∷ []
    → made ++ map (shifted_term s) before ≡ all → more ++ map (shifted_term s) after ≡ all
next-child s made more rest before after e new all first is pushed so-far =
    ap (λ l. l ++ map (shifted_term s) after) pushed
    ∙ append_assoc made (new ∷ []) (map (shifted_term s) after)
    ∙ ap (λ x. made ++ x ∷ map (shifted_term s) after) is
    ∙ ap (λ l. made ++ map (shifted_term s) l) (sym first)
    ∙ so-far

count-cons : (e : Term) (es : List Term) → forest_count (forest_of (e ∷ es)) ≡ term_count e + forest_count (forest_of es)
count-cons (Node t) es = refl
count-cons (Token l) es = refl

pub all-below : (t : Tree) (es : List Term) → es ≡ children_of t → forest_count (forest_of es) < tree_count t
all-below t es are = omega (arith, ap (λ l. forest_count (forest_of l)) are, ap forest_count (forest_of-terms t.forest))

pub rest-below : (n : ℕ) (e : Term) (before after : List Term) → before ≡ e ∷ after → forest_count (forest_of before) < n → forest_count (forest_of after) < n
rest-below n e before after first h = omega (arith, h, ap (λ l. forest_count (forest_of l)) first, count-cons e after)

pub child-below : (n : ℕ) (t : Tree) (e : Term) (before after : List Term) → before ≡ e ∷ after → e ≡ Node t → forest_count (forest_of before) < n → tree_count t < n
child-below n t e before after first is h = omega (arith, h, ap (λ l. forest_count (forest_of l)) first, count-cons e after, ap term_count is)

-- ---- size limits

abbrev pub FitsTerms : Shift → List Term → Type 0
FitsTerms s es = FitsForest (shifted_forest s (forest_of es))

pub fits-children : (s : Shift) (t : Tree) (es : List Term) → es ≡ children_of t → FitsTree (shifted_tree s t) → FitsTerms s es
fits-children s t es are h = subst FitsForest (ap (shifted_forest s) (sym (ap forest_of are ∙ forest_of-terms t.forest))) h.1

fits-tail : (s : Shift) (e : Term) (es : List Term) → FitsTerms s (e ∷ es) → FitsTerms s es
fits-tail s (Node t) es h = h.2
fits-tail s (Token l) es h = h.1

pub fits-rest : (s : Shift) (e : Term) (before after : List Term) → before ≡ e ∷ after → FitsTerms s before → FitsTerms s after
fits-rest s e before after first h = fits-tail s e after (subst (FitsTerms s) first h)

pub fits-node : (s : Shift) (t : Tree) (e : Term) (before after : List Term) → before ≡ e ∷ after → e ≡ Node t → FitsTerms s before → FitsTree (shifted_tree s t)
fits-node s t e before after first is h =
    let here : FitsTerms s (Node t ∷ after) = subst (FitsTerms s) (first ∙ ap (λ x. x ∷ after) is) h in
    (here.0, here.1)

pub fits-token : (s : Shift) (l : _) (e : Term) (before after : List Term) → before ≡ e ∷ after → e ≡ Token l → FitsTerms s before → FitsToken (shifted_leaf s l).text
fits-token s l e before after first is h =
    let here : FitsTerms s (Token l ∷ after) = subst (FitsTerms s) (first ∙ ap (λ x. x ∷ after) is) h in
    here.0

-- a part that does not fit excludes the whole
pub refuses-whole : (P Q : Type 0) (e : GreenError) → (Q → P) → RefusesUnless P e → RefusesUnless Q e
refuses-whole P Q TooLong h r = λ q. r (h q)
refuses-whole P Q Unbalanced h r = r
refuses-whole P Q NoMemory h r = tt

-- ---- trees within the limits

fits-append : (es : List Term) (e : Term) → FitsForest (forest_of es) → FitsForest (forest_of (e ∷ [])) → FitsForest (forest_of (es ++ e ∷ []))
fits-append [] e h g = g
fits-append (Node t ∷ es) e h g = (h.0, h.1, fits-append es e h.2 g)
fits-append (Token l ∷ es) e h g = (h.0, fits-append es e h.1 g)

pub node-more : (made more : List Term) (new : Term) (t : Tree) → more ≡ made ++ new ∷ [] → new ≡ Node t → FitsTree t → FitsForest (forest_of made) → FitsForest (forest_of more)
node-more made more new t pushed is fits h =
    subst (λ es. FitsForest (forest_of es)) (sym (pushed ∙ ap (λ x. made ++ x ∷ []) is)) (fits-append made (Node t) h (fits.0, fits.1, tt))

pub token-more : (made more : List Term) (new : Term) (l : Leaf) → more ≡ made ++ new ∷ [] → new ≡ Token l → FitsToken l.text → FitsForest (forest_of made) → FitsForest (forest_of more)
token-more made more new l pushed is fits h =
    subst (λ es. FitsForest (forest_of es)) (sym (pushed ∙ ap (λ x. made ++ x ∷ []) is)) (fits-append made (Token l) h (fits, tt))

-- if all children are within the limits, so is the tree
pub whole-fits : (s : Shift) (t : Tree) (es : List Term) → es ≡ map (shifted_term s) (children_of t) → FitsNode es → FitsForest (forest_of es) → FitsTree (shifted_tree s t)
whole-fits s t es is here below = (
  subst FitsNode (is ∙ shifted-terms s t.forest) here,
  subst FitsForest (ap forest_of is ∙ shifted-forest_of s (children_of t) ∙ ap (shifted_forest s) (forest_of-terms t.forest)) below,
)
