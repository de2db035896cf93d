-- The text that is left of open nodes, and how many steps it takes.
use Rattle.std.proofs.Common.{◌≡◌, ℕ, ◌+◌, ◌*◌, ◌<◌, List, [], ◌∷◌, ◌++◌, refl, ap, sym, ◌∙◌, arith, append_assoc, append-nil}
use Rattle.rowan_green.specs.Forest.{Tree, forest_count, forest_text, tree_text}
use Rattle.rowan_green.specs.Term.{Term, forest_of, forest_of-terms, texts_of, children_of}
use Rattle.rowan_green.specs.declared.utility_types.NodeOrToken.TheVariants.{Node}

-- the text of the children that are left, from the innermost node, which is the last, to the outermost
abbrev pub open_text : List (List Term) → List ℕ
open_text [] = []
open_text (es ∷ above) = open_text above ++ texts_of es

-- the steps that are left: one to leave a node, and two for each node and leaf
abbrev pub open_steps : List (List Term) → ℕ
open_steps [] = 0
open_steps (es ∷ above) = 1 + 2 * forest_count (forest_of es) + open_steps above

-- the text of one more open node comes first
pub open_text-more : (above : List (List Term)) (es : List Term) → open_text (above ++ es ∷ []) ≡ texts_of es ++ open_text above
open_text-more [] es = sym (append-nil (texts_of es))
open_text-more (ds ∷ above) es = ap (λ s. s ++ texts_of ds) (open_text-more above es) ∙ append_assoc (texts_of es) (open_text above) (texts_of ds)

pub open_steps-more : (above : List (List Term)) (es : List Term) → open_steps (above ++ es ∷ []) ≡ 1 + 2 * forest_count (forest_of es) + open_steps above
open_steps-more [] es = refl
open_steps-more (ds ∷ above) es = omega (arith, open_steps-more above es)

-- a node is entered: its children come first, and then those beside it
pub entered-text : (t : Tree) (e : Term) (old new inner : List Term) (above more : List (List Term)) → old ≡ e ∷ new → e ≡ Node t → inner ≡ children_of t → more ≡ above ++ new ∷ [] → texts_of inner ++ open_text more ≡ texts_of old ++ open_text above
entered-text t e old new inner above more o n i m =
    ap (λ es. texts_of es ++ open_text more) i
    ∙ ap (λ f. forest_text f ++ open_text more) (forest_of-terms t.forest)
    ∙ ap (λ es. tree_text t ++ open_text es) m
    ∙ ap (λ s. tree_text t ++ s) (open_text-more above new)
    ∙ sym (append_assoc (tree_text t) (texts_of new) (open_text above))
    ∙ ap (λ d. texts_of (d ∷ new) ++ open_text above) (sym n)
    ∙ ap (λ es. texts_of es ++ open_text above) (sym o)

pub entered-steps : (t : Tree) (e : Term) (old new inner : List Term) (above more : List (List Term)) → old ≡ e ∷ new → e ≡ Node t → inner ≡ children_of t → more ≡ above ++ new ∷ [] → 2 * forest_count (forest_of inner) + open_steps more < 2 * forest_count (forest_of old) + open_steps above
entered-steps t e old new inner above more o n i m =
    let a : forest_count (forest_of inner) ≡ forest_count t.forest = ap (λ es. forest_count (forest_of es)) i ∙ ap forest_count (forest_of-terms t.forest) in
    let b : forest_count (forest_of old) ≡ 1 + forest_count t.forest + forest_count (forest_of new) = ap (λ es. forest_count (forest_of es)) o ∙ ap (λ d. forest_count (forest_of (d ∷ new))) n in
    let d : open_steps more ≡ 1 + 2 * forest_count (forest_of new) + open_steps above = ap open_steps m ∙ open_steps-more above new in
    omega arith

-- a node without further children is left: those beside it come next
pub left-text : (old rest : List Term) (above fewer : List (List Term)) → old ≡ [] → above ≡ fewer ++ rest ∷ [] → texts_of rest ++ open_text fewer ≡ texts_of old ++ open_text above
left-text old rest above fewer o a =
    sym (open_text-more fewer rest) ∙ ap open_text (sym a) ∙ ap (λ es. texts_of es ++ open_text above) (sym o)

pub left-steps : (old rest : List Term) (above fewer : List (List Term)) → old ≡ [] → above ≡ fewer ++ rest ∷ [] → 2 * forest_count (forest_of rest) + open_steps fewer < 2 * forest_count (forest_of old) + open_steps above
left-steps old rest above fewer o a =
    let b : open_steps above ≡ 1 + 2 * forest_count (forest_of rest) + open_steps fewer = ap open_steps a ∙ open_steps-more fewer rest in
    omega arith

-- nothing is written, and the root's children are left
pub begun-text : (t : Tree) (written : List ℕ) (inner : List Term) (above : List (List Term)) → written ≡ [] → inner ≡ children_of t → above ≡ [] → written ++ (texts_of inner ++ open_text above) ≡ tree_text t
begun-text t written inner above w i a =
    ap (λ s. s ++ (texts_of inner ++ open_text above)) w
    ∙ ap (λ es. texts_of inner ++ open_text es) a
    ∙ append-nil (texts_of inner)
    ∙ ap (λ es. texts_of es) i
    ∙ ap forest_text (forest_of-terms t.forest)
