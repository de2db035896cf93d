-- Lemmas on the lengths of terms.
use Rattle.std.proofs.Common.{◌≡◌, ℕ, ◌+◌, ◌≤◌, ◌<◌, List, [], ◌∷◌, length, refl, arith, length-append, ap, ◌∙◌, sym, zero, suc, add-one, append-nil, take, drop, ◌++◌, length-take, length-drop, get_or, sum_by, take_all}
use Rattle.std.proofs.lemmas.List.{take_more}
use Rattle.std.proofs.lemmas.List.Sums.{sum_by-cons, sum_by_more_le}
use Rattle.rowan_green.specs.Forest.{Tree, forest_text, tree_text}
use Rattle.rowan_green.specs.Term.{Term, term_len, text_of, texts_of, texts_of-append, children_of, forest_of-terms, spliced, FitsNode}
use Rattle.rowan_green.specs.declared.utility_types.NodeOrToken.TheVariants.{Node, Token}

-- the length of the joined texts is the sum of the lengths
pub length-texts_of : (es : List Term) → length (texts_of es) ≡ sum_by term_len es
length-texts_of [] = refl
length-texts_of (Node t ∷ es) =
    length-append (tree_text t) (texts_of es)
    ∙ ap (λ n. term_len (Node t) + n) (length-texts_of es)
    ∙ sym (sum_by-cons term_len (Node t) es)
length-texts_of (Token l ∷ es) =
    length-append l.text (texts_of es)
    ∙ ap (λ n. term_len (Token l) + n) (length-texts_of es)
    ∙ sym (sum_by-cons term_len (Token l) es)

-- no sum over a prefix is past the whole
pub prefix_fits : (es : List Term) (i : ℕ) (d : Term) → i < length es → sum_by term_len (take i es) + term_len (get_or es i d) ≤ length (texts_of es)
prefix_fits es i d h = omega (arith, length-texts_of es, sum_by_more_le term_len es i d h)

-- the sum over all is the whole
pub prefix_all : (es : List Term) (i : ℕ) → length es ≤ i → sum_by term_len (take i es) ≡ length (texts_of es)
prefix_all es i h = rw take_all (sym (length-texts_of es))

-- a list without one of its terms is no longer
text_after : (es : List Term) (i : ℕ) → length (texts_of (take i es ++ drop (suc i) es)) ≤ length (texts_of es)
text_after [] zero = omega arith
text_after [] (suc i) = omega arith
text_after (Node t ∷ es) zero = omega (arith, length-append (tree_text t) (texts_of es))
text_after (Token l ∷ es) zero = omega (arith, length-append l.text (texts_of es))
text_after (Node t ∷ es) (suc i) =
    omega (arith, text_after es i, length-append (tree_text t) (texts_of (take i es ++ drop (suc i) es)), length-append (tree_text t) (texts_of es))
text_after (Token l ∷ es) (suc i) =
    omega (arith, text_after es i, length-append l.text (texts_of (take i es ++ drop (suc i) es)), length-append l.text (texts_of es))

text_without : (es : List Term) (i : ℕ) → length (texts_of (take i es ++ [] ++ drop (i + 1) es)) ≤ length (texts_of es)
text_without es i = rw (append-nil, add-one) (text_after es i)

-- and a node that may have all may have the rest
pub fits_without : (es : List Term) (i : ℕ) → i < length es → FitsNode es → FitsNode (spliced es i (i + 1) [])
fits_without es i h f = record { count = omega (arith, f.count, length-append (take i es ++ []) (drop (i + 1) es), length-append (take i es) [], length-take i es, length-drop (i + 1) es); text = omega (arith, f.text, text_without es i) }

texts_of-one : (d : Term) → texts_of (d ∷ []) ≡ text_of d
texts_of-one (Node t) = append-nil (tree_text t)
texts_of-one (Token l) = append-nil l.text

-- the text of one more term
pub texts_more : (es : List Term) (i : ℕ) (d : Term) → i < length es → d ≡ get_or es i d → texts_of (take (i + 1) es) ≡ texts_of (take i es) ++ text_of d
texts_more es i d h e =
    ap texts_of (take_more es i d h ∙ ap (λ x. take i es ++ x ∷ []) (sym e)) ∙ texts_of-append (take i es) (d ∷ []) ∙ ap (λ s. texts_of (take i es) ++ s) (texts_of-one d)

-- the text of all children
pub texts_all : (t : Tree) (es : List Term) (i : ℕ) → es ≡ children_of t → length es ≤ i → texts_of (take i es) ≡ tree_text t
texts_all t es i e h = ap texts_of (take_all i es h ∙ e) ∙ ap forest_text (forest_of-terms t.forest)

pub ruleset lengths = (length-texts_of, prefix_fits)

-- the text of a node is that of its children
pub children_texts : (t : Tree) → length (texts_of (children_of t)) ≡ length (tree_text t)
children_texts t = ap (λ f. length (forest_text f)) (forest_of-terms t.forest)
