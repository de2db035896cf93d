-- The changed ranges are those of the elements at the changed up-paths.
use Rattle.std.proofs.Common.{◌≡◌, ℕ, ◌+◌, ◌<◌, List, [], ◌∷◌, ◌++◌, length, map, drop, take, get_or, Some, Bool, true, false, refl, ap, sym, ◌∙◌, arith, slice_get}
use Rattle.std.proofs.lemmas.List.{append-nil, map-append, length-append, take_more}
use Rattle.std.proofs.lemmas.Option.{slice_get-get_or}
use Rattle.rowan_green.specs.Forest.{Tree, forest_text}
use Rattle.rowan_green.specs.Term.{Term, terms, texts_of, texts_of-append}
use Rattle.rowan_green.specs.declared.utility_types.NodeOrToken.TheVariants.{Node, Token}
use Rattle.rowan.specs.Place.{start_by, term_by, children_in, text_in}
use Rattle.syntax_tree.specs.Element.{Way}
use Rattle.tree_rewrite.specs.Marked.{Marked, nothing, inner, token, forest_in, if_put, changed_from}
use Rattle.tree_rewrite.specs.Changed.{text_len, if_changed, changed_at, bounds_in}
use Rattle.tree_rewrite.specs.Laws.{RangesAgree}
use Rattle.tree_rewrite.proofs.FillLemmas.{drop_first}

if-map : (t : Tree) (b : Bool) (w : Way) (ws : List Way) → map (bounds_in t) (if_put b w ws) ≡ if_changed b (bounds_in t w) (map (bounds_in t) ws)
if-map t true w ws = refl
if-map t false w ws = refl

-- the number of bytes before the next term
next_start : (xs : List Term) (i : ℕ) (x : Term) → slice_get xs i ≡ Some x → i < length xs → length (texts_of (take (i + 1) xs)) ≡ length (texts_of (take i xs)) + length (texts_of (x ∷ []))
next_start xs i x h l =
    let found : Some x ≡ Some (get_or xs i x) = sym h ∙ slice_get-get_or xs i x l in
    let same : get_or xs i x ≡ x = cc in
    ap (λ ys. length (texts_of ys)) (take_more xs i x l)
    ∙ ap length (texts_of-append (take i xs) (get_or xs i x ∷ []))
    ∙ length-append (texts_of (take i xs)) (texts_of (get_or xs i x ∷ []))
    ∙ ap (λ y. length (texts_of (take i xs)) + length (texts_of (y ∷ []))) same

below : (t : Tree) (n : Marked) (w : Way) (i o : ℕ) → terms (forest_in n) ≡ drop i (children_in (term_by t w)) → o ≡ start_by t w + length (texts_of (take i (children_in (term_by t w))))
    → changed_at n o ≡ map (bounds_in t) (changed_from n w i)
below t nothing w i o h s = refl
below t (inner m k f r) w i o h s =
    let xs = children_in (term_by t w) in
    let x : Term = Node (record { kind = k; forest = forest_in f }) in
    let found = drop_first xs i x (terms (forest_in r)) h in
    let at : (o, o + text_len f) ≡ bounds_in t (i ∷ w) = λ j. (s j, s j + length (text_in (sym found.0 j))) in
    let len : length (texts_of (x ∷ [])) ≡ text_len f = ap length (append-nil (forest_text (forest_in f))) in
    let low = below t f (i ∷ w) 0 o (sym (ap children_in found.0)) (omega (arith, s)) in
    let rest = below t r w (i + 1) (o + text_len f) found.1 (omega (arith, s, next_start xs i x found.0 found.2, len)) in
    (λ j. if_changed m.put (at j) (low j ++ rest j))
    ∙ ap (if_changed m.put (bounds_in t (i ∷ w))) (sym (map-append (bounds_in t) (changed_from f (i ∷ w) 0) (changed_from r w (i + 1))))
    ∙ sym (if-map t m.put (i ∷ w) (changed_from f (i ∷ w) 0 ++ changed_from r w (i + 1)))
below t (token m l r) w i o h s =
    let xs = children_in (term_by t w) in
    let x : Term = Token l in
    let found = drop_first xs i x (terms (forest_in r)) h in
    let at : (o, o + length l.text) ≡ bounds_in t (i ∷ w) = λ j. (s j, s j + length (text_in (sym found.0 j))) in
    let len : length (texts_of (x ∷ [])) ≡ length l.text = ap length (append-nil l.text) in
    let rest = below t r w (i + 1) (o + length l.text) found.1 (omega (arith, s, next_start xs i x found.0 found.2, len)) in
    (λ j. if_changed m.put (at j) (rest j))
    ∙ sym (if-map t m.put (i ∷ w) (changed_from r w (i + 1)))

pub ranges_agree : RangesAgree
ranges_agree nothing t h = refl
ranges_agree (inner m k f r) t h =
    let all : Node (record { kind = k; forest = forest_in f }) ∷ terms (forest_in r) ≡ Node t ∷ [] = ap terms h in
    let first : Tree = record { kind = k; forest = forest_in f } in
    let both : Node first ∷ terms (forest_in r) ≡ Node t ∷ [] = all in
    let tree : first ≡ t = cc in
    let none : terms (forest_in r) ≡ [] = cc in
    let low = below t f [] 0 0 (ap (λ y. terms y.forest) tree) (omega arith) in
    let len : text_len f ≡ length (forest_text t.forest) = ap (λ y. length (forest_text y.forest)) tree in
    ap (λ l. if_changed m.put (0, 0 + text_len f) (changed_at f 0 ++ l)) (nothing_at r (0 + text_len f) none)
    ∙ ap (if_changed m.put (0, 0 + text_len f)) (append-nil (changed_at f 0))
    ∙ (λ j. if_changed m.put (0, 0 + len j) (low j))
    ∙ sym (if-map t m.put [] (changed_from f [] 0))
  where
    nothing_at : (n : Marked) (o : ℕ) → terms (forest_in n) ≡ [] → changed_at n o ≡ []
    nothing_at nothing o e = refl
    nothing_at (inner m k f r) o e = absurd (omega (arith, ap length e))
    nothing_at (token m l r) o e = absurd (omega (arith, ap length e))
ranges_agree (token m l r) t h =
    let all : Token l ∷ terms (forest_in r) ≡ Node t ∷ [] = ap terms h in
    absurd (cc)
