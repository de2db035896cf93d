-- Laws of places and walks: by the way up, and by the forest below.
use Rattle.std.proofs.Common.{◌≡◌, ℕ, zero, suc, ◌+◌, ◌-◌, List, [], ◌∷◌, ◌++◌, length, take, drop, refl, sym, ◌∙◌, ap, subst, arith, add-one, append_assoc, append-nil, length-append, reverse, Option, Some, None, slice_get, slice_range}
use Rattle.std.proofs.lemmas.List.{reverse-append, reverse-reverse}
use Rattle.rowan_green.specs.Leaf.{Leaf}
use Rattle.rowan_green.specs.Forest.{Forest, empty, node, leaf, Tree, tree_text}
use Rattle.rowan_green.specs.Term.{Term, children_of, forest_of, forest_of-terms, texts_of, text_of}
use Rattle.rowan_green.specs.Word.{opens, token, closes, word}
use Rattle.rowan_green.specs.declared.utility_types.NodeOrToken.TheVariants.{Node, Token}
use Rattle.rowan.specs.Place.{Place, below, term_at, term_by, start_by, children_in, terms_below, kind_in, kind_at, text_in, text_at}
use Rattle.rowan.specs.Around.{cursor_of, cursor_in, cursor_at}
use Rattle.rowan.specs.Leaves.{tokens_in, tokens_from, tokens_before, tokens_after, tokens_back}
use Rattle.rowan.specs.Walk.{Event, walk_from, walk_forest}
use Rattle.rowan.specs.Laws.{signs, TextsAreSlices, WalksAreWords, TokensStandInOrder}
use Rattle.rowan.specs.declared.utility_types.WalkEvent.TheVariants.{Enter, Leave}
use Rattle.rowan.proofs.Lists.{number_within}
use Rattle.rowan.proofs.Leaves.{child_tokens, tokens_child, back_to}
use Rattle.rowan.proofs.Parts.{whole_text}

-- ---- the parent of an element is a node

pub record Parent (o : Option Term) : Type 0 where
  pub tree : Tree
  pub is : o ≡ Some (Node tree)

parent_node : (o : Option Term) (i : ℕ) (e : Term) → slice_get (children_in o) i ≡ Some e → Parent o
parent_node None i e h = absurd (cc)
parent_node (Some (Node t)) i e h = record { tree = t; is = refl }
parent_node (Some (Token l)) i e h = absurd (cc)

-- ---- texts

text_cons : (e : Term) (es : List Term) → texts_of (e ∷ es) ≡ text_of e ++ texts_of es
text_cons (Node t) es = refl
text_cons (Token l) es = refl

-- the text of a list of terms is that of those before one of them, its own, and that of those after it
texts_split : (es : List Term) (i : ℕ) (e : Term) → slice_get es i ≡ Some e → texts_of es ≡ texts_of (take i es) ++ (text_of e ++ texts_of (drop (suc i) es))
texts_split [] i e h = absurd (cc)
texts_split (x ∷ es) zero e h = let k : x ≡ e = cc in text_cons x es ∙ ap (λ y. text_of y ++ texts_of es) k
texts_split (x ∷ es) (suc i) e h =
    text_cons x es ∙ ap (λ v. text_of x ++ v) (texts_split es i e h)
    ∙ sym (append_assoc (text_of x) (texts_of (take i es)) (text_of e ++ texts_of (drop (suc i) es)))
    ∙ ap (λ v. v ++ (text_of e ++ texts_of (drop (suc i) es))) (sym (text_cons x (take i es)))

abbrev text_before : Tree → List ℕ → List ℕ
text_before root [] = []
text_before root (i ∷ up) = text_before root up ++ texts_of (take i (children_in (term_by root up)))

abbrev text_after : Tree → List ℕ → List ℕ
text_after root [] = []
text_after root (i ∷ up) = texts_of (drop (suc i) (children_in (term_by root up))) ++ text_after root up

before_len : (root : Tree) (up : List ℕ) → length (text_before root up) ≡ start_by root up
before_len root [] = refl
before_len root (i ∷ up) =
    length-append (text_before root up) (texts_of (take i (children_in (term_by root up))))
    ∙ ap (λ n. n + length (texts_of (take i (children_in (term_by root up))))) (before_len root up)

four : (a b c d f : List ℕ) → a ++ ((b ++ (c ++ d)) ++ f) ≡ (a ++ b) ++ (c ++ (d ++ f))
four a b c d f =
    ap (λ v. a ++ v) (append_assoc b (c ++ d) f ∙ ap (λ v. b ++ v) (append_assoc c d f)) ∙ sym (append_assoc a b (c ++ (d ++ f)))

text_split : (root : Tree) (up : List ℕ) (e : Term) → term_by root up ≡ Some e → tree_text root ≡ text_before root up ++ (text_of e ++ text_after root up)
text_split root [] e h = let k : Node root ≡ e = cc in ap text_of k ∙ sym (append-nil (text_of e))
text_split root (i ∷ up) e h =
    let p = parent_node (term_by root up) i e h in
    let g : slice_get (children_of p.tree) i ≡ Some e = subst (λ o. slice_get (children_in o) i ≡ Some e) p.is h in
    text_split root up (Node p.tree) p.is
    ∙ ap (λ v. text_before root up ++ (v ++ text_after root up)) (sym (whole_text p.tree) ∙ texts_split (children_of p.tree) i e g)
    ∙ four (text_before root up) (texts_of (take i (children_of p.tree))) (text_of e) (texts_of (drop (suc i) (children_of p.tree))) (text_after root up)
    ∙ ap (λ o. (text_before root up ++ texts_of (take i (children_in o))) ++ (text_of e ++ (texts_of (drop (suc i) (children_in o)) ++ text_after root up))) (sym p.is)

drop_first : (b c : List ℕ) → drop (length b) (b ++ c) ≡ c
drop_first [] c = refl
drop_first (x ∷ b) c = drop_first b c

take_first : (t c : List ℕ) → take (length t) (t ++ c) ≡ t
take_first [] c = refl
take_first (x ∷ t) c = ap (λ v. x ∷ v) (take_first t c)

slice_middle : (b t c : List ℕ) (n : ℕ) → length b ≡ n → slice_range (b ++ (t ++ c)) n (n + length t) ≡ t
slice_middle b t c n h =
    let m : n + length t - n ≡ length t = omega arith in
    ap (λ k. take k (drop n (b ++ (t ++ c)))) m ∙ ap (λ k. take (length t) (drop k (b ++ (t ++ c)))) (sym h)
    ∙ ap (take (length t)) (drop_first b (t ++ c)) ∙ take_first t c

slice_none : (xs : List ℕ) (n : ℕ) → slice_range xs n (n + 0) ≡ []
slice_none xs n = let m : n + 0 - n ≡ 0 = omega arith in ap (λ k. take k (drop n xs)) m

slice_by : (root : Tree) (up : List ℕ) (o : Option Term) → term_by root up ≡ o → text_in o ≡ slice_range (tree_text root) (start_by root up) (start_by root up + length (text_in o))
slice_by root up None h = sym (slice_none (tree_text root) (start_by root up))
slice_by root up (Some e) h =
    sym (ap (λ v. slice_range v (start_by root up) (start_by root up + length (text_of e))) (text_split root up e h)
    ∙ slice_middle (text_before root up) (text_of e) (text_after root up) (start_by root up) (before_len root up))

pub texts-slices : TextsAreSlices
texts-slices p = slice_by p.root p.up (term_by p.root p.up) refl

-- ---- walks

signs-append : (v w : List Event) → signs (v ++ w) ≡ signs v ++ signs w
signs-append [] w = refl
signs-append (Enter (Node p) ∷ v) w = ap (λ s. opens (kind_at p) ∷ s) (signs-append v w)
signs-append (Enter (Token p) ∷ v) w = ap (λ s. token (record { kind = kind_at p; text = text_at p }) ∷ s) (signs-append v w)
signs-append (Leave (Node p) ∷ v) w = ap (λ s. closes ∷ s) (signs-append v w)
signs-append (Leave (Token p) ∷ v) w = signs-append v w

-- what a forest's first term is, in the list that the forest is of
pub record Heads (es : List Term) (i : ℕ) (e : Term) (r : Forest) : Type 0 where
  pub stands : slice_get es i ≡ Some e
  pub others : forest_of (drop (suc i) es) ≡ r

head_node : (es : List Term) (i k : ℕ) (f r : Forest) → forest_of (drop i es) ≡ node k f r → Heads es i (Node (record { kind = k; forest = f })) r
head_node [] zero k f r h = absurd (cc)
head_node [] (suc i) k f r h = absurd (cc)
head_node (Node t ∷ es) zero k f r h =
    let a : t.kind ≡ k = cc in
    let b : t.forest ≡ f = cc in
    let c : forest_of es ≡ r = cc in
    record { stands = λ j. Some (Node (record { kind = a j; forest = b j })); others = c }
head_node (Token l ∷ es) zero k f r h = absurd (cc)
head_node (x ∷ es) (suc i) k f r h = let g = head_node es i k f r h in record { stands = g.stands; others = g.others }

head_leaf : (es : List Term) (i : ℕ) (l : Leaf) (r : Forest) → forest_of (drop i es) ≡ leaf l r → Heads es i (Token l) r
head_leaf [] zero l r h = absurd (cc)
head_leaf [] (suc i) l r h = absurd (cc)
head_leaf (Node t ∷ es) zero l r h = absurd (cc)
head_leaf (Token m ∷ es) zero l r h =
    let a : m ≡ l = cc in
    let c : forest_of es ≡ r = cc in
    record { stands = ap (λ x. Some (Token x)) a; others = c }
head_leaf (x ∷ es) (suc i) l r h = let g = head_leaf es i l r h in record { stands = g.stands; others = g.others }

signs_of_forest : (p : Place) (i : ℕ) (f : Forest) → forest_of (drop i (terms_below p)) ≡ f → signs (walk_forest p i f) ≡ word f
signs_of_forest p i empty h = refl
signs_of_forest p i (node k f r) h =
    let g = head_node (terms_below p) i k f r h in
    let inner : forest_of (drop 0 (terms_below (below p i))) ≡ f = ap (λ o. forest_of (children_in o)) g.stands ∙ forest_of-terms f in
    let others : forest_of (drop (i + 1) (terms_below p)) ≡ r = ap (λ n. forest_of (drop n (terms_below p))) (add-one i) ∙ g.others in
    ap (λ o. opens (kind_in o) ∷ signs (walk_forest (below p i) 0 f ++ Leave (Node (below p i)) ∷ walk_forest p (i + 1) r)) g.stands
    ∙ ap (λ s. opens k ∷ s)
    (signs-append (walk_forest (below p i) 0 f) (Leave (Node (below p i)) ∷ walk_forest p (i + 1) r)
    ∙ ap (λ s. s ++ closes ∷ signs (walk_forest p (i + 1) r)) (signs_of_forest (below p i) 0 f inner)
    ∙ ap (λ s. word f ++ closes ∷ s) (signs_of_forest p (i + 1) r others))
signs_of_forest p i (leaf l r) h =
    let g = head_leaf (terms_below p) i l r h in
    let others : forest_of (drop (i + 1) (terms_below p)) ≡ r = ap (λ n. forest_of (drop n (terms_below p))) (add-one i) ∙ g.others in
    ap (λ o. token (record { kind = kind_in o; text = text_in o }) ∷ signs (walk_forest p (i + 1) r)) g.stands
    ∙ ap (λ s. token l ∷ s) (signs_of_forest p (i + 1) r others)

pub walks-words : WalksAreWords
walks-words p (Node t) h =
    let inside : signs (walk_from p 0) ≡ word t.forest =
    signs_of_forest p 0 (forest_of (terms_below p)) refl ∙ ap (λ o. word (forest_of (children_in o))) h ∙ ap word (forest_of-terms t.forest) in
    ap (λ o. opens (kind_in o) ∷ signs (walk_from p 0 ++ Leave (Node p) ∷ [])) h
    ∙ ap (λ s. opens t.kind ∷ s) (signs-append (walk_from p 0) (Leave (Node p) ∷ []) ∙ ap (λ s. s ++ closes ∷ []) inside)
walks-words p (Token l) h =
    ap (λ o. token (record { kind = kind_in o; text = text_in o }) ∷ signs (walk_forest p 0 (forest_of (children_in o)) ++ Leave (Token p) ∷ [])) h

-- ---- tokens

-- the tokens below a place are those before a child, its own, and those after it
tokens_split : (p : Place) (i : ℕ) (e : Term) → term_at (below p i) ≡ Some e → tokens_in p ≡ reverse (tokens_back p i) ++ (child_tokens (Some (cursor_of (below p i) e)) ++ tokens_from p (i + 1))
tokens_split p i e h =
    let c : Some (cursor_of (below p i) e) ≡ cursor_at (below p i) = sym (ap (cursor_in (below p i)) h) in
    let within = number_within p i e h in
    sym (reverse-reverse (tokens_in p)) ∙ ap reverse (back_to p i (omega (arith, within)))
    ∙ reverse-append (reverse (tokens_from p i)) (tokens_back p i)
    ∙ ap (λ v. reverse (tokens_back p i) ++ v) (reverse-reverse (tokens_from p i) ∙ tokens_child p i (cursor_of (below p i) e) c)

four_places : (a b c d f : List Place) → a ++ ((b ++ (c ++ d)) ++ f) ≡ (a ++ b) ++ (c ++ (d ++ f))
four_places a b c d f =
    ap (λ v. a ++ v) (append_assoc b (c ++ d) f ∙ ap (λ v. b ++ v) (append_assoc c d f)) ∙ sym (append_assoc a b (c ++ (d ++ f)))

order_by : (root : Tree) (up : List ℕ) (e : Term) → term_by root up ≡ Some e → tokens_in (record { root = root; up = [] }) ≡ reverse (tokens_before (record { root = root; up = up })) ++ (child_tokens (Some (cursor_of (record { root = root; up = up }) e)) ++ tokens_after (record { root = root; up = up }))
order_by root [] (Node t) h = sym (append-nil (tokens_in (record { root = root; up = [] })))
order_by root [] (Token l) h = absurd (cc)
order_by root (i ∷ up) e h =
    let p : Place = record { root = root; up = up } in
    let t = parent_node (term_by root up) i e h in
    order_by root up (Node t.tree) t.is
    ∙ ap (λ v. reverse (tokens_before p) ++ (v ++ tokens_after p)) (tokens_split p i e h)
    ∙ four_places (reverse (tokens_before p)) (reverse (tokens_back p i)) (child_tokens (Some (cursor_of (below p i) e))) (tokens_from p (i + 1)) (tokens_after p)
    ∙ ap (λ v. v ++ (child_tokens (Some (cursor_of (below p i) e)) ++ (tokens_from p (i + 1) ++ tokens_after p))) (sym (reverse-append (tokens_back p i) (tokens_before p)))

pub tokens-order : TokensStandInOrder
tokens-order p l h = order_by p.root p.up (Token l) h
