-- Lemmas about building nodes from pieces.
use Rattle.std.proofs.Common.{◌≡◌, ℕ, ◌+◌, List, [], ◌∷◌, ◌++◌, drop, reverse, Option, Some, None, option_to_list, Result, Err, IfErr, Bool, false, refl, ap, sym, ◌∙◌, subst}
use Rattle.std.proofs.lemmas.List.{reverse-append}
use Rattle.rowan_green.specs.Forest.{Forest, empty, node, leaf, Tree}
use Rattle.rowan_green.specs.Term.{Term, terms, tree_of, forest_of, forest_of-terms, FitsNode}
use Rattle.rowan_green.specs.declared.utility_types.NodeOrToken.TheVariants.{Node, Token}
use Rattle.rowan_green.specs.declared.syntax_kind.SyntaxKind.{SyntaxKind}
use Rattle.rowan.specs.Place.{kind_at, terms_below, children_in}
use Rattle.syntax_tree.specs.Element.{Way, Element, term_of}
use Rattle.syntax_tree.specs.Handle.{element_of}
use Rattle.syntax_tree.specs.declared.element.SyntaxElement.{SyntaxElement}
use Rattle.tree_rewrite.specs.Marked.{Marked, nothing, inner, token, join, forest_in, with_put, origin_at, blank, filled, read_from, reading_of}
use Rattle.tree_rewrite.specs.Pieces.{Around, outside, in_node, in_group, is_outermost, Stand, closed, after_piece, after}
use Rattle.tree_rewrite.specs.declared.piece.Nesting.{Nesting}
use Rattle.tree_rewrite.specs.declared.piece.Piece.{Piece}
use Rattle.tree_rewrite.specs.declared.piece.Piece.TheVariants.{Whole, Open, Group, Close}
use Rattle.tree_rewrite.specs.Fits.{IsNode, RefusesRewrite}
use Rattle.tree_rewrite.specs.Growing.{OwnFit, IsAround, IsMade, NewFit, NewFitAround, NewFitIn, RefusesUnless}
use Rattle.tree_rewrite.specs.declared.green.Begun.{Begun}
use Rattle.tree_rewrite.specs.declared.error.ExecuteError.{ExecuteError}
use Rattle.tree_rewrite.specs.declared.error.ExecuteError.TheVariants.{TooLong, NoMemory}
use Rattle.tree_rewrite.proofs.MarkedLemmas.{forest_in-blank}
use Rattle.tree_rewrite.proofs.FillLemmas.{drop_first}
use Rattle.tree_rewrite.proofs.FitLemmas.{new-fails, fits-anyway}

-- ---- terms of lists
pub terms-join : (m n : Marked) → terms (forest_in (join m n)) ≡ terms (forest_in m) ++ terms (forest_in n)
terms-join nothing n = refl
terms-join (inner m k f r) n = ap (λ l. Node (record { kind = k; forest = forest_in f }) ∷ l) (terms-join r n)
terms-join (token m l r) n = ap (λ ts. Token l ∷ ts) (terms-join r n)

pub forest_in-with_put : (b : Bool) (m : Marked) → forest_in (with_put b m) ≡ forest_in m
forest_in-with_put b nothing = refl
forest_in-with_put b (inner m k f r) = ap (λ g. node k (forest_in f) g) (forest_in-with_put b r)
forest_in-with_put b (token m l r) = ap (λ g. leaf l g) (forest_in-with_put b r)

whole_terms : (x : Element) (g : Term) → term_of x ≡ Some g → terms (forest_in (reading_of blank x)) ≡ g ∷ []
whole_terms x (Node t) h = ap (λ o. terms (forest_in (read_from blank x o))) h ∙ ap (λ f. Node (record { kind = t.kind; forest = f }) ∷ []) (forest_in-blank x [] 0 t.forest)
whole_terms x (Token l) h = ap (λ o. terms (forest_in (read_from blank x o))) h

-- ---- which nodes may have their children
new-split : (m n : Marked) → NewFit (join m n) → NewFit m × NewFit n
new-split nothing n h = (tt, h)
new-split (inner m k f r) n h = let rest = new-split r n h.2 in ((h.0, h.1, rest.0), rest.1)
new-split (token m l r) n h = new-split r n h

new-unput : (b : Bool) (m : Marked) → NewFit (with_put b m) → NewFit m
new-unput b nothing h = tt
new-unput b (inner m k f r) h = (h.0, h.1, new-unput b r h.2)
new-unput b (token m l r) h = new-unput b r h

new-join : (m n : Marked) → NewFit m → NewFit n → NewFit (join m n)
new-join nothing n g h = h
new-join (inner m k f r) n g h = (g.0, g.1, new-join r n g.2 h)
new-join (token m l r) n g h = new-join r n g h

new-with_put : (b : Bool) (m : Marked) → NewFit m → NewFit (with_put b m)
new-with_put b nothing h = tt
new-with_put b (inner m k f r) h = (h.0, h.1, new-with_put b r h.2)
new-with_put b (token m l r) h = new-with_put b r h

-- an unchanged element has no new nodes
new-filled : (e : Element) (w : Way) (i : ℕ) (f : Forest) → terms f ≡ drop i (terms_below (origin_at e w).origin.place) → NewFit (filled blank e w i f)
new-filled e w i empty h = tt
new-filled e w i (node k f r) h =
    let found = drop_first (terms_below (origin_at e w).origin.place) i (Node (record { kind = k; forest = f })) (terms r) h in
    let same : term_of (origin_at e (i ∷ w)).origin ≡ Some (Node (record { kind = k; forest = forest_in (filled blank e (i ∷ w) 0 f) })) =
    found.0 ∙ ap (λ g. Some (Node (record { kind = k; forest = g }))) (sym (forest_in-blank e (i ∷ w) 0 f)) in
    (λ n. absurd (n same), new-filled e (i ∷ w) 0 f (sym (ap children_in found.0)), new-filled e w (i + 1) r found.1)
new-filled e w i (leaf l r) h =
    let found = drop_first (terms_below (origin_at e w).origin.place) i (Token l) (terms r) h in
    new-filled e w (i + 1) r found.1

new-whole : (x : Element) → NewFit (reading_of blank x)
new-whole x = by_term (term_of x) refl
  where
    by_term : (o : Option Term) → term_of x ≡ o → NewFit (read_from blank x o)
    by_term None h = tt
    by_term (Some (Node t)) h =
        let same : term_of x ≡ Some (Node (record { kind = t.kind; forest = forest_in (filled blank x [] 0 t.forest) })) =
        h ∙ ap (λ g. Some (Node (record { kind = t.kind; forest = g }))) (sym (forest_in-blank x [] 0 t.forest)) in
        (λ n. absurd (n same), new-filled x [] 0 t.forest (sym (ap children_in h)), tt)
    by_term (Some (Token l)) h = tt

-- ---- a whole element more
pub made-whole : (es fs : List Term) (gs : List Begun) (x : SyntaxElement) (g : Term) (s : Stand) → term_of (element_of x) ≡ Some g → fs ≡ es ++ g ∷ [] → IsMade es gs s
    → IsMade fs gs (after_piece (Whole x) s)
made-whole es fs gs x g s t e h = record {
  done = e ∙ ap (λ l. l ++ g ∷ []) h.done ∙ ap (λ l. terms (forest_in s.done) ++ l) (sym (whole_terms (element_of x) g t)) ∙ sym (terms-join s.done (reading_of blank (element_of x)));
  around = h.around;
}

pub fits-whole : (x : SyntaxElement) (s : Stand) → NewFitIn s → NewFitIn (after_piece (Whole x) s)
fits-whole x s h = (new-join s.done (reading_of blank (element_of x)) h.0 (new-whole (element_of x)), h.1)

-- ---- the start of a node or group
around_more : (gs hs : List Begun) (g : Begun) (a : Around) → hs ≡ gs ++ g ∷ [] → IsAround (g ∷ reverse gs) a → IsAround (reverse hs) a
around_more gs hs g a e h = subst (λ l. IsAround l a) (sym (ap reverse e ∙ reverse-append gs (g ∷ []))) h

pub made-open : (es fs : List Term) (gs hs : List Begun) (g : Begun) (k : SyntaxKind) (x : Element) (s : Stand) → hs ≡ gs ++ g ∷ [] → g.kind ≡ Some k → k.0 ≡ kind_at x.place
    → OwnFit x → g.before.items ≡ es → fs ≡ [] → IsMade es gs s → IsMade fs hs (after_piece (Open x) s)
made-open es fs gs hs g k x s e is same own b f h =
    record { done = f; around = around_more gs hs g (in_node s.done x s.around) e ((k, is, same), own, b ∙ h.done, h.around) }

pub made-group : (es fs : List Term) (gs hs : List Begun) (g : Begun) (n : Nesting) (s : Stand) → hs ≡ gs ++ g ∷ [] → g.kind ≡ None → g.before.items ≡ es → fs ≡ [] → IsMade es gs s
    → IsMade fs hs (after_piece (Group n) s)
made-group es fs gs hs g n s e is same f h =
    record { done = f; around = around_more gs hs g (in_group s.done (is_outermost n) s.around) e (is, same ∙ h.done, h.around) }

-- ---- the end of a node or group
around_less : (gs hs : List Begun) (g : Begun) (a : Around) → gs ≡ hs ++ g ∷ [] → IsAround (reverse gs) a → IsAround (g ∷ reverse hs) a
around_less gs hs g a e h = subst (λ l. IsAround l a) (ap reverse e ∙ reverse-append hs (g ∷ [])) h

-- there is no open node or group
pub made-outside : (es : List Term) (gs : List Begun) (s : Stand) → gs ≡ [] → IsMade es gs s → closed s.done s.around ≡ s
made-outside es gs s e h = by_around s.around (subst (λ l. IsAround (reverse l) s.around) e h.around)
  where
    by_around : (a : Around) → IsAround [] a → closed s.done a ≡ record { done = s.done; around = a }
    by_around outside g = refl
    by_around (in_node d x a) g = absurd g
    by_around (in_group d b a) g = absurd g

-- the innermost open one is a node, with the terms before it
pub record InNode (es : List Term) (hs : List Begun) (g : Begun) (k : SyntaxKind) (s : Stand) : Type 0 where
  pub before : Marked
  pub origin : Element
  pub outer : Around
  pub is : s.around ≡ in_node before origin outer
  pub kind : k.0 ≡ kind_at origin.place
  pub own : OwnFit origin
  pub terms_before : g.before.items ≡ terms (forest_in before)
  pub around : IsAround (reverse hs) outer

pub in_node-of : (es : List Term) (gs hs : List Begun) (g : Begun) (k : SyntaxKind) (s : Stand) → gs ≡ hs ++ g ∷ [] → g.kind ≡ Some k → IsMade es gs s → InNode es hs g k s
in_node-of es gs hs g k s e is h = by_around s.around refl (around_less gs hs g s.around e h.around)
  where
    by_around : (a : Around) → s.around ≡ a → IsAround (g ∷ reverse hs) a → InNode es hs g k s
    by_around outside w i = absurd i
    by_around (in_node d x a) w i =
        let same : k ≡ i.0.0 = cc in
        record { before = d; origin = x; outer = a; is = w; kind = ap (λ y. y.0) same ∙ i.0.2; own = i.1; terms_before = i.2; around = i.3 }
    by_around (in_group d b a) w i = absurd (cc)

pub made-node : (es fs : List Term) (hs : List Begun) (g : Begun) (k : SyntaxKind) (t : Tree) (s : Stand) (n : InNode es hs g k s) → es ≡ terms (forest_in s.done) → t ≡ tree_of k.0 es
    → fs ≡ g.before.items ++ Node t ∷ [] → IsMade fs hs (closed s.done s.around)
made-node es fs hs g k t s n d m e = subst (λ a. IsMade fs hs (closed s.done a)) (sym n.is) (record {
  done =
      let whole : Marked = inner (record { origin = n.origin; put = false }) (kind_at n.origin.place) s.done nothing in
      let forest : forest_of es ≡ forest_in s.done = ap forest_of d ∙ forest_of-terms (forest_in s.done) in
      let tree : t ≡ record { kind = kind_at n.origin.place; forest = forest_in s.done } = m ∙ (λ j. record { kind = n.kind j; forest = forest j }) in
      e ∙ ap (λ l. l ++ Node t ∷ []) n.terms_before ∙ ap (λ y. terms (forest_in n.before) ++ Node y ∷ []) tree ∙ sym (terms-join n.before whole);
  around = n.around;
})

pub fits-node : (es : List Term) (hs : List Begun) (g : Begun) (k : SyntaxKind) (s : Stand) (n : InNode es hs g k s) → es ≡ terms (forest_in s.done) → FitsNode es → NewFitIn s → NewFitIn (closed s.done s.around)
fits-node es hs g k s n d f h =
    let outer : NewFitAround (in_node n.before n.origin n.outer) = subst NewFitAround n.is h.1 in
    let fits : FitsNode (terms (forest_in s.done)) = subst FitsNode d f in
    subst (λ a. NewFitIn (closed s.done a)) (sym n.is) (new-join n.before _ outer.0 (λ _. fits, h.0, tt), outer.1)

pub new-node : (es : List Term) (hs : List Begun) (g : Begun) (k : SyntaxKind) (s : Stand) (n : InNode es hs g k s) → es ≡ terms (forest_in s.done) → NewFitIn (closed s.done s.around) → FitsNode es
new-node es hs g k s n d h =
    let whole : Marked = inner (record { origin = n.origin; put = false }) (kind_at n.origin.place) s.done nothing in
    let now : NewFitIn (closed s.done (in_node n.before n.origin n.outer)) = subst (λ a. NewFitIn (closed s.done a)) n.is h in
    let tree : Tree = record { kind = kind_at n.origin.place; forest = forest_in s.done } in
    let fits = fits-anyway (term_of n.origin ≡ Some (Node tree)) (terms (forest_in s.done)) (n.own tree) (new-split n.before whole now.0).1.0 in
    subst FitsNode (sym d) fits

-- the innermost open one is a group of inserted elements
pub record InGroup (hs : List Begun) (g : Begun) (s : Stand) : Type 0 where
  pub before : Marked
  pub top : Bool
  pub outer : Around
  pub is : s.around ≡ in_group before top outer
  pub terms_before : g.before.items ≡ terms (forest_in before)
  pub around : IsAround (reverse hs) outer

pub in_group-of : (es : List Term) (gs hs : List Begun) (g : Begun) (s : Stand) → gs ≡ hs ++ g ∷ [] → g.kind ≡ None → IsMade es gs s → InGroup hs g s
in_group-of es gs hs g s e is h = by_around s.around refl (around_less gs hs g s.around e h.around)
  where
    by_around : (a : Around) → s.around ≡ a → IsAround (g ∷ reverse hs) a → InGroup hs g s
    by_around outside w i = absurd i
    by_around (in_node d x a) w i = absurd (cc)
    by_around (in_group d b a) w i = record { before = d; top = b; outer = a; is = w; terms_before = i.1; around = i.2 }

pub made-ended : (es fs : List Term) (hs : List Begun) (g : Begun) (s : Stand) (n : InGroup hs g s) → es ≡ terms (forest_in s.done) → fs ≡ g.before.items ++ es → IsMade fs hs (closed s.done s.around)
made-ended es fs hs g s n d e = subst (λ a. IsMade fs hs (closed s.done a)) (sym n.is) (record {
  done = e ∙ ap (λ l. l ++ es) n.terms_before ∙ ap (λ l. terms (forest_in n.before) ++ l) (d ∙ ap terms (sym (forest_in-with_put n.top s.done))) ∙ sym (terms-join n.before (with_put n.top s.done));
  around = n.around;
})

pub fits-ended : (hs : List Begun) (g : Begun) (s : Stand) (n : InGroup hs g s) → NewFitIn s → NewFitIn (closed s.done s.around)
fits-ended hs g s n h =
    let outer : NewFitAround (in_group n.before n.top n.outer) = subst NewFitAround n.is h.1 in
    subst (λ a. NewFitIn (closed s.done a)) (sym n.is) (new-join n.before _ outer.0 (new-with_put n.top s.done h.0), outer.1)

-- ---- what fits in the end fitted before
new-closed : (d : Marked) (a : Around) → NewFitIn (closed d a) → NewFit d × NewFitAround a
new-closed d outside h = h
new-closed d (in_node before x a) h =
    let both = new-split before (inner (record { origin = x; put = false }) (kind_at x.place) d nothing) h.0 in
    (both.1.1, (both.0, h.1))
new-closed d (in_group before b a) h =
    let both = new-split before (with_put b d) h.0 in
    (new-unput b d both.1, (both.0, h.1))

new-before : (p : Piece) (s : Stand) → NewFitIn (after_piece p s) → NewFitIn s
new-before (Whole x) s h = ((new-split s.done (reading_of blank (element_of x)) h.0).0, h.1)
new-before (Open x) s h = h.1
new-before (Group n) s h = h.1
new-before Close s h = new-closed s.done s.around h

pub new-start : (ps : List Piece) (s : Stand) → NewFitIn (after ps s) → NewFitIn s
new-start [] s h = h
new-start (p ∷ ps) s h = new-before p s (new-start ps (after_piece p s) h)

-- an error that a weaker fact excludes, a stronger one excludes, too
pub refuses-more : (P Q : Type 0) (e : ExecuteError) → (Q → P) → RefusesUnless P e → RefusesUnless Q e
refuses-more P Q TooLong f h = λ q. h (f q)
refuses-more P Q NoMemory f h = tt

pub err_more : {A : Type 0} (r : Result A ExecuteError) (d e : ExecuteError) (P Q : Type 0) → r ≡ Err d → d ≡ e → (Q → P) → RefusesUnless P e → IfErr r (RefusesUnless Q)
err_more r d e P Q h k f g = subst (λ x. IfErr x (RefusesUnless Q)) (sym (h ∙ ap Err k)) (refuses-more P Q e f g)

-- the last open node or group
pub popped : {A : Type 0} (xs ys : List A) (o : Option A) (x y : A) → o ≡ Some x → x ≡ y → xs ≡ ys ++ option_to_list o → xs ≡ ys ++ y ∷ []
popped xs ys o x y e is h = h ∙ ap (λ z. ys ++ option_to_list z) (e ∙ ap Some is)

-- ---- the whole

pub node_alone : (m : Marked) (es : List Term) (t : Tree) → es ≡ terms (forest_in m) → es ≡ Node t ∷ [] → IsNode m t
node_alone m es t e h = sym (forest_of-terms (forest_in m)) ∙ ap forest_of (sym e ∙ h)

pub terms_alone : (m : Marked) (es : List Term) (t : Tree) → es ≡ terms (forest_in m) → IsNode m t → es ≡ Node t ∷ []
terms_alone m es t e h = e ∙ ap terms h

pub rewrite_refused : {A : Type 0} (r : Result A ExecuteError) (d e : ExecuteError) (m : Marked) → r ≡ Err d → d ≡ e → RefusesUnless (NewFit m) e → IfErr r (RefusesRewrite m)
rewrite_refused r d e m h k g = subst (λ x. IfErr x (RefusesRewrite m)) (sym (h ∙ ap Err k)) (by_error e g)
  where
    by_error : (f : ExecuteError) → RefusesUnless (NewFit m) f → RefusesRewrite m f
    by_error TooLong i = new-fails m i
    by_error NoMemory i = tt
