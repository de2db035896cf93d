-- Lemmas about the elements of target trees.
use Rattle.std.proofs.Common.{◌≡◌, ℕ, ◌+◌, ◌<◌, List, [], ◌∷◌, ◌++◌, length, length-drop, get_or, map, drop, Option, Some, None, is_some, true, false, Result, Ok, Err, MatchResult, OnOk, refl, ap, sym, ◌∙◌, arith, subst, append_assoc, slice_get}
use Rattle.std.proofs.lemmas.List.{drop_more}
use Rattle.std.proofs.lemmas.Option.{slice_get-get_or}
use Rattle.rowan_green.specs.Forest.{Forest, empty, node, leaf, Tree, forest_count}
use Rattle.rowan_green.specs.Term.{Term, terms}
use Rattle.rowan_green.specs.declared.utility_types.NodeOrToken.TheVariants.{Node, Token}
use Rattle.rowan.specs.Place.{terms_below, children_in, below}
use Rattle.rowan.specs.Around.{numbered, children}
use Rattle.syntax_tree.specs.Element.{Way, Element, term_of}
use Rattle.syntax_tree.specs.Handle.{element_of, with_number, with_cursor}
use Rattle.syntax_tree.specs.declared.element.SyntaxElement.{SyntaxElement}
use Rattle.syntax_tree.specs.declared.element.SyntaxElement.TheVariants as elements
use Rattle.tree_rewrite.specs.Change.{is_within, covers}
use Rattle.tree_rewrite.specs.Marked.{Marked, nothing, inner, token, join, with_put, origin_at, gap, slot, Sheet, blank, or_own, filled, read_from, reading_of}
use Rattle.tree_rewrite.specs.Below.{AgreeBelow, AgreeChild}
use Rattle.tree_rewrite.specs.Filling.{size_of, sizes_of, ChildrenLeft}
use Rattle.tree_rewrite.specs.Fill.{Given, laid, at_gap, IsBlankBelow, inside, node_in, standing}
use Rattle.tree_rewrite.specs.Pieces.{added, after, after_piece, in_group, is_outermost, Adds}
use Rattle.tree_rewrite.specs.declared.piece.Nesting.{Nesting}
use Rattle.tree_rewrite.specs.declared.piece.Piece.{Piece}
use Rattle.tree_rewrite.specs.declared.piece.Piece.TheVariants.{Whole, Group, Close}
use Rattle.tree_rewrite.proofs.MarkedLemmas.{filled_agree, agree_from}
use Rattle.tree_rewrite.proofs.SheetLemmas.{after-append}
use Rattle.std.proofs.lemmas.Bool.{or_left, and_from, le-leb, false≢true}
use Rattle.rowan_green.specs.Leaf.{Leaf}
use Rattle.tree_rewrite.proofs.OrderLemmas.{same_way-own}

-- ---- an element without changes is unchanged

origin_shift : (e : Element) (v w : Way) → origin_at e (v ++ w) ≡ origin_at (origin_at e w).origin v
origin_shift e v w = ap (λ u. record { origin = record { number = e.number; place = record { root = e.place.root; up = u } }; put = false }) (append_assoc v w e.place.up)

-- the children below `v` of the element at `w`
filled-shift : (e : Element) (v w : Way) (i : ℕ) (f : Forest) → filled blank e (v ++ w) i f ≡ filled blank (origin_at e w).origin v i f
filled-shift e v w i empty = refl
filled-shift e v w i (node k f r) =
    let mark = origin_shift e (i ∷ v) w in
    let low = filled-shift e (i ∷ v) w 0 f in
    let rest = filled-shift e v w (i + 1) r in
    λ j. inner (mark j) k (low j) (rest j)
filled-shift e v w i (leaf l r) =
    let mark = origin_shift e (i ∷ v) w in
    let rest = filled-shift e v w (i + 1) r in
    λ j. token (mark j) l (rest j)

within_own : (w : Way) → is_within w 0 w ≡ true
within_own [] = refl
within_own (i ∷ w) = or_left (covers (i ∷ w) 0 (i ∷ w)) _ (and_from _ _ (same_way-own w) (and_from _ _ (le-leb i i (omega arith)) (le-leb i (i + 0) (omega arith))))

-- the element at `w` of a sheet that says nothing of it
pub standing-whole : (gs : List Given) (n : Option Way) (e : Element) (w : Way) (o : Option Term) → term_of (origin_at e w).origin ≡ o → laid gs n (slot w) ≡ None → IsBlankBelow gs n w
    → reading_of blank (origin_at e w).origin ≡ standing (laid gs n) e w o
standing-whole gs n e w None t h b = ap (read_from blank (origin_at e w).origin) t
standing-whole gs n e w (Some (Node g)) t h b =
    let same = filled_agree (laid gs n) blank e w 0 g.forest (agree_from (laid gs n) blank w b w (within_own w) 0 g.forest) ∙ filled-shift e [] w 0 g.forest in
    ap (read_from blank (origin_at e w).origin) t
    ∙ ap (λ f. inner (origin_at e w) g.kind f nothing) (sym same)
    ∙ ap (λ x. or_own x (node_in (laid gs n) e w (Some (Node g)))) (sym h)
standing-whole gs n e w (Some (Token l)) t h b =
    ap (read_from blank (origin_at e w).origin) t ∙ ap (λ x. or_own x (token (origin_at e w) l nothing)) (sym h)

pub standing-token : (gs : List Given) (n : Option Way) (e : Element) (w : Way) (l : Leaf) → term_of (origin_at e w).origin ≡ Some (Token l) → laid gs n (slot w) ≡ None
    → reading_of blank (origin_at e w).origin ≡ standing (laid gs n) e w (Some (Token l))
standing-token gs n e w l t h =
    ap (read_from blank (origin_at e w).origin) t ∙ ap (λ x. or_own x (token (origin_at e w) l nothing)) (sym h)

-- an element that is replaced
pub standing-replaced : (s : Sheet) (e : Element) (w : Way) (o : Option Term) (g : Term) → o ≡ Some g → is_some (s (slot w)) ≡ true → or_own (s (slot w)) nothing ≡ standing s e w o
standing-replaced s e w o (Node t) h r = by_slot (s (slot w)) r ∙ ap (standing s e w) (sym h)
  where
    by_slot : (x : Option Marked) → is_some x ≡ true → or_own x nothing ≡ or_own x (node_in s e w (Some (Node t)))
    by_slot None k = absurd (false≢true k)
    by_slot (Some m) k = refl
standing-replaced s e w o (Token l) h r = by_slot (s (slot w)) r ∙ ap (standing s e w) (sym h)
  where
    by_slot : (x : Option Marked) → is_some x ≡ true → or_own x nothing ≡ or_own x (token (origin_at e w) l nothing)
    by_slot None k = absurd (false≢true k)
    by_slot (Some m) k = refl

-- a node that is not replaced
pub standing-node : (s : Sheet) (e : Element) (w : Way) (o : Option Term) (t : Tree) → o ≡ Some (Node t) → s (slot w) ≡ None → node_in s e w o ≡ standing s e w o
standing-node s e w o t h r = ap (node_in s e w) h ∙ ap (λ x. or_own x (node_in s e w (Some (Node t)))) (sym r) ∙ ap (standing s e w) (sym h)

-- ---- a child reads alike on sheets that say the same of it
standing-agree : (s t : Sheet) (e : Element) (w : Way) (o : Option Term) → s (slot w) ≡ t (slot w) → AgreeBelow s t w → standing s e w o ≡ standing t e w o
standing-agree s t e w None h b = refl
standing-agree s t e w (Some (Node g)) h b =
    let below = filled_agree s t e w 0 g.forest (agree_from s t w b w (within_own w) 0 g.forest) in
    λ j. or_own (h j) (inner (origin_at e w) g.kind (below j) nothing)
standing-agree s t e w (Some (Token l)) h b = ap (λ x. or_own x (token (origin_at e w) l nothing)) h

pub child-agree : (s t : Sheet) (e : Element) (w : Way) (i : ℕ) (o : Option Term) → AgreeChild s t w i
    → join (or_own (s (gap w i)) nothing) (standing s e (i ∷ w) o) ≡ join (or_own (t (gap w i)) nothing) (standing t e (i ∷ w) o)
child-agree s t e w i o h =
    let own = standing-agree s t e (i ∷ w) o h.1 h.2 in
    λ j. join (or_own (h.0 j) nothing) (own j)

-- a child of which nothing is said
pub child-whole : (gs : List Given) (n : Option Way) (e : Element) (w : Way) (i : ℕ) (x : Element) → gs ≡ [] → x ≡ (origin_at e (i ∷ w)).origin
    → reading_of blank x ≡ join (at_gap gs n w i) (standing (laid gs n) e (i ∷ w) (term_of x))
child-whole gs n e w i x h o =
    ap (reading_of blank) o ∙ standing-whole [] n e (i ∷ w) (term_of x) (ap term_of (sym o)) refl (λ p t k. (refl, refl))
    ∙ ap (λ l. join (at_gap l n w i) (standing (laid l n) e (i ∷ w) (term_of x))) (sym h)

-- ---- what is added for a whole element
pub adds-whole : (ps qs : List Piece) (x : SyntaxElement) → qs ≡ ps ++ Whole x ∷ [] → Adds ps qs (reading_of blank (element_of x))
adds-whole ps qs x e = record { says = λ s. ap (λ l. after l s) e ∙ after-append ps (Whole x ∷ []) s }

-- ---- the terms of a group of inserted elements, after its contents
pub adds-group : (ps opened qs rs : List Piece) (n : Nesting) (f : Marked) → opened ≡ ps ++ Group n ∷ [] → Adds opened qs f → rs ≡ qs ++ Close ∷ [] → Adds ps rs (with_put (is_outermost n) f)
adds-group ps opened qs rs n f o a e = record {
  says = λ s.
      let here : after opened s ≡ record { done = nothing; around = in_group (after ps s).done (is_outermost n) (after ps s).around } = ap (λ l. after l s) o ∙ after-append ps (Group n ∷ []) s in
      ap (λ l. after l s) e ∙ after-append qs (Close ∷ []) s ∙ ap (after_piece Close) (a.says s ∙ ap (added f) here);
}

-- ---- children, one after another

pub terms-inside : (o : Option Term) → terms (inside o) ≡ children_in o
terms-inside None = refl
terms-inside (Some (Node t)) = refl
terms-inside (Some (Token l)) = refl

abbrev pub all_left : (x : Element) (left : List SyntaxElement) → left ≡ map (with_cursor x.number) (children x.place) → ChildrenLeft x 0 left
all_left x left h = record {
  rest = inside (term_of x);
  left_is = h ∙ ap (λ es. map (with_cursor x.number) (numbered x.place 0 es)) (sym (terms-inside (term_of x)));
  drops = terms-inside (term_of x);
  fewer = omega arith;
}

-- a child, and those after it
pub record NextChild (x : Element) (i : ℕ) (child : SyntaxElement) (left : List SyntaxElement) (rest : Forest) : Type 0 where
  pub after : ChildrenLeft x (i + 1) left
  pub at : element_of child ≡ record { number = x.number; place = below x.place i }
  pub inside_bound : i < length (terms_below x.place)
  pub smaller : size_of (element_of child) < size_of x
  pub counted : forest_count rest ≡ size_of (element_of child) + forest_count after.rest
  pub reads : (s : Sheet) (e : Element) (w : Way) → filled s e w i rest ≡ join (or_own (s (gap w i)) nothing) (join (standing s e (i ∷ w) (term_of (element_of child))) (filled s e w (i + 1) after.rest))

pub drop_first : (xs : List Term) (i : ℕ) (y : Term) (ys : List Term) → y ∷ ys ≡ drop i xs → (slice_get xs i ≡ Some y) × (ys ≡ drop (i + 1) xs) × (i < length xs)
drop_first xs i y ys h =
    let within : i < length xs = omega (arith, ap length h, length-drop i xs) in
    let more : y ∷ ys ≡ get_or xs i y ∷ drop (i + 1) xs = h ∙ drop_more xs i y within in
    let head : y ≡ get_or xs i y = cc in
    let tail : ys ≡ drop (i + 1) xs = cc in
    (slice_get-get_or xs i y within ∙ ap Some (sym head), tail, within)

pub next_child : (x : Element) (i : ℕ) (child : SyntaxElement) (all left : List SyntaxElement) (c : ChildrenLeft x i all) → all ≡ child ∷ left → NextChild x i child left c.rest
next_child x i child all left c h = by_rest c.rest c.left_is c.drops c.fewer
  where
    by_rest : (f : Forest) → all ≡ map (with_cursor x.number) (numbered x.place i (terms f)) → terms f ≡ drop i (terms_below x.place) → forest_count f < size_of x → NextChild x i child left f
    by_rest empty is d l = absurd (omega (arith, ap length (sym h ∙ is)))
    by_rest (node k f r) is d l =
        let both : child ∷ left ≡ elements.Node (with_number x.number (below x.place i)) ∷ map (with_cursor x.number) (numbered x.place (i + 1) (terms r)) = sym h ∙ is in
        let child_is : child ≡ elements.Node (with_number x.number (below x.place i)) = cc in
        let left_is : left ≡ map (with_cursor x.number) (numbered x.place (i + 1) (terms r)) = cc in
        let found = drop_first (terms_below x.place) i (Node (record { kind = k; forest = f })) (terms r) d in
        let at = ap element_of child_is in
        let term : term_of (element_of child) ≡ Some (Node (record { kind = k; forest = f })) = ap term_of at ∙ found.0 in
        record {
          after = record { rest = r; left_is = left_is; drops = found.1; fewer = omega (arith, l) };
          at = at;
          inside_bound = found.2;
          smaller = omega (arith, l, ap (λ o. forest_count (inside o)) term);
          counted = omega (arith, ap (λ o. forest_count (inside o)) term);
          reads = λ s e w. ap (λ o. join (or_own (s (gap w i)) nothing) (join (standing s e (i ∷ w) o) (filled s e w (i + 1) r))) (sym term);
        }
    by_rest (leaf t r) is d l =
        let both : child ∷ left ≡ elements.Token (with_number x.number (below x.place i)) ∷ map (with_cursor x.number) (numbered x.place (i + 1) (terms r)) = sym h ∙ is in
        let child_is : child ≡ elements.Token (with_number x.number (below x.place i)) = cc in
        let left_is : left ≡ map (with_cursor x.number) (numbered x.place (i + 1) (terms r)) = cc in
        let found = drop_first (terms_below x.place) i (Token t) (terms r) d in
        let at = ap element_of child_is in
        let term : term_of (element_of child) ≡ Some (Token t) = ap term_of at ∙ found.0 in
        record {
          after = record { rest = r; left_is = left_is; drops = found.1; fewer = omega (arith, l) };
          at = at;
          inside_bound = found.2;
          smaller = omega (arith, l, ap (λ o. forest_count (inside o)) term);
          counted = omega (arith, ap (λ o. forest_count (inside o)) term);
          reads = λ s e w. ap (λ o. join (or_own (s (gap w i)) nothing) (join (standing s e (i ∷ w) o) (filled s e w (i + 1) r))) (sym term);
        }

-- no child is left
pub none_left : (x : Element) (i : ℕ) (left : List SyntaxElement) (c : ChildrenLeft x i left) → left ≡ [] → c.rest ≡ empty
none_left x i left c h = by_rest c.rest c.left_is
  where
    by_rest : (f : Forest) → left ≡ map (with_cursor x.number) (numbered x.place i (terms f)) → f ≡ empty
    by_rest empty is = refl
    by_rest (node k f r) is = absurd (omega (arith, ap length (sym h ∙ is)))
    by_rest (leaf t r) is = absurd (omega (arith, ap length (sym h ∙ is)))

-- the elements of the children that are left
pub left_count : (x : Element) (i : ℕ) (left : List SyntaxElement) (c : ChildrenLeft x i left) → sizes_of left ≡ forest_count c.rest
left_count x i [] c = sym (ap forest_count (none_left x i [] c refl))
left_count x i (y ∷ ys) c =
    let n = next_child x i y (y ∷ ys) ys c refl in
    omega (arith, n.counted, left_count x (i + 1) ys n.after)

-- ---- on success
pub on_ok : {A E : Type 0} (r : Result A E) (P Q : Type 0) → (P → Q) → OnOk r P → OnOk r Q
on_ok (Ok a) P Q f h = f h
on_ok (Err e) P Q f h = h

pub none_of : (o : Option Marked) → is_some o ≡ false → o ≡ None
none_of None h = refl
none_of (Some m) h = absurd (false≢true (sym h))

-- what was given by an iterator that did not fail
pub given : {A E : Type 0} (s t : List A) (r : Result A E) (a : A) → r ≡ Ok a → MatchResult r (λ b. s ≡ b ∷ t) (λ e. t ≡ []) → s ≡ a ∷ t
given {A} {E} s t r a h m = let P : Result A E → Type 0 = λ x. MatchResult x (λ b. s ≡ b ∷ t) (λ e. t ≡ []) in subst P h m
