-- What the code that lists origins goes by.
use Rattle.std.proofs.Common.{◌≡◌, ℕ, ◌+◌, List, [], ◌∷◌, ◌++◌, map, Some, Bool, refl, ap, sym, ◌∙◌, append_assoc}
use Rattle.std.proofs.lemmas.List.{append-nil}
use Rattle.rowan_green.specs.Forest.{Forest, empty, node, leaf, Tree}
use Rattle.rowan_green.specs.Term.{forest_of, forest_of-terms}
use Rattle.rowan_green.specs.Leaf.{Leaf}
use Rattle.rowan_green.specs.declared.utility_types.NodeOrToken.TheVariants.{Node, Token}
use Rattle.rowan.specs.Place.{below, children_in, terms_below}
use Rattle.rowan.specs.Walk.{Event, walk_forest, walk_from, walk, entered}
use Rattle.rowan.specs.declared.utility_types.WalkEvent.TheVariants.{Enter, Leave}
use Rattle.syntax_tree.specs.Element.{Way, Element, term_of}
use Rattle.syntax_tree.specs.Handle.{element_of, with_cursor}
use Rattle.tree_rewrite.specs.Marked.{Marked, nothing, inner, token, origins, with_put, origin_at, filled, blank, read_from, reading_of}
use Rattle.tree_rewrite.specs.Pieces.{Around, outside, in_node, in_group, Stand, start, closed, after_piece, after, Say}
use Rattle.tree_rewrite.specs.Came.{origins_by, all_origins}
use Rattle.tree_rewrite.specs.declared.piece.Piece.{Piece}
use Rattle.tree_rewrite.specs.declared.piece.Piece.TheVariants.{Whole, Open, Group, Close}
use Rattle.tree_rewrite.proofs.MarkedLemmas.{origins-join}

-- ---- a walk meets the origins of an unchanged element
abbrev pub walked : ℕ → List Event → List Element
walked n v = map element_of (map (with_cursor n) (entered v))

walked-append : (n : ℕ) (v w : List Event) → walked n (v ++ w) ≡ walked n v ++ walked n w
walked-append n [] w = refl
walked-append n (Enter (Node p) ∷ v) w = ap (λ l. record { number = n; place = p } ∷ l) (walked-append n v w)
walked-append n (Enter (Token p) ∷ v) w = ap (λ l. record { number = n; place = p } ∷ l) (walked-append n v w)
walked-append n (Leave c ∷ v) w = walked-append n v w

walked-filled : (e : Element) (w : Way) (i : ℕ) (f : Forest) → walked e.number (walk_forest (origin_at e w).origin.place i f) ≡ origins (filled blank e w i f)
walked-filled e w i empty = refl
walked-filled e w i (node k f r) =
    let p = (origin_at e w).origin.place in
    let low = walk_forest (below p i) 0 f in
    let rest = walk_forest p (i + 1) r in
    ap (λ l. (origin_at e (i ∷ w)).origin ∷ l)
    (walked-append e.number low (Leave (Node (below p i)) ∷ rest)
    ∙ λ j. walked-filled e (i ∷ w) 0 f j ++ walked-filled e w (i + 1) r j)
walked-filled e w i (leaf l r) = ap (λ x. (origin_at e (i ∷ w)).origin ∷ x) (walked-filled e w (i + 1) r)

pub walked-whole : (x : Element) (t : Tree) → term_of x ≡ Some (Node t) → walked x.number (walk (Node x.place)) ≡ origins (reading_of blank x)
walked-whole x t h =
    let forest : forest_of (terms_below x.place) ≡ t.forest = ap (λ o. forest_of (children_in o)) h ∙ forest_of-terms t.forest in
    let inside = walked-append x.number (walk_from x.place 0) (Leave (Node x.place) ∷ []) ∙ append-nil (walked x.number (walk_from x.place 0)) in
    let low = inside ∙ ap (λ f. walked x.number (walk_forest x.place 0 f)) forest ∙ walked-filled x [] 0 t.forest in
    ap (λ l. x ∷ l) (low ∙ sym (append-nil (origins (filled blank x [] 0 t.forest)))) ∙ ap (λ o. origins (read_from blank x o)) (sym h)

pub token-whole : (x : Element) (l : Leaf) → term_of x ≡ Some (Token l) → x ∷ [] ≡ origins (reading_of blank x)
token-whole x l h = ap (λ o. origins (read_from blank x o)) (sym h)

-- ---- what pieces bring is what they say
origins-with_put : (b : Bool) (m : Marked) → origins (with_put b m) ≡ origins m
origins-with_put b nothing = refl
origins-with_put b (inner m k f r) = ap (λ l. m.origin ∷ (origins f ++ l)) (origins-with_put b r)
origins-with_put b (token m l r) = ap (λ l. m.origin ∷ l) (origins-with_put b r)

abbrev origins_around : Around → List Element
origins_around outside = []
origins_around (in_node d e a) = origins_around a ++ (origins d ++ e ∷ [])
origins_around (in_group d b a) = origins_around a ++ origins d

abbrev origins_in : Stand → List Element
origins_in s = origins_around s.around ++ origins s.done

origins-closed : (d : Marked) (a : Around) → origins_in (closed d a) ≡ origins_around a ++ origins d
origins-closed d outside = refl
origins-closed d (in_node before e a) =
    ap (λ l. origins_around a ++ l)
    (origins-join before _ ∙ ap (λ l. origins before ++ e ∷ l) (append-nil (origins d)) ∙ sym (append_assoc (origins before) (e ∷ []) (origins d)))
    ∙ sym (append_assoc (origins_around a) (origins before ++ e ∷ []) (origins d))
origins-closed d (in_group before b a) =
    ap (λ l. origins_around a ++ l) (origins-join before (with_put b d) ∙ ap (λ l. origins before ++ l) (origins-with_put b d))
    ∙ sym (append_assoc (origins_around a) (origins before) (origins d))

origins-piece : (p : Piece) (s : Stand) → origins_in (after_piece p s) ≡ origins_in s ++ origins_by p
origins-piece (Whole x) s =
    ap (λ l. origins_around s.around ++ l) (origins-join s.done (reading_of blank (element_of x)))
    ∙ sym (append_assoc (origins_around s.around) (origins s.done) (origins (reading_of blank (element_of x))))
origins-piece (Open x) s = append-nil _ ∙ sym (append_assoc (origins_around s.around) (origins s.done) (x ∷ []))
origins-piece (Group n) s = refl
origins-piece Close s = origins-closed s.done s.around ∙ sym (append-nil (origins_in s))

origins-after : (ps : List Piece) (s : Stand) → origins_in (after ps s) ≡ origins_in s ++ all_origins ps
origins-after [] s = sym (append-nil (origins_in s))
origins-after (p ∷ ps) s =
    origins-after ps (after_piece p s) ∙ ap (λ l. l ++ all_origins ps) (origins-piece p s) ∙ append_assoc (origins_in s) (origins_by p) (all_origins ps)

pub origins-said : (ps : List Piece) (m : Marked) → Say ps m → all_origins ps ≡ origins m
origins-said ps m h = sym (origins-after ps start) ∙ ap origins_in (h.says start)
