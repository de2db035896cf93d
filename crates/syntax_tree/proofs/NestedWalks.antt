-- Walks in which all elements entered inside an element are within its range.
use Rattle.std.proofs.Common.{◌≡◌, ℕ, zero, suc, ◌+◌, ◌<◌, ◌≤◌, nat_le, List, [], ◌∷◌, ◌++◌, length, drop, map, refl, ap, sym, ◌∙◌, subst, arith, append_assoc, append-nil, Bool, false, ◌&&◌, ◌==◌, Option, None}
use Rattle.std.specs.Option.{option_or}
use Rattle.std.proofs.lemmas.Bool.{and_parts, and_from, both_ways, eqb-true, le-leb, cond-false, false_from_ne_true}
use Rattle.std.proofs.lemmas.List.Folds.{find-append}
use Rattle.rowan_green.specs.Forest.{Forest, empty, node, leaf}
use Rattle.rowan_green.specs.Term.{forest_of}
use Rattle.rowan_green.specs.declared.utility_types.NodeOrToken.TheVariants.{Node, Token}
use Rattle.rowan.specs.Place.{kind_at, Place, below, terms_below, start_of, end_of}
use Rattle.rowan.specs.Around.{Cursor, place_in}
use Rattle.rowan.specs.Walk.{Event, walk_forest, walk, entered, skipped}
use Rattle.rowan.specs.declared.utility_types.WalkEvent.TheVariants.{Enter, Leave}
use Rattle.rowan.proofs.Places.{end_within, next_start}
use Rattle.syntax_tree.specs.Handle.{element_of, with_cursor}
use Rattle.syntax_tree.specs.Search.{is_of, first_in}
use Rattle.syntax_tree.specs.declared.element.SyntaxElement.{SyntaxElement}

-- the elements entered before the first `Leave` event of an element that was entered `depth` elements further out
abbrev inside : ℕ → List Event → List Cursor
inside depth [] = []
inside depth (Enter c ∷ w) = c ∷ inside (suc depth) w
inside zero (Leave c ∷ w) = []
inside (suc depth) (Leave c ∷ w) = inside depth w

-- the ranges of all elements are between two bytes
abbrev pub AreIn : ℕ → ℕ → List Cursor → Type 0
AreIn a b [] = Unit {0}
AreIn a b (c ∷ cs) = (a ≤ start_of (place_in c)) × (end_of (place_in c) ≤ b) × AreIn a b cs

abbrev AreWithin : Cursor → List Cursor → Type 0
AreWithin c cs = AreIn (start_of (place_in c)) (end_of (place_in c)) cs

abbrev pub Nested : List Event → Type 0
Nested [] = Unit {0}
Nested (Enter c ∷ w) = AreWithin c (inside zero w) × Nested w
Nested (Leave c ∷ w) = Nested w

-- ---- skipped elements

entered-skipped : (d : ℕ) (w : List Event) → entered w ≡ inside d w ++ entered (skipped d w)
entered-skipped d [] = refl
entered-skipped d (Enter c ∷ w) = ap (λ (cs : List Cursor). c ∷ cs) (entered-skipped (suc d) w)
entered-skipped zero (Leave c ∷ w) = refl
entered-skipped (suc d) (Leave c ∷ w) = entered-skipped d w

nested-skipped : (d : ℕ) (w : List Event) → Nested w → Nested (skipped d w)
nested-skipped d [] h = tt
nested-skipped d (Enter c ∷ w) h = nested-skipped (suc d) w h.1
nested-skipped zero (Leave c ∷ w) h = h
nested-skipped (suc d) (Leave c ∷ w) h = nested-skipped d w h

-- an element with another range
other_range : (kind a b : ℕ) (p : Place) (from to : ℕ) → from ≤ start_of p → end_of p ≤ to → (from ≤ a → b ≤ to → ⊥) → is_of kind a b p ≡ false
other_range kind a b p from to starts ends out =
    false_from_ne_true (is_of kind a b p)
    (λ is.
    let both = and_parts (kind_at p == kind) (start_of p == a && end_of p == b) is in
    let own = and_parts (start_of p == a) (end_of p == b) both.1 in
    let start : start_of p ≡ a = eqb-true (start_of p) a own.0 in
    let end : end_of p ≡ b = eqb-true (end_of p) b own.1 in
    out (omega (arith, start, starts)) (omega (arith, end, ends)))

pub none_in : (n kind a b from to : ℕ) (cs : List Cursor) → AreIn from to cs → (from ≤ a → b ≤ to → ⊥) → first_in kind a b (map (with_cursor n) cs) ≡ None
none_in n kind a b from to [] h out = refl
none_in n kind a b from to (Node p ∷ cs) h out = cond-false _ _ _ (other_range kind a b p from to h.0 h.1 out) ∙ none_in n kind a b from to cs h.2 out
none_in n kind a b from to (Token p ∷ cs) h out = cond-false _ _ _ (other_range kind a b p from to h.0 h.1 out) ∙ none_in n kind a b from to cs h.2 out

pub map-both : (n : ℕ) (xs ys : List Cursor) → map (with_cursor n) (xs ++ ys) ≡ map (with_cursor n) xs ++ map (with_cursor n) ys
map-both n [] ys = refl
map-both n (x ∷ xs) ys = ap (λ (cs : List SyntaxElement). with_cursor n x ∷ cs) (map-both n xs ys)

-- the first entered element with a kind and a range
abbrev pub found : ℕ → ℕ → ℕ → ℕ → List Event → Option SyntaxElement
found n kind a b w = first_in kind a b (map (with_cursor n) (entered w))

-- an element inside one that does not contain the range does not have the range
passed_over : (n kind a b from to : ℕ) (w : List Event) → AreIn from to (inside zero w) → (from ≤ a → b ≤ to → ⊥) → found n kind a b w ≡ found n kind a b (skipped zero w)
passed_over n kind a b from to w h out =
    let test : SyntaxElement → Bool = λ x. is_of kind a b (element_of x).place in
    let xs = map (with_cursor n) (inside zero w) in
    let ys = map (with_cursor n) (entered (skipped zero w)) in
    ap (λ (cs : List Cursor). first_in kind a b (map (with_cursor n) cs)) (entered-skipped zero w)
    ∙ ap (first_in kind a b) (map-both n (inside zero w) (entered (skipped zero w)))
    ∙ find-append test xs ys
    ∙ ap (λ (o : Option SyntaxElement). option_or o (first_in kind a b ys)) (none_in n kind a b from to (inside zero w) h out)

place_of : (n : ℕ) (c : Cursor) → (element_of (with_cursor n c)).place ≡ place_in c
place_of n (Node p) = refl
place_of n (Token p) = refl

-- the walk continues, and no match is missed
pub record GoesOn (n kind a b : ℕ) (v w : List Event) : Type 0 where
  pub nested : Nested w
  pub same : found n kind a b v ≡ found n kind a b w
  pub shorter : length w < length v

-- after an element that does not match
pub goes_on : (n kind a b : ℕ) (c : Cursor) (v w : List Event) → v ≡ Enter c ∷ w → Nested v → is_of kind a b (element_of (with_cursor n c)).place ≡ false → GoesOn n kind a b v w
goes_on n kind a b c v w is h other = record {
  nested = let P : List Event → Type 0 = Nested in let all = subst P is h in all.1;
  same = ap (found n kind a b) is ∙ cond-false _ _ _ other;
  shorter = omega (arith, ap length is);
}

shorter-skipped : (d : ℕ) (w : List Event) → length (skipped d w) ≤ length w
shorter-skipped d [] = omega arith
shorter-skipped d (Enter c ∷ w) = omega (arith, shorter-skipped (suc d) w)
shorter-skipped zero (Leave c ∷ w) = omega arith
shorter-skipped (suc d) (Leave c ∷ w) = omega (arith, shorter-skipped d w)

pub out_of : (a b from to : ℕ) → (nat_le from a && nat_le b to) ≡ false → from ≤ a → b ≤ to → ⊥
out_of a b from to out l r = both_ways _ out (and_from _ _ (le-leb from a l) (le-leb b to r))

-- after an element that does not contain the range, and all elements inside it
pub goes_over : (n kind a b : ℕ) (c : Cursor) (v w : List Event) → v ≡ Enter c ∷ w → Nested v → is_of kind a b (element_of (with_cursor n c)).place ≡ false
    → (nat_le (start_of (element_of (with_cursor n c)).place) a && nat_le b (end_of (element_of (with_cursor n c)).place)) ≡ false
    → GoesOn n kind a b v (skipped zero w)
goes_over n kind a b c v w is h other out =
    let first = goes_on n kind a b c v w is h other in
    let P : List Event → Type 0 = Nested in
    let all = subst P is h in
    let from = start_of (place_in c) in
    let to = end_of (place_in c) in
    let outside : (nat_le from a && nat_le b to) ≡ false = ap (λ (p : Place). nat_le (start_of p) a && nat_le b (end_of p)) (sym (place_of n c)) ∙ out in
    record {
      nested = nested-skipped zero w first.nested;
      same = first.same ∙ passed_over n kind a b from to w all.0 (out_of a b from to outside);
      shorter = omega (arith, first.shorter, shorter-skipped zero w);
    }

-- ---- the walk through a tree

pub entered-append : (v w : List Event) → entered (v ++ w) ≡ entered v ++ entered w
entered-append [] w = refl
entered-append (Enter c ∷ v) w = ap (λ (cs : List Cursor). c ∷ cs) (entered-append v w)
entered-append (Leave c ∷ v) w = entered-append v w

all-in : (a b : ℕ) (xs ys : List Cursor) → AreIn a b xs → AreIn a b ys → AreIn a b (xs ++ ys)
all-in a b [] ys h k = k
all-in a b (x ∷ xs) ys h k = (h.0, h.1, all-in a b xs ys h.2 k)

wider : (a b from to : ℕ) (cs : List Cursor) → from ≤ a → b ≤ to → AreIn a b cs → AreIn from to cs
wider a b from to [] l r h = tt
wider a b from to (c ∷ cs) l r h = (omega (arith, h.0, l), omega (arith, h.1, r), wider a b from to cs l r h.2)

inside-forest : (d : ℕ) (p : Place) (i : ℕ) (f : Forest) (w : List Event) → inside d (walk_forest p i f ++ w) ≡ entered (walk_forest p i f) ++ inside d w
inside-forest d p i empty w = refl
inside-forest d p i (leaf l r) w = ap (λ (cs : List Cursor). Token (below p i) ∷ cs) (inside-forest d p (i + 1) r w)
inside-forest d p i (node k g r) w =
    let here : Cursor = Node (below p i) in
    let below_it = walk_forest (below p i) 0 g in
    let after = walk_forest p (i + 1) r in
    ap (λ (v : List Event). here ∷ inside (suc d) v) (append_assoc below_it (Leave here ∷ after) w)
    ∙ ap (λ (cs : List Cursor). here ∷ cs) (inside-forest (suc d) (below p i) 0 g (Leave here ∷ (after ++ w)))
    ∙ ap (λ (cs : List Cursor). here ∷ (entered below_it ++ cs)) (inside-forest d p (i + 1) r w)
    ∙ ap (λ (cs : List Cursor). here ∷ cs) (sym (append_assoc (entered below_it) (entered after) (inside d w)))
    ∙ ap (λ (cs : List Cursor). here ∷ (cs ++ inside d w)) (sym (entered-append below_it (Leave here ∷ after)))

-- a child begins no earlier than the one before it
later : (p : Place) (i low : ℕ) → low ≤ start_of (below p i) → low ≤ start_of (below p (i + 1))
later p i low h =
    let next : start_of (below p (i + 1)) ≡ end_of (below p i) = next_start p i in
    let on : start_of (below p i) ≤ end_of (below p i) = omega arith in
    omega (arith, h, next, on)

-- the elements entered below a place, from a child on, are between a byte at or before the start of the child and the end of the place
pub forest-from : (p : Place) (i low : ℕ) (f : Forest) → low ≤ start_of (below p i) → AreIn low (end_of p) (entered (walk_forest p i f))
forest-from p i low empty h = tt
forest-from p i low (leaf l r) h = (h, end_within p i, forest-from p (i + 1) low r (later p i low h))
forest-from p i low (node k g r) h =
    let below_it = walk_forest (below p i) 0 g in
    let after = walk_forest p (i + 1) r in
    let own = forest-from (below p i) 0 (start_of (below p i)) g (omega arith) in
    let inner = wider _ _ low (end_of p) (entered below_it) h (end_within p i) own in
    let both = all-in _ _ (entered below_it) (entered after) inner (forest-from p (i + 1) low r (later p i low h)) in
    let P : List Cursor → Type 0 = AreIn low (end_of p) in
    (h, end_within p i, subst P (sym (entered-append below_it (Leave (Node (below p i)) ∷ after))) both)

-- the elements entered below an element are within its range
pub forest-in : (p : Place) (i : ℕ) (f : Forest) → AreIn (start_of p) (end_of p) (entered (walk_forest p i f))
forest-in p i f = forest-from p i (start_of p) f (omega arith)

-- the elements entered before the `Leave` event of an element are those below it
below-within : (p : Place) (i : ℕ) (f : Forest) (w : List Event) → AreWithin (Node p) (inside zero (walk_forest p i f ++ Leave (Node p) ∷ w))
below-within p i f w =
    let P : List Cursor → Type 0 = AreWithin (Node p) in
    subst P (sym (inside-forest zero p i f (Leave (Node p) ∷ w) ∙ append-nil (entered (walk_forest p i f)))) (forest-in p i f)

nested-forest : (p : Place) (i : ℕ) (f : Forest) (w : List Event) → Nested w → Nested (walk_forest p i f ++ w)
nested-forest p i empty w h = h
nested-forest p i (leaf l r) w h = (tt, nested-forest p (i + 1) r w h)
nested-forest p i (node k g r) w h =
    let here : Cursor = Node (below p i) in
    let below_it = walk_forest (below p i) 0 g in
    let rest = walk_forest p (i + 1) r ++ w in
    let Q : List Event → Type 0 = λ v. AreWithin here (inside zero v) × Nested v in
    subst Q (sym (append_assoc below_it (Leave here ∷ walk_forest p (i + 1) r) w))
    (below-within (below p i) 0 g rest, nested-forest (below p i) 0 g (Leave here ∷ rest) (nested-forest p (i + 1) r w h))

pub walk_nested : (p : Place) → Nested (walk (Node p))
walk_nested p =
    let f = forest_of (drop 0 (terms_below p)) in
    (below-within p 0 f [], nested-forest p 0 f (Leave (Node p) ∷ []) tt)
