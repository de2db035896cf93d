-- The walk through a tree enters each of its leaves, so the new text has all of them renamed that are taken.
use Rattle.std.proofs.Common.{◌≡◌, ℕ, zero, suc, ◌+◌, List, [], ◌∷◌, ◌++◌, drop, map, Bool, true, false, not, ◌&&◌, nat_eq, Option, Some, is_some, slice_get, refl, ap, sym, ◌∙◌, arith, subst, inl, inr, if◌then◌else◌}
use Rattle.std.proofs.lemmas.Bool.{and_parts, cases_Bool, eq-eqb, false≢true}
use Rattle.std.specs.List.{cons_option}
use Rattle.rowan_green.specs.Leaf.{Leaf, same_leaf}
use Rattle.rowan_green.specs.Forest.{Forest, empty, node, leaf, Tree, forest_text, tree_text, tree_count}
use Rattle.rowan_green.specs.Term.{Term, kind_of, terms, forest_of, terms-forest_of, forest_of-terms}
use Rattle.rowan_green.specs.declared.utility_types.NodeOrToken.TheVariants.{Node, Token}
use Rattle.rowan.specs.Place.{Place, term_by, term_at, children_in, kind_in, text_in, kind_at, text_at}
use Rattle.rowan.specs.Around.{Cursor, children_before, cursor_in}
use Rattle.rowan.specs.Walk.{Event, walk_forest, entered}
use Rattle.rowan.specs.declared.utility_types.WalkEvent.TheVariants.{Enter, Leave}
use Rattle.syntax_tree.specs.Element.{Way, Element, element_at, term_of}
use Rattle.syntax_tree.specs.Handle.{element_of, with_number, with_cursor}
use Rattle.syntax_tree.specs.Mapping.{Mapping}
use Rattle.syntax_tree.specs.Search.{elements}
use Rattle.syntax_tree.specs.declared.element.SyntaxElement.{SyntaxElement}
use Rattle.syntax_tree.specs.declared.element.SyntaxElement.TheVariants as handles
use Rattle.tree_rewrite.specs.Change.{Change, has_collision}
use Rattle.tree_rewrite.specs.Marked.{forest_in}
use Rattle.tree_rewrite.specs.Moved.{same_kind}
use Rattle.tree_rewrite.specs.Rewrite.{jobs, rewrite}
use Rattle.plain_names.specs.Replacements.{with_leaves}
use Rattle.plain_changes.specs.LeafChanges.{LeafChange, change_of, replacement_of, whole}
use Rattle.plain_changes.proofs.Fits.{keeps-counts}
use Rattle.plain_changes.proofs.Orders.{leaves-replaced}
use Rattle.syntax_editor.specs.Editing.{Editing, untouched, with_changes}
use Rattle.syntax_editor.specs.Recording.{BadTarget, Foreign, Recorded, is_one_node, is_root, is_target, replacing, with_single}
use Rattle.rust_document.specs.Reading.{root_of}
use Rattle.rust_document.specs.Rewrite.{rewritten}
use Rattle.renamer.specs.Taken.{named_leaf, Naming, behind, is_left, is_taken, kinds_before, kinds_of, taken_forest, taken_leaves, taken_text, taken_tree, takes}
use Rattle.renamer.proofs.Changes.{changes_after, ways_after, changes-are, no-collision, with_way, has_way, Covered, covered, at, IsNamed, AreNamed, named-with, named-at, leaf_change, changes-of, all-replace, leaf-after}
use Rattle.rowan_green.specs.Same.{same_leaf-Decides}

pub there : {X : Type 0} (xs : List X) (i : ℕ) (x : X) (ys : List X) → drop i xs ≡ x ∷ ys → (slice_get xs i ≡ Some x) × (drop (i + 1) xs ≡ ys)
there [] zero x ys e = absurd (let z : [] ≡ x ∷ ys = e in cc)
there [] (suc i) x ys e = absurd (let z : [] ≡ x ∷ ys = e in cc)
there (z ∷ xs) zero x ys e = (let same : z ≡ x = cc in ap Some same, let rest : xs ≡ ys = cc in rest)
there (z ∷ xs) (suc i) x ys e =
    let more = there xs i x ys e in
    (more.0, ap (λ (n : ℕ). drop n (z ∷ xs)) (let n : suc i + 1 ≡ suc (i + 1) = omega arith in n) ∙ more.1)

-- ---- each token that is entered is a leaf of the tree

abbrev IsLeafOf : Tree → Place → Type 0
IsLeafOf t p = (l : Leaf) × (term_by t p.up ≡ Some (Token l)) × (p.root ≡ t)

abbrev EntersLeaves : Tree → List Event → Type 0
EntersLeaves t [] = Unit {0}
EntersLeaves t (Enter (Node p) ∷ v) = EntersLeaves t v
EntersLeaves t (Enter (Token p) ∷ v) = IsLeafOf t p × EntersLeaves t v
EntersLeaves t (Leave c ∷ v) = EntersLeaves t v

enters-both : (t : Tree) (v w : List Event) → EntersLeaves t v → EntersLeaves t w → EntersLeaves t (v ++ w)
enters-both t [] w a b = b
enters-both t (Enter (Node p) ∷ v) w a b = enters-both t v w a b
enters-both t (Enter (Token p) ∷ v) w a b = (a.0, enters-both t v w a.1 b)
enters-both t (Leave c ∷ v) w a b = enters-both t v w a b

enters-leaves : (t : Tree) (w : Way) (i : ℕ) (f : Forest) → drop i (children_in (term_by t w)) ≡ terms f → EntersLeaves t (walk_forest (at t w) i f)
enters-leaves t w i empty h = tt
enters-leaves t w i (node k f r) h =
    let found = there (children_in (term_by t w)) i (Node (record { kind = k; forest = f })) (terms r) h in
    enters-both t (walk_forest (at t (i ∷ w)) 0 f) (Leave (Node (at t (i ∷ w))) ∷ walk_forest (at t w) (i + 1) r)
    (enters-leaves t (i ∷ w) 0 f (ap children_in found.0)) (enters-leaves t w (i + 1) r found.1)
enters-leaves t w i (leaf l r) h =
    let found = there (children_in (term_by t w)) i (Token l) (terms r) h in
    ((l, found.0, refl), enters-leaves t w (i + 1) r found.1)

-- ---- so each recorded change is at a token that is renamed

leaf-is : (by : Naming) (p : Place) (l : Leaf) → term_at p ≡ Some (Token l) → same_leaf (record { kind = kind_at p; text = text_at p }) (named_leaf by) ≡ same_leaf l (named_leaf by)
leaf-is by p l h = ap (λ (o : Option Term). same_leaf (record { kind = kind_in o; text = text_in o }) (named_leaf by)) h

not-true : (b : Bool) → not b ≡ true → b ≡ false
not-true true h = sym h
not-true false h = refl

named-leaf : (by : Naming) (t : Tree) (p : Place) → IsLeafOf t p → is_taken by (kinds_before p) (record { kind = kind_at p; text = text_at p }) ≡ true → IsNamed by t p.up
named-leaf by t p is h =
    let both = and_parts (same_leaf (record { kind = kind_at p; text = text_at p }) (named_leaf by)) (not (is_left by (kinds_before p))) h in
    let here : term_at p ≡ Some (Token is.0) = ap (λ (r : Tree). term_by r p.up) is.2 ∙ is.1 in
    record {
      is = is.1 ∙ ap (λ (l : Leaf). Some (Token l)) ((same_leaf-Decides is.0 (named_leaf by)).0 (sym (leaf-is by p is.0 here) ∙ both.0));
      taken = ap (λ (r : Tree). is_left by (kinds_before (at r p.up))) (sym is.2) ∙ not-true (is_left by (kinds_before p)) both.1;
    }

named-after : (by : Naming) (n : ℕ) (t : Tree) (v : List Event) (ws : List Way) → AreNamed by t ws → EntersLeaves t v → AreNamed by t (ways_after by ws (map (with_cursor n) (entered v)))
named-after by n t [] ws a e = a
named-after by n t (Enter (Node p) ∷ v) ws a e = named-after by n t v ws a e
named-after by n t (Enter (Token p) ∷ v) ws a e =
    named-after by n t v (if takes by (handles.Token (with_number n p)) then with_way ws p.up else ws) (by_test (takes by (handles.Token (with_number n p))) refl) e.1
  where
    by_test : (b : Bool) → takes by (handles.Token (with_number n p)) ≡ b → AreNamed by t (if b then with_way ws p.up else ws)
    by_test true y = named-with by t ws p.up a (named-leaf by t p e.0 y)
    by_test false y = a
named-after by n t (Leave c ∷ v) ws a e = named-after by n t v ws a e

-- ---- the elements of a tree

all-enter : (t : Tree) → EntersLeaves t (Enter (Node (at t [])) ∷ walk_forest (at t []) 0 (forest_of (terms t.forest)) ++ Leave (Node (at t [])) ∷ [])
all-enter t =
    enters-both t (walk_forest (at t []) 0 (forest_of (terms t.forest))) (Leave (Node (at t [])) ∷ [])
    (enters-leaves t [] 0 (forest_of (terms t.forest)) (sym (terms-forest_of (terms t.forest)))) tt

pub named-tree : (by : Naming) (n : ℕ) (t : Tree) → AreNamed by t (ways_after by [] (elements (element_at n t [])))
named-tree by n t =
    named-after by n t (Enter (Node (at t [])) ∷ walk_forest (at t []) 0 (forest_of (terms t.forest)) ++ Leave (Node (at t [])) ∷ []) [] tt (all-enter t)

-- each token is a leaf of the tree of this number
abbrev pub AreOfTree : ℕ → Tree → List SyntaxElement → Type 0
AreOfTree n t [] = Unit {0}
AreOfTree n t (handles.Node e ∷ xs) = AreOfTree n t xs
AreOfTree n t (handles.Token e ∷ xs) = ((e.number ≡ n) × IsLeafOf t e.place) × AreOfTree n t xs

of-tree : (n : ℕ) (t : Tree) (v : List Event) → EntersLeaves t v → AreOfTree n t (map (with_cursor n) (entered v))
of-tree n t [] e = tt
of-tree n t (Enter (Node p) ∷ v) e = of-tree n t v e
of-tree n t (Enter (Token p) ∷ v) e = ((refl, e.0), of-tree n t v e.1)
of-tree n t (Leave c ∷ v) e = of-tree n t v e

pub tree-elements : (n : ℕ) (t : Tree) → AreOfTree n t (elements (element_at n t []))
tree-elements n t = of-tree n t (Enter (Node (at t [])) ∷ walk_forest (at t []) 0 (forest_of (terms t.forest)) ++ Leave (Node (at t [])) ∷ []) (all-enter t)

pub of-tree-rest : (n : ℕ) (t : Tree) (x : SyntaxElement) (left rest : List SyntaxElement) → left ≡ x ∷ rest → AreOfTree n t left → AreOfTree n t rest
of-tree-rest n t (handles.Node e) left rest is h = subst (λ (xs : List SyntaxElement). AreOfTree n t xs) is h
of-tree-rest n t (handles.Token e) left rest is h = (subst (λ (xs : List SyntaxElement). AreOfTree n t xs) is h).1

-- ---- a token that is renamed can be replaced

own-kind : (o : Option Term) (l : Leaf) → o ≡ Some (Token l) → same_kind o o ≡ true
own-kind o l h = ap (λ (p : Option Term). same_kind p p) h ∙ eq-eqb l.kind l.kind refl

no-root : (t : Tree) (l : Leaf) (w : Way) → term_by t w ≡ Some (Token l) → is_root w ≡ false
no-root t l [] h = absurd (let z : Some (Node t) ≡ Some (Token l) = h in cc)
no-root t l (i ∷ w) h = refl

leaf-target : (n : ℕ) (t : Tree) (s : Element) → s.number ≡ n → IsLeafOf t s.place → is_target (element_at n t []) s ≡ true
leaf-target n t s number found =
    let own : term_of s ≡ term_by t s.place.up = ap (λ (r : Tree). term_by r s.place.up) found.2 in
    (λ i. nat_eq (number i) n && same_kind (term_by t s.place.up) (own i)) ∙ (λ i. eq-eqb n n refl i && own-kind (term_by t s.place.up) found.0 found.1 i)

token-recorded : (n : ℕ) (t : Tree) (e : Element) (before : Editing) (s : Element) → s.number ≡ n → IsLeafOf t s.place → before.top ≡ element_at n t []
    → replacing before s (e ∷ []) ≡ Recorded (with_single before.changes s.place.up (e ∷ []))
token-recorded n t e before s number here top =
    let put = Recorded (with_single before.changes s.place.up (e ∷ [])) in
    let found : is_target before.top s ≡ true = ap (λ (x : Element). is_target x s) top ∙ leaf-target n t s number here in
    let inner : is_root s.place.up ≡ false = no-root t here.0 s.place.up here.1 in
    λ i. if not (found i) then Foreign else if inner i && not (is_one_node (e ∷ [])) then BadTarget else put

pub named-recorded : (by : Naming) (n : ℕ) (t : Tree) (e : Element) (before : Editing) (x : SyntaxElement) (left rest : List SyntaxElement) → left ≡ x ∷ rest → AreOfTree n t left
    → takes by x ≡ true → before.top ≡ element_at n t [] → replacing before (element_of x) (e ∷ []) ≡ Recorded (with_single before.changes (element_of x).place.up (e ∷ []))
named-recorded by n t e before (handles.Node s) left rest is h named top = absurd (false≢true named)
named-recorded by n t e before (handles.Token s) left rest is h named top =
    let own = (subst (λ (xs : List SyntaxElement). AreOfTree n t xs) is h).0 in
    token-recorded n t e before s own.0 own.1 top

-- ---- the kinds of the siblings before the next one

own-kinds : (q : Place) (o : Option Term) (x : Term) (cs : List Cursor) → o ≡ Some x → kinds_of (cons_option (cursor_in q o) cs) ≡ behind (kind_at q) (kinds_of cs)
own-kinds q o (Node t) cs h = ap (λ (p : Option Term). kinds_of (cons_option (cursor_in q p) cs)) h
own-kinds q o (Token l) cs h = ap (λ (p : Option Term). kinds_of (cons_option (cursor_in q p) cs)) h

next-kinds : (t : Tree) (w : Way) (i : ℕ) (x : Term) (before : List ℕ) → term_by t (i ∷ w) ≡ Some x → before ≡ kinds_before (at t (i ∷ w))
    → behind (kind_of x) before ≡ kinds_before (at t ((i + 1) ∷ w))
next-kinds t w i x before here is =
    let q = at t (i ∷ w) in
    let cs = children_before (at t w) i in
    ap (behind (kind_of x)) is
    ∙ ap (λ (k : ℕ). behind k (kinds_of cs)) (sym (ap kind_in here))
    ∙ sym (own-kinds q (term_at q) x cs here)
    ∙ ap (λ (j : ℕ). kinds_before (at t (j ∷ w))) (let z : suc i ≡ i + 1 = omega arith in z)

-- ---- each token that is renamed and entered has a change

module _ (by : Naming) (n : ℕ) (ws : List Way) where
  abbrev HasEach : List Event → Type 0
  HasEach [] = Unit {0}
  HasEach (Enter (Node p) ∷ v) = HasEach v
  HasEach (Enter (Token p) ∷ v) = (takes by (handles.Token (with_number n p)) ≡ true → has_way ws p.up ≡ true) × HasEach v
  HasEach (Leave c ∷ v) = HasEach v

  has-each : (v : List Event) → Covered by ws (map (with_cursor n) (entered v)) → HasEach v
  has-each [] c = tt
  has-each (Enter (Node p) ∷ v) c = has-each v c.1
  has-each (Enter (Token p) ∷ v) c = (c.0, has-each v c.1)
  has-each (Leave d ∷ v) c = has-each v c

  each-front : (v w : List Event) → HasEach (v ++ w) → HasEach v
  each-front [] w h = tt
  each-front (Enter (Node p) ∷ v) w h = each-front v w h
  each-front (Enter (Token p) ∷ v) w h = (h.0, each-front v w h.1)
  each-front (Leave c ∷ v) w h = each-front v w h

  each-back : (v w : List Event) → HasEach (v ++ w) → HasEach w
  each-back [] w h = h
  each-back (Enter (Node p) ∷ v) w h = each-back v w h
  each-back (Enter (Token p) ∷ v) w h = each-back v w h.1
  each-back (Leave c ∷ v) w h = each-back v w h

  -- a leaf afterwards
  new-leaf : (t : Tree) (new l : Leaf) (u : Way) (before : List ℕ) → AreNamed by t ws → term_by t u ≡ Some (Token l) → before ≡ kinds_before (at t u)
      → (takes by (handles.Token (with_number n (at t u))) ≡ true → has_way ws u ≡ true)
      → (if has_way ws u then new else l) ≡ (if is_taken by before l then new else l)
  new-leaf t new l u before a here is each = elim (cases_Bool (has_way ws u)) [
    | inl y ↦
        let named = named-at by t ws u a y in
        let one : Some (Token l) ≡ Some (Token (named_leaf by)) = sym here ∙ named.is in
        let own : l ≡ named_leaf by = cc in
        let same : same_leaf l (named_leaf by) ≡ true = (same_leaf-Decides l (named_leaf by)).1 own in
        let stays : is_left by before ≡ false = ap (is_left by) is ∙ named.taken in
        let taken : is_taken by before l ≡ true = λ j. same j && not (stays j) in
        ap (λ (b : Bool). if b then new else l) y ∙ sym (ap (λ (b : Bool). if b then new else l) taken)
    | inr y ↦ ap (λ (b : Bool). if b then new else l) y ∙ elim (cases_Bool (is_taken by before l)) [
      | inl z ↦
          let found : is_taken by (kinds_before (at t u)) (record { kind = kind_at (at t u); text = text_at (at t u) }) ≡ is_taken by before l =
          λ j. leaf-is by (at t u) l here j && not (is_left by (sym is j)) in
          absurd (false≢true (sym y ∙ each (found ∙ z)))
      | inr z ↦ sym (ap (λ (b : Bool). if b then new else l) z)
    ]
  ]

  renamed : (t : Tree) (new : Leaf) (e : Element) (w : Way) (i : ℕ) (before : List ℕ) (f : Forest) → AreNamed by t ws
      → drop i (children_in (term_by t w)) ≡ terms f → before ≡ kinds_before (at t (i ∷ w)) → HasEach (walk_forest (at t w) i f)
      → with_leaves (map replacement_of (map (leaf_change by new e) ws)) w i f ≡ taken_forest by new before f
  renamed t new e w i before empty a h is c = refl
  renamed t new e w i before (node k f r) a h is c =
      let inner : Term = Node (record { kind = k; forest = f }) in
      let found = there (children_in (term_by t w)) i inner (terms r) h in
      let v = walk_forest (at t (i ∷ w)) 0 f in
      let x = Leave (Node (at t (i ∷ w))) ∷ walk_forest (at t w) (i + 1) r in
      let low = renamed t new e (i ∷ w) 0 [] f a (ap children_in found.0) refl (each-front v x c) in
      let rest = renamed t new e w (i + 1) (behind k before) r a found.1 (next-kinds t w i inner before found.0 is) (each-back v x c) in
      λ j. node k (low j) (rest j)
  renamed t new e w i before (leaf l r) a h is c =
      let found = there (children_in (term_by t w)) i (Token l) (terms r) h in
      let own = leaf-after by new e ws (i ∷ w) l ∙ new-leaf t new l (i ∷ w) before a found.0 is c.0 in
      let rest = renamed t new e w (i + 1) (behind l.kind before) r a found.1 (next-kinds t w i (Token l) before found.0 is) c.1 in
      λ j. leaf (own j) (rest j)

-- ---- the whole tree

-- the changes, if all elements of a tree were taken in turn
abbrev pub all_changes : Naming → Leaf → Element → Element → List LeafChange
all_changes by new e top = map (leaf_change by new e) (ways_after by [] (elements top))

pub changes-all : (by : Naming) (new : Leaf) (e : Element) (top : Element) → changes_after by e [] (elements top) ≡ map change_of (all_changes by new e top)
changes-all by new e top = changes-are by e [] (elements top) ∙ sym (changes-of by new e (ways_after by [] (elements top)))

pub changes-apart : (by : Naming) (new : Leaf) (e : Element) (top : Element) → has_collision (map change_of (all_changes by new e top)) ≡ false
changes-apart by new e top = ap has_collision (changes-of by new e (ways_after by [] (elements top))) ∙ no-collision by e (elements top)

-- What they make of the tree: each has its place, and the new tree is the renamed one.
pub record Rewritten (by : Naming) (new : Leaf) (cs : List Change) (top : Element) (ms : Mapping) : Type 0 where
  pub placed : is_some (jobs top cs ms) ≡ true
  pub is : forest_in (rewrite top cs ms) ≡ whole (taken_tree by new top.place.root)
  pub count : tree_count (taken_tree by new top.place.root) ≡ tree_count top.place.root

pub rewritten-tree : (by : Naming) (n : ℕ) (t : Tree) (new : Leaf) (e : Element) (ms : Mapping) → term_of e ≡ Some (Token new)
    → Rewritten by new (changes_after by e [] (elements (element_at n t []))) (element_at n t []) ms
rewritten-tree by n t new e ms is =
    let top = element_at n t [] in
    let ws = ways_after by [] (elements top) in
    let gs = all_changes by new e top in
    let f = forest_of (terms t.forest) in
    let v = walk_forest (at t []) 0 f ++ Leave (Node (at t [])) ∷ [] in
    let named : AreNamed by t ws = named-tree by n t in
    let each : HasEach by n ws (walk_forest (at t []) 0 f) =
    each-front by n ws (walk_forest (at t []) 0 f) (Leave (Node (at t [])) ∷ []) (has-each by n ws (Enter (Node (at t [])) ∷ v) (covered by [] (elements top))) in
    let are = changes-all by new e top in
    let made = leaves-replaced top gs ms refl (all-replace by new e t ws named is) (changes-apart by new e top) in
    let all = renamed by n ws t new e [] 0 [] t.forest named refl refl (subst (λ (g : Forest). HasEach by n ws (walk_forest (at t []) 0 g)) (forest_of-terms t.forest) each) in
    record {
      placed = ap (λ (cs : List Change). is_some (jobs top cs ms)) are ∙ made.0;
      is = ap (λ (cs : List Change). forest_in (rewrite top cs ms)) are ∙ made.1 ∙ ap (λ (g : Forest). whole (record { kind = t.kind; forest = g })) all;
      count = ap (λ (g : Forest). tree_count (record { kind = t.kind; forest = g })) (sym all) ∙ keeps-counts gs t;
    }

-- ---- the new text

module _ (by : Naming) (new : Leaf) (same : new.text ≡ by.new) where
  leaf-renamed : (l : Leaf) (b : Bool) → (if b then new else l).text ≡ (if b then by.new else l.text)
  leaf-renamed l true = same
  leaf-renamed l false = refl

  forest-renamed : (before : List ℕ) (f : Forest) → forest_text (taken_forest by new before f) ≡ taken_leaves by before f
  forest-renamed before empty = refl
  forest-renamed before (node k f r) =
      let low = forest-renamed [] f in
      let rest = forest-renamed (behind k before) r in
      λ j. low j ++ rest j
  forest-renamed before (leaf l r) =
      let own = leaf-renamed l (is_taken by before l) in
      let rest = forest-renamed (behind l.kind before) r in
      λ j. own j ++ rest j

  pub text-renamed : (t : Tree) → tree_text (taken_tree by new t) ≡ taken_text by t
  text-renamed t = forest-renamed [] t.forest

pub renamed-tree : (by : Naming) (n : ℕ) (t : Tree) (new : Leaf) (e : Element) (ms : Mapping) → new.text ≡ by.new → term_of e ≡ Some (Token new)
    → let top = element_at n t [] in
    tree_text (root_of (forest_in (rewrite top (changes_after by e [] (elements top)) ms))) ≡ taken_text by t
renamed-tree by n t new e ms same is = ap (λ (g : Forest). tree_text (root_of g)) (rewritten-tree by n t new e ms is).is ∙ text-renamed by new same t

-- ---- an editor that took all elements of its tree

module _ (by : Naming) (n : ℕ) (t : Tree) (new : Leaf) (e : Element) (editor : Editing) (left : List SyntaxElement) (is : term_of e ≡ Some (Token new)) (none : left ≡ []) (own : editor ≡ with_changes (untouched (element_at n t [])) editor.changes)
    (rest : changes_after by e editor.changes left ≡ changes_after by e [] (elements (element_at n t []))) where
  editor-changes : editor.changes ≡ changes_after by e [] (elements (element_at n t []))
  editor-changes = sym (ap (λ (xs : List SyntaxElement). changes_after by e editor.changes xs) none) ∙ rest

  pub editor-is : editor ≡ with_changes (untouched (element_at n t [])) (changes_after by e [] (elements (element_at n t [])))
  editor-is = own ∙ ap (λ (xs : List Change). with_changes (untouched (element_at n t [])) xs) editor-changes

  -- the new text
  pub renamed-editor : new.text ≡ by.new → tree_text (rewritten editor) ≡ taken_text by t
  renamed-editor same = ap (λ (x : Editing). tree_text (rewritten x)) editor-is ∙ renamed-tree by n t new e [] same is
