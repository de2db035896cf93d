-- What is recorded for the elements that are renamed: one change each, at up-paths that are all different.
use Rattle.std.proofs.Common.{◌≡◌, ℕ, ◌+◌, List, [], ◌∷◌, map, Bool, true, false, ◌&&◌, ◌||◌, not, nat_le, refl, ap, sym, ◌∙◌, arith, subst, Some, inl, inr, if◌then◌else◌}
use Rattle.std.specs.List.{list_any}
use Rattle.std.specs.Cmp.Lexicographic.{bytes_decides}
use Rattle.std.proofs.lemmas.Bool.{cases_Bool, false≢true}
use Rattle.rowan_green.specs.Leaf.{Leaf}
use Rattle.rowan_green.specs.Forest.{Tree}
use Rattle.rowan_green.specs.declared.utility_types.NodeOrToken.TheVariants as terms
use Rattle.rowan.specs.Place.{Place, term_by}
use Rattle.syntax_tree.specs.Element.{Way, same_way, Element, term_of}
use Rattle.syntax_tree.specs.Handle.{element_of}
use Rattle.syntax_tree.specs.declared.element.SyntaxElement.{SyntaxElement}
use Rattle.tree_rewrite.specs.Change.{Change, replace, meets, rows_meet, has_collision}
use Rattle.syntax_editor.specs.Editing.{Editing}
use Rattle.syntax_editor.specs.Recording.{with_single, is_target, is_root, is_one_node, replacing, Recorded, Foreign, BadTarget}
use Rattle.plain_names.specs.Replacements.{leaf_after}
use Rattle.plain_changes.specs.LeafChanges.{LeafChange, change_of, replacement_of, AreLeafChanges}
use Rattle.plain_changes.proofs.Rewritten.{bool-same, covers-is}
use Rattle.renamer.specs.Taken.{named_leaf, Naming, is_left, kinds_before, takes}

-- ---- the changes, by their up-paths

-- the element at an up-path is replaced
abbrev pub change : Element → Way → Change
change e w = replace w 0 (e ∷ []) true

-- the changes after these elements
abbrev pub changes_after : Naming → Element → List Change → List SyntaxElement → List Change
changes_after by e cs [] = cs
changes_after by e cs (x ∷ xs) = changes_after by e (if takes by x then with_single cs (element_of x).place.up (e ∷ []) else cs) xs

-- the up-paths with one more, if it is not among them
abbrev pub with_way : List Way → Way → List Way
with_way [] w = w ∷ []
with_way (v ∷ vs) w = if same_way v w then v ∷ vs else v ∷ with_way vs w

abbrev pub ways_after : Naming → List Way → List SyntaxElement → List Way
ways_after by ws [] = ws
ways_after by ws (x ∷ xs) = ways_after by (if takes by x then with_way ws (element_of x).place.up else ws) xs

abbrev pub has_way : List Way → Way → Bool
has_way [] w = false
has_way (v ∷ vs) w = same_way v w || has_way vs w

single-way : (e : Element) (ws : List Way) (w : Way) → with_single (map (change e) ws) w (e ∷ []) ≡ map (change e) (with_way ws w)
single-way e [] w = refl
single-way e (v ∷ ws) w = elim (cases_Bool (same_way v w)) [
  | inl y ↦
      ap (λ (b : Bool). if b then change e w ∷ map (change e) ws else change e v ∷ with_single (map (change e) ws) w (e ∷ [])) y
      ∙ ap (λ (u : Way). change e u ∷ map (change e) ws) (sym ((bytes_decides v w).0 y))
      ∙ sym (ap (λ (b : Bool). map (change e) (if b then v ∷ ws else v ∷ with_way ws w)) y)
  | inr n ↦
      ap (λ (b : Bool). if b then change e w ∷ map (change e) ws else change e v ∷ with_single (map (change e) ws) w (e ∷ [])) n
      ∙ ap (λ (cs : List Change). change e v ∷ cs) (single-way e ws w)
      ∙ sym (ap (λ (b : Bool). map (change e) (if b then v ∷ ws else v ∷ with_way ws w)) n)
]

one-step : (e : Element) (ws : List Way) (w : Way) (b : Bool) → (if b then with_single (map (change e) ws) w (e ∷ []) else map (change e) ws) ≡ map (change e) (if b then with_way ws w else ws)
one-step e ws w true = single-way e ws w
one-step e ws w false = refl

pub changes-are : (by : Naming) (e : Element) (ws : List Way) (xs : List SyntaxElement) → changes_after by e (map (change e) ws) xs ≡ map (change e) (ways_after by ws xs)
changes-are by e ws [] = refl
changes-are by e ws (x ∷ xs) =
    let w = (element_of x).place.up in
    ap (λ (cs : List Change). changes_after by e cs xs) (one-step e ws w (takes by x))
    ∙ changes-are by e (if takes by x then with_way ws w else ws) xs

-- ---- one element more

recorded-is : (a b : Bool) (xs cs : List Change) → (if a then Foreign else if b then BadTarget else Recorded xs) ≡ Recorded cs → xs ≡ cs
recorded-is true b xs cs h = absurd (let z : Foreign ≡ Recorded cs = h in cc)
recorded-is false true xs cs h = absurd (let z : BadTarget ≡ Recorded cs = h in cc)
recorded-is false false xs cs h = let z : Recorded xs ≡ Recorded cs = h in cc

-- an element that is renamed is taken
pub named-next :
    (by : Naming) (e : Element) (before after : Editing) (x : SyntaxElement) (left rest : List SyntaxElement) (all : List Change) → left ≡ x ∷ rest → takes by x ≡ true
    → replacing before (element_of x) (e ∷ []) ≡ Recorded after.changes → changes_after by e before.changes left ≡ all → changes_after by e after.changes rest ≡ all
named-next by e before after x left rest all is named put h =
    let w = (element_of x).place.up in
    ap (λ (cs : List Change). changes_after by e cs rest) (sym (recorded-is (not (is_target before.top (element_of x))) (is_root w && not (is_one_node (e ∷ []))) (with_single before.changes w (e ∷ [])) after.changes put))
    ∙ sym (ap (λ (b : Bool). changes_after by e (if b then with_single before.changes w (e ∷ []) else before.changes) rest) named)
    ∙ sym (ap (λ (xs : List SyntaxElement). changes_after by e before.changes xs) is)
    ∙ h

-- another one is passed
pub other-next :
    (by : Naming) (e : Element) (cs : List Change) (x : SyntaxElement) (left rest : List SyntaxElement) (all : List Change) → left ≡ x ∷ rest → takes by x ≡ false
    → changes_after by e cs left ≡ all → changes_after by e cs rest ≡ all
other-next by e cs x left rest all is other h =
    sym (ap (λ (b : Bool). changes_after by e (if b then with_single cs (element_of x).place.up (e ∷ []) else cs) rest) other)
    ∙ sym (ap (λ (xs : List SyntaxElement). changes_after by e cs xs) is)
    ∙ h

-- ---- all are different

flipped : (v w : Way) → same_way v w ≡ same_way w v
flipped v w = bool-same _ _
    (λ h. (bytes_decides w v).1 (sym ((bytes_decides v w).0 h)))
    (λ h. (bytes_decides v w).1 (sym ((bytes_decides w v).0 h)))

rows-are : (v w : Way) → rows_meet v 0 w 0 ≡ same_way v w
rows-are [] w = covers-is w [] ∙ flipped w []
rows-are (a ∷ p) [] = refl
rows-are (a ∷ p) (c ∷ u) =
    ap (λ (n : ℕ). same_way p u && (nat_le a n && nat_le c (a + 0))) (let z : c + 0 ≡ c = omega arith in z) ∙ covers-is (a ∷ p) (c ∷ u)

abbrev has_twice : List Way → Bool
has_twice [] = false
has_twice (v ∷ vs) = has_way vs v || has_twice vs

any-way : (e : Element) (v : Way) (ws : List Way) → list_any (meets (change e v)) (map (change e) ws) ≡ has_way ws v
any-way e v [] = refl
any-way e v (u ∷ ws) =
    ap (λ (b : Bool). b || list_any (meets (change e v)) (map (change e) ws)) (rows-are v u ∙ flipped v u)
    ∙ ap (λ (b : Bool). same_way u v || b) (any-way e v ws)

collides : (e : Element) (ws : List Way) → has_collision (map (change e) ws) ≡ has_twice ws
collides e [] = refl
collides e (v ∷ ws) =
    ap (λ (b : Bool). b || has_collision (map (change e) ws)) (any-way e v ws) ∙ ap (λ (b : Bool). has_way ws v || b) (collides e ws)

or-false : (a b : Bool) → a ≡ false → b ≡ false → (a || b) ≡ false
or-false true b p q = p
or-false false b p q = q

pub or-parts : (a b : Bool) → (a || b) ≡ false → (a ≡ false) × (b ≡ false)
or-parts true b h = let z : true ≡ false = h in absurd (cc)
or-parts false b h = (refl, h)

or-more : (a b c : Bool) → (b ≡ true → c ≡ true) → (a || b) ≡ true → (a || c) ≡ true
or-more true b c f h = refl
or-more false b c f h = f h

lacks : (ws : List Way) (w u : Way) → has_way ws u ≡ false → same_way w u ≡ false → has_way (with_way ws w) u ≡ false
lacks [] w u h n = or-false (same_way w u) false n refl
lacks (v ∷ ws) w u h n =
    let parts = or-parts (same_way v u) (has_way ws u) h in
    by_test (same_way v w) parts.0 parts.1 (lacks ws w u parts.1 n)
  where
    by_test : (b : Bool) → same_way v u ≡ false → has_way ws u ≡ false → has_way (with_way ws w) u ≡ false → has_way (if b then v ∷ ws else v ∷ with_way ws w) u ≡ false
    by_test true p q more = or-false (same_way v u) (has_way ws u) p q
    by_test false p q more = or-false (same_way v u) (has_way (with_way ws w) u) p more

once : (ws : List Way) (w : Way) → has_twice ws ≡ false → has_twice (with_way ws w) ≡ false
once [] w h = refl
once (v ∷ ws) w h =
    let parts = or-parts (has_way ws v) (has_twice ws) h in
    by_test (same_way v w) refl parts.0 (once ws w parts.1)
  where
    by_test : (b : Bool) → same_way v w ≡ b → has_way ws v ≡ false → has_twice (with_way ws w) ≡ false → has_twice (if b then v ∷ ws else v ∷ with_way ws w) ≡ false
    by_test true y p more = h
    by_test false y p more = or-false (has_way (with_way ws w) v) (has_twice (with_way ws w)) (lacks ws w v p (flipped w v ∙ y)) more

once-each : (by : Naming) (ws : List Way) (xs : List SyntaxElement) → has_twice ws ≡ false → has_twice (ways_after by ws xs) ≡ false
once-each by ws [] h = h
once-each by ws (x ∷ xs) h = once-each by (if takes by x then with_way ws (element_of x).place.up else ws) xs (by_test (takes by x))
  where
    by_test : (b : Bool) → has_twice (if b then with_way ws (element_of x).place.up else ws) ≡ false
    by_test true = once ws (element_of x).place.up h
    by_test false = h

pub no-collision : (by : Naming) (e : Element) (xs : List SyntaxElement) → has_collision (map (change e) (ways_after by [] xs)) ≡ false
no-collision by e xs = collides e (ways_after by [] xs) ∙ once-each by [] xs refl

-- ---- each renamed element has one

has-own : (ws : List Way) (w : Way) → has_way (with_way ws w) w ≡ true
has-own [] w = ap (λ (b : Bool). b || false) ((bytes_decides w w).1 refl)
has-own (v ∷ ws) w = by_test (same_way v w) refl (has-own ws w)
  where
    by_test : (b : Bool) → same_way v w ≡ b → has_way (with_way ws w) w ≡ true → has_way (if b then v ∷ ws else v ∷ with_way ws w) w ≡ true
    by_test true y more = ap (λ (b : Bool). b || has_way ws w) y
    by_test false n more = ap (λ (b : Bool). b || has_way (with_way ws w) w) n ∙ more

has-more : (ws : List Way) (w u : Way) → has_way ws u ≡ true → has_way (with_way ws w) u ≡ true
has-more [] w u h = absurd (false≢true h)
has-more (v ∷ ws) w u h = by_test (same_way v w) (has-more ws w u)
  where
    by_test : (b : Bool) → (has_way ws u ≡ true → has_way (with_way ws w) u ≡ true) → has_way (if b then v ∷ ws else v ∷ with_way ws w) u ≡ true
    by_test true more = h
    by_test false more = or-more (same_way v u) (has_way ws u) (has_way (with_way ws w) u) more h

grows : (by : Naming) (ws : List Way) (xs : List SyntaxElement) (u : Way) → has_way ws u ≡ true → has_way (ways_after by ws xs) u ≡ true
grows by ws [] u h = h
grows by ws (x ∷ xs) u h = grows by (if takes by x then with_way ws (element_of x).place.up else ws) xs u (by_test (takes by x))
  where
    by_test : (b : Bool) → has_way (if b then with_way ws (element_of x).place.up else ws) u ≡ true
    by_test true = has-more ws (element_of x).place.up u h
    by_test false = h

abbrev pub Covered : Naming → List Way → List SyntaxElement → Type 0
Covered by ws [] = Unit {0}
Covered by ws (x ∷ xs) = (takes by x ≡ true → has_way ws (element_of x).place.up ≡ true) × Covered by ws xs

pub covered : (by : Naming) (ws : List Way) (xs : List SyntaxElement) → Covered by (ways_after by ws xs) xs
covered by ws [] = tt
covered by ws (x ∷ xs) =
    let w = (element_of x).place.up in (
      λ y. grows by (if takes by x then with_way ws w else ws) xs w
          (subst (λ (b : Bool). has_way (if b then with_way ws w else ws) w ≡ true) (sym y) (has-own ws w)),
      covered by (if takes by x then with_way ws w else ws) xs,
    )

-- ---- each is at a token that is renamed

abbrev pub at : Tree → Way → Place
at t w = record { root = t; up = w }

-- The leaf at an up-path is renamed.
pub record IsNamed (by : Naming) (t : Tree) (w : Way) : Type 0 where
  pub is : term_by t w ≡ Some (terms.Token (named_leaf by))
  pub taken : is_left by (kinds_before (at t w)) ≡ false

abbrev pub AreNamed : Naming → Tree → List Way → Type 0
AreNamed by t [] = Unit {0}
AreNamed by t (w ∷ ws) = IsNamed by t w × AreNamed by t ws

pub named-with : (by : Naming) (t : Tree) (ws : List Way) (w : Way) → AreNamed by t ws → IsNamed by t w → AreNamed by t (with_way ws w)
named-with by t [] w a h = (h, tt)
named-with by t (v ∷ ws) w a h = by_test (same_way v w) (named-with by t ws w a.1 h)
  where
    by_test : (b : Bool) → AreNamed by t (with_way ws w) → AreNamed by t (if b then v ∷ ws else v ∷ with_way ws w)
    by_test true more = a
    by_test false more = (a.0, more)

pub named-at : (by : Naming) (t : Tree) (ws : List Way) (u : Way) → AreNamed by t ws → has_way ws u ≡ true → IsNamed by t u
named-at by t [] u a h = absurd (false≢true h)
named-at by t (v ∷ ws) u a h = by_test (same_way v u) refl (named-at by t ws u a.1) h
  where
    by_test : (b : Bool) → same_way v u ≡ b → (has_way ws u ≡ true → IsNamed by t u) → (b || has_way ws u) ≡ true → IsNamed by t u
    by_test true y more z = subst (λ (w : Way). IsNamed by t w) ((bytes_decides v u).0 y) a.0
    by_test false y more z = more z

-- ---- as changes of leaves

abbrev pub leaf_change : Naming → Leaf → Element → Way → LeafChange
leaf_change by new e w = record { up = w; old = named_leaf by; element = e; new = new; single = true }

pub changes-of : (by : Naming) (new : Leaf) (e : Element) (ws : List Way) → map change_of (map (leaf_change by new e) ws) ≡ map (change e) ws
changes-of by new e [] = refl
changes-of by new e (w ∷ ws) = ap (λ (cs : List Change). change e w ∷ cs) (changes-of by new e ws)

pub all-replace : (by : Naming) (new : Leaf) (e : Element) (t : Tree) (ws : List Way) → AreNamed by t ws → term_of e ≡ Some (terms.Token new) → AreLeafChanges t (map (leaf_change by new e) ws)
all-replace by new e t [] a h = tt
all-replace by new e t (w ∷ ws) a h = (record { is_old = a.0.is; is_new = h }, all-replace by new e t ws a.1 h)

pub leaf-after : (by : Naming) (new : Leaf) (e : Element) (ws : List Way) (u : Way) (l : Leaf) → leaf_after (map replacement_of (map (leaf_change by new e) ws)) u l ≡ (if has_way ws u then new else l)
leaf-after by new e [] u l = refl
leaf-after by new e (v ∷ ws) u l = by_test (same_way v u) (leaf-after by new e ws u l)
  where
    by_test : (b : Bool) → leaf_after (map replacement_of (map (leaf_change by new e) ws)) u l ≡ (if has_way ws u then new else l)
        → (if b then new else leaf_after (map replacement_of (map (leaf_change by new e) ws)) u l) ≡ (if b || has_way ws u then new else l)
    by_test true more = refl
    by_test false more = more
