-- The rewritten tree after changes that replace leaves by leaves.
use Rattle.std.proofs.Common.{◌≡◌, ℕ, zero, suc, ◌+◌, ◌≤◌, List, [], ◌∷◌, length, drop, map, reverse, Option, Some, None, option_map, option_and_then, is_some, slice_get, Bool, true, false, not, ◌&&◌, ◌||◌, eqb, leb, refl, ap, sym, ◌∙◌, arith, inl, inr, cond, if◌then◌else◌}
use mathlib.Core.List.{reverse_aux}
use Rattle.std.specs.List.{list_any}
use Rattle.std.proofs.lemmas.Bool.{cases_Bool, eqb-true, eq-eqb, leb-true, le-leb, and_parts, and_from, false≢true}
use Rattle.rowan_green.specs.Leaf.{Leaf}
use Rattle.rowan_green.specs.Forest.{Forest, empty, node, leaf, Tree}
use Rattle.rowan_green.specs.Term.{Term, terms}
use Rattle.rowan_green.specs.declared.utility_types.NodeOrToken.TheVariants.{Node, Token}
use Rattle.rowan.specs.Place.{term_by, children_in}
use Rattle.syntax_tree.specs.Element.{Way, same_way, Element, term_of, is_node}
use Rattle.syntax_tree.specs.Mapping.{Mapping}
use Rattle.tree_rewrite.specs.Change.{Change, replace, covers, is_within, replaces, is_nested, is_node_by_node, is_dropped, holder_of, owner_of}
use Rattle.tree_rewrite.specs.Marked.{Mark, Marked, nothing, inner, token, join, forest_in, with_put, gap, slot, Sheet, blank, or_own, origin_at, filled, read_from}
use Rattle.tree_rewrite.specs.Rewrite.{Job, written, terms_within, rewritten, change_at, own_of, job_of, jobs_from, kept_of, jobs, or_no_jobs, rewrite}
use Rattle.plain_changes.specs.LeafChanges.{LeafChange, change_of, replacement_of, IsLeafChange, AreLeafChanges}
use Rattle.plain_names.specs.Replacements.{leaf_after, with_leaves}

pub same_way-sound : (v w : Way) → same_way v w ≡ true → v ≡ w
same_way-sound [] [] h = refl
same_way-sound [] (b ∷ w) h = absurd (false≢true h)
same_way-sound (a ∷ v) [] h = absurd (false≢true h)
same_way-sound (a ∷ v) (b ∷ w) h =
    let p = and_parts (eqb a b) (same_way v w) h in
    λ i. eqb-true a b p.0 i ∷ same_way-sound v w p.1 i

pub same_way-own : (v : Way) → same_way v v ≡ true
same_way-own [] = refl
same_way-own (a ∷ v) = and_from _ _ (eq-eqb a a refl) (same_way-own v)

covers-own : (v w : Way) → covers v 0 w ≡ true → v ≡ w
covers-own [] [] h = refl
covers-own [] (i ∷ w) h = absurd (false≢true h)
covers-own (a ∷ p) [] h = absurd (false≢true h)
covers-own (a ∷ p) (i ∷ w) h =
    let x = and_parts (same_way p w) (leb a i && leb i (a + 0)) h in
    let y = and_parts (leb a i) (leb i (a + 0)) x.1 in
    let low : a ≤ i = leb-true a i y.0 in
    let high : i ≤ a + 0 = leb-true i (a + 0) y.1 in
    let same : a ≡ i = omega (arith, low, high) in
    λ j. same j ∷ same_way-sound p w x.0 j

pub bool-same : (a b : Bool) → (a ≡ true → b ≡ true) → (b ≡ true → a ≡ true) → a ≡ b
bool-same true b p q = sym (p refl)
bool-same false true p q = q refl
bool-same false false p q = refl

covers-self : (w : Way) → covers w 0 w ≡ true
covers-self [] = refl
covers-self (i ∷ w) = and_from _ _ (same_way-own w) (and_from _ _ (le-leb i i (omega arith)) (le-leb i (i + 0) (omega arith)))

-- one element alone is covered at its own way
pub covers-is : (v w : Way) → covers v 0 w ≡ same_way v w
covers-is v w = bool-same _ _
    (λ h. ap (λ x. same_way v x) (sym (covers-own v w h)) ∙ same_way-own v)
    (λ h. ap (λ x. covers v 0 x) (sym (same_way-sound v w h)) ∙ covers-self v)

or-false : (a b : Bool) → a ≡ false → b ≡ false → (a || b) ≡ false
or-false true b p q = p
or-false false b p q = q

and-second : (a b : Bool) → b ≡ false → (a && b) ≡ false
and-second true b p = p
and-second false b p = refl

module _ (t : Tree) where
  above-node : (i : ℕ) (p : Way) (x : Term) → term_by t (i ∷ p) ≡ Some x → is_node (term_by t p) ≡ true
  above-node i p x h = by_term (term_by t p) h
    where
      by_term : (o : Option Term) → slice_get (children_in o) i ≡ Some x → is_node o ≡ true
      by_term None e = absurd (let z : None ≡ Some x = e in cc)
      by_term (Some (Node u)) e = refl
      by_term (Some (Token l)) e = absurd (let z : None ≡ Some x = e in cc)

  node-above : (i : ℕ) (p : Way) → is_node (term_by t (i ∷ p)) ≡ true → is_node (term_by t p) ≡ true
  node-above i p h = by_term (term_by t (i ∷ p)) refl h
    where
      by_term : (o : Option Term) → term_by t (i ∷ p) ≡ o → is_node o ≡ true → is_node (term_by t p) ≡ true
      by_term None e n = absurd (false≢true n)
      by_term (Some x) e n = above-node i p x e

  not-covered : (g : LeafChange) (w : Way) → IsLeafChange t g → is_node (term_by t w) ≡ true → covers g.up 0 w ≡ false
  not-covered g w s n = elim (cases_Bool (covers g.up 0 w)) [
    | inr e ↦ e
    | inl e ↦ absurd (false≢true (sym (ap is_node (ap (term_by t) (sym (covers-own g.up w e)) ∙ s.is_old)) ∙ n))
  ]

  not-within : (g : LeafChange) (w : Way) → IsLeafChange t g → is_node (term_by t w) ≡ true → is_within g.up 0 w ≡ false
  not-within g [] s n = not-covered g [] s n
  not-within g (i ∷ w) s n = or-false _ _ (not-covered g (i ∷ w) s n) (not-within g w s (node-above i w n))

  not-nested : (v : Way) (l : Leaf) (es : List Element) (b : Bool) (h : LeafChange) → term_by t v ≡ Some (Token l) → IsLeafChange t h → is_nested (replace v 0 es b) (change_of h) ≡ false
  not-nested [] l es b h e s = refl
  not-nested (i ∷ p) l es b h e s = not-within h p s (above-node i p (Token l) e)

  not-dropped : (gs : List LeafChange) (h : LeafChange) → AreLeafChanges t gs → IsLeafChange t h → is_dropped t (map change_of gs) (change_of h) ≡ false
  not-dropped [] h a s = refl
  not-dropped (g ∷ gs) h a s = or-false _ _
      (ap (λ (b : Bool). b && not (is_node_by_node t (change_of g))) (not-nested h.up h.old (h.element ∷ []) h.single g s.is_old a.0))
      (not-dropped gs h a.1 s)

  kept-all : (gs hs : List LeafChange) → AreLeafChanges t gs → AreLeafChanges t hs → kept_of t (map change_of gs) (map change_of hs) ≡ map change_of hs
  kept-all gs [] a b = refl
  kept-all gs (h ∷ hs) a b =
      ap (λ (d : Bool). cond (not d) (change_of h ∷ kept_of t (map change_of gs) (map change_of hs)) (kept_of t (map change_of gs) (map change_of hs))) (not-dropped gs h a b.0)
      ∙ ap (λ (cs : List Change). change_of h ∷ cs) (kept-all gs hs a b.1)

  none-replaces : (gs : List LeafChange) (w : Way) → AreLeafChanges t gs → is_node (term_by t w) ≡ true → list_any (λ r. replaces r w) (map change_of gs) ≡ false
  none-replaces [] w a n = refl
  none-replaces (g ∷ gs) w a n = or-false _ _ (not-covered g w a.0 n) (none-replaces gs w a.1 n)

  no-holder : (gs : List LeafChange) (w : Way) → AreLeafChanges t gs → is_node (term_by t w) ≡ true → holder_of (map change_of gs) w ≡ None
  no-holder gs [] a n = ap (λ (b : Bool). if b then Some [] else None) (none-replaces gs [] a n)
  no-holder gs (i ∷ w) a n =
      ap (λ (b : Bool). if b then Some (i ∷ w) else holder_of (map change_of gs) w) (none-replaces gs (i ∷ w) a n)
      ∙ no-holder gs w a (node-above i w n)

  no-owner : (gs : List LeafChange) (v : Way) (l : Leaf) (es : List Element) (b : Bool) → AreLeafChanges t gs → term_by t v ≡ Some (Token l) → owner_of (map change_of gs) (replace v 0 es b) ≡ None
  no-owner gs [] l es b a e = refl
  no-owner gs (i ∷ p) l es b a e = no-holder gs p a (above-node i p (Token l) e)

  no-own : (h : LeafChange) → IsLeafChange t h → own_of t (change_of h) ≡ None
  no-own h s = ap (λ (b : Bool). if b then Some h.up else None) (and-second h.single _ (ap (λ (o : Option Term). is_node o && is_node (term_by t h.up)) s.is_new))

plain : LeafChange → Job
plain g = record { sheet = None; change = change_of g; own = None }

module _ (top : Element) (ms : Mapping) where
  one-job : (gs : List LeafChange) (h : LeafChange) → AreLeafChanges top.place.root gs → IsLeafChange top.place.root h → job_of top (map change_of gs) ms (change_of h) ≡ Some (plain h)
  unfolding plain
  one-job gs h a s =
      ap (λ (o : Option Way). option_map (λ (d : Change). let j : Job = record { sheet = o; change = d; own = own_of top.place.root (change_of h) } in j) (change_at top (map change_of gs) ms o (change_of h))) (no-owner top.place.root gs h.up h.old (h.element ∷ []) h.single a s.is_old)
      ∙ ap (λ (o : Option Way). Some (let j : Job = record { sheet = None; change = change_of h; own = o } in j)) (no-own top.place.root h s)

  all-jobs : (gs hs : List LeafChange) → AreLeafChanges top.place.root gs → AreLeafChanges top.place.root hs → jobs_from top (map change_of gs) ms (map change_of hs) ≡ Some (map plain hs)
  all-jobs gs [] a b = refl
  all-jobs gs (h ∷ hs) a b =
      ap (λ (o : Option Job). option_and_then (λ (j : Job). option_map (λ (js : List Job). j ∷ js) (jobs_from top (map change_of gs) ms (map change_of hs))) o) (one-job gs h a b.0)
      ∙ ap (λ (o : Option (List Job)). option_map (λ (js : List Job). plain h ∷ js) o) (all-jobs gs hs a b.1)

  jobs-are : (gs : List LeafChange) → AreLeafChanges top.place.root gs → jobs top (map change_of gs) ms ≡ Some (map plain gs)
  jobs-are gs a = ap (λ (cs : List Change). jobs_from top (map change_of gs) ms cs) (kept-all top.place.root gs gs a a) ∙ all-jobs gs gs a a

-- ---- sheets

slot_after : (Job → Marked) → List LeafChange → Way → Option Marked
slot_after c [] w = None
slot_after c (g ∷ gs) w = if covers g.up 0 w then Some (c (plain g)) else slot_after c gs w

gap-none : (c : Job → Marked) (gs : List LeafChange) (w : Way) (i : ℕ) → written c (map plain gs) None (gap w i) ≡ None
unfolding plain
gap-none c [] w i = refl
gap-none c (g ∷ gs) w i = gap-none c gs w i

slot-is : (c : Job → Marked) (gs : List LeafChange) (w : Way) → written c (map plain gs) None (slot w) ≡ slot_after c gs w
unfolding plain slot_after
slot-is c [] w = refl
slot-is c (g ∷ gs) w = by_test (slot-is c gs w) (covers g.up 0 w) refl
  where
    by_test : written c (map plain gs) None (slot w) ≡ slot_after c gs w → (b : Bool) → covers g.up 0 w ≡ b
        → (if b then Some (if same_way g.up w then c (plain g) else nothing) else written c (map plain gs) None (slot w)) ≡ (if b then Some (c (plain g)) else slot_after c gs w)
    by_test more true e = ap (λ (b : Bool). Some (if b then c (plain g) else nothing)) (ap (λ (v : Way). same_way v w) (covers-own g.up w e) ∙ same_way-own w)
    by_test more false e = more

-- each planned change inserts its new leaf
Values : (Job → Marked) → List LeafChange → Type 0
Values c [] = Unit {0}
Values c (g ∷ gs) = ((m : Mark) × (c (plain g) ≡ token m g.new nothing)) × Values c gs

leaf-there : (c : Job → Marked) (gs : List LeafChange) (w : Way) (m : Mark) (l : Leaf) (rest : Marked) → Values c gs → forest_in (join (or_own (slot_after c gs w) (token m l nothing)) rest) ≡ leaf (leaf_after (map replacement_of gs) w l) (forest_in rest)
unfolding slot_after Values
leaf-there c [] w m l rest v = refl
leaf-there c (g ∷ gs) w m l rest v =
    by_test (leaf-there c gs w m l rest v.1) (covers g.up 0 w)
    ∙ ap (λ (b : Bool). leaf (if b then g.new else leaf_after (map replacement_of gs) w l) (forest_in rest)) (covers-is g.up w)
  where
    by_test : forest_in (join (or_own (slot_after c gs w) (token m l nothing)) rest) ≡ leaf (leaf_after (map replacement_of gs) w l) (forest_in rest) → (b : Bool) → forest_in (join (or_own (if b then Some (c (plain g)) else slot_after c gs w) (token m l nothing)) rest) ≡ leaf (if b then g.new else leaf_after (map replacement_of gs) w l) (forest_in rest)
    by_test more true = ap (λ (x : Marked). forest_in (join x rest)) v.0.1
    by_test more false = more

there : {X : Type 0} (xs : List X) (i : ℕ) (x : X) (ys : List X) → drop i xs ≡ x ∷ ys → (slice_get xs i ≡ Some x) × (drop (i + 1) xs ≡ ys)
there [] zero x ys e = absurd (let z : [] ≡ x ∷ ys = e in cc)
there [] (suc i) x ys e = absurd (let z : [] ≡ x ∷ ys = e in cc)
there (z ∷ xs) zero x ys e = (let same : z ≡ x = cc in ap Some same, let rest : xs ≡ ys = cc in rest)
there (z ∷ xs) (suc i) x ys e =
    let more = there xs i x ys e in
    (more.0, ap (λ (n : ℕ). drop n (z ∷ xs)) (let n : suc i + 1 ≡ suc (i + 1) = omega arith in n) ∙ more.1)

module _ (t : Tree) (c : Job → Marked) (gs : List LeafChange) (a : AreLeafChanges t gs) (v : Values c gs) (e : Element) where
  sheet : Sheet
  sheet = written c (map plain gs) None

  slot-none : (hs : List LeafChange) → AreLeafChanges t hs → (w : Way) → is_node (term_by t w) ≡ true → slot_after c hs w ≡ None
  unfolding slot_after
  slot-none [] b w n = refl
  slot-none (h ∷ hs) b w n = ap (λ (x : Bool). if x then Some (c (plain h)) else slot_after c hs w) (not-covered t h w b.0 n) ∙ slot-none hs b.1 w n

  fill : (w : Way) (i : ℕ) (f : Forest) → drop i (children_in (term_by t w)) ≡ terms f → forest_in (filled sheet e w i f) ≡ with_leaves (map replacement_of gs) w i f
  unfolding sheet
  fill w i empty h = ap (λ (o : Option Marked). forest_in (or_own o nothing)) (gap-none c gs w i)
  fill w i (node k f r) h =
      let found = there (children_in (term_by t w)) i (Node (record { kind = k; forest = f })) (terms r) h in
      let below : term_by t (i ∷ w) ≡ Some (Node (record { kind = k; forest = f })) = found.0 in
      let low = fill (i ∷ w) 0 f (ap children_in below) in
      let rest = fill w (i + 1) r found.1 in
      let s = written c (map plain gs) None in
      let own : Marked = inner (origin_at e (i ∷ w)) k (filled s e (i ∷ w) 0 f) nothing in
      ap (λ (o : Option Marked). forest_in (join (or_own o nothing) (join (or_own (s (slot (i ∷ w))) own) (filled s e w (i + 1) r)))) (gap-none c gs w i)
      ∙ ap (λ (o : Option Marked). forest_in (join (or_own o own) (filled s e w (i + 1) r))) (slot-is c gs (i ∷ w) ∙ slot-none gs a (i ∷ w) (ap is_node below))
      ∙ (λ j. node k (low j) (rest j))
  fill w i (leaf l r) h =
      let found = there (children_in (term_by t w)) i (Token l) (terms r) h in
      let rest = fill w (i + 1) r found.1 in
      let s = written c (map plain gs) None in
      let own : Marked = token (origin_at e (i ∷ w)) l nothing in
      ap (λ (o : Option Marked). forest_in (join (or_own o nothing) (join (or_own (s (slot (i ∷ w))) own) (filled s e w (i + 1) r)))) (gap-none c gs w i)
      ∙ ap (λ (o : Option Marked). forest_in (join (or_own o own) (filled s e w (i + 1) r))) (slot-is c gs (i ∷ w))
      ∙ leaf-there c gs (i ∷ w) (origin_at e (i ∷ w)) l (filled s e w (i + 1) r) v
      ∙ ap (λ (g : Forest). leaf (leaf_after (map replacement_of gs) (i ∷ w) l) g) rest

  whole : (o : Option Term) → o ≡ Some (Node t) → forest_in (read_from sheet e o) ≡ node t.kind (with_leaves (map replacement_of gs) [] 0 t.forest) empty
  unfolding sheet
  whole o is =
      ap (λ (x : Option Term). forest_in (read_from (written c (map plain gs) None) e x)) is
      ∙ ap (λ (x : Option Marked). forest_in (or_own x (inner (record { origin = e; put = false }) t.kind (filled (written c (map plain gs) None) e [] 0 t.forest) nothing))) (slot-is c gs [] ∙ slot-none gs a [] refl)
      ∙ ap (λ (g : Forest). node t.kind g empty) (fill [] 0 t.forest refl)

-- ---- the inserted leaves

one-value : (js : List Job) (n : ℕ) (t : Tree) (g : LeafChange) → IsLeafChange t g → terms_within (suc n) js (plain g) ≡ token (record { origin = g.element; put = true }) g.new nothing
unfolding plain
one-value js n t g s = ap (λ (o : Option Term). with_put true (join (read_from blank g.element o) nothing)) s.is_new

all-values : (js : List Job) (n : ℕ) (t : Tree) (gs : List LeafChange) → AreLeafChanges t gs → Values (λ i. terms_within (suc n) js i) gs
unfolding Values
all-values js n t [] a = tt
all-values js n t (g ∷ gs) a = ((record { origin = g.element; put = true }, one-value js n t g a.0), all-values js n t gs a.1)

values : (t : Tree) (gs : List LeafChange) → AreLeafChanges t gs → Values (λ i. terms_within (length (map plain gs)) (map plain gs) i) gs
unfolding Values
values t [] a = tt
values t (g ∷ gs) a = all-values (map plain (g ∷ gs)) (length (map plain gs)) t (g ∷ gs) a

-- ---- the other way round

reversed-jobs : (gs hs : List LeafChange) → reverse_aux (map plain gs) (map plain hs) ≡ map plain (reverse_aux gs hs)
reversed-jobs [] hs = refl
reversed-jobs (g ∷ gs) hs = reversed-jobs gs (g ∷ hs)

reversed-stand : (t : Tree) (gs hs : List LeafChange) → AreLeafChanges t gs → AreLeafChanges t hs → AreLeafChanges t (reverse_aux gs hs)
reversed-stand t [] hs a b = b
reversed-stand t (g ∷ gs) hs a b = reversed-stand t gs (g ∷ hs) a.1 (a.0, b)

-- the last change of a leaf counts
pub in-order :
    (top : Element) (gs : List LeafChange) (ms : Mapping) → top.place.up ≡ [] → AreLeafChanges top.place.root gs
    → (is_some (jobs top (map change_of gs) ms) ≡ true)
    × (forest_in (rewrite top (map change_of gs) ms) ≡ node top.place.root.kind (with_leaves (map replacement_of (reverse gs)) [] 0 top.place.root.forest) empty)
unfolding sheet
in-order top gs ms up a =
    let t = top.place.root in
    let are = jobs-are top ms gs a in
    let b = reversed-stand t gs [] a tt in
    let js = map plain (reverse gs) in
    let term : term_of top ≡ Some (Node t) = ap (λ (w : Way). term_by t w) up in (
      ap is_some are,
      ap (λ (o : Option (List Job)). forest_in (rewritten top (reverse (or_no_jobs o)))) are
          ∙ ap (λ (ks : List Job). forest_in (rewritten top ks)) (reversed-jobs gs [])
          ∙ whole t (λ i. terms_within (length js) js i) (reverse gs) b (values t (reverse gs) b) top (term_of top) term,
    )
