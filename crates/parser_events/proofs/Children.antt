-- The last tree of the innermost node, by the last entry, and which trees are nodes that were closed.
use Rattle.std.proofs.Common.{◌≡◌, ℕ, zero, suc, ◌+◌, ◌-◌, ◌<◌, ◌≤◌, ◌⊎◌, ◌↔◌, Bool, true, false, List, [], ◌∷◌, ◌++◌, length, map, get_or, refl, ap, sym, subst, ◌∙◌, append_assoc, length-append, inl, inr, arith}
use Rattle.std.proofs.lemmas.List.{get_or_at, get_or-map, length-map}
use Rattle.parser_events.specs.Marked.{Marked, End, Leaf, Said, Node, Split, ◌beside◌, size, front, after}
use Rattle.parser_events.specs.Nodes as nodes
use Rattle.parser_events.specs.Nodes.{Entry, entries, all_entries, begins, IsClosing}
use Rattle.parser_events.specs.Seen.{event_of}
use Rattle.parser_events.specs.Stack.{total_size, IsAmong}
use Rattle.parser_events.specs.declared.event.Event.{Event}
use Rattle.parser_events.proofs.Forests.{beside-end, beside_assoc}
use Rattle.parser_events.proofs.Unwound.{entries-length}
use Rattle.parser_events.proofs.Trees.{all-beside, total-length}
use Rattle.parser_events.proofs.Stacks.{size-beside, front-beside, after-beside}

-- one tree
pub Alone : Marked → Type 0
Alone End = ⊥
Alone (Leaf k n f) = f ≡ End
Alone (Said m f) = f ≡ End
Alone (Node k c f) = f ≡ End
Alone (Split e c f) = f ≡ End

some-or-none : (f : Marked) → (f ≡ End) ⊎ (0 < size f)
some-or-none End = inl refl
some-or-none (Leaf k n f) = inr (omega arith)
some-or-none (Said m f) = inr (omega arith)
some-or-none (Node k c f) = inr (omega arith)
some-or-none (Split e c f) = inr (omega arith)

pub record Last (f : Marked) : Type 0 where
  pub earlier : Marked
  pub tree : Marked
  pub alone : Alone tree
  pub are : f ≡ earlier beside tree

pub last-tree : (f : Marked) → 0 < size f → Last f
unfolding Alone
last-tree End h = absurd (omega (arith, h))
last-tree (Leaf k n f) h = elim (some-or-none f) [
  | inl e ↦ record { earlier = End; tree = Leaf k n f; alone = e; are = refl }
  | inr m ↦ let r = last-tree f m in record { earlier = Leaf k n r.earlier; tree = r.tree; alone = r.alone; are = ap (Leaf k n) r.are }
]
last-tree (Said s f) h = elim (some-or-none f) [
  | inl e ↦ record { earlier = End; tree = Said s f; alone = e; are = refl }
  | inr m ↦ let r = last-tree f m in record { earlier = Said s r.earlier; tree = r.tree; alone = r.alone; are = ap (Said s) r.are }
]
last-tree (Node k c f) h = elim (some-or-none f) [
  | inl e ↦ record { earlier = End; tree = Node k c f; alone = e; are = refl }
  | inr m ↦ let r = last-tree f m in record { earlier = Node k c r.earlier; tree = r.tree; alone = r.alone; are = ap (Node k c) r.are }
]
last-tree (Split s c f) h = elim (some-or-none f) [
  | inl e ↦ record { earlier = End; tree = Split s c f; alone = e; are = refl }
  | inr m ↦ let r = last-tree f m in record { earlier = Split s c r.earlier; tree = r.tree; alone = r.alone; are = ap (Split s c) r.are }
]

-- no tree is parted
round : (n : ℕ) (a t r : Marked) → Alone t → size a < n → n ≤ size a + size t → size (front n (a beside (t beside r))) ≡ size a + size t
unfolding Alone
round zero a t r h lo hi = absurd (omega (arith, lo))
round (suc n) End End r h lo hi = absurd h
round (suc n) End (Leaf k c f) r h lo hi =
    let z : n ≡ 0 = omega (arith, hi, ap size h) in
    omega (arith, ap (λ (m : ℕ). size (front m (f beside r))) z, ap size h)
round (suc n) End (Said m f) r h lo hi =
    let z : n ≡ 0 = omega (arith, hi, ap size h) in
    omega (arith, ap (λ (m : ℕ). size (front m (f beside r))) z, ap size h)
round (suc n) End (Node k c f) r h lo hi =
    let z : n - size c ≡ 0 = omega (arith, hi, ap size h) in
    omega (arith, ap (λ (m : ℕ). size (front m (f beside r))) z, ap size h)
round (suc n) End (Split e c f) r h lo hi =
    let z : n - size c ≡ 0 = omega (arith, hi, ap size h) in
    omega (arith, ap (λ (m : ℕ). size (front m (f beside r))) z, ap size h)
round (suc n) (Leaf k c a) t r h lo hi = omega (arith, round n a t r h (omega (arith, lo)) (omega (arith, hi)))
round (suc n) (Said m a) t r h lo hi = omega (arith, round n a t r h (omega (arith, lo)) (omega (arith, hi)))
round (suc n) (Node k c a) t r h lo hi = omega (arith, round (n - size c) a t r h (omega (arith, lo)) (omega (arith, hi)))
round (suc n) (Split e c a) t r h lo hi = omega (arith, round (n - size c) a t r h (omega (arith, lo)) (omega (arith, hi)))

-- the entry of one tree that begins at a place
pub entry_of : Marked → ℕ → Entry
entry_of End place = nodes.Token 0 0
entry_of (Leaf k n f) place = nodes.Token k n
entry_of (Said m f) place = nodes.Said m
entry_of (Node k c f) place = nodes.Closed k place
entry_of (Split e c f) place = nodes.Ended e place

pub record Ends (t : Marked) (place : ℕ) : Type 0 where
  pub inner : List Entry
  pub are : entries place t ≡ inner ++ entry_of t place ∷ []
  pub long : suc (length inner) ≡ size t

ends : (t : Marked) (place : ℕ) → Alone t → Ends t place
unfolding Alone entry_of
ends End place h = absurd h
ends (Leaf k n f) place h =
    record { inner = []; are = ap (λ (x : Marked). nodes.Token k n ∷ entries (suc place) x) h; long = omega (arith, ap size h) }
ends (Said m f) place h =
    record { inner = []; are = ap (λ (x : Marked). nodes.Said m ∷ entries (suc place) x) h; long = omega (arith, ap size h) }
ends (Node k c f) place h =
    record {
      inner = entries place c;
      are = ap (λ (x : Marked). entries place c ++ nodes.Closed k place ∷ entries (suc (size c + place)) x) h;
      long = omega (arith, ap size h, entries-length place c);
    }
ends (Split e c f) place h =
    record {
      inner = entries place c;
      are = ap (λ (x : Marked). entries place c ++ nodes.Ended e place ∷ entries (suc (size c + place)) x) h;
      long = omega (arith, ap size h, entries-length place c);
    }

pub entry-at : (a t later : Marked) (below : List Marked) (n : ℕ) (d : Entry) → Alone t → suc n ≡ size a + size t + total_size below →
    get_or (all_entries (((a beside t) beside later) ∷ below)) n d ≡ entry_of t (size a + total_size below)
entry-at a t later below n d h at =
    let place = length (all_entries (a ∷ below)) in
    let e = ends t place h in
    let more = entries (length (all_entries ((a beside t) ∷ below))) later in
    let long : length (all_entries (a ∷ below) ++ e.inner) ≡ n =
    omega (arith, length-append (all_entries (a ∷ below)) e.inner, total-length (a ∷ below), e.long, at) in
    ap (λ (l : List Entry). get_or l n d)
    (all-beside (a beside t) later below
    ∙ ap (λ (l : List Entry). l ++ more) (all-beside a t below ∙ ap (λ (l : List Entry). all_entries (a ∷ below) ++ l) e.are)
    ∙ append_assoc (all_entries (a ∷ below)) (e.inner ++ entry_of t place ∷ []) more
    ∙ ap (λ (l : List Entry). all_entries (a ∷ below) ++ l) (append_assoc e.inner (entry_of t place ∷ []) more)
    ∙ sym (append_assoc (all_entries (a ∷ below)) e.inner (entry_of t place ∷ more)))
    ∙ get_or_at (all_entries (a ∷ below) ++ e.inner) (entry_of t place) more d n long
    ∙ ap (entry_of t) (total-length (a ∷ below))

-- an entry tells where its tree begins
begins-is : (t : Marked) (place n : ℕ) → Alone t → suc n ≡ place + size t → begins (entry_of t place) n ≡ place
unfolding Alone entry_of
begins-is End place n h at = absurd h
begins-is (Leaf k c f) place n h at = omega (arith, at, ap size h)
begins-is (Said m f) place n h at = omega (arith, at, ap size h)
begins-is (Node k c f) place n h at = refl
begins-is (Split e c f) place n h at = refl

alone-some : (t : Marked) → Alone t → 0 < size t
unfolding Alone
alone-some End h = absurd h
alone-some (Leaf k n f) h = omega arith
alone-some (Said m f) h = omega arith
alone-some (Node k c f) h = omega arith
alone-some (Split e c f) h = omega arith

-- All trees from a place on are passed, and a node that begins at `first` is none of them.
pub record Walked (f : Marked) (below : List Marked) (first end : ℕ) : Type 0 where
  pub rest : Marked
  pub later : Marked
  pub are : f ≡ rest beside later
  pub at : end ≡ size rest + total_size below
  pub before : (inside : ℕ) → IsAmong (record { before = first; inside = inside }) (f ∷ below) → first < end

pub walked-none : (f : Marked) (below : List Marked) (first end : ℕ) → end ≡ length (all_entries (f ∷ below)) → Walked f below first end
walked-none f below first end long = record {
  rest = f;
  later = End;
  are = sym (beside-end f);
  at = long ∙ total-length (f ∷ below);
  before = λ inside a.
      omega
      (arith, long, total-length (f ∷ below), ap total_size a.are, a.before, size-beside a.earlier (Node a.kind a.children a.later));
}

-- the last tree that is left, and its entry
pub record Next (f : Marked) (below : List Marked) (end : ℕ) (x : Entry) : Type 0 where
  pub earlier : Marked
  pub tree : Marked
  pub later : Marked
  pub alone : Alone tree
  pub are : f ≡ earlier beside (tree beside later)
  pub at : end ≡ size earlier + size tree + total_size below
  pub entry : x ≡ entry_of tree (size earlier + total_size below)
  pub start : begins x (end - 1) ≡ size earlier + total_size below
  pub low : begins x (end - 1) ≤ end - 1

pub next : (f : Marked) (below : List Marked) (first end : ℕ) (x : Entry) → Walked f below first end → total_size below < end → x ≡ get_or (all_entries (f ∷ below)) (end - 1) x → Next f below end x
next f below first end x w some is =
    let l = last-tree w.rest (omega (arith, w.at, some)) in
    let at : end ≡ size l.earlier + size l.tree + total_size below = omega (arith, w.at, ap size l.are, size-beside l.earlier l.tree) in
    let are : f ≡ (l.earlier beside l.tree) beside w.later = w.are ∙ ap (λ (g : Marked). g beside w.later) l.are in
    let entry : x ≡ entry_of l.tree (size l.earlier + total_size below) =
    is ∙ ap (λ (g : Marked). get_or (all_entries (g ∷ below)) (end - 1) x) are ∙ entry-at l.earlier l.tree w.later below (end - 1) x l.alone (omega (arith, at, some)) in
    let start : begins x (end - 1) ≡ size l.earlier + total_size below =
    ap (λ (y : Entry). begins y (end - 1)) entry ∙ begins-is l.tree (size l.earlier + total_size below) (end - 1) l.alone (omega (arith, at, some)) in
    record {
      earlier = l.earlier;
      tree = l.tree;
      later = w.later;
      alone = l.alone;
      are = are ∙ beside_assoc l.earlier l.tree w.later;
      at = at;
      entry = entry;
      start = start;
      low = omega (arith, start, at, alone-some l.tree l.alone);
    }

pub walked-more : (f : Marked) (below : List Marked) (first end start : ℕ) (x : Entry) → Next f below end x → start ≡ begins x (end - 1) → first < start → Walked f below first start
walked-more f below first end start x n s after_first = record {
  rest = n.earlier;
  later = n.tree beside n.later;
  are = n.are;
  at = s ∙ n.start;
  before = λ inside a. after_first;
}

-- a node that begins there is the tree
as-node : (t later : Marked) (k : ℕ) (c l : Marked) → Alone t → t beside later ≡ Node k c l → t ≡ Node k c End
unfolding Alone
as-node End later k c l h e = absurd h
as-node (Leaf j n f) later k c l h e = absurd (cc)
as-node (Said m f) later k c l h e = absurd (cc)
as-node (Node j d f) later k c l h e = cc
as-node (Split s d f) later k c l h e = absurd (cc)

closing-node : (t : Marked) (place first : ℕ) → Alone t → IsClosing first (entry_of t place) → (k : ℕ) × ((c : Marked) × ((t ≡ Node k c End) × (place ≡ first)))
unfolding Alone entry_of
closing-node End place first h i = absurd h
closing-node (Leaf k n f) place first h i = absurd i
closing-node (Said m f) place first h i = absurd i
closing-node (Node k c f) place first h i = (k, (c, (ap (Node k c) h, i)))
closing-node (Split e c f) place first h i = absurd i

-- the entry tells whether the last tree is the node
pub tells-yes : (f : Marked) (below : List Marked) (first inside end : ℕ) (x : Entry) → Next f below end x → IsClosing first x → (end - 1) - first ≡ inside → IsAmong (record { before = first; inside = inside }) (f ∷ below)
tells-yes f below first inside end x n i e =
    let s = closing-node n.tree (size n.earlier + total_size below) first n.alone (subst (IsClosing first) n.entry i) in
    record {
      earlier = n.earlier;
      kind = s.0;
      children = s.1.0;
      later = n.later;
      below = below;
      are = ap (λ (g : Marked). g ∷ below) (n.are ∙ ap (λ (t : Marked). n.earlier beside (t beside n.later)) s.1.1.0);
      before = sym s.1.1.1;
      inside = omega (arith, e, n.at, s.1.1.1, ap size s.1.1.0);
    }

pub record Closes (first inside end : ℕ) (x : Entry) : Type 0 where
  pub closes : IsClosing first x
  pub holds : (end - 1) - first ≡ inside

head-of : Marked → List Marked → Marked
head-of d [] = d
head-of d (f ∷ below) = f

tail-of : List Marked → List Marked
tail-of [] = []
tail-of (f ∷ below) = below

same-by : (m n : ℕ) → m ≤ n → (m < n → ⊥) → n ≡ m
same-by zero zero low never = refl
same-by zero (suc n) low never = absurd (never (omega arith))
same-by (suc m) zero low never = absurd (omega (arith, low))
same-by (suc m) (suc n) low never = ap suc (same-by m n (omega (arith, low)) (λ h. never (omega (arith, h))))

closed-there : (k : ℕ) (c : Marked) (place first : ℕ) → place ≡ first → IsClosing first (entry_of (Node k c End) place)
unfolding entry_of
closed-there k c place first e = e

pub tells-no : (f : Marked) (below : List Marked) (first inside end : ℕ) (x : Entry) → Next f below end x → begins x (end - 1) ≤ first → first < end → IsAmong (record { before = first; inside = inside }) (f ∷ below) → Closes first inside end x
unfolding head-of tail-of
tells-no f below first inside end x n low high a =
    let same : f ≡ a.earlier beside Node a.kind a.children a.later = ap (head-of f) a.are in
    let under : below ≡ a.below = ap tail-of a.are in
    let under-size : total_size below ≡ total_size a.below = ap total_size under in
    let both : a.earlier beside Node a.kind a.children a.later ≡ n.earlier beside (n.tree beside n.later) = sym same ∙ n.are in
    let whole : size n.earlier < size a.earlier → size a.earlier ≤ size n.earlier + size n.tree → size a.earlier ≡ size n.earlier + size n.tree =
    λ lo hi. ap size (sym (front-beside a.earlier (Node a.kind a.children a.later)) ∙ ap (front (size a.earlier)) both) ∙ round (size a.earlier) n.earlier n.tree n.later n.alone lo hi in
    let sizes : size a.earlier ≡ size n.earlier =
    same-by (size n.earlier) (size a.earlier) (omega (arith, low, n.start, a.before, under-size))
    (λ lo. let e = whole lo (omega (arith, high, n.at, a.before, under-size)) in omega (arith, e, high, n.at, a.before, under-size)) in
    let tree : n.tree beside n.later ≡ Node a.kind a.children a.later =
    sym (after-beside n.earlier (n.tree beside n.later)) ∙ ap (after (size n.earlier)) (sym both)
    ∙ ap (λ (m : ℕ). after m (a.earlier beside Node a.kind a.children a.later)) (sym sizes) ∙ after-beside a.earlier (Node a.kind a.children a.later) in
    let node = as-node n.tree n.later a.kind a.children a.later n.alone tree in
    let place : size n.earlier + total_size below ≡ first = omega (arith, sizes, a.before, under-size) in
    record {
      closes = subst (IsClosing first) (sym (n.entry ∙ ap (λ (t : Marked). entry_of t (size n.earlier + total_size below)) node)) (closed-there a.kind a.children (size n.earlier + total_size below) first place);
      holds = omega (arith, place, n.at, ap size node, a.inside);
    }

-- where all trees are passed there is none
pub tells-none : (f : Marked) (below : List Marked) (first inside end : ℕ) → Walked f below first end → end ≤ total_size below → IsAmong (record { before = first; inside = inside }) (f ∷ below) → ⊥
unfolding tail-of
tells-none f below first inside end w none a =
    let under : total_size below ≡ total_size a.below = ap (λ (l : List Marked). total_size (tail-of l)) a.are in
    omega (arith, w.before inside a, none, a.before, under)

never-true : false ≡ true → ⊥
never-true e = cc

-- the last tree that is left, by the code's entry
next-of :
    (es : List Event) (d : Event) (f : Marked) (below : List Marked) (first end : ℕ) → end ≤ length es → total_size below < end
    → map event_of es ≡ all_entries (f ∷ below) → Walked f below first end → Next f below end (event_of (get_or es (end - 1) d))
next-of es d f below first end within some same w =
    let x = event_of (get_or es (end - 1) d) in
    next f below first end x w some
    (sym (get_or-map event_of es (end - 1) d x (omega (arith, within, some))) ∙ ap (λ (l : List Entry). get_or l (end - 1) x) same)

pub start-walk : (es : List Event) (f : Marked) (below : List Marked) (first : ℕ) → map event_of es ≡ all_entries (f ∷ below) → Walked f below first (length es)
start-walk es f below first same =
    walked-none f below first (length es) (sym (length-map es event_of) ∙ ap (λ (l : List Entry). length l) same)

pub walk-on :
    (es : List Event) (d : Event) (f : Marked) (below : List Marked) (floor first end start : ℕ) → end ≤ length es → floor < end → first < start
    → (begins (event_of (get_or es (end - 1) d)) (end - 1) ≤ end - 1 → start ≡ begins (event_of (get_or es (end - 1) d)) (end - 1))
    → map event_of es ≡ all_entries (f ∷ below) → floor ≡ total_size below → Walked f below first end → Walked f below first start
walk-on es d f below floor first end start within some later begun same low w =
    let n = next-of es d f below first end within (omega (arith, some, low)) same w in
    walked-more f below first end start (event_of (get_or es (end - 1) d)) n (begun n.low) later

pub found :
    (es : List Event) (d : Event) (f : Marked) (below : List Marked) (floor first inside end start : ℕ) (b : Bool) → end ≤ length es → floor < end → start ≤ first
    → (begins (event_of (get_or es (end - 1) d)) (end - 1) ≤ end - 1 → start ≡ begins (event_of (get_or es (end - 1) d)) (end - 1))
    → (b ≡ true) ↔ (IsClosing first (event_of (get_or es (end - 1) d)) × (end - 1 - first ≡ inside))
    → map event_of es ≡ all_entries (f ∷ below) → floor ≡ total_size below → Walked f below first end
    → (b ≡ true) ↔ IsAmong (record { before = first; inside = inside }) (f ∷ below)
found es d f below floor first inside end start b within some early begun tells same low w =
    let x = event_of (get_or es (end - 1) d) in
    let n = next-of es d f below first end within (omega (arith, some, low)) same w in (
      λ t. tells-yes f below first inside end x n (tells.0 t).0 (tells.0 t).1,
      λ a. let c = tells-no f below first inside end x n (omega (arith, begun n.low, early)) (w.before inside a) a in tells.1 (c.closes, c.holds),
    )

pub not-found :
    (f : Marked) (below : List Marked) (floor first inside end : ℕ) → end ≤ floor → floor ≡ total_size below → Walked f below first end
    → (false ≡ true) ↔ IsAmong (record { before = first; inside = inside }) (f ∷ below)
not-found f below floor first inside end none low w =
    (λ e. absurd (never-true e), λ a. absurd (tells-none f below first inside end w (omega (arith, none, low)) a))
