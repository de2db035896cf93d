-- What a call makes of the record, and of the open nodes that are read from it.
use Rattle.std.proofs.Common.{◌≡◌, ℕ, suc, ◌-◌, Bool, List, [], ◌∷◌, Option, Some, None, IfSome, length, reverse, refl, ap, sym, subst, ◌∙◌, arith, ◌↔◌, true}
use Rattle.parser_events.specs.Marked.{Marked, End, Node, Split, ◌beside◌, size, front, after, into, walk}
use Rattle.parser_events.specs.Nodes.{Entry, Kept, entries, all_entries, starts, record_of, read_from, read_back, nodes_of, IsRecord, with_entry, opened_at, opened_here, innermost, left_out, closed_as, split_as, extended}
use Rattle.parser_events.specs.Stack as stack
use Rattle.parser_events.specs.Stack.{level, total_size, Becomes, with_tree, with_node, closed, split, wrapped, place_of, Place, IsAmong, IsInnermost, IsClosed, IsChild, AreStepsOf}
use Rattle.parser_events.specs.Steps.{Step}
use Rattle.parser_events.proofs.Trees.{total-length, starts-length, last-of, records-tree, records-start, records-close, records-leave, records-split, records-wrap}
use Rattle.parser_events.proofs.Extending.{records-extend}
use Rattle.parser_events.proofs.Stacks.{reads, front-beside, after-beside}

-- There are always the trees outside of all nodes.
pub record Some-trees (trees : List Marked) : Type 0 where
  pub first : Marked
  pub below : List Marked
  pub are : trees ≡ first ∷ below

trees-from : (es : List Entry) (places : List ℕ) → Some-trees (read_from es places)
trees-from es [] = record { first = _; below = _; are = refl }
trees-from es (place ∷ around) = record { first = _; below = _; are = refl }

pub trees-of : (kept : Kept) → Some-trees (read_back kept)
unfolding read_back
trees-of kept = trees-from kept.entered (reverse kept.opened)

-- a change of the record is a change of the open nodes
pub record Made (change : Kept → Kept) (to : List Marked → List Marked) (trees : List Marked) : Type 0 where
  pub first : Marked
  pub below : List Marked
  pub are : to trees ≡ first ∷ below
  pub same : change (record_of trees) ≡ record_of (first ∷ below)

pub record Call (to : List Marked → List Marked) (old new : Option Kept) : Type 0 where
  pub is_record : IsRecord new
  pub becomes : Becomes to (nodes_of old) (nodes_of new)

step :
    (change : Kept → Kept) (to : List Marked → List Marked) (old new : Option Kept) → Becomes change old new → IsRecord old
    → ((kept : Kept) → old ≡ Some kept → (f : Marked) (below : List Marked) → read_back kept ≡ f ∷ below → Made change to (f ∷ below)) → Call to old new
step change to None None h is made = record { is_record = tt; becomes = tt }
step change to None (Some n) h is made = absurd h
step change to (Some o) None h is made = record { is_record = tt; becomes = tt }
step change to (Some o) (Some n) h is made =
    let some = trees-of o in
    let m = made o refl some.first some.below some.are in
    let kept : n ≡ record_of (m.first ∷ m.below) = h ∙ ap change (is ∙ ap record_of some.are) ∙ m.same in
    let read : read_back n ≡ m.first ∷ m.below = ap read_back kept ∙ reads m.first m.below in
    record { is_record = kept ∙ ap record_of (sym read); becomes = read ∙ sym m.are ∙ ap to (sym some.are) }

pub adds : (e : Entry) (tree : Marked) (old new : Option Kept) → ((b : ℕ) → entries b tree ≡ e ∷ []) → Becomes (with_entry e) old new → IsRecord old → Call (with_tree tree) old new
adds e tree old new one h is =
    step (with_entry e) (with_tree tree) old new h is
    (λ kept at f below eq. record { first = f beside tree; below = below; are = refl; same = records-tree e tree f below one })

pub opens : (old new : Option Kept) → Becomes opened_here old new → IsRecord old → Call with_node old new
opens old new h is =
    step opened_here with_node old new h is
    (λ kept at f below eq. record { first = End; below = f ∷ below; are = refl; same = records-start f below })

-- `around + 1` nodes are open if `around` is the model of the innermost node's marker
around-is : (around : ℕ) (old : Option Kept) → IsInnermost around (nodes_of old) → (kept : Kept) → old ≡ Some kept → (f : Marked) (below : List Marked) → read_back kept ≡ f ∷ below → length below ≡ suc around
around-is around old inner kept at f below eq =
    sym (ap level eq) ∙ subst (λ (o : Option Kept). IsInnermost around (nodes_of o)) at inner

pub closes : (kind around : ℕ) (old new : Option Kept) → Becomes (closed_as kind) old new → IsRecord old → IsInnermost around (nodes_of old) → Call (closed kind) old new
closes kind around old new h is inner =
    step (closed_as kind) (closed kind) old new h is (λ kept at f below eq. close f below (around-is around old inner kept at f below eq))
  where
    close : (f : Marked) (below : List Marked) → length below ≡ suc around → Made (closed_as kind) (closed kind) (f ∷ below)
    close f [] e = absurd (omega (arith, e))
    close f (g ∷ below) e = record { first = g beside Node kind f End; below = below; are = refl; same = records-close kind f g below }

pub leaves : (around : ℕ) (old new : Option Kept) → Becomes left_out old new → IsRecord old → IsInnermost around (nodes_of old) → Call stack.left_out old new
leaves around old new h is inner =
    step left_out stack.left_out old new h is (λ kept at f below eq. leave f below (around-is around old inner kept at f below eq))
  where
    leave : (f : Marked) (below : List Marked) → length below ≡ suc around → Made left_out stack.left_out (f ∷ below)
    leave f [] e = absurd (omega (arith, e))
    leave f (g ∷ below) e = record { first = g beside f; below = below; are = refl; same = records-leave f g below }

pub extends : (around : ℕ) (old new : Option Kept) → Becomes extended old new → IsRecord old → IsInnermost around (nodes_of old) → Call stack.extended old new
extends around old new h is inner =
    step extended stack.extended old new h is (λ kept at f below eq. extend f below (around-is around old inner kept at f below eq))
  where
    extend : (f : Marked) (below : List Marked) → length below ≡ suc around → Made extended stack.extended (f ∷ below)
    extend f [] e = absurd (omega (arith, e))
    extend f (g ∷ below) e = record { first = into g f; below = below; are = refl; same = records-extend f g below }

pub splits : (e : Bool) (around : ℕ) (old new : Option Kept) → Becomes (split_as e) old new → IsRecord old → IsInnermost around (nodes_of old) → Call (split e) old new
splits e around old new h is inner =
    step (split_as e) (split e) old new h is (λ kept at f below eq. cut f below (around-is around old inner kept at f below eq))
  where
    cut : (f : Marked) (below : List Marked) → length below ≡ suc around → Made (split_as e) (split e) (f ∷ below)
    cut f [] n = absurd (omega (arith, n))
    cut f (g ∷ below) n = record { first = Split e f End; below = g ∷ below; are = refl; same = records-split e f g below }

pub wrap : (before : ℕ) (earlier tree : Marked) (below : List Marked) → before ≡ total_size (earlier ∷ below) → Made (opened_at before) (wrapped before) ((earlier beside tree) ∷ below)
wrap before earlier tree below at =
    let n : before - total_size below ≡ size earlier = omega (arith, at) in
    record {
      first = tree;
      below = earlier ∷ below;
      are =
          ap (λ (m : ℕ). after m (earlier beside tree) ∷ front m (earlier beside tree) ∷ below) n
          ∙ ap (λ (f : Marked). f ∷ front (size earlier) (earlier beside tree) ∷ below) (after-beside earlier tree)
          ∙ ap (λ (f : Marked). tree ∷ f ∷ below) (front-beside earlier tree);
      same = records-wrap before earlier tree below (at ∙ sym (total-length (earlier ∷ below)));
    }

pub wraps : (place : Place) (old new : Option Kept) → Becomes (opened_at place.before) old new → IsRecord old → IsChild place (nodes_of old) → Call (wrapped place.before) old new
wraps place old new h is child =
    step (opened_at place.before) (wrapped place.before) old new h is
    (λ kept at f below eq.
    let a : IsAmong place (read_back kept) = subst (λ (o : Option Kept). IsChild place (nodes_of o)) at child in
    subst (λ (trees : List Marked). Made (opened_at place.before) (wrapped place.before) trees) (sym a.are ∙ eq) (wrap place.before a.earlier (Node a.kind a.children a.later) a.below a.before))

-- what the code counts as open
abbrev pub CountsOpen : ℕ → Option Kept → Type 0
CountsOpen n old = (kept : Kept) → old ≡ Some kept → n ≡ length kept.opened

pub level-is : (n : ℕ) (kept : Kept) → n ≡ length kept.opened → IsRecord (Some kept) → n ≡ level (read_back kept)
level-is n kept counts is =
    let some = trees-of kept in
    counts ∙ ap (λ (k : Kept). length k.opened) (is ∙ ap record_of some.are) ∙ starts-length some.first some.below ∙ sym (ap level some.are)

-- one node more is open
one-more : (around : ℕ) (to : List Marked → List Marked) (old new : Option Kept) → ((f : Marked) (below : List Marked) → level (to (f ∷ below)) ≡ suc (length below)) → CountsOpen around old → IsRecord old → Becomes to (nodes_of old) (nodes_of new) → IsInnermost around (nodes_of new)
one-more around to None None more counts is h = tt
one-more around to None (Some n) more counts is h = absurd h
one-more around to (Some o) None more counts is h = tt
one-more around to (Some o) (Some n) more counts is h =
    let some = trees-of o in
    ap level (h ∙ ap to some.are) ∙ more some.first some.below ∙ ap suc (sym (level-is around o (counts o refl) is ∙ ap level some.are))

pub start-marks : (around : ℕ) (old new : Option Kept) → CountsOpen around old → IsRecord old → Becomes with_node (nodes_of old) (nodes_of new) → IsInnermost around (nodes_of new)
start-marks around old new counts is h = one-more around with_node old new (λ f below. refl) counts is h

pub precede-marks : (around before : ℕ) (old new : Option Kept) → CountsOpen around old → IsRecord old → Becomes (wrapped before) (nodes_of old) (nodes_of new) → IsInnermost around (nodes_of new)
precede-marks around before old new counts is h = one-more around (wrapped before) old new (λ f below. refl) counts is h

same-place : (a b m n : ℕ) → a ≡ m → b ≡ n → ◌≡◌ {A = Place} (record { before = a; inside = b }) (record { before = m; inside = n })
same-place a b m n h k = rw (h, k) refl

-- the place of a node that is closed now
pub place-is :
    (around first last : ℕ) (old : Option Kept) → IsRecord old → IsInnermost around (nodes_of old)
    → ((kept : Kept) → old ≡ Some kept → first ≡ innermost kept) → ((kept : Kept) → old ≡ Some kept → last ≡ length kept.entered)
    → IfSome (nodes_of old) (λ (trees : List Marked). record { before = first; inside = last - first } ≡ place_of trees)
place-is around first last None is inner begins ends = tt
place-is around first last (Some o) is inner begins ends =
    let some = trees-of o in
    place some.first some.below (is ∙ ap record_of some.are) (around-is around (Some o) inner o refl some.first some.below some.are) ∙ ap place_of (sym some.are)
  where
    place : (f : Marked) (below : List Marked) → o ≡ record_of (f ∷ below) → length below ≡ suc around → ◌≡◌ {A = Place} (record { before = first; inside = last - first }) (place_of (f ∷ below))
    place f [] e n = absurd (omega (arith, n))
    place f (g ∷ below) e n =
        let b : first ≡ total_size (g ∷ below) =
        begins o refl ∙ ap innermost e ∙ last-of (starts (g ∷ below)) (length (all_entries (g ∷ below))) ∙ total-length (g ∷ below) in
        let l : last ≡ total_size (f ∷ g ∷ below) = ends o refl ∙ ap (λ (k : Kept). length k.entered) e ∙ total-length (f ∷ g ∷ below) in
        same-place first (last - first) _ _ b (omega (arith, b, l))

-- the record of the one list of trees that is left
pub steps-are : (old : Option Kept) (steps : List Step) → (old ≡ None → ⊥) → IsRecord old → IsClosed (nodes_of old) → ((f : Marked) → old ≡ Some (record_of (f ∷ [])) → steps ≡ walk f) → AreStepsOf (nodes_of old) steps
steps-are None steps some is none walked = absurd (some refl)
steps-are (Some o) steps some is none walked =
    let trees = trees-of o in
    one trees.first trees.below trees.are (sym (ap level trees.are) ∙ none)
  where
    one : (f : Marked) (below : List Marked) → read_back o ≡ f ∷ below → length below ≡ 0 → AreStepsOf (Some (read_back o)) steps
    one f [] e n = record { trees = f; left = ap Some e; walked = walked f (ap Some (is ∙ ap record_of e)) }
    one f (g ∷ below) e n = absurd (omega (arith, n))

-- nothing is recorded, and no node is open
pub nothing-read : read_back (record { entered = []; opened = [] }) ≡ End ∷ []
nothing-read = reads End []

pub nothing-recorded : IsRecord (Some (record { entered = []; opened = [] }))
nothing-recorded = ap record_of (sym nothing-read)

-- a node that was closed just now is a tree of the innermost one
pub just-closed : (kind around : ℕ) (place : Place) (old new : Option (List Marked)) → IsInnermost around old → IfSome old (λ (trees : List Marked). place ≡ place_of trees) → Becomes (closed kind) old new → IsChild place new
just-closed kind around place None None inner at h = tt
just-closed kind around place None (Some n) inner at h = absurd h
just-closed kind around place (Some o) None inner at h = tt
just-closed kind around place (Some []) (Some n) inner at h = absurd (omega (arith, inner))
just-closed kind around place (Some (f ∷ [])) (Some n) inner at h = absurd (omega (arith, inner))
just-closed kind around place (Some (f ∷ g ∷ below)) (Some n) inner at h = record {
  earlier = g;
  kind = kind;
  children = f;
  later = End;
  below = below;
  are = h;
  before = ap (λ (p : Place). p.before) at;
  inside = ap (λ (p : Place). p.inside) at;
}

-- the innermost node has `around` nodes around it if and only if `around + 1` nodes are open
pub innermost-tells : (n around : ℕ) (old : Option Kept) → (old ≡ None → ⊥) → IsRecord old → CountsOpen n old → (IsInnermost around (nodes_of old) → n ≡ suc around) × (n ≡ suc around → IsInnermost around (nodes_of old))
innermost-tells n around None some is counts = absurd (some refl)
innermost-tells n around (Some o) some is counts =
    let e = level-is n o (counts o refl) is in
    (λ inner. e ∙ inner, λ same. sym e ∙ same)

-- of two changes in a row
pub becomes-then : {A : Type 0} → (f g : A → A) (old now new : Option A) → Becomes f old now → Becomes g now new → Becomes (λ x. g (f x)) old new
becomes-then f g None None None p q = tt
becomes-then f g None None (Some n) p q = absurd q
becomes-then f g None (Some m) new p q = absurd p
becomes-then f g (Some o) None None p q = tt
becomes-then f g (Some o) None (Some n) p q = absurd q
becomes-then f g (Some o) (Some m) None p q = tt
becomes-then f g (Some o) (Some m) (Some n) p q = q ∙ ap g p

-- the same node is the innermost one after a change that leaves as many open
pub stays-innermost : (around : ℕ) (to : List Marked → List Marked) (old new : Option (List Marked)) → ((trees : List Marked) → level (to trees) ≡ level trees) → Becomes to old new → IsInnermost around old → IsInnermost around new
stays-innermost around to None None same h inner = tt
stays-innermost around to None (Some n) same h inner = absurd h
stays-innermost around to (Some o) None same h inner = tt
stays-innermost around to (Some o) (Some n) same h inner = ap level h ∙ same o ∙ inner

pub level-with_tree : (tree : Marked) (trees : List Marked) → level (with_tree tree trees) ≡ level trees
level-with_tree tree [] = refl
level-with_tree tree (f ∷ below) = refl

-- where the innermost node begins
innermost-size : (f : Marked) (below : List Marked) → innermost (record_of (f ∷ below)) ≡ total_size below
innermost-size f [] = refl
innermost-size f (g ∷ below) = last-of (starts (g ∷ below)) (length (all_entries (g ∷ below))) ∙ total-length (g ∷ below)

-- whether a closed node is a tree of the innermost one, by the record
pub child-tells :
    (old : Option Kept) (first inside : ℕ) (b : Bool) → IsRecord old
    → ((kept : Kept) → old ≡ Some kept → (f : Marked) (below : List Marked) → kept.entered ≡ all_entries (f ∷ below) → innermost kept ≡ total_size below
    → (b ≡ true) ↔ IsAmong (record { before = first; inside = inside }) (f ∷ below))
    → (old ≡ None → b ≡ true) → (b ≡ true) ↔ IsChild (record { before = first; inside = inside }) (nodes_of old)
child-tells None first inside b is tells refused = (λ t. tt, λ u. refused refl)
child-tells (Some k) first inside b is tells refused =
    let some = trees-of k in
    let e : k ≡ record_of (some.first ∷ some.below) = is ∙ ap record_of some.are in
    let here = tells k refl some.first some.below (ap (λ (x : Kept). x.entered) e) (ap innermost e ∙ innermost-size some.first some.below) in
    subst (λ (trees : List Marked). (b ≡ true) ↔ IsAmong (record { before = first; inside = inside }) trees) (sym some.are) here
