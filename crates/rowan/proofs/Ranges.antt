-- The search for a child by its range.
use Rattle.std.proofs.Common.{◌≡◌, ℕ, zero, suc, ◌+◌, ◌-◌, ◌<◌, ◌≤◌, List, [], ◌∷◌, length, take, drop, refl, ap, sym, ◌∙◌, arith, Option, Some, None, slice_get, Bool, true, false, ◌&&◌, nat_le, cond, ◌⊎◌, inl, inr}
use Rattle.std.proofs.lemmas.Bool.{lt-leb, le-leb}
use Rattle.std.specs.List.{filter, cons_option}
use Rattle.rowan_green.specs.Forest.{Tree}
use Rattle.rowan_green.specs.Term.{Term, children_of, texts_of}
use Rattle.rowan_green.specs.ChildAt.{IsChildAt}
use Rattle.rowan_green.specs.declared.utility_types.NodeOrToken.TheVariants.{Node, Token}
use Rattle.rowan.specs.Place.{Place, below, term_at, terms_below, children_in, start_of, end_of}
use Rattle.rowan.specs.Around.{Cursor, place_in, cursor_of, cursor_in, cursor_at, numbered, children_from, nodes, first}
use Rattle.rowan.specs.Pointer.{spans}
use Rattle.rowan.specs.Ranges.{holds, child_at_range}
use Rattle.rowan.proofs.Lists.{from_here, none_from}
use Rattle.rowan.proofs.Places.{next_start, last_end}
use Rattle.rowan.proofs.Steps.{get_past}
use Rattle.rowan.proofs.Texts.{lt_or_ge}
use Rattle.rowan.proofs.Leaves.{child_falls, count_in}

and_false : (x : Bool) → (x && false) ≡ false
and_false true = refl
and_false false = refl

place_of_cursor : (q : Place) (e : Term) → place_in (cursor_of q e) ≡ q
place_of_cursor q (Node t) = refl
place_of_cursor q (Token l) = refl

late : (a b s e : ℕ) → a < s → (nat_le s a && nat_le b e) ≡ false
late a b s e h = ap (λ x. x && nat_le b e) (lt-leb s a h)

early : (a b s e : ℕ) → e < b → (nat_le s a && nat_le b e) ≡ false
early a b s e h = ap (λ x. nat_le s a && x) (lt-leb b e h) ∙ and_false (nat_le s a)

both : (a b s e : ℕ) → s ≤ a → b ≤ e → (nat_le s a && nat_le b e) ≡ true
both a b s e h k = ap (λ x. x && nat_le b e) (le-leb s a h) ∙ le-leb b e k

place_of_found : (q : Place) (x : Option Term) (c : Cursor) → cursor_in q x ≡ Some c → place_in c ≡ q
place_of_found q None c h = absurd (cc)
place_of_found q (Some e) c h = let k : c ≡ cursor_of q e = cc in ap place_in k ∙ place_of_cursor q e

-- the children from one on that begins too late
none_late : (p : Place) (a b : ℕ) (es : List Term) (i : ℕ) → a < start_of (below p i) → first (filter (holds a b) (numbered p i es)) ≡ None
none_late p a b [] i h = refl
none_late p a b (e ∷ es) i h =
    let t : holds a b (cursor_of (below p i) e) ≡ false =
    ap (λ q. nat_le (start_of q) a && nat_le b (end_of q)) (place_of_cursor (below p i) e) ∙ late a b (start_of (below p i)) (end_of (below p i)) h in
    let s : start_of (below p i) ≤ end_of (below p i) = omega arith in
    ap (λ x. first (cond x (cursor_of (below p i) e ∷ filter (holds a b) (numbered p (i + 1) es)) (filter (holds a b) (numbered p (i + 1) es)))) t
    ∙ none_late p a b es (i + 1) (omega (arith, next_start p i, h, s))

without : (t : Cursor → Bool) (x : Option Cursor) (cs : List Cursor) → ((c : Cursor) → x ≡ Some c → t c ≡ false) → filter t (cons_option x cs) ≡ filter t cs
without t None cs h = refl
without t (Some c) cs h = ap (λ b. cond b (c ∷ filter t cs) (filter t cs)) (h c refl)

over_early : (p : Place) (a b i : ℕ) → end_of (below p i) < b → filter (holds a b) (children_from p i) ≡ filter (holds a b) (children_from p (i + 1))
over_early p a b i h =
    ap (filter (holds a b)) (from_here p i)
    ∙ without (holds a b) (cursor_at (below p i)) (children_from p (i + 1)) (λ c k. ap (λ q. nat_le (start_of q) a && nat_le b (end_of q)) (place_of_found (below p i) (term_at (below p i)) c k) ∙ early a b (start_of (below p i)) (end_of (below p i)) h)

-- the children before one that begins too early to hold the range alone
pub from_child : (p : Place) (a b i : ℕ) → start_of (below p i) < b → child_at_range a b p ≡ first (filter (holds a b) (children_from p i))
from_child p a b zero h = refl
from_child p a b (suc i) h =
    let n : suc i ≡ i + 1 = omega arith in
    let s : start_of (below p (suc i)) ≡ end_of (below p i) = ap (λ m. start_of (below p m)) n ∙ next_start p i in
    let o : start_of (below p i) ≤ end_of (below p i) = omega arith in
    from_child p a b i (omega (arith, s, o, h))
    ∙ ap first (over_early p a b i (omega (arith, s, h)))
    ∙ ap (λ m. first (filter (holds a b) (children_from p m))) (sym n)

found_in : (p : Place) (a b i : ℕ) (x : Option Term) → term_at (below p i) ≡ x → start_of (below p i) ≤ a → b ≤ end_of (below p i)
    → first (filter (holds a b) (children_from p i)) ≡ cursor_in (below p i) x
found_in p a b i None k s e = ap (λ cs. first (filter (holds a b) cs)) (none_from p (terms_below p) i i k)
found_in p a b i (Some t) k s e =
    let h : holds a b (cursor_of (below p i) t) ≡ true =
    ap (λ q. nat_le (start_of q) a && nat_le b (end_of q)) (place_of_cursor (below p i) t) ∙ both a b (start_of (below p i)) (end_of (below p i)) s e in
    ap (λ cs. first (filter (holds a b) cs)) (from_here p i ∙ ap (λ o. cons_option (cursor_in (below p i) o) (children_from p (i + 1))) k)
    ∙ ap (λ y. first (cond y (cursor_of (below p i) t ∷ filter (holds a b) (children_from p (i + 1))) (filter (holds a b) (children_from p (i + 1))))) h

pub found_here : (p : Place) (a b i : ℕ) → child_at_range a b p ≡ first (filter (holds a b) (children_from p i)) → start_of (below p i) ≤ a → b ≤ end_of (below p i) → child_at_range a b p ≡ cursor_at (below p i)
found_here p a b i h s e = h ∙ found_in p a b i (term_at (below p i)) refl s e

pub none_here : (p : Place) (a b i : ℕ) → child_at_range a b p ≡ first (filter (holds a b) (children_from p i)) → a < start_of (below p i) → child_at_range a b p ≡ None
none_here p a b i h l = h ∙ none_late p a b (drop i (terms_below p)) i l

-- a range that ends after its node
pub none_after : (p : Place) (g : Tree) (a b : ℕ) → term_at p ≡ Some (Node g) → end_of p < b → child_at_range a b p ≡ None
none_after p g a b h l =
    let n = length (terms_below p) in
    from_child p a b n (omega (arith, last_end p g h, l))
    ∙ ap (λ cs. first (filter (holds a b) cs)) (none_from p (terms_below p) n n (get_past (terms_below p) n (omega arith)))

-- a child of the green node where a search by an offset found it
module _ (p : Place) (g : Tree) (from b i start : ℕ) (h : term_at p ≡ Some (Node g)) (f : from ≡ start_of p) (l : from < b) (c : IsChildAt (children_of g) (b - from - 1) i start) where
  list_is : terms_below p ≡ children_of g
  list_is = ap children_in h

  pub start_found : from + start ≡ start_of (below p i)
  start_found = let e = ap (λ es. length (texts_of (take i es))) list_is in omega (arith, e, f, c.begins)

  pub found_early : start_of (below p i) < b
  found_early = omega (arith, start_found, c.from, l)

  pub found_reaches : b ≤ end_of (below p i)
  found_reaches = let e = ap (λ es. length (texts_of (take (i + 1) es))) list_is in omega (arith, e, f, c.before_end, next_start p i, l)

-- what is found among children is one of them
renumbered : (p : Place) (j k : ℕ) (x : Option Term) (c : Cursor) → j ≡ k → Some c ≡ cursor_in (below p j) x → Some c ≡ cursor_in (below p k) x
renumbered p j k x c e h = h ∙ ap (λ n. cursor_in (below p n) x) e

found_case : (p : Place) (i : ℕ) (e : Term) (es : List Term) (c : Cursor) (b : Bool) (rest : List Cursor) → first (cond b (cursor_of (below p i) e ∷ rest) rest) ≡ Some c
    → (first rest ≡ Some c → (k : ℕ) × (Some c ≡ cursor_in (below p (i + 1 + k)) (slice_get es k)))
    → (k : ℕ) × (Some c ≡ cursor_in (below p (i + k)) (slice_get (e ∷ es) k))
found_case p i e es c true rest h ih =
    let n : i ≡ i + 0 = omega arith in
    (0, sym h ∙ ap (λ m. Some (cursor_of (below p m) e)) n)
found_case p i e es c false rest h ih =
    let r = ih h in
    let n : i + 1 + r.0 ≡ i + suc r.0 = omega arith in
    (suc r.0, renumbered p (i + 1 + r.0) (i + suc r.0) (slice_get es r.0) c n r.1)

found_by : (t : Cursor → Bool) (p : Place) (es : List Term) (i : ℕ) (c : Cursor) → first (filter t (numbered p i es)) ≡ Some c → (k : ℕ) × (Some c ≡ cursor_in (below p (i + k)) (slice_get es k))
found_by t p [] i c h = absurd (cc)
found_by t p (e ∷ es) i c h = found_case p i e es c (t (cursor_of (below p i) e)) (filter t (numbered p (i + 1) es)) h (found_by t p es (i + 1) c)

pub range_falls : (p : Place) (a b : ℕ) (c : Cursor) → child_at_range a b p ≡ Some c → count_in (term_at (place_in c)) < count_in (term_at p)
range_falls p a b c h =
    let r = found_by (holds a b) p (terms_below p) 0 c h in
    let n : 0 + r.0 ≡ r.0 = omega arith in
    child_falls p r.0 c (renumbered p (0 + r.0) r.0 (slice_get (terms_below p) r.0) c n r.1)

-- ---- the nodes among them

nodes_without : (p : Place) (a b i : ℕ) (x : Option Term) → spans a b (below p i) ≡ false → (cs : List Cursor) → filter (spans a b) (nodes (cons_option (cursor_in (below p i) x) cs)) ≡ filter (spans a b) (nodes cs)
nodes_without p a b i None h cs = refl
nodes_without p a b i (Some (Node t)) h cs = ap (λ x. cond x (below p i ∷ filter (spans a b) (nodes cs)) (filter (spans a b) (nodes cs))) h
nodes_without p a b i (Some (Token l)) h cs = refl

-- no node spans a range that begins before all children that are left
nodes_late : (p : Place) (a b : ℕ) (es : List Term) (i : ℕ) → a < start_of (below p i) → first (filter (spans a b) (nodes (numbered p i es))) ≡ None
nodes_late p a b [] i h = refl
nodes_late p a b (e ∷ es) i h =
    let s : start_of (below p i) ≤ end_of (below p i) = omega arith in
    ap first (nodes_without p a b i (Some e) (late a b (start_of (below p i)) (end_of (below p i)) h) (numbered p (i + 1) es))
    ∙ nodes_late p a b es (i + 1) (omega (arith, next_start p i, h, s))

pub no_node_late : (p : Place) (a b i : ℕ) → a < start_of (below p i) → first (filter (spans a b) (nodes (children_from p i))) ≡ None
no_node_late p a b i h = nodes_late p a b (drop i (terms_below p)) i h

nodes_from : (p : Place) (a b i d : ℕ) → start_of (below p (i + d)) < b ⊎ (d ≡ 0) → filter (spans a b) (nodes (children_from p i)) ≡ filter (spans a b) (nodes (children_from p (i + d)))
nodes_from p a b i zero h = let n : i ≡ i + 0 = omega arith in ap (λ m. filter (spans a b) (nodes (children_from p m))) n
nodes_from p a b i (suc d) (inr z) = absurd (omega arith)
nodes_from p a b i (suc d) (inl h) =
    let n : i + suc d ≡ i + d + 1 = omega arith in
    let s : start_of (below p (i + suc d)) ≡ end_of (below p (i + d)) = ap (λ m. start_of (below p m)) n ∙ next_start p (i + d) in
    let o : start_of (below p (i + d)) ≤ end_of (below p (i + d)) = omega arith in
    nodes_from p a b i d (inl (omega (arith, s, o, h)))
    ∙ ap (λ cs. filter (spans a b) (nodes cs)) (from_here p (i + d))
    ∙ nodes_without p a b (i + d) (term_at (below p (i + d))) (early a b (start_of (below p (i + d))) (end_of (below p (i + d))) (omega (arith, s, h))) (children_from p (i + d + 1))
    ∙ ap (λ m. filter (spans a b) (nodes (children_from p m))) (sym n)

-- nor do children that end before the range does
pub nodes_early : (p : Place) (a b i j : ℕ) → i ≤ j → (i < j → start_of (below p j) < b) → first (filter (spans a b) (nodes (children_from p i))) ≡ first (filter (spans a b) (nodes (children_from p j)))
nodes_early p a b i j h k =
    let n : i + (j - i) ≡ j = omega arith in
    let m : start_of (below p (i + (j - i))) ≡ start_of (below p j) = ap (λ x. start_of (below p x)) n in
    elim (lt_or_ge i j) [
      | inl l ↦ ap first (nodes_from p a b i (j - i) (inl (omega (arith, m, k l)))) ∙ ap (λ x. first (filter (spans a b) (nodes (children_from p x)))) n
      | inr g ↦ ap first (nodes_from p a b i (j - i) (inr (omega arith))) ∙ ap (λ x. first (filter (spans a b) (nodes (children_from p x)))) n
    ]
