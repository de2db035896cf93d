-- The tokens of a tree, child by child.
use Rattle.std.proofs.Common.{◌≡◌, ℕ, zero, suc, ◌+◌, ◌<◌, ◌≤◌, List, [], ◌∷◌, ◌++◌, refl, ap, sym, ◌∙◌, arith, length, append_assoc, append-nil, add-one, reverse, IsSome, Option, Some, None, slice_get}
use Rattle.std.proofs.lemmas.List.{reverse-append}
use Rattle.std.proofs.lemmas.Bool.{false≢true}
use Rattle.std.specs.List.{cons_option}
use Rattle.rowan_green.specs.Forest.{Forest, empty, node, leaf, Tree, forest_count}
use Rattle.rowan_green.specs.Term.{Term, terms, term_count}
use Rattle.rowan_green.specs.declared.utility_types.NodeOrToken.TheVariants.{Node, Token}
use Rattle.rowan.specs.Place.{Place, above, below, term_at, terms_below, children_in, index_of}
use Rattle.rowan.specs.Around.{Cursor, place_in, cursor_in, cursor_at, children_before, tokens, first}
use Rattle.rowan.specs.Walk.{Event, walk_from, entered}
use Rattle.rowan.specs.Leaves.{tokens_from, tokens_in, tokens_after, tokens_back, tokens_back_by, tokens_before}
use Rattle.rowan.specs.declared.utility_types.WalkEvent.TheVariants.{Enter, Leave}
use Rattle.rowan.proofs.Walks.{walk_here, walk_nothing, events_by, place_of_child}
use Rattle.rowan.proofs.Lists.{number_within, stands_within, before_here}
use Rattle.rowan.proofs.Places.{child_of}
use Rattle.rowan.proofs.Steps.{get_past}

pub entered-append : (v w : List Event) → tokens (entered (v ++ w)) ≡ tokens (entered v) ++ tokens (entered w)
entered-append [] w = refl
entered-append (Enter (Node p) ∷ v) w = entered-append v w
entered-append (Enter (Token p) ∷ v) w = ap (λ xs. p ∷ xs) (entered-append v w)
entered-append (Leave c ∷ v) w = entered-append v w

-- the tokens of a child, if there is one
abbrev pub child_tokens : Option Cursor → List Place
child_tokens None = []
child_tokens (Some (Node q)) = tokens_in q
child_tokens (Some (Token q)) = q ∷ []

-- none where there is no child
abbrev rest : Option Cursor → List Place → List Place
rest None xs = []
rest (Some c) xs = xs

here_by : (p : Place) (i : ℕ) (o : Option Term) → slice_get (terms_below p) i ≡ o → walk_from p i ≡ events_by (cursor_in (below p i) o) (walk_from p (i + 1)) → tokens_from p i ≡ child_tokens (cursor_in (below p i) o) ++ rest (cursor_in (below p i) o) (tokens_from p (i + 1))
here_by p i None h w = ap (λ v. tokens (entered v)) w
here_by p i (Some (Node t)) h w =
    ap (λ v. tokens (entered v)) w ∙ entered-append (walk_from (below p i) 0) (Leave (Node (below p i)) ∷ walk_from p (i + 1))
here_by p i (Some (Token l)) h w =
    ap (λ v. tokens (entered v)) w ∙ ap (λ v. below p i ∷ tokens (entered (v ++ Leave (Token (below p i)) ∷ walk_from p (i + 1)))) (walk_nothing p i l h)

-- the tokens from a child on are those of that child, and then those from the next one on
pub tokens_here : (p : Place) (i : ℕ) → tokens_from p i ≡ child_tokens (cursor_at (below p i)) ++ rest (cursor_at (below p i)) (tokens_from p (i + 1))
tokens_here p i = here_by p i (slice_get (terms_below p) i) refl (walk_here p i)

pub tokens_none : (p : Place) (i : ℕ) → None ≡ cursor_at (below p i) → tokens_from p i ≡ []
tokens_none p i h = tokens_here p i ∙ ap (λ o. child_tokens o ++ rest o (tokens_from p (i + 1))) (sym h)

pub tokens_child : (p : Place) (i : ℕ) (c : Cursor) → Some c ≡ cursor_at (below p i) → tokens_from p i ≡ child_tokens (Some c) ++ tokens_from p (i + 1)
tokens_child p i c h = tokens_here p i ∙ ap (λ o. child_tokens o ++ rest o (tokens_from p (i + 1))) (sym h)

first-append : {A : Type 0} (xs ys : List A) → None ≡ first xs → first (xs ++ ys) ≡ first ys
first-append [] ys h = refl
first-append (x ∷ xs) ys h = absurd (cc)

first-some : {A : Type 0} (xs ys : List A) (x : A) → Some x ≡ first xs → first (xs ++ ys) ≡ Some x
first-some [] ys x h = absurd (cc)
first-some (y ∷ xs) ys x h = sym h

pub over_empty : (p q : Place) (i : ℕ) → Some (Node q) ≡ cursor_at (below p i) → None ≡ first (tokens_in q) → first (tokens_from p i) ≡ first (tokens_from p (i + 1))
over_empty p q i h n = ap first (tokens_child p i (Node q) h) ∙ first-append (tokens_in q) (tokens_from p (i + 1)) n

pub in_node : (p q t : Place) (i : ℕ) → Some (Node q) ≡ cursor_at (below p i) → Some t ≡ first (tokens_in q) → first (tokens_from p i) ≡ Some t
in_node p q t i h n = ap first (tokens_child p i (Node q) h) ∙ first-some (tokens_in q) (tokens_from p (i + 1)) t n

pub at_token : (p q : Place) (i : ℕ) → Some (Token q) ≡ cursor_at (below p i) → first (tokens_from p i) ≡ Some q
at_token p q i h = ap first (tokens_child p i (Token q) h)

-- ---- how much stands below a place

abbrev pub count_in : Option Term → ℕ
count_in None = 0
count_in (Some e) = term_count e

count_of : (f : Forest) (i : ℕ) (e : Term) → slice_get (terms f) i ≡ Some e → term_count e ≤ forest_count f
count_of empty i e h = absurd (cc)
count_of (node k f r) zero e h = let x : Node (record { kind = k; forest = f }) ≡ e = cc in rw (← x) (omega arith)
count_of (node k f r) (suc i) e h = omega (arith, count_of r i e h)
count_of (leaf l r) zero e h = let x : Token l ≡ e = cc in rw (← x) (omega arith)
count_of (leaf l r) (suc i) e h = omega (arith, count_of r i e h)

falls_by : (o : Option Term) (i : ℕ) (e : Term) → slice_get (children_in o) i ≡ Some e → term_count e < count_in o
falls_by None i e h = absurd (cc)
falls_by (Some (Node t)) i e h = omega (arith, count_of t.forest i e h)
falls_by (Some (Token l)) i e h = absurd (cc)

falls_term : (p : Place) (i : ℕ) (x : Option Term) (c : Cursor) → slice_get (terms_below p) i ≡ x → Some c ≡ cursor_in (below p i) x → count_in x < count_in (term_at p)
falls_term p i None c h k = absurd (cc)
falls_term p i (Some e) c h k = falls_by (term_at p) i e h

-- a child has less below it than its parent
pub child_falls : (p : Place) (i : ℕ) (c : Cursor) → Some c ≡ cursor_at (below p i) → count_in (term_at (place_in c)) < count_in (term_at p)
child_falls p i c h =
    rw (place_of_child p i c h) (falls_term p i (slice_get (terms_below p) i) c refl h)

number_by : (p : Place) (i : ℕ) (x : Option Term) (c : Cursor) → slice_get (terms_below p) i ≡ x → Some c ≡ cursor_in (below p i) x → i < length (terms_below p)
number_by p i None c h k = absurd (cc)
number_by p i (Some e) c h k = number_within p i e h

pub child_number : (p : Place) (i : ℕ) (c : Cursor) → Some c ≡ cursor_at (below p i) → i < length (terms_below p)
child_number p i c h = number_by p i (slice_get (terms_below p) i) c refl h

-- ---- the tokens after a place

module _ (q p : Place) (i : ℕ) (h : Some p ≡ above q) (k : i ≡ index_of q) where
  is_below : q ≡ below p i
  is_below = child_of q p h ∙ ap (below p) (sym k)

  pub after_step : tokens_after q ≡ tokens_from p (i + 1) ++ tokens_after p
  after_step = ap tokens_after is_below

after_top_by : (root : Tree) (up : List ℕ) → None ≡ above (record { root = root; up = up }) → tokens_after (record { root = root; up = up }) ≡ []
after_top_by root [] h = refl
after_top_by root (i ∷ up) h = absurd (cc)

pub after_end : (q : Place) → None ≡ above q → tokens_after q ≡ []
after_end q h = after_top_by q.root q.up h

pub found_after : (p t : Place) (i : ℕ) → Some t ≡ first (tokens_from p i) → first (tokens_from p i ++ tokens_after p) ≡ Some t
found_after p t i h = first-some (tokens_from p i) (tokens_after p) t h

pub none_after : (p : Place) (i : ℕ) → None ≡ first (tokens_from p i) → first (tokens_from p i ++ tokens_after p) ≡ first (tokens_after p)
none_after p i h = first-append (tokens_from p i) (tokens_after p) h

-- ---- backwards

-- the nearest child before a number
before_by : (p : Place) (i : ℕ) (c : Cursor) → Some c ≡ first (children_before p i) → (k : ℕ) × (k < i) × (Some c ≡ cursor_at (below p k)) × (children_before p i ≡ c ∷ children_before p k)
before_by p zero c h = absurd (cc)
before_by p (suc i) c h = before_cases p i c (cursor_at (below p i)) refl h (before_by p i c)
  where
    before_cases : (p : Place) (i : ℕ) (c : Cursor) (o : Option Cursor) → o ≡ cursor_at (below p i) → Some c ≡ first (cons_option o (children_before p i))
        → (Some c ≡ first (children_before p i) → (k : ℕ) × (k < i) × (Some c ≡ cursor_at (below p k)) × (children_before p i ≡ c ∷ children_before p k))
        → (k : ℕ) × (k < suc i) × (Some c ≡ cursor_at (below p k)) × (cons_option o (children_before p i) ≡ c ∷ children_before p k)
    before_cases p i c None e h ih = let r = ih h in (r.0, omega (arith, r.1), r.2, r.3)
    before_cases p i c (Some x) e h ih =
        let y : x ≡ c = cc in
        let m : Some c ≡ cursor_at (below p i) = ap Some (sym y) ∙ e in
        (i, omega arith, m, ap (λ z. z ∷ children_before p i) y)

pub record Nearest (p : Place) (i : ℕ) (c : Cursor) : Type 0 where
  pub smaller : index_of (place_in c) < i
  pub stands : Some c ≡ cursor_at (below p (index_of (place_in c)))
  pub list : children_before p i ≡ c ∷ children_before p (index_of (place_in c))

pub nearest : (p : Place) (i : ℕ) (c : Cursor) → Some c ≡ first (children_before p i) → Nearest p i c
nearest p i c h =
    let r = before_by p i c h in
    let e : index_of (place_in c) ≡ r.0 = ap index_of (place_of_child p r.0 c r.2) in record {
      smaller = omega (arith, r.1);
      stands = r.2 ∙ ap (λ k. cursor_at (below p k)) (sym e);
      list = r.3 ∙ ap (λ k. c ∷ children_before p k) (sym e);
    }

empty_before : (xs : List Cursor) → None ≡ first xs → tokens_back_by xs ≡ []
empty_before [] h = refl
empty_before (x ∷ xs) h = absurd (cc)

pub back_none : (p : Place) (i : ℕ) → None ≡ first (children_before p i) → tokens_back p i ≡ []
back_none p i h = empty_before (children_before p i) h

-- all children backwards
exists_by : (q : Place) (x : Option Term) → IsSome x → (c : Cursor) × (Some c ≡ cursor_in q x)
exists_by q None h = absurd (false≢true h)
exists_by q (Some (Node t)) h = (Node q, refl)
exists_by q (Some (Token l)) h = (Token q, refl)

child_exists : (p : Place) (i : ℕ) → i < length (terms_below p) → (c : Cursor) × (Some c ≡ cursor_at (below p i))
child_exists p i h = exists_by (below p i) (term_at (below p i)) (stands_within p i h)

back_first : (c : Cursor) (cs : List Cursor) → tokens_back_by (c ∷ cs) ≡ reverse (child_tokens (Some c)) ++ tokens_back_by cs
back_first (Node q) cs = refl
back_first (Token q) cs = refl

back_step : (p : Place) (i : ℕ) → i < length (terms_below p) → reverse (tokens_from p i) ++ tokens_back p i ≡ reverse (tokens_from p (i + 1)) ++ tokens_back p (i + 1)
back_step p i h =
    let e = child_exists p i h in
    let c : Cursor = e.0 in
    let m : Some c ≡ cursor_at (below p i) = e.1 in
    let b : children_before p (i + 1) ≡ c ∷ children_before p i = before_here p i ∙ ap (λ o. cons_option o (children_before p i)) (sym m) in
    ap (λ xs. reverse xs ++ tokens_back p i) (tokens_child p i c m)
    ∙ ap (λ xs. xs ++ tokens_back p i) (reverse-append (child_tokens (Some c)) (tokens_from p (i + 1)))
    ∙ append_assoc (reverse (tokens_from p (i + 1))) (reverse (child_tokens (Some c))) (tokens_back p i)
    ∙ ap (λ xs. reverse (tokens_from p (i + 1)) ++ xs) (sym (back_first c (children_before p i)) ∙ ap tokens_back_by (sym b))

pub back_to : (p : Place) (i : ℕ) → i ≤ length (terms_below p) → reverse (tokens_in p) ≡ reverse (tokens_from p i) ++ tokens_back p i
back_to p zero h = sym (append-nil (reverse (tokens_in p)))
back_to p (suc i) h = back_to p i (omega arith) ∙ back_step p i (omega arith) ∙ ap (λ k. reverse (tokens_from p k) ++ tokens_back p k) (add-one i)

past_all : (p : Place) (n : ℕ) → n ≡ length (terms_below p) → cursor_at (below p n) ≡ None
past_all p n h = ap (cursor_in (below p n)) (get_past (terms_below p) n (omega arith))

pub back_all : (p : Place) (n : ℕ) → n ≡ length (terms_below p) → tokens_back p n ≡ reverse (tokens_in p)
back_all p n h =
    let l : n ≤ length (terms_below p) = omega arith in
    sym (back_to p n l ∙ ap (λ xs. reverse xs ++ tokens_back p n) (tokens_none p n (sym (past_all p n h))))

pub back_token : (p q : Place) (i : ℕ) → Some (Token q) ≡ first (children_before p i) → first (tokens_back p i) ≡ Some q
back_token p q i h = ap (λ cs. first (tokens_back_by cs)) ((nearest p i (Token q) h).list)

pub back_found : (p q t : Place) (i n : ℕ) → Some (Node q) ≡ first (children_before p i) → n ≡ length (terms_below q) → Some t ≡ first (tokens_back q n) → first (tokens_back p i) ≡ Some t
back_found p q t i n h l k =
    ap (λ cs. first (tokens_back_by cs)) ((nearest p i (Node q) h).list)
    ∙ first-some (reverse (tokens_in q)) (tokens_back p (index_of q)) t (k ∙ ap first (back_all q n l))

pub back_empty : (p q : Place) (i n : ℕ) → Some (Node q) ≡ first (children_before p i) → n ≡ length (terms_below q) → None ≡ first (tokens_back q n) → first (tokens_back p i) ≡ first (tokens_back p (index_of q))
back_empty p q i n h l k =
    ap (λ cs. first (tokens_back_by cs)) ((nearest p i (Node q) h).list)
    ∙ first-append (reverse (tokens_in q)) (tokens_back p (index_of q)) (k ∙ ap first (back_all q n l))

-- ---- the tokens before a place

module _ (q p : Place) (i : ℕ) (h : Some p ≡ above q) (k : i ≡ index_of q) where
  pub before_step : tokens_before q ≡ tokens_back p i ++ tokens_before p
  before_step = ap tokens_before (child_of q p h ∙ ap (below p) (sym k))

before_top_by : (root : Tree) (up : List ℕ) → None ≡ above (record { root = root; up = up }) → tokens_before (record { root = root; up = up }) ≡ []
before_top_by root [] h = refl
before_top_by root (i ∷ up) h = absurd (cc)

pub before_end : (q : Place) → None ≡ above q → tokens_before q ≡ []
before_end q h = before_top_by q.root q.up h

pub none_siblings_before : (p : Place) (i : ℕ) → None ≡ first (tokens_back p i) → first (tokens_back p i ++ tokens_before p) ≡ first (tokens_before p)
none_siblings_before p i h = first-append (tokens_back p i) (tokens_before p) h
