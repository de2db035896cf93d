-- What the iterators over children and siblings have left, step by step.
use Rattle.std.proofs.Common.{◌≡◌, ℕ, zero, suc, ◌+◌, ◌<◌, List, [], ◌∷◌, length, drop, refl, ap, sym, ◌∙◌, arith, add-one, Option, Some, None, Result, Ok, Err, IfOk, IsSome, Bool, false}
use Rattle.std.proofs.lemmas.Bool.{false≢true}
use Rattle.std.specs.List.{cons_option}
use Rattle.std.specs.declared.alloc.AllocError.{AllocError}
use Rattle.rowan_green.specs.Forest.{Tree}
use Rattle.rowan_green.specs.Term.{Term}
use Rattle.rowan_green.specs.declared.utility_types.NodeOrToken.TheVariants.{Node, Token}
use Rattle.rowan.specs.Place.{Place, below, index_of, start_of, end_of, terms_below}
use Rattle.rowan.specs.Around.{Cursor, place_in, cursor_at, numbered, children_from, children_before, siblings_after, siblings_before, nodes, first, siblings, sibling_nodes}
use Rattle.rowan.specs.Left.{children_left, siblings_left, sibling_nodes_left}
use Rattle.rowan.specs.declared.utility_types.Direction.{Direction}
use Rattle.rowan.specs.declared.utility_types.Direction.TheVariants.{Next, Prev}
use Rattle.rowan.proofs.Lists.{from_here, first_from}
use Rattle.rowan.proofs.Places.{next_start}
use Rattle.rowan.proofs.Walks.{place_of_child}

none_is_empty : {A : Type 0} (xs : List A) → None ≡ first xs → xs ≡ []
none_is_empty [] h = refl
none_is_empty (x ∷ xs) h = absurd (cc)

pub number_is : (p : Place) (i k : ℕ) (c : Cursor) → Some c ≡ cursor_at (below p i) → k ≡ index_of (place_in c) → k ≡ i
number_is p i k c h e = e ∙ ap index_of (place_of_child p i c h)

pub step_some : (b : Bool) (p : Place) (i k : ℕ) (c : Cursor) (now : List Cursor) → b ≡ false → children_left b p i ≡ now → Some c ≡ cursor_at (below p i) → k ≡ index_of (place_in c) → now ≡ c ∷ children_left b p (k + 1)
step_some b p i k c now f v h e =
    sym v ∙ ap (λ x. children_left x p i) f ∙ from_here p i ∙ ap (λ o. cons_option o (children_from p (i + 1))) (sym h)
    ∙ ap (λ n. c ∷ children_from p (n + 1)) (sym (number_is p i k c h e)) ∙ ap (λ x. c ∷ children_left x p (k + 1)) (sym f)

pub step_none : (b : Bool) (p : Place) (i : ℕ) (now : List Cursor) → b ≡ false → children_left b p i ≡ now → None ≡ cursor_at (below p i) → now ≡ []
step_none b p i now f v h = sym v ∙ ap (λ x. children_left x p i) f ∙ none_is_empty (children_from p i) (h ∙ sym (first_from p i))

some_is_longer : {A : Type 0} (xs : List A) → IsSome (first xs) → 0 < length xs
some_is_longer [] h = absurd (false≢true h)
some_is_longer (x ∷ xs) h = omega arith

pub step_err : (b : Bool) (p : Place) (i : ℕ) (now : List Cursor) → b ≡ false → children_left b p i ≡ now → IsSome (cursor_at (below p i)) → 0 < length now
step_err b p i now f v h =
    let k : IsSome (first (children_from p i)) = rw (first_from p i) h in
    rw (← v, f) (some_is_longer (children_from p i) k)

pub next_offset : (p : Place) (i k e : ℕ) (c : Cursor) → Some c ≡ cursor_at (below p i) → k ≡ index_of (place_in c) → e ≡ end_of (place_in c) → e ≡ start_of (below p (k + 1))
next_offset p i k e c h m l =
    l ∙ ap end_of (place_of_child p i c h) ∙ sym (next_start p i) ∙ ap (λ n. start_of (below p (n + 1))) (sym (number_is p i k c h m))

-- ---- nodes alone

drop_suc : (cs es : List Term) (x : Term) (i : ℕ) → drop i cs ≡ x ∷ es → drop (suc i) cs ≡ es
drop_suc [] es x zero h = absurd (cc)
drop_suc [] es x (suc i) h = absurd (cc)
drop_suc (c ∷ cs) es x zero h = cc
drop_suc (c ∷ cs) es x (suc i) h = drop_suc cs es x i h

drop_tail : (cs es : List Term) (x : Term) (i : ℕ) → drop i cs ≡ x ∷ es → drop (i + 1) cs ≡ es
drop_tail cs es x i h = rw add-one (drop_suc cs es x i h)

nodes_by : (p q : Place) (cs es : List Term) (i : ℕ) → drop i cs ≡ es → Some q ≡ first (nodes (numbered p i es)) → (q ≡ below p (index_of q)) × (nodes (numbered p i es) ≡ q ∷ nodes (numbered p (index_of q + 1) (drop (index_of q + 1) cs)))
nodes_by p q cs [] i d h = absurd (cc)
nodes_by p q cs (Node t ∷ es) i d h =
    let e : q ≡ below p i = cc in
    let n : index_of q ≡ i = ap index_of e in (
      e ∙ ap (below p) (sym n),
      ap (λ xs. below p i ∷ nodes (numbered p (i + 1) xs)) (sym (drop_tail cs es (Node t) i d))
          ∙ ap (λ k. below p i ∷ nodes (numbered p (k + 1) (drop (k + 1) cs))) (sym n) ∙ ap (λ x. x ∷ nodes (numbered p (index_of q + 1) (drop (index_of q + 1) cs))) (sym e),
    )
nodes_by p q cs (Token l ∷ es) i d h = nodes_by p q cs es (i + 1) (drop_tail cs es (Token l) i d) h

pub node_step : (b : Bool) (p q : Place) (i k : ℕ) (now : List Place) → b ≡ false → nodes (children_left b p i) ≡ now → Some q ≡ first (nodes (children_from p i)) → k ≡ index_of q → now ≡ q ∷ nodes (children_left b p (k + 1))
node_step b p q i k now f v h e =
    sym v ∙ ap (λ x. nodes (children_left x p i)) f ∙ (nodes_by p q (terms_below p) (drop i (terms_below p)) i refl h).1
    ∙ ap (λ n. q ∷ nodes (children_from p (n + 1))) (sym e) ∙ ap (λ x. q ∷ nodes (children_left x p (k + 1))) (sym f)

pub node_offset : (p q : Place) (i k e : ℕ) → Some q ≡ first (nodes (children_from p i)) → k ≡ index_of q → e ≡ end_of q → e ≡ start_of (below p (k + 1))
node_offset p q i k e h m l =
    let n = nodes_by p q (terms_below p) (drop i (terms_below p)) i refl h in
    l ∙ ap end_of n.0 ∙ sym (next_start p (index_of q)) ∙ ap (λ x. start_of (below p (x + 1))) (sym m)

-- ---- siblings

after_by : (root : Tree) (up : List ℕ) (o : Option Cursor) → o ≡ first (siblings_after (record { root = root; up = up })) → siblings_after (record { root = root; up = up }) ≡ siblings_left Next o
after_by root [] None h = refl
after_by root [] (Some c) h = absurd (cc)
after_by root (i ∷ up) None h = none_is_empty (siblings_after (record { root = root; up = i ∷ up })) h
after_by root (i ∷ up) (Some c) h =
    let p : Place = record { root = root; up = up } in
    let m : Some c ≡ cursor_at (below p (i + 1)) = h ∙ first_from p (i + 1) in
    from_here p (i + 1) ∙ ap (λ o. cons_option o (children_from p (i + 1 + 1))) (sym m) ∙ ap (λ q. c ∷ siblings_after q) (sym (place_of_child p (i + 1) c m))

cursor_cases : (p : Place) (j : ℕ) (o : Option Cursor) (r : Option Cursor) → o ≡ cursor_at (below p j) → r ≡ first (cons_option o (children_before p j)) → (r ≡ first (children_before p j) → children_before p j ≡ siblings_left Prev r) → cons_option o (children_before p j) ≡ siblings_left Prev r
cursor_cases p j None r h k ih = ih k
cursor_cases p j (Some c) None h k ih = absurd (cc)
cursor_cases p j (Some c) (Some x) h k ih =
    let e : x ≡ c = cc in
    ap (λ q. c ∷ siblings_before q) (sym (place_of_child p j c h)) ∙ ap (λ y. y ∷ siblings_before (place_in y)) (sym e)

before_by : (p : Place) (i : ℕ) (r : Option Cursor) → r ≡ first (children_before p i) → children_before p i ≡ siblings_left Prev r
before_by p zero None h = refl
before_by p zero (Some c) h = absurd (cc)
before_by p (suc i) r h = cursor_cases p i (cursor_at (below p i)) r refl h (before_by p i r)

siblings_before_by : (root : Tree) (up : List ℕ) (o : Option Cursor) → o ≡ first (siblings_before (record { root = root; up = up })) → siblings_before (record { root = root; up = up }) ≡ siblings_left Prev o
siblings_before_by root [] None h = refl
siblings_before_by root [] (Some c) h = absurd (cc)
siblings_before_by root (i ∷ up) o h = before_by (record { root = root; up = up }) i o h

pub next_siblings : (d : Direction) (c : Cursor) (r : Result (Option Cursor) AllocError) → d ≡ Next → IfOk r (λ o. o ≡ first (siblings_after (place_in c))) → IfOk r (λ o. siblings d c ≡ c ∷ siblings_left d o)
next_siblings d c (Ok o) e h = rw e (ap (λ xs. c ∷ xs) (after_by (place_in c).root (place_in c).up o h))
next_siblings d c (Err x) e h = tt

pub prev_siblings : (d : Direction) (c : Cursor) (r : Result (Option Cursor) AllocError) → d ≡ Prev → IfOk r (λ o. o ≡ first (siblings_before (place_in c))) → IfOk r (λ o. siblings d c ≡ c ∷ siblings_left d o)
prev_siblings d c (Ok o) e h = rw e (ap (λ xs. c ∷ xs) (siblings_before_by (place_in c).root (place_in c).up o h))
prev_siblings d c (Err x) e h = tt

after_nodes : (root : Tree) (up : List ℕ) (o : Option Place) → o ≡ first (nodes (siblings_after (record { root = root; up = up }))) → nodes (siblings_after (record { root = root; up = up })) ≡ sibling_nodes_left Next o
after_nodes root [] None h = refl
after_nodes root [] (Some q) h = absurd (cc)
after_nodes root (i ∷ up) None h = none_is_empty (nodes (siblings_after (record { root = root; up = i ∷ up }))) h
after_nodes root (i ∷ up) (Some q) h =
    let p : Place = record { root = root; up = up } in
    let n = nodes_by p q (terms_below p) (drop (i + 1) (terms_below p)) (i + 1) refl h in
    n.1 ∙ ap (λ x. q ∷ nodes (siblings_after x)) (sym n.0)

node_cases : (p : Place) (j : ℕ) (o : Option Cursor) (r : Option Place) → o ≡ cursor_at (below p j) → r ≡ first (nodes (cons_option o (children_before p j))) → (r ≡ first (nodes (children_before p j)) → nodes (children_before p j) ≡ sibling_nodes_left Prev r) → nodes (cons_option o (children_before p j)) ≡ sibling_nodes_left Prev r
node_cases p j None r h k ih = ih k
node_cases p j (Some (Token q)) r h k ih = ih k
node_cases p j (Some (Node q)) None h k ih = absurd (cc)
node_cases p j (Some (Node q)) (Some x) h k ih =
    let e : x ≡ q = cc in
    ap (λ y. q ∷ nodes (siblings_before y)) (sym (place_of_child p j (Node q) h)) ∙ ap (λ y. y ∷ nodes (siblings_before y)) (sym e)

before_nodes : (p : Place) (i : ℕ) (r : Option Place) → r ≡ first (nodes (children_before p i)) → nodes (children_before p i) ≡ sibling_nodes_left Prev r
before_nodes p zero None h = refl
before_nodes p zero (Some c) h = absurd (cc)
before_nodes p (suc i) r h = node_cases p i (cursor_at (below p i)) r refl h (before_nodes p i r)

siblings_before_nodes : (root : Tree) (up : List ℕ) (o : Option Place) → o ≡ first (nodes (siblings_before (record { root = root; up = up }))) → nodes (siblings_before (record { root = root; up = up })) ≡ sibling_nodes_left Prev o
siblings_before_nodes root [] None h = refl
siblings_before_nodes root [] (Some c) h = absurd (cc)
siblings_before_nodes root (i ∷ up) o h = before_nodes (record { root = root; up = up }) i o h

pub next_nodes : (d : Direction) (p : Place) (r : Result (Option Place) AllocError) → d ≡ Next → IfOk r (λ o. o ≡ first (nodes (siblings_after p))) → IfOk r (λ o. sibling_nodes d p ≡ p ∷ sibling_nodes_left d o)
next_nodes d p (Ok o) e h = rw e (ap (λ xs. p ∷ xs) (after_nodes p.root p.up o h))
next_nodes d p (Err x) e h = tt

pub prev_nodes : (d : Direction) (p : Place) (r : Result (Option Place) AllocError) → d ≡ Prev → IfOk r (λ o. o ≡ first (nodes (siblings_before p))) → IfOk r (λ o. sibling_nodes d p ≡ p ∷ sibling_nodes_left d o)
prev_nodes d p (Ok o) e h = rw e (ap (λ xs. p ∷ xs) (siblings_before_nodes p.root p.up o h))
prev_nodes d p (Err x) e h = tt
