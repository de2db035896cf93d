-- The leaves of a dressed tree, joined, are the text: whatever the forest is.
use Rattle.std.proofs.Common.{◌≡◌, ℕ, zero, suc, ◌-◌, Bool, true, false, not, ◌&&◌, List, [], ◌∷◌, ◌++◌, length, take, drop, refl, ap, sym, ◌∙◌, append_assoc, append-nil, inl, inr, if◌then◌else◌}
use Rattle.std.proofs.Math.Seq.{drop-length}
use Rattle.std.proofs.lemmas.List.{take-append-drop}
use Rattle.std.proofs.lemmas.Bool.{cases_Bool}
use Rattle.parser_input.specs.Kinds.{ERROR, FIELD_EXPR, NAME_REF, INT_NUMBER, FLOAT_NUMBER, DOT}
use Rattle.parser_input.specs.Leaf as leaves
use Rattle.parser_events.specs.Forest as forest
use Rattle.parser_events.specs.Forest.{Forest}
use Rattle.parser_events.specs.Dressed.{Dressed, End, Leaf, Said, Node, ◌followed_by◌, text_of}
use Rattle.parser_events.specs.Trivia.{pending, attached}
use Rattle.parser_events.specs.Dress.{Dressing, dress, dress_root, root, access, access_dot, number, is_empty, put, put_each, put_leaf, reach, put_pending, open_node, close_node, say, joined, as_dressed, next_text, before_dot, from_dot}

-- the text of what was put, and of the tokens left
abbrev pub total : Dressing → List ℕ
total s = text_of s.given ++ joined s.left

text-then : (u v : Dressed) → text_of (u followed_by v) ≡ text_of u ++ text_of v
text-then End v = refl
text-then (Leaf k t r) v = ap (λ (x : List ℕ). t ++ x) (text-then r v) ∙ sym (append_assoc t (text_of r) (text_of v))
text-then (Said m p r) v = text-then r v
text-then (Node k c r) v = ap (λ (x : List ℕ). text_of c ++ x) (text-then r v) ∙ sym (append_assoc (text_of c) (text_of r) (text_of v))

joined-parts : (n : ℕ) (ts : List leaves.Leaf) → joined (take n ts) ++ joined (drop n ts) ≡ joined ts
unfolding joined
joined-parts zero ts = refl
joined-parts (suc n) [] = refl
joined-parts (suc n) (t ∷ ts) = append_assoc t.text (joined (take n ts)) (joined (drop n ts)) ∙ ap (λ (x : List ℕ). t.text ++ x) (joined-parts n ts)

text-leaves : (ts : List leaves.Leaf) → text_of (as_dressed ts) ≡ joined ts
unfolding joined as_dressed
text-leaves [] = refl
text-leaves (t ∷ ts) = ap (λ (x : List ℕ). t.text ++ x) (text-leaves ts)

put-total : (u : Dressed) (text : List ℕ) (n : ℕ) (s : Dressing) → text_of u ≡ joined (take n s.left) → total (put u text n s) ≡ total s
unfolding put
put-total u text n s e =
    ap (λ (x : List ℕ). x ++ joined (drop n s.left)) (text-then s.given u)
    ∙ append_assoc (text_of s.given) (text_of u) (joined (drop n s.left))
    ∙ ap (λ (x : List ℕ). text_of s.given ++ (x ++ joined (drop n s.left))) e
    ∙ ap (λ (x : List ℕ). text_of s.given ++ x) (joined-parts n s.left)

each-total : (n : ℕ) (s : Dressing) → total (put_each n s) ≡ total s
unfolding put_each
each-total n s = put-total _ _ n s (text-leaves (take n s.left))

pending-total : (s : Dressing) → total (put_pending s) ≡ total s
unfolding put_pending
pending-total s = each-total _ s

say-total : (m : forest.Message) (s : Dressing) → total (say m s) ≡ total s
unfolding say
say-total m s = ap (λ (x : List ℕ). x ++ joined s.left) (text-then s.given (Said m s.place End) ∙ append-nil (text_of s.given))

open-total : (s : Dressing) → total (open_node s) ≡ joined s.left
unfolding open_node
open-total s = refl

-- a node closed after what stood before it
close-total : (k : ℕ) (before s : Dressing) → total s ≡ joined before.left → total (close_node k before s) ≡ total before
unfolding close_node
close-total k before s e =
    ap (λ (x : List ℕ). x ++ joined s.left) (text-then before.given (Node k s.given End) ∙ ap (λ (x : List ℕ). text_of before.given ++ x) (append-nil (text_of s.given)))
    ∙ append_assoc (text_of before.given) (text_of s.given) (joined s.left)
    ∙ ap (λ (x : List ℕ). text_of before.given ++ x) e

dot-parts : (t : List ℕ) → before_dot t ++ from_dot t ≡ t
unfolding before_dot from_dot
dot-parts t = take-append-drop _ t

next-joined : (ts : List leaves.Leaf) → next_text ts ≡ joined (take 1 ts)
unfolding next_text joined
next-joined [] = refl
next-joined (t ∷ ts) = sym (append-nil t.text)

-- what is left of a text is that of the next token, and of those after it
next-parts : (ts : List leaves.Leaf) → next_text ts ++ joined (drop 1 ts) ≡ joined ts
next-parts ts = ap (λ (x : List ℕ). x ++ joined (drop 1 ts)) (next-joined ts) ∙ joined-parts 1 ts

one-parts : (t : List ℕ) → take 1 t ++ drop 1 t ≡ t
one-parts [] = refl
one-parts (c ∷ t) = refl

-- the text of a field access in three pieces
pieces : (a d b t o g j : List ℕ) → a ++ (d ++ b) ≡ t → ((o ++ ((g ++ ((a ++ []) ++ [])) ++ [])) ++ (d ++ ((b ++ []) ++ []))) ++ j ≡ o ++ (g ++ (t ++ j))
pieces a d b t o g j e = rw (sym e) simp (append_assoc, append-nil) refl

two-total : (outer s : Dressing) → total s ≡ joined outer.left →
    total (put (Leaf DOT (take 1 (from_dot (next_text s.left))) (number (drop 1 (from_dot (next_text s.left))))) [] 0
    (close_node FIELD_EXPR outer (put (number (before_dot (next_text s.left))) (next_text s.left) 1 s))) ≡ total outer
unfolding put close_node number
two-total outer s e =
    let t = next_text s.left in
    let d = from_dot t in
    let numeral : List ℕ → Dressed = λ x. Node NAME_REF (Leaf INT_NUMBER x End) End in
    ap (λ (x : List ℕ). x ++ joined (drop 1 s.left))
    (text-then (outer.given followed_by Node FIELD_EXPR (s.given followed_by numeral (before_dot t)) End) (Leaf DOT (take 1 d) (numeral (drop 1 d)))
    ∙ ap (λ (x : List ℕ). x ++ (take 1 d ++ ((drop 1 d ++ []) ++ [])))
    (text-then outer.given (Node FIELD_EXPR (s.given followed_by numeral (before_dot t)) End)
    ∙ ap (λ (x : List ℕ). text_of outer.given ++ (x ++ [])) (text-then s.given (numeral (before_dot t)))))
    ∙ pieces (before_dot t) (take 1 d) (drop 1 d) t (text_of outer.given) (text_of s.given) (joined (drop 1 s.left))
    (ap (λ (x : List ℕ). before_dot t ++ x) (one-parts d) ∙ dot-parts t)
    ∙ ap (λ (x : List ℕ). text_of outer.given ++ (text_of s.given ++ x)) (next-parts s.left)
    ∙ ap (λ (x : List ℕ). text_of outer.given ++ x) e

wrong-total : (outer s : Dressing) → total s ≡ joined outer.left →
    total (close_node FIELD_EXPR outer (put (Node ERROR (Leaf FLOAT_NUMBER (next_text s.left) End) End) (next_text s.left) 1 (say forest.IllegalFloat s))) ≡ total outer
unfolding say
wrong-total outer s e = close-total FIELD_EXPR outer _ (put-total _ (next_text s.left) 1 (say forest.IllegalFloat s) (append-nil _ ∙ append-nil _ ∙ next-joined s.left) ∙ say-total forest.IllegalFloat s ∙ e)

access-total : (outer s : Dressing) → total s ≡ joined outer.left → total (access outer s) ≡ total outer
unfolding access
access-total outer s e = elim (cases_Bool (is_empty (from_dot (next_text s.left)))) [
  | inl y ↦ rw y (wrong-total outer s e)
  | inr n ↦ rw n (two-total outer s e)
]

dot-total : (before s : Dressing) → total s ≡ joined before.left → total (access_dot before s) ≡ total before
unfolding access_dot put close_node number
dot-total before s e =
    let t = next_text s.left in
    let numeral : List ℕ → Dressed = λ x. Node NAME_REF (Leaf INT_NUMBER x End) End in
    ap (λ (x : List ℕ). x ++ joined (drop 1 s.left))
    (text-then (before.given followed_by Node FIELD_EXPR (s.given followed_by numeral (before_dot t)) End) (Leaf DOT (from_dot t) End)
    ∙ ap (λ (x : List ℕ). x ++ (from_dot t ++ []))
    (text-then before.given (Node FIELD_EXPR (s.given followed_by numeral (before_dot t)) End)
    ∙ ap (λ (x : List ℕ). text_of before.given ++ (x ++ [])) (text-then s.given (numeral (before_dot t)))))
    ∙ dot_pieces (before_dot t) (from_dot t) t (text_of before.given) (text_of s.given) (joined (drop 1 s.left)) (dot-parts t)
    ∙ ap (λ (x : List ℕ). text_of before.given ++ (text_of s.given ++ x)) (next-parts s.left)
    ∙ ap (λ (x : List ℕ). text_of before.given ++ x) e
  where
    dot_pieces : (a d t o g j : List ℕ) → a ++ d ≡ t → ((o ++ ((g ++ ((a ++ []) ++ [])) ++ [])) ++ (d ++ [])) ++ j ≡ o ++ (g ++ (t ++ j))
    dot_pieces a d t o g j e = rw (sym e) simp (append_assoc, append-nil) refl

leaf-total : (k n : ℕ) (s : Dressing) → total (put_leaf k n s) ≡ total s
unfolding put_leaf
leaf-total k n s = put-total _ _ (reach n s.left) s (append-nil _)

-- What was put and what is left keep their text.
pub dress-total : (f : Forest) (s : Dressing) → total (dress f s) ≡ total s
unfolding dress open_node
dress-total forest.End s = refl
dress-total (forest.Leaf k n f) s = dress-total f _ ∙ leaf-total k n (put_pending s) ∙ pending-total s
dress-total (forest.Said m f) s = dress-total f (say m s) ∙ say-total m s
dress-total (forest.ErrorLeaf m k f) s = dress-total f _
    ∙ close-total ERROR (put_pending s) _ (leaf-total k 1 (say m (open_node (put_pending s))) ∙ say-total m (open_node (put_pending s)) ∙ open-total (put_pending s))
    ∙ pending-total s
dress-total (forest.Node k c f) s =
    let before = put_each (length (pending s.left) - attached k (pending s.left)) s in
    dress-total f _
    ∙ close-total k before _ (dress-total c _ ∙ each-total (attached k (pending s.left)) (open_node before) ∙ open-total before)
    ∙ each-total _ s
dress-total (forest.Float ends_in_dot c f) s =
    let before = put_pending s in
    let receiver = put_pending (dress c (open_node before)) in
    let known : total receiver ≡ joined before.left = pending-total (dress c (open_node before)) ∙ dress-total c (open_node before) ∙ open-total before in
    dress-total f _ ∙ whichever (ends_in_dot && not (is_empty (from_dot (next_text receiver.left)))) before receiver known ∙ pending-total s
  where
    whichever : (b : Bool) (before receiver : Dressing) → total receiver ≡ joined before.left →
        total (if b then access_dot before receiver else close_node FIELD_EXPR before (access (open_node before) receiver)) ≡ total before
    whichever true before receiver known = dot-total before receiver known
    whichever false before receiver known = close-total FIELD_EXPR before _ (access-total (open_node before) receiver known ∙ open-total before)

-- where all that is left is put
all-put : (s : Dressing) → text_of (put_each (length s.left) s).given ≡ total s
unfolding put_each put joined
all-put s = sym (append-nil _) ∙ ap (λ (ts : List leaves.Leaf). text_of (put_each (length s.left) s).given ++ joined ts) (sym (drop-length s.left)) ∙ each-total (length s.left) s

root-total : (k : ℕ) (s : Dressing) → text_of (root k s).given ≡ total s
unfolding root close_node open_node
root-total k s = append-nil _ ∙ all-put s

-- The leaves of the tree joined are the text.
pub text-is-text : (f : Forest) (ts : List leaves.Leaf) → text_of (dress_root f ts) ≡ joined ts
unfolding dress_root open_node
text-is-text forest.End ts = all-put _
text-is-text (forest.Leaf k n f) ts = all-put _
text-is-text (forest.Said m f) ts = all-put _
text-is-text (forest.ErrorLeaf m k f) ts = all-put _
text-is-text (forest.Node k c f) ts = root-total k _ ∙ dress-total c _
text-is-text (forest.Float e c f) ts =
    let start : Dressing = record { given = End; place = 0; left = ts } in
    let outer = put_pending start in
    root-total FIELD_EXPR _ ∙ access-total outer _ (pending-total _ ∙ dress-total c (open_node outer)) ∙ pending-total start
