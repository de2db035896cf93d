-- If the dressed trees have no messages, the parser's trees have none.
use Rattle.std.proofs.Common.{◌≡◌, ℕ, suc, ◌+◌, ◌-◌, ◌≤◌, not, ◌&&◌, List, [], ◌∷◌, ◌++◌, map, length, take, drop, refl, arith, inl, inr}
use Rattle.std.proofs.lemmas.Bool.{cases_Bool}
use Rattle.parser_input.specs.Kinds.{ERROR, FIELD_EXPR, FLOAT_NUMBER, DOT}
use Rattle.parser_input.specs.Leaf.{Leaf}
use Rattle.parser_events.specs.Forest as forest
use Rattle.parser_events.specs.Forest.{IllegalFloat}
use Rattle.parser_events.specs.Dressed as dressed
use Rattle.parser_events.specs.Dressed.{Dressed, Saying, ◌followed_by◌, sayings_of}
use Rattle.parser_events.specs.Trivia.{pending, attached}
use Rattle.parser_events.specs.Dress.{Dressing, joined, reach, as_dressed, put, put_each, put_pending, put_leaf, open_node, close_node, say, next_text, before_dot, from_dot, is_empty, number, access, access_dot, dress, root}
use Rattle.rust_document.specs.Reading.{Message, of_grammar}
use Rattle.rust_document.proofs.Shown.{either-dressing}

-- how many messages the trees of the parser have
unfoldable pub told : forest.Forest → ℕ
told forest.End = 0
told (forest.Leaf k n f) = told f
told (forest.Said m f) = suc (told f)
told (forest.ErrorLeaf m k f) = suc (told f)
told (forest.Node k c f) = told c + told f
told (forest.Float b c f) = told c + told f

-- the number of messages in dressed trees
unfoldable pub said : Dressed → ℕ
said dressed.End = 0
said (dressed.Leaf k t d) = said d
said (dressed.Said m p d) = suc (said d)
said (dressed.Node k c d) = said c + said d

none-both : (xs ys : List Saying) → xs ++ ys ≡ [] → (xs ≡ []) × (ys ≡ [])
none-both [] ys e = (refl, e)
none-both (x ∷ xs) ys e = absurd (let z : x ∷ (xs ++ ys) ≡ [] = e in cc)

pub none-said : (d : Dressed) → sayings_of d ≡ [] → said d ≡ 0
unfolding said
none-said dressed.End e = refl
none-said (dressed.Leaf k t d) e = none-said d e
none-said (dressed.Said m p d) e = absurd (let z : record { message = m; place = p } ∷ sayings_of d ≡ [] = e in cc)
none-said (dressed.Node k c d) e =
    let both = none-both (sayings_of c) (sayings_of d) e in
    let first = none-said c both.0 in
    let second = none-said d both.1 in
    omega (arith, first, second)

pub said-followed : (a b : Dressed) → said (a followed_by b) ≡ said a + said b
unfolding said
said-followed dressed.End b = omega arith
said-followed (dressed.Leaf k t d) b = said-followed d b
said-followed (dressed.Said m p d) b = omega (arith, said-followed d b)
said-followed (dressed.Node k c d) b = omega (arith, said-followed d b)

pub said-leaves : (ls : List Leaf) → said (as_dressed ls) ≡ 0
unfolding said as_dressed
said-leaves [] = refl
said-leaves (l ∷ ls) = said-leaves ls

pub said-put : (d : Dressed) (t : List ℕ) (n : ℕ) (s : Dressing) → said (put d t n s).given ≡ said s.given + said d
unfolding put
said-put d t n s = said-followed s.given d

pub said-each : (c : ℕ) (s : Dressing) → said (put_each c s).given ≡ said s.given
unfolding put_each
said-each c s =
    let all = said-put (as_dressed (take c s.left)) (joined (take c s.left)) c s in
    let none = said-leaves (take c s.left) in
    omega (arith, all, none)

pub said-pending : (s : Dressing) → said (put_pending s).given ≡ said s.given
unfolding put_pending
said-pending s = said-each (length (pending s.left)) s

pub said-leaf : (k n : ℕ) (s : Dressing) → said (put_leaf k n s).given ≡ said s.given
unfolding put_leaf said
said-leaf k n s =
    let text = joined (take (reach n s.left) s.left) in
    omega (arith, said-put (dressed.Leaf k text dressed.End) text (reach n s.left) s)

said-say : (m : forest.Message) (s : Dressing) → said (say m s).given ≡ said s.given + 1
unfolding say said
said-say m s = omega (arith, said-followed s.given (dressed.Said m s.place dressed.End))

pub said-close : (k : ℕ) (before s : Dressing) → said (close_node k before s).given ≡ said before.given + said s.given
unfolding close_node said
said-close k before s = omega (arith, said-followed before.given (dressed.Node k s.given dressed.End))

pub said-open : (s : Dressing) → said (open_node s).given ≡ 0
unfolding open_node said
said-open s = refl

said-access : (before s : Dressing) → said before.given + said s.given ≤ said (access before s).given
unfolding access said
said-access before s = elim (cases_Bool (is_empty (from_dot (next_text s.left)))) [
  | inl e ↦
      let error = dressed.Node ERROR (dressed.Leaf FLOAT_NUMBER (next_text s.left) dressed.End) dressed.End in
      let inner = put error (next_text s.left) 1 (say IllegalFloat s) in
      let one = said-put error (next_text s.left) 1 (say IllegalFloat s) in
      let two = said-say IllegalFloat s in
      let three = said-close FIELD_EXPR before inner in
      rw e (omega (arith, one, two, three))
  | inr e ↦
      let text = next_text s.left in
      let inner = put (number (before_dot text)) text 1 s in
      let one = said-put (number (before_dot text)) text 1 s in
      let two = said-close FIELD_EXPR before inner in
      let three = said-put (dressed.Leaf DOT (take 1 (from_dot text)) (number (drop 1 (from_dot text)))) [] 0 (close_node FIELD_EXPR before inner) in
      rw e (omega (arith, one, two, three))
]

said-parted : (before s : Dressing) → said before.given + said s.given ≤ said (access_dot before s).given
unfolding access_dot
said-parted before s =
    let text = next_text s.left in
    let inner = put (number (before_dot text)) text 1 s in
    let one = said-put (number (before_dot text)) text 1 s in
    let two = said-close FIELD_EXPR before inner in
    let three = said-put (dressed.Leaf DOT (from_dot text) dressed.End) [] 0 (close_node FIELD_EXPR before inner) in
    omega (arith, one, two, three)

told-dress : (f : forest.Forest) (s : Dressing) → said s.given + told f ≤ said (dress f s).given
unfolding dress told
told-dress forest.End s = omega arith
told-dress (forest.Leaf k n f) s =
    let next = told-dress f (put_leaf k n (put_pending s)) in
    let own = said-leaf k n (put_pending s) in
    let before = said-pending s in
    omega (arith, next, own, before)
told-dress (forest.Said m f) s =
    let next = told-dress f (say m s) in
    let own = said-say m s in
    omega (arith, next, own)
told-dress (forest.ErrorLeaf m k f) s =
    let p = put_pending s in
    let inner = put_leaf k 1 (say m (open_node p)) in
    let next = told-dress f (close_node ERROR p inner) in
    let closed = said-close ERROR p inner in
    let own = said-leaf k 1 (say m (open_node p)) in
    let told_here = said-say m (open_node p) in
    let before = said-pending s in
    omega (arith, next, closed, own, told_here, before)
told-dress (forest.Node k c f) s =
    let out = put_each (length (pending s.left) - attached k (pending s.left)) s in
    let inner = put_each (attached k (pending s.left)) (open_node out) in
    let children = told-dress c inner in
    let next = told-dress f (close_node k out (dress c inner)) in
    let closed = said-close k out (dress c inner) in
    let before = said-each (length (pending s.left) - attached k (pending s.left)) s in
    omega (arith, children, next, closed, before)
told-dress (forest.Float b c f) s =
    let p = put_pending s in
    let receiver = told-dress c (open_node p) in
    let r = put_pending (dress c (open_node p)) in
    let before = said-pending s in
    let own = said-pending (dress c (open_node p)) in
    either-dressing (b && not (is_empty (from_dot (next_text r.left)))) (λ z. said s.given + (told c + told f) ≤ said (dress f z).given) (access_dot p r) (close_node FIELD_EXPR p (access (open_node p) r))
    (λ h.
    let next = told-dress f (access_dot p r) in
    let last = said-parted p r in
    omega (arith, receiver, before, own, next, last))
    (λ h.
    let next = told-dress f (close_node FIELD_EXPR p (access (open_node p) r)) in
    let closed = said-close FIELD_EXPR p (access (open_node p) r) in
    let last = said-access (open_node p) r in
    omega (arith, receiver, before, own, next, closed, last))

pub root-quiet : (k : ℕ) (c : forest.Forest) (s : Dressing) → said (root k (dress c s)).given ≡ 0 → told c ≡ 0
unfolding root
root-quiet k c s none =
    let all = told-dress c s in
    let last = said-each (length (dress c s).left) (dress c s) in
    let closed = said-close k (open_node (dress c s)) (put_each (length (dress c s).left) (dress c s)) in
    omega (arith, none, all, last, closed)

pub access-quiet : (c : forest.Forest) (p : Dressing) → said (root FIELD_EXPR (access p (put_pending (dress c (open_node p))))).given ≡ 0 → told c ≡ 0
unfolding root
access-quiet c p none =
    let receiver = dress c (open_node p) in
    let whole = access p (put_pending receiver) in
    let all = told-dress c (open_node p) in
    let own = said-pending receiver in
    let last = said-access p (put_pending receiver) in
    let rest = said-each (length whole.left) whole in
    let closed = said-close FIELD_EXPR (open_node whole) (put_each (length whole.left) whole) in
    omega (arith, none, all, own, last, rest, closed)

pub no-sayings : (xs : List Saying) (ys : List Message) → map of_grammar xs ++ ys ≡ [] → xs ≡ []
no-sayings [] ys e = refl
no-sayings (x ∷ xs) ys e = absurd (let z : of_grammar x ∷ (map of_grammar xs ++ ys) ≡ [] = e in cc)
