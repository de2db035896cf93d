-- What a dressed tree shows of the trees of the parser.
use Rattle.std.proofs.Common.{◌≡◌, ℕ, ◌⊎◌, Bool, true, false, not, ◌&&◌, ◌||◌, ◌==◌, List, [], length, take, drop, refl, sym, ap, ◌∙◌, arith, inl, inr, if◌then◌else◌}
use Rattle.std.proofs.lemmas.Bool.{cases_Bool}
use Rattle.rowan_green.specs.Forest.{Forest, empty, node, leaf}
use Rattle.parser_input.specs.Kinds.{ERROR, FIELD_EXPR, NAME_REF, INT_NUMBER, FLOAT_NUMBER, DOT, WHITESPACE, COMMENT}
use Rattle.parser_events.specs.Forest as forest
use Rattle.parser_events.specs.Forest.{Message, IllegalFloat}
use Rattle.parser_events.specs.Dressed as dressed
use Rattle.parser_events.specs.Dressed.{Dressed, ◌followed_by◌}
use Rattle.parser_events.specs.Trivia.{pending, attached}
use Rattle.parser_events.specs.Dress.{Dressing, put, put_pending, put_leaf, open_node, close_node, say, next_text, before_dot, from_dot, is_empty, number, access, access_dot, dress}
use Rattle.rust_document.proofs.Shapes.{shown, beside, beside-empty, shown-followed, idle-shown, inside, outside, within}

-- a leaf of a kind before these, unless it is whitespace or a comment
unfoldable pub kind_before : ℕ → Forest → Forest
kind_before k r = if k == WHITESPACE || k == COMMENT then r else leaf (record { kind = k; text = [] }) r

-- a number after a dot
unfoldable pub number_shown : Forest
number_shown = node NAME_REF (leaf (record { kind = INT_NUMBER; text = [] }) empty) empty

unfoldable pub dot_before : Forest → Forest
dot_before r = leaf (record { kind = DOT; text = [] }) r

-- a float after a receiver that shows c, before r: `a.`, `a.b`, and one without a dot
unfoldable pub parted : Forest → Forest → Forest
parted c r = node FIELD_EXPR (beside c number_shown) (dot_before r)

unfoldable pub accessed : Forest → Forest → Forest
accessed c r = node FIELD_EXPR (node FIELD_EXPR (beside c number_shown) (dot_before number_shown)) r

unfoldable pub wronged : Forest → Forest → Forest
wronged c r = node FIELD_EXPR (node FIELD_EXPR (beside c (node ERROR (leaf (record { kind = FLOAT_NUMBER; text = [] }) empty) empty)) empty) r

-- what trees of the parser show
abbrev pub Shows : forest.Forest → Forest → Type 0
Shows forest.End k = k ≡ empty
Shows (forest.Leaf j n f) k = (r : Forest) × (Shows f r × (k ≡ kind_before j r))
Shows (forest.Said m f) k = Shows f k
Shows (forest.ErrorLeaf m j f) k = (r : Forest) × (Shows f r × (k ≡ node ERROR (kind_before j empty) r))
Shows (forest.Node j c f) k = (i : Forest) × ((r : Forest) × (Shows c i × (Shows f r × (k ≡ node j i r))))
Shows (forest.Float b c f) k = (i : Forest) × ((r : Forest) × (Shows c i × (Shows f r × ((k ≡ parted i r) ⊎ ((k ≡ accessed i r) ⊎ (k ≡ wronged i r))))))

pub beside-assoc : (a b c : Forest) → beside (beside a b) c ≡ beside a (beside b c)
unfolding beside
beside-assoc empty b c = refl
beside-assoc (node k f r) b c = ap (λ (g : Forest). node k f g) (beside-assoc r b c)
beside-assoc (leaf l r) b c = ap (λ (g : Forest). leaf l g) (beside-assoc r b c)

kind-beside : (k : ℕ) (r : Forest) → beside (kind_before k empty) r ≡ kind_before k r
unfolding kind_before beside
kind-beside k r = whichever (k == WHITESPACE || k == COMMENT)
  where
    whichever : (b : Bool) → beside (if b then empty else leaf (record { kind = k; text = [] }) empty) r ≡ (if b then r else leaf (record { kind = k; text = [] }) r)
    whichever true = refl
    whichever false = refl

node-beside : (k : ℕ) (i r : Forest) → node k i r ≡ beside (node k i empty) r
unfolding beside
node-beside k i r = refl

empty-beside : (r : Forest) → beside empty r ≡ r
unfolding beside
empty-beside r = refl

pub from-nothing : (p : Dressing) (r : Forest) → beside (shown (open_node p).given) r ≡ r
unfolding open_node shown beside
from-nothing p r = refl

-- What dressing adds is shown after what was given.
pub record Added (f : forest.Forest) (given after : Dressed) : Type 0 where
  pub more : Forest
  pub shows : Shows f more
  pub same : shown after ≡ beside (shown given) more

leaf-shown : (k n : ℕ) (s : Dressing) → shown (put_leaf k n s).given ≡ beside (shown s.given) (kind_before k empty)
unfolding put_leaf put shown kind_before
leaf-shown k n s = shown-followed s.given _

pub say-shown : (m : Message) (s : Dressing) → shown (say m s).given ≡ shown s.given
unfolding say shown
say-shown m s = shown-followed s.given _ ∙ beside-empty (shown s.given)

pub pending-shown : (s : Dressing) → shown (put_pending s).given ≡ shown s.given
unfolding put_pending
pending-shown s = idle-shown (length (pending s.left)) s (omega arith)

pub close-shown : (k : ℕ) (before s : Dressing) → shown (close_node k before s).given ≡ beside (shown before.given) (node k (shown s.given) empty)
unfolding close_node shown
close-shown k before s = shown-followed before.given _

pub put-shown : (d : Dressed) (t : List ℕ) (n : ℕ) (s : Dressing) → shown (put d t n s).given ≡ beside (shown s.given) (shown d)
unfolding put
put-shown d t n s = shown-followed s.given d

outside-shown : (k : ℕ) (s : Dressing) → shown (outside k s).given ≡ shown s.given
unfolding outside
outside-shown k s = idle-shown _ s (omega arith)

inside-shown : (k : ℕ) (s : Dressing) → shown (inside k s).given ≡ empty
unfolding inside outside open_node shown
inside-shown k s = idle-shown (attached k (pending s.left)) (open_node (outside k s)) (within k s)

-- trees, and what they show after what was shown
added : (f : forest.Forest) (given middle after : Dressed) (k : Forest) → shown middle ≡ beside (shown given) k → (m : Forest) → Shows f m → shown after ≡ beside (shown middle) m → (l : Forest) → l ≡ beside k m → shown after ≡ beside (shown given) l
added f given middle after k p m h q l e = q ∙ ap (λ (g : Forest). beside g m) p ∙ beside-assoc (shown given) k m ∙ ap (λ (g : Forest). beside (shown given) g) (sym e)

node-added :
    (j : ℕ) (c f : forest.Forest) (s inner closed : Dressing) (i : Forest) → Shows c i → shown inner.given ≡ i
    → shown closed.given ≡ beside (shown s.given) (node j (shown inner.given) empty)
    → (after : Dressed) (m : Forest) → Shows f m → shown after ≡ beside (shown closed.given) m → Added (forest.Node j c f) s.given after
node-added j c f s inner closed i h own p after m k q = record {
  more = node j i m;
  shows = (i, (m, (h, (k, refl))));
  same = added f s.given closed.given after (node j i empty) (p ∙ ap (λ (g : Forest). beside (shown s.given) (node j g empty)) own) m k q (node j i m) (node-beside j i m);
}

number-of : (t : List ℕ) → shown (number t) ≡ number_shown
unfolding number shown number_shown
number-of t = refl

pub wrong-of : (t : List ℕ) → shown (dressed.Node ERROR (dressed.Leaf FLOAT_NUMBER t dressed.End) dressed.End) ≡ node ERROR (leaf (record { kind = FLOAT_NUMBER; text = [] }) empty) empty
unfolding shown
wrong-of t = refl

dot-of : (t : List ℕ) (d : Dressed) → shown (dressed.Leaf DOT t d) ≡ dot_before (shown d)
unfolding shown dot_before
dot-of t d = refl

-- a number put after a receiver, and both closed as a field access
pub numbered : (before r : Dressing) (i : Forest) (t : List ℕ) → shown r.given ≡ i → shown (close_node FIELD_EXPR before (put (number t) (next_text r.left) 1 r)).given ≡ beside (shown before.given) (node FIELD_EXPR (beside i number_shown) empty)
numbered before r i t own =
    close-shown FIELD_EXPR before (put (number t) (next_text r.left) 1 r)
    ∙ ap (λ (g : Forest). beside (shown before.given) (node FIELD_EXPR g empty)) (put-shown (number t) (next_text r.left) 1 r ∙ ap (λ (g : Forest). beside g (shown (number t))) own ∙ ap (λ (g : Forest). beside i g) (number-of t))

parted-one : (i : Forest) (t : List ℕ) → beside (node FIELD_EXPR (beside i number_shown) empty) (shown (dressed.Leaf DOT t dressed.End)) ≡ parted i empty
unfolding beside shown parted dot_before
parted-one i t = refl

parted-shown : (p r : Dressing) (i : Forest) → shown r.given ≡ i → shown (access_dot p r).given ≡ beside (shown p.given) (parted i empty)
unfolding access_dot
parted-shown p r i own =
    let dot = dressed.Leaf DOT (from_dot (next_text r.left)) dressed.End in
    put-shown dot [] 0 (close_node FIELD_EXPR p (put (number (before_dot (next_text r.left))) (next_text r.left) 1 r))
    ∙ ap (λ (g : Forest). beside g (shown dot)) (numbered p r i (before_dot (next_text r.left)) own)
    ∙ beside-assoc (shown p.given) (node FIELD_EXPR (beside i number_shown) empty) (shown dot)
    ∙ ap (λ (g : Forest). beside (shown p.given) g) (parted-one i (from_dot (next_text r.left)))

pub accessed-one : (i : Forest) (t u : List ℕ) → beside (node FIELD_EXPR (beside i number_shown) empty) (shown (dressed.Leaf DOT t (number u))) ≡ node FIELD_EXPR (beside i number_shown) (dot_before number_shown)
unfolding beside shown dot_before number number_shown
accessed-one i t u = refl

two-shown : (p r : Dressing) (i : Forest) → shown r.given ≡ i → is_empty (from_dot (next_text r.left)) ≡ false → shown (close_node FIELD_EXPR p (access (open_node p) r)).given ≡ beside (shown p.given) (accessed i empty)
unfolding access accessed
two-shown p r i own f =
    let rest = from_dot (next_text r.left) in
    let beyond = dressed.Leaf DOT (take 1 rest) (number (drop 1 rest)) in
    let inner = close_node FIELD_EXPR (open_node p) (put (number (before_dot (next_text r.left))) (next_text r.left) 1 r) in
    let all : shown (put beyond [] 0 inner).given ≡ node FIELD_EXPR (beside i number_shown) (dot_before number_shown) =
    put-shown beyond [] 0 inner
    ∙ ap (λ (g : Forest). beside g (shown beyond)) (numbered (open_node p) r i (before_dot (next_text r.left)) own ∙ from-nothing p (node FIELD_EXPR (beside i number_shown) empty))
    ∙ accessed-one i (take 1 rest) (drop 1 rest) in
    rw f (close-shown FIELD_EXPR p (put beyond [] 0 inner) ∙ ap (λ (g : Forest). beside (shown p.given) (node FIELD_EXPR g empty)) all)

wrong-shown : (p r : Dressing) (i : Forest) → shown r.given ≡ i → is_empty (from_dot (next_text r.left)) ≡ true → shown (close_node FIELD_EXPR p (access (open_node p) r)).given ≡ beside (shown p.given) (wronged i empty)
unfolding access wronged
wrong-shown p r i own f =
    let error = dressed.Node ERROR (dressed.Leaf FLOAT_NUMBER (next_text r.left) dressed.End) dressed.End in
    let inner = put error (next_text r.left) 1 (say IllegalFloat r) in
    let all : shown inner.given ≡ beside i (node ERROR (leaf (record { kind = FLOAT_NUMBER; text = [] }) empty) empty) =
    put-shown error (next_text r.left) 1 (say IllegalFloat r) ∙ ap (λ (g : Forest). beside g (shown error)) (say-shown IllegalFloat r ∙ own) ∙ ap (λ (g : Forest). beside i g) (wrong-of (next_text r.left)) in
    let closed = close_node FIELD_EXPR (open_node p) inner in
    rw f (close-shown FIELD_EXPR p closed ∙ ap (λ (g : Forest). beside (shown p.given) (node FIELD_EXPR g empty)) (close-shown FIELD_EXPR (open_node p) inner ∙ from-nothing p (node FIELD_EXPR (shown inner.given) empty) ∙ ap (λ (g : Forest). node FIELD_EXPR g empty) all))

parted-more : (i r : Forest) → parted i r ≡ beside (parted i empty) r
unfolding parted dot_before beside
parted-more i r = refl

accessed-more : (i r : Forest) → accessed i r ≡ beside (accessed i empty) r
unfolding accessed beside
accessed-more i r = refl

wronged-more : (i r : Forest) → wronged i r ≡ beside (wronged i empty) r
unfolding wronged beside
wronged-more i r = refl

pub either-dressing : (q : Bool) (P : Dressing → Type 0) (x y : Dressing) → (q ≡ true → P x) → (q ≡ false → P y) → P (if q then x else y)
either-dressing true P x y p r = p refl
either-dressing false P x y p r = r refl

-- the elements after a float
float-added :
    (b : Bool) (c f : forest.Forest) (s x : Dressing) (i k m l : Forest) → Shows c i → shown x.given ≡ beside (shown s.given) k
    → (after : Dressed) → Shows f m → shown after ≡ beside (shown x.given) m → l ≡ beside k m → (l ≡ parted i m) ⊎ ((l ≡ accessed i m) ⊎ (l ≡ wronged i m)) → Added (forest.Float b c f) s.given after
float-added b c f s x i k m l h p after n q e form = record {
  more = l;
  shows = (i, (m, (h, (n, form))));
  same = added f s.given x.given after k p m n q l e;
}

pub dress-shown : (f : forest.Forest) (s : Dressing) → Added f s.given (dress f s).given
unfolding dress inside outside
dress-shown forest.End s = record { more = empty; shows = refl; same = sym (beside-empty (shown s.given)) }
dress-shown (forest.Leaf j n f) s =
    let p = put_pending s in
    let next = dress-shown f (put_leaf j n p) in
    record {
      more = kind_before j next.more;
      shows = (next.more, (next.shows, refl));
      same = added f s.given (put_leaf j n p).given (dress f (put_leaf j n p)).given (kind_before j empty) (leaf-shown j n p ∙ ap (λ (g : Forest). beside g (kind_before j empty)) (pending-shown s)) next.more next.shows next.same (kind_before j next.more) (sym (kind-beside j next.more));
    }
dress-shown (forest.Said m f) s =
    let next = dress-shown f (say m s) in
    record { more = next.more; shows = next.shows; same = next.same ∙ ap (λ (g : Forest). beside g next.more) (say-shown m s) }
dress-shown (forest.ErrorLeaf m j f) s =
    let p = put_pending s in
    let inner = put_leaf j 1 (say m (open_node p)) in
    let closed = close_node ERROR p inner in
    let next = dress-shown f closed in
    let own : shown inner.given ≡ kind_before j empty = leaf-shown j 1 (say m (open_node p)) ∙ ap (λ (g : Forest). beside g (kind_before j empty)) (say-shown m (open_node p)) ∙ from-nothing p (kind_before j empty) in
    record {
      more = node ERROR (kind_before j empty) next.more;
      shows = (next.more, (next.shows, refl));
      same = added f s.given closed.given (dress f closed).given (node ERROR (kind_before j empty) empty) (close-shown ERROR p inner ∙ ap (λ (g : Forest). beside (shown p.given) (node ERROR g empty)) own ∙ ap (λ (g : Forest). beside g (node ERROR (kind_before j empty) empty)) (pending-shown s)) next.more next.shows next.same (node ERROR (kind_before j empty) next.more) (node-beside ERROR (kind_before j empty) next.more);
    }
dress-shown (forest.Node j c f) s =
    let inner = dress-shown c (inside j s) in
    let closed = close_node j (outside j s) (dress c (inside j s)) in
    let next = dress-shown f closed in
    let own : shown (dress c (inside j s)).given ≡ inner.more = inner.same ∙ ap (λ (g : Forest). beside g inner.more) (inside-shown j s) ∙ empty-beside inner.more in
    node-added j c f s (dress c (inside j s)) closed inner.more inner.shows own (close-shown j (outside j s) (dress c (inside j s)) ∙ ap (λ (g : Forest). beside g (node j (shown (dress c (inside j s)).given) empty)) (outside-shown j s)) (dress f closed).given next.more next.shows next.same
dress-shown (forest.Float b c f) s =
    let p = put_pending s in
    let receiver = dress c (open_node p) in
    let r = put_pending receiver in
    let inner = dress-shown c (open_node p) in
    let own : shown r.given ≡ inner.more = pending-shown receiver ∙ inner.same ∙ from-nothing p inner.more in
    let before : (k : Forest) → beside (shown p.given) k ≡ beside (shown s.given) k = λ k. ap (λ (g : Forest). beside g k) (pending-shown s) in
    let x = access_dot p r in
    let y = close_node FIELD_EXPR p (access (open_node p) r) in
    let last = dress-shown f x in
    let next = dress-shown f y in
    either-dressing (b && not (is_empty (from_dot (next_text r.left)))) (λ z. Added (forest.Float b c f) s.given (dress f z).given) x y
    (λ h. float-added b c f s x inner.more (parted inner.more empty) last.more (parted inner.more last.more) inner.shows (parted-shown p r inner.more own ∙ before (parted inner.more empty)) (dress f x).given last.shows last.same (parted-more inner.more last.more) (inl refl))
    (λ h. elim (cases_Bool (is_empty (from_dot (next_text r.left)))) [
      | inl e ↦ float-added b c f s y inner.more (wronged inner.more empty) next.more (wronged inner.more next.more) inner.shows (wrong-shown p r inner.more own e ∙ before (wronged inner.more empty)) (dress f y).given next.shows next.same (wronged-more inner.more next.more) (inr (inr refl))
      | inr e ↦ float-added b c f s y inner.more (accessed inner.more empty) next.more (accessed inner.more next.more) inner.shows (two-shown p r inner.more own e ∙ before (accessed inner.more empty)) (dress f y).given next.shows next.same (accessed-more inner.more next.more) (inr (inl refl))
    ])
