-- Two texts with equal input, whose floats hold dots alike, have trees of equal kinds.
use Rattle.std.proofs.Common.{◌≡◌, ℕ, zero, suc, ◌-◌, ◌≤◌, Bool, true, false, not, ◌&&◌, ◌||◌, ◌==◌, List, [], ◌∷◌, length, take, drop, Some, refl, sym, ap, subst, ◌∙◌, arith, inl, inr, if◌then◌else◌, true≢false}
use Rattle.std.proofs.lemmas.Bool.{cases_Bool}
use Rattle.rowan_green.specs.Forest.{Forest, empty, node, leaf, Tree}
use Rattle.rowan_green.specs.Leaf as green
use Rattle.parser_input.specs.Kinds.{ERROR, FIELD_EXPR, FLOAT_NUMBER, DOT, WHITESPACE, COMMENT}
use Rattle.parser_input.specs.Leaf.{Leaf, is_trivia}
use Rattle.parser_input.specs.Input.{Token, input, token_of}
use Rattle.parser_input.specs.declared.edition.Edition.{Edition}
use Rattle.parser_events.specs.Forest as forest
use Rattle.parser_events.specs.Forest.{Message, IllegalFloat}
use Rattle.parser_events.specs.Fits.{IsRooted}
use Rattle.parser_events.specs.Dressed as dressed
use Rattle.parser_events.specs.Dressed.{Dressed, ◌followed_by◌}
use Rattle.parser_events.specs.Trivia.{pending, attached}
use Rattle.parser_events.specs.Dress.{Dressing, as_dressed, put, put_each, put_pending, put_leaf, open_node, close_node, say, next_text, before_dot, from_dot, is_empty, number, access, access_dot, dress, root, dress_root}
use Rattle.parser_events.proofs.Coverings.{attached-most}
use Rattle.parser_events.proofs.Dressings.{settled}
use Rattle.rust_grammar.specs.Rule.{Production}
use Rattle.rust_grammar.specs.Entry.{entry}
use Rattle.rust_grammar.specs.Laws.{is_entry}
use Rattle.rust_grammar.specs.Spelled.{is_spelled, is_token, is_float, drop_if, then_after, tokens_after}
use Rattle.rust_grammar.specs.Whole.{whole}
use Rattle.rust_grammar.proofs.Covering.{after-some, dropped}
use Rattle.rust_grammar.proofs.Plain.{and_l}
use Rattle.rust_grammar.proofs.EntriesInOrder.{entries-in-order}
use Rattle.rust_grammar.proofs.EntriesFit.{entry-rooted}
use Rattle.ra_parser.specs.Grammars.{is_whole}
use Rattle.ra_parser.specs.declared.grammar.Grammar.{Grammar}
use Rattle.rust_document.specs.Reading.{terms_of, root_of, dressed_by, tree_by, leaves_in}
use Rattle.rust_document.specs.Shape.{kinds_in, kinds_of, has_dot, dots}
use Rattle.rust_document.proofs.SeenTokens.{Seen, dot_of, seen, tokens, together, token-kind, seen-together, tokens-seen, tokens-drop, pending-more, seen-reach, one-less, none-pending, seen-over, one-more, pending-over}

-- Kinds of what was dressed.
unfoldable pub shown : Dressed → Forest
shown d = kinds_in (terms_of d)

unfoldable pub beside : Forest → Forest → Forest
beside empty g = g
beside (node k f r) g = node k f (beside r g)
beside (leaf l r) g = leaf l (beside r g)

pub beside-empty : (f : Forest) → beside f empty ≡ f
unfolding beside
beside-empty empty = refl
beside-empty (node k f r) = ap (λ (g : Forest). node k f g) (beside-empty r)
beside-empty (leaf l r) = ap (λ (g : Forest). leaf l g) (beside-empty r)

pub shown-followed : (a b : Dressed) → shown (a followed_by b) ≡ beside (shown a) (shown b)
unfolding shown beside
shown-followed dressed.End b = refl
shown-followed (dressed.Leaf k t d) b = elim (cases_Bool (k == WHITESPACE || k == COMMENT)) [
  | inl i ↦ rw i (shown-followed d b)
  | inr i ↦ rw i (ap (λ (g : Forest). let l : green.Leaf = record { kind = k; text = [] } in leaf l g) (shown-followed d b))
]
shown-followed (dressed.Said m p d) b = shown-followed d b
shown-followed (dressed.Node k c d) b = ap (λ (g : Forest). node k (shown c) g) (shown-followed d b)

shown-trivia : (c : ℕ) (ls : List Leaf) → c ≤ length (pending ls) → shown (as_dressed (take c ls)) ≡ empty
unfolding shown as_dressed is_trivia
shown-trivia zero ls le = refl
shown-trivia (suc c) [] le = refl
shown-trivia (suc c) (l ∷ ls) le = elim (cases_Bool (l.kind == WHITESPACE || l.kind == COMMENT)) [
  | inl i ↦ rw i (shown-trivia c ls (one-less l ls c i le))
  | inr i ↦ absurd (none-pending l ls c i le)
]

pub idle-shown : (c : ℕ) (s : Dressing) → c ≤ length (pending s.left) → shown (put_each c s).given ≡ shown s.given
unfolding put_each put
idle-shown c s le = shown-followed s.given (as_dressed (take c s.left)) ∙ ap (λ (f : Forest). beside (shown s.given) f) (shown-trivia c s.left le) ∙ beside-empty (shown s.given)

empty-pending : length (pending []) ≡ 0
unfolding pending
empty-pending = refl

pub all-pending : (w : Bool) (e : Edition) (ls : List Leaf) → seen w e ls ≡ [] → length (pending ls) ≡ length ls
unfolding seen
all-pending w e [] none = empty-pending
all-pending w e (l ∷ ls) none = elim (cases_Bool (is_trivia l)) [
  | inl i ↦ let more = all-pending w e ls (subst (λ (b : Bool). (if b then seen w e ls else record { token = token_of w e l ls; dot = dot_of l } ∷ seen w e ls) ≡ []) i none) in let one = one-more l ls i in omega (arith, more, one)
  | inr i ↦ absurd (let z : record { token = token_of w e l ls; dot = dot_of l } ∷ seen w e ls ≡ [] = subst (λ (b : Bool). (if b then seen w e ls else record { token = token_of w e l ls; dot = dot_of l } ∷ seen w e ls) ≡ []) i none in cc)
]

-- the next leaf, where no whitespace or comment is next
solid-next : (l : Leaf) (ls : List Leaf) → pending (l ∷ ls) ≡ [] → is_trivia l ≡ false
solid-next l ls none = elim (cases_Bool (is_trivia l)) [
  | inr i ↦ i
  | inl i ↦ absurd (let z : l ∷ pending ls ≡ [] = sym (pending-more l ls i) ∙ none in cc)
]

seen-solid : (w : Bool) (e : Edition) (l : Leaf) (ls : List Leaf) → is_trivia l ≡ false → seen w e (l ∷ ls) ≡ record { token = token_of w e l ls; dot = dot_of l } ∷ seen w e ls
unfolding seen
seen-solid w e l ls i = rw i refl

seen-one : (w : Bool) (e : Edition) (ls : List Leaf) → pending ls ≡ [] → seen w e (drop 1 ls) ≡ drop 1 (seen w e ls)
unfolding seen
seen-one w e [] none = refl
seen-one w e (l ∷ ls) none = rw (solid-next l ls none) refl

-- whether a float that is next holds a dot
float-dot : (w : Bool) (e : Edition) (ls : List Leaf) (b : Bool) → pending ls ≡ [] → is_float b (tokens (seen w e ls)) ≡ true → (x : Seen) (xs : List Seen) → seen w e ls ≡ x ∷ xs → has_dot (next_text ls) ≡ x.dot
unfolding seen is_float tokens next_text dot_of
float-dot w e [] b none f x xs is = absurd (true≢false (sym f))
float-dot w e (l ∷ ls) b none f x xs is =
    let at : record { token = token_of w e l ls; dot = dot_of l } ∷ seen w e ls ≡ x ∷ xs = sym (seen-solid w e l ls (solid-next l ls none)) ∙ is in
    let own : dot_of l ≡ x.dot = let same : record { token = token_of w e l ls; dot = dot_of l } ≡ x = cc in ap (λ (y : Seen). y.dot) same in
    let kind : (l.kind == FLOAT_NUMBER) ≡ true = ap (λ (k : ℕ). k == FLOAT_NUMBER) (sym (token-kind w e l ls)) ∙ and_l _ _ (subst (λ (ss : List Seen). is_float b (tokens ss) ≡ true) (seen-solid w e l ls (solid-next l ls none)) f) in
    of-float l kind ∙ own
  where
    of-float : (l : Leaf) → (l.kind == FLOAT_NUMBER) ≡ true → has_dot l.text ≡ dot_of l
    of-float l kind = rw kind refl

opposite : (a b : Bool) → not a ≡ not b → a ≡ b
opposite true true e = refl
opposite false false e = refl
opposite true false e = absurd (true≢false (sym e))
opposite false true e = absurd (true≢false e)

float-some : (b : Bool) (ss : List Seen) → is_float b (tokens ss) ≡ true → (x : Seen) × ((xs : List Seen) × (ss ≡ x ∷ xs))
unfolding is_float tokens
float-some b [] f = absurd (true≢false (sym f))
float-some b (x ∷ xs) f = (x, (xs, refl))

pub settled-each : (s : Dressing) → pending (put_pending s).left ≡ []
unfolding put_pending put_each put
settled-each s = settled s.left

pub seen-pending : (w : Bool) (e : Edition) (s : Dressing) → seen w e (put_pending s).left ≡ seen w e s.left
unfolding put_pending put_each put
seen-pending w e s = seen-over w e (length (pending s.left)) s.left (omega arith)

-- a node is opened after the whitespace and comments that stay outside of it
unfoldable pub inside : ℕ → Dressing → Dressing
inside k s = put_each (attached k (pending s.left)) (open_node (put_each (length (pending s.left) - attached k (pending s.left)) s))

unfoldable pub outside : ℕ → Dressing → Dressing
outside k s = put_each (length (pending s.left) - attached k (pending s.left)) s

pub within : (k : ℕ) (s : Dressing) → attached k (pending s.left) ≤ length (pending (open_node (outside k s)).left)
unfolding outside open_node put_each put
within k s =
    let most = attached-most k (pending s.left) in
    let over = pending-over (length (pending s.left) - attached k (pending s.left)) s.left (omega arith) in
    omega (arith, most, over)

module _ (w v : Bool) (e g : Edition) where
  -- dressings that show the same, with leaves left that do
  pub record Alike (s t : Dressing) : Type 0 where
    pub shapes : shown s.given ≡ shown t.given
    pub left : seen w e s.left ≡ seen v g t.left

  each-alike : (c d : ℕ) (s t : Dressing) → c ≤ length (pending s.left) → d ≤ length (pending t.left) → Alike s t → Alike (put_each c s) (put_each d t)
  unfolding put_each put
  each-alike c d s t p q a = record {
    shapes = idle-shown c s p ∙ a.shapes ∙ sym (idle-shown d t q);
    left = seen-over w e c s.left p ∙ a.left ∙ sym (seen-over v g d t.left q);
  }

  pending-alike : (s t : Dressing) → Alike s t → Alike (put_pending s) (put_pending t)
  unfolding put_pending
  pending-alike s t a = each-alike (length (pending s.left)) (length (pending t.left)) s t (omega arith) (omega arith) a

  followed-alike : (a b c d : Dressed) → shown a ≡ shown c → shown b ≡ shown d → shown (a followed_by b) ≡ shown (c followed_by d)
  followed-alike a b c d p q = shown-followed a b ∙ ap (λ (f : Forest). beside f (shown b)) p ∙ ap (λ (f : Forest). beside (shown c) f) q ∙ sym (shown-followed c d)

  leaf-alike : (k n : ℕ) (s t : Dressing) → Alike s t → Alike (put_leaf k n s) (put_leaf k n t)
  unfolding put_leaf put shown
  leaf-alike k n s t a = record {
    shapes = followed-alike s.given _ t.given _ a.shapes refl;
    left = seen-reach w e n s.left ∙ ap (λ (ss : List Seen). drop n ss) a.left ∙ sym (seen-reach v g n t.left);
  }

  say-alike : (m : Message) (s t : Dressing) → Alike s t → Alike (say m s) (say m t)
  unfolding say shown
  say-alike m s t a = record { shapes = followed-alike s.given _ t.given _ a.shapes refl; left = a.left }

  open-alike : (s t : Dressing) → Alike s t → Alike (open_node s) (open_node t)
  unfolding open_node
  open-alike s t a = record { shapes = refl; left = a.left }

  close-alike : (k : ℕ) (before after s t : Dressing) → shown before.given ≡ shown after.given → Alike s t → Alike (close_node k before s) (close_node k after t)
  unfolding close_node shown
  close-alike k before after s t p a = record { shapes = followed-alike before.given _ after.given _ p (ap (λ (f : Forest). node k f empty) a.shapes); left = a.left }

  -- elements put over the next leaf, or over none
  put-alike : (a b : Dressed) (first second : List ℕ) (s t : Dressing) → shown a ≡ shown b → pending s.left ≡ [] → pending t.left ≡ [] → Alike s t → Alike (put a first 1 s) (put b second 1 t)
  unfolding put
  put-alike a b first second s t p i j h = record {
    shapes = followed-alike s.given a t.given b h.shapes p;
    left = seen-one w e s.left i ∙ ap (λ (ss : List Seen). drop 1 ss) h.left ∙ sym (seen-one v g t.left j);
  }

  more-alike : (a b : Dressed) (s t : Dressing) → shown a ≡ shown b → Alike s t → Alike (put a [] 0 s) (put b [] 0 t)
  unfolding put
  more-alike a b s t p h = record { shapes = followed-alike s.given a t.given b h.shapes p; left = h.left }

  number-alike : (t u : List ℕ) → shown (number t) ≡ shown (number u)
  unfolding number shown
  number-alike t u = refl

  dot-alike : (x y t u : List ℕ) → shown (dressed.Leaf DOT x (number t)) ≡ shown (dressed.Leaf DOT y (number u))
  unfolding number shown
  dot-alike x y t u = refl

  said-settled : (m : Message) (s : Dressing) → pending s.left ≡ [] → pending (say m s).left ≡ []
  unfolding say
  said-settled m s i = i

  access-alike : (before after s t : Dressing) → shown before.given ≡ shown after.given → is_empty (from_dot (next_text s.left)) ≡ is_empty (from_dot (next_text t.left)) → pending s.left ≡ [] → pending t.left ≡ [] → Alike s t → Alike (access before s) (access after t)
  unfolding access shown
  access-alike before after s t p flag i j a = elim (cases_Bool (is_empty (from_dot (next_text t.left)))) [
    | inl f ↦ rw (flag ∙ f, f) (close-alike FIELD_EXPR before after _ _ p (put-alike _ _ (next_text s.left) (next_text t.left) (say IllegalFloat s) (say IllegalFloat t) refl (said-settled IllegalFloat s i) (said-settled IllegalFloat t j) (say-alike IllegalFloat s t a)))
    | inr f ↦ rw (flag ∙ f, f) (more-alike _ _ _ _ (dot-alike (take 1 (from_dot (next_text s.left))) (take 1 (from_dot (next_text t.left))) _ _) (close-alike FIELD_EXPR before after _ _ p (put-alike _ _ (next_text s.left) (next_text t.left) s t (number-alike (before_dot (next_text s.left)) (before_dot (next_text t.left))) i j a)))
  ]

  parted-alike : (before after s t : Dressing) → shown before.given ≡ shown after.given → pending s.left ≡ [] → pending t.left ≡ [] → Alike s t → Alike (access_dot before s) (access_dot after t)
  unfolding access_dot shown
  parted-alike before after s t p i j a =
      more-alike _ _ _ _ refl (close-alike FIELD_EXPR before after _ _ p (put-alike _ _ (next_text s.left) (next_text t.left) s t (number-alike (before_dot (next_text s.left)) (before_dot (next_text t.left))) i j a))

  -- the tokens that are left
  unfoldable pub rest : Dressing → List Token
  rest s = tokens (seen w e s.left)

  rest-leaf : (k n : ℕ) (s : Dressing) → rest (put_leaf k n s) ≡ drop n (rest s)
  unfolding rest put_leaf put
  rest-leaf k n s = ap tokens (seen-reach w e n s.left) ∙ tokens-drop n (seen w e s.left)

  rest-pending : (s : Dressing) → rest (put_pending s) ≡ rest s
  unfolding rest
  rest-pending s = ap tokens (seen-pending w e s)

  rest-opened : (s : Dressing) → rest (open_node s) ≡ rest s
  unfolding rest open_node
  rest-opened s = refl

  rest-closed : (k : ℕ) (before s : Dressing) → rest (close_node k before s) ≡ rest s
  unfolding rest close_node
  rest-closed k before s = refl

  rest-said : (m : Message) (s : Dressing) → rest (say m s) ≡ rest s
  unfolding rest say
  rest-said m s = refl

  rest-access : (before s : Dressing) → pending s.left ≡ [] → rest (access before s) ≡ drop 1 (rest s)
  unfolding rest access put close_node say
  rest-access before s i = elim (cases_Bool (is_empty (from_dot (next_text s.left)))) [
    | inl f ↦ rw f (ap tokens (seen-one w e s.left i) ∙ tokens-drop 1 (seen w e s.left))
    | inr f ↦ rw f (ap tokens (seen-one w e s.left i) ∙ tokens-drop 1 (seen w e s.left))
  ]

  rest-parted : (before s : Dressing) → pending s.left ≡ [] → rest (access_dot before s) ≡ drop 1 (rest s)
  unfolding rest access_dot put close_node
  rest-parted before s i = ap tokens (seen-one w e s.left i) ∙ tokens-drop 1 (seen w e s.left)

  -- whether the float that is next holds a dot, on both sides
  same-flag : (b : Bool) (s t : Dressing) → pending s.left ≡ [] → pending t.left ≡ [] → Alike s t → is_float b (rest s) ≡ true → is_empty (from_dot (next_text s.left)) ≡ is_empty (from_dot (next_text t.left))
  unfolding rest has_dot
  same-flag b s t i j a f =
      let x = float-some b (seen w e s.left) f in
      let one : has_dot (next_text s.left) ≡ x.0.dot = float-dot w e s.left b i f x.0 x.1.0 x.1.1 in
      let other : has_dot (next_text t.left) ≡ x.0.dot = float-dot v g t.left b j (subst (λ (ss : List Seen). is_float b (tokens ss) ≡ true) a.left f) x.0 x.1.0 (sym a.left ∙ x.1.1) in
      opposite (is_empty (from_dot (next_text s.left))) (is_empty (from_dot (next_text t.left))) (one ∙ sym other)

  outside-alike : (k : ℕ) (s t : Dressing) → Alike s t → Alike (outside k s) (outside k t)
  unfolding outside
  outside-alike k s t a = each-alike _ _ s t (omega arith) (omega arith) a

  inside-alike : (k : ℕ) (s t : Dressing) → Alike s t → Alike (inside k s) (inside k t)
  unfolding inside outside
  inside-alike k s t a = each-alike _ _ (open_node (outside k s)) (open_node (outside k t)) (within k s) (within k t) (open-alike (outside k s) (outside k t) (outside-alike k s t a))

  rest-inside : (k : ℕ) (s : Dressing) → rest (inside k s) ≡ rest s
  unfolding rest inside outside put_each put open_node
  rest-inside k s =
      ap tokens (seen-over w e (attached k (pending s.left)) (open_node (outside k s)).left (within k s))
      ∙ ap tokens (seen-over w e (length (pending s.left) - attached k (pending s.left)) s.left (omega arith))

  float-alike :
      (b : Bool) (f : forest.Forest) (p q r o : Dressing) (us : List Token) {ts : List Token}
      → ((s t : Dressing) → Alike s t → tokens_after f (rest s) ≡ Some us → Alike (dress f s) (dress f t) × (rest (dress f s) ≡ us))
      → Alike p q → pending r.left ≡ [] → pending o.left ≡ [] → Alike r o
      → is_empty (from_dot (next_text r.left)) ≡ is_empty (from_dot (next_text o.left)) → drop 1 (rest r) ≡ ts → tokens_after f ts ≡ Some us
      → Alike (dress f (if b && not (is_empty (from_dot (next_text r.left))) then access_dot p r else close_node FIELD_EXPR p (access (open_node p) r)))
      (dress f (if b && not (is_empty (from_dot (next_text o.left))) then access_dot q o else close_node FIELD_EXPR q (access (open_node q) o)))
      × (rest (dress f (if b && not (is_empty (from_dot (next_text r.left))) then access_dot p r else close_node FIELD_EXPR p (access (open_node p) r))) ≡ us)
  float-alike b f p q r o us more before own others both flag left i = elim (cases_Bool (b && not (is_empty (from_dot (next_text o.left))))) [
    | inl h ↦ rw (flag, h) (more (access_dot p r) (access_dot q o) (parted-alike p q r o before.shapes own others both) (subst (λ (vs : List Token). tokens_after f vs ≡ Some us) (sym (rest-parted p r own ∙ left)) i))
    | inr h ↦ rw (flag, h) (more (close_node FIELD_EXPR p (access (open_node p) r)) (close_node FIELD_EXPR q (access (open_node q) o)) (close-alike FIELD_EXPR p q _ _ before.shapes (access-alike (open_node p) (open_node q) r o (open-alike p q before).shapes flag own others both)) (subst (λ (vs : List Token). tokens_after f vs ≡ Some us) (sym (rest-closed FIELD_EXPR p (access (open_node p) r) ∙ rest-access (open_node p) r own ∙ left)) i))
  ]

  -- What is dressed in both, where the trees stand over the tokens that are left.
  pub dress-alike : (f : forest.Forest) (s t : Dressing) (us : List Token) → Alike s t → tokens_after f (rest s) ≡ Some us → Alike (dress f s) (dress f t) × (rest (dress f s) ≡ us)
  unfolding dress tokens_after inside outside
  dress-alike forest.End s t us a i = (a, let same : rest s ≡ us = cc in same)
  dress-alike (forest.Leaf k n f) s t us a i =
      let ts = rest s in
      let first = after-some (drop_if (is_spelled k n ts) n ts) (tokens_after f) us i in
      let taken = dropped (is_spelled k n ts) n ts first.0 first.1.0 in
      let p = put_pending s in
      let left : rest (put_leaf k n p) ≡ first.0 = rest-leaf k n p ∙ ap (λ (vs : List Token). drop n vs) (rest-pending s) ∙ taken.1 in
      dress-alike f (put_leaf k n p) (put_leaf k n (put_pending t)) us (leaf-alike k n p (put_pending t) (pending-alike s t a)) (subst (λ (vs : List Token). tokens_after f vs ≡ Some us) (sym left) first.1.1)
  dress-alike (forest.Said m f) s t us a i = dress-alike f (say m s) (say m t) us (say-alike m s t a) (subst (λ (vs : List Token). tokens_after f vs ≡ Some us) (sym (rest-said m s)) i)
  dress-alike (forest.ErrorLeaf m k f) s t us a i =
      let ts = rest s in
      let first = after-some (drop_if (is_token k ts) 1 ts) (tokens_after f) us i in
      let taken = dropped (is_token k ts) 1 ts first.0 first.1.0 in
      let p = put_pending s in
      let q = put_pending t in
      let inner = say m (open_node p) in
      let other = say m (open_node q) in
      let before = pending-alike s t a in
      let left : rest (close_node ERROR p (put_leaf k 1 inner)) ≡ first.0 = rest-closed ERROR p (put_leaf k 1 inner) ∙ rest-leaf k 1 inner ∙ ap (λ (vs : List Token). drop 1 vs) (rest-said m (open_node p) ∙ rest-opened p ∙ rest-pending s) ∙ taken.1 in
      dress-alike f (close_node ERROR p (put_leaf k 1 inner)) (close_node ERROR q (put_leaf k 1 other)) us
      (close-alike ERROR p q (put_leaf k 1 inner) (put_leaf k 1 other) before.shapes (leaf-alike k 1 inner other (say-alike m (open_node p) (open_node q) (open-alike p q before))))
      (subst (λ (vs : List Token). tokens_after f vs ≡ Some us) (sym left) first.1.1)
  dress-alike (forest.Node k c f) s t us a i =
      let first = after-some (tokens_after c (rest s)) (tokens_after f) us i in
      let p = inside k s in
      let q = inside k t in
      let children = dress-alike c p q first.0 (inside-alike k s t a) (subst (λ (vs : List Token). tokens_after c vs ≡ Some first.0) (sym (rest-inside k s)) first.1.0) in
      dress-alike f (close_node k (outside k s) (dress c p)) (close_node k (outside k t) (dress c q)) us
      (close-alike k (outside k s) (outside k t) (dress c p) (dress c q) (outside-alike k s t a).shapes children.0)
      (subst (λ (vs : List Token). tokens_after f vs ≡ Some us) (sym (rest-closed k (outside k s) (dress c p) ∙ children.1)) first.1.1)
  dress-alike (forest.Float b c f) s t us a i =
      let first = after-some (tokens_after c (rest s)) (λ vs. then_after (drop_if (is_float b vs) 1 vs) (tokens_after f)) us i in
      let second = after-some (drop_if (is_float b first.0) 1 first.0) (tokens_after f) us first.1.1 in
      let taken = dropped (is_float b first.0) 1 first.0 second.0 second.1.0 in
      let p = put_pending s in
      let q = put_pending t in
      let before = pending-alike s t a in
      let receiver = dress-alike c (open_node p) (open_node q) first.0 (open-alike p q before) (subst (λ (vs : List Token). tokens_after c vs ≡ Some first.0) (sym (rest-opened p ∙ rest-pending s)) first.1.0) in
      let r = put_pending (dress c (open_node p)) in
      let o = put_pending (dress c (open_node q)) in
      let both = pending-alike (dress c (open_node p)) (dress c (open_node q)) receiver.0 in
      let at : rest r ≡ first.0 = rest-pending (dress c (open_node p)) ∙ receiver.1 in
      let own = settled-each (dress c (open_node p)) in
      let others = settled-each (dress c (open_node q)) in
      let flag = same-flag b r o own others both (subst (λ (vs : List Token). is_float b vs ≡ true) (sym at) taken.0) in
      float-alike b f p q r o us (λ x y h j. dress-alike f x y us h j) before own others both flag (ap (λ (vs : List Token). drop 1 vs) at ∙ taken.1) second.1.1

  pub none-seen : (ss : List Seen) → tokens ss ≡ [] → ss ≡ []
  unfolding tokens
  none-seen [] i = refl
  none-seen (x ∷ xs) i = absurd (let z : x.token ∷ tokens xs ≡ [] = i in cc)

  pub none-after : (ts : List Token) → tokens_after forest.End ts ≡ Some [] → ts ≡ []
  unfolding tokens_after
  none-after ts i = let same : Some ts ≡ Some [] = i in cc

  unfoldable pub at_start : List Leaf → Dressing
  at_start ls = record { given = dressed.End; place = 0; left = ls }

  -- where no token is left, all that is left is put
  end-alike : (s t : Dressing) → Alike s t → rest s ≡ [] → Alike (put_each (length s.left) s) (put_each (length t.left) t)
  unfolding rest
  end-alike s t a i =
      let none = none-seen (seen w e s.left) i in
      let own = all-pending w e s.left none in
      let other = all-pending v g t.left (sym a.left ∙ none) in
      each-alike (length s.left) (length t.left) s t (omega (arith, own)) (omega (arith, other)) a

  root-alike : (k : ℕ) (s t : Dressing) → Alike s t → rest s ≡ [] → kinds_of (root_of (terms_of (root k s).given)) ≡ kinds_of (root_of (terms_of (root k t).given))
  unfolding root close_node open_node shown
  root-alike k s t a i = ap (λ (f : Forest). let tree : Tree = record { kind = k; forest = f } in tree) (end-alike s t a i).shapes

  start-alike : (ls ms : List Leaf) → seen w e ls ≡ seen v g ms → Alike (at_start ls) (at_start ms)
  unfolding at_start
  start-alike ls ms same = record { shapes = refl; left = same }

  rooted-alike : (f : forest.Forest) (ls ms : List Leaf) → IsRooted f → seen w e ls ≡ seen v g ms → tokens_after f (tokens (seen w e ls)) ≡ Some [] → kinds_of (root_of (terms_of (dress_root f ls))) ≡ kinds_of (root_of (terms_of (dress_root f ms)))
  unfolding dress_root tokens_after at_start rest
  rooted-alike (forest.Node k c forest.End) ls ms rooted same i =
      let first = after-some (tokens_after c (tokens (seen w e ls))) (tokens_after forest.End) [] i in
      let none = none-after first.0 first.1.1 in
      let both = dress-alike c (at_start ls) (at_start ms) first.0 (start-alike ls ms same) first.1.0 in
      root-alike k (dress c (at_start ls)) (dress c (at_start ms)) both.0 (both.1 ∙ none)
  rooted-alike (forest.Float false c forest.End) ls ms rooted same i =
      let first = after-some (tokens_after c (tokens (seen w e ls))) (λ vs. then_after (drop_if (is_float false vs) 1 vs) (tokens_after forest.End)) [] i in
      let second = after-some (drop_if (is_float false first.0) 1 first.0) (tokens_after forest.End) [] first.1.1 in
      let taken = dropped (is_float false first.0) 1 first.0 second.0 second.1.0 in
      let none = none-after second.0 second.1.1 in
      let p = put_pending (at_start ls) in
      let q = put_pending (at_start ms) in
      let before = pending-alike (at_start ls) (at_start ms) (start-alike ls ms same) in
      let receiver = dress-alike c (open_node p) (open_node q) first.0 (open-alike p q before) (subst (λ (vs : List Token). tokens_after c vs ≡ Some first.0) (sym (rest-opened p ∙ rest-pending (at_start ls))) first.1.0) in
      let r = put_pending (dress c (open_node p)) in
      let o = put_pending (dress c (open_node q)) in
      let both = pending-alike (dress c (open_node p)) (dress c (open_node q)) receiver.0 in
      let at : rest r ≡ first.0 = rest-pending (dress c (open_node p)) ∙ receiver.1 in
      let own = settled-each (dress c (open_node p)) in
      let others = settled-each (dress c (open_node q)) in
      let flag = same-flag false r o own others both (subst (λ (vs : List Token). is_float false vs ≡ true) (sym at) taken.0) in
      root-alike FIELD_EXPR (access p r) (access q o) (access-alike p q r o before.shapes flag own others both) (rest-access p r own ∙ ap (λ (vs : List Token). drop 1 vs) at ∙ taken.1 ∙ none)
  rooted-alike f ls ms rooted same i = absurd rooted

pub kinds-follow :
    (x : Production) (g h : Grammar) (first second : Edition) (a b : List ℕ)
    → is_entry x ≡ true → input (is_whole g) first (leaves_in first a) ≡ input (is_whole h) second (leaves_in second b) → dots (leaves_in first a) ≡ dots (leaves_in second b)
    → kinds_of (tree_by x g first a) ≡ kinds_of (tree_by x h second b)
unfolding tree_by dressed_by
kinds-follow x g h first second a b entered same alike =
    let w = is_whole g in
    let v = is_whole h in
    let own = leaves_in first a in
    let other = leaves_in second b in
    let seen_same : seen w first own ≡ seen v second other =
    seen-together w first own ∙ ap (λ (ts : List Token). together ts (dots own)) same ∙ ap (λ (bs : List Bool). together (input v second other) bs) alike ∙ sym (seen-together v second other) in
    rooted-alike w v first second (entry whole x (input w first own)) own other (entry-rooted x (input w first own) entered) seen_same
    (subst (λ (ts : List Token). tokens_after (entry whole x (input w first own)) ts ≡ Some []) (sym (tokens-seen w first own)) (entries-in-order x (input w first own)))
    ∙ ap (λ (ts : List Token). kinds_of (root_of (terms_of (dress_root (entry whole x ts) other)))) same
