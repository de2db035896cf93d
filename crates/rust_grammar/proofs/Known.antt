-- What follows from a look that is seen at a place.
use Rattle.std.proofs.Common.{◌≡◌, ℕ, zero, suc, arith, Bool, true, false, not, ◌&&◌, ◌==◌, List, [], ◌∷◌, length, nat_lt, nat_eq, refl, sym, ap, subst, ◌∙◌, ◌⊎◌, inl, inr, if◌then◌else◌, true≢false}
use Rattle.std.proofs.lemmas.Bool.{cases_Bool, eqb-true, lt-ltb}
use Rattle.parser_input.specs.Kinds.{EOF}
use Rattle.parser_input.specs.Input.{Token}
use Rattle.rust_grammar.specs.Rule.{Look, Always, Never, Kind, Contextual, Joint, Whole, Left, InCondition, Given, Both, Either, Not}
use Rattle.rust_grammar.specs.Meaning.{Reading, ahead, sees}
use Rattle.rust_grammar.proofs.Plain.{and_l, and_r}

-- tests that ask their second part only where the first does not decide
pub either-if : (a b : Bool) → (if a then true else b) ≡ true → (a ≡ true) ⊎ (b ≡ true)
either-if true b e = inl refl
either-if false b e = inr e

pub both-if-l : (a b : Bool) → (if a then b else false) ≡ true → a ≡ true
both-if-l true b e = refl
both-if-l false b e = e

pub both-if-r : (a b : Bool) → (if a then b else false) ≡ true → b ≡ true
both-if-r true b e = e
both-if-r false b e = absurd (true≢false (sym e))

pub if-first : (a b : Bool) → a ≡ true → (if a then true else b) ≡ true
if-first true b e = refl
if-first false b e = absurd (true≢false (sym e))

pub if-second : (a b : Bool) → b ≡ true → (if a then true else b) ≡ true
if-second true b e = refl
if-second false b e = e

pub if-both : (a b : Bool) → a ≡ true → b ≡ true → (if a then b else false) ≡ true
if-both true b e f = f
if-both false b e f = e

pub neither-l : (a b : Bool) → (if a then true else b) ≡ false → a ≡ false
neither-l true b e = e
neither-l false b e = refl

pub neither-r : (a b : Bool) → (if a then true else b) ≡ false → b ≡ false
neither-r true b e = absurd (true≢false e)
neither-r false b e = e

is-false : (a : Bool) → not a ≡ true → a ≡ false
is-false true e = sym e
is-false false e = refl

is-true : (a : Bool) → not a ≡ false → a ≡ true
is-true true e = refl
is-true false e = sym e

-- whether two looks are the same
unfoldable pub same_look : Look → Look → Bool
same_look Always Always = true
same_look Never Never = true
same_look (Kind n k) (Kind m j) = nat_eq n m && nat_eq k j
same_look (Contextual n k) (Contextual m j) = nat_eq n m && nat_eq k j
same_look (Joint n) (Joint m) = nat_eq n m
same_look (Whole n) (Whole m) = nat_eq n m
same_look Left Left = true
same_look InCondition InCondition = true
same_look Given Given = true
same_look (Both a b) (Both d e) = let second = same_look b e in if same_look a d then second else false
same_look (Either a b) (Either d e) = let second = same_look b e in if same_look a d then second else false
same_look (Not a) (Not d) = same_look a d
same_look a b = false

pub same-look : (l m : Look) → same_look l m ≡ true → l ≡ m
unfolding same_look
same-look Always Always e = refl
same-look Never Never e = refl
same-look (Kind n k) (Kind m j) e = let f = eqb-true n m (and_l (nat_eq n m) (nat_eq k j) e) in let g = eqb-true k j (and_r (nat_eq n m) (nat_eq k j) e) in cc
same-look (Contextual n k) (Contextual m j) e = let f = eqb-true n m (and_l (nat_eq n m) (nat_eq k j) e) in let g = eqb-true k j (and_r (nat_eq n m) (nat_eq k j) e) in cc
same-look (Joint n) (Joint m) e = ap Joint (eqb-true n m e)
same-look (Whole n) (Whole m) e = ap Whole (eqb-true n m e)
same-look Left Left e = refl
same-look InCondition InCondition e = refl
same-look Given Given e = refl
same-look (Both a b) (Both d f) e = let g = same-look a d (both-if-l (same_look a d) (same_look b f) e) in let h = same-look b f (both-if-r (same_look a d) (same_look b f) e) in cc
same-look (Either a b) (Either d f) e = let g = same-look a d (both-if-l (same_look a d) (same_look b f) e) in let h = same-look b f (both-if-r (same_look a d) (same_look b f) e) in cc
same-look (Not a) (Not d) e = ap Not (same-look a d e)
same-look a b e = absurd (true≢false (sym e))

-- a token is left where the next one is of a kind
unfoldable pub is_left : ℕ → ℕ → Look → Bool
is_left zero k Left = not (EOF == k)
is_left n k m = false

-- a token is left where the next one says something
unfoldable pub is_first : ℕ → Look → Bool
is_first zero Left = true
is_first n m = false

-- that the first look is seen, or that it is not, tells that the second is
unfoldable pub tells : Bool → Look → Look → Bool
tells true (Both a b) m =
    let second = tells true b m in
    let parts = if tells true a m then true else second in
    if same_look (Both a b) m then true else parts
tells true (Either a b) m =
    let second = tells true b m in
    let parts = if tells true a m then second else false in
    if same_look (Either a b) m then true else parts
tells true (Not a) m =
    let part = tells false a m in
    if same_look (Not a) m then true else part
tells true (Kind n k) m =
    let left = is_left n k m in
    if same_look (Kind n k) m then true else left
tells true (Whole n) m =
    let left = is_first n m in
    if same_look (Whole n) m then true else left
tells true Never m = true
tells true l m = same_look l m
tells false (Not a) m = tells true a m
tells false (Either a b) m =
    let second = tells false b m in
    if tells false a m then true else second
tells false l m = false

unfoldable pub is_never : Look → Bool
is_never Never = true
is_never l = false

-- the second look is made of such
unfoldable pub weakens : Look → Look → Bool
weakens l Always = true
weakens l (Both a b) =
    let second = weakens l b in
    let parts = if weakens l a then second else false in
    if tells true l (Both a b) then true else parts
weakens l (Either a b) =
    let second = weakens l b in
    let parts = if weakens l a then true else second in
    if tells true l (Either a b) then true else parts
weakens l (Not a) = if is_never a then true else tells true l (Not a)
weakens l m = tells true l m

-- Where the first look is seen, so is the second.
unfoldable pub implies : Look → Look → Bool
implies (Either a b) m =
    let second = implies b m in
    let parts = if implies a m then second else false in
    if same_look (Either a b) m then true else parts
implies (Both a b) m =
    let whole = weakens (Both a b) m in
    let first = if implies a m then true else whole in
    let parts = if implies b m then true else first in
    if same_look (Both a b) m then true else parts
implies l m = weakens l m

-- the first look where the second is not seen
unfoldable pub cut : Look → Look → Look
cut (Both a b) l = let parts = Both (cut a l) (cut b l) in if same_look (Both a b) l then Never else parts
cut (Either a b) l = let parts = Either (cut a l) (cut b l) in if same_look (Either a b) l then Never else parts
cut k l = if same_look k l then Never else k

-- the first look where the second is seen
unfoldable pub sift : Look → Look → Look
sift (Both a b) l = Both (sift a l) (sift b l)
sift (Either a b) l = Either (sift a l) (sift b l)
sift (Not a) l = if same_look a l then Never else Not a
sift k l = k

pub token-left : (k : ℕ) (ts : List Token) → not (EOF == k) ≡ true → ((ahead 0 ts).kind == k) ≡ true → nat_lt 0 (length ts) ≡ true
unfolding ahead
token-left k [] e h = absurd (true≢false (sym h ∙ is-false (EOF == k) e))
token-left k (t ∷ ts) e h = lt-ltb 0 (suc (length ts)) (omega arith)

whole-left : (ts : List Token) → (ahead 0 ts).whole ≡ true → nat_lt 0 (length ts) ≡ true
unfolding ahead
whole-left [] h = absurd (true≢false (sym h))
whole-left (t ∷ ts) h = lt-ltb 0 (suc (length ts)) (omega arith)

module _ (c : Bool) (s : Reading) where
  same-seen : (b : Bool) (l m : Look) → same_look l m ≡ true → sees c s l ≡ b → sees c s m ≡ b
  same-seen b l m e h = subst (λ (k : Look). sees c s k ≡ b) (same-look l m e) h

  left-seen : (n k : ℕ) (m : Look) → is_left n k m ≡ true → sees c s (Kind n k) ≡ true → sees c s m ≡ true
  unfolding sees is_left
  left-seen zero k Left e h = token-left k s.rest e h
  left-seen zero k Always e h = refl
  left-seen zero k Never e h = e
  left-seen zero k (Kind m j) e h = absurd (true≢false (sym e))
  left-seen zero k (Contextual m j) e h = absurd (true≢false (sym e))
  left-seen zero k (Joint m) e h = absurd (true≢false (sym e))
  left-seen zero k (Whole m) e h = absurd (true≢false (sym e))
  left-seen zero k InCondition e h = absurd (true≢false (sym e))
  left-seen zero k Given e h = absurd (true≢false (sym e))
  left-seen zero k (Both a b) e h = absurd (true≢false (sym e))
  left-seen zero k (Either a b) e h = absurd (true≢false (sym e))
  left-seen zero k (Not a) e h = absurd (true≢false (sym e))
  left-seen (suc n) k m e h = absurd (true≢false (sym e))

  first-seen : (n : ℕ) (m : Look) → is_first n m ≡ true → sees c s (Whole n) ≡ true → sees c s m ≡ true
  unfolding sees is_first
  first-seen zero Left e h = whole-left s.rest h
  first-seen n m e h = absurd (true≢false (sym e))

  follows : (b : Bool) (l m : Look) → tells b l m ≡ true → sees c s l ≡ b → sees c s m ≡ true
  unfolding tells sees
  follows true (Both a b) m e h = elim (either-if (same_look (Both a b) m) _ e) [
    | inl i ↦ same-seen true (Both a b) m i h
    | inr i ↦ elim (either-if (tells true a m) (tells true b m) i) [
      | inl j ↦ follows true a m j (both-if-l (sees c s a) (sees c s b) h)
      | inr j ↦ follows true b m j (both-if-r (sees c s a) (sees c s b) h)
    ]
  ]
  follows true (Either a b) m e h = elim (either-if (same_look (Either a b) m) _ e) [
    | inl i ↦ same-seen true (Either a b) m i h
    | inr i ↦ elim (either-if (sees c s a) (sees c s b) h) [
      | inl j ↦ follows true a m (both-if-l (tells true a m) (tells true b m) i) j
      | inr j ↦ follows true b m (both-if-r (tells true a m) (tells true b m) i) j
    ]
  ]
  follows true (Not a) m e h = elim (either-if (same_look (Not a) m) (tells false a m) e) [
    | inl i ↦ same-seen true (Not a) m i h
    | inr i ↦ follows false a m i (is-false (sees c s a) h)
  ]
  follows true (Kind n k) m e h = elim (either-if (same_look (Kind n k) m) (is_left n k m) e) [
    | inl i ↦ same-seen true (Kind n k) m i h
    | inr i ↦ left-seen n k m i h
  ]
  follows true Never m e h = absurd (true≢false (sym h))
  follows true Always m e h = same-seen true Always m e h
  follows true (Contextual n k) m e h = same-seen true (Contextual n k) m e h
  follows true (Joint n) m e h = same-seen true (Joint n) m e h
  follows true (Whole n) m e h = elim (either-if (same_look (Whole n) m) (is_first n m) e) [
    | inl i ↦ same-seen true (Whole n) m i h
    | inr i ↦ first-seen n m i h
  ]
  follows true Left m e h = same-seen true Left m e h
  follows true InCondition m e h = same-seen true InCondition m e h
  follows true Given m e h = same-seen true Given m e h
  follows false (Not a) m e h = follows true a m e (is-true (sees c s a) h)
  follows false (Either a b) m e h = elim (either-if (tells false a m) (tells false b m) e) [
    | inl i ↦ follows false a m i (neither-l (sees c s a) (sees c s b) h)
    | inr i ↦ follows false b m i (neither-r (sees c s a) (sees c s b) h)
  ]
  follows false Always m e h = absurd (true≢false (sym e))
  follows false Never m e h = absurd (true≢false (sym e))
  follows false (Kind n k) m e h = absurd (true≢false (sym e))
  follows false (Contextual n k) m e h = absurd (true≢false (sym e))
  follows false (Joint n) m e h = absurd (true≢false (sym e))
  follows false (Whole n) m e h = absurd (true≢false (sym e))
  follows false Left m e h = absurd (true≢false (sym e))
  follows false InCondition m e h = absurd (true≢false (sym e))
  follows false Given m e h = absurd (true≢false (sym e))
  follows false (Both a b) m e h = absurd (true≢false (sym e))

  pub never-seen : (l : Look) → is_never l ≡ true → sees c s l ≡ false
  unfolding is_never sees
  never-seen Never e = refl
  never-seen Always e = absurd (true≢false (sym e))
  never-seen (Kind n k) e = absurd (true≢false (sym e))
  never-seen (Contextual n k) e = absurd (true≢false (sym e))
  never-seen (Joint n) e = absurd (true≢false (sym e))
  never-seen (Whole n) e = absurd (true≢false (sym e))
  never-seen Left e = absurd (true≢false (sym e))
  never-seen InCondition e = absurd (true≢false (sym e))
  never-seen Given e = absurd (true≢false (sym e))
  never-seen (Both a b) e = absurd (true≢false (sym e))
  never-seen (Either a b) e = absurd (true≢false (sym e))
  never-seen (Not a) e = absurd (true≢false (sym e))

  weakened : (l m : Look) → weakens l m ≡ true → sees c s l ≡ true → sees c s m ≡ true
  unfolding weakens sees
  weakened l Always e h = refl
  weakened l (Both a b) e h = elim (either-if (tells true l (Both a b)) _ e) [
    | inl i ↦ follows true l (Both a b) i h
    | inr i ↦ if-both (sees c s a) (sees c s b) (weakened l a (both-if-l (weakens l a) (weakens l b) i) h) (weakened l b (both-if-r (weakens l a) (weakens l b) i) h)
  ]
  weakened l (Either a b) e h = elim (either-if (tells true l (Either a b)) _ e) [
    | inl i ↦ follows true l (Either a b) i h
    | inr i ↦ elim (either-if (weakens l a) (weakens l b) i) [
      | inl j ↦ if-first (sees c s a) (sees c s b) (weakened l a j h)
      | inr j ↦ if-second (sees c s a) (sees c s b) (weakened l b j h)
    ]
  ]
  weakened l Never e h = follows true l Never e h
  weakened l (Kind n k) e h = follows true l (Kind n k) e h
  weakened l (Contextual n k) e h = follows true l (Contextual n k) e h
  weakened l (Joint n) e h = follows true l (Joint n) e h
  weakened l (Whole n) e h = follows true l (Whole n) e h
  weakened l Left e h = follows true l Left e h
  weakened l InCondition e h = follows true l InCondition e h
  weakened l Given e h = follows true l Given e h
  weakened l (Not a) e h = elim (either-if (is_never a) (tells true l (Not a)) e) [
    | inl i ↦ ap not (never-seen a i)
    | inr i ↦ follows true l (Not a) i h
  ]

  pub implied : (l m : Look) → implies l m ≡ true → sees c s l ≡ true → sees c s m ≡ true
  unfolding implies sees
  implied (Either a b) m e h = elim (either-if (same_look (Either a b) m) _ e) [
    | inl i ↦ same-seen true (Either a b) m i h
    | inr i ↦ elim (either-if (sees c s a) (sees c s b) h) [
      | inl j ↦ implied a m (both-if-l (implies a m) (implies b m) i) j
      | inr j ↦ implied b m (both-if-r (implies a m) (implies b m) i) j
    ]
  ]
  implied (Both a b) m e h = elim (either-if (same_look (Both a b) m) _ e) [
    | inl i ↦ same-seen true (Both a b) m i h
    | inr i ↦ elim (either-if (implies b m) _ i) [
      | inl j ↦ implied b m j (both-if-r (sees c s a) (sees c s b) h)
      | inr j ↦ elim (either-if (implies a m) (weakens (Both a b) m) j) [
        | inl k ↦ implied a m k (both-if-l (sees c s a) (sees c s b) h)
        | inr k ↦ weakened (Both a b) m k h
      ]
    ]
  ]
  implied Always m e h = weakened Always m e h
  implied Never m e h = weakened Never m e h
  implied (Kind n k) m e h = weakened (Kind n k) m e h
  implied (Contextual n k) m e h = weakened (Contextual n k) m e h
  implied (Joint n) m e h = weakened (Joint n) m e h
  implied (Whole n) m e h = weakened (Whole n) m e h
  implied Left m e h = weakened Left m e h
  implied InCondition m e h = weakened InCondition m e h
  implied Given m e h = weakened Given m e h
  implied (Not a) m e h = weakened (Not a) m e h

  chosen-cut : (k l p : Look) → sees c s l ≡ false → sees c s k ≡ true → sees c s p ≡ true → sees c s (if same_look k l then Never else p) ≡ true
  chosen-cut k l p unseen h i = elim (cases_Bool (same_look k l)) [
    | inl e ↦ absurd (true≢false (sym (same-seen true k l e h) ∙ unseen))
    | inr e ↦ rw e i
  ]

  pub cut-seen : (k l : Look) → sees c s l ≡ false → sees c s k ≡ true → sees c s (cut k l) ≡ true
  unfolding cut sees
  cut-seen (Both a b) l unseen h =
      chosen-cut (Both a b) l (Both (cut a l) (cut b l)) unseen h
      (if-both (sees c s (cut a l)) (sees c s (cut b l)) (cut-seen a l unseen (both-if-l (sees c s a) (sees c s b) h)) (cut-seen b l unseen (both-if-r (sees c s a) (sees c s b) h)))
  cut-seen (Either a b) l unseen h =
      chosen-cut (Either a b) l (Either (cut a l) (cut b l)) unseen h
      (elim (either-if (sees c s a) (sees c s b) h) [
        | inl i ↦ if-first (sees c s (cut a l)) (sees c s (cut b l)) (cut-seen a l unseen i)
        | inr i ↦ if-second (sees c s (cut a l)) (sees c s (cut b l)) (cut-seen b l unseen i)
      ])
  cut-seen Always l unseen h = chosen-cut Always l Always unseen h h
  cut-seen Never l unseen h = chosen-cut Never l Never unseen h h
  cut-seen (Kind n k) l unseen h = chosen-cut (Kind n k) l (Kind n k) unseen h h
  cut-seen (Contextual n k) l unseen h = chosen-cut (Contextual n k) l (Contextual n k) unseen h h
  cut-seen (Joint n) l unseen h = chosen-cut (Joint n) l (Joint n) unseen h h
  cut-seen (Whole n) l unseen h = chosen-cut (Whole n) l (Whole n) unseen h h
  cut-seen Left l unseen h = chosen-cut Left l Left unseen h h
  cut-seen InCondition l unseen h = chosen-cut InCondition l InCondition unseen h h
  cut-seen Given l unseen h = chosen-cut Given l Given unseen h h
  cut-seen (Not a) l unseen h = chosen-cut (Not a) l (Not a) unseen h h

  pub sift-seen : (k l : Look) → sees c s l ≡ true → sees c s k ≡ true → sees c s (sift k l) ≡ true
  unfolding sift sees
  sift-seen (Both a b) l own h = if-both (sees c s (sift a l)) (sees c s (sift b l)) (sift-seen a l own (both-if-l (sees c s a) (sees c s b) h)) (sift-seen b l own (both-if-r (sees c s a) (sees c s b) h))
  sift-seen (Either a b) l own h = elim (either-if (sees c s a) (sees c s b) h) [
    | inl i ↦ if-first (sees c s (sift a l)) (sees c s (sift b l)) (sift-seen a l own i)
    | inr i ↦ if-second (sees c s (sift a l)) (sees c s (sift b l)) (sift-seen b l own i)
  ]
  sift-seen (Not a) l own h = elim (cases_Bool (same_look a l)) [
    | inl e ↦ absurd (true≢false (sym own ∙ same-seen false a l e (is-false (sees c s a) h)))
    | inr e ↦ rw e h
  ]
  sift-seen Always l own h = h
  sift-seen Never l own h = h
  sift-seen (Kind n k) l own h = h
  sift-seen (Contextual n k) l own h = h
  sift-seen (Joint n) l own h = h
  sift-seen (Whole n) l own h = h
  sift-seen Left l own h = h
  sift-seen InCondition l own h = h
  sift-seen Given l own h = h
