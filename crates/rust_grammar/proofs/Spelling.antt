-- A test of a table: what its rules read stands over the tokens as it is spelled.
use Rattle.std.proofs.Common.{◌≡◌, ℕ, zero, suc, ◌+◌, Bool, true, false, not, ◌&&◌, ◌||◌, ◌==◌, List, [], ◌∷◌, length, drop, nat_lt, nat_eq, Option, Some, None, refl, sym, ap, subst, ◌∙◌, inl, inr, if◌then◌else◌, true≢false, arith}
use Rattle.std.proofs.lemmas.Bool.{eqb-true, eq-eqb, ltb-true, or_cases}
use Rattle.parser_input.specs.Kinds.{EOF, FLOAT_NUMBER, PIPE_GT}
use Rattle.parser_input.specs.Input.{Token}
use Rattle.parser_events.specs.Forest as forest
use Rattle.parser_events.specs.Forest.{Forest, ◌then◌}
use Rattle.rust_grammar.specs.Rule.{Production, Rule, Spelling, Look, Always, Kind, Contextual, Left, Given, Both, Either, Nothing, One, Any, Then, Near, Or, Opt, Star, Node, Wrap, Want, Say, Skip, Split, When, Unless, Call, Continue, Mode, begins, there_at, with_contextual, spelled_at, from_start, Lead}
use Rattle.rust_grammar.specs.Meaning.{Reading, Calls, sees, ahead, is_end}
use Rattle.rust_grammar.specs.Spelled.{marks, are_next, is_token, is_contextual, has_contextual, is_one_of, is_spelled, is_float, drop_if, then_after, tokens_after}
use Rattle.rust_grammar.proofs.Plain.{and_l, and_r}
use Rattle.rust_grammar.proofs.Known.{both-if-l, both-if-r, implies, cut, sift}
use Rattle.rust_grammar.proofs.Elsewhere.{without, back, asked}

-- What is taken as known of productions.
pub record Claims : Type 0 where
  -- where each begins
  pub looks : Production → Look
  -- it is read as it is spelled even where it does not begin
  pub free : Production → Bool
  -- it gives something
  pub gives : Production → Bool
  -- it takes just one token where this is seen
  pub one : Production → Look
  -- this is seen after it
  pub ends : Production → Look

-- a rule that consumes exactly `n` tokens
unfoldable pub counts : ℕ → Rule → Bool
counts n Nothing = nat_eq 0 n
counts n (One x) = nat_eq (length x.parts) n
counts n Any = nat_eq 1 n
counts n (Or a b) = counts n a && counts n b
counts n (When l a) = counts n a
counts n (Unless l a) = counts n a
counts n (Node k a) = counts n a
counts n (Wrap k a) = counts n a
counts n (Mode c a) = counts n a
counts n r = false

-- the next token is of another kind
unfoldable pub denies : Look → ℕ → Bool
denies (Kind zero i) j = not (i == j)
denies (Both a b) j = if denies a j then true else denies b j
denies (Either a b) j = if denies a j then denies b j else false
denies k j = false

unfoldable pub denies_first : Look → List ℕ → Bool
denies_first k [] = false
denies_first k (p ∷ ps) = denies k p

-- what is known after this spelling, where it is next, and else of the same place
unfoldable pub decided : Look → Spelling → Look → Look
decided k x other =
    let skipped = if denies_first k x.parts then k else other in
    if implies k (spelled_at 0 x) then back (length x.parts) k else skipped

unfoldable pub past : Look → Spelling → Look
past (Either a b) x = Either (past a x) (past b x)
past (Both a b) x = decided (Both a b) x (Both (past a x) (past b x))
past k x = decided k x Always

-- how many tokens a rule takes, if it is one leaf: as many as its first alternative
unfoldable pub first_width : Rule → ℕ
first_width Nothing = 0
first_width (One x) = length x.parts
first_width (When l a) = first_width a
first_width (Node k a) = first_width a
first_width (Wrap k a) = first_width a
first_width (Or a b) = first_width a
first_width r = 1

-- What is known after a rule.
unfoldable pub after_call : Claims → Look → Production → Look
after_call g k y = if implies k (from_start (g.one y)) then back 1 k else (if g.gives y then Given else g.ends y)

unfoldable pub after_calls : Claims → Look → Rule → Look
after_calls g k (Call y) = if g.gives y then Either k Given else Always
after_calls g k a = Always

unfoldable pub after_option : Claims → Look → Rule → Look
after_option g k (One x) = past k x
after_option g k a = after_calls g k a

unfoldable pub after_other : Claims → Look → Rule → Look
after_other g k (Opt a) = after_option g k a
after_other g k (Star a) = after_calls g k a
after_other g k (Call y) = after_call g k y
after_other g k a = Always

unfoldable pub look_after : Claims → Look → Rule → Look
look_after g k a = let other = after_other g k a in if counts (first_width a) a then back (first_width a) k else other

-- what is known where this is seen, too
unfoldable pub at : Look → Look → Look
at k l = Both (sift k l) l

-- these kinds are not that of the input's end
unfoldable pub no_end : List ℕ → Bool
no_end [] = true
no_end (k ∷ ks) = not (EOF == k) && no_end ks

unfoldable pub same_parts : List ℕ → List ℕ → Bool
same_parts [] [] = true
same_parts (k ∷ ks) (l ∷ ls) = nat_eq k l && same_parts ks ls
same_parts ks ls = false

-- equal contextual kinds, or none in both
unfoldable pub same_contextual : Option ℕ → Option ℕ → Bool
same_contextual None None = true
same_contextual (Some k) (Some l) = nat_eq k l
same_contextual m n = false

-- this contextual kind is not that of the input's end
unfoldable pub no_end_there : Option ℕ → Bool
no_end_there None = true
no_end_there (Some k) = not (EOF == k)

unfoldable pub is_among : List Spelling → Spelling → Bool
is_among [] x = false
is_among (y ∷ ys) x = (nat_eq y.kind x.kind && (same_contextual y.contextual x.contextual && same_parts y.parts x.parts)) || is_among ys x

-- a spelling of one token, of its own kind or as a contextual keyword
unfoldable pub is_word : Look → ℕ → List ℕ → Bool
is_word k kind (p ∷ []) = not (EOF == kind) && (implies k (Kind 0 kind) || (implies k (Contextual 0 kind) && not (kind == PIPE_GT)))
is_word k kind ps = false

unfoldable pub is_mark : Look → Spelling → Bool
is_mark k x = implies k (spelled_at 0 x) && (no_end_there x.contextual && (no_end x.parts && is_among marks x))

-- The test: where this is known, the rule is read as it is spelled.
unfoldable pub safe : Claims → Option Bool → Look → Rule → Bool
safe g m k Nothing = true
safe g m k (One x) = is_word k x.kind x.parts || is_mark k x
safe g m k Any = implies k Left
safe g m k (Then a b) = safe g m k a && safe g m (look_after g k a) b
safe g m k (Near w a b) = safe g m k a && safe g m (look_after g k a) b
safe g m k (Or a b) = let l = asked m (begins g.looks a) in safe g m (at k l) a && safe g m (cut k l) b
safe g m k (When l a) = safe g m k a
safe g m k (Unless l a) = safe g m k a
safe g m k (Opt a) = safe g m (at k (asked m (begins g.looks a))) a
safe g m k (Star a) = safe g m (asked m (begins g.looks a)) a
safe g m k (Node kind a) = safe g m (without true false k) a
safe g m k (Wrap kind a) = safe g m k a
safe g m k (Want a message) = safe g m (at k (asked m (begins g.looks a))) a
safe g m k (Say message) = true
safe g m k (Skip message) = implies k Left
safe g m k Split = implies k (Kind 0 FLOAT_NUMBER)
safe g m k (Call y) = let begun = implies k (from_start (asked m (g.looks y))) in if g.free y then true else begun
safe g m k (Continue y) = let begun = implies k (asked m (g.looks y)) in if g.free y then true else begun
safe g m k (Mode d a) = safe g (Some d) (without false true k) a
safe g m k (Lead a) = safe g m (without true false k) a

-- The trees of a reading stand over the tokens from these on, in order, and each leaf as it is spelled.
abbrev pub IsInOrder : List Token → Reading → Type 0
IsInOrder ts s = tokens_after s.given ts ≡ Some s.rest

-- These calls are as it is claimed.
pub record Sound (g : Claims) (call : Calls) : Type 0 where
  pub in_order : (y : Production) (d : Bool) (t : Reading) (ts : List Token) → (if g.free y then true else sees d t (g.looks y)) ≡ true → IsInOrder ts t → IsInOrder ts (call y d t)
  pub gives_some : (y : Production) (d : Bool) (t : Reading) → g.gives y ≡ true → is_end (call y d t).given ≡ false
  pub takes_one : (y : Production) (d : Bool) (t : Reading) → sees d t (g.one y) ≡ true → (call y d t).rest ≡ drop 1 t.rest
  pub ends_so : (y : Production) (d : Bool) (t : Reading) (v : Forest) → sees d (record { given = v; rest = (call y d t).rest }) (g.ends y) ≡ true

-- Trees one after another.
one-more : (o : Option (List Token)) (p q h : List Token → Option (List Token)) → ((us : List Token) → p us ≡ then_after (q us) h) → then_after o p ≡ then_after (then_after o q) h
unfolding then_after
one-more None p q h e = refl
one-more (Some us) p q h e = e us

pub after-then : (f h : Forest) (ts : List Token) → tokens_after (f then h) ts ≡ then_after (tokens_after f ts) (tokens_after h)
unfolding tokens_after then_after
after-then forest.End h ts = refl
after-then (forest.Leaf k n f) h ts = one-more (drop_if (is_spelled k n ts) n ts) (tokens_after (f then h)) (tokens_after f) (tokens_after h) (λ us. after-then f h us)
after-then (forest.Said m f) h ts = after-then f h ts
after-then (forest.ErrorLeaf m k f) h ts = one-more (drop_if (is_token k ts) 1 ts) (tokens_after (f then h)) (tokens_after f) (tokens_after h) (λ us. after-then f h us)
after-then (forest.Node k c f) h ts = one-more (tokens_after c ts) (tokens_after (f then h)) (tokens_after f) (tokens_after h) (λ us. after-then f h us)
after-then (forest.Float e c f) h ts =
    one-more (tokens_after c ts) (λ us. then_after (drop_if (is_float e us) 1 us) (tokens_after (f then h)))
    (λ us. then_after (drop_if (is_float e us) 1 us) (tokens_after f)) (tokens_after h)
    (λ us. one-more (drop_if (is_float e us) 1 us) (tokens_after (f then h)) (tokens_after f) (tokens_after h) (λ vs. after-then f h vs))

-- what is given more stands over the tokens that were left
pub more-in-order : (s : Reading) (h : Forest) (ts us : List Token) → IsInOrder ts s → tokens_after h s.rest ≡ Some us → tokens_after (s.given then h) ts ≡ Some us
unfolding then_after
more-in-order s h ts us i e = after-then s.given h ts ∙ ap (λ (o : Option (List Token)). then_after o (tokens_after h)) i ∙ e

pub or-first : (a b : Bool) → a ≡ true → (a || b) ≡ true
or-first true b e = refl
or-first false b e = absurd (true≢false (sym e))

pub both-true : (a b : Bool) → a ≡ true → b ≡ true → (a && b) ≡ true
both-true true b e f = f
both-true false b e f = e

pub or-second : (a b : Bool) → b ≡ true → (a || b) ≡ true
or-second true b e = refl
or-second false b e = e

-- Leaves.
pub unlike : (a : Bool) → not a ≡ true → a ≡ false
unlike true e = sym e
unlike false e = refl

pub token-seen : (kind : ℕ) (ts : List Token) → not (EOF == kind) ≡ true → ((ahead 0 ts).kind == kind) ≡ true → is_token kind ts ≡ true
unfolding ahead is_token
token-seen kind [] e h = absurd (true≢false (sym h ∙ unlike (EOF == kind) e))
token-seen kind (t ∷ ts) e h = h

pub contextual-seen : (kind : ℕ) (ts : List Token) → not (EOF == kind) ≡ true → ((ahead 0 ts).contextual == kind) ≡ true → is_contextual kind ts ≡ true
unfolding ahead is_contextual
contextual-seen kind [] e h = absurd (true≢false (sym h ∙ unlike (EOF == kind) e))
contextual-seen kind (t ∷ ts) e h = h

pub own-token : (ts : List Token) → nat_lt 0 (length ts) ≡ true → is_token (ahead 0 ts).kind ts ≡ true
unfolding ahead is_token
own-token [] e = absurd (omega (arith, ltb-true 0 0 e))
own-token (t ∷ ts) e = eq-eqb t.kind t.kind refl

pub float-seen : (ts : List Token) → ((ahead 0 ts).kind == FLOAT_NUMBER) ≡ true → is_float (not (ahead 0 ts).joint) ts ≡ true
unfolding ahead is_float
float-seen [] h = absurd (true≢false (sym h))
float-seen (t ∷ ts) h = rw h (of t.joint)
  where
    of : (b : Bool) → (if not b then not b else b) ≡ true
    of true = refl
    of false = refl

-- the tokens from the n-th on
next-drop : (n : ℕ) (ts us : List Token) (t : Token) → drop n ts ≡ t ∷ us → (ahead n ts ≡ t) × (drop (n + 1) ts ≡ us)
unfolding ahead
next-drop zero [] us t e = absurd (let z : [] ≡ t ∷ us = e in cc)
next-drop zero (u ∷ ts) us t e = (let z : u ∷ ts ≡ t ∷ us = e in cc, let z : u ∷ ts ≡ t ∷ us = e in cc)
next-drop (suc n) [] us t e = absurd (let z : [] ≡ t ∷ us = e in cc)
next-drop (suc n) (u ∷ ts) us t e = let i = next-drop n ts us t e in (i.0, subst (λ (m : ℕ). drop m (u ∷ ts) ≡ us) (let z : suc (n + 1) ≡ suc n + 1 = omega arith in z) i.1)

end-drop : (n : ℕ) (ts : List Token) → drop n ts ≡ [] → (ahead n ts).kind ≡ EOF
unfolding ahead
end-drop zero [] e = refl
end-drop zero (u ∷ ts) e = absurd (let z : u ∷ ts ≡ [] = e in cc)
end-drop (suc n) [] e = refl
end-drop (suc n) (u ∷ ts) e = end-drop n ts e

module _ (c : Bool) (s : Reading) where
  -- a spelling that is seen from the n-th token on
  pub spelling-seen : (ks : List ℕ) (n : ℕ) (us : List Token) → drop n s.rest ≡ us → no_end ks ≡ true → sees c s (there_at n ks) ≡ true → are_next ks us ≡ true
  unfolding are_next there_at sees no_end
  spelling-seen [] n us d e h = refl
  spelling-seen (k ∷ []) n [] d e h =
      absurd (true≢false (sym h ∙ ap (λ (i : ℕ). i == k) (end-drop n s.rest d) ∙ unlike (EOF == k) (and_l (not (EOF == k)) true e)))
  spelling-seen (k ∷ []) n (u ∷ us) d e h = ap (λ (t : Token). t.kind == k) (sym (next-drop n s.rest us u d).0) ∙ h
  spelling-seen (k ∷ l ∷ ks) n [] d e h =
      absurd (true≢false (sym (both-if-l ((ahead n s.rest).kind == k) _ h) ∙ ap (λ (i : ℕ). i == k) (end-drop n s.rest d) ∙ unlike (EOF == k) (and_l (not (EOF == k)) (no_end (l ∷ ks)) e)))
  spelling-seen (k ∷ l ∷ ks) n (u ∷ us) d e h =
      let at = next-drop n s.rest us u d in
      let more = both-if-r ((ahead n s.rest).kind == k) _ h in
      let kind : (u.kind == k) ≡ true = ap (λ (t : Token). t.kind == k) (sym at.0) ∙ both-if-l ((ahead n s.rest).kind == k) _ h in
      let joint : u.joint ≡ true = ap (λ (t : Token). t.joint) (sym at.0) ∙ both-if-l (ahead n s.rest).joint _ more in
      rw (kind, joint) (spelling-seen (l ∷ ks) (n + 1) us at.1 (and_r (not (EOF == k)) (no_end (l ∷ ks)) e) (both-if-r (ahead n s.rest).joint _ more))

pub same-parts : (ks ls : List ℕ) → same_parts ks ls ≡ true → ks ≡ ls
unfolding same_parts
same-parts [] [] e = refl
same-parts (k ∷ ks) (l ∷ ls) e = let f = eqb-true k l (and_l (nat_eq k l) (same_parts ks ls) e) in let g = same-parts ks ls (and_r (nat_eq k l) (same_parts ks ls) e) in cc
same-parts [] (l ∷ ls) e = absurd (true≢false (sym e))
same-parts (k ∷ ks) [] e = absurd (true≢false (sym e))

same-contextual : (m n : Option ℕ) → same_contextual m n ≡ true → m ≡ n
unfolding same_contextual
same-contextual None None e = refl
same-contextual (Some k) (Some l) e = ap Some (eqb-true k l e)
same-contextual None (Some l) e = absurd (true≢false (sym e))
same-contextual (Some k) None e = absurd (true≢false (sym e))

-- the contextual kind that a look asks of the next token is that of the token
pub contextual-there : (m : Option ℕ) (l : Look) (c : Bool) (s : Reading) → no_end_there m ≡ true → sees c s (with_contextual 0 m l) ≡ true → (has_contextual m s.rest ≡ true) × (sees c s l ≡ true)
unfolding no_end_there has_contextual sees
contextual-there None l c s e h = (refl, h)
contextual-there (Some k) l c s e h =
    (contextual-seen k s.rest e (both-if-l ((ahead 0 s.rest).contextual == k) (sees c s l) h), both-if-r ((ahead 0 s.rest).contextual == k) (sees c s l) h)

-- this spelling is next
abbrev pub is_next : Spelling → List Token → Bool
is_next x ts = has_contextual x.contextual ts && are_next x.parts ts

pub among-marks : (rs : List Spelling) (x : Spelling) (ts : List Token) → is_among rs x ≡ true → is_next x ts ≡ true → is_one_of rs x.kind (length x.parts) ts ≡ true
unfolding is_among is_one_of
among-marks [] x ts e h = absurd (true≢false (sym e))
among-marks (y ∷ rs) x ts e h = elim (or_cases (nat_eq y.kind x.kind && (same_contextual y.contextual x.contextual && same_parts y.parts x.parts)) (is_among rs x) e) [
  | inl i ↦
      let kind = and_l (nat_eq y.kind x.kind) (same_contextual y.contextual x.contextual && same_parts y.parts x.parts) i in
      let more = and_r (nat_eq y.kind x.kind) (same_contextual y.contextual x.contextual && same_parts y.parts x.parts) i in
      let contextual = same-contextual y.contextual x.contextual (and_l (same_contextual y.contextual x.contextual) (same_parts y.parts x.parts) more) in
      let parts = same-parts y.parts x.parts (and_r (same_contextual y.contextual x.contextual) (same_parts y.parts x.parts) more) in
      let count : (length y.parts == length x.parts) ≡ true = eq-eqb _ _ (ap length parts) in
      let next : is_next y ts ≡ true =
      subst (λ (m : Option ℕ). (has_contextual m ts && are_next y.parts ts) ≡ true) (sym contextual)
      (subst (λ (ks : List ℕ). (has_contextual x.contextual ts && are_next ks ts) ≡ true) (sym parts) h) in
      or-first (nat_eq y.kind x.kind && nat_eq (length y.parts) (length x.parts) && is_next y ts) (is_one_of rs x.kind (length x.parts) ts) (both-true (nat_eq y.kind x.kind && nat_eq (length y.parts) (length x.parts)) (is_next y ts) (both-true (nat_eq y.kind x.kind) (nat_eq (length y.parts) (length x.parts)) kind count) next)
  | inr i ↦ or-second (nat_eq y.kind x.kind && (length y.parts == length x.parts) && is_next y ts) (is_one_of rs x.kind (length x.parts) ts) (among-marks rs x ts i h)
]
