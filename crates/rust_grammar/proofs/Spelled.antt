-- The test is sound: what passes it is read as it is spelled.
use Rattle.std.proofs.Common.{◌≡◌, ℕ, zero, suc, Bool, true, false, not, ◌&&◌, ◌||◌, ◌==◌, List, [], ◌∷◌, length, drop, nat_lt, Option, Some, None, refl, sym, ap, subst, ◌∙◌, ◌⊎◌, inl, inr, if◌then◌else◌, true≢false}
use Rattle.std.proofs.lemmas.Bool.{cases_Bool, eqb-true, or_cases}
use Rattle.parser_input.specs.Kinds.{EOF, FLOAT_NUMBER, PIPE_GT}
use Rattle.parser_input.specs.Input.{Token}
use Rattle.parser_events.specs.Forest as forest
use Rattle.parser_events.specs.Forest.{Forest, ◌then◌}
use Rattle.rust_grammar.specs.Rule.{Production, Rule, Spelling, Look, Always, Never, Kind, Contextual, Joint, Left, InCondition, Given, Both, Either, Not, Nothing, One, Any, Then, Near, Or, Opt, Star, Node, Wrap, Want, Say, Skip, Split, When, Unless, Call, Continue, Mode, begins, there_at, with_contextual, spelled_at, from_start, Whole, Lead}
use Rattle.rust_grammar.specs.Meaning.{Reading, Calls, read, sees, ahead, fresh, is_end, leaf, say, skip, split, node, wrapped, after, turns, into, led}
use Rattle.rust_grammar.specs.Spelled.{marks, are_next, is_token, is_contextual, is_contextual_word, has_contextual, is_one_of, is_spelled, drop_if, then_after, tokens_after, is_float}
use Rattle.rust_grammar.proofs.Plain.{and_l, and_r}
use Rattle.rust_grammar.proofs.Leads.{into-cases}
use Rattle.rust_grammar.proofs.Known.{either-if, both-if-l, both-if-r, if-first, if-second, if-both, implies, implied, cut, cut-seen, sift, sift-seen}
use Rattle.rust_grammar.proofs.Elsewhere.{from_start-seen, without, without-seen, back-seen, asked, asked-seen, IsMode}
use Rattle.rust_grammar.proofs.Spelling.{first_width, Claims, Sound, IsInOrder, counts, denies, denies_first, decided, past, after_call, after_calls, after_option, after_other, look_after, at, no_end, no_end_there, is_among, is_word, is_mark, safe, more-in-order, or-first, or-second, token-seen, contextual-seen, contextual-there, both-true, own-token, float-seen, spelling-seen, among-marks, unlike, after-then}

-- one of two readings
pub chosen : (P : Reading → Type 0) (b : Bool) (u v : Reading) → (b ≡ true → P u) → (b ≡ false → P v) → P (if b then u else v)
chosen P true u v p q = p refl
chosen P false u v p q = q refl

-- A spelling that is surely there is there.
word-seen : (k : Look) (kind : ℕ) (ps : List ℕ) (c : Bool) (s : Reading) → is_word k kind ps ≡ true → sees c s k ≡ true → (length ps == 1 && (is_token kind s.rest || is_contextual_word kind s.rest)) ≡ true
unfolding is_word is_contextual_word sees
word-seen k kind [] c s e h = absurd (true≢false (sym e))
word-seen k kind (p ∷ []) c s e h =
    let word = implies k (Contextual 0 kind) && not (kind == PIPE_GT) in
    let some = and_l (not (EOF == kind)) (implies k (Kind 0 kind) || word) e in
    elim (or_cases (implies k (Kind 0 kind)) word (and_r (not (EOF == kind)) (implies k (Kind 0 kind) || word) e)) [
      | inl i ↦ or-first (is_token kind s.rest) (is_contextual_word kind s.rest) (token-seen kind s.rest some (implied c s k (Kind 0 kind) i h))
      | inr i ↦ or-second (is_token kind s.rest) (is_contextual_word kind s.rest) (both-true (is_contextual kind s.rest) (not (kind == PIPE_GT))
          (contextual-seen kind s.rest some (implied c s k (Contextual 0 kind) (and_l (implies k (Contextual 0 kind)) (not (kind == PIPE_GT)) i) h)) (and_r (implies k (Contextual 0 kind)) (not (kind == PIPE_GT)) i))
    ]
word-seen k kind (p ∷ q ∷ ps) c s e h = absurd (true≢false (sym e))

mark-seen : (k : Look) (x : Spelling) (c : Bool) (s : Reading) → is_mark k x ≡ true → sees c s k ≡ true → is_one_of marks x.kind (length x.parts) s.rest ≡ true
unfolding is_mark
mark-seen k x c s e h =
    let first = no_end_there x.contextual in
    let more = and_r (implies k (spelled_at 0 x)) (first && (no_end x.parts && is_among marks x)) e in
    let rest = and_r first (no_end x.parts && is_among marks x) more in
    let there = implied c s k (spelled_at 0 x) (and_l (implies k (spelled_at 0 x)) (first && (no_end x.parts && is_among marks x)) e) h in
    let parts = contextual-there x.contextual (there_at 0 x.parts) c s (and_l first (no_end x.parts && is_among marks x) more) there in
    among-marks marks x s.rest (and_r (no_end x.parts) (is_among marks x) rest)
    (both-true (has_contextual x.contextual s.rest) (are_next x.parts s.rest) parts.0 (spelling-seen c s x.parts 0 s.rest refl (and_l (no_end x.parts) (is_among marks x) rest) parts.1))

pub spelled-there : (k : Look) (x : Spelling) (c : Bool) (s : Reading) → (is_word k x.kind x.parts || is_mark k x) ≡ true → sees c s k ≡ true → is_spelled x.kind (length x.parts) s.rest ≡ true
unfolding is_spelled
spelled-there k x c s e h = elim (or_cases (is_word k x.kind x.parts) (is_mark k x) e) [
  | inl i ↦ or-first (length x.parts == 1 && (is_token x.kind s.rest || is_contextual_word x.kind s.rest)) (is_one_of marks x.kind (length x.parts) s.rest) (word-seen k x.kind x.parts c s i h)
  | inr i ↦ or-second (length x.parts == 1 && (is_token x.kind s.rest || is_contextual_word x.kind s.rest)) (is_one_of marks x.kind (length x.parts) s.rest) (mark-seen k x c s i h)
]

pub any-there : (ts : List Token) → nat_lt 0 (length ts) ≡ true → is_spelled (ahead 0 ts).kind 1 ts ≡ true
unfolding is_spelled
any-there ts e =
    or-first (is_token (ahead 0 ts).kind ts || is_contextual_word (ahead 0 ts).kind ts) (is_one_of marks (ahead 0 ts).kind 1 ts)
    (or-first (is_token (ahead 0 ts).kind ts) (is_contextual_word (ahead 0 ts).kind ts) (own-token ts e))

-- the next token is of another kind
denied : (k : Look) (j : ℕ) (c : Bool) (s : Reading) → denies k j ≡ true → sees c s k ≡ true → ((ahead 0 s.rest).kind == j) ≡ false
unfolding denies sees
denied (Kind zero i) j c s e h = ap (λ (n : ℕ). n == j) (eqb-true (ahead 0 s.rest).kind i h) ∙ unlike (i == j) e
denied (Kind (suc n) i) j c s e h = absurd (true≢false (sym e))
denied (Both a b) j c s e h = elim (either-if (denies a j) (denies b j) e) [
  | inl i ↦ denied a j c s i (both-if-l (sees c s a) (sees c s b) h)
  | inr i ↦ denied b j c s i (both-if-r (sees c s a) (sees c s b) h)
]
denied (Either a b) j c s e h = elim (either-if (sees c s a) (sees c s b) h) [
  | inl i ↦ denied a j c s (both-if-l (denies a j) (denies b j) e) i
  | inr i ↦ denied b j c s (both-if-r (denies a j) (denies b j) e) i
]
denied Always j c s e h = absurd (true≢false (sym e))
denied Never j c s e h = absurd (true≢false (sym e))
denied (Contextual n i) j c s e h = absurd (true≢false (sym e))
denied (Joint n) j c s e h = absurd (true≢false (sym e))
denied (Whole n) j c s e h = absurd (true≢false (sym e))
denied Left j c s e h = absurd (true≢false (sym e))
denied InCondition j c s e h = absurd (true≢false (sym e))
denied Given j c s e h = absurd (true≢false (sym e))
denied (Not a) j c s e h = absurd (true≢false (sym e))

first-denied : (k : Look) (ps : List ℕ) (c : Bool) (s : Reading) → denies_first k ps ≡ true → sees c s k ≡ true → sees c s (there_at 0 ps) ≡ false
unfolding denies_first there_at sees
first-denied k [] c s e h = absurd (true≢false (sym e))
first-denied k (p ∷ []) c s e h = denied k p c s e h
first-denied k (p ∷ q ∷ ps) c s e h = rw (denied k p c s e h) refl

refused : (m : Option ℕ) (n : ℕ) (l : Look) (c : Bool) (s : Reading) → sees c s l ≡ false → sees c s (with_contextual n m l) ≡ false
unfolding sees
refused None n l c s e = e
refused (Some k) n l c s e = of ((ahead n s.rest).contextual == k)
  where
    of : (b : Bool) → (if b then sees c s l else false) ≡ false
    of true = e
    of false = refl

first-refused : (k : Look) (x : Spelling) (c : Bool) (s : Reading) → denies_first k x.parts ≡ true → sees c s k ≡ true → sees c s (spelled_at 0 x) ≡ false
first-refused k x c s e h = refused x.contextual 0 (there_at 0 x.parts) c s (first-denied k x.parts c s e h)

-- where a spelling was read if it was next
module _ (c : Bool) (s t : Reading) (x : Spelling) (taken : sees c s (spelled_at 0 x) ≡ true → t.rest ≡ drop (length x.parts) s.rest) (same : sees c s (spelled_at 0 x) ≡ false → t ≡ s) where
  decided-seen : (k other : Look) → sees c s k ≡ true → sees c t other ≡ true → sees c t (decided k x other) ≡ true
  unfolding decided
  decided-seen k other h i = elim (cases_Bool (implies k (spelled_at 0 x))) [
    | inl e ↦ rw e (back-seen c s t (length x.parts) (taken (implied c s k (spelled_at 0 x) e h)) k h)
    | inr e ↦ rw e (elim (cases_Bool (denies_first k x.parts)) [
      | inl d ↦ rw d (subst (λ (u : Reading). sees c u k ≡ true) (sym (same (first-refused k x c s d h))) h)
      | inr d ↦ rw d i
    ])
  ]

  past-seen : (k : Look) → sees c s k ≡ true → sees c t (past k x) ≡ true
  unfolding past sees
  past-seen (Either a b) h = elim (either-if (sees c s a) (sees c s b) h) [
    | inl i ↦ if-first (sees c t (past a x)) (sees c t (past b x)) (past-seen a i)
    | inr i ↦ if-second (sees c t (past a x)) (sees c t (past b x)) (past-seen b i)
  ]
  past-seen (Both a b) h =
      decided-seen (Both a b) (Both (past a x) (past b x)) h
      (if-both (sees c t (past a x)) (sees c t (past b x)) (past-seen a (both-if-l (sees c s a) (sees c s b) h)) (past-seen b (both-if-r (sees c s a) (sees c s b) h)))
  past-seen Always h = decided-seen Always Always h refl
  past-seen Never h = decided-seen Never Always h refl
  past-seen (Kind n k) h = decided-seen (Kind n k) Always h refl
  past-seen (Contextual n k) h = decided-seen (Contextual n k) Always h refl
  past-seen (Joint n) h = decided-seen (Joint n) Always h refl
  past-seen (Whole n) h = decided-seen (Whole n) Always h refl
  past-seen Left h = decided-seen Left Always h refl
  past-seen InCondition h = decided-seen InCondition Always h refl
  past-seen Given h = decided-seen Given Always h refl
  past-seen (Not a) h = decided-seen (Not a) Always h refl

-- something is given where more is given after it
pub then-some : (f h : Forest) → is_end h ≡ false → is_end (f then h) ≡ false
unfolding is_end
then-some forest.End h e = e
then-some (forest.Leaf k n f) h e = refl
then-some (forest.Said m f) h e = refl
then-some (forest.ErrorLeaf m k f) h e = refl
then-some (forest.Node k d f) h e = refl
then-some (forest.Float b d f) h e = refl

-- turns that each give something
turns-some : (n : ℕ) (test : Reading → Bool) (turn : Reading → Reading) (s : Reading) → ((v : Reading) → is_end (turn v).given ≡ false) → (turns n test turn s ≡ s) ⊎ (is_end (turns n test turn s).given ≡ false)
unfolding turns
turns-some zero test turn s some = inl refl
turns-some (suc n) test turn s some = elim (cases_Bool (test s)) [
  | inr e ↦ inl (rw e refl)
  | inl e ↦ inr (rw e (chosen (λ (u : Reading). is_end u.given ≡ false) (nat_lt (length (turn s).rest) (length s.rest)) _ _
      (λ i. elim (turns-some n test turn (turn s) some) [
        | inl j ↦ subst (λ (u : Reading). is_end u.given ≡ false) (sym j) (some s)
        | inr j ↦ j
      ])
      (λ i. some s)))
]

turns-in-order :
    (n : ℕ) (test : Reading → Bool) (turn : Reading → Reading) (ts : List Token) (s : Reading) → ((v : Reading) → test v ≡ true → IsInOrder ts v → IsInOrder ts (turn v)) → IsInOrder ts s → IsInOrder ts (turns n test turn s)
unfolding turns
turns-in-order zero test turn ts s each i = i
turns-in-order (suc n) test turn ts s each i =
    chosen (IsInOrder ts) (test s) _ _
    (λ e. chosen (IsInOrder ts) (nat_lt (length (turn s).rest) (length s.rest)) _ _ (λ f. turns-in-order n test turn ts (turn s) each (each s e i)) (λ f. each s e i))
    (λ e. i)

-- trees that stand first in the one that follows them
into-in-order : (s : Reading) (f : Forest) (ts us : List Token) → IsInOrder ts s → tokens_after f s.rest ≡ Some us → tokens_after (into s.given f) ts ≡ Some us
unfolding tokens_after then_after
into-in-order s f ts us i e =
    into-cases (λ (h : Forest). tokens_after h ts ≡ Some us) s.given f
    (λ k c is. ap (λ (o : Option (List Token)). then_after o (tokens_after forest.End)) (inside c) ∙ ap (λ (h : Forest). tokens_after h s.rest) (sym is) ∙ e)
    (λ b c is. ap (λ (o : Option (List Token)). then_after o (λ vs. then_after (drop_if (is_float b vs) 1 vs) (tokens_after forest.End))) (inside c) ∙ ap (λ (h : Forest). tokens_after h s.rest) (sym is) ∙ e)
    (ap (λ (o : Option (List Token)). then_after o (tokens_after forest.End)) (more-in-order s f ts us i e))
  where
    inside : (c : Forest) → tokens_after (s.given then c) ts ≡ tokens_after c s.rest
    inside c = after-then s.given c ts ∙ ap (λ (o : Option (List Token)). then_after o (tokens_after c)) i

-- where this is seen, too
pub at-seen : (k l : Look) (m : Option Bool) (c : Bool) (s : Reading) → IsMode m c → sees c s k ≡ true → sees c s l ≡ true → sees c s (at k (asked m l)) ≡ true
unfolding at sees
at-seen k l m c s mode h i =
    let there = asked-seen c s m l mode ∙ i in
    if-both (sees c s (sift k (asked m l))) (sees c s (asked m l)) (sift-seen c s k (asked m l) there h) there

-- a rule that counts `n` tokens consumes `n` tokens
module _ (looks : Production → Look) (call : Calls) where
  pub counted : (a : Rule) (n : ℕ) (c : Bool) (s : Reading) → counts n a ≡ true → (read looks call c a s).rest ≡ drop n s.rest
  unfolding counts read leaf node wrapped fresh
  counted (One x) n c s e = ap (λ (m : ℕ). drop m s.rest) (eqb-true (length x.parts) n e)
  counted Any n c s e = ap (λ (m : ℕ). drop m s.rest) (eqb-true 1 n e)
  counted (Or a b) n c s e =
      chosen (λ (u : Reading). u.rest ≡ drop n s.rest) (sees c s (begins looks a)) _ _
      (λ i. counted a n c s (and_l (counts n a) (counts n b) e))
      (λ i. counted b n c s (and_r (counts n a) (counts n b) e))
  counted (When l a) n c s e = counted a n c s e
  counted (Unless l a) n c s e = counted a n c s e
  counted (Node k a) n c s e = counted a n c (fresh s) e
  counted (Wrap k a) n c s e = counted a n c s e
  counted (Mode d a) n c s e = counted a n d s e
  counted Nothing n c s e = ap (λ (m : ℕ). drop m s.rest) (eqb-true 0 n e)
  counted (Then a b) n c s e = absurd (true≢false (sym e))
  counted (Near w a b) n c s e = absurd (true≢false (sym e))
  counted (Opt a) n c s e = absurd (true≢false (sym e))
  counted (Star a) n c s e = absurd (true≢false (sym e))
  counted (Want a m) n c s e = absurd (true≢false (sym e))
  counted (Say m) n c s e = absurd (true≢false (sym e))
  counted (Skip m) n c s e = absurd (true≢false (sym e))
  counted Split n c s e = absurd (true≢false (sym e))
  counted (Call y) n c s e = absurd (true≢false (sym e))
  counted (Continue y) n c s e = absurd (true≢false (sym e))
  counted (Lead a) n c s e = absurd (true≢false (sym e))

module _ (g : Claims) (call : Calls) (ok : Sound g call) where
  gave-given : (y : Production) (c : Bool) (s : Reading) → g.gives y ≡ true → sees c (after s (call y c (fresh s))) Given ≡ true
  unfolding sees after
  gave-given y c s e = ap not (then-some s.given (call y c (fresh s)).given (ok.gives_some y c (fresh s) e))

  -- after a call
  call-seen : (k : Look) (y : Production) (c : Bool) (s : Reading) → sees c s k ≡ true → sees c (after s (call y c (fresh s))) (after_call g k y) ≡ true
  unfolding after_call after fresh
  call-seen k y c s h = elim (cases_Bool (implies k (from_start (g.one y)))) [
    | inl e ↦ rw e (back-seen c s (after s (call y c (fresh s))) 1 (ok.takes_one y c (fresh s) (sym (from_start-seen c s (g.one y)) ∙ implied c s k (from_start (g.one y)) e h)) k h)
    | inr e ↦ rw e (elim (cases_Bool (g.gives y)) [
      | inl i ↦ rw i (gave-given y c s i)
      | inr i ↦ rw i (ok.ends_so y c (fresh s) (s.given then (call y c (fresh s)).given))
    ])
  ]

  given-too : (k : Look) (c : Bool) (t : Reading) → is_end t.given ≡ false → sees c t (Either k Given) ≡ true
  unfolding sees
  given-too k c t e = if-second (sees c t k) (not (is_end t.given)) (ap not e)

  claimed : (b : Bool) (l : Look) (c : Bool) (t : Reading) → (b ≡ true → sees c t l ≡ true) → sees c t (if b then l else Always) ≡ true
  unfolding sees
  claimed true l c t e = e refl
  claimed false l c t e = refl

  gave : (y : Production) (c : Bool) (s : Reading) → g.gives y ≡ true → is_end (after s (call y c (fresh s))).given ≡ false
  unfolding after
  gave y c s e = then-some s.given (call y c (fresh s)).given (ok.gives_some y c (fresh s) e)

  known-first : (k : Look) (c : Bool) (t : Reading) → sees c t k ≡ true → sees c t (Either k Given) ≡ true
  unfolding sees
  known-first k c t h = if-first (sees c t k) (not (is_end t.given)) h

  option-seen : (a : Rule) (k : Look) (c : Bool) (s : Reading) → sees c s k ≡ true → sees c (read g.looks call c (Opt a) s) (after_option g k a) ≡ true
  unfolding after_option after_calls read begins sees leaf
  option-seen (One x) k c s h =
      past-seen c s (if sees c s (spelled_at 0 x) then leaf x.kind (length x.parts) s else s) x
      (λ e. rw e refl) (λ e. rw e refl) k h
  option-seen (Call y) k c s h = claimed (g.gives y) (Either k Given) c _ (λ e.
      chosen (λ (u : Reading). sees c u (Either k Given) ≡ true) (sees c s (from_start (g.looks y))) _ _
      (λ i. given-too k c (after s (call y c (fresh s))) (gave y c s e))
      (λ i. known-first k c s h))
  option-seen Nothing k c s h = refl
  option-seen Any k c s h = refl
  option-seen (Then a b) k c s h = refl
  option-seen (Near w a b) k c s h = refl
  option-seen (Or a b) k c s h = refl
  option-seen (When l a) k c s h = refl
  option-seen (Unless l a) k c s h = refl
  option-seen (Opt a) k c s h = refl
  option-seen (Star a) k c s h = refl
  option-seen (Node j a) k c s h = refl
  option-seen (Wrap j a) k c s h = refl
  option-seen (Want a m) k c s h = refl
  option-seen (Say m) k c s h = refl
  option-seen (Skip m) k c s h = refl
  option-seen Split k c s h = refl
  option-seen (Continue y) k c s h = refl
  option-seen (Mode d a) k c s h = refl
  option-seen (Lead a) k c s h = refl

  star-seen : (a : Rule) (k : Look) (c : Bool) (s : Reading) → sees c s k ≡ true → sees c (read g.looks call c (Star a) s) (after_calls g k a) ≡ true
  unfolding after_calls read begins sees
  star-seen (Call y) k c s h = claimed (g.gives y) (Either k Given) c _ (λ e.
      elim (turns-some (length s.rest) (λ t. sees c t (from_start (g.looks y))) (λ v. after v (call y c (fresh v))) s (λ v. gave y c v e)) [
        | inl i ↦ subst (λ (u : Reading). sees c u (Either k Given) ≡ true) (sym i) (known-first k c s h)
        | inr i ↦ given-too k c (turns (length s.rest) (λ t. sees c t (from_start (g.looks y))) (λ v. after v (call y c (fresh v))) s) i
      ])
  star-seen (One x) k c s h = refl
  star-seen Nothing k c s h = refl
  star-seen Any k c s h = refl
  star-seen (Then a b) k c s h = refl
  star-seen (Near w a b) k c s h = refl
  star-seen (Or a b) k c s h = refl
  star-seen (When l a) k c s h = refl
  star-seen (Unless l a) k c s h = refl
  star-seen (Opt a) k c s h = refl
  star-seen (Star a) k c s h = refl
  star-seen (Node j a) k c s h = refl
  star-seen (Wrap j a) k c s h = refl
  star-seen (Want a m) k c s h = refl
  star-seen (Say m) k c s h = refl
  star-seen (Skip m) k c s h = refl
  star-seen Split k c s h = refl
  star-seen (Continue y) k c s h = refl
  star-seen (Mode d a) k c s h = refl
  star-seen (Lead a) k c s h = refl

  other-seen : (a : Rule) (k : Look) (c : Bool) (s : Reading) → sees c s k ≡ true → sees c (read g.looks call c a s) (after_other g k a) ≡ true
  unfolding after_other read sees
  other-seen (Opt a) k c s h = option-seen a k c s h
  other-seen (Star a) k c s h = star-seen a k c s h
  other-seen (Call y) k c s h = call-seen k y c s h
  other-seen (One x) k c s h = refl
  other-seen Nothing k c s h = refl
  other-seen Any k c s h = refl
  other-seen (Then a b) k c s h = refl
  other-seen (Near w a b) k c s h = refl
  other-seen (Or a b) k c s h = refl
  other-seen (When l a) k c s h = refl
  other-seen (Unless l a) k c s h = refl
  other-seen (Node j a) k c s h = refl
  other-seen (Wrap j a) k c s h = refl
  other-seen (Want a m) k c s h = refl
  other-seen (Say m) k c s h = refl
  other-seen (Skip m) k c s h = refl
  other-seen Split k c s h = refl
  other-seen (Continue y) k c s h = refl
  other-seen (Mode d a) k c s h = refl
  other-seen (Lead a) k c s h = refl

  pub after-seen : (a : Rule) (k : Look) (c : Bool) (s : Reading) → sees c s k ≡ true → sees c (read g.looks call c a s) (look_after g k a) ≡ true
  unfolding look_after
  after-seen a k c s h = elim (cases_Bool (counts (first_width a) a)) [
    | inl e ↦ rw e (back-seen c s (read g.looks call c a s) (first_width a) (counted g.looks call a (first_width a) c s e) k h)
    | inr e ↦ rw e (other-seen a k c s h)
  ]

  pub begun : (y : Production) (k l : Look) (c : Bool) (s t : Reading) → (if g.free y then true else implies k l) ≡ true → sees c s k ≡ true → (sees c s l ≡ true → sees c t (g.looks y) ≡ true) → (if g.free y then true else sees c t (g.looks y)) ≡ true
  begun y k l c s t e h there = elim (either-if (g.free y) (implies k l) e) [
    | inl i ↦ if-first (g.free y) (sees c t (g.looks y)) i
    | inr i ↦ if-second (g.free y) (sees c t (g.looks y)) (there (implied c s k l i h))
  ]

  pub in-order : (r : Rule) (m : Option Bool) (k : Look) (c : Bool) (s : Reading) (ts : List Token) → safe g m k r ≡ true → IsMode m c → sees c s k ≡ true → IsInOrder ts s → IsInOrder ts (read g.looks call c r s)
  unfolding safe read tokens_after then_after drop_if leaf node wrapped led fresh after say skip split sees
  in-order Nothing m k c s ts e mode h i = i
  in-order (One x) m k c s ts e mode h i = more-in-order s (forest.Leaf x.kind (length x.parts) forest.End) ts (drop (length x.parts) s.rest) i (rw (spelled-there k x c s e h) refl)
  in-order Any m k c s ts e mode h i = more-in-order s (forest.Leaf (ahead 0 s.rest).kind 1 forest.End) ts (drop 1 s.rest) i (rw (any-there s.rest (implied c s k Left e h)) refl)
  in-order (Then a b) m k c s ts e mode h i =
      in-order b m (look_after g k a) c (read g.looks call c a s) ts (and_r (safe g m k a) (safe g m (look_after g k a) b) e) mode (after-seen a k c s h)
      (in-order a m k c s ts (and_l (safe g m k a) (safe g m (look_after g k a) b) e) mode h i)
  in-order (Near w a b) m k c s ts e mode h i =
      in-order b m (look_after g k a) c (read g.looks call c a s) ts (and_r (safe g m k a) (safe g m (look_after g k a) b) e) mode (after-seen a k c s h)
      (in-order a m k c s ts (and_l (safe g m k a) (safe g m (look_after g k a) b) e) mode h i)
  in-order (Or a b) m k c s ts e mode h i =
      let l = begins g.looks a in
      chosen (IsInOrder ts) (sees c s l) _ _
      (λ f. in-order a m (at k (asked m l)) c s ts (and_l (safe g m (at k (asked m l)) a) (safe g m (cut k (asked m l)) b) e) mode (at-seen k l m c s mode h f) i)
      (λ f. in-order b m (cut k (asked m l)) c s ts (and_r (safe g m (at k (asked m l)) a) (safe g m (cut k (asked m l)) b) e) mode (cut-seen c s k (asked m l) (asked-seen c s m l mode ∙ f) h) i)
  in-order (When l a) m k c s ts e mode h i = in-order a m k c s ts e mode h i
  in-order (Unless l a) m k c s ts e mode h i = in-order a m k c s ts e mode h i
  in-order (Opt a) m k c s ts e mode h i =
      chosen (IsInOrder ts) (sees c s (begins g.looks a)) _ _
      (λ f. in-order a m (at k (asked m (begins g.looks a))) c s ts e mode (at-seen k (begins g.looks a) m c s mode h f) i)
      (λ f. i)
  in-order (Star a) m k c s ts e mode h i =
      turns-in-order (length s.rest) (λ t. sees c t (begins g.looks a)) (read g.looks call c a) ts s
      (λ v f j. in-order a m (asked m (begins g.looks a)) c v ts e mode (asked-seen c v m (begins g.looks a) mode ∙ f) j) i
  in-order (Node kind a) m k c s ts e mode h i =
      let inner = in-order a m (without true false k) c (fresh s) s.rest e mode (without-seen c c s (fresh s) refl true false (λ f. absurd (true≢false f)) (λ f. refl) k h) refl in
      more-in-order s (forest.Node kind (read g.looks call c a (fresh s)).given forest.End) ts (read g.looks call c a (fresh s)).rest i (rw inner refl)
  in-order (Wrap kind a) m k c s ts e mode h i = rw (in-order a m k c s ts e mode h i) refl
  in-order (Want a message) m k c s ts e mode h i =
      chosen (IsInOrder ts) (sees c s (begins g.looks a)) _ _
      (λ f. in-order a m (at k (asked m (begins g.looks a))) c s ts e mode (at-seen k (begins g.looks a) m c s mode h f) i)
      (λ f. more-in-order s (forest.Said message forest.End) ts s.rest i refl)
  in-order (Say message) m k c s ts e mode h i = more-in-order s (forest.Said message forest.End) ts s.rest i refl
  in-order (Skip message) m k c s ts e mode h i =
      more-in-order s (forest.ErrorLeaf message (ahead 0 s.rest).kind forest.End) ts (drop 1 s.rest) i (rw (own-token s.rest (implied c s k Left e h)) refl)
  in-order Split m k c s ts e mode h i = rw (i, float-seen s.rest (implied c s k (Kind 0 FLOAT_NUMBER) e h)) refl
  in-order (Call y) m k c s ts e mode h i =
      let l = asked m (g.looks y) in
      let free = begun y k (from_start l) c s (fresh s) e h (λ f. sym (asked-seen c (fresh s) m (g.looks y) mode) ∙ sym (from_start-seen c s l) ∙ f) in
      more-in-order s (call y c (fresh s)).given ts (call y c (fresh s)).rest i (ok.in_order y c (fresh s) s.rest free refl)
  in-order (Continue y) m k c s ts e mode h i =
      let free = begun y k (asked m (g.looks y)) c s s e h (λ f. sym (asked-seen c s m (g.looks y) mode) ∙ f) in
      ok.in_order y c s ts free i
  in-order (Mode d a) m k c s ts e mode h i = in-order a (Some d) (without false true k) d s ts e refl (without-seen c d s s refl false true (λ f. refl) (λ f. absurd (true≢false f)) k h) i
  in-order (Lead a) m k c s ts e mode h i =
      let t = read g.looks call c a (fresh s) in
      let inner = in-order a m (without true false k) c (fresh s) s.rest e mode (without-seen c c s (fresh s) refl true false (λ f. absurd (true≢false f)) (λ f. refl) k h) refl in
      into-in-order s t.given ts t.rest i inner
