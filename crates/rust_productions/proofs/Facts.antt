-- What is known of a place, and what that tells of looks and of where rules begin.
use Rattle.std.proofs.Common.{◌≡◌, ℕ, Bool, true, false, not, ◌&&◌, ◌==◌, List, [], ◌∷◌, Option, Some, None, IfSome, refl, sym, ap, subst, ◌∙◌, if◌then◌else◌, nat_eq}
use Rattle.std.proofs.lemmas.Bool.{eqb-true}
use Rattle.parser_events.specs.View.{View}
use Rattle.rust_productions.specs.Stands.{left}
use Rattle.rust_grammar.specs.Rule.{Production, Look, Always, Never, Kind, Contextual, Joint, Whole, Left, InCondition, Given, Both, Either, Not, Rule, Nothing, One, Any, Then, Near, Or, Opt, Star, Node, Wrap, Want, Say, Skip, Split, When, Unless, Call, Continue, Mode, Lead, begins, spelled_at, shift, passes, is_silent, from_start}
use Rattle.rust_grammar.specs.Meaning.{Reading, ahead, sees, fresh}
use Rattle.rust_productions.specs.Reads.{looks, Saw, Condition, is_on}
use Rattle.rust_grammar.proofs.Elsewhere.{from_start-seen}
use Rattle.rust_grammar.proofs.Productions.{same_production, same_production-true}

-- The answer of a lookahead; whether a production begins here, with nothing given before it.
pub data Fact : Type 0 where
  Answers : Look → Bool → Fact
  Begins : Production → Bool → Fact

abbrev pub Holds : Bool → Reading → Fact → Type 0
Holds c s (Answers l b) = sees c s l ≡ b
Holds c s (Begins x b) = sees c s (from_start (looks x)) ≡ b

abbrev pub HoldAll : Bool → Reading → List Fact → Type 0
HoldAll c s [] = Unit {0}
HoldAll c s (f ∷ fs) = Holds c s f × HoldAll c s fs

-- what is known of a place
pub record Known (c : Condition) (fs : List Fact) (v : View) : Type 0 where
  pub at : (s : Reading) → left v ≡ s.rest → HoldAll (is_on c) s fs

pub nothing : {c : Condition} {v : View} → Known c [] v
nothing = record { at = λ s e. tt }

infixr 20 ◌and◌
pub ◌and◌ : {c : Condition} {l : Look} {b : Bool} {fs : List Fact} {v : View} → Saw c l v b → Known c fs v → Known c (Answers l b ∷ fs) v
saw and k = record { at = λ s e. (saw.at s e, k.at s e) }

pub begun : (x : Production) {c : Condition} {b : Bool} {fs : List Fact} {v : View} → Saw c (looks x) v b → Known c fs v → Known c (Begins x b ∷ fs) v
unfolding fresh
begun x saw k = record { at = λ s e. (from_start-seen _ s (looks x) ∙ saw.at (fresh s) e, k.at s e) }

pub saw-so : {c : Condition} {l : Look} {v : View} {a b : Bool} → Saw c l v a → a ≡ b → Saw c l v b
saw-so {c} {l} {v} s e = subst (λ (b : Bool). Saw c l v b) e s

-- three values
abbrev neither : Option Bool → Option Bool
neither None = None
neither (Some b) = Some (not b)

abbrev both : Option Bool → Option Bool → Option Bool
both (Some false) b = Some false
both (Some true) b = b
both None (Some false) = Some false
both None (Some true) = None
both None None = None

abbrev either : Option Bool → Option Bool → Option Bool
either (Some true) b = Some true
either (Some false) b = b
either None (Some true) = Some true
either None (Some false) = None
either None None = None

-- what is known of an atom
abbrev of_kind : List Fact → ℕ → ℕ → Option Bool
of_kind [] n k = None
of_kind (Answers (Kind m j) true ∷ fs) n k = if nat_eq m n then Some (nat_eq j k) else of_kind fs n k
of_kind (Answers (Kind m j) false ∷ fs) n k = if nat_eq m n && nat_eq j k then Some false else of_kind fs n k
of_kind (f ∷ fs) n k = of_kind fs n k

abbrev of_joint : List Fact → ℕ → Option Bool
of_joint [] n = None
of_joint (Answers (Joint m) b ∷ fs) n = if nat_eq m n then Some b else of_joint fs n
of_joint (f ∷ fs) n = of_joint fs n

abbrev of_whole : List Fact → ℕ → Option Bool
of_whole [] n = None
of_whole (Answers (Whole m) b ∷ fs) n = if nat_eq m n then Some b else of_whole fs n
of_whole (f ∷ fs) n = of_whole fs n

abbrev of_contextual : List Fact → ℕ → ℕ → Option Bool
of_contextual [] n k = None
of_contextual (Answers (Contextual m j) b ∷ fs) n k = if nat_eq m n && nat_eq j k then Some b else of_contextual fs n k
of_contextual (f ∷ fs) n k = of_contextual fs n k

abbrev of_left : List Fact → Option Bool
of_left [] = None
of_left (Answers Left b ∷ fs) = Some b
of_left (f ∷ fs) = of_left fs

abbrev of_condition : List Fact → Option Bool
of_condition [] = None
of_condition (Answers InCondition b ∷ fs) = Some b
of_condition (f ∷ fs) = of_condition fs

-- whether two looks are the same
abbrev same_look : Look → Look → Bool
same_look Always Always = true
same_look Never Never = true
same_look (Kind n k) (Kind m j) = nat_eq n m && nat_eq k j
same_look (Contextual n k) (Contextual m j) = nat_eq n m && nat_eq k j
same_look (Joint n) (Joint m) = nat_eq n m
same_look (Whole n) (Whole m) = nat_eq n m
same_look Left Left = true
same_look InCondition InCondition = true
same_look Given Given = true
same_look (Both a b) (Both d e) = same_look a d && same_look b e
same_look (Either a b) (Either d e) = same_look a d && same_look b e
same_look (Not a) (Not d) = same_look a d
same_look a b = false

pub and_l : (x y : Bool) → (x && y) ≡ true → x ≡ true
and_l true y e = refl
and_l false y e = e

pub and_r : (x y : Bool) → (x && y) ≡ true → y ≡ true
and_r true y e = e
and_r false y e = absurd (let z : false ≡ true = e in cc)

same_look-true : (l m : Look) → same_look l m ≡ true → l ≡ m
same_look-true Always Always e = refl
same_look-true Never Never e = refl
same_look-true (Kind n k) (Kind m j) e = let f = eqb-true n m (and_l (nat_eq n m) (nat_eq k j) e) in let g = eqb-true k j (and_r (nat_eq n m) (nat_eq k j) e) in cc
same_look-true (Contextual n k) (Contextual m j) e = let f = eqb-true n m (and_l (nat_eq n m) (nat_eq k j) e) in let g = eqb-true k j (and_r (nat_eq n m) (nat_eq k j) e) in cc
same_look-true (Joint n) (Joint m) e = ap Joint (eqb-true n m e)
same_look-true (Whole n) (Whole m) e = ap Whole (eqb-true n m e)
same_look-true Left Left e = refl
same_look-true InCondition InCondition e = refl
same_look-true Given Given e = refl
same_look-true (Both a b) (Both d f) e = let g = same_look-true a d (and_l (same_look a d) (same_look b f) e) in let h = same_look-true b f (and_r (same_look a d) (same_look b f) e) in cc
same_look-true (Either a b) (Either d f) e = let g = same_look-true a d (and_l (same_look a d) (same_look b f) e) in let h = same_look-true b f (and_r (same_look a d) (same_look b f) e) in cc
same_look-true (Not a) (Not d) e = ap Not (same_look-true a d e)
same_look-true a b e = absurd (let z : false ≡ true = e in cc)

-- what is known of a look of several parts, or else what its parts tell
abbrev of_look : List Fact → Look → Option Bool → Option Bool
of_look [] l o = o
of_look (Answers m b ∷ fs) l o = if same_look m l then Some b else of_look fs l o
of_look (f ∷ fs) l o = of_look fs l o

abbrev pub tells : List Fact → Look → Option Bool
tells fs Always = Some true
tells fs Never = Some false
tells fs (Kind n k) = of_kind fs n k
tells fs (Contextual n k) = of_contextual fs n k
tells fs (Joint n) = of_joint fs n
tells fs (Whole n) = of_whole fs n
tells fs Left = of_left fs
tells fs InCondition = of_condition fs
tells fs Given = None
tells fs (Both a b) = of_look fs (Both a b) (both (tells fs a) (tells fs b))
tells fs (Either a b) = of_look fs (Either a b) (either (tells fs a) (tells fs b))
tells fs (Not a) = neither (tells fs a)

abbrev pub of_production : List Fact → Production → Option Bool
of_production [] x = None
of_production (Begins y b ∷ fs) x = if same_production y x then Some b else of_production fs x
of_production (f ∷ fs) x = of_production fs x

-- whether a production begins here, with nothing given before it
abbrev pub or_look : Option Bool → List Fact → Production → Option Bool
or_look (Some b) fs x = Some b
or_look None fs x = tells fs (from_start (looks x))

-- whether a rule begins here
abbrev pub starts : List Fact → Rule → Option Bool
starts fs Nothing = Some true
starts fs (One x) = tells fs (spelled_at 0 x)
starts fs Any = of_left fs
starts fs (Then a b) =
    let first = starts fs a in
    let second = starts fs b in
    let sure = if passes a then either first second else first in
    if is_silent a then second else sure
starts fs (Near w a b) = of_look fs (Both (begins looks a) (shift w (begins looks b))) (both (starts fs a) (tells fs (shift w (begins looks b))))
starts fs (Or a b) = either (starts fs a) (starts fs b)
starts fs (When l a) = tells fs l
starts fs (Unless l a) = both (neither (tells fs l)) (starts fs a)
starts fs (Opt a) = starts fs a
starts fs (Star a) = starts fs a
starts fs (Node k a) = starts fs a
starts fs (Wrap k a) = starts fs a
starts fs (Want a m) = starts fs a
starts fs (Say m) = Some true
starts fs (Skip m) = of_left fs
starts fs Split = of_left fs
starts fs (Call x) = or_look (of_production fs x) fs x
starts fs (Continue x) = tells fs (looks x)
starts fs (Mode c a) = None
starts fs (Lead a) = starts fs a

abbrev pub Right : Bool → Reading → Look → Option Bool → Type 0
Right c s l b = IfSome b (λ a. sees c s l ≡ a)

module _ (c : Bool) (s : Reading) where
  is_of_kind : (fs : List Fact) → HoldAll c s fs → (n k : ℕ) → Right c s (Kind n k) (of_kind fs n k)
  unfolding sees
  is_of_kind [] h n k = tt
  is_of_kind (Answers (Kind m j) true ∷ fs) h n k = yes (is_of_kind fs h.1 n k) (nat_eq m n) refl
    where
      yes : Right c s (Kind n k) (of_kind fs n k) → (b : Bool) → nat_eq m n ≡ b → Right c s (Kind n k) (if b then Some (nat_eq j k) else of_kind fs n k)
      yes i true e =
          let kind : (ahead m s.rest).kind ≡ j = eqb-true _ _ h.0 in
          ap (λ (i : ℕ). (ahead i s.rest).kind == k) (sym (eqb-true m n e)) ∙ ap (λ (i : ℕ). nat_eq i k) kind
      yes i false e = i
  is_of_kind (Answers (Kind m j) false ∷ fs) h n k = no (is_of_kind fs h.1 n k) (nat_eq m n) (nat_eq j k) refl refl
    where
      no : Right c s (Kind n k) (of_kind fs n k) → (b d : Bool) → nat_eq m n ≡ b → nat_eq j k ≡ d → Right c s (Kind n k) (if b && d then Some false else of_kind fs n k)
      no i true true e f = ap (λ (i : ℕ). (ahead i s.rest).kind == k) (sym (eqb-true m n e)) ∙ ap (λ (i : ℕ). (ahead m s.rest).kind == i) (sym (eqb-true j k f)) ∙ h.0
      no i true false e f = i
      no i false d e f = i
  is_of_kind (Answers Always b ∷ fs) h n k = is_of_kind fs h.1 n k
  is_of_kind (Answers (Whole m) b ∷ fs) h n k = is_of_kind fs h.1 n k
  is_of_kind (Answers Never b ∷ fs) h n k = is_of_kind fs h.1 n k
  is_of_kind (Answers (Contextual m j) b ∷ fs) h n k = is_of_kind fs h.1 n k
  is_of_kind (Answers (Joint m) b ∷ fs) h n k = is_of_kind fs h.1 n k
  is_of_kind (Answers Left b ∷ fs) h n k = is_of_kind fs h.1 n k
  is_of_kind (Answers InCondition b ∷ fs) h n k = is_of_kind fs h.1 n k
  is_of_kind (Answers Given b ∷ fs) h n k = is_of_kind fs h.1 n k
  is_of_kind (Answers (Both x y) b ∷ fs) h n k = is_of_kind fs h.1 n k
  is_of_kind (Answers (Either x y) b ∷ fs) h n k = is_of_kind fs h.1 n k
  is_of_kind (Answers (Not x) b ∷ fs) h n k = is_of_kind fs h.1 n k
  is_of_kind (Begins x b ∷ fs) h n k = is_of_kind fs h.1 n k

  is_of_joint : (fs : List Fact) → HoldAll c s fs → (n : ℕ) → Right c s (Joint n) (of_joint fs n)
  unfolding sees
  is_of_joint [] h n = tt
  is_of_joint (Answers (Joint m) d ∷ fs) h n = yes (is_of_joint fs h.1 n) (nat_eq m n) refl
    where
      yes : Right c s (Joint n) (of_joint fs n) → (b : Bool) → nat_eq m n ≡ b → Right c s (Joint n) (if b then Some d else of_joint fs n)
      yes i true e = ap (λ (i : ℕ). (ahead i s.rest).joint) (sym (eqb-true m n e)) ∙ h.0
      yes i false e = i
  is_of_joint (Answers (Kind m j) b ∷ fs) h n = is_of_joint fs h.1 n
  is_of_joint (Answers Always b ∷ fs) h n = is_of_joint fs h.1 n
  is_of_joint (Answers (Whole m) b ∷ fs) h n = is_of_joint fs h.1 n
  is_of_joint (Answers Never b ∷ fs) h n = is_of_joint fs h.1 n
  is_of_joint (Answers (Contextual m j) b ∷ fs) h n = is_of_joint fs h.1 n
  is_of_joint (Answers Left b ∷ fs) h n = is_of_joint fs h.1 n
  is_of_joint (Answers InCondition b ∷ fs) h n = is_of_joint fs h.1 n
  is_of_joint (Answers Given b ∷ fs) h n = is_of_joint fs h.1 n
  is_of_joint (Answers (Both x y) b ∷ fs) h n = is_of_joint fs h.1 n
  is_of_joint (Answers (Either x y) b ∷ fs) h n = is_of_joint fs h.1 n
  is_of_joint (Answers (Not x) b ∷ fs) h n = is_of_joint fs h.1 n
  is_of_joint (Begins x b ∷ fs) h n = is_of_joint fs h.1 n

  is_of_whole : (fs : List Fact) → HoldAll c s fs → (n : ℕ) → Right c s (Whole n) (of_whole fs n)
  unfolding sees
  is_of_whole [] h n = tt
  is_of_whole (Answers (Whole m) d ∷ fs) h n = yes (is_of_whole fs h.1 n) (nat_eq m n) refl
    where
      yes : Right c s (Whole n) (of_whole fs n) → (b : Bool) → nat_eq m n ≡ b → Right c s (Whole n) (if b then Some d else of_whole fs n)
      yes i true e = ap (λ (i : ℕ). (ahead i s.rest).whole) (sym (eqb-true m n e)) ∙ h.0
      yes i false e = i
  is_of_whole (Answers (Joint m) b ∷ fs) h n = is_of_whole fs h.1 n
  is_of_whole (Answers (Kind m j) b ∷ fs) h n = is_of_whole fs h.1 n
  is_of_whole (Answers Always b ∷ fs) h n = is_of_whole fs h.1 n
  is_of_whole (Answers Never b ∷ fs) h n = is_of_whole fs h.1 n
  is_of_whole (Answers (Contextual m j) b ∷ fs) h n = is_of_whole fs h.1 n
  is_of_whole (Answers Left b ∷ fs) h n = is_of_whole fs h.1 n
  is_of_whole (Answers InCondition b ∷ fs) h n = is_of_whole fs h.1 n
  is_of_whole (Answers Given b ∷ fs) h n = is_of_whole fs h.1 n
  is_of_whole (Answers (Both x y) b ∷ fs) h n = is_of_whole fs h.1 n
  is_of_whole (Answers (Either x y) b ∷ fs) h n = is_of_whole fs h.1 n
  is_of_whole (Answers (Not x) b ∷ fs) h n = is_of_whole fs h.1 n
  is_of_whole (Begins x b ∷ fs) h n = is_of_whole fs h.1 n

  is_of_contextual : (fs : List Fact) → HoldAll c s fs → (n k : ℕ) → Right c s (Contextual n k) (of_contextual fs n k)
  unfolding sees
  is_of_contextual [] h n k = tt
  is_of_contextual (Answers (Contextual m j) a ∷ fs) h n k = no (is_of_contextual fs h.1 n k) (nat_eq m n) (nat_eq j k) refl refl
    where
      no : Right c s (Contextual n k) (of_contextual fs n k) → (b d : Bool) → nat_eq m n ≡ b → nat_eq j k ≡ d → Right c s (Contextual n k) (if b && d then Some a else of_contextual fs n k)
      no i true true e f = ap (λ (i : ℕ). (ahead i s.rest).contextual == k) (sym (eqb-true m n e)) ∙ ap (λ (i : ℕ). (ahead m s.rest).contextual == i) (sym (eqb-true j k f)) ∙ h.0
      no i true false e f = i
      no i false d e f = i
  is_of_contextual (Answers (Kind m j) b ∷ fs) h n k = is_of_contextual fs h.1 n k
  is_of_contextual (Answers (Joint m) b ∷ fs) h n k = is_of_contextual fs h.1 n k
  is_of_contextual (Answers Always b ∷ fs) h n k = is_of_contextual fs h.1 n k
  is_of_contextual (Answers (Whole m) b ∷ fs) h n k = is_of_contextual fs h.1 n k
  is_of_contextual (Answers Never b ∷ fs) h n k = is_of_contextual fs h.1 n k
  is_of_contextual (Answers Left b ∷ fs) h n k = is_of_contextual fs h.1 n k
  is_of_contextual (Answers InCondition b ∷ fs) h n k = is_of_contextual fs h.1 n k
  is_of_contextual (Answers Given b ∷ fs) h n k = is_of_contextual fs h.1 n k
  is_of_contextual (Answers (Both x y) b ∷ fs) h n k = is_of_contextual fs h.1 n k
  is_of_contextual (Answers (Either x y) b ∷ fs) h n k = is_of_contextual fs h.1 n k
  is_of_contextual (Answers (Not x) b ∷ fs) h n k = is_of_contextual fs h.1 n k
  is_of_contextual (Begins x b ∷ fs) h n k = is_of_contextual fs h.1 n k

  is_of_left : (fs : List Fact) → HoldAll c s fs → Right c s Left (of_left fs)
  is_of_left [] h = tt
  is_of_left (Answers Left b ∷ fs) h = h.0
  is_of_left (Answers (Kind m j) b ∷ fs) h = is_of_left fs h.1
  is_of_left (Answers (Joint m) b ∷ fs) h = is_of_left fs h.1
  is_of_left (Answers Always b ∷ fs) h = is_of_left fs h.1
  is_of_left (Answers (Whole m) b ∷ fs) h = is_of_left fs h.1
  is_of_left (Answers Never b ∷ fs) h = is_of_left fs h.1
  is_of_left (Answers (Contextual m j) b ∷ fs) h = is_of_left fs h.1
  is_of_left (Answers InCondition b ∷ fs) h = is_of_left fs h.1
  is_of_left (Answers Given b ∷ fs) h = is_of_left fs h.1
  is_of_left (Answers (Both x y) b ∷ fs) h = is_of_left fs h.1
  is_of_left (Answers (Either x y) b ∷ fs) h = is_of_left fs h.1
  is_of_left (Answers (Not x) b ∷ fs) h = is_of_left fs h.1
  is_of_left (Begins x b ∷ fs) h = is_of_left fs h.1

  is_of_condition : (fs : List Fact) → HoldAll c s fs → Right c s InCondition (of_condition fs)
  is_of_condition [] h = tt
  is_of_condition (Answers InCondition b ∷ fs) h = h.0
  is_of_condition (Answers Left b ∷ fs) h = is_of_condition fs h.1
  is_of_condition (Answers (Kind m j) b ∷ fs) h = is_of_condition fs h.1
  is_of_condition (Answers (Joint m) b ∷ fs) h = is_of_condition fs h.1
  is_of_condition (Answers Always b ∷ fs) h = is_of_condition fs h.1
  is_of_condition (Answers (Whole m) b ∷ fs) h = is_of_condition fs h.1
  is_of_condition (Answers Never b ∷ fs) h = is_of_condition fs h.1
  is_of_condition (Answers (Contextual m j) b ∷ fs) h = is_of_condition fs h.1
  is_of_condition (Answers Given b ∷ fs) h = is_of_condition fs h.1
  is_of_condition (Answers (Both x y) b ∷ fs) h = is_of_condition fs h.1
  is_of_condition (Answers (Either x y) b ∷ fs) h = is_of_condition fs h.1
  is_of_condition (Answers (Not x) b ∷ fs) h = is_of_condition fs h.1
  is_of_condition (Begins x b ∷ fs) h = is_of_condition fs h.1

  is_neither : (l : Look) (a : Option Bool) → Right c s l a → Right c s (Not l) (neither a)
  unfolding sees
  is_neither l None h = tt
  is_neither l (Some b) h = ap not h

  is_both : (l m : Look) (a b : Option Bool) → Right c s l a → Right c s m b → Right c s (Both l m) (both a b)
  unfolding sees
  is_both l m (Some false) b h i = rw h refl
  is_both l m (Some true) None h i = tt
  is_both l m (Some true) (Some b) h i = rw h i
  is_both l m None (Some false) h i = second (sees c s l)
    where
      second : (a : Bool) → (if a then sees c s m else false) ≡ false
      second true = i
      second false = refl
  is_both l m None (Some true) h i = tt
  is_both l m None None h i = tt

  is_either : (l m : Look) (a b : Option Bool) → Right c s l a → Right c s m b → Right c s (Either l m) (either a b)
  unfolding sees
  is_either l m (Some true) b h i = rw h refl
  is_either l m (Some false) None h i = tt
  is_either l m (Some false) (Some b) h i = rw h i
  is_either l m None (Some true) h i = second (sees c s l)
    where
      second : (a : Bool) → (if a then true else sees c s m) ≡ true
      second true = refl
      second false = i
  is_either l m None (Some false) h i = tt
  is_either l m None None h i = tt

  is_of_look : (fs : List Fact) → HoldAll c s fs → (l : Look) (o : Option Bool) → Right c s l o → Right c s l (of_look fs l o)
  is_of_look [] h l o r = r
  is_of_look (Answers m d ∷ fs) h l o r = yes (is_of_look fs h.1 l o r) (same_look m l) refl
    where
      yes : Right c s l (of_look fs l o) → (b : Bool) → same_look m l ≡ b → Right c s l (if b then Some d else of_look fs l o)
      yes i true e = ap (λ (k : Look). sees c s k) (sym (same_look-true m l e)) ∙ h.0
      yes i false e = i
  is_of_look (Begins x b ∷ fs) h l o r = is_of_look fs h.1 l o r

  pub is_told : (fs : List Fact) → HoldAll c s fs → (l : Look) → Right c s l (tells fs l)
  unfolding sees
  is_told fs h Always = refl
  is_told fs h Never = refl
  is_told fs h (Kind n k) = is_of_kind fs h n k
  is_told fs h (Contextual n k) = is_of_contextual fs h n k
  is_told fs h (Joint n) = is_of_joint fs h n
  is_told fs h (Whole n) = is_of_whole fs h n
  is_told fs h Left = is_of_left fs h
  is_told fs h InCondition = is_of_condition fs h
  is_told fs h Given = tt
  is_told fs h (Both a b) = is_of_look fs h (Both a b) _ (is_both a b (tells fs a) (tells fs b) (is_told fs h a) (is_told fs h b))
  is_told fs h (Either a b) = is_of_look fs h (Either a b) _ (is_either a b (tells fs a) (tells fs b) (is_told fs h a) (is_told fs h b))
  is_told fs h (Not a) = is_neither a (tells fs a) (is_told fs h a)

  is_of_production : (fs : List Fact) → HoldAll c s fs → (x : Production) → Right c s (from_start (looks x)) (of_production fs x)
  is_of_production [] h x = tt
  is_of_production (Begins y d ∷ fs) h x = yes (is_of_production fs h.1 x) (same_production y x) refl
    where
      yes : Right c s (from_start (looks x)) (of_production fs x) → (b : Bool) → same_production y x ≡ b → Right c s (from_start (looks x)) (if b then Some d else of_production fs x)
      yes i true e = ap (λ (z : Production). sees c s (from_start (looks z))) (sym (same_production-true y x e)) ∙ h.0
      yes i false e = i
  is_of_production (Answers l b ∷ fs) h x = is_of_production fs h.1 x

  is_or_look : (o : Option Bool) (fs : List Fact) → HoldAll c s fs → (x : Production) → Right c s (from_start (looks x)) o → Right c s (from_start (looks x)) (or_look o fs x)
  is_or_look (Some b) fs h x r = r
  is_or_look None fs h x r = is_told fs h (from_start (looks x))

  -- a look of a place where nothing was given
  is_from_start : (l : Look) (o : Option Bool) → Right c (fresh s) l o → Right c s (from_start l) o
  is_from_start l None h = tt
  is_from_start l (Some b) h = from_start-seen c s l ∙ h

-- Whether a rule begins here is as the facts tell, if they hold here, and also where nothing was given.
pub is_start : (c : Bool) (s : Reading) (fs : List Fact) → HoldAll c s fs → HoldAll c (fresh s) fs → (r : Rule) → Right c s (begins looks r) (starts fs r)
unfolding begins sees fresh
is_start c s fs h i Nothing = refl
is_start c s fs h i (One x) = is_told c s fs h (spelled_at 0 x)
is_start c s fs h i Any = is_of_left c s fs h
is_start c s fs h i (Then a b) = then_start (is_start c s fs h i a) (is_start c s fs h i b) (is_silent a) (passes a)
  where
    then_start : Right c s (begins looks a) (starts fs a) → Right c s (begins looks b) (starts fs b) → (silent pass : Bool) →
        Right c s (if silent then begins looks b else (if pass then Either (begins looks a) (begins looks b) else begins looks a))
        (if silent then starts fs b else (if pass then either (starts fs a) (starts fs b) else starts fs a))
    then_start k l true pass = l
    then_start k l false true = is_either c s (begins looks a) (begins looks b) (starts fs a) (starts fs b) k l
    then_start k l false false = k
is_start c s fs h i (Near w a b) =
    is_of_look c s fs h (Both (begins looks a) (shift w (begins looks b))) _
    (is_both c s (begins looks a) (shift w (begins looks b)) (starts fs a) _ (is_start c s fs h i a) (is_told c s fs h (shift w (begins looks b))))
is_start c s fs h i (Or a b) = is_either c s (begins looks a) (begins looks b) (starts fs a) (starts fs b) (is_start c s fs h i a) (is_start c s fs h i b)
is_start c s fs h i (When l a) = is_told c s fs h l
is_start c s fs h i (Unless l a) = is_both c s (Not l) (begins looks a) _ (starts fs a) (is_neither c s l (tells fs l) (is_told c s fs h l)) (is_start c s fs h i a)
is_start c s fs h i (Opt a) = is_start c s fs h i a
is_start c s fs h i (Star a) = is_start c s fs h i a
is_start c s fs h i (Node k a) = is_from_start c s (begins looks a) (starts fs a) (is_start c (fresh s) fs i i a)
is_start c s fs h i (Wrap k a) = is_start c s fs h i a
is_start c s fs h i (Want a m) = is_start c s fs h i a
is_start c s fs h i (Say m) = refl
is_start c s fs h i (Skip m) = is_of_left c s fs h
is_start c s fs h i Split = is_of_left c s fs h
is_start c s fs h i (Call x) = is_or_look c s (of_production fs x) fs h x (is_of_production c s fs h x)
is_start c s fs h i (Continue x) = is_told c s fs h (looks x)
is_start c s fs h i (Mode d a) = tt
is_start c s fs h i (Lead a) = is_from_start c s (begins looks a) (starts fs a) (is_start c (fresh s) fs i i a)
