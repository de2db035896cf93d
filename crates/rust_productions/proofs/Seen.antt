-- What looks that were made tell of other looks, and of where productions begin.
use Rattle.std.proofs.Common.{◌≡◌, ℕ, zero, suc, ◌+◌, Bool, true, false, not, ◌&&◌, ◌==◌, List, [], ◌∷◌, length, drop, arith, Option, Some, refl, sym, ap, subst, ◌∙◌, if◌then◌else◌, nat_lt}
use Rattle.parser_input.specs.Input.{Token}
use Rattle.parser_input.specs.Kinds.{EOF}
use Rattle.parser_events.specs.Forest as forest
use Rattle.parser_events.specs.Forest.{Message}
use Rattle.parser_events.specs.View.{View}
use Rattle.rust_productions.specs.Stands.{left}
use Rattle.rust_grammar.specs.Rule.{Production, Spelling, Look, Always, Never, Kind, Contextual, Joint, Whole, Left, InCondition, Given, Both, Either, Not, Rule, One, Call, begins, shift, from_start}
use Rattle.rust_grammar.specs.Meaning.{Reading, ahead, sees, fresh, leaf, read}
use Rattle.rust_grammar.specs.Whole.{rule}
use Rattle.rust_productions.specs.Reads.{looks, Closes, Opens, Leaves, Does, Reads, Saw, Condition, On, Off, is_on}
use Rattle.rust_grammar.proofs.Elsewhere.{from_start-seen}
use Rattle.rust_grammar.proofs.WholeTable.{whole-begins}
use Rattle.rust_productions.proofs.Facts.{Fact, Answers, Begins, HoldAll, Known, Right, and_l, and_r, tells, starts, is_told, is_start}

-- The tokens left where nothing but a look was made.
pub still-left : {old mid : View} → Does (λ s. s) old mid → left mid ≡ left old
still-left {old} {mid} p = p.rest (record { given = forest.End; rest = left old }) refl

-- what is seen after a look was there before it
pub saw-before : {c : Condition} {l : Look} {b : Bool} {old mid : View} → Does (λ s. s) old mid → Saw c l mid b → Saw c l old b
saw-before p saw = record { at = λ s e. saw.at s (still-left p ∙ e) }

-- and what is known outside is known in a node that is opened
pub saw-inside : {c : Condition} {l : Look} {b : Bool} {old mid : View} → Opens old mid → Saw c l old b → Saw c l mid b
saw-inside o saw = record { at = λ s e. saw.at s (sym o.rest ∙ e) }

-- a look that what is known tells the answer of
pub saw-told : {c : Condition} {fs : List Fact} {l : Look} {b : Bool} {v : View} → Known c fs v → tells fs l ≡ Some b → Saw c l v b
saw-told {c} {fs} {l} {b} {v} known is = record { at = λ s e. subst (λ (o : Option Bool). Right (is_on c) s l o) is (is_told (is_on c) s fs (known.at s e) l) }

pub saw-left : {c : Condition} {l m : Look} {v : View} → Saw c (Both l m) v true → Saw c l v true
unfolding sees
saw-left {c} {l} {m} saw = record { at = λ s e. first (sees (is_on c) s l) (sees (is_on c) s m) (saw.at s e) }
  where
    first : (a b : Bool) → (if a then b else false) ≡ true → a ≡ true
    first true b e = refl
    first false b e = e

pub saw-right : {c : Condition} {l m : Look} {v : View} → Saw c (Both l m) v true → Saw c m v true
unfolding sees
saw-right {c} {l} {m} saw = record { at = λ s e. second (sees (is_on c) s l) (sees (is_on c) s m) (saw.at s e) }
  where
    second : (a b : Bool) → (if a then b else false) ≡ true → b ≡ true
    second true b e = e
    second false b e = absurd (let z : false ≡ true = e in cc)

pub saw-on : {condition : Condition} {v : View} → condition ≡ On → Saw condition InCondition v true
unfolding sees
saw-on is = record { at = λ s e. ap is_on is }

pub saw-off : {condition : Condition} {v : View} → condition ≡ Off → Saw condition InCondition v false
unfolding sees
saw-off is = record { at = λ s e. ap is_on is }

-- two kinds, one after the other, that touch
pub saw-pair : {c : Condition} {l m n : Look} {b : Bool} {v : View} → Saw c l v true → Saw c m v true → Saw c n v b → Saw c (Both l (Both m n)) v b
unfolding sees
saw-pair f g h = record { at = λ s e. rw (f.at s e, g.at s e) (h.at s e) }

pub saw-no-left : {c : Condition} {l m : Look} {v : View} → Saw c l v false → Saw c (Both l m) v false
unfolding sees
saw-no-left f = record { at = λ s e. rw (f.at s e) refl }

pub saw-no-right : {c : Condition} {l m : Look} {v : View} → Saw c l v true → Saw c m v false → Saw c (Both l m) v false
unfolding sees
saw-no-right f g = record { at = λ s e. rw (f.at s e, g.at s e) refl }

-- a production that begins here, as what is known tells, where it does not ask what was given
pub begins-here : (x : Production) {c : Condition} {fs : List Fact} {b : Bool} {v : View} → from_start (looks x) ≡ looks x → Known c fs v → starts fs (Call x) ≡ Some b → Saw c (looks x) v b
unfolding begins fresh
begins-here x {c} {fs} {b} {v} same known is = record {
  at = λ s e. ap (λ (l : Look). sees (is_on c) s l) (sym same) ∙ subst (λ (o : Option Bool). Right (is_on c) s (from_start (looks x)) o) is (is_start (is_on c) s fs (known.at s e) (known.at (fresh s) e) (Call x));
}

-- Where a production begins, and would not if another one did not, that other one begins.
pub begins-else : (x y : Production) {c : Condition} {fs : List Fact} {v : View} → from_start (looks x) ≡ looks x → Known c fs v → Saw c (looks y) v true → starts (Begins x false ∷ fs) (rule y) ≡ Some false → Saw c (looks x) v true
unfolding fresh
begins-else x y {c} {fs} {v} same known saw not_else = record { at = λ s e. ap (λ (l : Look). sees (is_on c) s l) (sym same) ∙ one s (sees (is_on c) s (from_start (looks x))) refl (known.at s e) (known.at (fresh s) e) (saw.at s e) }
  where
    one : (s : Reading) (b : Bool) → sees (is_on c) s (from_start (looks x)) ≡ b → HoldAll (is_on c) s fs → HoldAll (is_on c) (fresh s) fs → sees (is_on c) s (looks y) ≡ true → sees (is_on c) s (from_start (looks x)) ≡ true
    one s true is h i begins_there = is
    one s false is h i begins_there =
        let no : sees (is_on c) s (begins looks (rule y)) ≡ false = subst (λ (o : Option Bool). Right (is_on c) s (begins looks (rule y)) o) not_else (is_start (is_on c) s (Begins x false ∷ fs) (is, h) (from_start-seen (is_on c) (fresh s) (looks x) ∙ sym (from_start-seen (is_on c) s (looks x)) ∙ is, i) (rule y)) in
        absurd (let z : true ≡ false = sym begins_there ∙ ap (λ (l : Look). sees (is_on c) s l) (whole-begins y) ∙ no in cc)

pub saw-after : {c : Condition} {l : Look} {b : Bool} {old mid : View} → Does (λ s. s) old mid → Saw c l old b → Saw c l mid b
saw-after p saw = record { at = λ s e. saw.at s (sym (still-left p) ∙ e) }

-- no token is left
abbrev at_the_end : List Fact
at_the_end = Answers (Kind 0 EOF) true ∷ Answers Left false ∷ []

-- a rule that does not begin where no token is left
pub ends-at-end : (c : Condition) (a : Rule) → starts at_the_end a ≡ Some false → (t : Reading) → length t.rest ≡ 0 → sees (is_on c) t (begins looks a) ≡ false
unfolding sees ahead fresh
ends-at-end c a is t none = subst (λ (o : Option Bool). Right (is_on c) t (begins looks a) o) is (is_start (is_on c) t at_the_end (known t.rest none) (known t.rest none) a)
  where
    known : (ts : List Token) → length ts ≡ 0 → ((ahead 0 ts).kind == EOF) ≡ true × (nat_lt 0 (length ts) ≡ false × Unit {0})
    known [] e = (refl, (refl, tt))
    known (x ∷ ts) e = absurd (let z : suc (length ts) ≡ 0 = e in cc)

-- whether a production begins here, if the known facts tell whether its rule does
pub begins-row : (x : Production) {c : Condition} {fs : List Fact} {b : Bool} {v : View} → Known c fs v → starts fs (rule x) ≡ Some b → Saw c (looks x) v b
unfolding fresh
begins-row x {c} {fs} {b} {v} known is = record {
  at = λ s e. ap (λ (l : Look). sees (is_on c) s l) (whole-begins x) ∙ subst (λ (o : Option Bool). Right (is_on c) s (begins looks (rule x)) o) is (is_start (is_on c) s fs (known.at s e) (known.at (fresh s) e) (rule x));
}

-- what a rule begins with, where what is known tells it
pub starts-here : (r : Rule) {c : Condition} {fs : List Fact} {b : Bool} {v : View} → Known c fs v → starts fs r ≡ Some b → Saw c (begins looks r) v b
unfolding fresh
starts-here r {c} {fs} {b} {v} known is = record { at = λ s e. subst (λ (o : Option Bool). Right (is_on c) s (begins looks r) o) is (is_start (is_on c) s fs (known.at s e) (known.at (fresh s) e) r) }

pub saw-always : {c : Condition} {l : Look} {b : Bool} {v : View} → Saw c l v b → Saw c (Both l Always) v b
unfolding sees
saw-always {c} {l} f = record { at = λ s e. alone (sees (is_on c) s l) ∙ f.at s e }
  where
    alone : (a : Bool) → (if a then true else false) ≡ a
    alone true = refl
    alone false = refl

pub saw-either-left : {c : Condition} {l m : Look} {v : View} → Saw c l v true → Saw c (Either l m) v true
unfolding sees
saw-either-left f = record { at = λ s e. rw (f.at s e) refl }

pub saw-either-right : {c : Condition} {l m : Look} {b : Bool} {v : View} → Saw c l v false → Saw c m v b → Saw c (Either l m) v b
unfolding sees
saw-either-right f g = record { at = λ s e. rw (f.at s e) (g.at s e) }

-- Where a look is there, and would not be if another one were not, that other one is.
pub saw-else : (l m : Look) {c : Condition} {fs : List Fact} {v : View} → Known c fs v → Saw c m v true → tells (Answers l false ∷ fs) m ≡ Some false → Saw c l v true
saw-else l m {c} {fs} {v} known saw not_else = record { at = λ s e. one s (sees (is_on c) s l) refl (known.at s e) (saw.at s e) }
  where
    one : (s : Reading) (b : Bool) → sees (is_on c) s l ≡ b → HoldAll (is_on c) s fs → sees (is_on c) s m ≡ true → sees (is_on c) s l ≡ true
    one s true is h there = is
    one s false is h there =
        let no : sees (is_on c) s m ≡ false = subst (λ (o : Option Bool). Right (is_on c) s m o) not_else (is_told (is_on c) s (Answers l false ∷ fs) (is, h) m) in
        absurd (let z : true ≡ false = sym there ∙ no in cc)

-- a look that asks nothing but of tokens
abbrev pub is_ahead : Look → Bool
is_ahead Left = false
is_ahead Given = false
is_ahead (Both a b) = is_ahead a && is_ahead b
is_ahead (Either a b) = is_ahead a && is_ahead b
is_ahead (Not a) = is_ahead a
is_ahead l = true

ahead-drop : (m n : ℕ) (ts : List Token) → ahead n (drop m ts) ≡ ahead (n + m) ts
unfolding ahead
ahead-drop zero n ts = let none : n ≡ n + 0 = omega arith in ap (λ (k : ℕ). ahead k ts) none
ahead-drop (suc m) n [] = refl
ahead-drop (suc m) n (t ∷ ts) = let more : suc (n + m) ≡ n + suc m = omega arith in ahead-drop m n ts ∙ ap (λ (k : ℕ). ahead k (t ∷ ts)) more

sees-ahead : (c : Bool) (m : ℕ) (l : Look) (s t : Reading) → is_ahead l ≡ true → t.rest ≡ drop m s.rest → sees c t l ≡ sees c s (shift m l)
unfolding sees shift
sees-ahead c m Always s t a e = refl
sees-ahead c m Never s t a e = refl
sees-ahead c m (Kind n k) s t a e = ap (λ (ts : List Token). (ahead n ts).kind == k) e ∙ ap (λ (u : Token). u.kind == k) (ahead-drop m n s.rest)
sees-ahead c m (Contextual n k) s t a e = ap (λ (ts : List Token). (ahead n ts).contextual == k) e ∙ ap (λ (u : Token). u.contextual == k) (ahead-drop m n s.rest)
sees-ahead c m (Joint n) s t a e = ap (λ (ts : List Token). (ahead n ts).joint) e ∙ ap (λ (u : Token). u.joint) (ahead-drop m n s.rest)
sees-ahead c m (Whole n) s t a e = ap (λ (ts : List Token). (ahead n ts).whole) e ∙ ap (λ (u : Token). u.whole) (ahead-drop m n s.rest)
sees-ahead c m Left s t a e = absurd (let z : false ≡ true = a in cc)
sees-ahead c m InCondition s t a e = refl
sees-ahead c m Given s t a e = absurd (let z : false ≡ true = a in cc)
sees-ahead c m (Both x y) s t a e = rw (sees-ahead c m x s t (and_l (is_ahead x) (is_ahead y) a) e, sees-ahead c m y s t (and_r (is_ahead x) (is_ahead y) a) e) refl
sees-ahead c m (Either x y) s t a e = rw (sees-ahead c m x s t (and_l (is_ahead x) (is_ahead y) a) e, sees-ahead c m y s t (and_r (is_ahead x) (is_ahead y) a) e) refl
sees-ahead c m (Not x) s t a e = ap not (sees-ahead c m x s t a e)

-- what was seen after a leaf is seen once that is taken
pub saw-taken : {c d : Condition} {x : Spelling} {b : Bool} {old new : View} (l : Look) → is_ahead l ≡ true → Reads d (One x) old new → Saw c (shift (length x.parts) l) old b → Saw c l new b
unfolding read leaf
saw-taken {c} {d} {x} {b} {old} {new} l plain p saw = record {
  at = λ s e.
      let was : Reading = record { given = forest.End; rest = left old } in
      sees-ahead (is_on c) (length x.parts) l was s plain (sym e ∙ p.does.rest was refl) ∙ saw.at was refl;
}

-- and what is seen then was seen that much further ahead before
pub saw-ahead : {c d : Condition} {x : Spelling} {b : Bool} {old new : View} (l : Look) → is_ahead l ≡ true → Reads d (One x) old new → Saw c l new b → Saw c (shift (length x.parts) l) old b
unfolding read leaf
saw-ahead {c} {d} {x} l plain p saw = record {
  at = λ s e.
      let taken : Reading = leaf x.kind (length x.parts) s in
      sym (sees-ahead (is_on c) (length x.parts) l s taken plain refl) ∙ saw.at taken (p.does.rest s e);
}

pub saw-left-out : {c : Condition} {l : Look} {b : Bool} {old new : View} → Leaves old new → Saw c l old b → Saw c l new b
saw-left-out o saw = record { at = λ s e. saw.at s (sym o.rest ∙ e) }

-- Where a look is not there, and would be if another one were, that other one is not.
pub saw-none : (l m : Look) {c : Condition} {fs : List Fact} {v : View} → Known c fs v → Saw c m v false → tells (Answers l true ∷ fs) m ≡ Some true → Saw c l v false
saw-none l m {c} {fs} {v} known saw then_so = record { at = λ s e. one s (sees (is_on c) s l) refl (known.at s e) (saw.at s e) }
  where
    one : (s : Reading) (b : Bool) → sees (is_on c) s l ≡ b → HoldAll (is_on c) s fs → sees (is_on c) s m ≡ false → sees (is_on c) s l ≡ false
    one s false is h none = is
    one s true is h none =
        let so : sees (is_on c) s m ≡ true = subst (λ (o : Option Bool). Right (is_on c) s m o) then_so (is_told (is_on c) s (Answers l true ∷ fs) (is, h) m) in
        absurd (let z : true ≡ false = sym so ∙ none in cc)

-- where the whole language is read, a look of it alone sees what it asks
pub saw-of-whole : {c : Condition} {b : Bool} {l : Look} {v : View} → Saw c (Whole 0) v true → Saw c (Both (Whole 0) l) v b → Saw c l v b
unfolding sees
saw-of-whole {c} {b} {l} whole both = record { at = λ s e. sym (ap (λ (w : Bool). if w then sees (is_on c) s l else false) (whole.at s e)) ∙ both.at s e }

-- what is seen before a node is closed is there after it
pub saw-closed : {c : Condition} {b : Bool} {l : Look} {kind : ℕ} {old new : View} → Closes kind old new → Saw c l old b → Saw c l new b
saw-closed o saw = record { at = λ s e. saw.at s (sym o.rest ∙ e) }

-- two looks, of which the first sees what it asks
pub saw-both : {c : Condition} {b : Bool} {l m : Look} {v : View} → Saw c l v true → Saw c m v b → Saw c (Both l m) v b
unfolding sees
saw-both f g = record { at = λ s e. rw (f.at s e) (g.at s e) }
