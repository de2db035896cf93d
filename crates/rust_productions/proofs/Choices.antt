-- What is known of a place decides which alternatives of a rule are read there.
use Rattle.std.proofs.Common.{◌≡◌, ℕ, zero, suc, Bool, true, false, List, ◌∷◌, length, Option, Some, None, IfSome, refl, sym, ap, subst, ◌∙◌, if◌then◌else◌}
use Rattle.parser_events.specs.Marked.{Marked, marked}
use Rattle.parser_events.specs.View.{View}
use Rattle.parser_events.proofs.Forests.{marked-then}
use Rattle.rust_productions.specs.Stands.{left, Holds}
use Rattle.rust_grammar.specs.Rule.{Production, Rule, Nothing, One, Any, Then, Near, Or, Opt, Star, Node, Wrap, Want, Say, Skip, Split, When, Unless, Call, Continue, Mode, Lead, begins}
use Rattle.rust_grammar.specs.Meaning.{Reading, sees, fresh, after, node, wrapped, say, turns, read, meaning}
use Rattle.rust_grammar.specs.Whole.{rule, whole}
use Rattle.rust_productions.specs.Reads.{looks, Opens, Leaves, Does, Gives, Reads, FromStart, Completes, Condition, is_on}
use Rattle.rust_productions.proofs.ByHand.{does-as, does-inside, does-then, completes-as}
use Rattle.rust_productions.proofs.Prefixes.{is_after, reads-from_start}
use Rattle.rust_grammar.proofs.WholeTable.{whole-means}
use Rattle.rust_productions.proofs.Facts.{Fact, HoldAll, Known, Right, starts, is_start}

-- a rule, then another, which reads as the third where the first is nothing
abbrev chain : Rule → Rule → Rule → Rule
chain Nothing b d = d
chain (Then x y) b d = Then x (chain y b b)
chain r b d = Then r b

-- which of three rules is read
abbrev pick : Option Bool → Rule → Rule → Rule → Rule
pick (Some true) a b r = a
pick (Some false) a b r = b
pick None a b r = r

-- What a rule comes to here: the alternatives that are read are chosen, up to the first part that is read.
abbrev pub simple : List Fact → Rule → Rule
simple fs (Then a b) = chain (simple fs a) b (simple fs b)
simple fs (Near w a b) = chain (simple fs a) b (simple fs b)
simple fs (Or a b) = pick (starts fs a) (simple fs a) (simple fs b) (Or a b)
simple fs (When l a) = simple fs a
simple fs (Unless l a) = simple fs a
simple fs (Opt a) = pick (starts fs a) (simple fs a) Nothing (Opt a)
simple fs (Star a) = pick (starts fs a) (Star a) Nothing (Star a)
simple fs (Node k a) = Node k (simple fs a)
simple fs (Wrap k a) = Wrap k (simple fs a)
simple fs (Want a m) = pick (starts fs a) (simple fs a) (Say m) (Want a m)
simple fs r = r

module _ (c : Bool) where
  abbrev does : Rule → Reading → Reading
  does r s = read looks (meaning whole) c r s

  chained : (a b d : Rule) (s : Reading) → (does a s ≡ s → does d s ≡ does b s) → does (chain a b d) s ≡ does b (does a s)
  unfolding read
  chained Nothing b d s e = e refl
  chained (Then x y) b d s e = chained y b b (does x s) (λ i. refl)
  chained (One x) b d s e = refl
  chained Any b d s e = refl
  chained (Near w x y) b d s e = refl
  chained (Or x y) b d s e = refl
  chained (When l x) b d s e = refl
  chained (Unless l x) b d s e = refl
  chained (Opt x) b d s e = refl
  chained (Star x) b d s e = refl
  chained (Node k x) b d s e = refl
  chained (Wrap k x) b d s e = refl
  chained (Want x m) b d s e = refl
  chained (Say m) b d s e = refl
  chained (Skip m) b d s e = refl
  chained Split b d s e = refl
  chained (Call x) b d s e = refl
  chained (Continue x) b d s e = refl
  chained (Mode m x) b d s e = refl
  chained (Lead x) b d s e = refl

  picked : (t : Bool) (o : Option Bool) (a b r : Rule) (s x y : Reading) → IfSome o (λ z. t ≡ z) → does a s ≡ x → does b s ≡ y → does r s ≡ (if t then x else y) → does (pick o a b r) s ≡ (if t then x else y)
  picked t (Some true) a b r s x y is p q h = p ∙ sym (ap (λ (z : Bool). if z then x else y) is)
  picked t (Some false) a b r s x y is p q h = q ∙ sym (ap (λ (z : Bool). if z then x else y) is)
  picked t None a b r s x y is p q h = h

  no-turns : (n : ℕ) (test : Reading → Bool) (turn : Reading → Reading) (s : Reading) → test s ≡ false → turns n test turn s ≡ s
  unfolding turns
  no-turns zero test turn s e = refl
  no-turns (suc n) test turn s e = rw e refl

  module _ (v : View) (fs : List Fact) (known : (s : Reading) → left v ≡ s.rest → HoldAll c s fs) where
    pub is_simple : (r : Rule) (s : Reading) → left v ≡ s.rest → does (simple fs r) s ≡ does r s
    unfolding read fresh
    is_simple Nothing s e = refl
    is_simple (One x) s e = refl
    is_simple Any s e = refl
    is_simple (Then a b) s e =
        chained (simple fs a) b (simple fs b) s (λ i. is_simple b s e) ∙ ap (λ (t : Reading). does b t) (is_simple a s e)
    is_simple (Near w a b) s e =
        chained (simple fs a) b (simple fs b) s (λ i. is_simple b s e) ∙ ap (λ (t : Reading). does b t) (is_simple a s e)
    is_simple (Or a b) s e =
        picked (sees c s (begins looks a)) (starts fs a) (simple fs a) (simple fs b) (Or a b) s (does a s) (does b s) (is_start c s fs (known s e) (known (fresh s) e) a)
        (is_simple a s e) (is_simple b s e) refl
    is_simple (When l a) s e = is_simple a s e
    is_simple (Unless l a) s e = is_simple a s e
    is_simple (Opt a) s e =
        picked (sees c s (begins looks a)) (starts fs a) (simple fs a) Nothing (Opt a) s (does a s) s (is_start c s fs (known s e) (known (fresh s) e) a)
        (is_simple a s e) refl refl
    is_simple (Star a) s e = star (starts fs a) (is_start c s fs (known s e) (known (fresh s) e) a)
      where
        star : (o : Option Bool) → Right c s (begins looks a) o → does (pick o (Star a) Nothing (Star a)) s ≡ does (Star a) s
        star None h = refl
        star (Some true) h = refl
        star (Some false) h = sym (no-turns (length s.rest) (λ t. sees c t (begins looks a)) (does a) s h)
    is_simple (Node k a) s e = ap (λ (t : Reading). node k s t) (is_simple a (fresh s) e)
    is_simple (Wrap k a) s e = ap (λ (t : Reading). wrapped k t) (is_simple a s e)
    is_simple (Want a m) s e =
        picked (sees c s (begins looks a)) (starts fs a) (simple fs a) (Say m) (Want a m) s (does a s) (say m s) (is_start c s fs (known s e) (known (fresh s) e) a)
        (is_simple a s e) refl refl
    is_simple (Say m) s e = refl
    is_simple (Skip m) s e = refl
    is_simple Split s e = refl
    is_simple (Call x) s e = refl
    is_simple (Continue x) s e = refl
    is_simple (Mode d a) s e = refl
    is_simple (Lead a) s e = refl

-- a rule is read as what it comes to here
pub reads-here : {c : Condition} {fs : List Fact} {r : Rule} {old new : View} → Known c fs old → Reads c (simple fs r) old new → Reads c r old new
reads-here {c} {fs} {r} {old} {new} known p = record { does = does-as (λ s e. is_simple (is_on c) old fs known.at r s e) p.does }

pub from_start-here : {c : Condition} {fs : List Fact} {r : Rule} {old new : View} → Known c fs old → FromStart c (simple fs r) old new → FromStart c r old new
unfolding fresh
from_start-here {c} {fs} {r} {old} {new} known p = record { does = does-as (λ s e. ap (λ (t : Reading). after s t) (is_simple (is_on c) old fs known.at r (fresh s) e)) p.does }

-- in a node that is left out in the end
pub from_start-inside : {c : Condition} {r : Rule} {old mid end new : View} → Opens old mid → Reads c r mid end → Leaves end new → FromStart c r old new
from_start-inside o p q = record { does = does-inside o p.does q }

-- in a node that is closed at the end
pub from_start-completes : {c : Condition} {r : Rule} {old mid new : View} → Opens old mid → Completes c r mid new → FromStart c r old new
unfolding marked fresh after
from_start-completes {c} {r} {old} {mid} {new} o q = record {
  does = record {
    input = q.input ∙ o.input;
    rest = λ s e. q.rest (fresh s) (o.rest ∙ e);
    nodes = λ s below e h.
        subst (λ (t : Marked). Holds new.nodes (t ∷ below)) (sym (marked-then s.given (read looks (meaning whole) (is_on c) r (fresh s)).given))
        (q.nodes (fresh s) (marked s.given) below (o.rest ∙ e) (o.nodes (marked s.given) below h));
    innermost = λ around i. q.innermost around (o.innermost around i);
  };
}

-- after a look
pub from_start-look : {c : Condition} {r : Rule} {old mid new : View} → Does (λ s. s) old mid → FromStart c r mid new → FromStart c r old new
from_start-look p q = record { does = does-then p q.does }

pub completes-here : {c : Condition} {fs : List Fact} {r : Rule} {old new : View} → Known c fs old → Completes c (simple fs r) old new → Completes c r old new
completes-here {c} {fs} {r} {old} {new} known p = completes-as (λ s e. is_simple (is_on c) old fs known.at r s e) p

-- in no node, where the rule does not touch what was given
pub from_start-after : {c : Condition} {r : Rule} {old new : View} → is_after looks r ≡ true → Reads c r old new → FromStart c r old new
from_start-after {c} {r} {old} {new} plain p = record { does = does-as (λ s e. reads-from_start (is_on c) r s plain) p.does }

-- a production's function, from its row
pub gives-from_start : {x : Production} {c : Condition} {old new : View} → FromStart c (rule x) old new → Gives x c old new
gives-from_start {x} {c} p = record { does = does-as (λ s e. ap (λ (t : Reading). after s t) (sym (whole-means x (is_on c) (fresh s)))) p.does }
