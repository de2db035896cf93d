-- A test of a table: what a rule gives is one node.
use Rattle.std.proofs.Common.{◌≡◌, ℕ, zero, suc, Bool, true, false, not, length, nat_lt, refl, sym, subst, if◌then◌else◌, true≢false}
use Rattle.parser_events.specs.Fits.{IsRooted}
use Rattle.parser_events.specs.Forest as forest
use Rattle.parser_events.specs.Forest.{Forest, ◌then◌}
use Rattle.rust_grammar.specs.Rule.{Production, Rule, Look, Joint, Nothing, One, Any, Then, Near, Or, Opt, Star, Node, Wrap, Want, Say, Skip, Split, When, Unless, Call, Continue, Mode, Lead, begins}
use Rattle.rust_grammar.specs.Meaning.{Reading, Calls, read, sees, ahead, fresh, leaf, say, skip, split, node, wrapped, into, led, after, turns}
use Rattle.rust_grammar.proofs.Known.{implies, implied}
use Rattle.rust_grammar.proofs.Leads.{into-cases}
use Rattle.rust_grammar.proofs.Spelled.{chosen}

-- what is given: nothing, one node, or anything
pub data Shape : Type 0 where
  Blank : Shape
  Single : Shape
  Several : Shape

abbrev pub HasShape : Shape → Forest → Type 0
HasShape Blank f = f ≡ forest.End
HasShape Single f = IsRooted f
HasShape Several f = Unit {0}

unfoldable pub is_within : Shape → Shape → Bool
is_within p Several = true
is_within Blank Blank = true
is_within Single Single = true
is_within p q = false

unfoldable pub join : Shape → Shape → Shape
join Blank Blank = Blank
join Single Single = Single
join p q = Several

unfoldable pub node_shape : Shape → Shape
node_shape Blank = Single
node_shape p = Several

-- What is taken as known of productions.
pub record Rooting : Type 0 where
  -- where each begins
  pub looks : Production → Look
  -- it gives one node, from this on
  pub is_one : Production → Bool
  pub start : Production → Shape

unfoldable pub call_shape : Rooting → Shape → Production → Shape
call_shape g p y = if is_within Blank (g.start y) then (if g.is_one y then node_shape p else Several) else Several

unfoldable pub continued_shape : Rooting → Shape → Production → Shape
continued_shape g p y = if is_within p (g.start y) then (if g.is_one y then Single else Several) else Several

-- the shape after a rule; the next token may be known to be joint
unfoldable pub shape : Rooting → (joint : Bool) → Shape → Rule → Shape
shape g j p Nothing = p
shape g j p (One x) = Several
shape g j p Any = Several
shape g j p (Then a b) = shape g false (shape g j p a) b
shape g j p (Near w a b) = shape g false (shape g j p a) b
shape g j p (Or a b) = join (shape g (implies (begins g.looks a) (Joint 0)) p a) (shape g false p b)
shape g j p (When l a) = shape g j p a
shape g j p (Unless l a) = shape g j p a
shape g j p (Opt a) = join (shape g false p a) p
shape g j p (Star a) = if is_within (shape g false p a) p then p else Several
shape g j p (Node kind a) = node_shape p
shape g j p (Wrap kind a) = Single
shape g j p (Want a message) = Several
shape g j p (Say message) = Several
shape g j p (Skip message) = Several
shape g j p Split = if j then Single else Several
shape g j p (Call y) = call_shape g p y
shape g j p (Continue y) = continued_shape g p y
shape g j p (Mode d a) = shape g j p a
shape g j p (Lead a) = if is_within (shape g false Blank a) Single then Single else Several

pub within-holds : (p q : Shape) (f : Forest) → is_within p q ≡ true → HasShape p f → HasShape q f
unfolding is_within
within-holds p Several f e h = tt
within-holds Blank Blank f e h = h
within-holds Single Single f e h = h
within-holds Several Blank f e h = absurd (true≢false (sym e))
within-holds Single Blank f e h = absurd (true≢false (sym e))
within-holds Several Single f e h = absurd (true≢false (sym e))
within-holds Blank Single f e h = absurd (true≢false (sym e))

join-first : (p q : Shape) (f : Forest) → HasShape p f → HasShape (join p q) f
unfolding join
join-first Blank Blank f h = h
join-first Single Single f h = h
join-first Blank Single f h = tt
join-first Blank Several f h = tt
join-first Single Blank f h = tt
join-first Single Several f h = tt
join-first Several q f h = tt

join-second : (p q : Shape) (f : Forest) → HasShape q f → HasShape (join p q) f
unfolding join
join-second Blank Blank f h = h
join-second Single Single f h = h
join-second Blank Single f h = tt
join-second Blank Several f h = tt
join-second Single Blank f h = tt
join-second Single Several f h = tt
join-second Several q f h = tt

-- one node after nothing
node-holds : (p : Shape) (f h : Forest) → HasShape p f → IsRooted h → HasShape (node_shape p) (f then h)
unfolding node_shape
node-holds Blank f h e r = subst (λ (k : Forest). IsRooted (k then h)) (sym e) r
node-holds Single f h e r = tt
node-holds Several f h e r = tt

-- These calls are as it is claimed.
pub record Rooted (g : Rooting) (call : Calls) : Type 0 where
  pub one_node : (y : Production) (d : Bool) (t : Reading) → g.is_one y ≡ true → HasShape (g.start y) t.given → IsRooted (call y d t).given

-- trees that stand first in one node
into-rooted : (g f : Forest) → IsRooted f → IsRooted (into g f)
into-rooted g f r = into-cases IsRooted g f (λ k c is. tt) (λ e c is. of e c (subst (λ (h : Forest). IsRooted h) is r)) tt
  where
    of : (e : Bool) (c : Forest) → IsRooted (forest.Float e c forest.End) → IsRooted (forest.Float e (g then c) forest.End)
    of true c h = h
    of false c h = h

if-shape : (b : Bool) (p : Shape) (f : Forest) → (b ≡ true → HasShape p f) → HasShape (if b then p else Several) f
if-shape true p f h = h refl
if-shape false p f h = tt

turns-keep : (p : Shape) (n : ℕ) (test : Reading → Bool) (turn : Reading → Reading) (s : Reading) → ((v : Reading) → HasShape p v.given → HasShape p (turn v).given) → HasShape p s.given → HasShape p (turns n test turn s).given
unfolding turns
turns-keep p zero test turn s each h = h
turns-keep p (suc n) test turn s each h =
    chosen (λ (u : Reading). HasShape p u.given) (test s) _ _
    (λ e. chosen (λ (u : Reading). HasShape p u.given) (nat_lt (length (turn s).rest) (length s.rest)) _ _ (λ f. turns-keep p n test turn (turn s) each (each s h)) (λ f. each s h))
    (λ e. h)

module _ (g : Rooting) (call : Calls) (ok : Rooted g call) where
  pub has-shape : (r : Rule) (j : Bool) (p : Shape) (c : Bool) (s : Reading) → (j ≡ true → (ahead 0 s.rest).joint ≡ true) → HasShape p s.given → HasShape (shape g j p r) (read g.looks call c r s).given
  unfolding shape read call_shape continued_shape leaf say skip split fresh node wrapped led after sees
  has-shape Nothing j p c s joint h = h
  has-shape (One x) j p c s joint h = tt
  has-shape Any j p c s joint h = tt
  has-shape (Then a b) j p c s joint h = has-shape b false (shape g j p a) c (read g.looks call c a s) (λ e. absurd (true≢false (sym e))) (has-shape a j p c s joint h)
  has-shape (Near w a b) j p c s joint h = has-shape b false (shape g j p a) c (read g.looks call c a s) (λ e. absurd (true≢false (sym e))) (has-shape a j p c s joint h)
  has-shape (Or a b) j p c s joint h =
      chosen (λ (u : Reading). HasShape (join (shape g (implies (begins g.looks a) (Joint 0)) p a) (shape g false p b)) u.given) (sees c s (begins g.looks a)) _ _
      (λ e. join-first (shape g (implies (begins g.looks a) (Joint 0)) p a) (shape g false p b) (read g.looks call c a s).given
      (has-shape a (implies (begins g.looks a) (Joint 0)) p c s (λ i. implied c s (begins g.looks a) (Joint 0) i e) h))
      (λ e. join-second (shape g (implies (begins g.looks a) (Joint 0)) p a) (shape g false p b) (read g.looks call c b s).given
      (has-shape b false p c s (λ i. absurd (true≢false (sym i))) h))
  has-shape (When l a) j p c s joint h = has-shape a j p c s joint h
  has-shape (Unless l a) j p c s joint h = has-shape a j p c s joint h
  has-shape (Opt a) j p c s joint h =
      chosen (λ (u : Reading). HasShape (join (shape g false p a) p) u.given) (sees c s (begins g.looks a)) _ _
      (λ e. join-first (shape g false p a) p (read g.looks call c a s).given (has-shape a false p c s (λ i. absurd (true≢false (sym i))) h))
      (λ e. join-second (shape g false p a) p s.given h)
  has-shape (Star a) j p c s joint h = if-shape (is_within (shape g false p a) p) p _ (λ e.
      turns-keep p (length s.rest) (λ t. sees c t (begins g.looks a)) (read g.looks call c a) s
      (λ v i. within-holds (shape g false p a) p (read g.looks call c a v).given e (has-shape a false p c v (λ k. absurd (true≢false (sym k))) i)) h)
  has-shape (Node kind a) j p c s joint h = node-holds p s.given (forest.Node kind (read g.looks call c a (fresh s)).given forest.End) h tt
  has-shape (Wrap kind a) j p c s joint h = tt
  has-shape (Want a message) j p c s joint h = tt
  has-shape (Say message) j p c s joint h = tt
  has-shape (Skip message) j p c s joint h = tt
  has-shape Split j p c s joint h = if-shape j Single _ (λ e. subst (λ (b : Bool). IsRooted (forest.Float (not b) s.given forest.End)) (sym (joint e)) tt)
  has-shape (Call y) j p c s joint h = if-shape (is_within Blank (g.start y)) _ _ (λ e. if-shape (g.is_one y) (node_shape p) _ (λ i.
      node-holds p s.given (call y c (fresh s)).given h (ok.one_node y c (fresh s) i (within-holds Blank (g.start y) forest.End e refl))))
  has-shape (Continue y) j p c s joint h = if-shape (is_within p (g.start y)) _ _ (λ e. if-shape (g.is_one y) Single _ (λ i.
      ok.one_node y c s i (within-holds p (g.start y) s.given e h)))
  has-shape (Mode d a) j p c s joint h = has-shape a j p d s joint h
  has-shape (Lead a) j p c s joint h = if-shape (is_within (shape g false Blank a) Single) Single _ (λ e.
      into-rooted s.given (read g.looks call c a (fresh s)).given
      (within-holds (shape g false Blank a) Single (read g.looks call c a (fresh s)).given e (has-shape a false Blank c (fresh s) (λ i. absurd (true≢false (sym i))) refl)))
