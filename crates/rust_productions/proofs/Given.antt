-- What completes a node where something was given in it, or where nothing was.
use Rattle.std.proofs.Common.{◌≡◌, ℕ, zero, suc, ◌<◌, nat_lt, length, Bool, true, false, not, List, ◌∷◌, refl, sym, ap, subst, ◌∙◌, arith, if◌then◌else◌}
use Rattle.parser_events.specs.Forest as forest
use Rattle.parser_events.specs.Forest.{Forest, ◌then◌}
use Rattle.parser_events.specs.Marked.{Marked, ◌beside◌, marked}
use Rattle.parser_events.specs.View.{View}
use Rattle.parser_events.proofs.Forests.{marked-then}
use Rattle.rust_productions.specs.Stands.{left, Holds}
use Rattle.rust_grammar.specs.Rule.{Production, Rule, Call, Continue, Given, Node, Opt, Or, Star, Then, When, begins}
use Rattle.rust_grammar.specs.Meaning.{Reading, after, fresh, is_end, meaning, node, read, sees, turns}
use Rattle.rust_grammar.specs.Whole.{rule, whole}
use Rattle.rust_grammar.proofs.WholeTable.{whole-means}
use Rattle.rust_productions.specs.Reads.{looks, FromStart, Completes, CompletesWhere, Does, Opens, Reads, Condition, is_on}
use Rattle.rust_productions.proofs.ByHand.{does-as, does-then}
use Rattle.rust_productions.proofs.Choices.{simple, is_simple}
use Rattle.rust_productions.proofs.Facts.{Fact, Known}

-- whatever was given
pub where-any : {g : Bool} {c : Condition} {r : Rule} {old new : View} → Completes c r old new → CompletesWhere g c r old new
where-any p = record { input = p.input; rest = λ s g e. p.rest s e; nodes = λ s around below g e h. p.nodes s around below e h; innermost = p.innermost }

-- where it is known which of the two it is
pub where-so : {g b : Bool} {c : Condition} {r : Rule} {old new : View} → g ≡ b → CompletesWhere b c r old new → CompletesWhere g c r old new
where-so {g} {b} {c} {r} {old} {new} is p = subst (λ (d : Bool). CompletesWhere d c r old new) (sym is) p

where-as :
    {g : Bool} {c : Condition} {a b : Rule} {old new : View}
    → ((s : Reading) → is_end s.given ≡ not g → left old ≡ s.rest → read looks (meaning whole) (is_on c) a s ≡ read looks (meaning whole) (is_on c) b s)
    → CompletesWhere g c a old new → CompletesWhere g c b old new
where-as {g} {c} {a} {b} {old} {new} same p = record {
  input = p.input;
  rest = λ s g e. p.rest s g e ∙ ap (λ (t : Reading). t.rest) (same s g e);
  nodes = λ s around below g e h. subst (λ (t : Reading). Holds new.nodes ((around beside marked t.given) ∷ below)) (same s g e) (p.nodes s around below g e h);
  innermost = p.innermost;
}

-- a rule is read as what it comes to here
pub where-here : {g : Bool} {c : Condition} {fs : List Fact} {r : Rule} {old new : View} → Known c fs old → CompletesWhere g c (simple fs r) old new → CompletesWhere g c r old new
where-here {g} {c} {fs} {r} {old} {new} known p = where-as (λ s g e. is_simple (is_on c) old fs known.at r s e) p

pub where-look : {g : Bool} {c : Condition} {a : Rule} {old mid new : View} → Does (λ s. s) old mid → CompletesWhere g c a mid new → CompletesWhere g c a old new
where-look p q = record {
  input = q.input ∙ p.input;
  rest = λ s g e. q.rest s g (p.rest s e);
  nodes = λ s around below g e h. q.nodes s around below g (p.rest s e) (p.nodes s (around ∷ below) e h);
  innermost = λ level i. q.innermost level (p.innermost (suc level) i);
}

-- what continues the present production, by its row
pub where-more : {g : Bool} {c : Condition} {x : Production} {old new : View} → CompletesWhere g c (rule x) old new → CompletesWhere g c (Continue x) old new
unfolding read
where-more {g} {c} {x} p = where-as (λ s g e. sym (whole-means x (is_on c) s)) p

-- after what keeps what was given
pub where-then :
    {c : Condition} {a b : Rule} {old mid new : View} → Reads c a old mid
    → ((s : Reading) → is_end s.given ≡ false → is_end (read looks (meaning whole) (is_on c) a s).given ≡ false)
    → CompletesWhere true c b mid new → CompletesWhere true c (Then a b) old new
unfolding read
where-then {c} {a} p keeps q = record {
  input = q.input ∙ p.does.input;
  rest = λ s g e. q.rest (read looks (meaning whole) (is_on c) a s) (keeps s g) (p.does.rest s e);
  nodes = λ s around below g e h. q.nodes (read looks (meaning whole) (is_on c) a s) around below (keeps s g) (p.does.rest s e) (p.does.nodes s (around ∷ below) e h);
  innermost = λ level i. q.innermost level (p.does.innermost (suc level) i);
}

-- what is read where something was given, and what is where nothing was
pub where-given : {c : Condition} {a b : Rule} {old new : View} → Completes c a old new → CompletesWhere true c (Or (When Given a) b) old new
unfolding read begins sees
where-given {c} {a} {b} p = where-as {a = a} (λ s g e. rw g refl) (where-any p)

pub where-nothing : {c : Condition} {a b : Rule} {old new : View} → Completes c b old new → CompletesWhere false c (Or (When Given a) b) old new
unfolding read begins sees
where-nothing {c} {a} {b} p = where-as {a = b} (λ s g e. rw g refl) (where-any p)

-- in a node that is opened first nothing was given
pub from_start-nothing : {c : Condition} {r : Rule} {old mid new : View} → Opens old mid → CompletesWhere false c r mid new → FromStart c r old new
unfolding marked fresh after is_end
from_start-nothing {c} {r} {old} {mid} {new} o q = record {
  does = record {
    input = q.input ∙ o.input;
    rest = λ s e. q.rest (fresh s) refl (o.rest ∙ e);
    nodes = λ s below e h.
        subst (λ (t : Marked). Holds new.nodes (t ∷ below)) (sym (marked-then s.given (read looks (meaning whole) (is_on c) r (fresh s)).given))
        (q.nodes (fresh s) (marked s.given) below refl (o.rest ∙ e) (o.nodes (marked s.given) below h));
    innermost = λ around i. q.innermost around (o.innermost around i);
  };
}

-- and after what gave something
pub from_start-given :
    {c : Condition} {d r : Rule} {old mid end new : View} → Opens old mid → Reads c d mid end
    → ((s : Reading) → left mid ≡ s.rest → is_end (read looks (meaning whole) (is_on c) d (fresh s)).given ≡ false)
    → CompletesWhere true c r end new → FromStart c (Then d r) old new
unfolding marked fresh after read
from_start-given {c} {d} {r} {old} {mid} {end} {new} o p gave q = record {
  does = record {
    input = q.input ∙ p.does.input ∙ o.input;
    rest = λ s e. q.rest (first s) (gave s (o.rest ∙ e)) (p.does.rest (fresh s) (o.rest ∙ e));
    nodes = λ s below e h.
        subst (λ (t : Marked). Holds new.nodes (t ∷ below)) (sym (marked-then s.given (read looks (meaning whole) (is_on c) r (first s)).given))
        (q.nodes (first s) (marked s.given) below (gave s (o.rest ∙ e)) (p.does.rest (fresh s) (o.rest ∙ e))
        (p.does.nodes (fresh s) (marked s.given ∷ below) (o.rest ∙ e) (o.nodes (marked s.given) below h)));
    innermost = λ around i. q.innermost around (p.does.innermost (suc around) (o.innermost around i));
  };
}
  where
    first : Reading → Reading
    first s = read looks (meaning whole) (is_on c) d (fresh s)

-- Trees that stand before others, or after others, are some.
then-some : (f g : Forest) → is_end f ≡ false → is_end (f then g) ≡ false
unfolding is_end
then-some forest.End g e = absurd (let z : true ≡ false = e in cc)
then-some (forest.Leaf k n f) g e = refl
then-some (forest.Said m f) g e = refl
then-some (forest.ErrorLeaf m k f) g e = refl
then-some (forest.Node k h f) g e = refl
then-some (forest.Float b h f) g e = refl

some-then : (f g : Forest) → is_end g ≡ false → is_end (f then g) ≡ false
unfolding is_end
some-then forest.End g e = e
some-then (forest.Leaf k n f) g e = refl
some-then (forest.Said m f) g e = refl
some-then (forest.ErrorLeaf m k f) g e = refl
some-then (forest.Node k h f) g e = refl
some-then (forest.Float b h f) g e = refl

module _ (x : Production) (c : Condition) {k : ℕ} {a : Rule} (is_node : rule x ≡ Node k a) where
  -- a production that is one node gives something
  pub call-gives : (s : Reading) → is_end (read looks (meaning whole) (is_on c) (Call x) s).given ≡ false
  unfolding read after node fresh is_end
  call-gives s =
      some-then s.given (meaning whole x (is_on c) (fresh s)).given
      (ap (λ (t : Reading). is_end t.given) (whole-means x (is_on c) (fresh s) ∙ ap (λ (r : Rule). read looks (meaning whole) (is_on c) r (fresh s)) is_node))

  turns-keep : (n : ℕ) (test : Reading → Bool) (s : Reading) → is_end s.given ≡ false → is_end (turns n test (read looks (meaning whole) (is_on c) (Call x)) s).given ≡ false
  unfolding turns
  turns-keep zero test s e = e
  turns-keep (suc n) test s e =
      let turn = read looks (meaning whole) (is_on c) (Call x) in
      either (test s) (nat_lt (length (turn s).rest) (length s.rest)) (turns n test turn (turn s)) (turn s) s (turns-keep n test (turn s) (call-gives s)) (call-gives s) e
    where
      either : (b d : Bool) (p q r : Reading) → is_end p.given ≡ false → is_end q.given ≡ false → is_end r.given ≡ false → is_end (if b then (if d then p else q) else r).given ≡ false
      either true true p q r e f g = e
      either true false p q r e f g = f
      either false d p q r e f g = g

  -- and so do turns of it, where one is taken
  pub turns-give : (s : Reading) → 0 < length s.rest → sees (is_on c) s (begins looks (Call x)) ≡ true → is_end (read looks (meaning whole) (is_on c) (Star (Call x)) s).given ≡ false
  unfolding read turns
  turns-give s some begun = first (length s.rest) refl
    where
      turn : Reading → Reading
      turn = read looks (meaning whole) (is_on c) (Call x)

      test : Reading → Bool
      test t = sees (is_on c) t (begins looks (Call x))

      either : (d : Bool) (p q : Reading) → is_end p.given ≡ false → is_end q.given ≡ false → is_end (if d then p else q).given ≡ false
      either true p q e f = e
      either false p q e f = f

      first : (n : ℕ) → length s.rest ≡ n → is_end (turns n test turn s).given ≡ false
      first zero none = absurd (omega (arith, some, none))
      first (suc n) is = rw begun (either (nat_lt (length (turn s).rest) (length s.rest)) (turns n test turn (turn s)) (turn s) (turns-keep n test (turn s) (call-gives s)) (call-gives s))

  -- turns keep what was given
  pub stars-keep : (s : Reading) → is_end s.given ≡ false → is_end (read looks (meaning whole) (is_on c) (Star (Call x)) s).given ≡ false
  unfolding read
  stars-keep s e = turns-keep (length s.rest) (λ t. sees (is_on c) t (begins looks (Call x))) s e

  -- an option keeps what was given
  pub option-keeps : (s : Reading) → is_end s.given ≡ false → is_end (read looks (meaning whole) (is_on c) (Opt (Call x)) s).given ≡ false
  unfolding read
  option-keeps s e = either (sees (is_on c) s (begins looks (Call x))) (read looks (meaning whole) (is_on c) (Call x) s) s (call-gives s) e
    where
      either : (d : Bool) (p q : Reading) → is_end p.given ≡ false → is_end q.given ≡ false → is_end (if d then p else q).given ≡ false
      either true p q e f = e
      either false p q e f = f

-- parts of a rule that are read together
pub from_start-apart : {c : Condition} {a b d : Rule} {old new : View} → FromStart c (Then (Then a b) d) old new → FromStart c (Then a (Then b d)) old new
unfolding read
from_start-apart p = record { does = does-as (λ s e. refl) p.does }

module _ (c : Condition) where
  pub reads-two : {a b d : Rule} {old mid new : View} → Reads c (Then a b) old mid → Reads c d mid new → Reads c (Then a (Then b d)) old new
  unfolding read
  reads-two p q = record { does = does-as (λ s e. refl) (does-then p.does q.does) }

  pub reads-three : {a b d r : Rule} {old mid new : View} → Reads c (Then a (Then b d)) old mid → Reads c r mid new → Reads c (Then a (Then b (Then d r))) old new
  unfolding read
  reads-three p q = record { does = does-as (λ s e. refl) (does-then p.does q.does) }
