-- How what functions do goes together to what rules say.
use Rattle.std.proofs.Common.{◌≡◌, ℕ, suc, true, false, [], ◌∷◌, length, refl, sym, ap, subst, ◌∙◌, None}
use Rattle.parser_input.specs.Kinds.{ERROR}
use Rattle.parser_events.specs.Forest as forest
use Rattle.parser_events.specs.Forest.{Forest, Message, ◌then◌}
use Rattle.parser_events.specs.Marked.{Marked, ◌beside◌, marked}
use Rattle.parser_events.specs.View.{View}
use Rattle.parser_events.proofs.Forests.{marked-then}
use Rattle.rust_productions.specs.Stands.{left, Holds}
use Rattle.rust_grammar.specs.Rule.{Production, Look, Spelling, Rule, Nothing, One, Any, Then, Near, Or, Opt, Node, Wrap, Want, Say, Skip, When, Unless, Call, Continue, Mode, begins}
use Rattle.rust_grammar.specs.Meaning.{Reading, ahead, fresh, after, node, wrapped, say, skip, leaf, read, meaning}
use Rattle.rust_grammar.specs.Whole.{rule, whole}
use Rattle.rust_productions.specs.Reads.{looks, Opens, Closes, Leaves, Does, Gives, Goes, Reads, Completes, Saw, Condition, is_on}
use Rattle.rust_grammar.proofs.WholeTable.{whole-means}

-- nothing is done
pub does-nothing : (v : View) → Does (λ s. s) v v
does-nothing v = record { input = refl; rest = λ s e. e; nodes = λ s below e h. h; innermost = λ around i. i }

-- one after the other
pub does-then : {f g : Reading → Reading} {old mid new : View} → Does f old mid → Does g mid new → Does (λ s. g (f s)) old new
does-then {f} p q = record {
  input = q.input ∙ p.input;
  rest = λ s e. q.rest (f s) (p.rest s e);
  nodes = λ s below e h. q.nodes (f s) below (p.rest s e) (p.nodes s below e h);
  innermost = λ around i. q.innermost around (p.innermost around i);
}

-- an equal function does what this one does
pub does-as : {f g : Reading → Reading} {old new : View} → ((s : Reading) → left old ≡ s.rest → f s ≡ g s) → Does f old new → Does g old new
does-as {f} {g} {old} {new} same p = record {
  input = p.input;
  rest = λ s e. p.rest s e ∙ ap (λ (t : Reading). t.rest) (same s e);
  nodes = λ s below e h. subst (λ (t : Reading). Holds new.nodes (marked t.given ∷ below)) (same s e) (p.nodes s below e h);
  innermost = p.innermost;
}

-- a node around what is done in it
pub does-node : {f : Reading → Reading} (kind : ℕ) {old mid end new : View} → Opens old mid → Does f mid end → Closes kind end new → Does (λ s. node kind s (f (fresh s))) old new
unfolding marked fresh node
does-node {f} kind {old} {mid} {end} {new} o p q = record {
  input = q.input ∙ p.input ∙ o.input;
  rest = λ s e. q.rest ∙ p.rest (fresh s) (o.rest ∙ e);
  nodes = λ s below e h.
      subst (λ (t : Marked). Holds new.nodes (t ∷ below)) (sym (marked-then s.given (forest.Node kind (f (fresh s)).given forest.End)))
      (q.nodes (marked (f (fresh s)).given) (marked s.given) below (p.nodes (fresh s) (marked s.given ∷ below) (o.rest ∙ e) (o.nodes (marked s.given) below h)));
  innermost = λ around i. q.innermost around (p.innermost (suc around) (o.innermost around i));
}

-- what is done in a node that is left out
pub does-inside : {f : Reading → Reading} {old mid end new : View} → Opens old mid → Does f mid end → Leaves end new → Does (λ s. after s (f (fresh s))) old new
unfolding marked fresh after
does-inside {f} {old} {mid} {end} {new} o p q = record {
  input = q.input ∙ p.input ∙ o.input;
  rest = λ s e. q.rest ∙ p.rest (fresh s) (o.rest ∙ e);
  nodes = λ s below e h.
      subst (λ (t : Marked). Holds new.nodes (t ∷ below)) (sym (marked-then s.given (f (fresh s)).given))
      (q.nodes (marked (f (fresh s)).given) (marked s.given) below (p.nodes (fresh s) (marked s.given ∷ below) (o.rest ∙ e) (o.nodes (marked s.given) below h)));
  innermost = λ around i. q.innermost around (p.innermost (suc around) (o.innermost around i));
}

module _ (c : Condition) where
  pub reads-nothing : {old new : View} → Does (λ s. s) old new → Reads c Nothing old new
  unfolding read
  reads-nothing p = record { does = does-as (λ s e. refl) p }

  pub reads-then : {a b : Rule} {old mid new : View} → Reads c a old mid → Reads c b mid new → Reads c (Then a b) old new
  unfolding read
  reads-then p q = record { does = does-as (λ s e. refl) (does-then p.does q.does) }

  pub reads-near : {w : ℕ} {a b : Rule} {old mid new : View} → Reads c a old mid → Reads c b mid new → Reads c (Near w a b) old new
  unfolding read
  reads-near p q = record { does = does-as (λ s e. refl) (does-then p.does q.does) }

  pub reads-or : {a b : Rule} {old new : View} → Saw c (begins looks a) old true → Reads c a old new → Reads c (Or a b) old new
  unfolding read
  reads-or saw p = record { does = does-as (λ s e. rw (saw.at s e) refl) p.does }

  pub reads-else : {a b : Rule} {old new : View} → Saw c (begins looks a) old false → Reads c b old new → Reads c (Or a b) old new
  unfolding read
  reads-else saw p = record { does = does-as (λ s e. rw (saw.at s e) refl) p.does }

  pub reads-want : {a : Rule} {m : Message} {old new : View} → Saw c (begins looks a) old true → Reads c a old new → Reads c (Want a m) old new
  unfolding read
  reads-want saw p = record { does = does-as (λ s e. rw (saw.at s e) refl) p.does }

  pub reads-miss : {a : Rule} {m : Message} {old new : View} → Saw c (begins looks a) old false → Does (say m) old new → Reads c (Want a m) old new
  unfolding read
  reads-miss saw p = record { does = does-as (λ s e. rw (saw.at s e) refl) p }

  pub reads-missing : {a : Rule} {m : Message} {old new : View} → Saw c (begins looks a) old false → Reads c (Say m) old new → Reads c (Want a m) old new
  unfolding read
  reads-missing saw p = record { does = does-as (λ s e. rw (saw.at s e) refl) p.does }

  pub reads-opt : {a : Rule} {old new : View} → Saw c (begins looks a) old true → Reads c a old new → Reads c (Opt a) old new
  unfolding read
  reads-opt saw p = record { does = does-as (λ s e. rw (saw.at s e) refl) p.does }

  pub reads-none : {a : Rule} {old new : View} → Saw c (begins looks a) old false → Does (λ s. s) old new → Reads c (Opt a) old new
  unfolding read
  reads-none saw p = record { does = does-as (λ s e. rw (saw.at s e) refl) p }

  pub reads-node : {k : ℕ} {a : Rule} {old mid end new : View} → Opens old mid → Reads c a mid end → Closes k end new → Reads c (Node k a) old new
  unfolding read
  reads-node {k} o p q = record { does = does-as (λ s e. refl) (does-node k o p.does q) }

  pub reads-wrap : {k : ℕ} {a : Rule} {old mid new : View} → Reads c a old mid → Does (wrapped k) mid new → Reads c (Wrap k a) old new
  unfolding read
  reads-wrap p q = record { does = does-as (λ s e. refl) (does-then p.does q) }

  pub reads-call : {x : Production} {old new : View} → Gives x c old new → Reads c (Call x) old new
  unfolding read
  reads-call p = record { does = does-as (λ s e. refl) p.does }

  pub reads-more : {x : Production} {old new : View} → Goes x c old new → Reads c (Continue x) old new
  unfolding read
  reads-more p = record { does = does-as (λ s e. refl) p.does }

  pub reads-mode : {d : Condition} {a : Rule} {old new : View} → Reads d a old new → Reads c (Mode (is_on d) a) old new
  unfolding read
  reads-mode p = record { does = does-as (λ s e. refl) p.does }

  pub reads-when : {l : Look} {a : Rule} {old new : View} → Reads c a old new → Reads c (When l a) old new
  unfolding read
  reads-when p = record { does = does-as (λ s e. refl) p.does }

  pub reads-unless : {l : Look} {a : Rule} {old new : View} → Reads c a old new → Reads c (Unless l a) old new
  unfolding read
  reads-unless p = record { does = does-as (λ s e. refl) p.does }

  pub reads-leaf : {x : Spelling} {old new : View} → Does (leaf x.kind (length x.parts)) old new → Reads c (One x) old new
  unfolding read
  reads-leaf p = record { does = does-as (λ s e. refl) p }

  -- the next token, whatever it is
  pub reads-any : {kind : ℕ} {old mid new : View} → ((s : Reading) → left old ≡ s.rest → (ahead 0 s.rest).kind ≡ kind) → Does (λ s. s) old mid → Reads c (One (record { kind = kind; contextual = None; parts = kind ∷ [] })) mid new → Reads c Any old new
  unfolding read
  reads-any next p q = record { does = does-as (λ s e. ap (λ (k : ℕ). leaf k 1 s) (sym (next s e))) (does-then p q.does) }

  -- a message and the next token in an error
  pub reads-error : {m : Message} {old mid end new : View} → Opens old mid → Reads c (Then (Say m) Any) mid end → Closes ERROR end new → Reads c (Skip m) old new
  unfolding read skip node leaf say fresh marked
  reads-error {m} {old} {mid} {end} {new} o p q = record {
    does = record {
      input = (does-node ERROR o p.does q).input;
      rest = (does-node ERROR o p.does q).rest;
      nodes = λ s below e h.
          subst (λ (t : Marked). Holds new.nodes (t ∷ below))
          (marked-then s.given (forest.Node ERROR (forest.Said m (forest.Leaf (ahead 0 s.rest).kind 1 forest.End)) forest.End)
          ∙ sym (marked-then s.given (forest.ErrorLeaf m (ahead 0 s.rest).kind forest.End)))
          ((does-node ERROR o p.does q).nodes s below e h);
      innermost = (does-node ERROR o p.does q).innermost;
    };
  }

  -- a look before it
  pub after-look : {a : Rule} {old mid new : View} → Does (λ s. s) old mid → Reads c a mid new → Reads c a old new
  after-look p q = record { does = does-then p q.does }

  pub reads-say : {m : Message} {old new : View} → Does (say m) old new → Reads c (Say m) old new
  unfolding read
  reads-say p = record { does = does-as (λ s e. refl) p }

  pub reads-skip : {m : Message} {old new : View} → Does (skip m) old new → Reads c (Skip m) old new
  unfolding read
  reads-skip p = record { does = does-as (λ s e. refl) p }

-- a production's function, from its rule, in a node of its own that is left out in the end
pub gives : (x : Production) (c : Condition) {old mid end new : View} → Opens old mid → Reads c (rule x) mid end → Leaves end new → Gives x c old new
gives x c o p q = record { does = does-as (λ s e. ap (λ (t : Reading). after s t) (sym (whole-means x (is_on c) (fresh s)))) (does-inside o p.does q) }

-- and one that continues
pub goes : (x : Production) (c : Condition) {old new : View} → Reads c (rule x) old new → Goes x c old new
goes x c p = record { does = does-as (λ s e. sym (whole-means x (is_on c) s)) p.does }

-- A node that is closed at the end of what is read in it.
module _ {c : Condition} where
  pub completes-then : {a b : Rule} {old mid new : View} → Reads c a old mid → Completes c b mid new → Completes c (Then a b) old new
  unfolding read
  completes-then {a} p q = record {
    input = q.input ∙ p.does.input;
    rest = λ s e. q.rest (read looks (meaning whole) (is_on c) a s) (p.does.rest s e);
    nodes = λ s around below e h. q.nodes (read looks (meaning whole) (is_on c) a s) around below (p.does.rest s e) (p.does.nodes s (around ∷ below) e h);
    innermost = λ level i. q.innermost level (p.does.innermost (suc level) i);
  }

  -- as one of this kind
  pub completes-wrap : {k : ℕ} {a : Rule} {old mid new : View} → Reads c a old mid → Closes k mid new → Completes c (Wrap k a) old new
  unfolding read wrapped marked
  completes-wrap {k} {a} p q = record {
    input = q.input ∙ p.does.input;
    rest = λ s e. q.rest ∙ p.does.rest s e;
    nodes = λ s around below e h. q.nodes (marked (read looks (meaning whole) (is_on c) a s).given) around below (p.does.nodes s (around ∷ below) e h);
    innermost = λ level i. q.innermost level (p.does.innermost (suc level) i);
  }

  -- or left out
  pub completes-leave : {a : Rule} {old mid new : View} → Reads c a old mid → Leaves mid new → Completes c a old new
  completes-leave {a} p q = record {
    input = q.input ∙ p.does.input;
    rest = λ s e. q.rest ∙ p.does.rest s e;
    nodes = λ s around below e h. q.nodes (marked (read looks (meaning whole) (is_on c) a s).given) around below (p.does.nodes s (around ∷ below) e h);
    innermost = λ level i. q.innermost level (p.does.innermost (suc level) i);
  }

  pub completes-look : {a : Rule} {old mid new : View} → Does (λ s. s) old mid → Completes c a mid new → Completes c a old new
  completes-look p q = record {
    input = q.input ∙ p.input;
    rest = λ s e. q.rest s (p.rest s e);
    nodes = λ s around below e h. q.nodes s around below (p.rest s e) (p.nodes s (around ∷ below) e h);
    innermost = λ level i. q.innermost level (p.innermost (suc level) i);
  }

  pub completes-as : {a b : Rule} {old new : View} → ((s : Reading) → left old ≡ s.rest → read looks (meaning whole) (is_on c) a s ≡ read looks (meaning whole) (is_on c) b s) → Completes c a old new → Completes c b old new
  completes-as {a} {b} {old} {new} same p = record {
    input = p.input;
    rest = λ s e. p.rest s e ∙ ap (λ (t : Reading). t.rest) (same s e);
    nodes = λ s around below e h. subst (λ (t : Reading). Holds new.nodes ((around beside marked t.given) ∷ below)) (same s e) (p.nodes s around below e h);
    innermost = p.innermost;
  }

  -- what continues the present production, by its row
  pub completes-more : {x : Production} {old new : View} → Completes c (rule x) old new → Completes c (Continue x) old new
  unfolding read
  completes-more {x} p = completes-as (λ s e. sym (whole-means x (is_on c) s)) p
