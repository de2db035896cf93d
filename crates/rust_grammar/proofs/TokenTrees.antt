-- A test of a table: its token trees are bracketed.
use Rattle.std.proofs.Common.{◌≡◌, ℕ, zero, suc, Bool, true, false, not, ◌&&◌, ◌==◌, length, nat_lt, refl, sym, ap, subst, ◌∙◌, if◌then◌else◌, true≢false}
use Rattle.parser_input.specs.Kinds.{TOKEN_TREE, ERROR}
use Rattle.parser_events.specs.Forest as forest
use Rattle.parser_events.specs.Forest.{Forest, Message, ◌then◌}
use Rattle.rust_grammar.specs.TokenTrees.{partner, is_opening, is_missing, ends_with, is_bracketed, are_token_trees_bracketed}
use Rattle.rust_grammar.specs.Rule.{Production, Rule, Look, token_tree, Nothing, One, Any, Then, Near, Or, Opt, Star, Node, Wrap, Want, Say, Skip, Split, When, Unless, Call, Continue, Mode, Lead, begins}
use Rattle.rust_grammar.specs.Meaning.{Reading, Calls, read, sees, ahead, fresh, leaf, say, skip, split, node, wrapped, into, led, after, turns}
use Rattle.rust_grammar.proofs.Plain.{and_l, and_r}
use Rattle.rust_grammar.proofs.Spelled.{chosen}
use Rattle.rust_grammar.proofs.Spelling.{both-true}
use Rattle.rust_grammar.proofs.Leads.{into-cases}

-- a rule that adds to what was given
unfoldable pub adds : Rule → Bool
adds (Then a b) = adds a && adds b
adds (Near w a b) = adds a && adds b
adds (Or a b) = adds a && adds b
adds (When l a) = adds a
adds (Unless l a) = adds a
adds (Opt a) = adds a
adds (Star a) = adds a
adds (Want a m) = adds a
adds (Mode c a) = adds a
adds (Wrap k a) = false
adds (Continue y) = false
adds Split = false
adds (Lead a) = false
adds r = true

unfoldable pub ends_in : ℕ → Rule → Bool
ends_in k (Want (One x) m) = x.kind == k && length x.parts == 1 && is_missing k m
ends_in k (Then a b) = adds a && ends_in k b
ends_in k r = false

unfoldable pub is_tree : Rule → Bool
is_tree (Then (One x) a) = is_opening x.kind && length x.parts == 1 && ends_in (partner x.kind) a
is_tree r = false

-- no token tree stands at the top of what a production gives, but one
unfoldable pub is_free : Production → Bool
is_free token_tree = false
is_free y = true

-- from trees with no token tree at the top, or from any, a rule comes to such
unfoldable pub clears : Bool → Rule → Bool
clears p Nothing = p
clears p (One x) = p
clears p Any = p
clears p (Then a b) = clears (clears p a) b
clears p (Near w a b) = clears (clears p a) b
clears p (Or a b) = clears p a && clears p b
clears p (When l a) = clears p a
clears p (Unless l a) = clears p a
clears p (Opt a) = p && clears p a
clears p (Star a) = p && clears p a
clears p (Node k a) = p && not (k == TOKEN_TREE)
clears p (Wrap k a) = not (k == TOKEN_TREE)
clears p (Want a m) = p && clears p a
clears p (Say m) = p
clears p (Skip m) = p
clears p Split = true
clears p (Call y) = p && is_free y
clears p (Continue y) = p && is_free y
clears p (Mode c a) = clears p a
clears p (Lead a) = clears true a

-- The test: each token tree is so written, and nothing leads into one.
unfoldable pub brackets : Rule → Bool
brackets (Then a b) = brackets a && brackets b
brackets (Near w a b) = brackets a && brackets b
brackets (Or a b) = brackets a && brackets b
brackets (When l a) = brackets a
brackets (Unless l a) = brackets a
brackets (Opt a) = brackets a
brackets (Star a) = brackets a
brackets (Want a m) = brackets a
brackets (Mode c a) = brackets a
brackets (Lead a) = brackets a && clears true a
brackets (Node k a) = (if k == TOKEN_TREE then is_tree a else true) && brackets a
brackets (Wrap k a) = not (k == TOKEN_TREE) && brackets a
brackets r = true

-- trees one after another
pub then-bracketed : (f h : Forest) → are_token_trees_bracketed f ≡ true → are_token_trees_bracketed h ≡ true → are_token_trees_bracketed (f then h) ≡ true
unfolding are_token_trees_bracketed
then-bracketed forest.End h e i = i
then-bracketed (forest.Leaf k n f) h e i = then-bracketed f h e i
then-bracketed (forest.Said m f) h e i = then-bracketed f h e i
then-bracketed (forest.ErrorLeaf m k f) h e i = then-bracketed f h e i
then-bracketed (forest.Node k c f) h e i =
    let own = and_l ((if k == TOKEN_TREE then is_bracketed c else true) && are_token_trees_bracketed c) (are_token_trees_bracketed f) e in
    both-true _ _ own (then-bracketed f h (and_r ((if k == TOKEN_TREE then is_bracketed c else true) && are_token_trees_bracketed c) (are_token_trees_bracketed f) e) i)
then-bracketed (forest.Float b c f) h e i =
    both-true _ _ (and_l (are_token_trees_bracketed c) (are_token_trees_bracketed f) e) (then-bracketed f h (and_r (are_token_trees_bracketed c) (are_token_trees_bracketed f) e) i)

then-then : (f g h : Forest) → (f then g) then h ≡ f then (g then h)
then-then forest.End g h = refl
then-then (forest.Leaf k n f) g h = ap (λ (x : Forest). forest.Leaf k n x) (then-then f g h)
then-then (forest.Said m f) g h = ap (λ (x : Forest). forest.Said m x) (then-then f g h)
then-then (forest.ErrorLeaf m k f) g h = ap (λ (x : Forest). forest.ErrorLeaf m k x) (then-then f g h)
then-then (forest.Node k c f) g h = ap (λ (x : Forest). forest.Node k c x) (then-then f g h)
then-then (forest.Float b c f) g h = ap (λ (x : Forest). forest.Float b c x) (then-then f g h)

then-nothing : (f : Forest) → f then forest.End ≡ f
then-nothing forest.End = refl
then-nothing (forest.Leaf k n f) = ap (λ (x : Forest). forest.Leaf k n x) (then-nothing f)
then-nothing (forest.Said m f) = ap (λ (x : Forest). forest.Said m x) (then-nothing f)
then-nothing (forest.ErrorLeaf m k f) = ap (λ (x : Forest). forest.ErrorLeaf m k x) (then-nothing f)
then-nothing (forest.Node k c f) = ap (λ (x : Forest). forest.Node k c x) (then-nothing f)
then-nothing (forest.Float b c f) = ap (λ (x : Forest). forest.Float b c x) (then-nothing f)

some-end : (k j n : ℕ) (f : Forest) → ends_with k f ≡ true → ends_with k (forest.Leaf j n f) ≡ true
unfolding ends_with
some-end k j n forest.End e = absurd (true≢false (sym e))
some-end k j n (forest.Leaf i m f) e = e
some-end k j n (forest.Said m f) e = e
some-end k j n (forest.ErrorLeaf m i f) e = e
some-end k j n (forest.Node i c f) e = e
some-end k j n (forest.Float b c f) e = e

said-end : (k : ℕ) (m : Message) (f : Forest) → ends_with k f ≡ true → ends_with k (forest.Said m f) ≡ true
unfolding ends_with
said-end k m forest.End e = absurd (true≢false (sym e))
said-end k m (forest.Leaf i j f) e = e
said-end k m (forest.Said l f) e = e
said-end k m (forest.ErrorLeaf l i f) e = e
said-end k m (forest.Node i c f) e = e
said-end k m (forest.Float b c f) e = e

ends-then : (k : ℕ) (f h : Forest) → ends_with k h ≡ true → ends_with k (f then h) ≡ true
unfolding ends_with
ends-then k forest.End h e = e
ends-then k (forest.Leaf j n f) h e = some-end k j n (f then h) (ends-then k f h e)
ends-then k (forest.Said m f) h e = said-end k m (f then h) (ends-then k f h e)
ends-then k (forest.ErrorLeaf m j f) h e = ends-then k f h e
ends-then k (forest.Node j c f) h e = ends-then k f h e
ends-then k (forest.Float b c f) h e = ends-then k f h e

-- what was given, and more
record Added (s t : Reading) : Type 0 where
  pub more : Forest
  pub is : t.given ≡ s.given then more

none-added : (s : Reading) → Added s s
none-added s = record { more = forest.End; is = sym (then-nothing s.given) }

added-twice : (s t u : Reading) → Added s t → Added t u → Added s u
added-twice s t u a b = record { more = a.more then b.more; is = b.is ∙ ap (λ (f : Forest). f then b.more) a.is ∙ then-then s.given a.more b.more }

turns-add : (n : ℕ) (test : Reading → Bool) (turn : Reading → Reading) (s : Reading) → ((v : Reading) → Added v (turn v)) → Added s (turns n test turn s)
unfolding turns
turns-add zero test turn s each = none-added s
turns-add (suc n) test turn s each =
    chosen (Added s) (test s) _ _
    (λ e. chosen (Added s) (nat_lt (length (turn s).rest) (length s.rest)) _ _ (λ f. added-twice s (turn s) _ (each s) (turns-add n test turn (turn s) each)) (λ f. each s))
    (λ e. none-added s)

-- it ends so, and begins with what was given
record Ended (k : ℕ) (s t : Reading) : Type 0 where
  pub more : Forest
  pub is : t.given ≡ s.given then more
  pub end : ends_with k more ≡ true

module _ (looks : Production → Look) (call : Calls) where
  added : (r : Rule) (c : Bool) (s : Reading) → adds r ≡ true → Added s (read looks call c r s)
  unfolding adds read leaf say skip node after
  added Nothing c s e = none-added s
  added (One x) c s e = record { more = forest.Leaf x.kind (length x.parts) forest.End; is = refl }
  added Any c s e = record { more = forest.Leaf (ahead 0 s.rest).kind 1 forest.End; is = refl }
  added (Then a b) c s e = added-twice s (read looks call c a s) _ (added a c s (and_l (adds a) (adds b) e)) (added b c (read looks call c a s) (and_r (adds a) (adds b) e))
  added (Near w a b) c s e = added-twice s (read looks call c a s) _ (added a c s (and_l (adds a) (adds b) e)) (added b c (read looks call c a s) (and_r (adds a) (adds b) e))
  added (Or a b) c s e = chosen (Added s) (sees c s (begins looks a)) _ _ (λ i. added a c s (and_l (adds a) (adds b) e)) (λ i. added b c s (and_r (adds a) (adds b) e))
  added (When l a) c s e = added a c s e
  added (Unless l a) c s e = added a c s e
  added (Opt a) c s e = chosen (Added s) (sees c s (begins looks a)) _ _ (λ i. added a c s e) (λ i. none-added s)
  added (Star a) c s e = turns-add (length s.rest) (λ t. sees c t (begins looks a)) (read looks call c a) s (λ v. added a c v e)
  added (Node k a) c s e = record { more = forest.Node k (read looks call c a (fresh s)).given forest.End; is = refl }
  added (Want a m) c s e = chosen (Added s) (sees c s (begins looks a)) _ _ (λ i. added a c s e) (λ i. record { more = forest.Said m forest.End; is = refl })
  added (Say m) c s e = record { more = forest.Said m forest.End; is = refl }
  added (Skip m) c s e = record { more = forest.ErrorLeaf m (ahead 0 s.rest).kind forest.End; is = refl }
  added (Call y) c s e = record { more = (call y c (fresh s)).given; is = refl }
  added (Mode d a) c s e = added a d s e
  added (Wrap k a) c s e = absurd (true≢false (sym e))
  added (Continue y) c s e = absurd (true≢false (sym e))
  added Split c s e = absurd (true≢false (sym e))
  added (Lead a) c s e = absurd (true≢false (sym e))

  ends-so : (a : Rule) (k : ℕ) (c : Bool) (s : Reading) → ends_in k a ≡ true → Ended k s (read looks call c a s)
  unfolding ends_in ends_with read leaf say
  ends-so (Want (One x) m) k c s e =
      chosen (Ended k s) (sees c s (begins looks (One x))) _ _
      (λ i. record { more = forest.Leaf x.kind (length x.parts) forest.End; is = refl; end = and_l (x.kind == k && length x.parts == 1) (is_missing k m) e })
      (λ i. record { more = forest.Said m forest.End; is = refl; end = and_r (x.kind == k && length x.parts == 1) (is_missing k m) e })
  ends-so (Then a b) k c s e =
      let first = added a c s (and_l (adds a) (ends_in k b) e) in
      let second = ends-so b k c (read looks call c a s) (and_r (adds a) (ends_in k b) e) in
      record {
        more = first.more then second.more;
        is = second.is ∙ ap (λ (f : Forest). f then second.more) first.is ∙ then-then s.given first.more second.more;
        end = ends-then k first.more second.more second.end;
      }
  ends-so a k c s e = absurd (true≢false (sym e))

  tree-bracketed : (a : Rule) (c : Bool) (s : Reading) → is_tree a ≡ true → is_bracketed (read looks call c a (fresh s)).given ≡ true
  unfolding is_tree is_bracketed read leaf fresh
  tree-bracketed (Then (One x) a) c s e =
      let start = leaf x.kind (length x.parts) (fresh s) in
      let end = ends-so a (partner x.kind) c start (and_r (is_opening x.kind && length x.parts == 1) (ends_in (partner x.kind) a) e) in
      subst (λ (f : Forest). is_bracketed f ≡ true) (sym end.is)
      (both-true (is_opening x.kind && length x.parts == 1) (ends_with (partner x.kind) end.more) (and_l (is_opening x.kind && length x.parts == 1) (ends_in (partner x.kind) a) e) end.end)
  tree-bracketed a c s e = absurd (true≢false (sym e))

-- no token tree stands at the top
unfoldable pub no_tree : Forest → Bool
no_tree forest.End = true
no_tree (forest.Leaf k n f) = no_tree f
no_tree (forest.Said m f) = no_tree f
no_tree (forest.ErrorLeaf m k f) = no_tree f
no_tree (forest.Node k c f) = not (k == TOKEN_TREE) && no_tree f
no_tree (forest.Float e c f) = no_tree f

then-none : (f h : Forest) → no_tree f ≡ true → no_tree h ≡ true → no_tree (f then h) ≡ true
unfolding no_tree
then-none forest.End h e i = i
then-none (forest.Leaf k n f) h e i = then-none f h e i
then-none (forest.Said m f) h e i = then-none f h e i
then-none (forest.ErrorLeaf m k f) h e i = then-none f h e i
then-none (forest.Node k c f) h e i = both-true (not (k == TOKEN_TREE)) (no_tree (f then h)) (and_l (not (k == TOKEN_TREE)) (no_tree f) e) (then-none f h (and_r (not (k == TOKEN_TREE)) (no_tree f) e) i)
then-none (forest.Float b c f) h e i = then-none f h e i

into-none : (g f : Forest) → no_tree f ≡ true → no_tree (into g f) ≡ true
unfolding no_tree
into-none g f e =
    into-cases (λ (h : Forest). no_tree h ≡ true) g f
    (λ k c is. subst (λ (h : Forest). no_tree h ≡ true) is e) (λ b c is. refl) refl

abbrev pub KeepsFree : Production → Bool → Reading → Reading → Type 0
KeepsFree y d t u = is_free y ≡ true → no_tree t.given ≡ true → no_tree u.given ≡ true

module _ (looks : Production → Look) (call : Calls) (ok : (y : Production) (d : Bool) (t : Reading) → KeepsFree y d t (call y d t)) where
  turns-free : (n : ℕ) (test : Reading → Bool) (turn : Reading → Reading) (s : Reading) → ((v : Reading) → no_tree v.given ≡ true → no_tree (turn v).given ≡ true) → no_tree s.given ≡ true → no_tree (turns n test turn s).given ≡ true
  unfolding turns
  turns-free zero test turn s each h = h
  turns-free (suc n) test turn s each h =
      chosen (λ (u : Reading). no_tree u.given ≡ true) (test s) _ _
      (λ e. chosen (λ (u : Reading). no_tree u.given ≡ true) (nat_lt (length (turn s).rest) (length s.rest)) _ _ (λ f. turns-free n test turn (turn s) each (each s h)) (λ f. each s h))
      (λ e. h)

  pub cleared : (r : Rule) (p : Bool) (c : Bool) (s : Reading) → (p ≡ true → no_tree s.given ≡ true) → clears p r ≡ true → no_tree (read looks call c r s).given ≡ true
  unfolding clears read leaf say skip split fresh node wrapped led after no_tree
  cleared Nothing p c s h e = h e
  cleared (One x) p c s h e = then-none s.given (forest.Leaf x.kind (length x.parts) forest.End) (h e) refl
  cleared Any p c s h e = then-none s.given (forest.Leaf (ahead 0 s.rest).kind 1 forest.End) (h e) refl
  cleared (Then a b) p c s h e = cleared b (clears p a) c (read looks call c a s) (λ i. cleared a p c s h i) e
  cleared (Near w a b) p c s h e = cleared b (clears p a) c (read looks call c a s) (λ i. cleared a p c s h i) e
  cleared (Or a b) p c s h e =
      chosen (λ (u : Reading). no_tree u.given ≡ true) (sees c s (begins looks a)) _ _
      (λ i. cleared a p c s h (and_l (clears p a) (clears p b) e)) (λ i. cleared b p c s h (and_r (clears p a) (clears p b) e))
  cleared (When l a) p c s h e = cleared a p c s h e
  cleared (Unless l a) p c s h e = cleared a p c s h e
  cleared (Opt a) p c s h e =
      chosen (λ (u : Reading). no_tree u.given ≡ true) (sees c s (begins looks a)) _ _
      (λ i. cleared a p c s h (and_r p (clears p a) e)) (λ i. h (and_l p (clears p a) e))
  cleared (Star a) p c s h e =
      turns-free (length s.rest) (λ t. sees c t (begins looks a)) (read looks call c a) s (λ v i. cleared a p c v (λ j. i) (and_r p (clears p a) e)) (h (and_l p (clears p a) e))
  cleared (Node k a) p c s h e =
      then-none s.given (forest.Node k (read looks call c a (fresh s)).given forest.End) (h (and_l p (not (k == TOKEN_TREE)) e)) (both-true (not (k == TOKEN_TREE)) true (and_r p (not (k == TOKEN_TREE)) e) refl)
  cleared (Wrap k a) p c s h e = both-true (not (k == TOKEN_TREE)) true e refl
  cleared (Want a m) p c s h e =
      chosen (λ (u : Reading). no_tree u.given ≡ true) (sees c s (begins looks a)) _ _
      (λ i. cleared a p c s h (and_r p (clears p a) e)) (λ i. then-none s.given (forest.Said m forest.End) (h (and_l p (clears p a) e)) refl)
  cleared (Say m) p c s h e = then-none s.given (forest.Said m forest.End) (h e) refl
  cleared (Skip m) p c s h e = then-none s.given (forest.ErrorLeaf m (ahead 0 s.rest).kind forest.End) (h e) refl
  cleared Split p c s h e = refl
  cleared (Call y) p c s h e = then-none s.given (call y c (fresh s)).given (h (and_l p (is_free y) e)) (ok y c (fresh s) (and_r p (is_free y) e) refl)
  cleared (Continue y) p c s h e = ok y c s (and_r p (is_free y) e) (h (and_l p (is_free y) e))
  cleared (Mode d a) p c s h e = cleared a p d s h e
  cleared (Lead a) p c s h e = into-none s.given (read looks call c a (fresh s)).given (cleared a true c (fresh s) (λ i. refl) e)

-- what is taken of calls
abbrev pub KeepsBrackets : Production → Bool → Reading → Reading → Type 0
KeepsBrackets y d t u = are_token_trees_bracketed t.given ≡ true → are_token_trees_bracketed u.given ≡ true

module _ (looks : Production → Look) (call : Calls) (ok : (y : Production) (d : Bool) (t : Reading) → KeepsBrackets y d t (call y d t)) (free : (y : Production) (d : Bool) (t : Reading) → KeepsFree y d t (call y d t)) where
  if-tree : (b : Bool) (x y : Bool) → (if b then x else true) ≡ true → (x ≡ true → y ≡ true) → (if b then y else true) ≡ true
  if-tree true x y e f = f e
  if-tree false x y e f = refl

  if-none : (b : Bool) (x : Bool) → not b ≡ true → (if b then x else true) ≡ true
  if-none true x e = absurd (true≢false (sym e))
  if-none false x e = refl

  node-bracketed : (k : ℕ) (c : Forest) → (if k == TOKEN_TREE then is_bracketed c else true) ≡ true → are_token_trees_bracketed c ≡ true → are_token_trees_bracketed (forest.Node k c forest.End) ≡ true
  unfolding are_token_trees_bracketed
  node-bracketed k c e i = both-true ((if k == TOKEN_TREE then is_bracketed c else true) && are_token_trees_bracketed c) true (both-true (if k == TOKEN_TREE then is_bracketed c else true) (are_token_trees_bracketed c) e i) refl

  into-bracketed : (g f : Forest) → are_token_trees_bracketed g ≡ true → are_token_trees_bracketed f ≡ true → no_tree f ≡ true → are_token_trees_bracketed (into g f) ≡ true
  unfolding are_token_trees_bracketed no_tree
  into-bracketed g f h i e =
      into-cases (λ (t : Forest). are_token_trees_bracketed t ≡ true) g f
      (λ k c is.
      let other : (not (k == TOKEN_TREE) && true) ≡ true = subst (λ (t : Forest). no_tree t ≡ true) is e in
      let own : ((if k == TOKEN_TREE then is_bracketed c else true) && are_token_trees_bracketed c && true) ≡ true = subst (λ (t : Forest). are_token_trees_bracketed t ≡ true) is i in
      let within = and_r (if k == TOKEN_TREE then is_bracketed c else true) (are_token_trees_bracketed c) (and_l ((if k == TOKEN_TREE then is_bracketed c else true) && are_token_trees_bracketed c) true own) in
      node-bracketed k (g then c) (if-none (k == TOKEN_TREE) _ (and_l (not (k == TOKEN_TREE)) true other)) (then-bracketed g c h within))
      (λ b c is.
      let own : (are_token_trees_bracketed c && true) ≡ true = subst (λ (t : Forest). are_token_trees_bracketed t ≡ true) is i in
      both-true (are_token_trees_bracketed (g then c)) true (then-bracketed g c h (and_l (are_token_trees_bracketed c) true own)) refl)
      (node-bracketed ERROR (g then f) refl (then-bracketed g f h i))

  turns-bracketed : (n : ℕ) (test : Reading → Bool) (turn : Reading → Reading) (s : Reading) → ((v : Reading) → are_token_trees_bracketed v.given ≡ true → are_token_trees_bracketed (turn v).given ≡ true) → are_token_trees_bracketed s.given ≡ true → are_token_trees_bracketed (turns n test turn s).given ≡ true
  unfolding turns
  turns-bracketed zero test turn s each h = h
  turns-bracketed (suc n) test turn s each h =
      chosen (λ (u : Reading). are_token_trees_bracketed u.given ≡ true) (test s) _ _
      (λ e. chosen (λ (u : Reading). are_token_trees_bracketed u.given ≡ true) (nat_lt (length (turn s).rest) (length s.rest)) _ _ (λ f. turns-bracketed n test turn (turn s) each (each s h)) (λ f. each s h))
      (λ e. h)

  pub bracketed : (r : Rule) (c : Bool) (s : Reading) → brackets r ≡ true → are_token_trees_bracketed s.given ≡ true → are_token_trees_bracketed (read looks call c r s).given ≡ true
  unfolding brackets read leaf say skip split fresh node wrapped led after are_token_trees_bracketed no_tree
  bracketed Nothing c s e h = h
  bracketed (One x) c s e h = then-bracketed s.given (forest.Leaf x.kind (length x.parts) forest.End) h refl
  bracketed Any c s e h = then-bracketed s.given (forest.Leaf (ahead 0 s.rest).kind 1 forest.End) h refl
  bracketed (Then a b) c s e h = bracketed b c (read looks call c a s) (and_r (brackets a) (brackets b) e) (bracketed a c s (and_l (brackets a) (brackets b) e) h)
  bracketed (Near w a b) c s e h = bracketed b c (read looks call c a s) (and_r (brackets a) (brackets b) e) (bracketed a c s (and_l (brackets a) (brackets b) e) h)
  bracketed (Or a b) c s e h =
      chosen (λ (u : Reading). are_token_trees_bracketed u.given ≡ true) (sees c s (begins looks a)) _ _
      (λ i. bracketed a c s (and_l (brackets a) (brackets b) e) h) (λ i. bracketed b c s (and_r (brackets a) (brackets b) e) h)
  bracketed (When l a) c s e h = bracketed a c s e h
  bracketed (Unless l a) c s e h = bracketed a c s e h
  bracketed (Opt a) c s e h = chosen (λ (u : Reading). are_token_trees_bracketed u.given ≡ true) (sees c s (begins looks a)) _ _ (λ i. bracketed a c s e h) (λ i. h)
  bracketed (Star a) c s e h = turns-bracketed (length s.rest) (λ t. sees c t (begins looks a)) (read looks call c a) s (λ v i. bracketed a c v e i) h
  bracketed (Node k a) c s e h =
      let own = and_l (if k == TOKEN_TREE then is_tree a else true) (brackets a) e in
      let inner = bracketed a c (fresh s) (and_r (if k == TOKEN_TREE then is_tree a else true) (brackets a) e) refl in
      then-bracketed s.given (forest.Node k (read looks call c a (fresh s)).given forest.End) h
      (node-bracketed k (read looks call c a (fresh s)).given (if-tree (k == TOKEN_TREE) (is_tree a) _ own (λ i. tree-bracketed looks call a c s i)) inner)
  bracketed (Wrap k a) c s e h =
      node-bracketed k (read looks call c a s).given (if-none (k == TOKEN_TREE) _ (and_l (not (k == TOKEN_TREE)) (brackets a) e)) (bracketed a c s (and_r (not (k == TOKEN_TREE)) (brackets a) e) h)
  bracketed (Want a m) c s e h =
      chosen (λ (u : Reading). are_token_trees_bracketed u.given ≡ true) (sees c s (begins looks a)) _ _ (λ i. bracketed a c s e h) (λ i. then-bracketed s.given (forest.Said m forest.End) h refl)
  bracketed (Say m) c s e h = then-bracketed s.given (forest.Said m forest.End) h refl
  bracketed (Skip m) c s e h = then-bracketed s.given (forest.ErrorLeaf m (ahead 0 s.rest).kind forest.End) h refl
  bracketed Split c s e h = both-true (are_token_trees_bracketed s.given) true h refl
  bracketed (Call y) c s e h = then-bracketed s.given (call y c (fresh s)).given h (ok y c (fresh s) refl)
  bracketed (Continue y) c s e h = ok y c s h
  bracketed (Mode d a) c s e h = bracketed a d s e h
  bracketed (Lead a) c s e h =
      let t = read looks call c a (fresh s) in
      into-bracketed s.given t.given h (bracketed a c (fresh s) (and_l (brackets a) (clears true a) e) refl)
      (cleared looks call free a true c (fresh s) (λ i. refl) (and_r (brackets a) (clears true a) e))
