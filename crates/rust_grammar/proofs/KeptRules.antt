-- A test of two rules: where no token says that the whole language is read, the first gives what the second does.
use Rattle.std.proofs.Common.{◌≡◌, ℕ, zero, suc, Bool, true, false, not, ◌&&◌, length, nat_lt, nat_eq, refl, sym, ap, ◌∙◌, inl, inr, if◌then◌else◌, true≢false}
use Rattle.std.proofs.lemmas.Bool.{cases_Bool, eqb-true}
use Rattle.parser_events.specs.Forest as forest
use Rattle.parser_events.specs.Forest.{Forest, Message}
use Rattle.rust_grammar.specs.Rule.{Production, type_no_bounds, any_type, Look, Spelling, Rule, Nothing, One, Any, Then, Near, Or, Opt, Star, Node, Wrap, Want, Say, Skip, Split, When, Unless, Call, Continue, Mode, Lead, begins, pattern_atom, arm_body, single_pattern}
use Rattle.rust_grammar.specs.Meaning.{Reading, Calls, read, sees, fresh, leaf, say, skip, split, node, wrapped, led, after, turns}
use Rattle.rust_grammar.specs.Kept.{say_nothing}
use Rattle.rust_grammar.proofs.Plain.{and_l, and_r}
use Rattle.rust_grammar.proofs.Productions.{same_production, same_production-true}
use Rattle.rust_grammar.proofs.Shrinks.{no-turns}
use Rattle.rust_grammar.proofs.Spelled.{chosen}
use Rattle.rust_grammar.proofs.Spelling.{same_parts, same-parts}
use Rattle.rust_grammar.proofs.Quiet.{dropped-nothing, alike, alike-seen, is_new, new-unseen}

-- the production of the profile that a new production replaces; `arm_body` replaces none
unfoldable pub stands_for : Production → Production
stands_for type_no_bounds = any_type
stands_for pattern_atom = single_pattern
stands_for x = x

unfoldable pub stands : Production → Bool
stands arm_body = false
stands x = true

unfoldable pub same_message : Message → Message → Bool
same_message (forest.Expected k) (forest.Expected j) = nat_eq k j
same_message (forest.UnexpectedIn k) (forest.UnexpectedIn j) = nat_eq k j
same_message forest.ExpectedType forest.ExpectedType = true
same_message forest.ExpectedExpression forest.ExpectedExpression = true
same_message forest.ExpectedPattern forest.ExpectedPattern = true
same_message forest.ExpectedItem forest.ExpectedItem = true
same_message forest.ExpectedStatement forest.ExpectedStatement = true
same_message forest.ExpectedMatchArm forest.ExpectedMatchArm = true
same_message forest.ExpectedField forest.ExpectedField = true
same_message m n = false

same-message : (m n : Message) → same_message m n ≡ true → m ≡ n
unfolding same_message
same-message (forest.Expected k) (forest.Expected j) e = ap (λ (i : ℕ). forest.Expected i) (eqb-true k j e)
same-message (forest.UnexpectedIn k) (forest.UnexpectedIn j) e = ap (λ (i : ℕ). forest.UnexpectedIn i) (eqb-true k j e)
same-message forest.ExpectedType forest.ExpectedType e = refl
same-message forest.ExpectedExpression forest.ExpectedExpression e = refl
same-message forest.ExpectedPattern forest.ExpectedPattern e = refl
same-message forest.ExpectedItem forest.ExpectedItem e = refl
same-message forest.ExpectedStatement forest.ExpectedStatement e = refl
same-message forest.ExpectedMatchArm forest.ExpectedMatchArm e = refl
same-message forest.ExpectedField forest.ExpectedField e = refl
same-message m n e = absurd (true≢false (sym e))

unfoldable pub same_spelling : Spelling → Spelling → Bool
same_spelling x y = nat_eq x.kind y.kind && same_parts x.parts y.parts

unfoldable pub same_call : Production → Production → Bool
same_call y z = stands y && same_production (stands_for y) z

unfoldable pub same_mode : Bool → Bool → Bool
same_mode true d = d
same_mode false d = not d

-- an option or a repetition of what the whole language alone has
unfoldable pub is_left_out : (Production → Look) → Rule → Bool
is_left_out l (Opt a) = is_new (begins l a)
is_left_out l (Star a) = is_new (begins l a)
is_left_out l a = false

-- The test, given where productions begin in both tables.
unfoldable pub kept : (l m : Production → Look) → Rule → Rule → Bool
kept l m (When k a) (When j b) = kept l m a b
kept l m (When k a) b = kept l m a b
kept l m (Unless k a) (Unless j b) = kept l m a b
kept l m (Unless k a) b = kept l m a b
kept l m (Or a b) (Or d e) =
    let both = alike (begins l a) (begins m d) && kept l m a d && kept l m b e in
    if is_new (begins l a) then kept l m b (Or d e) else both
kept l m (Or a b) d = is_new (begins l a) && kept l m b d
kept l m (Then a b) (Then d e) =
    let both = kept l m a d && kept l m b e in
    let last = if is_left_out l b then kept l m a (Then d e) else both in
    if is_left_out l a then kept l m b (Then d e) else last
kept l m (Then a b) d =
    let last = is_left_out l b && kept l m a d in
    if is_left_out l a then kept l m b d else last
kept l m (Near w a b) (Near v d e) = kept l m a d && kept l m b e
kept l m (Opt a) (Opt b) = alike (begins l a) (begins m b) && kept l m a b
kept l m (Star a) (Star b) = alike (begins l a) (begins m b) && kept l m a b
kept l m (Node k a) (Node j b) = nat_eq k j && kept l m a b
kept l m (Wrap k a) (Wrap j b) = nat_eq k j && kept l m a b
kept l m (Want a s) (Want b t) = alike (begins l a) (begins m b) && kept l m a b && same_message s t
kept l m (Mode c a) (Mode d b) = same_mode c d && kept l m a b
kept l m (Lead a) (Lead b) = kept l m a b
kept l m (Say s) (Say t) = same_message s t
kept l m (Skip s) (Skip t) = same_message s t
kept l m (One x) (One y) = same_spelling x y
kept l m (Call y) (Call z) = same_call y z
kept l m (Continue y) (Continue z) = same_call y z
kept l m Nothing Nothing = true
kept l m Any Any = true
kept l m Split Split = true
kept l m a b = false

same-mode : (c d : Bool) → same_mode c d ≡ true → c ≡ d
unfolding same_mode
same-mode true true e = refl
same-mode true false e = sym e
same-mode false true e = e
same-mode false false e = refl

same-spelling : (x y : Spelling) (s : Reading) → same_spelling x y ≡ true → leaf x.kind (length x.parts) s ≡ leaf y.kind (length y.parts) s
unfolding same_spelling
same-spelling x y s e = rw (eqb-true x.kind y.kind (and_l (nat_eq x.kind y.kind) (same_parts x.parts y.parts) e), same-parts x.parts y.parts (and_r (nat_eq x.kind y.kind) (same_parts x.parts y.parts) e)) refl

-- two choices that agree
if-both : (a b : Bool) (u v x y : Reading) → a ≡ b → u ≡ x → v ≡ y → (if a then u else v) ≡ (if b then x else y)
if-both true true u v x y e p q = p
if-both false false u v x y e p q = q
if-both true false u v x y e p q = absurd (true≢false e)
if-both false true u v x y e p q = absurd (true≢false (sym e))

-- no token that is left says so
abbrev pub Silent : Reading → Type 0
Silent s = say_nothing s.rest ≡ true

turns-silent : (n : ℕ) (test : Reading → Bool) (turn : Reading → Reading) (s : Reading) → ((v : Reading) → Silent v → Silent (turn v)) → Silent s → Silent (turns n test turn s)
unfolding turns
turns-silent zero test turn s each h = h
turns-silent (suc n) test turn s each h =
    chosen Silent (test s) _ _
    (λ e. chosen Silent (nat_lt (length (turn s).rest) (length s.rest)) _ _ (λ f. turns-silent n test turn (turn s) each (each s h)) (λ f. each s h))
    (λ e. h)

module _ (looks : Production → Look) (call : Calls) (ok : (y : Production) (d : Bool) (t : Reading) → Silent t → Silent (call y d t)) where
  pub stays-silent : (r : Rule) (c : Bool) (s : Reading) → Silent s → Silent (read looks call c r s)
  unfolding read leaf say skip split fresh node wrapped led after
  stays-silent Nothing c s h = h
  stays-silent (One x) c s h = dropped-nothing (length x.parts) s.rest h
  stays-silent Any c s h = dropped-nothing 1 s.rest h
  stays-silent (Then a b) c s h = stays-silent b c (read looks call c a s) (stays-silent a c s h)
  stays-silent (Near w a b) c s h = stays-silent b c (read looks call c a s) (stays-silent a c s h)
  stays-silent (Or a b) c s h = chosen Silent (sees c s (begins looks a)) _ _ (λ e. stays-silent a c s h) (λ e. stays-silent b c s h)
  stays-silent (When l a) c s h = stays-silent a c s h
  stays-silent (Unless l a) c s h = stays-silent a c s h
  stays-silent (Opt a) c s h = chosen Silent (sees c s (begins looks a)) _ _ (λ e. stays-silent a c s h) (λ e. h)
  stays-silent (Star a) c s h = turns-silent (length s.rest) (λ t. sees c t (begins looks a)) (read looks call c a) s (λ v i. stays-silent a c v i) h
  stays-silent (Node k a) c s h = stays-silent a c (fresh s) h
  stays-silent (Wrap k a) c s h = stays-silent a c s h
  stays-silent (Want a m) c s h = chosen Silent (sees c s (begins looks a)) _ _ (λ e. stays-silent a c s h) (λ e. h)
  stays-silent (Say m) c s h = h
  stays-silent (Skip m) c s h = dropped-nothing 1 s.rest h
  stays-silent Split c s h = dropped-nothing 1 s.rest h
  stays-silent (Call y) c s h = ok y c (fresh s) h
  stays-silent (Continue y) c s h = ok y c s h
  stays-silent (Mode d a) c s h = stays-silent a d s h
  stays-silent (Lead a) c s h = stays-silent a c (fresh s) h

turns-same : (n : ℕ) (test other : Reading → Bool) (turn next : Reading → Reading) (s : Reading) → ((v : Reading) → Silent v → test v ≡ other v) → ((v : Reading) → Silent v → turn v ≡ next v) → ((v : Reading) → Silent v → Silent (turn v)) → Silent s → turns n test turn s ≡ turns n other next s
unfolding turns
turns-same zero test other turn next s tests each more h = refl
turns-same (suc n) test other turn next s tests each more h =
    if-both (test s) (other s) _ _ _ _ (tests s h)
    (if-both (nat_lt (length (turn s).rest) (length s.rest)) (nat_lt (length (next s).rest) (length s.rest)) _ _ _ _
    (ap (λ (u : Reading). nat_lt (length u.rest) (length s.rest)) (each s h))
    (turns-same n test other turn next (turn s) tests each more (more s h) ∙ ap (λ (u : Reading). turns n other next u) (each s h)) (each s h))
    refl

module _ (l m : Production → Look) (call gives : Calls) (silent : (y : Production) (d : Bool) (t : Reading) → Silent t → Silent (call y d t)) (agree : (y : Production) (d : Bool) (t : Reading) → stands y ≡ true → Silent t → call y d t ≡ gives (stands_for y) d t) where
  reads : Bool → Rule → Reading → Reading
  reads c a s = read l call c a s

  left-out : (a : Rule) (c : Bool) (s : Reading) → is_left_out l a ≡ true → Silent s → read l call c a s ≡ s
  unfolding is_left_out read
  left-out (Opt a) c s e h = rw (new-unseen (begins l a) c s e h) refl
  left-out (Star a) c s e h = no-turns (length s.rest) (λ t. sees c t (begins l a)) (read l call c a) s (new-unseen (begins l a) c s e h)
  left-out a c s e h = absurd (true≢false (sym e))

  called : (y z : Production) (c : Bool) (s : Reading) → same_call y z ≡ true → Silent s → call y c s ≡ gives z c s
  unfolding same_call
  called y z c s e h = agree y c s (and_l (stands y) (same_production (stands_for y) z) e) h ∙ ap (λ (x : Production). gives x c s) (same_production-true (stands_for y) z (and_r (stands y) (same_production (stands_for y) z) e))

  -- a choice whose first part is new
  second-so : (a b d : Rule) (c : Bool) (s : Reading) → is_new (begins l a) ≡ true → Silent s → read l call c b s ≡ read m gives c d s → read l call c (Or a b) s ≡ read m gives c d s
  unfolding read
  second-so a b d c s e h i = rw (new-unseen (begins l a) c s e h) i

  -- a sequence of which a part is left out
  first-out : (a b d : Rule) (c : Bool) (s : Reading) → is_left_out l a ≡ true → Silent s → read l call c b s ≡ read m gives c d s → read l call c (Then a b) s ≡ read m gives c d s
  unfolding read
  first-out a b d c s e h i = ap (λ (u : Reading). read l call c b u) (left-out a c s e h) ∙ i

  last-out : (a b d : Rule) (c : Bool) (s : Reading) → is_left_out l b ≡ true → Silent s → read l call c a s ≡ read m gives c d s → read l call c (Then a b) s ≡ read m gives c d s
  unfolding read
  last-out a b d c s e h i = left-out b c (read l call c a s) e (stays-silent l call silent a c s h) ∙ i

  -- The test is sound.
  pub kept-so : (r t : Rule) (c : Bool) (s : Reading) → kept l m r t ≡ true → Silent s → read l call c r s ≡ read m gives c t s
  unfolding kept read leaf say skip split fresh node wrapped led after
  kept-so (When k a) (When j b) c s e h = kept-so a b c s e h
  kept-so (When k a) b c s e h = kept-so a b c s e h
  kept-so (Unless k a) (Unless j b) c s e h = kept-so a b c s e h
  kept-so (Unless k a) b c s e h = kept-so a b c s e h
  kept-so (Or a b) (Or d f) c s e h = elim (cases_Bool (is_new (begins l a))) [
    | inl i ↦ second-so a b (Or d f) c s i h (kept-so b (Or d f) c s (sym (rw i refl) ∙ e) h)
    | inr i ↦
        let both : (alike (begins l a) (begins m d) && kept l m a d && kept l m b f) ≡ true = sym (rw i refl) ∙ e in
        let first = and_l (alike (begins l a) (begins m d) && kept l m a d) (kept l m b f) both in
        if-both (sees c s (begins l a)) (sees c s (begins m d)) _ _ _ _
        (alike-seen (begins l a) (begins m d) c s (and_l (alike (begins l a) (begins m d)) (kept l m a d) first) h)
        (kept-so a d c s (and_r (alike (begins l a) (begins m d)) (kept l m a d) first) h)
        (kept-so b f c s (and_r (alike (begins l a) (begins m d) && kept l m a d) (kept l m b f) both) h)
  ]
  kept-so (Or a b) d c s e h = second-so a b d c s (and_l (is_new (begins l a)) (kept l m b d) e) h (kept-so b d c s (and_r (is_new (begins l a)) (kept l m b d) e) h)
  kept-so (Then a b) (Then d f) c s e h = elim (cases_Bool (is_left_out l a)) [
    | inl i ↦ first-out a b (Then d f) c s i h (kept-so b (Then d f) c s (sym (rw i refl) ∙ e) h)
    | inr i ↦ elim (cases_Bool (is_left_out l b)) [
      | inl j ↦ last-out a b (Then d f) c s j h (kept-so a (Then d f) c s (sym (rw (i, j) refl) ∙ e) h)
      | inr j ↦
          let both : (kept l m a d && kept l m b f) ≡ true = sym (rw (i, j) refl) ∙ e in
          kept-so b f c (read l call c a s) (and_r (kept l m a d) (kept l m b f) both) (stays-silent l call silent a c s h)
          ∙ ap (λ (u : Reading). read m gives c f u) (kept-so a d c s (and_l (kept l m a d) (kept l m b f) both) h)
    ]
  ]
  kept-so (Then a b) d c s e h = elim (cases_Bool (is_left_out l a)) [
    | inl i ↦ first-out a b d c s i h (kept-so b d c s (sym (rw i refl) ∙ e) h)
    | inr i ↦
        let last : (is_left_out l b && kept l m a d) ≡ true = sym (rw i refl) ∙ e in
        last-out a b d c s (and_l (is_left_out l b) (kept l m a d) last) h (kept-so a d c s (and_r (is_left_out l b) (kept l m a d) last) h)
  ]
  kept-so (Near w a b) (Near v d f) c s e h =
      kept-so b f c (read l call c a s) (and_r (kept l m a d) (kept l m b f) e) (stays-silent l call silent a c s h)
      ∙ ap (λ (u : Reading). read m gives c f u) (kept-so a d c s (and_l (kept l m a d) (kept l m b f) e) h)
  kept-so (Opt a) (Opt b) c s e h =
      if-both (sees c s (begins l a)) (sees c s (begins m b)) _ _ _ _
      (alike-seen (begins l a) (begins m b) c s (and_l (alike (begins l a) (begins m b)) (kept l m a b) e) h)
      (kept-so a b c s (and_r (alike (begins l a) (begins m b)) (kept l m a b) e) h) refl
  kept-so (Star a) (Star b) c s e h =
      turns-same (length s.rest) (λ t. sees c t (begins l a)) (λ t. sees c t (begins m b)) (read l call c a) (read m gives c b) s
      (λ v i. alike-seen (begins l a) (begins m b) c v (and_l (alike (begins l a) (begins m b)) (kept l m a b) e) i)
      (λ v i. kept-so a b c v (and_r (alike (begins l a) (begins m b)) (kept l m a b) e) i)
      (λ v i. stays-silent l call silent a c v i) h
  kept-so (Node k a) (Node j b) c s e h = rw (eqb-true k j (and_l (nat_eq k j) (kept l m a b) e)) (ap (λ (u : Reading). node j s u) (kept-so a b c (fresh s) (and_r (nat_eq k j) (kept l m a b) e) h))
  kept-so (Wrap k a) (Wrap j b) c s e h = rw (eqb-true k j (and_l (nat_eq k j) (kept l m a b) e)) (ap (λ (u : Reading). wrapped j u) (kept-so a b c s (and_r (nat_eq k j) (kept l m a b) e) h))
  kept-so (Want a n) (Want b o) c s e h =
      let first = and_l (alike (begins l a) (begins m b) && kept l m a b) (same_message n o) e in
      if-both (sees c s (begins l a)) (sees c s (begins m b)) _ _ _ _
      (alike-seen (begins l a) (begins m b) c s (and_l (alike (begins l a) (begins m b)) (kept l m a b) first) h)
      (kept-so a b c s (and_r (alike (begins l a) (begins m b)) (kept l m a b) first) h)
      (ap (λ (k : Message). say k s) (same-message n o (and_r (alike (begins l a) (begins m b) && kept l m a b) (same_message n o) e)))
  kept-so (Mode d a) (Mode f b) c s e h = kept-so a b d s (and_r (same_mode d f) (kept l m a b) e) h ∙ ap (λ (i : Bool). read m gives i b s) (same-mode d f (and_l (same_mode d f) (kept l m a b) e))
  kept-so (Lead a) (Lead b) c s e h = ap (λ (u : Reading). led s u) (kept-so a b c (fresh s) e h)
  kept-so (Say n) (Say o) c s e h = ap (λ (k : Message). say k s) (same-message n o e)
  kept-so (Skip n) (Skip o) c s e h = ap (λ (k : Message). skip k s) (same-message n o e)
  kept-so (One x) (One y) c s e h = same-spelling x y s e
  kept-so (Call y) (Call z) c s e h = ap (λ (u : Reading). after s u) (called y z c (fresh s) e h)
  kept-so (Continue y) (Continue z) c s e h = called y z c s e h
  kept-so Nothing Nothing c s e h = refl
  kept-so Any Any c s e h = refl
  kept-so Split Split c s e h = refl
  kept-so a b c s e h = absurd (true≢false (sym e))
