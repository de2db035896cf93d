-- What is known of the trees that a rule gives, and that it is true.
use Rattle.std.proofs.Common.{◌≡◌, ℕ, zero, suc, Bool, true, false, not, ◌&&◌, ◌==◌, length, nat_lt, nat_le, refl, ap, ◌∙◌, inl, inr, sym, subst, if◌then◌else◌, true≢false}
use Rattle.std.proofs.lemmas.Bool.{cases_Bool, eqb-true}
use Rattle.parser_input.specs.Kinds.{BIN_EXPR, ERROR}
use Rattle.parser_events.specs.Forest as forest
use Rattle.parser_events.specs.Forest.{Forest, Message, ◌then◌}
use Rattle.rust_grammar.specs.Rule.{Production, Rule, Look, Nothing, One, Any, Then, Near, Or, Opt, Star, Node, Wrap, Want, Say, Skip, Split, When, Unless, Call, Continue, Mode, body, literal, block, statement_end, macro_statement_end, expression, operation, operation_tail, pipe_tail, disjunction, conjunction, comparison, bit_or, bit_xor, bit_and, bit_shift, sum, product, cast, prefixed, postfix, after_dot, atom, block_like, if_expr, begins, Lead}
use Rattle.rust_grammar.specs.Meaning.{Reading, Calls, read, sees, ahead, fresh, leaf, say, skip, split, node, wrapped, after, turns, into, led}
use Rattle.rust_grammar.specs.Powers.{power, are_operators_placed, operator, level, is_operator_placed}
use Rattle.rust_grammar.proofs.Plain.{and_l, and_r}
use Rattle.rust_grammar.proofs.Spelled.{chosen}
use Rattle.rust_grammar.proofs.Leads.{into-cases}
use Rattle.rust_grammar.proofs.Operators.{fits_between, Fits, fits-so, binary-is, right-there, said-bound, said-only}
use Rattle.rust_grammar.proofs.Powers.{Standing, Empty, Operand, Placed, Unknown, is_operand, is_of, is_within, join, beside, inside, weaken, empty-is, then-placed, of-first, of-second, of-beside, of-node, of-float}

-- what is known of a production's trees where it begins
unfoldable pub starts : Production → Standing
starts body = Placed
starts statement_end = Placed
starts macro_statement_end = Placed
starts operation_tail = Operand 4
starts pipe_tail = Operand 2
starts postfix = Operand 13
starts after_dot = Placed
starts x = Empty

-- what is known of its trees where it ends
unfoldable pub ends : Production → Standing
ends expression = Operand 1
ends operation = Operand 1
ends operation_tail = Operand 1
ends pipe_tail = Operand 1
ends disjunction = Operand 4
ends conjunction = Operand 5
ends comparison = Operand 6
ends bit_or = Operand 7
ends bit_xor = Operand 8
ends bit_and = Operand 9
ends bit_shift = Operand 10
ends sum = Operand 11
ends product = Operand 12
ends cast = Operand 13
ends prefixed = Operand 13
ends postfix = Operand 13
ends after_dot = Operand 13
ends atom = Operand 13
ends literal = Operand 13
ends block = Operand 13
ends block_like = Operand 13
ends if_expr = Operand 13
ends x = Placed

-- one leaf, an operator of this power
unfoldable pub has_power : ℕ → Rule → Bool
has_power p (One x) = power x.kind == p
has_power p (When l a) = has_power p a
has_power p (Or a b) = has_power p a && has_power p b
has_power p a = false

-- the power of the first of these operators
unfoldable pub first_power : Rule → ℕ
first_power (One x) = power x.kind
first_power (When l a) = first_power a
first_power (Or a b) = first_power a
first_power a = 0

-- a binary expression of operators of power p, between operands of these levels
unfoldable pub binary : (p q : ℕ) → Rule → Standing → Standing
binary p q a (Operand r) = if has_power p a && fits_between p q r then Operand p else Unknown
binary p q a r = Unknown

-- the standing of a binary expression, from that of its left operand and the rule for the operator and the right operand
unfoldable pub operated : Standing → Rule → Standing
operated (Operand q) (Then a (Want (Call y) m)) = binary (first_power a) q a (ends y)
operated p a = Unknown

-- What is known of the trees after a rule.
unfoldable pub gives : Standing → Rule → Standing
gives p Nothing = p
gives p (One x) = beside p Placed
gives p Any = beside p Placed
gives p (Then a b) = gives (gives p a) b
gives p (Near w a b) = gives (gives p a) b
gives p (Or a b) = join (gives p a) (gives p b)
gives p (When l a) = gives p a
gives p (Unless l a) = gives p a
gives p (Opt a) = join p (gives p a)
gives p (Star a) = let turned = join p (gives p a) in if is_within (gives turned a) turned then turned else Unknown
gives p (Node k a) = if k == BIN_EXPR then Unknown else beside p (inside (gives Empty a))
gives p (Wrap k a) = if k == BIN_EXPR then operated p a else inside (gives p a)
gives p (Want a m) = join (gives p a) (beside p Placed)
gives p (Say m) = beside p Placed
gives p (Skip m) = beside p Placed
gives p Split = inside p
gives p (Call y) = beside p (ends y)
gives p (Continue y) = if is_within p (starts y) then ends y else Unknown
gives p (Mode c a) = gives p a
gives p (Lead a) = if is_within (gives Empty a) (Operand 13) && is_within p Placed then Operand 13 else Unknown

-- No power is as great as the level of what is no binary expression.
record IsBelow (n : ℕ) : Type 0 where
  pub is : nat_le 13 n ≡ false

below-or : (b : Bool) (m n : ℕ) → IsBelow m → IsBelow n → IsBelow (if b then m else n)
below-or true m n e i = e
below-or false m n e i = i

below : (n : ℕ) → nat_le 13 n ≡ false → IsBelow n
below n e = record { is = e }

power-is-below : (k : ℕ) → IsBelow (power k)
unfolding power
power-is-below k =
    below-or _ 12 _ (below 12 refl) (below-or _ 11 _ (below 11 refl) (below-or _ 10 _ (below 10 refl) (below-or _ 9 _ (below 9 refl) (below-or _ 8 _ (below 8 refl) (below-or _ 7 _ (below 7 refl)
    (below-or _ 6 _ (below 6 refl) (below-or _ 5 _ (below 5 refl) (below-or _ 4 _ (below 4 refl) (below-or _ 2 _ (below 2 refl) (below-or _ 1 0 (below 1 refl) (below 0 refl)))))))))))

power-below : (k : ℕ) → nat_le 13 (power k) ≡ false
power-below k = (power-is-below k).is

no-binary : (k : ℕ) (c : Forest) → nat_le 13 (level k c) ≡ true → (k == BIN_EXPR) ≡ false
unfolding level
no-binary k c e = elim (cases_Bool (k == BIN_EXPR)) [
  | inl i ↦ absurd (true≢false (sym e ∙ ap (λ (b : Bool). nat_le 13 (if b then power (operator c) else 13)) i ∙ power-below (operator c)))
  | inr i ↦ i
]

-- trees that stand first in an operand that is no binary expression
into-operand : (g f : Forest) → is_of Placed g ≡ true → is_of (Operand 13) f ≡ true → is_of (Operand 13) (into g f) ≡ true
unfolding is_of is_operand are_operators_placed inside
into-operand g f h e =
    into-cases (λ (t : Forest). is_of (Operand 13) t ≡ true) g f
    (λ k c is.
    let own : is_of (Operand 13) (forest.Node k c forest.End) ≡ true = subst (λ (t : Forest). is_of (Operand 13) t ≡ true) is e in
    let other = no-binary k c (and_l (nat_le 13 (level k c)) (are_operators_placed (forest.Node k c forest.End)) own) in
    let within : are_operators_placed c ≡ true = and_r (if k == BIN_EXPR then is_operator_placed c else true) (are_operators_placed c)
    (and_l ((if k == BIN_EXPR then is_operator_placed c else true) && are_operators_placed c) true (and_r (nat_le 13 (level k c)) (are_operators_placed (forest.Node k c forest.End)) own)) in
    of-node Placed k (g then c) other (then-placed g c h within))
    (λ b c is.
    let own : is_of (Operand 13) (forest.Float b c forest.End) ≡ true = subst (λ (t : Forest). is_of (Operand 13) t ≡ true) is e in
    of-float Placed b (g then c) (then-placed g c h (and_l (are_operators_placed c) true own)))
    (of-node Placed ERROR (g then f) refl (then-placed g f h (and_r (is_operand 13 f) (are_operators_placed f) e)))

-- what is taken of calls
abbrev pub KeepsPowers : Production → Bool → Reading → Reading → Type 0
KeepsPowers y d t u = is_of (starts y) t.given ≡ true → is_of (ends y) u.given ≡ true

-- one leaf was added, an operator of power p
record OneOperator (p : ℕ) (s t : Reading) : Type 0 where
  pub kind : ℕ
  pub count : ℕ
  pub is : t.given ≡ s.given then forest.Leaf kind count forest.End
  pub of : power kind ≡ p

-- what each turn keeps holds after the repetition
turns-keep : (p : Standing) (n : ℕ) (test : Reading → Bool) (turn : Reading → Reading) (s : Reading)
    → ((v : Reading) → is_of p v.given ≡ true → is_of p (turn v).given ≡ true) → is_of p s.given ≡ true
    → is_of p (turns n test turn s).given ≡ true
unfolding turns
turns-keep p zero test turn s each h = h
turns-keep p (suc n) test turn s each h =
    chosen (λ (u : Reading). is_of p u.given ≡ true) (test s) _ _
    (λ e. chosen (λ (u : Reading). is_of p u.given ≡ true) (nat_lt (length (turn s).rest) (length s.rest)) _ _
    (λ f. turns-keep p n test turn (turn s) each (each s h)) (λ f. each s h))
    (λ e. h)

-- of one of two standings
chosen-standing : (b : Bool) (p q : Standing) (f : Forest)
    → (b ≡ true → is_of p f ≡ true) → (b ≡ false → is_of q f ≡ true)
    → is_of (if b then p else q) f ≡ true
chosen-standing true p q f e i = e refl
chosen-standing false p q f e i = i refl

unknown-is : (f : Forest) → is_of Unknown f ≡ true
unfolding is_of
unknown-is f = refl

-- one tree, in which there is no binary expression
one-placed : (k n : ℕ) → is_of Placed (forest.Leaf k n forest.End) ≡ true
unfolding is_of are_operators_placed
one-placed k n = refl

said-placed : (m : Message) → is_of Placed (forest.Said m forest.End) ≡ true
unfolding is_of are_operators_placed
said-placed m = refl

error-placed : (m : Message) (k : ℕ) → is_of Placed (forest.ErrorLeaf m k forest.End) ≡ true
unfolding is_of are_operators_placed
error-placed m k = refl

module _ (looks : Production → Look) (call : Calls) where
  -- such a rule gives one leaf, an operator of that power
  one-operator : (a : Rule) (p : ℕ) (c : Bool) (s : Reading) → has_power p a ≡ true → OneOperator p s (read looks call c a s)
  unfolding has_power read leaf
  one-operator (One x) p c s e = record { kind = x.kind; count = length x.parts; is = refl; of = eqb-true _ _ e }
  one-operator (When l a) p c s e = one-operator a p c s e
  one-operator (Or a b) p c s e =
      chosen (OneOperator p s) (sees c s (begins looks a)) _ _
      (λ i. one-operator a p c s (and_l (has_power p a) (has_power p b) e)) (λ i. one-operator b p c s (and_r (has_power p a) (has_power p b) e))
  one-operator a p c s e = absurd (true≢false (sym e))

module _ (looks : Production → Look) (call : Calls) (ok : (y : Production) (d : Bool) (t : Reading) → KeepsPowers y d t (call y d t)) where
  -- what is known of a call
  called-is : (y : Production) (c : Bool) (s : Reading) → is_of (ends y) (call y c (fresh s)).given ≡ true
  unfolding fresh
  called-is y c s = ok y c (fresh s) (empty-is (starts y))

  -- an operand, an operator, and a part that is wanted
  binary-so : (p q r : ℕ) (a : Rule) (y : Production) (m : Message) (c : Bool) (s : Reading)
      → ends y ≡ Operand r → has_power p a ≡ true → Fits p q r → is_of (Operand q) s.given ≡ true
      → is_of (Operand p) (forest.Node BIN_EXPR (read looks call c (Then a (Want (Call y) m)) s).given forest.End) ≡ true
  unfolding read after say
  binary-so p q r a y m c s e i fit h =
      let one = one-operator looks call a p c s i in
      let t = read looks call c a s in
      let operand = (call y c (fresh t)).given in
      let right = right-there r operand fit.right_bound (subst (λ (u : Standing). is_of u operand ≡ true) e (called-is y c t)) in
      let missing = forest.Said m forest.End in
      chosen (λ (u : Reading). is_of (Operand p) (forest.Node BIN_EXPR u.given forest.End) ≡ true) (sees c t (begins looks (Call y)))
      (after t (call y c (fresh t))) (say m t)
      (λ j. subst (λ (f : Forest). is_of (Operand p) (forest.Node BIN_EXPR (f then operand) forest.End) ≡ true) (sym one.is)
      (binary-is p q r s.given one.kind one.count operand one.of fit h right.0 right.1))
      (λ j. subst (λ (f : Forest). is_of (Operand p) (forest.Node BIN_EXPR (f then missing) forest.End) ≡ true) (sym one.is)
      (binary-is p q r s.given one.kind one.count missing one.of fit h (said-bound r m fit.right_bound) (said-only m)))

  -- so is what such a wrap gives
  operated-is : (p : Standing) (a : Rule) (c : Bool) (s : Reading)
      → is_of p s.given ≡ true
      → is_of (operated p a) (forest.Node BIN_EXPR (read looks call c a s).given forest.End) ≡ true
  unfolding operated binary
  operated-is (Operand q) (Then a (Want (Call y) m)) c s h = of (ends y) refl
    where
      p : ℕ
      p = first_power a

      tree : Forest
      tree = forest.Node BIN_EXPR (read looks call c (Then a (Want (Call y) m)) s).given forest.End

      of : (r : Standing) → ends y ≡ r → is_of (binary p q a r) tree ≡ true
      of (Operand r) e =
          chosen-standing (has_power p a && fits_between p q r) (Operand p) Unknown tree
          (λ i. binary-so p q r a y m c s e (and_l (has_power p a) (fits_between p q r) i)
          (fits-so p q r (and_r (has_power p a) (fits_between p q r) i)) h)
          (λ i. unknown-is tree)
      of Empty e = unknown-is tree
      of Placed e = unknown-is tree
      of Unknown e = unknown-is tree
  operated-is p a c s h = unknown-is _

  -- What is known of the trees after a rule is true.
  pub placed-so : (r : Rule) (p : Standing) (c : Bool) (s : Reading) → is_of p s.given ≡ true → is_of (gives p r) (read looks call c r s).given ≡ true
  unfolding gives read leaf say skip split fresh node wrapped led after
  placed-so Nothing p c s h = h
  placed-so (One x) p c s h = of-beside p Placed s.given (forest.Leaf x.kind (length x.parts) forest.End) h (one-placed x.kind (length x.parts))
  placed-so Any p c s h = of-beside p Placed s.given (forest.Leaf (ahead 0 s.rest).kind 1 forest.End) h (one-placed (ahead 0 s.rest).kind 1)
  placed-so (Then a b) p c s h = placed-so b (gives p a) c (read looks call c a s) (placed-so a p c s h)
  placed-so (Near w a b) p c s h = placed-so b (gives p a) c (read looks call c a s) (placed-so a p c s h)
  placed-so (Or a b) p c s h =
      chosen (λ (u : Reading). is_of (join (gives p a) (gives p b)) u.given ≡ true) (sees c s (begins looks a)) _ _
      (λ i. of-first (gives p a) (gives p b) _ (placed-so a p c s h)) (λ i. of-second (gives p a) (gives p b) _ (placed-so b p c s h))
  placed-so (When l a) p c s h = placed-so a p c s h
  placed-so (Unless l a) p c s h = placed-so a p c s h
  placed-so (Opt a) p c s h =
      chosen (λ (u : Reading). is_of (join p (gives p a)) u.given ≡ true) (sees c s (begins looks a)) _ _
      (λ i. of-second p (gives p a) _ (placed-so a p c s h)) (λ i. of-first p (gives p a) _ h)
  placed-so (Star a) p c s h =
      let turned = join p (gives p a) in
      chosen-standing (is_within (gives turned a) turned) turned Unknown _
      (λ e. turns-keep turned (length s.rest) (λ t. sees c t (begins looks a)) (read looks call c a) s
      (λ v i. weaken (gives turned a) turned _ e (placed-so a turned c v i)) (of-first p (gives p a) _ h))
      (λ e. unknown-is _)
  placed-so (Node k a) p c s h =
      chosen-standing (k == BIN_EXPR) Unknown (beside p (inside (gives Empty a))) _ (λ e. unknown-is _)
      (λ e. of-beside p (inside (gives Empty a)) s.given _ h (of-node (gives Empty a) k _ e (placed-so a Empty c (fresh s) (empty-is Empty))))
  placed-so (Wrap k a) p c s h =
      chosen-standing (k == BIN_EXPR) (operated p a) (inside (gives p a)) _
      (λ e. rw (eqb-true k BIN_EXPR e) (operated-is p a c s h))
      (λ e. of-node (gives p a) k _ e (placed-so a p c s h))
  placed-so (Want a m) p c s h =
      chosen (λ (u : Reading). is_of (join (gives p a) (beside p Placed)) u.given ≡ true) (sees c s (begins looks a)) _ _
      (λ i. of-first (gives p a) (beside p Placed) _ (placed-so a p c s h))
      (λ i. of-second (gives p a) (beside p Placed) _ (of-beside p Placed s.given (forest.Said m forest.End) h (said-placed m)))
  placed-so (Say m) p c s h = of-beside p Placed s.given (forest.Said m forest.End) h (said-placed m)
  placed-so (Skip m) p c s h = of-beside p Placed s.given (forest.ErrorLeaf m (ahead 0 s.rest).kind forest.End) h (error-placed m (ahead 0 s.rest).kind)
  placed-so Split p c s h = of-float p (not (ahead 0 s.rest).joint) s.given h
  placed-so (Call y) p c s h = of-beside p (ends y) s.given (call y c (fresh s)).given h (called-is y c s)
  placed-so (Continue y) p c s h =
      chosen-standing (is_within p (starts y)) (ends y) Unknown _ (λ e. ok y c s (weaken p (starts y) s.given e h)) (λ e. unknown-is _)
  placed-so (Mode d a) p c s h = placed-so a p d s h
  placed-so (Lead a) p c s h =
      chosen-standing (is_within (gives Empty a) (Operand 13) && is_within p Placed) (Operand 13) Unknown _
      (λ e. into-operand s.given _
      (weaken p Placed s.given (and_r (is_within (gives Empty a) (Operand 13)) (is_within p Placed) e) h)
      (weaken (gives Empty a) (Operand 13) _ (and_l (is_within (gives Empty a) (Operand 13)) (is_within p Placed) e) (placed-so a Empty c (fresh s) (empty-is Empty))))
      (λ e. unknown-is _)
