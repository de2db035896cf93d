-- A test of a table: the steps of what rules give are few for each leaf.
use Rattle.std.proofs.Common.{◌≡◌, ℕ, zero, suc, ◌+◌, ◌*◌, ◌<◌, ◌≤◌, max, Bool, true, false, ◌&&◌, ◌||◌, List, length, nat_lt, nat_le, refl, ap, ◌∙◌, arith, ◌⊎◌, inl, inr, if◌then◌else◌, true≢false}
use Rattle.std.proofs.Math.Nat.{le-max_left, le-max_right}
use Rattle.std.proofs.lemmas.Bool.{ltb-true, leb-true}
use Rattle.parser_input.specs.Input.{Token}
use Rattle.parser_events.specs.Forest as forest
use Rattle.parser_events.specs.Forest.{Forest, ◌then◌}
use Rattle.rust_grammar.specs.Rule.{Production, Rule, Look, Nothing, One, Any, Then, Near, Or, Opt, Star, Node, Wrap, Want, Say, Skip, Split, When, Unless, Call, Continue, Mode, Lead, begins}
use Rattle.rust_grammar.specs.Meaning.{Reading, Calls, read, sees, ahead, fresh, leaf, say, skip, split, node, wrapped, into, led, after, turns}
use Rattle.rust_grammar.proofs.Fine.{takes}
use Rattle.rust_grammar.proofs.Leads.{into-cases}
use Rattle.rust_grammar.proofs.Plain.{and_l, and_r}
use Rattle.rust_grammar.proofs.Spelled.{chosen}

-- how many leaves trees have
abbrev pub leaf_count : Forest → ℕ
leaf_count forest.End = 0
leaf_count (forest.Leaf k n f) = 1 + leaf_count f
leaf_count (forest.Said m f) = leaf_count f
leaf_count (forest.ErrorLeaf m k f) = 1 + leaf_count f
leaf_count (forest.Node k c f) = leaf_count c + leaf_count f
leaf_count (forest.Float e c f) = 1 + (leaf_count c + leaf_count f)

-- and how many steps at most, where a float that is split counts for eight
abbrev pub step_count : Forest → ℕ
step_count forest.End = 0
step_count (forest.Leaf k n f) = 1 + step_count f
step_count (forest.Said m f) = 1 + step_count f
step_count (forest.ErrorLeaf m k f) = 4 + step_count f
step_count (forest.Node k c f) = 2 + (step_count c + step_count f)
step_count (forest.Float e c f) = 11 + (step_count c + step_count f)

pub leaves-then : (f g : Forest) → leaf_count (f then g) ≡ leaf_count f + leaf_count g
leaves-then forest.End g = omega arith
leaves-then (forest.Leaf k n f) g = omega (arith, leaves-then f g)
leaves-then (forest.Said m f) g = leaves-then f g
leaves-then (forest.ErrorLeaf m k f) g = omega (arith, leaves-then f g)
leaves-then (forest.Node k c f) g = omega (arith, leaves-then f g)
leaves-then (forest.Float e c f) g = omega (arith, leaves-then f g)

pub steps-then : (f g : Forest) → step_count (f then g) ≡ step_count f + step_count g
steps-then forest.End g = omega arith
steps-then (forest.Leaf k n f) g = omega (arith, steps-then f g)
steps-then (forest.Said m f) g = omega (arith, steps-then f g)
steps-then (forest.ErrorLeaf m k f) g = omega (arith, steps-then f g)
steps-then (forest.Node k c f) g = omega (arith, steps-then f g)
steps-then (forest.Float e c f) g = omega (arith, steps-then f g)

-- What is taken as known of productions.
pub record Prices : Type 0 where
  -- where each begins
  pub looks : Production → Look
  -- it surely gives a leaf
  pub sure : Production → Bool
  -- the most steps that it gives without a leaf
  pub idle_of : Production → ℕ
  -- the most that it gives with a leaf, where each further one pays for 64
  pub debt_of : Production → ℕ

-- the most steps that a rule gives without a leaf
unfoldable pub idle : Prices → Rule → ℕ
idle g Nothing = 0
idle g (One x) = 0
idle g Any = 0
idle g (Then a b) = let both = idle g a + idle g b in if takes g.sure a || takes g.sure b then 0 else both
idle g (Near w a b) = let both = idle g a + idle g b in if takes g.sure a || takes g.sure b then 0 else both
idle g (Or a b) = max (idle g a) (idle g b)
idle g (When l a) = idle g a
idle g (Unless l a) = idle g a
idle g (Opt a) = idle g a
idle g (Star a) = idle g a
idle g (Node k a) = if takes g.sure a then 0 else 2 + idle g a
idle g (Wrap k a) = if takes g.sure a then 0 else 2 + idle g a
idle g (Want a m) = max (idle g a) 1
idle g (Say m) = 1
idle g (Skip m) = 0
idle g Split = 0
idle g (Call y) = if g.sure y then 0 else g.idle_of y
idle g (Continue y) = if g.sure y then 0 else g.idle_of y
idle g (Mode c a) = idle g a
idle g (Lead a) = if takes g.sure a then 0 else 2 + idle g a

-- the most with a leaf
unfoldable pub debt : Prices → Rule → ℕ
debt g Nothing = 0
debt g (One x) = 1
debt g Any = 1
debt g (Then a b) = let first = debt g a + idle g b in if takes g.sure a then first else max first (idle g a + debt g b)
debt g (Near w a b) = let first = debt g a + idle g b in if takes g.sure a then first else max first (idle g a + debt g b)
debt g (Or a b) = max (debt g a) (debt g b)
debt g (When l a) = debt g a
debt g (Unless l a) = debt g a
debt g (Opt a) = debt g a
debt g (Star a) = debt g a + idle g a
debt g (Node k a) = 2 + debt g a
debt g (Wrap k a) = 2 + debt g a
debt g (Want a m) = debt g a
debt g (Say m) = 0
debt g (Skip m) = 4
debt g Split = 11
debt g (Call y) = g.debt_of y
debt g (Continue y) = g.debt_of y
debt g (Mode c a) = debt g a
debt g (Lead a) = 2 + debt g a

-- a further leaf pays for what is given with it
unfoldable pub is_paid : Prices → Rule → Bool
is_paid g (Then a b) = is_paid g a && is_paid g b && nat_le (debt g b) 64
is_paid g (Near w a b) = is_paid g a && is_paid g b && nat_le (debt g b) 64
is_paid g (Or a b) = is_paid g a && is_paid g b
is_paid g (When l a) = is_paid g a
is_paid g (Unless l a) = is_paid g a
is_paid g (Opt a) = is_paid g a
is_paid g (Star a) = is_paid g a && nat_le (debt g a) 64
is_paid g (Node k a) = is_paid g a
is_paid g (Wrap k a) = is_paid g a
is_paid g (Want a m) = is_paid g a
is_paid g (Mode c a) = is_paid g a
is_paid g (Lead a) = is_paid g a
is_paid g r = true

-- no leaf was added, no token was consumed, and at most `steps` steps were added; `sure` is false
pub record IsIdle (steps : ℕ) (sure : Bool) (s t : Reading) : Type 0 where
  pub leaves : leaf_count t.given ≡ leaf_count s.given
  pub rest : t.rest ≡ s.rest
  pub few : step_count t.given ≤ step_count s.given + steps
  pub unsure : sure ≡ false

-- `more` + 1 leaves were added, and at most 64 * `more` + `steps` steps
pub record IsPaid (steps : ℕ) (s t : Reading) : Type 0 where
  pub more : ℕ
  pub leaves : leaf_count t.given ≡ leaf_count s.given + suc more
  pub few : step_count t.given ≤ step_count s.given + (64 * more + steps)

abbrev pub Costs : (idle debt : ℕ) (sure : Bool) → Reading → Reading → Type 0
Costs i d sure s t = IsIdle i sure s t ⊎ IsPaid d s t

-- These calls are as it is claimed.
abbrev pub IsPriced : Prices → Calls → Type 0
IsPriced g call = (y : Production) (c : Bool) (t : Reading) → Costs (g.idle_of y) (g.debt_of y) (g.sure y) t (call y c t)

-- Costs are no less in general.
pub weaker : (i d j e : ℕ) (a b : Bool) (s t : Reading) → i ≤ j → d ≤ e → (a ≡ false → b ≡ false) → Costs i d a s t → Costs j e b s t
weaker i d j e a b s t p q f (inl h) = inl (record { leaves = h.leaves; rest = h.rest; few = omega (arith, h.few, p); unsure = f h.unsure })
weaker i d j e a b s t p q f (inr h) = inr (record { more = h.more; leaves = h.leaves; few = omega (arith, h.few, q) })

-- one leaf more
pub one-leaf : (i d : ℕ) (sure : Bool) (s t : Reading) → leaf_count t.given ≡ leaf_count s.given + 1 → step_count t.given ≤ step_count s.given + d → Costs i d sure s t
one-leaf i d sure s t l e = inr (record { more = 0; leaves = omega (arith, l); few = omega (arith, e) })

-- nothing but some steps
no-leaf : (i d : ℕ) (s t : Reading) → leaf_count t.given ≡ leaf_count s.given → t.rest ≡ s.rest → step_count t.given ≤ step_count s.given + i → Costs i d false s t
no-leaf i d s t l r e = inl (record { leaves = l; rest = r; few = e; unsure = refl })

-- one after the other
in-turn :
    (i d j e k f : ℕ) (a b c : Bool) (s t u : Reading)
    → (a ≡ false → b ≡ false → i + j ≤ k) → d + j ≤ f → (a ≡ false → i + e ≤ f) → e ≤ 64 → (a ≡ false → b ≡ false → c ≡ false)
    → Costs i d a s t → Costs j e b t u → Costs k f c s u
in-turn i d j e k f a b c s t u p q r z n (inl g) (inl h) =
    let most = p g.unsure h.unsure in
    inl (record { leaves = h.leaves ∙ g.leaves; rest = h.rest ∙ g.rest; few = omega (arith, g.few, h.few, most); unsure = n g.unsure h.unsure })
in-turn i d j e k f a b c s t u p q r z n (inl g) (inr h) =
    let most = r g.unsure in
    inr (record { more = h.more; leaves = omega (arith, g.leaves, h.leaves); few = omega (arith, g.few, h.few, most) })
in-turn i d j e k f a b c s t u p q r z n (inr g) (inl h) =
    inr (record { more = g.more; leaves = omega (arith, g.leaves, h.leaves); few = omega (arith, g.few, h.few, q) })
in-turn i d j e k f a b c s t u p q r z n (inr g) (inr h) =
    inr (record { more = suc (g.more + h.more); leaves = omega (arith, g.leaves, h.leaves); few = omega (arith, g.few, h.few, z, q) })

if-neither : (a b : Bool) (k : ℕ) → a ≡ false → b ≡ false → k ≤ (if a || b then 0 else k)
if-neither a b k p q = rw (p, q) (omega arith)

if-unsure : (a : Bool) (k : ℕ) → a ≡ false → k ≤ (if a then 0 else k)
if-unsure a k p = rw p (omega arith)

if-max_left : (a : Bool) (m n : ℕ) → m ≤ (if a then m else max m n)
if-max_left true m n = omega arith
if-max_left false m n = le-max_left m n

if-max_right : (a : Bool) (m n : ℕ) → a ≡ false → n ≤ (if a then m else max m n)
if-max_right true m n p = absurd (true≢false p)
if-max_right false m n p = le-max_right m n

neither : (a b : Bool) → a ≡ false → b ≡ false → (a || b) ≡ false
neither a b p q = rw (p, q) refl

first-false : (a b : Bool) → a ≡ false → (a && b) ≡ false
first-false a b p = rw p refl

second-false : (a b : Bool) → b ≡ false → (a && b) ≡ false
second-false true b p = p
second-false false b p = refl

chosen-cost : (P : Reading → Type 0) (b : Bool) (u v : Reading) → P u → P v → P (if b then u else v)
chosen-cost P true u v p q = p
chosen-cost P false u v p q = q

-- in a node after what was given, and around it
in-node : (k i d : ℕ) (a : Bool) (s t : Reading) → Costs i d a (fresh s) t → Costs (if a then 0 else 2 + i) (2 + d) a s (node k s t)
unfolding fresh node
in-node k i d a s t (inl h) =
    let leaves = leaves-then s.given (forest.Node k t.given forest.End) in
    let steps = steps-then s.given (forest.Node k t.given forest.End) in
    let most = if-unsure a (2 + i) h.unsure in
    inl (record { leaves = omega (arith, leaves, h.leaves); rest = h.rest; few = omega (arith, steps, h.few, most); unsure = h.unsure })
in-node k i d a s t (inr h) =
    let leaves = leaves-then s.given (forest.Node k t.given forest.End) in
    let steps = steps-then s.given (forest.Node k t.given forest.End) in
    inr (record { more = h.more; leaves = omega (arith, leaves, h.leaves); few = omega (arith, steps, h.few) })

in-wrap : (k i d : ℕ) (a : Bool) (s t : Reading) → Costs i d a s t → Costs (if a then 0 else 2 + i) (2 + d) a s (wrapped k t)
unfolding wrapped
in-wrap k i d a s t (inl h) =
    let most = if-unsure a (2 + i) h.unsure in
    inl (record { leaves = omega (arith, h.leaves); rest = h.rest; few = omega (arith, h.few, most); unsure = h.unsure })
in-wrap k i d a s t (inr h) = inr (record { more = h.more; leaves = omega (arith, h.leaves); few = omega (arith, h.few) })

-- what was given, in the one tree that follows
leaves-into : (g f : Forest) → leaf_count (into g f) ≡ leaf_count g + leaf_count f
leaves-into g f =
    into-cases (λ (h : Forest). leaf_count h ≡ leaf_count g + leaf_count f) g f
    (λ k c is. omega (arith, leaves-then g c, ap (λ (h : Forest). leaf_count h) is))
    (λ e c is. omega (arith, leaves-then g c, ap (λ (h : Forest). leaf_count h) is))
    (omega (arith, leaves-then g f))

steps-into : (g f : Forest) → step_count (into g f) ≤ 2 + (step_count g + step_count f)
steps-into g f =
    into-cases (λ (h : Forest). step_count h ≤ 2 + (step_count g + step_count f)) g f
    (λ k c is. omega (arith, steps-then g c, ap (λ (h : Forest). step_count h) is))
    (λ e c is. omega (arith, steps-then g c, ap (λ (h : Forest). step_count h) is))
    (omega (arith, steps-then g f))

in-lead : (i d : ℕ) (a : Bool) (s t : Reading) → Costs i d a (fresh s) t → Costs (if a then 0 else 2 + i) (2 + d) a s (led s t)
unfolding fresh led
in-lead i d a s t (inl h) =
    let leaves = leaves-into s.given t.given in
    let steps = steps-into s.given t.given in
    let most = if-unsure a (2 + i) h.unsure in
    inl (record { leaves = omega (arith, leaves, h.leaves); rest = h.rest; few = omega (arith, steps, h.few, most); unsure = h.unsure })
in-lead i d a s t (inr h) =
    let leaves = leaves-into s.given t.given in
    let steps = steps-into s.given t.given in
    inr (record { more = h.more; leaves = omega (arith, leaves, h.leaves); few = omega (arith, steps, h.few) })

-- a call, after what was given
in-call : (i d : ℕ) (a : Bool) (s t : Reading) → Costs i d a (fresh s) t → Costs (if a then 0 else i) d a s (after s t)
unfolding fresh after
in-call i d a s t (inl h) =
    let leaves = leaves-then s.given t.given in
    let steps = steps-then s.given t.given in
    let most = if-unsure a i h.unsure in
    inl (record { leaves = omega (arith, leaves, h.leaves); rest = h.rest; few = omega (arith, steps, h.few, most); unsure = h.unsure })
in-call i d a s t (inr h) =
    let leaves = leaves-then s.given t.given in
    let steps = steps-then s.given t.given in
    inr (record { more = h.more; leaves = omega (arith, leaves, h.leaves); few = omega (arith, steps, h.few) })

in-place : (i d : ℕ) (a : Bool) (s t : Reading) → Costs i d a s t → Costs (if a then 0 else i) d a s t
in-place i d a s t (inl h) = let most = if-unsure a i h.unsure in inl (record { leaves = h.leaves; rest = h.rest; few = omega (arith, h.few, most); unsure = h.unsure })
in-place i d a s t (inr h) = inr h

-- a turn after which others follow gave a leaf
in-turns : (i d : ℕ) (a : Bool) (s t u : Reading) → d ≤ 64 → length t.rest < length s.rest → Costs i d a s t → Costs i (d + i) false t u → Costs i (d + i) false s u
in-turns i d a s t u z lt (inl g) h = absurd (let same : length t.rest ≡ length s.rest = ap (λ (ts : List Token). length ts) g.rest in omega (arith, lt, same))
in-turns i d a s t u z lt (inr g) (inl h) = inr (record { more = g.more; leaves = omega (arith, g.leaves, h.leaves); few = omega (arith, g.few, h.few) })
in-turns i d a s t u z lt (inr g) (inr h) = inr (record { more = suc (g.more + h.more); leaves = omega (arith, g.leaves, h.leaves); few = omega (arith, g.few, h.few, z) })

turns-cost : (i d : ℕ) (a : Bool) (n : ℕ) (test : Reading → Bool) (turn : Reading → Reading) (s : Reading) → d ≤ 64 → ((v : Reading) → Costs i d a v (turn v)) → Costs i (d + i) false s (turns n test turn s)
unfolding turns
turns-cost i d a zero test turn s z each = no-leaf i (d + i) s s refl refl (omega arith)
turns-cost i d a (suc n) test turn s z each =
    chosen-cost (Costs i (d + i) false s) (test s) _ _
    (chosen (Costs i (d + i) false s) (nat_lt (length (turn s).rest) (length s.rest)) _ _
    (λ e. in-turns i d a s (turn s) (turns n test turn (turn s)) z (ltb-true _ _ e) (each s) (turns-cost i d a n test turn (turn s) z each))
    (λ e. weaker i d i (d + i) a false s (turn s) (omega arith) (omega arith) (λ h. refl) (each s)))
    (no-leaf i (d + i) s s refl refl (omega arith))

module _ (g : Prices) (call : Calls) (ok : IsPriced g call) where
  sequence : (a b : Rule) (c : Bool) (s : Reading) → nat_le (debt g b) 64 ≡ true → Costs (idle g a) (debt g a) (takes g.sure a) s (read g.looks call c a s) → ((t : Reading) → Costs (idle g b) (debt g b) (takes g.sure b) t (read g.looks call c b t)) → Costs (idle g (Then a b)) (debt g (Then a b)) (takes g.sure (Then a b)) s (read g.looks call c (Then a b) s)
  unfolding idle debt takes read
  sequence a b c s e first second =
      let t = read g.looks call c a s in
      in-turn (idle g a) (debt g a) (idle g b) (debt g b) _ _ (takes g.sure a) (takes g.sure b) _ s t (read g.looks call c b t)
      (λ p q. if-neither (takes g.sure a) (takes g.sure b) (idle g a + idle g b) p q)
      (if-max_left (takes g.sure a) (debt g a + idle g b) (idle g a + debt g b)) (λ p. if-max_right (takes g.sure a) (debt g a + idle g b) (idle g a + debt g b) p) (leb-true _ _ e)
      (λ p q. neither (takes g.sure a) (takes g.sure b) p q) first (second t)

  pub costs : (r : Rule) (c : Bool) (s : Reading) → is_paid g r ≡ true → Costs (idle g r) (debt g r) (takes g.sure r) s (read g.looks call c r s)
  unfolding idle debt takes is_paid read leaf say skip split
  costs Nothing c s e = no-leaf 0 0 s s refl refl (omega arith)
  costs (One x) c s e =
      let l = forest.Leaf x.kind (length x.parts) forest.End in
      one-leaf 0 1 _ s _ (leaves-then s.given l) (let steps = steps-then s.given l in omega (arith, steps))
  costs Any c s e =
      let l = forest.Leaf (ahead 0 s.rest).kind 1 forest.End in
      one-leaf 0 1 _ s _ (leaves-then s.given l) (let steps = steps-then s.given l in omega (arith, steps))
  costs (Then a b) c s e =
      let both = and_l (is_paid g a && is_paid g b) (nat_le (debt g b) 64) e in
      sequence a b c s (and_r (is_paid g a && is_paid g b) (nat_le (debt g b) 64) e) (costs a c s (and_l (is_paid g a) (is_paid g b) both)) (λ t. costs b c t (and_r (is_paid g a) (is_paid g b) both))
  costs (Near w a b) c s e =
      let both = and_l (is_paid g a && is_paid g b) (nat_le (debt g b) 64) e in
      sequence a b c s (and_r (is_paid g a && is_paid g b) (nat_le (debt g b) 64) e) (costs a c s (and_l (is_paid g a) (is_paid g b) both)) (λ t. costs b c t (and_r (is_paid g a) (is_paid g b) both))
  costs (Or a b) c s e =
      chosen-cost (Costs (max (idle g a) (idle g b)) (max (debt g a) (debt g b)) (takes g.sure a && takes g.sure b) s) (sees c s (begins g.looks a)) _ _
      (weaker (idle g a) (debt g a) _ _ (takes g.sure a) _ s _ (le-max_left (idle g a) (idle g b)) (le-max_left (debt g a) (debt g b)) (λ p. first-false (takes g.sure a) (takes g.sure b) p) (costs a c s (and_l (is_paid g a) (is_paid g b) e)))
      (weaker (idle g b) (debt g b) _ _ (takes g.sure b) _ s _ (le-max_right (idle g a) (idle g b)) (le-max_right (debt g a) (debt g b)) (λ p. second-false (takes g.sure a) (takes g.sure b) p) (costs b c s (and_r (is_paid g a) (is_paid g b) e)))
  costs (When l a) c s e = costs a c s e
  costs (Unless l a) c s e = costs a c s e
  costs (Opt a) c s e =
      chosen-cost (Costs (idle g a) (debt g a) false s) (sees c s (begins g.looks a)) _ _
      (weaker (idle g a) (debt g a) (idle g a) (debt g a) (takes g.sure a) false s _ (omega arith) (omega arith) (λ p. refl) (costs a c s e))
      (no-leaf (idle g a) (debt g a) s s refl refl (omega arith))
  costs (Star a) c s e =
      turns-cost (idle g a) (debt g a) (takes g.sure a) (length s.rest) (λ t. sees c t (begins g.looks a)) (read g.looks call c a) s
      (leb-true _ _ (and_r (is_paid g a) (nat_le (debt g a) 64) e)) (λ v. costs a c v (and_l (is_paid g a) (nat_le (debt g a) 64) e))
  costs (Node k a) c s e = in-node k (idle g a) (debt g a) (takes g.sure a) s (read g.looks call c a (fresh s)) (costs a c (fresh s) e)
  costs (Wrap k a) c s e = in-wrap k (idle g a) (debt g a) (takes g.sure a) s (read g.looks call c a s) (costs a c s e)
  costs (Want a m) c s e =
      chosen-cost (Costs (max (idle g a) 1) (debt g a) false s) (sees c s (begins g.looks a)) _ _
      (weaker (idle g a) (debt g a) (max (idle g a) 1) (debt g a) (takes g.sure a) false s _ (le-max_left (idle g a) 1) (omega arith) (λ p. refl) (costs a c s e))
      (let l = forest.Said m forest.End in
      let steps = steps-then s.given l in
      let leaves = leaves-then s.given l in
      let most = le-max_right (idle g a) 1 in
      no-leaf (max (idle g a) 1) (debt g a) s _ (omega (arith, leaves)) refl (omega (arith, steps, most)))
  costs (Say m) c s e =
      let l = forest.Said m forest.End in
      let steps = steps-then s.given l in
      let leaves = leaves-then s.given l in
      no-leaf 1 0 s _ (omega (arith, leaves)) refl (omega (arith, steps))
  costs (Skip m) c s e =
      let l = forest.ErrorLeaf m (ahead 0 s.rest).kind forest.End in
      one-leaf 0 4 _ s _ (leaves-then s.given l) (let steps = steps-then s.given l in omega (arith, steps))
  costs Split c s e = one-leaf 0 11 _ s _ (omega arith) (omega arith)
  costs (Call y) c s e = in-call (g.idle_of y) (g.debt_of y) (g.sure y) s (call y c (fresh s)) (ok y c (fresh s))
  costs (Continue y) c s e = in-place (g.idle_of y) (g.debt_of y) (g.sure y) s (call y c s) (ok y c s)
  costs (Mode d a) c s e = costs a d s e
  costs (Lead a) c s e = in-lead (idle g a) (debt g a) (takes g.sure a) s (read g.looks call c a (fresh s)) (costs a c (fresh s) e)
