-- A test of a table: its operators bind by their powers.
use Rattle.std.proofs.Common.{◌≡◌, ℕ, Bool, true, false, ◌&&◌, ◌==◌, nat_le, refl, sym, if◌then◌else◌, true≢false, arith}
use Rattle.std.proofs.lemmas.Bool.{leb-true, leb-false, le-leb}
use Rattle.parser_input.specs.Kinds.{BIN_EXPR}
use Rattle.parser_events.specs.Forest as forest
use Rattle.parser_events.specs.Forest.{Forest, ◌then◌}
use Rattle.rust_grammar.specs.Meaning.{is_end}
use Rattle.rust_grammar.specs.Powers.{level, is_operator_placed, are_operators_placed}
use Rattle.rust_grammar.proofs.Plain.{and_l, and_r}
use Rattle.rust_grammar.proofs.Spelling.{both-true}

-- What is known of the trees that the current production has added so far: there are none; there is at most one, a node or a
-- float of binding power `least` or more; operators are placed in them; nothing.
pub data Standing : Type 0 where
  Empty : Standing
  Operand : (least : ℕ) → Standing
  Placed : Standing
  Unknown : Standing

unfoldable pub is_operand : ℕ → Forest → Bool
is_operand q forest.End = true
is_operand q (forest.Node k c forest.End) = nat_le q (level k c)
is_operand q (forest.Float e c forest.End) = nat_le q 13
is_operand q f = false

unfoldable pub is_of : Standing → Forest → Bool
is_of Empty f = is_end f
is_of (Operand q) f = is_operand q f && are_operators_placed f
is_of Placed f = are_operators_placed f
is_of Unknown f = true

-- what is known of the trees of the first is known of those of the second
unfoldable pub is_within : Standing → Standing → Bool
is_within p Unknown = true
is_within Empty q = true
is_within (Operand p) (Operand q) = nat_le q p
is_within (Operand p) Placed = true
is_within Placed Placed = true
is_within p q = false

-- forgets all but that operators are placed in the trees
unfoldable pub placed : Standing → Standing
placed Unknown = Unknown
placed p = Placed

-- what is known where it is either
unfoldable pub join : Standing → Standing → Standing
join Unknown q = Unknown
join Empty q = q
join Placed q = placed q
join (Operand p) Empty = Operand p
join (Operand p) (Operand q) = if nat_le p q then Operand p else Operand q
join (Operand p) Placed = Placed
join (Operand p) Unknown = Unknown

-- trees one after another
unfoldable pub beside : Standing → Standing → Standing
beside Empty q = q
beside Unknown q = Unknown
beside (Operand p) q = placed q
beside Placed q = placed q

-- what is known of a node around the trees that is no binary expression
unfoldable pub inside : Standing → Standing
inside Unknown = Unknown
inside p = Operand 13

pub empty-is : (p : Standing) → is_of p forest.End ≡ true
unfolding is_of is_operand is_end are_operators_placed
empty-is Empty = refl
empty-is (Operand q) = refl
empty-is Placed = refl
empty-is Unknown = refl

pub of-end : (p : Standing) (f : Forest) → is_end f ≡ true → is_of p f ≡ true
unfolding is_end
of-end p forest.End e = empty-is p
of-end p (forest.Leaf k n f) e = absurd (true≢false (sym e))
of-end p (forest.Said m f) e = absurd (true≢false (sym e))
of-end p (forest.ErrorLeaf m k f) e = absurd (true≢false (sym e))
of-end p (forest.Node k c f) e = absurd (true≢false (sym e))
of-end p (forest.Float b c f) e = absurd (true≢false (sym e))

le-trans : (p q l : ℕ) → nat_le q p ≡ true → nat_le p l ≡ true → nat_le q l ≡ true
le-trans p q l e i =
    let lower = leb-true q p e in
    let upper = leb-true p l i in
    le-leb q l (omega (arith, lower, upper))

less-asked : (p q : ℕ) (f : Forest) → nat_le q p ≡ true → is_operand p f ≡ true → is_operand q f ≡ true
unfolding is_operand
less-asked p q forest.End e i = refl
less-asked p q (forest.Node k c forest.End) e i = le-trans p q (level k c) e i
less-asked p q (forest.Float b c forest.End) e i = le-trans p q 13 e i
less-asked p q f e i = absurd (true≢false (sym i))

pub weaken : (p q : Standing) (f : Forest) → is_within p q ≡ true → is_of p f ≡ true → is_of q f ≡ true
unfolding is_within is_of
weaken Empty q f e i = of-end q f i
weaken (Operand p) (Operand q) f e i =
    let operand = and_l (is_operand p f) (are_operators_placed f) i in
    both-true (is_operand q f) (are_operators_placed f) (less-asked p q f e operand) (and_r (is_operand p f) (are_operators_placed f) i)
weaken (Operand p) Placed f e i = and_r (is_operand p f) (are_operators_placed f) i
weaken (Operand p) Unknown f e i = refl
weaken (Operand p) Empty f e i = absurd (true≢false (sym e))
weaken Placed Placed f e i = i
weaken Placed Unknown f e i = refl
weaken Placed Empty f e i = absurd (true≢false (sym e))
weaken Placed (Operand q) f e i = absurd (true≢false (sym e))
weaken Unknown Unknown f e i = refl
weaken Unknown Empty f e i = absurd (true≢false (sym e))
weaken Unknown (Operand q) f e i = absurd (true≢false (sym e))
weaken Unknown Placed f e i = absurd (true≢false (sym e))

le-self : (p : ℕ) → nat_le p p ≡ true
le-self p = le-leb p p (omega arith)

pub of-placed : (p : Standing) (f : Forest) → is_of p f ≡ true → is_of (placed p) f ≡ true
unfolding placed is_within
of-placed Empty f i = weaken Empty Placed f refl i
of-placed (Operand q) f i = weaken (Operand q) Placed f refl i
of-placed Placed f i = i
of-placed Unknown f i = i

pub of-first : (p q : Standing) (f : Forest) → is_of p f ≡ true → is_of (join p q) f ≡ true
unfolding join placed is_of is_within
of-first Unknown q f i = refl
of-first Empty q f i = of-end q f i
of-first Placed Empty f i = i
of-first Placed (Operand q) f i = i
of-first Placed Placed f i = i
of-first Placed Unknown f i = refl
of-first (Operand p) Empty f i = i
of-first (Operand p) (Operand q) f i = of (nat_le p q) refl
  where
    of : (b : Bool) → nat_le p q ≡ b → is_of (if b then Operand p else Operand q) f ≡ true
    of true e = i
    of false e = weaken (Operand p) (Operand q) f (le-leb q p (omega (arith, leb-false p q e))) i
of-first (Operand p) Placed f i = weaken (Operand p) Placed f refl i
of-first (Operand p) Unknown f i = refl

pub of-second : (p q : Standing) (f : Forest) → is_of q f ≡ true → is_of (join p q) f ≡ true
unfolding join is_of is_within
of-second Unknown q f i = refl
of-second Empty q f i = i
of-second Placed q f i = of-placed q f i
of-second (Operand p) Empty f i = of-end (Operand p) f i
of-second (Operand p) (Operand q) f i = of (nat_le p q) refl
  where
    of : (b : Bool) → nat_le p q ≡ b → is_of (if b then Operand p else Operand q) f ≡ true
    of true e = weaken (Operand q) (Operand p) f e i
    of false e = i
of-second (Operand p) Placed f i = i
of-second (Operand p) Unknown f i = refl

-- trees one after another
pub then-placed : (f h : Forest) → are_operators_placed f ≡ true → are_operators_placed h ≡ true → are_operators_placed (f then h) ≡ true
unfolding are_operators_placed
then-placed forest.End h e i = i
then-placed (forest.Leaf k n f) h e i = then-placed f h e i
then-placed (forest.Said m f) h e i = then-placed f h e i
then-placed (forest.ErrorLeaf m k f) h e i = then-placed f h e i
then-placed (forest.Node k c f) h e i =
    let own = (if k == BIN_EXPR then is_operator_placed c else true) && are_operators_placed c in
    both-true own (are_operators_placed (f then h)) (and_l own (are_operators_placed f) e) (then-placed f h (and_r own (are_operators_placed f) e) i)
then-placed (forest.Float b c f) h e i =
    let own = are_operators_placed c in
    both-true own (are_operators_placed (f then h)) (and_l own (are_operators_placed f) e) (then-placed f h (and_r own (are_operators_placed f) e) i)

after-placed : (q : Standing) (f g : Forest) → are_operators_placed f ≡ true → is_of (placed q) g ≡ true → is_of (placed q) (f then g) ≡ true
unfolding placed is_of
after-placed Empty f g e i = then-placed f g e i
after-placed (Operand q) f g e i = then-placed f g e i
after-placed Placed f g e i = then-placed f g e i
after-placed Unknown f g e i = refl

nothing-there : (f : Forest) → is_end f ≡ true → f ≡ forest.End
unfolding is_end
nothing-there forest.End e = refl
nothing-there (forest.Leaf k n f) e = absurd (true≢false (sym e))
nothing-there (forest.Said m f) e = absurd (true≢false (sym e))
nothing-there (forest.ErrorLeaf m k f) e = absurd (true≢false (sym e))
nothing-there (forest.Node k c f) e = absurd (true≢false (sym e))
nothing-there (forest.Float b c f) e = absurd (true≢false (sym e))

pub of-beside : (p q : Standing) (f g : Forest) → is_of p f ≡ true → is_of q g ≡ true → is_of (beside p q) (f then g) ≡ true
unfolding beside is_of is_within
of-beside Empty q f g e i = rw (nothing-there f e) i
of-beside Unknown q f g e i = refl
of-beside (Operand p) q f g e i = after-placed q f g (and_r (is_operand p f) (are_operators_placed f) e) (of-placed q g i)
of-beside Placed q f g e i = after-placed q f g e (of-placed q g i)

if-none : (b x : Bool) → b ≡ false → (if b then x else true) ≡ true
if-none true x e = absurd (true≢false e)
if-none false x e = refl

-- in a node that is no binary expression, and in a float
node-placed : (k : ℕ) (c : Forest) → (k == BIN_EXPR) ≡ false → are_operators_placed c ≡ true → is_of (Operand 13) (forest.Node k c forest.End) ≡ true
unfolding is_of is_operand are_operators_placed level
node-placed k c e i = rw e (rw i refl)

float-placed : (b : Bool) (c : Forest) → are_operators_placed c ≡ true → is_of (Operand 13) (forest.Float b c forest.End) ≡ true
unfolding is_of is_operand are_operators_placed
float-placed b c i = rw i refl

pub of-node : (p : Standing) (k : ℕ) (c : Forest) → (k == BIN_EXPR) ≡ false → is_of p c ≡ true → is_of (inside p) (forest.Node k c forest.End) ≡ true
unfolding inside is_of is_within
of-node Empty k c e i = node-placed k c e (of-end Placed c i)
of-node (Operand q) k c e i = node-placed k c e (and_r (is_operand q c) (are_operators_placed c) i)
of-node Placed k c e i = node-placed k c e i
of-node Unknown k c e i = refl

pub of-float : (p : Standing) (b : Bool) (c : Forest) → is_of p c ≡ true → is_of (inside p) (forest.Float b c forest.End) ≡ true
unfolding inside is_of is_within
of-float Empty b c i = float-placed b c (of-end Placed c i)
of-float (Operand q) b c i = float-placed b c (and_r (is_operand q c) (are_operators_placed c) i)
of-float Placed b c i = float-placed b c i
of-float Unknown b c i = refl
