-- A binary expression whose operator fits between its operands.
use Rattle.std.proofs.Common.{◌≡◌, ℕ, ◌≤◌, ◌<◌, Bool, true, ◌&&◌, ◌||◌, ◌==◌, nat_lt, nat_le, refl, sym, inl, inr, true≢false, arith}
use Rattle.std.proofs.lemmas.Bool.{leb-true, ltb-true, lt-ltb, le-leb, or_cases}
use Rattle.parser_input.specs.Kinds.{BIN_EXPR}
use Rattle.parser_events.specs.Forest as forest
use Rattle.parser_events.specs.Forest.{Forest, Message, ◌then◌}
use Rattle.rust_grammar.specs.Powers.{power, operator, level, left_level, right_level, is_operator_placed, are_operators_placed}
use Rattle.rust_grammar.proofs.Plain.{and_l, and_r}
use Rattle.rust_grammar.proofs.Spelling.{both-true, or-first, or-second}
use Rattle.rust_grammar.proofs.Powers.{Operand, is_operand, is_of, then-placed}

-- an operator of power p fits between operands of these levels
unfoldable pub fits_between : (p q r : ℕ) → Bool
fits_between p q r = nat_lt 0 p && (nat_le p q && (nat_lt 1 q && (nat_le q 13 && (nat_le r 13 && (p == 1 || nat_lt p r)))))

-- an operator fits between these operands
pub record Fits (p q r : ℕ) : Type 0 where
  pub is_operator : 0 < p
  pub left : p ≤ q
  pub no_assignment : 1 < q
  pub left_bound : q ≤ 13
  pub right_bound : r ≤ 13
  pub right : (p == 1 || nat_lt p r) ≡ true

pub fits-so : (p q r : ℕ) → fits_between p q r ≡ true → Fits p q r
unfolding fits_between
fits-so p q r e =
    let e1 = and_r (nat_lt 0 p) _ e in
    let e2 = and_r (nat_le p q) _ e1 in
    let e3 = and_r (nat_lt 1 q) _ e2 in
    let e4 = and_r (nat_le q 13) _ e3 in
    record {
      is_operator = ltb-true _ _ (and_l (nat_lt 0 p) _ e);
      left = leb-true _ _ (and_l (nat_le p q) _ e1);
      no_assignment = ltb-true _ _ (and_l (nat_lt 1 q) _ e2);
      left_bound = leb-true _ _ (and_l (nat_le q 13) _ e3);
      right_bound = leb-true _ _ (and_l (nat_le r 13) _ e4);
      right = and_r (nat_le r 13) _ e4;
    }

-- The children of a binary expression: the left operand, the operator, and the trees after it
abbrev pub around : Forest → (kind count : ℕ) → Forest → Forest
around f k n g = (f then forest.Leaf k n forest.End) then g

operator-around : (q : ℕ) (f : Forest) (k n : ℕ) (g : Forest) → is_operand q f ≡ true → operator (around f k n g) ≡ k
unfolding is_operand operator
operator-around q forest.End k n g e = refl
operator-around q (forest.Node i c forest.End) k n g e = refl
operator-around q (forest.Float b c forest.End) k n g e = refl
operator-around q f k n g e = absurd (true≢false (sym e))

left-around : (q : ℕ) (f : Forest) (k n : ℕ) (g : Forest) → q ≤ 13 → is_operand q f ≡ true → q ≤ left_level (around f k n g)
unfolding is_operand left_level
left-around q forest.End k n g l e = l
left-around q (forest.Node i c forest.End) k n g l e = leb-true q (level i c) e
left-around q (forest.Float b c forest.End) k n g l e = l
left-around q f k n g l e = absurd (true≢false (sym e))

right-around : (q : ℕ) (f : Forest) (k n : ℕ) (g : Forest) → is_operand q f ≡ true → right_level (around f k n g) ≡ right_level g
unfolding is_operand right_level
right-around q forest.End k n g e = refl
right-around q (forest.Node i c forest.End) k n g e = refl
right-around q (forest.Float b c forest.End) k n g e = refl
right-around q f k n g e = absurd (true≢false (sym e))

right-operand : (r : ℕ) (g : Forest) → r ≤ 13 → is_operand r g ≡ true → r ≤ right_level g
unfolding is_operand right_level
right-operand r forest.End l e = l
right-operand r (forest.Node i c forest.End) l e = leb-true r (level i c) e
right-operand r (forest.Float b c forest.End) l e = l
right-operand r g l e = absurd (true≢false (sym e))

right-fits : (p r l : ℕ) → (p == 1 || nat_lt p r) ≡ true → r ≤ l → (p == 1 || nat_lt p l) ≡ true
right-fits p r l e le = elim (or_cases (p == 1) (nat_lt p r) e) [
  | inl i ↦ or-first (p == 1) (nat_lt p l) i
  | inr i ↦ or-second (p == 1) (nat_lt p l) (let less = ltb-true p r i in lt-ltb p l (omega (arith, less, le)))
]

operator-placed : (p q r : ℕ) (f : Forest) (k n : ℕ) (g : Forest)
    → power k ≡ p → Fits p q r → is_operand q f ≡ true → r ≤ right_level g
    → is_operator_placed (around f k n g) ≡ true
unfolding is_operator_placed
operator-placed p q r f k n g is fit e i =
    let tree = around f k n g in
    let left = left-around q f k n g fit.left_bound e in
    let at_left = fit.left in
    let above = fit.no_assignment in
    let left_fits = both-true (nat_le p (left_level tree)) (nat_lt 1 (left_level tree)) (le-leb _ _ (omega (arith, left, at_left))) (lt-ltb _ _ (omega (arith, left, above))) in
    let own = both-true (nat_lt 0 p) (nat_le p (left_level tree) && nat_lt 1 (left_level tree)) (lt-ltb 0 p fit.is_operator) left_fits in
    let right = right-fits p r (right_level g) fit.right i in
    rw (operator-around q f k n g e) (rw is (rw (right-around q f k n g e)
    (both-true (nat_lt 0 p && (nat_le p (left_level tree) && nat_lt 1 (left_level tree))) (p == 1 || nat_lt p (right_level g)) own right)))

-- the binding power of a binary expression is at least that of its operator
pub binary-is : (p q r : ℕ) (f : Forest) (k n : ℕ) (g : Forest)
    → power k ≡ p → Fits p q r → is_of (Operand q) f ≡ true → r ≤ right_level g → are_operators_placed g ≡ true
    → is_of (Operand p) (forest.Node BIN_EXPR (around f k n g) forest.End) ≡ true
unfolding is_of is_operand level are_operators_placed
binary-is p q r f k n g is fit e i h =
    let operand = and_l (is_operand q f) (are_operators_placed f) e in
    let left = then-placed f (forest.Leaf k n forest.End) (and_r (is_operand q f) (are_operators_placed f) e) refl in
    let inner : are_operators_placed (around f k n g) ≡ true = then-placed (f then forest.Leaf k n forest.End) g left h in
    let own = operator-placed p q r f k n g is fit operand i in
    rw own (rw inner (rw (operator-around q f k n g operand) (rw is (rw (le-leb p p (omega arith)) refl))))

-- after the operator: an operand, or the error for a missing one
pub said-only : (m : Message) → are_operators_placed (forest.Said m forest.End) ≡ true
unfolding are_operators_placed
said-only m = refl

pub right-there : (r : ℕ) (g : Forest) → r ≤ 13 → is_of (Operand r) g ≡ true → (r ≤ right_level g) × (are_operators_placed g ≡ true)
unfolding is_of
right-there r g l h = (right-operand r g l (and_l (is_operand r g) (are_operators_placed g) h), and_r (is_operand r g) (are_operators_placed g) h)

pub said-bound : (r : ℕ) (m : Message) → r ≤ 13 → r ≤ right_level (forest.Said m forest.End)
unfolding right_level
said-bound r m l = l
