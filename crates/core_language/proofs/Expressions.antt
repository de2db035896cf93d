-- A core expression is read, whatever stands after it that does not go on with it.
use Rattle.std.proofs.Common.{◌≡◌, ℕ, suc, ◌+◌, ◌<◌, ◌≤◌, Bool, refl, sym, subst, arith, inl, inr}
use native.Mathlib.Nat.{eq-or-lt_of_le}
use Rattle.core_language.specs.Expressions.{AreWellFormed, ArgumentComma, Arguments, Assignment, Binary, Borrow, Expression, FieldAccess, FunctionCall, IsWellFormed, LastArgument, Literal, MethodCall, Named, NoArgument, Parenthesized, Prefixed, level}
use Rattle.core_language.specs.Operators.{BitAnd, BitOr, BitXor, Divide, Equal, Greater, GreaterOrEqual, Less, LessOrEqual, LogicalAnd, LogicalOr, Minus, NotEqual, Operator, Pipe, Plus, Remainder, ShiftLeft, ShiftRight, Times, power}
use Rattle.core_language.proofs.Atoms.{literal-atom, paren-atom, path-atom}
use Rattle.core_language.proofs.Layers.{LoopAt, ReadsAt, ReadsPrefixed, binary-loop, climb, loop-ends, loop-of, reads-cast}
use Rattle.core_language.proofs.Places.{place, under}
use Rattle.core_language.proofs.Postfix.{ArgumentsRead, ReadsExpression, ReadsHigh, argument-comma-read, closed-paren, high-atom, high-call, high-field, high-method, last-argument-read, no-argument-read, prefixed-borrow, prefixed-high, prefixed-sign}
use Rattle.core_language.proofs.Tails.{ReadsPiped, ReadsWhole, expression-reads, piped-operand, piped-turn, whole-assign, whole-piped}

-- all that is known of one expression
pub record Known (flag : Bool) (e : Expression) : Type 0 where
  pub high : 15 ≤ level e → ReadsHigh flag e
  pub prefixed : 14 ≤ level e → ReadsPrefixed flag e
  pub loop : (d : ℕ) → d ≤ 8 → 12 ≤ level e + d → LoopAt flag d e
  pub layer : (d : ℕ) → d ≤ 9 → 13 ≤ level e + d → ReadsAt flag d e
  pub piped : 2 ≤ level e → ReadsPiped flag e
  pub whole : ReadsWhole flag e

-- an expression of a higher binding power than every binary operator
from-prefixed : (flag : Bool) (e : Expression) → 14 ≤ level e → (15 ≤ level e → ReadsHigh flag e) → ReadsPrefixed flag e → Known flag e
from-prefixed flag e h high p =
    let at_any : (d : ℕ) → d ≤ 9 → ReadsAt flag d e = λ d k. climb flag e 0 d (omega arith) k (reads-cast flag e p) in
    record {
      high = high;
      prefixed = λ i. p;
      loop = λ d i k. loop-of flag d i e (at_any d (omega arith));
      layer = λ d i k. at_any d i;
      piped = λ i. piped-operand flag e (at_any 9 (omega arith));
      whole = whole-piped flag e (piped-operand flag e (at_any 9 (omega arith)));
    }

from-high : (flag : Bool) (e : Expression) → IsWellFormed e → 15 ≤ level e → ReadsHigh flag e → Known flag e
from-high flag e i h r = from-prefixed flag e (omega arith) (λ k. r) (prefixed-high flag e i h r)

-- a binary expression, whose own layer is suc u
from-binary : (flag : Bool) (e : Expression) (u : ℕ) → u ≤ 8 → u + level e ≡ 12 → LoopAt flag u e → Known flag e
from-binary flag e u h same own =
    let at_any : (d : ℕ) → suc u ≤ d → d ≤ 9 → ReadsAt flag d e = λ d i k. climb flag e (suc u) d i k (loop-ends flag u e own) in
    record {
      high = λ i. absurd (omega arith);
      prefixed = λ i. absurd (omega arith);
      loop = λ d i k. elim (eq-or-lt_of_le (own_first d k)) [
        | inl s ↦ subst (λ (n : ℕ). LoopAt flag n e) s own
        | inr s ↦ loop-of flag d i e (at_any d s (omega arith))
      ];
      layer = λ d i k. at_any d (omega arith) i;
      piped = λ i. piped-operand flag e (at_any 9 (omega arith) (omega arith));
      whole = whole-piped flag e (piped-operand flag e (at_any 9 (omega arith) (omega arith)));
    }
  where
    own_first : (d : ℕ) → 12 ≤ level e + d → u ≤ d
    own_first d k = omega arith

from-assign : (flag : Bool) (e : Expression) → level e ≡ 1 → ReadsWhole flag e → Known flag e
from-assign flag e one w = record {
  high = λ i. absurd (omega arith);
  prefixed = λ i. absurd (omega arith);
  loop = λ d i k. absurd (omega arith);
  layer = λ d i k. absurd (omega arith);
  piped = λ i. absurd (omega arith);
  whole = w;
}

from-pipe : (flag : Bool) (e : Expression) → level e ≡ 2 → ReadsPiped flag e → Known flag e
from-pipe flag e two p = record {
  high = λ i. absurd (omega arith);
  prefixed = λ i. absurd (omega arith);
  loop = λ d i k. absurd (omega arith);
  layer = λ d i k. absurd (omega arith);
  piped = λ i. p;
  whole = whole-piped flag e p;
}

expression-of : (flag : Bool) (e : Expression) → Known flag e → ReadsExpression flag e
expression-of flag e k more c = expression-reads flag e more (k.whole more c)

-- no operator has the power 3, that of ranges, so an expression that binds tighter than `|>` is an operand of the highest layer
above-power : (o : Operator) → 2 < power o → 4 ≤ power o
above-power Pipe h = absurd (omega arith)
above-power LogicalOr h = omega arith
above-power LogicalAnd h = omega arith
above-power Equal h = omega arith
above-power NotEqual h = omega arith
above-power Less h = omega arith
above-power Greater h = omega arith
above-power LessOrEqual h = omega arith
above-power GreaterOrEqual h = omega arith
above-power BitOr h = omega arith
above-power BitXor h = omega arith
above-power BitAnd h = omega arith
above-power ShiftLeft h = omega arith
above-power ShiftRight h = omega arith
above-power Plus h = omega arith
above-power Minus h = omega arith
above-power Times h = omega arith
above-power Divide h = omega arith
above-power Remainder h = omega arith

above-pipe : (e : Expression) → 2 < level e → 13 ≤ level e + 9
above-pipe (Literal l j) h = omega arith
above-pipe (Named p) h = omega arith
above-pipe (Parenthesized j e k) h = omega arith
above-pipe (FunctionCall e j es k) h = omega arith
above-pipe (MethodCall e d n j es k) h = omega arith
above-pipe (FieldAccess e d n) h = omega arith
above-pipe (Prefixed s j e) h = omega arith
above-pipe (Borrow j m e) h = omega arith
above-pipe (Binary l o j r) h = let i = above-power o h in omega (arith, i)
above-pipe (Assignment l o j r) h = absurd (omega arith)

reach-left : (l : Expression) (o : Operator) → under o + power o ≡ 12 → power o ≤ level l → 12 ≤ level l + under o
reach-left l o e h = omega arith

reach-right : (r : Expression) (o : Operator) → under o + power o ≡ 12 → power o < level r → 13 ≤ level r + under o
reach-right r o e h = omega arith

reach-low : (o : Operator) → under o ≤ 8 → under o ≤ 9
reach-low o h = omega arith

-- a binary expression, from its operands
binary-known : (flag : Bool) (l : Expression) (o : Operator) (j : Bool) (r : Expression) → IsWellFormed (Binary l o j r) → Known flag l → Known flag r → Known flag (Binary l o j r)
binary-known flag l o j r i left right = elim (place o) [
  | inl e ↦ subst (λ (p : Operator). IsWellFormed (Binary l p j r) → Known flag (Binary l p j r)) (sym e)
      (λ k. from-pipe flag (Binary l Pipe j r) refl (piped-turn flag l j r (left.piped k.2) (right.layer 9 (omega arith) (above-pipe r k.3)))) i
  | inr e ↦
      from-binary flag (Binary l o j r) (under o) e.1 e.0
      (binary-loop flag l o j r e.1 i.4 (left.loop (under o) e.1 (reach-left l o e.0 i.2)) (right.layer (under o) (reach-low o e.1) (reach-right r o e.0 i.3)))
]

mutual
  pub known : (flag : Bool) (e : Expression) → IsWellFormed e → Known flag e
  known flag (Literal l j) i = from-high flag (Literal l j) i (omega arith) (high-atom flag (Literal l j) (λ more c. literal-atom flag l j more))
  known flag (Named p) i = from-high flag (Named p) i (omega arith) (high-atom flag (Named p) (λ more c. path-atom flag p more c))
  known flag (Parenthesized j e k) i =
      let w = known flag e i in
      from-high flag (Parenthesized j e k) i (omega arith) (high-atom flag (Parenthesized j e k) (λ more c. paren-atom flag j e k more (expression-of flag e w _ (closed-paren flag k more))))
  known flag (FunctionCall e j es k) i = from-high flag (FunctionCall e j es k) i (omega arith) (high-call flag e j es k ((known flag e i.0).high i.1) i.2 (all-known flag es i.3))
  known flag (MethodCall e d n j es k) i = from-high flag (MethodCall e d n j es k) i (omega arith) (high-method flag e d n j es k ((known flag e i.0).high i.1) (all-known flag es i.2))
  known flag (FieldAccess e d n) i = from-high flag (FieldAccess e d n) i (omega arith) (high-field flag e d n ((known flag e i.0).high i.1))
  known flag (Prefixed s j e) i = from-prefixed flag (Prefixed s j e) (omega arith) (λ h. absurd (omega arith)) (prefixed-sign flag s j e ((known flag e i.0).prefixed i.1))
  known flag (Borrow j m e) i = from-prefixed flag (Borrow j m e) (omega arith) (λ h. absurd (omega arith)) (prefixed-borrow flag j m e ((known flag e i.0).prefixed i.1))
  known flag (Binary l o j r) i = binary-known flag l o j r i (known flag l i.0) (known flag r i.1)
  known flag (Assignment l o j r) i =
      from-assign flag (Assignment l o j r) refl (whole-assign flag l o j r ((known flag l i.0).piped i.2) ((known flag r i.1).whole))

  pub all-known : (flag : Bool) (es : Arguments) → AreWellFormed es → ArgumentsRead flag es
  all-known flag NoArgument i = no-argument-read flag
  all-known flag (LastArgument e) i = last-argument-read flag e (expression-of flag e (known flag e i))
  all-known flag (ArgumentComma e j es) i = argument-comma-read flag e j es (expression-of flag e (known flag e i.0)) (all-known flag es i.1)

-- A core expression is read, as an expression, where nothing goes on with it.
pub core-expression-reads : (flag : Bool) (e : Expression) → IsWellFormed e → ReadsExpression flag e
core-expression-reads flag e i = expression-of flag e (known flag e i)
