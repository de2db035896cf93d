-- The layers of operators, by their heights.
use Rattle.std.proofs.Common.{◌≡◌, ℕ, zero, suc, ◌+◌, ◌-◌, ◌≤◌, ◌<◌, Bool, true, false, List, [], ◌∷◌, ◌++◌, length, nat_eq, refl, sym, ap, subst, ◌∙◌, arith, inl, inr, ◌⊎◌}
use Rattle.std.proofs.lemmas.Bool.{eq-eqb, eqb-true}
use Rattle.parser_input.specs.Kinds.{BIN_EXPR, CAST_EXPR}
use Rattle.parser_events.specs.Forest.{ExpectedExpression}
use Rattle.parser_events.specs.View.{View}
use Rattle.rust_grammar.specs.Calls.{TypeNoBounds}
use Rattle.rust_grammar.specs.Expressions.{after_operand, expressions}
use Rattle.rust_grammar.specs.Items.{items}
use Rattle.rust_grammar.specs.Meaning.{Reading, after, begins_below, fresh, look_of, meaning, read, sees}
use Rattle.rust_grammar.specs.Notation.{◌!, any_of, is_longer, no_longer, longest, one_of, row}
use Rattle.rust_grammar.specs.Paths.{paths}
use Rattle.rust_grammar.specs.Patterns.{patterns}
use Rattle.rust_grammar.specs.Rule.{disjunction, operation_tail, prefixed, Look, Rule, Call, Continue, One, Star, Then, Want, Wrap, begins, in_mode, from_start, is_silent, passes, shift, there_at}
use Rattle.rust_grammar.specs.Statements.{statements}
use Rattle.rust_grammar.specs.Types.{types}
use Rattle.rust_grammar.specs.Whole.{rule, whole}
use Rattle.rust_grammar.specs.Words.{'as'}
use Rattle.rust_grammar.proofs.WholeTable.{whole-begins}
use Rattle.rust_productions.specs.Layers.{layer_at, layers, operators, operators_at, repeated, turn_at, turns_from}
use Rattle.rust_productions.specs.Operators.{IsNext}
use Rattle.rust_productions.specs.Reads.{looks, FromStart, Completes, Does, Gives, Leaves, Opens, Reads, Saw, Condition, is_on}
use Rattle.rust_productions.specs.Stands.{left}
use Rattle.rust_productions.specs.declared.grammar.operators.Operator.{Operator}
use Rattle.rust_productions.proofs.Powers.{AllEnd, Layered, LayersFrom, NoTurns, gives-layers, last-layers, more-layers, next-layers}
use Rattle.rust_productions.proofs.ByHand.{does-as, does-then}
use Rattle.rust_productions.proofs.Choices.{from_start-completes, from_start-inside}
use Rattle.rust_productions.proofs.Seen.{ends-at-end}
use Rattle.rust_productions.proofs.Facts.{saw-so}
use Rattle.rust_productions.proofs.Turns.{EndsAtEnd}

-- a turn begins with its operator
pub turn-begins : (h : ℕ) → begins looks (turn_at h) ≡ begins looks (operators_at h)
unfolding turn_at operators_at operators begins passes is_silent
turn-begins zero = refl
turn-begins (suc zero) = refl
turn-begins (suc (suc zero)) = refl
turn-begins (suc (suc (suc zero))) = refl
turn-begins (suc (suc (suc (suc zero)))) = refl
turn-begins (suc (suc (suc (suc (suc zero))))) = refl
turn-begins (suc (suc (suc (suc (suc (suc zero)))))) = refl
turn-begins (suc (suc (suc (suc (suc (suc (suc zero))))))) = refl
turn-begins (suc (suc (suc (suc (suc (suc (suc (suc zero)))))))) = refl
turn-begins (suc (suc (suc (suc (suc (suc (suc (suc (suc zero))))))))) = refl
turn-begins (suc (suc (suc (suc (suc (suc (suc (suc (suc (suc zero)))))))))) = refl
turn-begins (suc (suc (suc (suc (suc (suc (suc (suc (suc (suc (suc zero))))))))))) = refl
turn-begins (suc (suc (suc (suc (suc (suc (suc (suc (suc (suc (suc (suc zero)))))))))))) = refl
turn-begins (suc (suc (suc (suc (suc (suc (suc (suc (suc (suc (suc (suc (suc n))))))))))))) = refl

-- none begins where no token is left
operators-end : (c : Condition) (h : ℕ) → EndsAtEnd c (operators_at h)
unfolding operators_at operators longest no_longer is_longer there_at sees begins
operators-end c zero = ends-at-end c (operators_at 0) refl
operators-end c (suc zero) = ends-at-end c (operators_at 1) refl
operators-end c (suc (suc zero)) = ends-at-end c (operators_at 2) refl
operators-end c (suc (suc (suc zero))) = ends-at-end c (operators_at 3) refl
operators-end c (suc (suc (suc (suc zero)))) = ends-at-end c (operators_at 4) refl
operators-end c (suc (suc (suc (suc (suc zero))))) = ends-at-end c (operators_at 5) refl
operators-end c (suc (suc (suc (suc (suc (suc zero)))))) = ends-at-end c (operators_at 6) refl
operators-end c (suc (suc (suc (suc (suc (suc (suc zero))))))) = ends-at-end c (operators_at 7) refl
operators-end c (suc (suc (suc (suc (suc (suc (suc (suc zero)))))))) = ends-at-end c (operators_at 8) refl
operators-end c (suc (suc (suc (suc (suc (suc (suc (suc (suc zero))))))))) = ends-at-end c (operators_at 9) refl
operators-end c (suc (suc (suc (suc (suc (suc (suc (suc (suc (suc zero)))))))))) = ends-at-end c (operators_at 10) refl
operators-end c (suc (suc (suc (suc (suc (suc (suc (suc (suc (suc (suc zero))))))))))) = ends-at-end c (operators_at 11) refl
operators-end c (suc (suc (suc (suc (suc (suc (suc (suc (suc (suc (suc (suc zero)))))))))))) = ends-at-end c (operators_at 12) refl
operators-end c (suc (suc (suc (suc (suc (suc (suc (suc (suc (suc (suc (suc (suc n))))))))))))) = λ t none. refl

turn-ends : (c : Condition) (h : ℕ) → EndsAtEnd c (turn_at h)
turn-ends c h = λ t none. ap (λ l. sees (is_on c) t l) (turn-begins h) ∙ operators-end c h t none

all-end : (c : Condition) (n low : ℕ) → AllEnd c (turns_from n low)
unfolding turns_from
all-end c zero low = tt
all-end c (suc n) low = (turn-ends c low, all-end c n (suc low))

-- a layer reads an operand of the one below, and its turns
row-at : (h : ℕ) → h < 10 → rule (layer_at (suc h)) ≡ Then (Call (layer_at h)) (Star (turn_at (suc h)))
unfolding layer_at layers turn_at operators_at operators rule items statements expressions patterns types paths
row-at zero e = refl
row-at (suc zero) e = refl
row-at (suc (suc zero)) e = refl
row-at (suc (suc (suc zero))) e = refl
row-at (suc (suc (suc (suc zero)))) e = refl
row-at (suc (suc (suc (suc (suc zero))))) e = refl
row-at (suc (suc (suc (suc (suc (suc zero)))))) e = refl
row-at (suc (suc (suc (suc (suc (suc (suc zero))))))) e = refl
row-at (suc (suc (suc (suc (suc (suc (suc (suc zero)))))))) e = refl
row-at (suc (suc (suc (suc (suc (suc (suc (suc (suc zero))))))))) e = refl
row-at (suc (suc (suc (suc (suc (suc (suc (suc (suc (suc n)))))))))) e = absurd (omega (arith, e))

operands-from_start : from_start (looks prefixed) ≡ looks prefixed
unfolding look_of begins_below whole rule items statements expressions patterns types paths there_at shift passes is_silent begins in_mode from_start row one_of any_of no_longer longest is_longer
operands-from_start = refl

-- so each begins where an operand does
pub layer-begins : (h : ℕ) → h ≤ 10 → looks (layer_at h) ≡ looks prefixed
unfolding layer_at layers begins passes is_silent
layer-begins zero low = refl
layer-begins (suc h) low =
    whole-begins (layer_at (suc h)) ∙ ap (λ (r : Rule). begins looks r) (row-at h (omega (arith, low))) ∙ ap (λ (l : Look). from_start l) (layer-begins h (omega (arith, low))) ∙ operands-from_start

pub saw-layer : {c : Condition} {b : Bool} {v : View} (h : ℕ) → h ≤ 10 → Saw c (looks prefixed) v b → Saw c (looks (layer_at h)) v b
saw-layer {c} {b} {v} h low saw = subst (λ (l : Look). Saw c l v b) (sym (layer-begins h low)) saw

pub saw-disjunction : {c : Condition} {b : Bool} {v : View} → Saw c (looks prefixed) v b → Saw c (looks disjunction) v b
unfolding layer_at layers
saw-disjunction saw = saw-layer 10 (omega arith) saw

one-more : (n low : ℕ) → turns_from (suc n) low ≡ turns_from n low ++ (turn_at (n + low) ∷ [])
unfolding turns_from
one-more zero low = ap (λ (m : ℕ). turn_at m ∷ []) (let e : low ≡ 0 + low = omega arith in e)
one-more (suc n) low =
    ap (λ xs. turn_at low ∷ xs) (one-more n (suc low) ∙ ap (λ (m : ℕ). turns_from n (suc low) ++ (turn_at m ∷ [])) (let e : n + suc low ≡ suc n + low = omega arith in e))

-- a layer is its operands with the turns of all layers up to it
pub layered : (c : Condition) (h : ℕ) → h ≤ 10 → Layered c (layer_at h) prefixed (turns_from h 1)
unfolding turns_from layer_at layers read fresh after
layered c zero low = λ s. refl
layered c (suc h) low =
    subst (λ xs. Layered c (layer_at (suc h)) prefixed xs) (sym (one-more h 1 ∙ ap (λ (m : ℕ). turns_from h 1 ++ (turn_at m ∷ [])) (let e : h + 1 ≡ suc h = omega arith in e)))
    (more-layers c (layer_at (suc h)) (layer_at h) prefixed (turns_from h 1) (turn_at (suc h)) (row-at h (omega (arith, low))) (layered c h (omega (arith, low))))

parted : (d n low : ℕ) → turns_from (d + suc n) low ≡ turns_from d low ++ (turn_at (d + low) ∷ turns_from n (suc (d + low)))
unfolding turns_from
parted zero n low =
    ap (λ (m : ℕ). turns_from m low) (let e : 0 + suc n ≡ suc n = omega arith in e) ∙ ap (λ (m : ℕ). turn_at m ∷ turns_from n (suc m)) (let e : low ≡ 0 + low = omega arith in e)
parted (suc d) n low =
    ap (λ (m : ℕ). turns_from m low) (let e : suc d + suc n ≡ suc (d + suc n) = omega arith in e)
    ∙ ap (λ xs. turn_at low ∷ xs)
    (parted d n (suc low) ∙ ap (λ (m : ℕ). turns_from d (suc low) ++ (turn_at m ∷ turns_from n (suc m))) (let e : d + suc low ≡ suc d + low = omega arith in e))

-- layers whose operators the next one is none of have no turn here
no-turns : {o : Operator} {v : View} (c : Condition) → IsNext o v → (n low : ℕ) → 1 ≤ low → low + n ≤ 13 → (o.height < low) ⊎ (low + n ≤ o.height) → NoTurns c v (turns_from n low)
unfolding turns_from
no-turns c next zero low p q apart = tt
no-turns {o} {v} c next (suc n) low p q apart = (
  subst (λ l. Saw c l v false) (sym (turn-begins low)) (saw-so (next.sees c low p (omega (arith, q))) (differs (nat_eq o.height low) refl apart)),
  no-turns c next n (suc low) (omega (arith, p)) (omega (arith, q)) (further apart),
)
  where
    differs : (b : Bool) → nat_eq o.height low ≡ b → (o.height < low) ⊎ (low + suc n ≤ o.height) → nat_eq o.height low ≡ false
    differs true e (inl x) = absurd (omega (arith, x, eqb-true _ _ e))
    differs true e (inr x) = absurd (omega (arith, x, eqb-true _ _ e))
    differs false e x = e

    further : (o.height < low) ⊎ (low + suc n ≤ o.height) → (o.height < suc low) ⊎ (suc low + n ≤ o.height)
    further (inl x) = inl (omega (arith, x))
    further (inr x) = inr (omega (arith, x))

-- the operator that is next begins a turn of its layer
turn-next : {o : Operator} {v : View} (c : Condition) → IsNext o v → 1 ≤ o.height → Saw c (begins looks (turn_at o.height)) v true
turn-next {o} {v} c next is = subst (λ l. Saw c l v true) (sym (turn-begins o.height)) (saw-so (next.sees c o.height is next.low) (eq-eqb o.height o.height refl))

-- One more turn, of a layer from the lowest that is allowed up to the top: from there on that layer and those above it are.
pub next-turn-of :
    {o : Operator} {all : List Rule} {entry now next : View} (c : Condition) (lowest top : ℕ) → 1 ≤ lowest → lowest ≤ o.height → o.height ≤ top → top ≤ 10
    → LayersFrom c all (turns_from (top + 1 - lowest) lowest) entry now → IsNext o now → Reads c (turn_at o.height) now next → length (left next) < length (left now)
    → LayersFrom c all (turns_from (top + 1 - o.height) o.height) entry next
unfolding turns_from
next-turn-of {o} {all} {entry} {now} {next} c lowest top some from to high at is reads less =
    let d = o.height - lowest in
    let n = top - o.height in
    let count : top + 1 - lowest ≡ d + suc n = omega (arith, from, to) in
    let place : d + lowest ≡ o.height = omega (arith, from) in
    let rest : suc n ≡ top + 1 - o.height = omega (arith, to) in
    let here : turns_from (top + 1 - lowest) lowest ≡ turns_from d lowest ++ (turn_at o.height ∷ turns_from n (suc o.height)) =
    ap (λ (m : ℕ). turns_from m lowest) count ∙ parted d n lowest ∙ ap (λ (m : ℕ). turns_from d lowest ++ (turn_at m ∷ turns_from n (suc m))) place in
    subst (λ (m : ℕ). LayersFrom c all (turns_from m o.height) entry next) rest
    (next-layers c all (turns_from d lowest) (turn_at o.height) (turns_from n (suc o.height)) entry now next (all-end c d lowest) (turn-ends c o.height)
    (subst (λ xs. LayersFrom c all xs entry now) here at) (no-turns c is d lowest some (omega (arith, from, to, high)) (inr (omega (arith, from))))
    (turn-next c is (omega (arith, some, from))) reads less)

-- No turn is left, where the next operator is of none of these layers.
pub last-turn-of :
    {o : Operator} {all : List Rule} {entry now end : View} (c : Condition) (lowest top : ℕ) → 1 ≤ lowest → lowest ≤ top + 1 → top ≤ 10 → (o.height < lowest) ⊎ (top < o.height)
    → LayersFrom c all (turns_from (top + 1 - lowest) lowest) entry now → IsNext o now → Does (λ s. s) now end → Reads c (repeated all) entry end
last-turn-of {o} {all} {entry} {now} {end} c lowest top some low high apart at is does =
    last-layers c all (turns_from (top + 1 - lowest) lowest) entry now end (all-end c (top + 1 - lowest) lowest) at
    (no-turns c is (top + 1 - lowest) lowest some (omega (arith, low, high)) (whole apart)) does
  where
    whole : (o.height < lowest) ⊎ (top < o.height) → (o.height < lowest) ⊎ (lowest + (top + 1 - lowest) ≤ o.height)
    whole (inl x) = inl x
    whole (inr x) = inr (omega (arith, x, low))

-- At the start of a rule, an operand and the turns after it read as the production of layer `h`.
pub from_start-layers :
    {b : Rule} {old mid new : View} (c : Condition) (h : ℕ) → h ≤ 10 → Opens old mid → Completes c (Then (Then (Call prefixed) (repeated (turns_from h 1))) b) mid new
    → FromStart c (Then (Call (layer_at h)) b) old new
unfolding read fresh after
from_start-layers {b} {old} {mid} {new} c h low o q =
    let first : FromStart c (Then (Then (Call prefixed) (repeated (turns_from h 1))) b) old new = from_start-completes o q in
    record { does = does-as (λ s e. ap (λ (t : Reading). after s (read (look_of whole) (meaning whole) (is_on c) b t)) (sym (layered c h low s))) first.does }

pub gives-layer :
    {old mid end new : View} (c : Condition) (h : ℕ) → h ≤ 10 → Opens old mid → Reads c (Then (Call prefixed) (repeated (turns_from h 1))) mid end → Leaves end new → Gives (layer_at h) c old new
gives-layer c h low o p q = gives-layers c (layer_at h) prefixed (turns_from h 1) (layered c h low) (from_start-inside o p q)

-- a turn of a layer of operands
pub binary-turn : (h : ℕ) → 1 ≤ h → nat_eq h 1 ≡ false → turn_at h ≡ Wrap BIN_EXPR (Then (operators_at h) (Want (Call (layer_at (h - 1))) ExpectedExpression))
unfolding turn_at
binary-turn zero some e = absurd (omega (arith, some))
binary-turn (suc zero) some e = absurd (let z : true ≡ false = e in cc)
binary-turn (suc (suc h)) some e = ap (λ (m : ℕ). Wrap BIN_EXPR (Then (operators_at (suc (suc h))) (Want (Call (layer_at m)) ExpectedExpression))) (let e : suc h ≡ suc (suc h) - 1 = omega arith in e)

pub cast-turn : turn_at 1 ≡ Wrap CAST_EXPR (Then (One 'as') (TypeNoBounds !))
unfolding turn_at operators_at operators
cast-turn = refl

-- After an operand that was read: the turns of all layers, and what follows these.
pub reads-after-operand :
    {c : Condition} {old mid new : View} → Reads c (repeated (turns_from 10 1)) old mid → Reads c (Continue operation_tail) mid new → Reads c after_operand old new
unfolding turns_from turn_at operators_at operators layer_at layers read
reads-after-operand p q = record { does = does-as (λ s e. refl) (does-then p.does q.does) }
