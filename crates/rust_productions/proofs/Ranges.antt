-- Operations begin with a range operator or an operand.
use Rattle.std.proofs.Common.{◌≡◌, ℕ, ◌≤◌, Bool, true, false, length, Option, Some, None, IfSome, refl, subst, sym, ap, ◌∙◌, arith}
use Rattle.parser_input.specs.Kinds.{BIN_EXPR, RANGE_EXPR}
use Rattle.parser_events.specs.View.{View}
use Rattle.rust_grammar.specs.Calls.{Disjunction, Operation}
use Rattle.rust_grammar.specs.Expressions.{assignment, expressions, open_range, range_mark, range_operand, range_to}
use Rattle.rust_grammar.specs.Items.{items}
use Rattle.rust_grammar.specs.Meaning.{begins_below, fresh, look_of}
use Rattle.rust_grammar.specs.Notation.{◌!, any_of, is_longer, no_longer, longest, one_of, row}
use Rattle.rust_grammar.specs.Paths.{paths}
use Rattle.rust_grammar.specs.Patterns.{patterns}
use Rattle.rust_grammar.specs.Rule.{Production, disjunction, expression, operation, operation_tail, pipe_tail, prefixed, Look, Rule, Nothing, One, Then, Or, Node, Wrap, Continue, Call, begins, in_mode, from_start, is_silent, passes, shift, there_at}
use Rattle.rust_grammar.specs.Statements.{statements}
use Rattle.rust_grammar.specs.Types.{types}
use Rattle.rust_grammar.specs.Whole.{rule, whole}
use Rattle.rust_grammar.specs.Words.{'dots', 'dots_eq'}
use Rattle.rust_grammar.proofs.Elsewhere.{from_start-seen}
use Rattle.rust_productions.specs.Layers.{layer_at, layers, operators, operators_at, repeated, turns_from}
use Rattle.rust_productions.specs.Looks.{tokens}
use Rattle.rust_productions.specs.Operators.{IsMark, spelling_of}
use Rattle.rust_productions.specs.Reads.{looks, Does, Gives, Leaves, Opens, Reads, Saw, Condition, is_on}
use Rattle.rust_productions.specs.Stands.{left}
use Rattle.rust_productions.specs.declared.grammar.operators.RangeMark.{RangeMark}
use Rattle.rust_productions.specs.declared.grammar.operators.RangeMark.TheVariants.{Exclusive, Inclusive}
use Rattle.rust_productions.proofs.ByHand.{completes-leave, does-then, reads-call, reads-else, reads-nothing, reads-or, reads-then}
use Rattle.rust_productions.proofs.Choices.{from_start-after, from_start-here, gives-from_start, reads-here}
use Rattle.rust_productions.proofs.Facts.{begun, nothing, ◌and◌}
use Rattle.rust_productions.proofs.Layering.{from_start-layers, layer-begins, saw-disjunction}
use Rattle.rust_productions.proofs.Seen.{begins-else, begins-row, saw-ahead, starts-here, still-left}
use Rattle.rust_productions.proofs.Words.{saw-both}

pub operation-marked : {c : Condition} {m : Option RangeMark} {v : View} (mark : RangeMark) → m ≡ Some mark → IsMark m v → Saw c (looks operation) v true
unfolding look_of begins_below whole rule items statements expressions patterns types paths there_at shift passes is_silent begins in_mode from_start row one_of any_of no_longer longest is_longer
operation-marked {c} {m} {v} mark is next = begun-by mark (subst (λ (o : Option RangeMark). IsMark o v) is next)
  where
    begun-by : (mark : RangeMark) → IsMark (Some mark) v → Saw c (looks operation) v true
    begun-by Exclusive next = begins-row operation (next.dots_eq c and (next.dots c and nothing)) refl
    begun-by Inclusive next = begins-row operation (next.dots_eq c and (next.dots c and nothing)) refl

pub operation-unmarked : {c : Condition} {b : Bool} {m : Option RangeMark} {v : View} → m ≡ None → IsMark m v → Saw c (looks prefixed) v b → Saw c (looks operation) v b
unfolding look_of begins_below whole rule items statements expressions patterns types paths there_at shift passes is_silent begins in_mode from_start row one_of any_of no_longer longest is_longer
operation-unmarked {c} {b} {m} {v} is next saw = begun-by (subst (λ (o : Option RangeMark). IsMark o v) is next)
  where
    begun-by : IsMark None v → Saw c (looks operation) v b
    begun-by next = begins-row operation (next.dots_eq c and (next.dots c and begun disjunction (saw-disjunction saw) nothing)) refl

-- where no mark is next, an operation begins with an operand
pub operand-begun : {c : Condition} {v : View} → IsMark None v → Saw c (looks operation) v true → Saw c (looks prefixed) v true
unfolding look_of begins_below whole rule items statements expressions patterns types paths there_at shift passes is_silent begins in_mode from_start row one_of any_of no_longer longest is_longer layer_at layers
operand-begun {c} {v} next saw =
    subst (λ (l : Look). Saw c l v true) (layer-begins 10 (omega arith)) (begins-else disjunction operation refl (next.dots_eq c and (next.dots c and nothing)) saw refl)

-- an expression begins where an operation does
expression-begins : looks expression ≡ looks operation
unfolding look_of begins_below whole rule items statements expressions patterns types paths there_at shift passes is_silent begins in_mode from_start row one_of any_of no_longer longest is_longer
expression-begins = refl

pub saw-operation : {c : Condition} {b : Bool} {v : View} → Saw c (looks expression) v b → Saw c (looks operation) v b
saw-operation {c} {b} {v} saw = subst (λ (l : Look). Saw c l v b) expression-begins saw

pub mark-next : {c : Condition} {v : View} (mark : RangeMark) → IsMark (Some mark) v → Saw c (longest (spelling_of mark)) v true
mark-next {c} Exclusive next = next.dots c
mark-next {c} Inclusive next = next.dots_eq c

-- the mark and an operand are both there
pub range-near :
    {c d : Condition} {b : Bool} {old mid : View} (mark : RangeMark) → IsMark (Some mark) old → Reads d (One (spelling_of mark)) old mid
    → Saw c (begins looks range_operand) mid b → Saw c (begins looks (range_to (spelling_of mark))) old b
unfolding look_of begins_below whole rule items statements expressions patterns types paths there_at shift passes is_silent begins in_mode from_start row one_of any_of no_longer longest is_longer
range-near mark next p saw = saw-both (mark-next mark next) (saw-ahead (begins looks range_operand) refl p saw)

pub reads-mark : {c : Condition} {old new : View} (mark : RangeMark) → IsMark (Some mark) old → Reads c (One (spelling_of mark)) old new → Reads c range_mark old new
unfolding look_of begins_below whole rule items statements expressions patterns types paths there_at shift passes is_silent begins in_mode from_start row one_of any_of no_longer longest is_longer
reads-mark {c} Exclusive next p = reads-here (next.dots_eq c and (next.dots c and nothing)) p
reads-mark {c} Inclusive next p = reads-here (next.dots_eq c and (next.dots c and nothing)) p

-- An operation that begins with a range, and the range alone.
pub reads-range :
    {c : Condition} {old new : View} (mark : RangeMark) → IsMark (Some mark) old → Saw c (begins looks (range_to (spelling_of mark))) old true
    → Reads c (Then (Node RANGE_EXPR (Then (One (spelling_of mark)) range_operand)) (Continue operation_tail)) old new → Reads c (rule operation) old new
unfolding look_of begins_below whole rule items statements expressions patterns types paths there_at shift passes is_silent begins in_mode from_start row one_of any_of no_longer longest is_longer
reads-range {c} Exclusive next near p = reads-here (next.dots_eq c and (next.dots c and (near and nothing))) p
reads-range {c} Inclusive next near p = reads-here (next.dots_eq c and (next.dots c and (near and nothing))) p

pub reads-range-alone :
    {c : Condition} {old new : View} (mark : RangeMark) → IsMark (Some mark) old → Saw c (begins looks (range_to (spelling_of mark))) old false
    → Reads c (Node RANGE_EXPR (One (spelling_of mark))) old new → Reads c (rule operation) old new
unfolding look_of begins_below whole rule items statements expressions patterns types paths there_at shift passes is_silent begins in_mode from_start row one_of any_of no_longer longest is_longer
reads-range-alone {c} Exclusive next near p = reads-here (next.dots_eq c and (next.dots c and (near and nothing))) p
reads-range-alone {c} Inclusive next near p = reads-here (next.dots_eq c and (next.dots c and (near and nothing))) p

-- A range without a start as an operand, and its mark alone.
pub reads-open-range :
    {c : Condition} {old new : View} (mark : RangeMark) → IsMark (Some mark) old → Saw c (begins looks (range_to (spelling_of mark))) old true
    → Reads c (Then (One (spelling_of mark)) range_operand) old new → Reads c open_range old new
unfolding look_of begins_below whole rule items statements expressions patterns types paths there_at shift passes is_silent begins in_mode from_start row one_of any_of no_longer longest is_longer
reads-open-range {c} Exclusive next near p = reads-here (next.dots_eq c and (next.dots c and (near and nothing))) p
reads-open-range {c} Inclusive next near p = reads-here (next.dots_eq c and (next.dots c and (near and nothing))) p

pub reads-open-range-alone :
    {c : Condition} {old new : View} (mark : RangeMark) → IsMark (Some mark) old → Saw c (begins looks (range_to (spelling_of mark))) old false
    → Reads c (One (spelling_of mark)) old new → Reads c open_range old new
unfolding look_of begins_below whole rule items statements expressions patterns types paths there_at shift passes is_silent begins in_mode from_start row one_of any_of no_longer longest is_longer
reads-open-range-alone {c} Exclusive next near p = reads-here (next.dots_eq c and (next.dots c and (near and nothing))) p
reads-open-range-alone {c} Inclusive next near p = reads-here (next.dots_eq c and (next.dots c and (near and nothing))) p

-- A range operator after an operand, with an end and alone.
pub reads-range-on :
    {c : Condition} {old new : View} (mark : RangeMark) → IsMark (Some mark) old → Saw c (begins looks (range_to (spelling_of mark))) old true
    → Reads c (Then (Wrap RANGE_EXPR (Then (One (spelling_of mark)) range_operand)) (Continue operation_tail)) old new → Reads c (rule operation_tail) old new
unfolding look_of begins_below whole rule items statements expressions patterns types paths there_at shift passes is_silent begins in_mode from_start row one_of any_of no_longer longest is_longer
reads-range-on {c} Exclusive next near p = reads-here (next.dots_eq c and (next.dots c and (near and nothing))) p
reads-range-on {c} Inclusive next near p = reads-here (next.dots_eq c and (next.dots c and (near and nothing))) p

pub reads-range-end :
    {c : Condition} {old new : View} (mark : RangeMark) → IsMark (Some mark) old → Saw c (begins looks (range_to (spelling_of mark))) old false
    → Reads c (Wrap RANGE_EXPR (One (spelling_of mark))) old new → Reads c (rule operation_tail) old new
unfolding look_of begins_below whole rule items statements expressions patterns types paths there_at shift passes is_silent begins in_mode from_start row one_of any_of no_longer longest is_longer
reads-range-end {c} Exclusive next near p = reads-here (next.dots_eq c and (next.dots c and (near and nothing))) p
reads-range-end {c} Inclusive next near p = reads-here (next.dots_eq c and (next.dots c and (near and nothing))) p

-- Where no mark is next: operands after `|>`, and an assignment.
pub unranged : {c : Condition} {old new : View} → IsMark None old → Reads c (Continue pipe_tail) old new → Reads c (rule operation_tail) old new
unfolding look_of begins_below whole rule items statements expressions patterns types paths there_at shift passes is_silent begins in_mode from_start row one_of any_of no_longer longest is_longer
unranged {c} next p =
    reads-else c (starts-here (Then (Wrap RANGE_EXPR (range_to 'dots_eq')) (Continue operation_tail)) (next.dots_eq c and (next.dots c and nothing)) refl)
    (reads-else c (starts-here (Then (Wrap RANGE_EXPR (range_to 'dots')) (Continue operation_tail)) (next.dots_eq c and (next.dots c and nothing)) refl)
    (reads-else c (starts-here (Wrap RANGE_EXPR range_mark) (next.dots_eq c and (next.dots c and nothing)) refl) p))

pub reads-assignment :
    {c : Condition} {old new : View} → Saw c (begins looks (operators_at 12)) old true
    → Reads c (Wrap BIN_EXPR (Then (operators_at 12) (Operation !))) old new → Reads c (Or (Wrap BIN_EXPR (Then assignment (Operation !))) Nothing) old new
unfolding begins passes is_silent operators_at operators
reads-assignment {c} saw p = reads-or c saw p

pub reads-no-assignment :
    {c : Condition} {old new : View} → Saw c (begins looks (operators_at 12)) old false → Does (λ s. s) old new → Reads c (Or (Wrap BIN_EXPR (Then assignment (Operation !))) Nothing) old new
unfolding begins passes is_silent operators_at operators
reads-no-assignment {c} saw p = reads-else c saw (reads-nothing c p)

-- One more operand after `|>`, and the tail after it.
pub reads-pipe :
    {c : Condition} {old new : View} → Saw c (begins looks (operators_at 11)) old true → Reads c (Then (Wrap BIN_EXPR (Then (operators_at 11) (Disjunction !))) (Continue pipe_tail)) old new → Reads c (rule pipe_tail) old new
unfolding rule items statements expressions patterns types paths begins passes is_silent operators_at operators
reads-pipe {c} saw p = reads-or c saw p

-- Where no `|>` is next, an assignment is the last, if one is there.
pub reads-no-pipe :
    {c : Condition} {old new : View} → Saw c (begins looks (operators_at 11)) old false → Reads c (Or (Wrap BIN_EXPR (Then assignment (Operation !))) Nothing) old new → Reads c (rule pipe_tail) old new
unfolding rule items statements expressions patterns types paths begins passes is_silent operators_at operators
reads-no-pipe {c} saw p = reads-else c saw p

-- a production that is called begins where it does
pub begins-call : {c : Condition} {b : Bool} {v : View} (x : Production) → Saw c (looks x) v b → Saw c (begins looks (Call x)) v b
unfolding begins fresh
begins-call {c} x saw = record { at = λ s e. from_start-seen (is_on c) s (looks x) ∙ saw.at (fresh s) e }

-- what stood there before a look, or outside of a node that is opened, is still there
same-mark : {m : Option RangeMark} {old mid : View} → left mid ≡ left old → IsMark m old → IsMark m mid
unfolding tokens
same-mark {m} {old} {mid} same next = record {
  dots = λ c. record { at = λ s e. (next.dots c).at s (sym same ∙ e) };
  dots_eq = λ c. record { at = λ s e. (next.dots_eq c).at s (sym same ∙ e) };
  some = subst (λ (n : ℕ). IfSome m (λ mark. length (spelling_of mark).parts ≤ n)) (sym (ap (λ ts. length ts) same)) next.some;
}

pub mark-after : {m : Option RangeMark} {old mid : View} → Does (λ s. s) old mid → IsMark m old → IsMark m mid
mark-after p next = same-mark (still-left p) next

pub mark-inside : {m : Option RangeMark} {old mid : View} → Opens old mid → IsMark m old → IsMark m mid
mark-inside o next = same-mark o.rest next

pub saw-outside : {c : Condition} {b : Bool} {l : Look} {old mid : View} → Opens old mid → Saw c l mid b → Saw c l old b
saw-outside o saw = record { at = λ s e. saw.at s (o.rest ∙ e) }

-- what is given after a look
pub gives-look : {x : Production} {c : Condition} {old mid new : View} → Does (λ s. s) old mid → Gives x c mid new → Gives x c old new
gives-look p q = record { does = does-then p q.does }

pub reads-before-look : {c : Condition} {r : Rule} {old mid new : View} → Reads c r old mid → Does (λ s. s) mid new → Reads c r old new
reads-before-look p q = record { does = does-then p.does q }

-- an expression gives what an operation does
pub gives-expression : {c : Condition} {old new : View} → Gives operation c old new → Gives expression c old new
unfolding rule items statements expressions patterns types paths
gives-expression {c} p = gives-from_start (from_start-after refl (reads-call c p))

-- An operation that begins with an operand: the operand, the turns of all layers after it, and the tail.
pub gives-operands :
    {c : Condition} {old mid now next end new : View} → IsMark None old → Saw c (looks prefixed) old true → Opens old mid → Reads c (Call prefixed) mid now
    → Reads c (repeated (turns_from 10 1)) now next → Reads c (Continue operation_tail) next end → Leaves end new → Gives operation c old new
unfolding look_of begins_below whole rule items statements expressions patterns types paths there_at shift passes is_silent begins in_mode from_start row one_of any_of no_longer longest is_longer layer_at layers
gives-operands {c} unmarked begun_here o p q r l =
    gives-from_start (from_start-here (unmarked.dots_eq c and (unmarked.dots c and begun disjunction (saw-disjunction begun_here) nothing))
    (from_start-layers c 10 (omega arith) o (completes-leave (reads-then c (reads-then c p q) r) l)))
