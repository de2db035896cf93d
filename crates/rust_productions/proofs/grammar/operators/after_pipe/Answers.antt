-- The token after it tells which.
use Rattle.std.proofs.Common.{true, false, [], ◌∷◌, refl, arith}
use Rattle.parser_input.specs.Kind.{raw_of}
use Rattle.parser_input.specs.declared.syntax_kind.SyntaxKind.TheVariants as variants
use Rattle.rust_grammar.specs.Expressions.{expressions}
use Rattle.rust_grammar.specs.Items.{items}
use Rattle.rust_grammar.specs.Meaning.{begins_below, look_of}
use Rattle.rust_grammar.specs.Notation.{any_of, is_longer, no_longer, longest, one_of, row}
use Rattle.rust_grammar.specs.Paths.{paths}
use Rattle.rust_grammar.specs.Patterns.{patterns}
use Rattle.rust_grammar.specs.Rule.{Both, Joint, Kind, begins, in_mode, from_start, is_silent, passes, shift, spelled_at, there_at}
use Rattle.rust_grammar.specs.Statements.{statements}
use Rattle.rust_grammar.specs.Types.{types}
use Rattle.rust_grammar.specs.Whole.{rule, whole}
use Rattle.rust_grammar.specs.Words.{'|>'}
use Rattle.rust_productions.specs.Layers.{operators, operators_at}
use Rattle.rust_productions.specs.Reads.{Condition}
use Rattle.rust_productions.proofs.ByHand.{does-then}
use Rattle.rust_productions.proofs.Facts.{Answers, nothing, saw-so, ◌and◌}
use Rattle.rust_productions.proofs.Operators.{assigned-next, no-end, operator-next}
use Rattle.rust_productions.proofs.Seen.{saw-after, saw-before, saw-left, saw-right}
use Rattle.rust_productions.proofs.Peeking.{peeks-then, peeks-within}
use Rattle.rust_productions.proofs.grammar.operators.after_pipe.Goals as goal

pub returns-then-at_joined-clause-next : goal.returns-then-at_joined-clause-next
unfolding look_of begins_below whole rule items statements expressions patterns types paths there_at shift passes is_silent begins in_mode from_start row one_of any_of no_longer longest is_longer operators_at operators
returns-then-at_joined-clause-next c = operator-next 10 variants.PIPE2 2 c.new.ensures (omega arith) (omega arith) (c.at_joined.ensures.some c.if-at_joined.true (no-end variants.PIPE refl)) (λ d. c.requires.first d and (saw-left (saw-so (c.at_joined.ensures.sees d) c.if-at_joined.true) and (saw-right (saw-so (c.at_joined.ensures.sees d) c.if-at_joined.true) and nothing))) refl refl

pub at_pipe_gt-requires : goal.at_pipe_gt-requires
at_pipe_gt-requires c = λ d. saw-after c.at_joined.ensures.peeks.same (c.requires.first d)

pub returns-then-at_pipe_gt-clause-next : goal.returns-then-at_pipe_gt-clause-next
unfolding look_of begins_below whole rule items statements expressions patterns types paths there_at shift passes is_silent begins in_mode from_start row one_of any_of no_longer longest is_longer operators_at operators
returns-then-at_pipe_gt-clause-next c =
    let marked = λ (d : Condition). saw-before c.at_joined.ensures.peeks.same (saw-so (c.at_pipe_gt.ensures.sees d) c.if-at_pipe_gt.true) in
    operator-next 11 variants.PIPE_GT 2 c.new-then-at_pipe_gt.ensures (omega arith) (omega arith) (omega (arith, c.at_joined.ensures.peeks.left, c.at_pipe_gt.ensures.some c.if-at_pipe_gt.true))
    (λ d. c.requires.first d and (marked d and (saw-left (saw-right (saw-right (marked d))) and (saw-right (saw-right (saw-right (marked d))) and nothing)))) refl refl

pub returns-then-at_pipe_gt-clause-peeks : goal.returns-then-at_pipe_gt-clause-peeks
returns-then-at_pipe_gt-clause-peeks c = peeks-within (peeks-then c.at_joined.ensures.peeks c.at_pipe_gt.ensures.peeks) (omega arith)

pub returns-clause-next : goal.returns-clause-next
unfolding look_of begins_below whole rule items statements expressions patterns types paths there_at shift passes is_silent begins in_mode from_start row one_of any_of no_longer longest is_longer operators_at operators
returns-clause-next c =
    let before = does-then c.at_joined.ensures.peeks.same c.at_pipe_gt.ensures.peeks.same in
    assigned-next (λ b. Answers (Kind 0 (raw_of variants.PIPE)) true ∷ Answers (Both (Joint 0) (Kind 1 (raw_of variants.PIPE))) false ∷ Answers (spelled_at 0 '|>') false ∷ Answers (Both (Joint 0) (Kind 1 (raw_of variants.EQ))) b ∷ []) c.at_joined-assigned.result 7 variants.PIPE variants.PIPEEQ c.or_assignment.ensures c.new-2.ensures
    (omega arith) c.requires.some (λ is. omega (arith, c.at_joined.ensures.peeks.left, c.at_pipe_gt.ensures.peeks.left, c.at_joined-assigned.ensures.some is (no-end variants.EQ refl)))
    (λ b is d. c.requires.first d and (saw-so (c.at_joined.ensures.sees d) c.if-at_joined.false and (saw-before c.at_joined.ensures.peeks.same (saw-so (c.at_pipe_gt.ensures.sees d) c.if-at_pipe_gt.false) and (saw-before before (saw-so (c.at_joined-assigned.ensures.sees d) is) and nothing)))) refl refl refl refl

pub returns-clause-peeks : goal.returns-clause-peeks
returns-clause-peeks c = peeks-then c.at_joined.ensures.peeks (peeks-then c.at_pipe_gt.ensures.peeks c.at_joined-assigned.ensures.peeks)
