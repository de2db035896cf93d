-- The tokens after it tell which.
use Rattle.std.proofs.Common.{refl, arith}
use Rattle.parser_input.specs.declared.syntax_kind.SyntaxKind.TheVariants as variants
use Rattle.rust_grammar.specs.Expressions.{expressions}
use Rattle.rust_grammar.specs.Items.{items}
use Rattle.rust_grammar.specs.Meaning.{begins_below, look_of}
use Rattle.rust_grammar.specs.Notation.{any_of, is_longer, no_longer, longest, one_of, row}
use Rattle.rust_grammar.specs.Paths.{paths}
use Rattle.rust_grammar.specs.Patterns.{patterns}
use Rattle.rust_grammar.specs.Rule.{begins, in_mode, from_start, is_silent, passes, shift, there_at}
use Rattle.rust_grammar.specs.Statements.{statements}
use Rattle.rust_grammar.specs.Types.{types}
use Rattle.rust_grammar.specs.Whole.{rule, whole}
use Rattle.rust_productions.specs.Layers.{operators, operators_at}
use Rattle.rust_productions.proofs.Facts.{nothing, saw-so, ◌and◌}
use Rattle.rust_productions.proofs.Operators.{no-end, operator-next}
use Rattle.rust_productions.proofs.Seen.{saw-before}
use Rattle.rust_productions.proofs.Peeking.{peeks-then, peeks-within, stays-then}
use Rattle.rust_productions.proofs.grammar.operators.after_left_angle.Goals as goal

pub returns-then-not-at_joint-clause-next : goal.returns-then-not-at_joint-clause-next
unfolding look_of begins_below whole rule items statements expressions patterns types paths there_at shift passes is_silent begins in_mode from_start row one_of any_of no_longer longest is_longer operators_at operators
returns-then-not-at_joint-clause-next c = operator-next 8 variants.L_ANGLE 1 c.new.ensures (omega arith) (omega arith) c.requires.some (λ d. c.requires.first d and (saw-so (c.at_joint.ensures.sees d) c.if-not-at_joint.true and nothing)) refl refl

pub returns-then-at_second-clause-next : goal.returns-then-at_second-clause-next
unfolding look_of begins_below whole rule items statements expressions patterns types paths there_at shift passes is_silent begins in_mode from_start row one_of any_of no_longer longest is_longer operators_at operators
returns-then-at_second-clause-next c = operator-next 8 variants.LTEQ 2 c.new-then-at_second.ensures (omega arith) (omega arith) (omega (arith, c.at_joint.ensures.stays.left, c.at_second.ensures.some c.if-at_second.true (no-end variants.EQ refl))) (λ d. c.requires.first d and (saw-so (c.at_joint.ensures.sees d) c.if-not-at_joint.false and (saw-before c.at_joint.ensures.same (saw-so (c.at_second.ensures.sees d) c.if-at_second.true) and nothing))) refl refl

pub returns-then-at_second-clause-peeks : goal.returns-then-at_second-clause-peeks
returns-then-at_second-clause-peeks c = peeks-within (stays-then c.at_joint.ensures.same c.at_joint.ensures.stays c.at_second.ensures.peeks) (omega arith)

pub returns-then-not-at_second-clause-next : goal.returns-then-not-at_second-clause-next
unfolding look_of begins_below whole rule items statements expressions patterns types paths there_at shift passes is_silent begins in_mode from_start row one_of any_of no_longer longest is_longer operators_at operators
returns-then-not-at_second-clause-next c = operator-next 8 variants.L_ANGLE 1 c.new-then-not-at_second.ensures (omega arith) (omega arith) c.requires.some (λ d. c.requires.first d and (saw-so (c.at_joint.ensures.sees d) c.if-not-at_joint.false and (saw-before c.at_joint.ensures.same (saw-so (c.at_second.ensures.sees d) c.if-at_second.false) and (saw-before c.at_joint.ensures.same (saw-before c.at_second.ensures.peeks.same (saw-so (c.at_second-2.ensures.sees d) c.if-not-at_second.true)) and nothing)))) refl refl

pub returns-then-not-at_second-clause-peeks : goal.returns-then-not-at_second-clause-peeks
returns-then-not-at_second-clause-peeks c = peeks-within (stays-then c.at_joint.ensures.same c.at_joint.ensures.stays (peeks-then c.at_second.ensures.peeks c.at_second-2.ensures.peeks)) (omega arith)

pub returns-then-at_joined_after-clause-next : goal.returns-then-at_joined_after-clause-next
unfolding look_of begins_below whole rule items statements expressions patterns types paths there_at shift passes is_silent begins in_mode from_start row one_of any_of no_longer longest is_longer operators_at operators
returns-then-at_joined_after-clause-next c = operator-next 12 variants.SHLEQ 3 c.new-then-at_joined_after.ensures (omega arith) (omega arith) (omega (arith, c.at_joint.ensures.stays.left, c.at_second.ensures.peeks.left, c.at_second-2.ensures.peeks.left, c.at_joined_after.ensures.some c.if-at_joined_after.true (no-end variants.EQ refl))) (λ d. c.requires.first d and (saw-so (c.at_joint.ensures.sees d) c.if-not-at_joint.false and (saw-before c.at_joint.ensures.same (saw-so (c.at_second.ensures.sees d) c.if-at_second.false) and (saw-before c.at_joint.ensures.same (saw-before c.at_second.ensures.peeks.same (saw-so (c.at_second-2.ensures.sees d) c.if-not-at_second.false)) and (saw-before c.at_joint.ensures.same (saw-before c.at_second.ensures.peeks.same (saw-before c.at_second-2.ensures.peeks.same (saw-so (c.at_joined_after.ensures.sees d) c.if-at_joined_after.true))) and nothing))))) refl refl

pub returns-then-at_joined_after-clause-peeks : goal.returns-then-at_joined_after-clause-peeks
returns-then-at_joined_after-clause-peeks c = stays-then c.at_joint.ensures.same c.at_joint.ensures.stays (peeks-then c.at_second.ensures.peeks (peeks-then c.at_second-2.ensures.peeks c.at_joined_after.ensures.peeks))

pub returns-clause-next : goal.returns-clause-next
unfolding look_of begins_below whole rule items statements expressions patterns types paths there_at shift passes is_silent begins in_mode from_start row one_of any_of no_longer longest is_longer operators_at operators
returns-clause-next c = operator-next 4 variants.SHL 2 c.new-2.ensures (omega arith) (omega arith) (omega (arith, c.at_joint.ensures.stays.left, c.at_second.ensures.peeks.left, c.at_second-2.ensures.some c.if-not-at_second.false (no-end variants.L_ANGLE refl))) (λ d. c.requires.first d and (saw-so (c.at_joint.ensures.sees d) c.if-not-at_joint.false and (saw-before c.at_joint.ensures.same (saw-so (c.at_second.ensures.sees d) c.if-at_second.false) and (saw-before c.at_joint.ensures.same (saw-before c.at_second.ensures.peeks.same (saw-so (c.at_second-2.ensures.sees d) c.if-not-at_second.false)) and (saw-before c.at_joint.ensures.same (saw-before c.at_second.ensures.peeks.same (saw-before c.at_second-2.ensures.peeks.same (saw-so (c.at_joined_after.ensures.sees d) c.if-at_joined_after.false))) and nothing))))) refl refl

pub returns-clause-peeks : goal.returns-clause-peeks
returns-clause-peeks c = stays-then c.at_joint.ensures.same c.at_joint.ensures.stays (peeks-then c.at_second.ensures.peeks (peeks-then c.at_second-2.ensures.peeks c.at_joined_after.ensures.peeks))
