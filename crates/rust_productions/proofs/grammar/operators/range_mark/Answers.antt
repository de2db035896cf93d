-- Two dots that touch, and what touches them.
use Rattle.std.proofs.Common.{refl, arith}
use Rattle.parser_input.specs.declared.syntax_kind.SyntaxKind.TheVariants as variants
use Rattle.rust_grammar.specs.Expressions.{expressions}
use Rattle.rust_grammar.specs.Items.{items}
use Rattle.rust_grammar.specs.Meaning.{begins_below, look_of}
use Rattle.rust_grammar.specs.Notation.{any_of, is_longer, no_longer, longest, one_of, row}
use Rattle.rust_grammar.specs.Paths.{paths}
use Rattle.rust_grammar.specs.Patterns.{patterns}
use Rattle.rust_grammar.specs.Rule.{begins, in_mode, from_start, is_silent, passes, shift, there_at}
use Rattle.rust_grammar.specs.Statements.{statements}
use Rattle.rust_grammar.specs.Types.{types}
use Rattle.rust_grammar.specs.Whole.{rule, whole}
use Rattle.rust_productions.specs.Layers.{operators, operators_at}
use Rattle.rust_productions.proofs.ByHand.{does-then}
use Rattle.rust_productions.proofs.Facts.{nothing, saw-so, ◌and◌}
use Rattle.rust_productions.proofs.Operators.{no-end}
use Rattle.rust_productions.proofs.Seen.{saw-before, saw-told}
use Rattle.rust_productions.proofs.Peeking.{peeks-then, peeks-within, stays-then}
use Rattle.rust_productions.proofs.grammar.operators.range_mark.Goals as goal

pub returns-then-not-at-clause-mark : goal.returns-then-not-at-clause-mark
unfolding look_of begins_below whole rule items statements expressions patterns types paths there_at shift passes is_silent begins in_mode from_start row one_of any_of no_longer longest is_longer operators_at operators
returns-then-not-at-clause-mark c = record { dots = λ d. saw-told (saw-so (c.at.ensures.sees d) c.if-not-at.true and nothing) refl; dots_eq = λ d. saw-told (saw-so (c.at.ensures.sees d) c.if-not-at.true and nothing) refl; some = tt }

pub returns-then-not-at_joint-clause-mark : goal.returns-then-not-at_joint-clause-mark
unfolding look_of begins_below whole rule items statements expressions patterns types paths there_at shift passes is_silent begins in_mode from_start row one_of any_of no_longer longest is_longer operators_at operators
returns-then-not-at_joint-clause-mark c = record { dots = λ d. saw-told (saw-so (c.at.ensures.sees d) c.if-not-at.false and (saw-before c.at.ensures.peeks.same (saw-so (c.at_joint.ensures.sees d) c.if-not-at_joint.true) and nothing)) refl; dots_eq = λ d. saw-told (saw-so (c.at.ensures.sees d) c.if-not-at.false and (saw-before c.at.ensures.peeks.same (saw-so (c.at_joint.ensures.sees d) c.if-not-at_joint.true) and nothing)) refl; some = tt }

pub returns-then-not-at_joint-clause-peeks : goal.returns-then-not-at_joint-clause-peeks
returns-then-not-at_joint-clause-peeks c = record {
  same = (does-then c.at.ensures.peeks.same c.at_joint.ensures.same);
  left = omega arith;
  looks = omega arith;
}

pub returns-then-not-at_second-clause-mark : goal.returns-then-not-at_second-clause-mark
unfolding look_of begins_below whole rule items statements expressions patterns types paths there_at shift passes is_silent begins in_mode from_start row one_of any_of no_longer longest is_longer operators_at operators
returns-then-not-at_second-clause-mark c = record { dots = λ d. saw-told (saw-so (c.at.ensures.sees d) c.if-not-at.false and (saw-before c.at.ensures.peeks.same (saw-so (c.at_joint.ensures.sees d) c.if-not-at_joint.false) and (saw-before c.at.ensures.peeks.same (saw-before c.at_joint.ensures.same (saw-so (c.at_second.ensures.sees d) c.if-not-at_second.true)) and nothing))) refl; dots_eq = λ d. saw-told (saw-so (c.at.ensures.sees d) c.if-not-at.false and (saw-before c.at.ensures.peeks.same (saw-so (c.at_joint.ensures.sees d) c.if-not-at_joint.false) and (saw-before c.at.ensures.peeks.same (saw-before c.at_joint.ensures.same (saw-so (c.at_second.ensures.sees d) c.if-not-at_second.true)) and nothing))) refl; some = tt }

pub returns-then-not-at_second-clause-peeks : goal.returns-then-not-at_second-clause-peeks
returns-then-not-at_second-clause-peeks c = peeks-within (peeks-then c.at.ensures.peeks (stays-then c.at_joint.ensures.same c.at_joint.ensures.stays c.at_second.ensures.peeks)) (omega arith)

pub returns-then-at_joined_after-clause-mark : goal.returns-then-at_joined_after-clause-mark
unfolding look_of begins_below whole rule items statements expressions patterns types paths there_at shift passes is_silent begins in_mode from_start row one_of any_of no_longer longest is_longer operators_at operators
returns-then-at_joined_after-clause-mark c = record { dots = λ d. saw-told (saw-so (c.at.ensures.sees d) c.if-not-at.false and (saw-before c.at.ensures.peeks.same (saw-so (c.at_joint.ensures.sees d) c.if-not-at_joint.false) and (saw-before c.at.ensures.peeks.same (saw-before c.at_joint.ensures.same (saw-so (c.at_second.ensures.sees d) c.if-not-at_second.false)) and (saw-before c.at.ensures.peeks.same (saw-before c.at_joint.ensures.same (saw-before c.at_second.ensures.peeks.same (saw-so (c.at_joined_after.ensures.sees d) c.if-at_joined_after.true))) and nothing)))) refl; dots_eq = λ d. saw-told (saw-so (c.at.ensures.sees d) c.if-not-at.false and (saw-before c.at.ensures.peeks.same (saw-so (c.at_joint.ensures.sees d) c.if-not-at_joint.false) and (saw-before c.at.ensures.peeks.same (saw-before c.at_joint.ensures.same (saw-so (c.at_second.ensures.sees d) c.if-not-at_second.false)) and (saw-before c.at.ensures.peeks.same (saw-before c.at_joint.ensures.same (saw-before c.at_second.ensures.peeks.same (saw-so (c.at_joined_after.ensures.sees d) c.if-at_joined_after.true))) and nothing)))) refl; some = omega (arith, c.at.ensures.peeks.left, c.at_joint.ensures.stays.left, c.at_second.ensures.peeks.left, c.at_joined_after.ensures.some c.if-at_joined_after.true (no-end variants.EQ refl)) }

pub returns-then-at_joined_after-clause-peeks : goal.returns-then-at_joined_after-clause-peeks
returns-then-at_joined_after-clause-peeks c = peeks-then c.at.ensures.peeks (stays-then c.at_joint.ensures.same c.at_joint.ensures.stays (peeks-then c.at_second.ensures.peeks c.at_joined_after.ensures.peeks))

pub returns-clause-mark : goal.returns-clause-mark
unfolding look_of begins_below whole rule items statements expressions patterns types paths there_at shift passes is_silent begins in_mode from_start row one_of any_of no_longer longest is_longer operators_at operators
returns-clause-mark c = record { dots = λ d. saw-told (saw-so (c.at.ensures.sees d) c.if-not-at.false and (saw-before c.at.ensures.peeks.same (saw-so (c.at_joint.ensures.sees d) c.if-not-at_joint.false) and (saw-before c.at.ensures.peeks.same (saw-before c.at_joint.ensures.same (saw-so (c.at_second.ensures.sees d) c.if-not-at_second.false)) and (saw-before c.at.ensures.peeks.same (saw-before c.at_joint.ensures.same (saw-before c.at_second.ensures.peeks.same (saw-so (c.at_joined_after.ensures.sees d) c.if-at_joined_after.false))) and nothing)))) refl; dots_eq = λ d. saw-told (saw-so (c.at.ensures.sees d) c.if-not-at.false and (saw-before c.at.ensures.peeks.same (saw-so (c.at_joint.ensures.sees d) c.if-not-at_joint.false) and (saw-before c.at.ensures.peeks.same (saw-before c.at_joint.ensures.same (saw-so (c.at_second.ensures.sees d) c.if-not-at_second.false)) and (saw-before c.at.ensures.peeks.same (saw-before c.at_joint.ensures.same (saw-before c.at_second.ensures.peeks.same (saw-so (c.at_joined_after.ensures.sees d) c.if-at_joined_after.false))) and nothing)))) refl; some = omega (arith, c.at.ensures.peeks.left, c.at_joint.ensures.stays.left, c.at_second.ensures.some c.if-not-at_second.false (no-end variants.DOT refl)) }

pub returns-clause-peeks : goal.returns-clause-peeks
returns-clause-peeks c = peeks-then c.at.ensures.peeks (stays-then c.at_joint.ensures.same c.at_joint.ensures.stays (peeks-then c.at_second.ensures.peeks c.at_joined_after.ensures.peeks))
