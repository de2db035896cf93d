-- Each path reads what the rule comes to there.
use Rattle.std.proofs.Common.{refl, arith}
use Rattle.rust_grammar.specs.Expressions.{expressions}
use Rattle.rust_grammar.specs.Items.{items}
use Rattle.rust_grammar.specs.Meaning.{begins_below, look_of}
use Rattle.rust_grammar.specs.Notation.{any_of, is_longer, no_longer, longest, one_of, row}
use Rattle.rust_grammar.specs.Paths.{paths}
use Rattle.rust_grammar.specs.Patterns.{patterns}
use Rattle.rust_grammar.specs.Rule.{begins, in_mode, from_start, is_silent, passes, shift, there_at}
use Rattle.rust_grammar.specs.Statements.{statements}
use Rattle.rust_grammar.specs.Types.{types}
use Rattle.rust_grammar.specs.Whole.{rule, whole}
use Rattle.rust_grammar.specs.Paths.{const_arg}
use Rattle.rust_grammar.specs.Rule as rules
use Rattle.rust_productions.proofs.Begins.{saw-path-begins}
use Rattle.rust_productions.proofs.Facts.{begun, nothing, saw-so, ◌and◌}
use Rattle.rust_productions.proofs.Looking.{left-arm, saw-arm, saw-not}
use Rattle.rust_productions.proofs.Seen.{saw-before, starts-here}
use Rattle.rust_productions.proofs.Peeking.{peeks-then, peeks-within}
use Rattle.rust_productions.proofs.grammar.const_args.at_const_arg.Goals as goal

pub returns-then-at_path-clause-sees : goal.returns-then-at_path-clause-sees
unfolding look_of begins_below whole rule items statements expressions patterns types paths there_at shift passes is_silent begins in_mode from_start row one_of any_of no_longer longest is_longer
returns-then-at_path-clause-sees c cond = starts-here const_arg (saw-path-begins (saw-so (c.at_path.ensures.sees cond) c.if-at_path.true) and nothing) refl

pub returns-then-at_path-clause-peeks : goal.returns-then-at_path-clause-peeks
returns-then-at_path-clause-peeks c = peeks-within (c.at_path.ensures.peeks) (omega arith)

pub returns-then-at_literal-clause-sees : goal.returns-then-at_literal-clause-sees
unfolding look_of begins_below whole rule items statements expressions patterns types paths there_at shift passes is_silent begins in_mode from_start row one_of any_of no_longer longest is_longer
returns-then-at_literal-clause-sees c cond = starts-here const_arg (begun rules.literal (saw-before c.at_path.ensures.peeks.same (saw-so (c.at_literal.ensures.sees cond) c.if-at_literal.true)) (saw-path-begins (saw-so (c.at_path.ensures.sees cond) c.if-at_path.false) and nothing)) refl

pub returns-then-at_literal-clause-peeks : goal.returns-then-at_literal-clause-peeks
returns-then-at_literal-clause-peeks c = peeks-within (peeks-then c.at_path.ensures.peeks c.at_literal.ensures.peeks) (omega arith)

pub returns-then-at_negated-clause-sees : goal.returns-then-at_negated-clause-sees
unfolding look_of begins_below whole rule items statements expressions patterns types paths there_at shift passes is_silent begins in_mode from_start row one_of any_of no_longer longest is_longer
returns-then-at_negated-clause-sees c cond = starts-here const_arg (begun rules.literal (saw-before c.at_path.ensures.peeks.same (saw-so (c.at_literal.ensures.sees cond) c.if-at_literal.false)) (saw-path-begins (saw-so (c.at_path.ensures.sees cond) c.if-at_path.false) and saw-before c.at_path.ensures.peeks.same (saw-before c.at_literal.ensures.peeks.same (saw-so (c.at_negated.ensures.sees cond) c.if-at_negated.true)) and nothing)) refl

pub returns-then-at_negated-clause-peeks : goal.returns-then-at_negated-clause-peeks
returns-then-at_negated-clause-peeks c = peeks-within (peeks-then c.at_path.ensures.peeks (peeks-then c.at_literal.ensures.peeks c.at_negated.ensures.peeks)) (omega arith)

pub returns-in-L_CURLY-clause-sees : goal.returns-in-L_CURLY-clause-sees
unfolding look_of begins_below whole rule items statements expressions patterns types paths there_at shift passes is_silent begins in_mode from_start row one_of any_of no_longer longest is_longer
returns-in-L_CURLY-clause-sees c cond = starts-here const_arg (begun rules.literal (saw-before c.at_path.ensures.peeks.same (saw-so (c.at_literal.ensures.sees cond) c.if-at_literal.false)) (saw-path-begins (saw-so (c.at_path.ensures.sees cond) c.if-at_path.false) and saw-before c.at_path.ensures.peeks.same (saw-before c.at_literal.ensures.peeks.same (saw-so (c.at_negated.ensures.sees cond) c.if-at_negated.false)) and saw-before c.at_path.ensures.peeks.same (saw-before c.at_literal.ensures.peeks.same (saw-before c.at_negated.ensures.peeks.same (saw-arm c.in-L_CURLY.is (c.current.ensures.sees cond)))) and saw-before c.at_path.ensures.peeks.same (saw-before c.at_literal.ensures.peeks.same (saw-before c.at_negated.ensures.peeks.same (left-arm c.in-L_CURLY.is (c.current.ensures.end cond)))) and nothing)) refl

pub returns-in-L_CURLY-clause-peeks : goal.returns-in-L_CURLY-clause-peeks
returns-in-L_CURLY-clause-peeks c = peeks-then c.at_path.ensures.peeks (peeks-then c.at_literal.ensures.peeks (peeks-then c.at_negated.ensures.peeks c.current.ensures.peeks))

pub returns-in_default-clause-sees : goal.returns-in_default-clause-sees
unfolding look_of begins_below whole rule items statements expressions patterns types paths there_at shift passes is_silent begins in_mode from_start row one_of any_of no_longer longest is_longer
returns-in_default-clause-sees c cond = starts-here const_arg (begun rules.literal (saw-before c.at_path.ensures.peeks.same (saw-so (c.at_literal.ensures.sees cond) c.if-at_literal.false)) (saw-path-begins (saw-so (c.at_path.ensures.sees cond) c.if-at_path.false) and saw-before c.at_path.ensures.peeks.same (saw-before c.at_literal.ensures.peeks.same (saw-so (c.at_negated.ensures.sees cond) c.if-at_negated.false)) and saw-before c.at_path.ensures.peeks.same (saw-before c.at_literal.ensures.peeks.same (saw-before c.at_negated.ensures.peeks.same (saw-not c.in_default.not-L_CURLY (c.current.ensures.sees cond)))) and nothing)) refl

pub returns-in_default-clause-peeks : goal.returns-in_default-clause-peeks
returns-in_default-clause-peeks c = peeks-then c.at_path.ensures.peeks (peeks-then c.at_literal.ensures.peeks (peeks-then c.at_negated.ensures.peeks c.current.ensures.peeks))
