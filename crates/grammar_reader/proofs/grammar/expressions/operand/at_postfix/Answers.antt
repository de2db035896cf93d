-- Each path sees what the look asks.
use Rattle.std.proofs.Common.{refl}
use Rattle.rust_grammar.specs.Expressions.{expressions}
use Rattle.rust_grammar.specs.Items.{items}
use Rattle.rust_grammar.specs.Meaning.{begins_below, look_of}
use Rattle.rust_grammar.specs.Notation.{any_of, is_longer, no_longer, longest, one_of, row}
use Rattle.rust_grammar.specs.Paths.{paths}
use Rattle.rust_grammar.specs.Patterns.{patterns}
use Rattle.rust_grammar.specs.Rule.{begins, in_mode, from_start, is_silent, passes, shift, there_at}
use Rattle.rust_grammar.specs.Statements.{statements}
use Rattle.rust_grammar.specs.Types.{types}
use Rattle.rust_grammar.specs.Whole.{rule, whole}
use Rattle.rust_productions.proofs.Facts.{nothing, saw-so, ◌and◌}
use Rattle.rust_productions.proofs.Looking.{saw-arm, saw-not}
use Rattle.rust_productions.proofs.Seen.{saw-before, saw-told}
use Rattle.rust_productions.proofs.Peeking.{peeks-then}
use Rattle.grammar_reader.proofs.grammar.expressions.operand.at_postfix.Goals as goal

pub returns-in-L_PAREN-clause-sees : goal.returns-in-L_PAREN-clause-sees
unfolding look_of begins_below whole rule items statements expressions patterns types paths there_at shift passes is_silent begins in_mode from_start row one_of any_of no_longer longest is_longer
returns-in-L_PAREN-clause-sees c cond = saw-told (saw-arm c.in-L_PAREN.is (c.current.ensures.sees cond) and nothing) refl

pub returns-in-L_BRACK-clause-sees : goal.returns-in-L_BRACK-clause-sees
unfolding look_of begins_below whole rule items statements expressions patterns types paths there_at shift passes is_silent begins in_mode from_start row one_of any_of no_longer longest is_longer
returns-in-L_BRACK-clause-sees c cond = saw-told (saw-arm c.in-L_BRACK.is (c.current.ensures.sees cond) and nothing) refl

pub returns-in-QUESTION-clause-sees : goal.returns-in-QUESTION-clause-sees
unfolding look_of begins_below whole rule items statements expressions patterns types paths there_at shift passes is_silent begins in_mode from_start row one_of any_of no_longer longest is_longer
returns-in-QUESTION-clause-sees c cond = saw-told (saw-arm c.in-QUESTION.is (c.current.ensures.sees cond) and nothing) refl

pub returns-then-at_pair-clause-sees : goal.returns-then-at_pair-clause-sees
unfolding look_of begins_below whole rule items statements expressions patterns types paths there_at shift passes is_silent begins in_mode from_start row one_of any_of no_longer longest is_longer
returns-then-at_pair-clause-sees c = λ cond. saw-told (saw-arm c.in-DOT.is (c.current.ensures.sees cond) and saw-before c.current.ensures.peeks.same (saw-so (c.at_pair.ensures.sees cond) c.if-at_pair.true) and nothing) refl

pub returns-then-at_pair-clause-peeks : goal.returns-then-at_pair-clause-peeks
returns-then-at_pair-clause-peeks c = peeks-then c.current.ensures.peeks c.at_pair.ensures.peeks

pub returns-else-at_pair-clause-sees : goal.returns-else-at_pair-clause-sees
unfolding look_of begins_below whole rule items statements expressions patterns types paths there_at shift passes is_silent begins in_mode from_start row one_of any_of no_longer longest is_longer
returns-else-at_pair-clause-sees c = λ cond. saw-told (saw-arm c.in-DOT.is (c.current.ensures.sees cond) and saw-before c.current.ensures.peeks.same (saw-so (c.at_pair.ensures.sees cond) c.if-at_pair.false) and nothing) refl

pub returns-else-at_pair-clause-peeks : goal.returns-else-at_pair-clause-peeks
returns-else-at_pair-clause-peeks c = peeks-then c.current.ensures.peeks c.at_pair.ensures.peeks

pub returns-in_default-clause-sees : goal.returns-in_default-clause-sees
unfolding look_of begins_below whole rule items statements expressions patterns types paths there_at shift passes is_silent begins in_mode from_start row one_of any_of no_longer longest is_longer
returns-in_default-clause-sees c cond = saw-told (saw-not c.in_default.not-L_PAREN (c.current.ensures.sees cond) and saw-not c.in_default.not-L_BRACK (c.current.ensures.sees cond) and saw-not c.in_default.not-QUESTION (c.current.ensures.sees cond) and saw-not c.in_default.not-DOT (c.current.ensures.sees cond) and nothing) refl
