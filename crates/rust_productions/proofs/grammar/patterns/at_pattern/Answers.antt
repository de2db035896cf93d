-- Each path reads what the rule comes to there.
use Rattle.std.proofs.Common.{refl}
use Rattle.rust_grammar.specs.Expressions.{expressions}
use Rattle.rust_grammar.specs.Items.{items}
use Rattle.rust_grammar.specs.Meaning.{begins_below, look_of}
use Rattle.rust_grammar.specs.Notation.{any_of, is_longer, no_longer, longest, one_of, row}
use Rattle.rust_grammar.specs.Paths.{paths}
use Rattle.rust_grammar.specs.Patterns.{patterns}
use Rattle.rust_grammar.specs.Rule.{begins, in_mode, from_start, is_silent, passes, shift, there_at}
use Rattle.rust_grammar.specs.Statements.{statements}
use Rattle.rust_grammar.specs.Types.{types}
use Rattle.rust_grammar.specs.Whole.{rule, whole}
use Rattle.rust_grammar.specs.Rule as rules
use Rattle.rust_productions.proofs.Facts.{begun, nothing, saw-so, ◌and◌}
use Rattle.rust_productions.proofs.Looking.{left-arm, saw-arm, saw-not}
use Rattle.rust_productions.proofs.Seen.{begins-row, saw-before}
use Rattle.rust_productions.proofs.Peeking.{peeks-then}
use Rattle.rust_productions.proofs.grammar.patterns.at_pattern.Goals as goal

pub returns-then-at_single_pattern-clause-sees : goal.returns-then-at_single_pattern-clause-sees
unfolding look_of begins_below whole rule items statements expressions patterns types paths there_at shift passes is_silent begins in_mode from_start row one_of any_of no_longer longest is_longer
returns-then-at_single_pattern-clause-sees c cond = begins-row rules.pattern (begun rules.single_pattern (saw-so (c.at_single_pattern.ensures.sees cond) c.if-at_single_pattern.true) (nothing)) refl

pub returns-in-PIPE-clause-sees : goal.returns-in-PIPE-clause-sees
unfolding look_of begins_below whole rule items statements expressions patterns types paths there_at shift passes is_silent begins in_mode from_start row one_of any_of no_longer longest is_longer
returns-in-PIPE-clause-sees c cond = begins-row rules.pattern (begun rules.single_pattern (saw-so (c.at_single_pattern.ensures.sees cond) c.if-at_single_pattern.false) (saw-before c.at_single_pattern.ensures.peeks.same (left-arm c.in-PIPE.is (c.current.ensures.end cond)) and saw-before c.at_single_pattern.ensures.peeks.same (saw-arm c.in-PIPE.is (c.current.ensures.sees cond)) and nothing)) refl

pub returns-in-PIPE-clause-peeks : goal.returns-in-PIPE-clause-peeks
returns-in-PIPE-clause-peeks c = peeks-then c.at_single_pattern.ensures.peeks c.current.ensures.peeks

pub returns-in_default-clause-sees : goal.returns-in_default-clause-sees
unfolding look_of begins_below whole rule items statements expressions patterns types paths there_at shift passes is_silent begins in_mode from_start row one_of any_of no_longer longest is_longer
returns-in_default-clause-sees c cond = begins-row rules.pattern (begun rules.single_pattern (saw-so (c.at_single_pattern.ensures.sees cond) c.if-at_single_pattern.false) (saw-before c.at_single_pattern.ensures.peeks.same (saw-not c.in_default.not-PIPE (c.current.ensures.sees cond)) and nothing)) refl

pub returns-in_default-clause-peeks : goal.returns-in_default-clause-peeks
returns-in_default-clause-peeks c = peeks-then c.at_single_pattern.ensures.peeks c.current.ensures.peeks
