-- Each path reads what the rule comes to there.
use Rattle.std.proofs.Common.{refl, arith}
use Rattle.rust_grammar.specs.Expressions.{expressions}
use Rattle.rust_grammar.specs.Items.{items}
use Rattle.rust_grammar.specs.Meaning.{begins_below, look_of}
use Rattle.rust_grammar.specs.Notation.{any_of, is_longer, no_longer, longest, one_of, row}
use Rattle.rust_grammar.specs.Paths.{paths}
use Rattle.rust_grammar.specs.Patterns.{patterns}
use Rattle.rust_grammar.specs.Rule.{begins, in_mode, from_start, is_silent, passes, shift, there_at}
use Rattle.rust_grammar.specs.Statements.{statements}
use Rattle.rust_grammar.specs.Types.{types}
use Rattle.rust_grammar.specs.Whole.{rule, whole}
use Rattle.rust_productions.proofs.Facts.{nothing, saw-so, ◌and◌}
use Rattle.rust_productions.proofs.Seen.{saw-before, saw-told}
use Rattle.rust_productions.proofs.Peeking.{peeks-then, peeks-within}
use Rattle.rust_productions.proofs.grammar.generic_params.at_captures.Goals as goal

pub returns-then-not-at_second-clause-sees : goal.returns-then-not-at_second-clause-sees
unfolding look_of begins_below whole rule items statements expressions patterns types paths there_at shift passes is_silent begins in_mode from_start row one_of any_of no_longer longest is_longer
returns-then-not-at_second-clause-sees c cond = saw-told (saw-so (c.at_second.ensures.sees cond) c.if-not-at_second.true and nothing) refl

pub returns-then-not-at_second-clause-peeks : goal.returns-then-not-at_second-clause-peeks
returns-then-not-at_second-clause-peeks c = peeks-within (c.at_second.ensures.peeks) (omega arith)

pub returns-then-at-clause-sees : goal.returns-then-at-clause-sees
unfolding look_of begins_below whole rule items statements expressions patterns types paths there_at shift passes is_silent begins in_mode from_start row one_of any_of no_longer longest is_longer
returns-then-at-clause-sees c cond = saw-told (saw-so (c.at_second.ensures.sees cond) c.if-not-at_second.false and saw-before c.at_second.ensures.peeks.same (saw-so (c.at.ensures.sees cond) c.if-at.true) and nothing) refl

pub returns-then-at-clause-peeks : goal.returns-then-at-clause-peeks
returns-then-at-clause-peeks c = peeks-then c.at_second.ensures.peeks c.at.ensures.peeks

pub returns-clause-sees : goal.returns-clause-sees
unfolding look_of begins_below whole rule items statements expressions patterns types paths there_at shift passes is_silent begins in_mode from_start row one_of any_of no_longer longest is_longer
returns-clause-sees c cond = saw-told (saw-so (c.at_second.ensures.sees cond) c.if-not-at_second.false and saw-before c.at_second.ensures.peeks.same (saw-so (c.at.ensures.sees cond) c.if-at.false) and nothing) refl

pub returns-clause-peeks : goal.returns-clause-peeks
returns-clause-peeks c = peeks-then c.at_second.ensures.peeks c.at.ensures.peeks
