-- Each path sees what the look asks.
use Rattle.rust_grammar.specs.Expressions.{expressions}
use Rattle.rust_grammar.specs.Items.{items}
use Rattle.rust_grammar.specs.Meaning.{begins_below, look_of}
use Rattle.rust_grammar.specs.Notation.{any_of, is_longer, no_longer, longest, one_of, row}
use Rattle.rust_grammar.specs.Paths.{paths}
use Rattle.rust_grammar.specs.Patterns.{patterns}
use Rattle.rust_grammar.specs.Rule.{begins, in_mode, from_start, is_silent, passes, shift, there_at}
use Rattle.rust_grammar.specs.Statements.{statements}
use Rattle.rust_grammar.specs.Types.{types}
use Rattle.rust_grammar.specs.Whole.{rule, whole}
use Rattle.rust_productions.proofs.Facts.{saw-so}
use Rattle.rust_productions.proofs.Seen.{saw-always, saw-before, saw-either-left, saw-either-right}
use Rattle.rust_productions.proofs.Peeking.{peeks-then}
use Rattle.grammar_reader.proofs.grammar.paths.at_generic_args.Goals as goal

pub returns-then-at_colons_before_args-clause-sees : goal.returns-then-at_colons_before_args-clause-sees
unfolding look_of begins_below whole rule items statements expressions patterns types paths there_at shift passes is_silent begins in_mode from_start row one_of any_of no_longer longest is_longer
returns-then-at_colons_before_args-clause-sees c cond = saw-either-left (saw-so (c.at_colons_before_args.ensures.sees cond) c.if-at_colons_before_args.true)

pub returns-clause-sees : goal.returns-clause-sees
unfolding look_of begins_below whole rule items statements expressions patterns types paths there_at shift passes is_silent begins in_mode from_start row one_of any_of no_longer longest is_longer
returns-clause-sees c cond = saw-either-right (saw-so (c.at_colons_before_args.ensures.sees cond) c.if-at_colons_before_args.false) (saw-always (saw-before c.at_colons_before_args.ensures.peeks.same (c.at.ensures.sees cond)))

pub returns-clause-peeks : goal.returns-clause-peeks
returns-clause-peeks c = peeks-then c.at_colons_before_args.ensures.peeks c.at.ensures.peeks
