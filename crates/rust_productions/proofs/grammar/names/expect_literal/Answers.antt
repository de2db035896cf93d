-- Each path reads what the rule comes to there.
use Rattle.rust_grammar.specs.Expressions.{expressions}
use Rattle.rust_grammar.specs.Items.{items}
use Rattle.rust_grammar.specs.Meaning.{begins_below, look_of}
use Rattle.rust_grammar.specs.Notation.{any_of, is_longer, no_longer, longest, one_of, row}
use Rattle.rust_grammar.specs.Paths.{paths}
use Rattle.rust_grammar.specs.Patterns.{patterns}
use Rattle.rust_grammar.specs.Rule.{begins, in_mode, from_start, is_silent, passes, shift, there_at}
use Rattle.rust_grammar.specs.Statements.{statements}
use Rattle.rust_grammar.specs.Types.{types}
use Rattle.rust_grammar.specs.Whole.{rule, whole}
use Rattle.rust_grammar.specs.Rule as rules
use Rattle.rust_productions.proofs.ByHand.{after-look, reads-call}
use Rattle.rust_productions.proofs.Choices.{reads-here}
use Rattle.rust_productions.proofs.Facts.{begun, nothing, saw-so}
use Rattle.rust_productions.proofs.grammar.names.expect_literal.Goals as goal

pub returns-then-at_literal-clause-reads : goal.returns-then-at_literal-clause-reads
unfolding look_of begins_below whole rule items statements expressions patterns types paths there_at shift passes is_silent begins in_mode from_start row one_of any_of no_longer longest is_longer
returns-then-at_literal-clause-reads c cond = reads-here (begun rules.literal (saw-so (c.at_literal.ensures.sees cond) c.if-at_literal.true) (nothing)) (after-look cond c.at_literal.ensures.peeks.same (reads-call cond (c.literal.ensures.gives cond)))

pub returns-clause-reads : goal.returns-clause-reads
unfolding look_of begins_below whole rule items statements expressions patterns types paths there_at shift passes is_silent begins in_mode from_start row one_of any_of no_longer longest is_longer
returns-clause-reads c cond = reads-here (begun rules.literal (saw-so (c.at_literal.ensures.sees cond) c.if-at_literal.false) (nothing)) (after-look cond c.at_literal.ensures.peeks.same ((c.error.ensures.reads cond)))
