-- Each path reads what the rule comes to there.
use Rattle.std.proofs.Common.{true}
-- Each path reads what the rule comes to there.
use Rattle.rust_grammar.specs.Expressions.{expressions}
use Rattle.rust_grammar.specs.Items.{items}
use Rattle.rust_grammar.specs.Meaning.{begins_below, look_of}
use Rattle.rust_grammar.specs.Notation.{any_of, is_longer, no_longer, longest, one_of, row}
use Rattle.rust_grammar.specs.Paths.{paths}
use Rattle.rust_grammar.specs.Patterns.{patterns}
use Rattle.rust_grammar.specs.Rule.{begins, in_mode, from_start, is_silent, passes, shift, there_at}
use Rattle.rust_grammar.specs.Statements.{statements}
use Rattle.rust_grammar.specs.Types.{types}
use Rattle.rust_grammar.specs.Whole.{rule, whole}
use Rattle.rust_grammar.specs.Rule as rules
use Rattle.rust_productions.proofs.ByHand.{after-look, reads-want, reads-missing}
use Rattle.rust_productions.proofs.Facts.{saw-so}
use Rattle.rust_productions.proofs.Seen.{saw-after}
use Rattle.rust_productions.proofs.grammar.macros.expect_crate_name.Goals as goal

pub returns-then-at_crate_name-clause-reads : goal.returns-then-at_crate_name-clause-reads
unfolding look_of begins_below whole rule items statements expressions patterns types paths there_at shift passes is_silent begins in_mode from_start row one_of any_of no_longer longest is_longer
returns-then-at_crate_name-clause-reads c = λ cond. after-look cond c.at_crate_name.ensures.peeks.same (reads-want cond (saw-after c.at_crate_name.ensures.peeks.same (saw-so (c.at_crate_name.ensures.sees cond) c.if-at_crate_name.true)) (c.crate_name.ensures.reads cond))

pub returns-clause-reads : goal.returns-clause-reads
unfolding look_of begins_below whole rule items statements expressions patterns types paths there_at shift passes is_silent begins in_mode from_start row one_of any_of no_longer longest is_longer
returns-clause-reads c = λ cond. after-look cond c.at_crate_name.ensures.peeks.same (reads-missing cond (saw-after c.at_crate_name.ensures.peeks.same (saw-so (c.at_crate_name.ensures.sees cond) c.if-at_crate_name.false)) (c.error.ensures.reads cond))
