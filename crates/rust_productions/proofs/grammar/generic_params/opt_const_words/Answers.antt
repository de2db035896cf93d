-- Each path reads what the rule comes to there.
use Rattle.rust_grammar.specs.Expressions.{expressions}
use Rattle.rust_grammar.specs.Items.{items}
use Rattle.rust_grammar.specs.Meaning.{begins_below, look_of}
use Rattle.rust_grammar.specs.Notation.{any_of, is_longer, no_longer, longest, one_of, row}
use Rattle.rust_grammar.specs.Paths.{paths}
use Rattle.rust_grammar.specs.Patterns.{patterns}
use Rattle.rust_grammar.specs.Rule.{begins, in_mode, from_start, is_silent, passes, shift, there_at}
use Rattle.rust_grammar.specs.Statements.{statements}
use Rattle.rust_grammar.specs.Types.{types}
use Rattle.rust_grammar.specs.Whole.{rule, whole}
use Rattle.rust_productions.proofs.ByHand.{after-look, reads-nothing, reads-then}
use Rattle.rust_productions.proofs.Choices.{reads-here}
use Rattle.rust_productions.proofs.Facts.{nothing, ◌and◌}
use Rattle.rust_productions.proofs.Looking.{saw-arm, saw-not}
use Rattle.rust_productions.proofs.grammar.generic_params.opt_const_words.Goals as goal

pub returns-in-TILDE-clause-reads : goal.returns-in-TILDE-clause-reads
unfolding look_of begins_below whole rule items statements expressions patterns types paths there_at shift passes is_silent begins in_mode from_start row one_of any_of no_longer longest is_longer
returns-in-TILDE-clause-reads c cond = reads-here (saw-arm c.in-TILDE.is (c.current.ensures.sees cond) and nothing) (after-look cond c.current.ensures.peeks.same (reads-then cond (c.take.ensures.reads cond) (c.expect.ensures.reads cond)))

pub returns-in-L_BRACK-clause-reads : goal.returns-in-L_BRACK-clause-reads
unfolding look_of begins_below whole rule items statements expressions patterns types paths there_at shift passes is_silent begins in_mode from_start row one_of any_of no_longer longest is_longer
returns-in-L_BRACK-clause-reads c cond = reads-here (saw-arm c.in-L_BRACK.is (c.current.ensures.sees cond) and nothing) (after-look cond c.current.ensures.peeks.same (reads-then cond (c.take-in-L_BRACK.ensures.reads cond) (reads-then cond (c.expect-in-L_BRACK.ensures.reads cond) (c.expect-in-L_BRACK-2.ensures.reads cond))))

pub returns-in-CONST_KW-clause-reads : goal.returns-in-CONST_KW-clause-reads
unfolding look_of begins_below whole rule items statements expressions patterns types paths there_at shift passes is_silent begins in_mode from_start row one_of any_of no_longer longest is_longer
returns-in-CONST_KW-clause-reads c cond = reads-here (saw-arm c.in-CONST_KW.is (c.current.ensures.sees cond) and nothing) (after-look cond c.current.ensures.peeks.same (c.take-in-CONST_KW.ensures.reads cond))

pub returns-in_default-clause-reads : goal.returns-in_default-clause-reads
unfolding look_of begins_below whole rule items statements expressions patterns types paths there_at shift passes is_silent begins in_mode from_start row one_of any_of no_longer longest is_longer
returns-in_default-clause-reads c cond = reads-here (saw-not c.in_default.not-TILDE (c.current.ensures.sees cond) and saw-not c.in_default.not-L_BRACK (c.current.ensures.sees cond) and saw-not c.in_default.not-CONST_KW (c.current.ensures.sees cond) and nothing) (reads-nothing cond c.current.ensures.peeks.same)
