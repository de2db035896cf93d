-- Each path reads what the rule comes to there.
use Rattle.std.proofs.Common.{refl}
use Rattle.parser_input.specs.Kinds as kinds
use Rattle.rust_grammar.specs.Expressions.{expressions}
use Rattle.rust_grammar.specs.Items.{items}
use Rattle.rust_grammar.specs.Meaning.{begins_below, look_of}
use Rattle.rust_grammar.specs.Notation.{wide, any_of, is_longer, no_longer, longest, one_of, row}
use Rattle.rust_grammar.specs.Paths.{fn_args_begin, paths}
use Rattle.rust_grammar.specs.Patterns.{patterns}
use Rattle.rust_grammar.specs.Rule.{begins, in_mode, from_start, is_silent, passes, shift, there_at}
use Rattle.rust_grammar.specs.Statements.{statements}
use Rattle.rust_grammar.specs.Types.{types}
use Rattle.rust_grammar.specs.Whole.{rule, whole}
use Rattle.rust_grammar.specs.Rule.{Kind}
use Rattle.rust_productions.proofs.ByHand.{after-look, reads-nothing}
use Rattle.rust_productions.proofs.Choices.{reads-here}
use Rattle.rust_productions.proofs.Facts.{nothing, saw-so, ◌and◌}
use Rattle.rust_productions.proofs.Seen.{saw-else, saw-left}
use Rattle.rust_productions.proofs.grammar.generic_args.opt_colons_before_paren.Goals as goal

pub returns-then-at_colons_before_paren-clause-reads : goal.returns-then-at_colons_before_paren-clause-reads
unfolding look_of begins_below whole rule items statements expressions patterns types paths there_at shift passes is_silent begins in_mode from_start row one_of any_of no_longer longest is_longer
returns-then-at_colons_before_paren-clause-reads c cond =
    reads-here (saw-left (saw-so (c.at_colons_before_paren.ensures.sees cond) c.if-at_colons_before_paren.true) and nothing)
    (after-look cond c.at_colons_before_paren.ensures.peeks.same (c.take_pair.ensures.reads cond _ _))

pub returns-else-at_colons_before_paren-clause-reads : goal.returns-else-at_colons_before_paren-clause-reads
unfolding look_of begins_below whole rule items statements expressions patterns types paths there_at shift passes is_silent begins in_mode from_start row one_of any_of no_longer longest is_longer
returns-else-at_colons_before_paren-clause-reads c cond =
    reads-here (saw-else (Kind 0 kinds.L_PAREN) (wide fn_args_begin) (saw-so (c.at_colons_before_paren.ensures.sees cond) c.if-at_colons_before_paren.false and nothing) (c.requires.begins.sees cond) refl and nothing)
    (reads-nothing cond c.at_colons_before_paren.ensures.peeks.same)
