-- Each path reads what the rule comes to there.
use Rattle.rust_grammar.specs.Expressions.{expressions}
use Rattle.rust_grammar.specs.Items.{items}
use Rattle.rust_grammar.specs.Meaning.{begins_below, look_of}
use Rattle.rust_grammar.specs.Notation.{any_of, is_longer, no_longer, longest, one_of, row}
use Rattle.rust_grammar.specs.Paths.{paths}
use Rattle.rust_grammar.specs.Patterns.{patterns}
use Rattle.rust_grammar.specs.Rule.{begins, in_mode, from_start, is_silent, passes, shift, there_at}
use Rattle.rust_grammar.specs.Statements.{statements}
use Rattle.rust_grammar.specs.Types.{types}
use Rattle.rust_grammar.specs.Whole.{rule, whole}
use Rattle.rust_productions.specs.declared.condition.Condition.TheVariants.{On}
use Rattle.rust_productions.proofs.ByHand.{after-look, does-nothing, reads-nothing, reads-then, reads-wrap}
use Rattle.rust_productions.proofs.Choices.{reads-here}
use Rattle.rust_productions.proofs.Facts.{nothing, saw-so, ◌and◌}
use Rattle.rust_productions.proofs.grammar.types.type_of_path.Goals as goal

pub wrap-requires : goal.wrap-requires
wrap-requires c = (c.expect_token_tree.ensures.reads On).does.innermost _ ((c.take.ensures.reads On).does.innermost _ (c.at_macro_call.ensures.peeks.same.innermost _ c.requires.innermost))

pub returns-then-at_macro_call-clause-reads : goal.returns-then-at_macro_call-clause-reads
unfolding look_of begins_below whole rule items statements expressions patterns types paths there_at shift passes is_silent begins in_mode from_start row one_of any_of no_longer longest is_longer
returns-then-at_macro_call-clause-reads c cond = reads-here (saw-so (c.at_macro_call.ensures.sees cond) c.if-at_macro_call.true and nothing) (after-look _ c.at_macro_call.ensures.peeks.same (reads-wrap _ (reads-then _ (c.take.ensures.reads cond) (c.expect_token_tree.ensures.reads cond)) c.wrap.ensures.wraps))

pub returns-clause-reads : goal.returns-clause-reads
unfolding look_of begins_below whole rule items statements expressions patterns types paths there_at shift passes is_silent begins in_mode from_start row one_of any_of no_longer longest is_longer
returns-clause-reads c cond = reads-here (saw-so (c.at_macro_call.ensures.sees cond) c.if-at_macro_call.false and nothing) (after-look _ c.at_macro_call.ensures.peeks.same (reads-wrap _ (reads-nothing _ (does-nothing _)) c.wrap-2.ensures.wraps))
