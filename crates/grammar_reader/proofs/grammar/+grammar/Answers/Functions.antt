-- Functions, path by path.
use Rattle.rust_grammar.specs.Expressions.{expressions}
use Rattle.rust_grammar.specs.Items.{items}
use Rattle.rust_grammar.specs.Meaning.{begins_below, look_of}
use Rattle.rust_grammar.specs.Notation.{any_of, is_longer, no_longer, longest, one_of, row}
use Rattle.rust_grammar.specs.Paths.{paths}
use Rattle.rust_grammar.specs.Patterns.{patterns}
use Rattle.rust_grammar.specs.Rule.{begins, in_mode, from_start, is_silent, passes, shift, there_at}
use Rattle.rust_grammar.specs.Statements.{statements}
use Rattle.rust_grammar.specs.Types.{types}
use Rattle.rust_grammar.specs.Whole.{rule, whole}
use Rattle.rust_productions.specs.declared.condition.Condition.TheVariants.{On}
use Rattle.rust_productions.proofs.ByHand.{after-look, completes-wrap, reads-call, reads-then}
use Rattle.rust_productions.proofs.Choices.{reads-here}
use Rattle.rust_productions.proofs.Facts.{nothing, saw-so, ◌and◌}
use Rattle.rust_productions.proofs.Given.{reads-three}
use Rattle.grammar_reader.proofs.grammar.+grammar.Goals as goal

pub items::functions::fn_item-fn_words-requires : goal.items::functions::fn_item-fn_words-requires
items::functions::fn_item-fn_words-requires t c = record { begins = c.requires.begins.sees; some = c.requires.begins.some }

pub items::functions::fn_body-returns-then-at-clause-reads : goal.items::functions::fn_body-returns-then-at-clause-reads
unfolding look_of begins_below whole rule items statements expressions patterns types paths there_at shift passes is_silent begins in_mode from_start row one_of any_of no_longer longest is_longer
items::functions::fn_body-returns-then-at-clause-reads t c = λ cond. reads-here (saw-so (c.at.ensures.sees cond) c.if-at.true and nothing) (after-look cond c.at.ensures.peeks.same (reads-call cond (c.block.ensures.gives cond)))

pub items::functions::fn_body-returns-clause-reads : goal.items::functions::fn_body-returns-clause-reads
unfolding look_of begins_below whole rule items statements expressions patterns types paths there_at shift passes is_silent begins in_mode from_start row one_of any_of no_longer longest is_longer
items::functions::fn_body-returns-clause-reads t c = λ cond. reads-here (saw-so (c.at.ensures.sees cond) c.if-at.false and nothing) (after-look cond c.at.ensures.peeks.same (c.expect.ensures.reads cond))

pub items::functions::fn_item-returns-clause-completes : goal.items::functions::fn_item-returns-clause-completes
items::functions::fn_item-returns-clause-completes t c = completes-wrap (reads-three c.args.condition (c.fn_words.ensures.reads c.args.condition) (c.after_fn.ensures.reads c.args.condition)) c.complete.ensures.closes

pub items::functions::fn_item-complete-requires : goal.items::functions::fn_item-complete-requires
items::functions::fn_item-complete-requires t c = (c.after_fn.ensures.reads On).does.innermost _ ((c.fn_words.ensures.reads On).does.innermost _ (c.requires.innermost))

pub items::functions::plain_fn-returns-clause-completes : goal.items::functions::plain_fn-returns-clause-completes
items::functions::plain_fn-returns-clause-completes t c = λ cond. completes-wrap (reads-then cond (c.take.ensures.reads cond) (c.after_fn.ensures.reads cond)) c.complete.ensures.closes

pub items::functions::plain_fn-complete-requires : goal.items::functions::plain_fn-complete-requires
items::functions::plain_fn-complete-requires t c = (c.after_fn.ensures.reads On).does.innermost _ ((c.take.ensures.reads On).does.innermost _ (c.requires.innermost))

pub items::functions::after_fn-returns-clause-reads : goal.items::functions::after_fn-returns-clause-reads
items::functions::after_fn-returns-clause-reads t c = λ cond. reads-then cond (c.expect_name.ensures.reads cond) (reads-then cond (c.opt_part.ensures.reads cond) (reads-then cond (c.expect_part.ensures.reads cond) (reads-then cond (c.opt_ret_type.ensures.reads cond) (reads-then cond (c.opt_part-2.ensures.reads cond) (c.fn_body.ensures.reads cond)))))
