-- Constants, statics and names of types, path by path.
use Rattle.rust_grammar.specs.Expressions.{expressions}
use Rattle.rust_grammar.specs.Items.{items}
use Rattle.rust_grammar.specs.Meaning.{begins_below, look_of}
use Rattle.rust_grammar.specs.Notation.{any_of, is_longer, no_longer, longest, one_of, row}
use Rattle.rust_grammar.specs.Paths.{paths}
use Rattle.rust_grammar.specs.Patterns.{patterns}
use Rattle.rust_grammar.specs.Rule.{begins, in_mode, from_start, is_silent, passes, shift, there_at}
use Rattle.rust_grammar.specs.Statements.{statements}
use Rattle.rust_grammar.specs.Types.{types}
use Rattle.rust_grammar.specs.Whole.{rule, whole}
use Rattle.rust_productions.specs.declared.condition.Condition.TheVariants.{On}
use Rattle.rust_productions.proofs.ByHand.{after-look, completes-wrap, reads-nothing, reads-then}
use Rattle.rust_productions.proofs.Choices.{reads-here}
use Rattle.rust_productions.proofs.Facts.{nothing, saw-so, ◌and◌}
use Rattle.grammar_reader.proofs.grammar.+grammar.Goals as goal

pub items::consts::static_item-complete-requires : goal.items::consts::static_item-complete-requires
items::consts::static_item-complete-requires t c = c.typed_value.ensures.reads.does.innermost _ ((c.expect_name.ensures.reads On).does.innermost _ ((c.eat.ensures.reads On).does.innermost _ ((c.take.ensures.reads On).does.innermost _ c.requires.innermost)))

pub items::consts::static_item-returns-clause-completes : goal.items::consts::static_item-returns-clause-completes
items::consts::static_item-returns-clause-completes t c = completes-wrap (reads-then _ (c.take.ensures.reads c.args.condition) (reads-then _ (c.eat.ensures.reads c.args.condition) (reads-then _ (c.expect_name.ensures.reads c.args.condition) c.typed_value.ensures.reads))) c.complete.ensures.closes

pub items::consts::typed_value-returns-clause-reads : goal.items::consts::typed_value-returns-clause-reads
items::consts::typed_value-returns-clause-reads t c = (reads-then _ (c.expect.ensures.reads c.args.condition) (reads-then _ (c.expect_part.ensures.reads _) (reads-then _ c.opt_value.ensures.reads (c.expect-2.ensures.reads c.args.condition))))

pub items::consts::opt_value-returns-then-at-clause-reads : goal.items::consts::opt_value-returns-then-at-clause-reads
unfolding look_of begins_below whole rule items statements expressions patterns types paths there_at shift passes is_silent begins in_mode from_start row one_of any_of no_longer longest is_longer
items::consts::opt_value-returns-then-at-clause-reads t c = reads-here (saw-so (c.at.ensures.sees c.args.condition) c.if-at.true and nothing) (after-look _ c.at.ensures.peeks.same (reads-then _ (c.take.ensures.reads c.args.condition) c.expect_expression.ensures.reads))

pub items::consts::opt_value-returns-else-at-clause-reads : goal.items::consts::opt_value-returns-else-at-clause-reads
unfolding look_of begins_below whole rule items statements expressions patterns types paths there_at shift passes is_silent begins in_mode from_start row one_of any_of no_longer longest is_longer
items::consts::opt_value-returns-else-at-clause-reads t c = reads-here (saw-so (c.at.ensures.sees c.args.condition) c.if-at.false and nothing) (reads-nothing _ c.at.ensures.peeks.same)

pub items::consts::const_item-returns-clause-completes : goal.items::consts::const_item-returns-clause-completes
items::consts::const_item-returns-clause-completes t c = completes-wrap (reads-then c.args.condition (c.take.ensures.reads c.args.condition) (reads-then c.args.condition (c.underscore_or_name.ensures.reads c.args.condition) (reads-then c.args.condition (c.opt_part.ensures.reads c.args.condition) c.const_typed.ensures.reads))) c.complete.ensures.closes

pub items::consts::const_item-complete-requires : goal.items::consts::const_item-complete-requires
items::consts::const_item-complete-requires t c = c.const_typed.ensures.reads.does.innermost _ ((c.opt_part.ensures.reads On).does.innermost _ ((c.underscore_or_name.ensures.reads On).does.innermost _ ((c.take.ensures.reads On).does.innermost _ (c.requires.innermost))))

pub items::consts::const_typed-returns-clause-reads : goal.items::consts::const_typed-returns-clause-reads
items::consts::const_typed-returns-clause-reads t c = reads-then c.args.in_condition (c.expect.ensures.reads c.args.in_condition) (reads-then c.args.in_condition (c.expect_part.ensures.reads c.args.in_condition) (reads-then c.args.in_condition c.opt_value.ensures.reads (reads-then c.args.in_condition (c.opt_part.ensures.reads c.args.in_condition) (c.expect-2.ensures.reads c.args.in_condition))))

pub items::consts::type_alias-returns-clause-completes : goal.items::consts::type_alias-returns-clause-completes
items::consts::type_alias-returns-clause-completes t c = completes-wrap (reads-then c.args.condition (c.take.ensures.reads c.args.condition) (reads-then c.args.condition (c.expect_name.ensures.reads c.args.condition) (reads-then c.args.condition (c.opt_part.ensures.reads c.args.condition) (reads-then c.args.condition (c.bounds_after_colon.ensures.reads c.args.condition) (reads-then c.args.condition (c.opt_part-2.ensures.reads c.args.condition) (c.alias_value.ensures.reads c.args.condition)))))) c.complete.ensures.closes

pub items::consts::type_alias-complete-requires : goal.items::consts::type_alias-complete-requires
items::consts::type_alias-complete-requires t c = (c.alias_value.ensures.reads On).does.innermost _ ((c.opt_part-2.ensures.reads On).does.innermost _ ((c.bounds_after_colon.ensures.reads On).does.innermost _ ((c.opt_part.ensures.reads On).does.innermost _ ((c.expect_name.ensures.reads On).does.innermost _ ((c.take.ensures.reads On).does.innermost _ (c.requires.innermost))))))

pub items::consts::alias_value-returns-clause-reads : goal.items::consts::alias_value-returns-clause-reads
items::consts::alias_value-returns-clause-reads t c = λ cond. reads-then cond (c.opt_type_after.ensures.reads cond) (reads-then cond (c.opt_part.ensures.reads cond) (c.expect.ensures.reads cond))
