-- Traits and implementations, path by path.
use Rattle.std.proofs.Common.{arith, refl}
use Rattle.rust_grammar.specs.Expressions.{expressions}
use Rattle.rust_grammar.specs.Items.{items}
use Rattle.rust_grammar.specs.Meaning.{begins_below, look_of}
use Rattle.rust_grammar.specs.Notation.{any_of, is_longer, no_longer, longest, one_of, row}
use Rattle.rust_grammar.specs.Paths.{paths}
use Rattle.rust_grammar.specs.Patterns.{patterns}
use Rattle.rust_grammar.specs.Rule.{begins, in_mode, from_start, is_silent, passes, shift, there_at}
use Rattle.rust_grammar.specs.Statements.{statements}
use Rattle.rust_grammar.specs.Types.{types}
use Rattle.rust_grammar.specs.Whole.{rule, whole}
use Rattle.rust_productions.specs.declared.condition.Condition.TheVariants.{On}
use Rattle.rust_productions.proofs.ByHand.{after-look, completes-wrap, reads-call, reads-then, reads-none, reads-opt}
use Rattle.rust_productions.proofs.Choices.{reads-here, gives-from_start, from_start-after}
use Rattle.rust_productions.proofs.Facts.{nothing, saw-so, ◌and◌}
use Rattle.rust_productions.proofs.Given.{reads-two}
use Rattle.grammar_reader.proofs.grammar.+grammar.Goals as goal

pub items::traits::impl_item-unsafe_word-requires : goal.items::traits::impl_item-unsafe_word-requires
items::traits::impl_item-unsafe_word-requires t c = record { begins = record { sees = c.requires.begins.sees; some = c.requires.begins.some }; word = record { other = λ e. absurd (omega (arith, e)); inside = λ e. absurd (omega (arith, e)) } }

pub items::traits::trait_item-unsafe_word-requires : goal.items::traits::trait_item-unsafe_word-requires
items::traits::trait_item-unsafe_word-requires t c = record { begins = record { sees = c.requires.begins.sees; some = c.requires.begins.some }; word = record { other = λ e. absurd (omega (arith, e)); inside = λ e. absurd (omega (arith, e)) } }

pub items::traits::impl_item-returns-clause-completes : goal.items::traits::impl_item-returns-clause-completes
items::traits::impl_item-returns-clause-completes t c = completes-wrap (reads-two c.args.condition (c.unsafe_word.ensures.reads c.args.condition) (c.after_impl.ensures.reads c.args.condition)) c.complete.ensures.closes

pub items::traits::impl_item-complete-requires : goal.items::traits::impl_item-complete-requires
items::traits::impl_item-complete-requires t c = (c.after_impl.ensures.reads On).does.innermost _ ((c.unsafe_word.ensures.reads On).does.innermost _ (c.requires.innermost))

pub items::traits::trait_item-returns-clause-completes : goal.items::traits::trait_item-returns-clause-completes
items::traits::trait_item-returns-clause-completes t c = completes-wrap (reads-two c.args.condition (c.unsafe_word.ensures.reads c.args.condition) (c.after_trait.ensures.reads c.args.condition)) c.complete.ensures.closes

pub items::traits::trait_item-complete-requires : goal.items::traits::trait_item-complete-requires
items::traits::trait_item-complete-requires t c = (c.after_trait.ensures.reads On).does.innermost _ ((c.unsafe_word.ensures.reads On).does.innermost _ (c.requires.innermost))

pub items::traits::plain_impl-returns-clause-completes : goal.items::traits::plain_impl-returns-clause-completes
items::traits::plain_impl-returns-clause-completes t c = λ cond. completes-wrap (reads-then cond (c.take.ensures.reads cond) (c.after_impl.ensures.reads cond)) c.complete.ensures.closes

pub items::traits::plain_impl-complete-requires : goal.items::traits::plain_impl-complete-requires
items::traits::plain_impl-complete-requires t c = (c.after_impl.ensures.reads On).does.innermost _ ((c.take.ensures.reads On).does.innermost _ (c.requires.innermost))

pub items::traits::after_impl-returns-clause-reads : goal.items::traits::after_impl-returns-clause-reads
items::traits::after_impl-returns-clause-reads t c = λ cond. reads-then cond (c.opt_impl_params.ensures.reads cond) (reads-then cond (c.opt_const_before_trait.ensures.reads cond) (reads-then cond (c.opt_negation.ensures.reads cond) (reads-then cond (c.expect_part.ensures.reads cond) (reads-then cond (c.opt_type_after.ensures.reads cond) (reads-then cond (c.opt_part.ensures.reads cond) (c.expect_part-2.ensures.reads cond))))))

pub items::traits::plain_trait-returns-clause-completes : goal.items::traits::plain_trait-returns-clause-completes
items::traits::plain_trait-returns-clause-completes t c = λ cond. completes-wrap (reads-then cond (c.take.ensures.reads cond) (c.after_trait.ensures.reads cond)) c.complete.ensures.closes

pub items::traits::plain_trait-complete-requires : goal.items::traits::plain_trait-complete-requires
items::traits::plain_trait-complete-requires t c = (c.after_trait.ensures.reads On).does.innermost _ ((c.take.ensures.reads On).does.innermost _ (c.requires.innermost))

pub items::traits::after_trait-returns-clause-reads : goal.items::traits::after_trait-returns-clause-reads
items::traits::after_trait-returns-clause-reads t c = λ cond. reads-then cond (c.expect_name.ensures.reads cond) (reads-then cond (c.opt_part.ensures.reads cond) (c.trait_body.ensures.reads cond))

pub items::traits::trait_body-returns-then-at_new-clause-reads : goal.items::traits::trait_body-returns-then-at_new-clause-reads
unfolding look_of begins_below whole rule items statements expressions patterns types paths there_at shift passes is_silent begins in_mode from_start row one_of any_of no_longer longest is_longer
items::traits::trait_body-returns-then-at_new-clause-reads t c = λ cond. reads-here (saw-so (c.at_new.ensures.sees cond) c.if-at_new.true and nothing) (after-look cond c.at_new.ensures.peeks.same (c.alias_bounds.ensures.reads cond))

pub items::traits::trait_body-returns-clause-reads : goal.items::traits::trait_body-returns-clause-reads
unfolding look_of begins_below whole rule items statements expressions patterns types paths there_at shift passes is_silent begins in_mode from_start row one_of any_of no_longer longest is_longer
items::traits::trait_body-returns-clause-reads t c = λ cond. reads-here (saw-so (c.at_new.ensures.sees cond) c.if-at_new.false and nothing) (after-look cond c.at_new.ensures.peeks.same (c.trait_items.ensures.reads cond))

pub items::traits::alias_bounds-returns-clause-reads : goal.items::traits::alias_bounds-returns-clause-reads
items::traits::alias_bounds-returns-clause-reads t c = λ cond. reads-then cond (c.take.ensures.reads cond) (reads-then cond (reads-call cond (c.bounds.ensures.gives cond)) (reads-then cond (c.opt_part.ensures.reads cond) (c.expect.ensures.reads cond)))

pub items::traits::trait_items-returns-clause-reads : goal.items::traits::trait_items-returns-clause-reads
items::traits::trait_items-returns-clause-reads t c = λ cond. reads-then cond (c.bounds_after_colon.ensures.reads cond) (reads-then cond (c.opt_part.ensures.reads cond) (c.expect_part.ensures.reads cond))

pub items::traits::opt_impl_params-returns-then-at_impl_params-clause-reads : goal.items::traits::opt_impl_params-returns-then-at_impl_params-clause-reads
unfolding look_of begins_below whole rule items statements expressions patterns types paths there_at shift passes is_silent begins in_mode from_start row one_of any_of no_longer longest is_longer
items::traits::opt_impl_params-returns-then-at_impl_params-clause-reads t c = λ cond. reads-opt cond (saw-so (c.at_impl_params.ensures.sees cond) c.if-at_impl_params.true) (reads-here (c.at_impl_params.ensures.goes c.if-at_impl_params.true cond and nothing) (after-look cond c.at_impl_params.ensures.peeks.same (reads-call cond (gives-from_start (from_start-after refl (c.list.ensures.reads cond))))))

pub items::traits::opt_impl_params-returns-else-at_impl_params-clause-reads : goal.items::traits::opt_impl_params-returns-else-at_impl_params-clause-reads
unfolding look_of begins_below whole rule items statements expressions patterns types paths there_at shift passes is_silent begins in_mode from_start row one_of any_of no_longer longest is_longer
items::traits::opt_impl_params-returns-else-at_impl_params-clause-reads t c = λ cond. reads-none cond (saw-so (c.at_impl_params.ensures.sees cond) c.if-at_impl_params.false) c.at_impl_params.ensures.peeks.same
