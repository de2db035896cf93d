-- Structs and enums, path by path.
use Rattle.std.proofs.Common.{arith, refl}
use Rattle.rust_grammar.specs.Expressions.{expressions}
use Rattle.rust_grammar.specs.Items.{items}
use Rattle.rust_grammar.specs.Meaning.{begins_below, look_of}
use Rattle.rust_grammar.specs.Notation.{any_of, is_longer, no_longer, longest, one_of, row}
use Rattle.rust_grammar.specs.Paths.{paths}
use Rattle.rust_grammar.specs.Patterns.{patterns}
use Rattle.rust_grammar.specs.Rule.{begins, in_mode, from_start, is_silent, passes, shift, there_at}
use Rattle.rust_grammar.specs.Statements.{statements}
use Rattle.rust_grammar.specs.Types.{types}
use Rattle.rust_grammar.specs.Whole.{rule, whole}
use Rattle.rust_productions.specs.declared.condition.Condition.TheVariants.{On}
use Rattle.rust_productions.proofs.ByHand.{after-look, completes-wrap, reads-call, reads-then}
use Rattle.rust_productions.proofs.Choices.{reads-here, gives-from_start, from_start-after}
use Rattle.rust_productions.proofs.Facts.{nothing, saw-so, ◌and◌}
use Rattle.grammar_reader.proofs.grammar.+grammar.Goals as goal

pub items::adt::struct_item-complete-requires : goal.items::adt::struct_item-complete-requires
items::adt::struct_item-complete-requires t c = c.fields.ensures.reads.does.innermost _ ((c.opt_part.ensures.reads On).does.innermost _ ((c.expect_name.ensures.reads On).does.innermost _ ((c.take.ensures.reads On).does.innermost _ c.requires.innermost)))

pub items::adt::struct_item-returns-clause-completes : goal.items::adt::struct_item-returns-clause-completes
items::adt::struct_item-returns-clause-completes t c = completes-wrap (reads-then _ (c.take.ensures.reads c.args.condition) (reads-then _ (c.expect_name.ensures.reads c.args.condition) (reads-then _ (c.opt_part.ensures.reads c.args.condition) c.fields.ensures.reads))) c.complete.ensures.closes

pub items::adt::fields-returns-then-at-clause-reads : goal.items::adt::fields-returns-then-at-clause-reads
unfolding look_of begins_below whole rule items statements expressions patterns types paths there_at shift passes is_silent begins in_mode from_start row one_of any_of no_longer longest is_longer
items::adt::fields-returns-then-at-clause-reads t c = reads-here (saw-so (c.at.ensures.sees c.args.condition) c.if-at.true and nothing) (after-look _ c.at.ensures.peeks.same (reads-then _ (reads-call _ (gives-from_start (from_start-after refl (c.list.ensures.reads c.args.condition)))) (reads-then _ (c.opt_part.ensures.reads _) (c.expect.ensures.reads c.args.condition))))

pub items::adt::fields-returns-clause-reads : goal.items::adt::fields-returns-clause-reads
unfolding look_of begins_below whole rule items statements expressions patterns types paths there_at shift passes is_silent begins in_mode from_start row one_of any_of no_longer longest is_longer
items::adt::fields-returns-clause-reads t c = reads-here (saw-so (c.at.ensures.sees c.args.condition) c.if-at.false and nothing) (after-look _ c.at.ensures.peeks.same (reads-then _ (c.opt_part-2.ensures.reads _) (c.named_fields.ensures.reads c.args.condition)))

pub items::adt::enum_item-complete-requires : goal.items::adt::enum_item-complete-requires
items::adt::enum_item-complete-requires t c = (c.expect_part.ensures.reads On).does.innermost _ ((c.opt_part-2.ensures.reads On).does.innermost _ ((c.opt_part.ensures.reads On).does.innermost _ ((c.expect_name.ensures.reads On).does.innermost _ ((c.take.ensures.reads On).does.innermost _ c.requires.innermost))))

pub items::adt::enum_item-returns-clause-completes : goal.items::adt::enum_item-returns-clause-completes
items::adt::enum_item-returns-clause-completes t c = completes-wrap (reads-then _ (c.take.ensures.reads c.args.condition) (reads-then _ (c.expect_name.ensures.reads c.args.condition) (reads-then _ (c.opt_part.ensures.reads c.args.condition) (reads-then _ (c.opt_part-2.ensures.reads _) (c.expect_part.ensures.reads c.args.condition))))) c.complete.ensures.closes

pub items::adt::named_fields-list-requires : goal.items::adt::named_fields-list-requires
items::adt::named_fields-list-requires t c = (omega arith, omega (arith, c.at.ensures.peeks.left, c.at.ensures.some c.if-at.true (λ e. absurd (omega (arith, e)))))

pub items::adt::named_fields-returns-then-at-clause-reads : goal.items::adt::named_fields-returns-then-at-clause-reads
unfolding look_of begins_below whole rule items statements expressions patterns types paths there_at shift passes is_silent begins in_mode from_start row one_of any_of no_longer longest is_longer
items::adt::named_fields-returns-then-at-clause-reads t c = λ cond. reads-here (saw-so (c.at.ensures.sees cond) c.if-at.true and nothing) (after-look cond c.at.ensures.peeks.same (reads-call cond (gives-from_start (from_start-after refl (c.list.ensures.reads cond)))))

pub items::adt::named_fields-returns-clause-reads : goal.items::adt::named_fields-returns-clause-reads
unfolding look_of begins_below whole rule items statements expressions patterns types paths there_at shift passes is_silent begins in_mode from_start row one_of any_of no_longer longest is_longer
items::adt::named_fields-returns-clause-reads t c = λ cond. reads-here (saw-so (c.at.ensures.sees cond) c.if-at.false and nothing) (after-look cond c.at.ensures.peeks.same (c.expect.ensures.reads cond))

pub items::adt::fields-list-requires : goal.items::adt::fields-list-requires
items::adt::fields-list-requires t c = (omega arith, omega (arith, c.at.ensures.peeks.left, c.at.ensures.some c.if-at.true (λ e. absurd (omega (arith, e)))))
