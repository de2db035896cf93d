-- Generic parameters that only the whole language has.
use Rattle.std.proofs.Common.{refl, arith}
use Rattle.rust_grammar.specs.Expressions.{expressions}
use Rattle.rust_grammar.specs.Items.{items}
use Rattle.rust_grammar.specs.Meaning.{begins_below, look_of}
use Rattle.rust_grammar.specs.Notation.{any_of, is_longer, no_longer, longest, one_of, row}
use Rattle.rust_grammar.specs.Paths.{paths}
use Rattle.rust_grammar.specs.Patterns.{patterns}
use Rattle.rust_grammar.specs.Rule.{begins, in_mode, from_start, is_silent, passes, shift, there_at}
use Rattle.rust_grammar.specs.Statements.{statements}
use Rattle.rust_grammar.specs.Types.{types}
use Rattle.rust_grammar.specs.Whole.{rule, whole}
use Rattle.rust_productions.specs.declared.condition.Condition.TheVariants.{On}
use Rattle.rust_productions.proofs.ByHand.{after-look, completes-then, completes-wrap, reads-call, reads-node, reads-nothing, reads-then, completes-look}
use Rattle.rust_productions.proofs.Choices.{from_start-after, from_start-completes, from_start-here, from_start-look, completes-here, reads-here}
use Rattle.rust_productions.proofs.Facts.{nothing, saw-so, ◌and◌}
use Rattle.rust_productions.proofs.Looking.{saw-arm, saw-not}
use Rattle.grammar_reader.proofs.grammar.+grammar.Goals as goal

pub new_params::new_param-returns-then-at-clause-from_start : goal.new_params::new_param-returns-then-at-clause-from_start
unfolding look_of begins_below whole rule items statements expressions patterns types paths there_at shift passes is_silent begins in_mode from_start row one_of any_of no_longer longest is_longer
new_params::new_param-returns-then-at-clause-from_start t c = λ cond. from_start-here (saw-so (c.at.ensures.sees cond) c.if-at.true and nothing) (from_start-look c.at.ensures.peeks.same (from_start-after refl (c.const_param.ensures.reads cond)))

pub new_params::new_param-returns-clause-from_start : goal.new_params::new_param-returns-clause-from_start
unfolding look_of begins_below whole rule items statements expressions patterns types paths there_at shift passes is_silent begins in_mode from_start row one_of any_of no_longer longest is_longer
new_params::new_param-returns-clause-from_start t c = λ cond. from_start-here (saw-so (c.at.ensures.sees cond) c.if-at.false and nothing) (from_start-look c.at.ensures.peeks.same (c.attributed_param.ensures.from_start cond))

pub new_params::const_param-complete-requires : goal.new_params::const_param-complete-requires
new_params::const_param-complete-requires t c = (c.inside_const_param.ensures.reads On).does.innermost _ (c.start-node.ensures.marker)

pub new_params::const_param-returns-clause-reads : goal.new_params::const_param-returns-clause-reads
new_params::const_param-returns-clause-reads t c = λ cond. reads-node cond c.start-node.ensures.opens (c.inside_const_param.ensures.reads cond) c.complete.ensures.closes

pub new_params::inside_const_param-returns-clause-reads : goal.new_params::inside_const_param-returns-clause-reads
new_params::inside_const_param-returns-clause-reads t c = λ cond. reads-then cond (c.take.ensures.reads cond) (reads-then cond (c.expect_name.ensures.reads cond) (reads-then cond (c.expect.ensures.reads cond) (reads-then cond (c.expect_part.ensures.reads cond) (c.const_default.ensures.reads cond))))

pub new_params::const_default-returns-then-at-clause-reads : goal.new_params::const_default-returns-then-at-clause-reads
unfolding look_of begins_below whole rule items statements expressions patterns types paths there_at shift passes is_silent begins in_mode from_start row one_of any_of no_longer longest is_longer
new_params::const_default-returns-then-at-clause-reads t c = λ cond. reads-here (saw-so (c.at.ensures.sees cond) c.if-at.true and nothing) (after-look cond c.at.ensures.peeks.same (reads-then cond (c.take.ensures.reads cond) (c.expect_const_arg.ensures.reads cond)))

pub new_params::const_default-returns-else-at-clause-reads : goal.new_params::const_default-returns-else-at-clause-reads
unfolding look_of begins_below whole rule items statements expressions patterns types paths there_at shift passes is_silent begins in_mode from_start row one_of any_of no_longer longest is_longer
new_params::const_default-returns-else-at-clause-reads t c = λ cond. reads-here (saw-so (c.at.ensures.sees cond) c.if-at.false and nothing) (reads-nothing cond c.at.ensures.peeks.same)

pub new_params::attributed_param-after_attributes-requires : goal.new_params::attributed_param-after_attributes-requires
new_params::attributed_param-after_attributes-requires t c = (omega arith, (c.attributes.ensures.reads On).does.innermost _ ((c.attribute.ensures.gives On).does.innermost _ (c.start-node.ensures.marker)))

pub new_params::attributed_param-returns-clause-from_start : goal.new_params::attributed_param-returns-clause-from_start
new_params::attributed_param-returns-clause-from_start t c = λ cond. from_start-completes c.start-node.ensures.opens (completes-then (reads-call cond (c.attribute.ensures.gives cond)) (completes-then (c.attributes.ensures.reads cond) (c.after_attributes.ensures.completes cond)))

pub new_params::after_attributes-complete-requires : goal.new_params::after_attributes-complete-requires
new_params::after_attributes-complete-requires t c = (c.lifetime_and_bounds.ensures.reads On).does.innermost _ (c.current.ensures.peeks.same.innermost _ c.requires.innermost)

pub new_params::after_attributes-complete-requires-in-CONST_KW : goal.new_params::after_attributes-complete-requires-in-CONST_KW
new_params::after_attributes-complete-requires-in-CONST_KW t c = (c.inside_const_param.ensures.reads On).does.innermost _ (c.current.ensures.peeks.same.innermost _ c.requires.innermost)

pub new_params::after_attributes-complete-requires-in_default : goal.new_params::after_attributes-complete-requires-in_default
new_params::after_attributes-complete-requires-in_default t c = (c.inside_type_param.ensures.reads On).does.innermost _ (c.current.ensures.peeks.same.innermost _ c.requires.innermost)

pub new_params::after_attributes-returns-in-LIFETIME_IDENT-clause-completes : goal.new_params::after_attributes-returns-in-LIFETIME_IDENT-clause-completes
unfolding look_of begins_below whole rule items statements expressions patterns types paths there_at shift passes is_silent begins in_mode from_start row one_of any_of no_longer longest is_longer
new_params::after_attributes-returns-in-LIFETIME_IDENT-clause-completes t c = λ cond. completes-here (saw-arm c.in-LIFETIME_IDENT.is (c.current.ensures.sees cond) and nothing) (completes-look c.current.ensures.peeks.same (completes-wrap (c.lifetime_and_bounds.ensures.reads cond) c.complete.ensures.closes))

pub new_params::after_attributes-returns-in-CONST_KW-clause-completes : goal.new_params::after_attributes-returns-in-CONST_KW-clause-completes
unfolding look_of begins_below whole rule items statements expressions patterns types paths there_at shift passes is_silent begins in_mode from_start row one_of any_of no_longer longest is_longer
new_params::after_attributes-returns-in-CONST_KW-clause-completes t c = λ cond. completes-here (saw-arm c.in-CONST_KW.is (c.current.ensures.sees cond) and nothing) (completes-look c.current.ensures.peeks.same (completes-wrap (c.inside_const_param.ensures.reads cond) c.complete-in-CONST_KW.ensures.closes))

pub new_params::after_attributes-returns-in_default-clause-completes : goal.new_params::after_attributes-returns-in_default-clause-completes
unfolding look_of begins_below whole rule items statements expressions patterns types paths there_at shift passes is_silent begins in_mode from_start row one_of any_of no_longer longest is_longer
new_params::after_attributes-returns-in_default-clause-completes t c = λ cond. completes-here (saw-not c.in_default.not-LIFETIME_IDENT (c.current.ensures.sees cond) and saw-not c.in_default.not-CONST_KW (c.current.ensures.sees cond) and nothing) (completes-look c.current.ensures.peeks.same (completes-wrap (c.inside_type_param.ensures.reads cond) c.complete-in_default.ensures.closes))

pub new_params::inside_type_param-returns-clause-reads : goal.new_params::inside_type_param-returns-clause-reads
new_params::inside_type_param-returns-clause-reads t c = λ cond. reads-then cond (c.expect_name.ensures.reads cond) (reads-then cond (c.bounds_after_colon.ensures.reads cond) (c.opt_type_after.ensures.reads cond))
