-- Parameters.
use Rattle.std.proofs.Common.{refl, arith}
use Rattle.rust_grammar.specs.Rule as rules
use Rattle.rust_grammar.specs.Expressions.{expressions}
use Rattle.rust_grammar.specs.Items.{items}
use Rattle.rust_grammar.specs.Meaning.{begins_below, look_of}
use Rattle.rust_grammar.specs.Notation.{any_of, is_longer, no_longer, longest, one_of, row}
use Rattle.rust_grammar.specs.Paths.{paths}
use Rattle.rust_grammar.specs.Patterns.{patterns}
use Rattle.rust_grammar.specs.Rule.{begins, in_mode, from_start, is_silent, passes, shift, there_at}
use Rattle.rust_grammar.specs.Statements.{statements}
use Rattle.rust_grammar.specs.Types.{types}
use Rattle.rust_grammar.specs.Whole.{rule, whole}
use Rattle.parser_input.specs.Kinds as kinds
use Rattle.rust_grammar.specs.Rule.{Kind}
use Rattle.rust_grammar.specs.Items.{self_begins}
use Rattle.rust_productions.specs.declared.condition.Condition.TheVariants.{On}
use Rattle.rust_productions.proofs.ByHand.{after-look, does-then, reads-call, reads-node, reads-then, completes-look, completes-then, completes-wrap}
use Rattle.rust_productions.proofs.Choices.{from_start-after, gives-from_start, reads-here, from_start-completes, from_start-here, from_start-look, completes-here}
use Rattle.rust_productions.proofs.Facts.{nothing, saw-so, ◌and◌}
use Rattle.rust_productions.proofs.Looking.{saw-arm, saw-not}
use Rattle.rust_productions.proofs.Seen.{begins-else, saw-after, saw-else, saw-inside, saw-before, saw-right}
use Rattle.grammar_reader.proofs.grammar.+grammar.Goals as goal

pub params::self_param-returns-in-AMP-clause-gives : goal.params::self_param-returns-in-AMP-clause-gives
unfolding look_of begins_below whole rule items statements expressions patterns types paths there_at shift passes is_silent begins in_mode from_start row one_of any_of no_longer longest is_longer
params::self_param-returns-in-AMP-clause-gives t c = gives-from_start (from_start-here (c.requires.begins c.args.condition and saw-arm c.in-AMP.is (c.current.ensures.sees c.args.condition) and nothing) (from_start-look c.current.ensures.peeks.same (from_start-after refl c.self_after_ref.ensures.reads)))

pub params::self_param-returns-in-MUT_KW-clause-gives : goal.params::self_param-returns-in-MUT_KW-clause-gives
unfolding look_of begins_below whole rule items statements expressions patterns types paths there_at shift passes is_silent begins in_mode from_start row one_of any_of no_longer longest is_longer
params::self_param-returns-in-MUT_KW-clause-gives t c = gives-from_start (from_start-here (c.requires.begins c.args.condition and saw-arm c.in-MUT_KW.is (c.current.ensures.sees c.args.condition) and nothing) (from_start-look c.current.ensures.peeks.same (from_start-after refl c.self_after_mut.ensures.reads)))

pub params::self_param-returns-in_default-clause-gives : goal.params::self_param-returns-in_default-clause-gives
unfolding look_of begins_below whole rule items statements expressions patterns types paths there_at shift passes is_silent begins in_mode from_start row one_of any_of no_longer longest is_longer
params::self_param-returns-in_default-clause-gives t c = gives-from_start (from_start-here (c.requires.begins c.args.condition and saw-not c.in_default.not-AMP (c.current.ensures.sees c.args.condition) and saw-not c.in_default.not-MUT_KW (c.current.ensures.sees c.args.condition) and saw-else (Kind 0 kinds.SELF_KW) self_begins (saw-not c.in_default.not-AMP (c.current.ensures.sees c.args.condition) and saw-not c.in_default.not-MUT_KW (c.current.ensures.sees c.args.condition) and nothing) (c.requires.begins c.args.condition) refl and nothing) (from_start-look c.current.ensures.peeks.same (from_start-after refl c.self_alone.ensures.reads)))

pub params::self_after_ref-complete-requires : goal.params::self_after_ref-complete-requires
params::self_after_ref-complete-requires t c = c.opt_type.ensures.reads.does.innermost _ ((c.expect_self.ensures.reads On).does.innermost _ ((c.eat.ensures.reads On).does.innermost _ ((c.opt_lifetime.ensures.reads On).does.innermost _ ((c.take.ensures.reads On).does.innermost _ c.start-node.ensures.marker))))

pub params::self_after_ref-returns-clause-reads : goal.params::self_after_ref-returns-clause-reads
params::self_after_ref-returns-clause-reads t c = reads-node _ c.start-node.ensures.opens (reads-then _ (c.take.ensures.reads c.args.condition) (reads-then _ (c.opt_lifetime.ensures.reads c.args.condition) (reads-then _ (c.eat.ensures.reads c.args.condition) (reads-then _ (c.expect_self.ensures.reads c.args.condition) c.opt_type.ensures.reads)))) c.complete.ensures.closes

pub params::self_after_mut-complete-requires : goal.params::self_after_mut-complete-requires
params::self_after_mut-complete-requires t c = c.opt_type.ensures.reads.does.innermost _ ((c.expect_self.ensures.reads On).does.innermost _ ((c.take.ensures.reads On).does.innermost _ c.start-node.ensures.marker))

pub params::self_after_mut-returns-clause-reads : goal.params::self_after_mut-returns-clause-reads
params::self_after_mut-returns-clause-reads t c = reads-node _ c.start-node.ensures.opens (reads-then _ (c.take.ensures.reads c.args.condition) (reads-then _ (c.expect_self.ensures.reads c.args.condition) c.opt_type.ensures.reads)) c.complete.ensures.closes

pub params::self_alone-complete-requires : goal.params::self_alone-complete-requires
params::self_alone-complete-requires t c = c.opt_type.ensures.reads.does.innermost _ ((c.word_type.ensures.reads On).does.innermost _ c.start-node.ensures.marker)

pub params::self_alone-returns-clause-reads : goal.params::self_alone-returns-clause-reads
params::self_alone-returns-clause-reads t c = reads-node _ c.start-node.ensures.opens (reads-then _ (c.word_type.ensures.reads c.args.condition) c.opt_type.ensures.reads) c.complete.ensures.closes

pub params::param-new_param-requires : goal.params::param-new_param-requires
params::param-new_param-requires t c = (omega arith, record { sees = λ d. saw-after c.at_new_param.ensures.peeks.same (saw-right (saw-so (c.at_new_param.ensures.sees d) c.if-at_new_param.true)); some = omega (arith, c.at_new_param.ensures.some c.if-at_new_param.true, c.at_new_param.ensures.peeks.left) })

pub params::param-returns-then-at_new_param-clause-gives : goal.params::param-returns-then-at_new_param-clause-gives
unfolding look_of begins_below whole rule items statements expressions patterns types paths there_at shift passes is_silent begins in_mode from_start row one_of any_of no_longer longest is_longer
params::param-returns-then-at_new_param-clause-gives t c = gives-from_start (from_start-here (saw-so (c.at_new_param.ensures.sees c.args.condition) c.if-at_new_param.true and nothing) (from_start-look c.at_new_param.ensures.peeks.same c.new_param.ensures.from_start))

pub params::param-self_param-requires : goal.params::param-self_param-requires
params::param-self_param-requires t c = (omega arith, ((λ d. saw-after c.at_self.ensures.peeks.same (saw-so (c.at_self.ensures.sees d) c.if-at_self.true)), omega (arith, c.requires.some, c.at_new_param.ensures.peeks.left, c.at_self.ensures.peeks.left)))

pub params::param-returns-then-at_self-clause-gives : goal.params::param-returns-then-at_self-clause-gives
unfolding look_of begins_below whole rule items statements expressions patterns types paths there_at shift passes is_silent begins in_mode from_start row one_of any_of no_longer longest is_longer
params::param-returns-then-at_self-clause-gives t c = record { does = does-then c.at_new_param.ensures.peeks.same (does-then c.at_self.ensures.peeks.same c.self_param.ensures.gives.does) }

pub params::param-pattern_param-requires : goal.params::param-pattern_param-requires
unfolding look_of begins_below whole rule items statements expressions patterns types paths there_at shift passes is_silent begins in_mode from_start row one_of any_of no_longer longest is_longer
params::param-pattern_param-requires t c = (omega arith, ((λ d. saw-after c.at_self.ensures.peeks.same (saw-after c.at_new_param.ensures.peeks.same (begins-else rules.pattern rules.param refl (saw-so (c.at_new_param.ensures.sees d) c.if-at_new_param.false and saw-before c.at_new_param.ensures.peeks.same (saw-so (c.at_self.ensures.sees d) c.if-at_self.false) and nothing) (c.requires.begins d) refl))), omega (arith, c.requires.some, c.at_new_param.ensures.peeks.left, c.at_self.ensures.peeks.left)))

pub params::param-returns-clause-gives : goal.params::param-returns-clause-gives
unfolding look_of begins_below whole rule items statements expressions patterns types paths there_at shift passes is_silent begins in_mode from_start row one_of any_of no_longer longest is_longer
params::param-returns-clause-gives t c = gives-from_start (from_start-here (saw-so (c.at_new_param.ensures.sees c.args.condition) c.if-at_new_param.false and saw-before c.at_new_param.ensures.peeks.same (saw-so (c.at_self.ensures.sees c.args.condition) c.if-at_self.false) and nothing) (from_start-look c.at_new_param.ensures.peeks.same (from_start-look c.at_self.ensures.peeks.same (from_start-after refl c.pattern_param.ensures.reads))))

pub params::new_param-dots_param-requires : goal.params::new_param-dots_param-requires
params::new_param-dots_param-requires t c = omega (arith, c.at_dots_dot.ensures.some c.if-at_dots_dot.true, c.at_dots_dot.ensures.peeks.left)

pub params::new_param-returns-then-at_dots_dot-clause-from_start : goal.params::new_param-returns-then-at_dots_dot-clause-from_start
unfolding look_of begins_below whole rule items statements expressions patterns types paths there_at shift passes is_silent begins in_mode from_start row one_of any_of no_longer longest is_longer
params::new_param-returns-then-at_dots_dot-clause-from_start t c = from_start-here (saw-so (c.at_dots_dot.ensures.sees c.args.condition) c.if-at_dots_dot.true and nothing) (from_start-look c.at_dots_dot.ensures.peeks.same (from_start-after refl (c.dots_param.ensures.reads c.args.condition)))

pub params::new_param-attributed_param-requires : goal.params::new_param-attributed_param-requires
params::new_param-attributed_param-requires t c = (omega arith, omega (arith, c.requires.begins.some, c.at_dots_dot.ensures.peeks.left))

pub params::new_param-returns-clause-from_start : goal.params::new_param-returns-clause-from_start
unfolding look_of begins_below whole rule items statements expressions patterns types paths there_at shift passes is_silent begins in_mode from_start row one_of any_of no_longer longest is_longer
params::new_param-returns-clause-from_start t c = from_start-here (saw-so (c.at_dots_dot.ensures.sees c.args.condition) c.if-at_dots_dot.false and nothing) (from_start-look c.at_dots_dot.ensures.peeks.same c.attributed_param.ensures.from_start)

pub params::attributed_param-after_attributes-requires : goal.params::attributed_param-after_attributes-requires
params::attributed_param-after_attributes-requires t c = (omega arith, (c.attributes.ensures.reads On).does.innermost _ ((c.attribute.ensures.gives On).does.innermost _ (c.start-node.ensures.marker)))

pub params::attributed_param-returns-clause-from_start : goal.params::attributed_param-returns-clause-from_start
params::attributed_param-returns-clause-from_start t c = from_start-completes c.start-node.ensures.opens (completes-then (reads-call _ (c.attribute.ensures.gives c.args.condition)) (completes-then (c.attributes.ensures.reads c.args.condition) c.after_attributes.ensures.completes))

pub params::pattern_param-returns-clause-reads : goal.params::pattern_param-returns-clause-reads
params::pattern_param-returns-clause-reads t c = reads-node c.args.condition c.start-node.ensures.opens (reads-then c.args.condition (reads-call c.args.condition (c.pattern.ensures.gives c.args.condition)) (c.param_type.ensures.reads c.args.condition)) c.complete.ensures.closes

pub params::pattern_param-complete-requires : goal.params::pattern_param-complete-requires
params::pattern_param-complete-requires t c = (c.param_type.ensures.reads On).does.innermost _ ((c.pattern.ensures.gives On).does.innermost _ (c.start-node.ensures.marker))

pub params::pattern_param-pattern-requires : goal.params::pattern_param-pattern-requires
params::pattern_param-pattern-requires t c = (omega arith, ((λ d. saw-inside c.start-node.ensures.opens (c.requires.begins d)), omega (arith, c.requires.some, c.start-node.ensures.stays.left)))

pub params::after_attributes-returns-then-at_self-clause-completes : goal.params::after_attributes-returns-then-at_self-clause-completes
unfolding look_of begins_below whole rule items statements expressions patterns types paths there_at shift passes is_silent begins in_mode from_start row one_of any_of no_longer longest is_longer
params::after_attributes-returns-then-at_self-clause-completes t c = completes-here (saw-so (c.at_self.ensures.sees c.args.condition) c.if-at_self.true and nothing) (completes-look c.at_self.ensures.peeks.same (completes-wrap c.self_rest.ensures.reads c.complete.ensures.closes))

pub params::after_attributes-returns-clause-completes : goal.params::after_attributes-returns-clause-completes
unfolding look_of begins_below whole rule items statements expressions patterns types paths there_at shift passes is_silent begins in_mode from_start row one_of any_of no_longer longest is_longer
params::after_attributes-returns-clause-completes t c = completes-here (saw-so (c.at_self.ensures.sees c.args.condition) c.if-at_self.false and nothing) (completes-look c.at_self.ensures.peeks.same (completes-wrap (c.dots_or_param.ensures.reads c.args.condition) c.complete-2.ensures.closes))

pub params::after_attributes-complete-requires : goal.params::after_attributes-complete-requires
params::after_attributes-complete-requires t c = c.self_rest.ensures.reads.does.innermost _ (c.at_self.ensures.peeks.same.innermost _ (c.requires.innermost))

pub params::after_attributes-complete-requires-2 : goal.params::after_attributes-complete-requires-2
params::after_attributes-complete-requires-2 t c = (c.dots_or_param.ensures.reads On).does.innermost _ (c.at_self.ensures.peeks.same.innermost _ (c.requires.innermost))

pub params::self_rest-returns-clause-reads : goal.params::self_rest-returns-clause-reads
params::self_rest-returns-clause-reads t c = reads-then _ (c.opt_ref.ensures.reads c.args.condition) (reads-then _ (c.eat.ensures.reads c.args.condition) (reads-then _ (c.expect_self.ensures.reads c.args.condition) c.opt_type.ensures.reads))

pub params::dots_or_param-returns-then-at_dots_dot-clause-reads : goal.params::dots_or_param-returns-then-at_dots_dot-clause-reads
unfolding look_of begins_below whole rule items statements expressions patterns types paths there_at shift passes is_silent begins in_mode from_start row one_of any_of no_longer longest is_longer
params::dots_or_param-returns-then-at_dots_dot-clause-reads t c = λ cond. reads-here (saw-so (c.at_dots_dot.ensures.sees cond) c.if-at_dots_dot.true and nothing) (after-look cond c.at_dots_dot.ensures.peeks.same (c.take_three_dots.ensures.reads cond))

pub params::dots_or_param-returns-clause-reads : goal.params::dots_or_param-returns-clause-reads
unfolding look_of begins_below whole rule items statements expressions patterns types paths there_at shift passes is_silent begins in_mode from_start row one_of any_of no_longer longest is_longer
params::dots_or_param-returns-clause-reads t c = λ cond. reads-here (saw-so (c.at_dots_dot.ensures.sees cond) c.if-at_dots_dot.false and nothing) (after-look cond c.at_dots_dot.ensures.peeks.same (reads-then cond (c.expect_part.ensures.reads cond) (c.param_type.ensures.reads cond)))

pub params::param_type-returns-clause-reads : goal.params::param_type-returns-clause-reads
params::param_type-returns-clause-reads t c = λ cond. reads-then cond (c.expect.ensures.reads cond) (c.dots_or_type.ensures.reads cond)

pub params::dots_or_type-returns-then-at_new_dots-clause-reads : goal.params::dots_or_type-returns-then-at_new_dots-clause-reads
unfolding look_of begins_below whole rule items statements expressions patterns types paths there_at shift passes is_silent begins in_mode from_start row one_of any_of no_longer longest is_longer
params::dots_or_type-returns-then-at_new_dots-clause-reads t c = λ cond. reads-here (saw-so (c.at_new_dots.ensures.sees cond) c.if-at_new_dots.true and nothing) (after-look cond c.at_new_dots.ensures.peeks.same (c.take_three_dots.ensures.reads cond))

pub params::dots_or_type-returns-clause-reads : goal.params::dots_or_type-returns-clause-reads
unfolding look_of begins_below whole rule items statements expressions patterns types paths there_at shift passes is_silent begins in_mode from_start row one_of any_of no_longer longest is_longer
params::dots_or_type-returns-clause-reads t c = λ cond. reads-here (saw-so (c.at_new_dots.ensures.sees cond) c.if-at_new_dots.false and nothing) (after-look cond c.at_new_dots.ensures.peeks.same (c.expect_part.ensures.reads cond))
