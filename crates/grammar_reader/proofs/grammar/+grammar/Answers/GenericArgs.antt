-- Generic arguments.
use Rattle.std.proofs.Common.{refl, arith}
use Rattle.rust_grammar.specs.Rule as rules
use Rattle.rust_grammar.specs.Expressions.{expressions}
use Rattle.rust_grammar.specs.Items.{items}
use Rattle.rust_grammar.specs.Meaning.{begins_below, look_of}
use Rattle.rust_grammar.specs.Notation.{◌before◌, wide, any_of, is_longer, no_longer, longest, one_of, row}
use Rattle.rust_grammar.specs.Paths.{new_arg_begins, paths}
use Rattle.rust_grammar.specs.Patterns.{patterns}
use Rattle.rust_grammar.specs.Rule.{begins, in_mode, from_start, is_silent, passes, shift, there_at}
use Rattle.rust_grammar.specs.Statements.{statements}
use Rattle.rust_grammar.specs.Types.{types}
use Rattle.rust_grammar.specs.Whole.{rule, whole}
use Rattle.rust_grammar.specs.Words.{'lifetime', '+'}
use Rattle.rust_productions.specs.declared.condition.Condition.TheVariants.{On}
use Rattle.rust_productions.proofs.ByHand.{after-look, completes-leave, does-nothing, does-then, reads-call, reads-node, reads-nothing, reads-then, reads-wrap}
use Rattle.rust_productions.proofs.Choices.{from_start-after, from_start-completes, from_start-here, from_start-look, gives-from_start, reads-here}
use Rattle.rust_productions.proofs.Facts.{begun, nothing, saw-so, ◌and◌}
use Rattle.rust_productions.proofs.Looking.{saw-arm, saw-not}
use Rattle.rust_productions.proofs.Seen.{begins-else, begins-here, begins-row, saw-after, saw-before, saw-else, saw-inside, saw-left}
use Rattle.grammar_reader.proofs.grammar.+grammar.Goals as goal

pub generic_args::word_arg-assoc_type_arg-requires : goal.generic_args::word_arg-assoc_type_arg-requires
generic_args::word_arg-assoc_type_arg-requires t c = (omega arith, omega (arith, c.at_second.ensures.some c.if-at_second.true (λ e. absurd (omega (arith, e))), c.at_second.ensures.peeks.left))

pub generic_args::assoc_type_arg-complete-requires : goal.generic_args::assoc_type_arg-complete-requires
generic_args::assoc_type_arg-complete-requires t c = (c.expect_part.ensures.reads On).does.innermost _ ((c.take.ensures.reads On).does.innermost _ ((c.word_type.ensures.reads On).does.innermost _ c.start-node.ensures.marker))

pub generic_args::assoc_type_arg-returns-clause-reads : goal.generic_args::assoc_type_arg-returns-clause-reads
generic_args::assoc_type_arg-returns-clause-reads t c = λ cond. reads-node _ c.start-node.ensures.opens (reads-then _ (c.word_type.ensures.reads cond) (reads-then _ (c.take.ensures.reads cond) (c.expect_part.ensures.reads cond))) c.complete.ensures.closes

pub generic_args::type_arg-complete-requires : goal.generic_args::type_arg-complete-requires
generic_args::type_arg-complete-requires t c = (c.any_type.ensures.gives On).does.innermost _ c.start-node.ensures.marker

pub generic_args::type_arg-returns-clause-reads : goal.generic_args::type_arg-returns-clause-reads
generic_args::type_arg-returns-clause-reads t c = λ cond. reads-node _ c.start-node.ensures.opens (reads-call _ (c.any_type.ensures.gives cond)) c.complete.ensures.closes

pub generic_args::generic_arg-new_arg-frame-requires : goal.generic_args::generic_arg-new_arg-frame-requires
generic_args::generic_arg-new_arg-frame-requires t c = (omega arith, (record { sees = λ d. saw-inside c.start-frame.ensures.opens (saw-after c.at_new_arg.ensures.peeks.same (saw-so (c.at_new_arg.ensures.sees d) c.if-at_new_arg.true)); some = omega (arith, c.at_new_arg.ensures.some c.if-at_new_arg.true, c.at_new_arg.ensures.peeks.left, c.start-frame.ensures.stays.left) }, c.start-frame.ensures.marker))

pub generic_args::generic_arg-returns-then-at_new_arg-clause-gives : goal.generic_args::generic_arg-returns-then-at_new_arg-clause-gives
unfolding look_of begins_below whole rule items statements expressions patterns types paths there_at shift passes is_silent begins in_mode from_start row one_of any_of no_longer longest is_longer
generic_args::generic_arg-returns-then-at_new_arg-clause-gives t c = λ cond. gives-from_start (record { does = does-then c.at_new_arg.ensures.peeks.same (from_start-completes c.start-frame.ensures.opens (completes-leave (reads-here (saw-inside c.start-frame.ensures.opens (saw-after c.at_new_arg.ensures.peeks.same (saw-so (c.at_new_arg.ensures.sees cond) c.if-at_new_arg.true)) and nothing) (c.new_arg-frame.ensures.reads cond)) c.abandon.ensures.leaves)).does })

pub generic_args::generic_arg-returns-in-LIFETIME_IDENT-clause-gives : goal.generic_args::generic_arg-returns-in-LIFETIME_IDENT-clause-gives
unfolding look_of begins_below whole rule items statements expressions patterns types paths there_at shift passes is_silent begins in_mode from_start row one_of any_of no_longer longest is_longer
generic_args::generic_arg-returns-in-LIFETIME_IDENT-clause-gives t c = λ cond. gives-from_start (from_start-here (saw-so (c.at_new_arg.ensures.sees cond) c.if-at_new_arg.false and saw-before c.at_new_arg.ensures.peeks.same (saw-arm c.in-LIFETIME_IDENT.is (c.current.ensures.sees cond)) and nothing) (from_start-look c.at_new_arg.ensures.peeks.same (from_start-look c.current.ensures.peeks.same (from_start-after refl (c.lifetime_arg.ensures.reads cond)))))

pub generic_args::generic_arg-returns-in-MINUS-clause-gives : goal.generic_args::generic_arg-returns-in-MINUS-clause-gives
unfolding look_of begins_below whole rule items statements expressions patterns types paths there_at shift passes is_silent begins in_mode from_start row one_of any_of no_longer longest is_longer
generic_args::generic_arg-returns-in-MINUS-clause-gives t c = λ cond. gives-from_start (from_start-here (saw-so (c.at_new_arg.ensures.sees cond) c.if-at_new_arg.false and saw-before c.at_new_arg.ensures.peeks.same (saw-arm c.in-MINUS.is (c.current.ensures.sees cond)) and nothing) (from_start-look c.at_new_arg.ensures.peeks.same (from_start-look c.current.ensures.peeks.same (from_start-after refl (c.negative_arg.ensures.reads cond)))))

pub generic_args::generic_arg-word_arg-requires : goal.generic_args::generic_arg-word_arg-requires
generic_args::generic_arg-word_arg-requires t c = (omega arith, (record { sees = λ d. saw-after c.current.ensures.peeks.same (saw-after c.at_new_arg.ensures.peeks.same (saw-before c.at_new_arg.ensures.peeks.same (saw-arm c.in-IDENT.is (c.current.ensures.sees d)))); some = omega (arith, c.requires.begins.some, c.at_new_arg.ensures.peeks.left, c.current.ensures.peeks.left) }, (λ d. saw-after c.current.ensures.peeks.same (saw-after c.at_new_arg.ensures.peeks.same (saw-so (c.at_new_arg.ensures.sees d) c.if-at_new_arg.false)))))

pub generic_args::generic_arg-returns-in-IDENT-clause-gives : goal.generic_args::generic_arg-returns-in-IDENT-clause-gives
unfolding look_of begins_below whole rule items statements expressions patterns types paths there_at shift passes is_silent begins in_mode from_start row one_of any_of no_longer longest is_longer
generic_args::generic_arg-returns-in-IDENT-clause-gives t c = λ cond. gives-from_start (from_start-look c.at_new_arg.ensures.peeks.same (from_start-look c.current.ensures.peeks.same (c.word_arg.ensures.from_start cond)))

pub generic_args::generic_arg-returns-then-at_literal-clause-gives : goal.generic_args::generic_arg-returns-then-at_literal-clause-gives
unfolding look_of begins_below whole rule items statements expressions patterns types paths there_at shift passes is_silent begins in_mode from_start row one_of any_of no_longer longest is_longer
generic_args::generic_arg-returns-then-at_literal-clause-gives t c = λ cond. gives-from_start (from_start-here (saw-so (c.at_new_arg.ensures.sees cond) c.if-at_new_arg.false and saw-before c.at_new_arg.ensures.peeks.same (saw-not c.in_default.not-LIFETIME_IDENT (c.current.ensures.sees cond)) and saw-before c.at_new_arg.ensures.peeks.same (saw-not c.in_default.not-MINUS (c.current.ensures.sees cond)) and saw-before c.at_new_arg.ensures.peeks.same (saw-not c.in_default.not-IDENT (c.current.ensures.sees cond)) and begun rules.literal (saw-before c.at_new_arg.ensures.peeks.same (saw-before c.current.ensures.peeks.same (saw-so (c.at_literal.ensures.sees cond) c.if-at_literal.true))) nothing) (from_start-look c.at_new_arg.ensures.peeks.same (from_start-look c.current.ensures.peeks.same (from_start-look c.at_literal.ensures.peeks.same (from_start-after refl (c.literal_arg.ensures.reads cond))))))

pub generic_args::generic_arg-type_arg-requires : goal.generic_args::generic_arg-type_arg-requires
unfolding look_of begins_below whole rule items statements expressions patterns types paths there_at shift passes is_silent begins in_mode from_start row one_of any_of no_longer longest is_longer
generic_args::generic_arg-type_arg-requires t c = (omega arith, record { sees = λ d. saw-after c.at_literal.ensures.peeks.same (saw-after c.current.ensures.peeks.same (saw-after c.at_new_arg.ensures.peeks.same (begins-else rules.any_type rules.generic_arg refl (saw-so (c.at_new_arg.ensures.sees d) c.if-at_new_arg.false and saw-before c.at_new_arg.ensures.peeks.same (saw-not c.in_default.not-LIFETIME_IDENT (c.current.ensures.sees d)) and saw-before c.at_new_arg.ensures.peeks.same (saw-not c.in_default.not-MINUS (c.current.ensures.sees d)) and saw-before c.at_new_arg.ensures.peeks.same (saw-not c.in_default.not-IDENT (c.current.ensures.sees d)) and begun rules.literal (saw-before c.at_new_arg.ensures.peeks.same (saw-before c.current.ensures.peeks.same (saw-so (c.at_literal.ensures.sees d) c.if-at_literal.false))) nothing) (c.requires.begins.sees d) refl))); some = omega (arith, c.requires.begins.some, c.at_new_arg.ensures.peeks.left, c.current.ensures.peeks.left, c.at_literal.ensures.peeks.left) })

pub generic_args::generic_arg-returns-else-at_literal-clause-gives : goal.generic_args::generic_arg-returns-else-at_literal-clause-gives
unfolding look_of begins_below whole rule items statements expressions patterns types paths there_at shift passes is_silent begins in_mode from_start row one_of any_of no_longer longest is_longer
generic_args::generic_arg-returns-else-at_literal-clause-gives t c = λ cond. gives-from_start (from_start-here (saw-so (c.at_new_arg.ensures.sees cond) c.if-at_new_arg.false and saw-before c.at_new_arg.ensures.peeks.same (saw-not c.in_default.not-LIFETIME_IDENT (c.current.ensures.sees cond)) and saw-before c.at_new_arg.ensures.peeks.same (saw-not c.in_default.not-MINUS (c.current.ensures.sees cond)) and saw-before c.at_new_arg.ensures.peeks.same (saw-not c.in_default.not-IDENT (c.current.ensures.sees cond)) and begun rules.literal (saw-before c.at_new_arg.ensures.peeks.same (saw-before c.current.ensures.peeks.same (saw-so (c.at_literal.ensures.sees cond) c.if-at_literal.false))) nothing) (from_start-look c.at_new_arg.ensures.peeks.same (from_start-look c.current.ensures.peeks.same (from_start-look c.at_literal.ensures.peeks.same (from_start-after refl (c.type_arg.ensures.reads cond))))))

pub generic_args::word_arg-returns-then-at_second-clause-from_start : goal.generic_args::word_arg-returns-then-at_second-clause-from_start
unfolding look_of begins_below whole rule items statements expressions patterns types paths there_at shift passes is_silent begins in_mode from_start row one_of any_of no_longer longest is_longer
generic_args::word_arg-returns-then-at_second-clause-from_start t c = λ cond. from_start-here (c.requires.other cond and c.requires.word.sees cond and saw-so (c.at_second.ensures.sees cond) c.if-at_second.true and nothing) (from_start-look c.at_second.ensures.peeks.same (from_start-after refl (c.assoc_type_arg.ensures.reads cond)))

pub generic_args::word_arg-type_arg-requires : goal.generic_args::word_arg-type_arg-requires
unfolding look_of begins_below whole rule items statements expressions patterns types paths there_at shift passes is_silent begins in_mode from_start row one_of any_of no_longer longest is_longer
generic_args::word_arg-type_arg-requires t c = (omega arith, record { sees = λ d. saw-after c.at_second.ensures.peeks.same (begins-here rules.any_type refl (c.requires.word.sees d and nothing) refl); some = omega (arith, c.requires.word.some, c.at_second.ensures.peeks.left) })

pub generic_args::word_arg-returns-clause-from_start : goal.generic_args::word_arg-returns-clause-from_start
unfolding look_of begins_below whole rule items statements expressions patterns types paths there_at shift passes is_silent begins in_mode from_start row one_of any_of no_longer longest is_longer
generic_args::word_arg-returns-clause-from_start t c = λ cond. from_start-here (c.requires.other cond and c.requires.word.sees cond and saw-so (c.at_second.ensures.sees cond) c.if-at_second.false and nothing) (from_start-look c.at_second.ensures.peeks.same (from_start-after refl (c.type_arg.ensures.reads cond)))

pub generic_args::type_arg-any_type-requires : goal.generic_args::type_arg-any_type-requires
generic_args::type_arg-any_type-requires t c = (omega arith, record { sees = λ d. saw-inside c.start-node.ensures.opens (c.requires.begins.sees d); some = omega (arith, c.requires.begins.some, c.start-node.ensures.stays.left) })

pub generic_args::new_arg-type_arg-requires : goal.generic_args::new_arg-type_arg-requires
unfolding look_of begins_below whole rule items statements expressions patterns types paths there_at shift passes is_silent begins in_mode from_start row one_of any_of no_longer longest is_longer
generic_args::new_arg-type_arg-requires t c = (omega arith, record { sees = λ d. saw-after c.at.ensures.peeks.same (begins-row rules.any_type (saw-left (c.requires.begins.sees d) and saw-else ('lifetime' before '+') (wide new_arg_begins) (saw-so (c.at.ensures.sees d) c.if-at.true and nothing) (c.requires.begins.sees d) refl and saw-so (c.at.ensures.sees d) c.if-at.true and nothing) refl); some = omega (arith, c.requires.begins.some, c.at.ensures.peeks.left) })

pub generic_args::new_arg-returns-then-at-clause-reads : goal.generic_args::new_arg-returns-then-at-clause-reads
unfolding look_of begins_below whole rule items statements expressions patterns types paths there_at shift passes is_silent begins in_mode from_start row one_of any_of no_longer longest is_longer
generic_args::new_arg-returns-then-at-clause-reads t c = λ cond. reads-here (saw-else ('lifetime' before '+') (wide new_arg_begins) (saw-so (c.at.ensures.sees cond) c.if-at.true and nothing) (c.requires.begins.sees cond) refl and nothing) (after-look _ c.at.ensures.peeks.same (c.type_arg.ensures.reads cond))

pub generic_args::new_arg-returns-then-at-clause-takes : goal.generic_args::new_arg-returns-then-at-clause-takes
generic_args::new_arg-returns-then-at-clause-takes t c = record {
  left = omega (arith, c.type_arg.ensures.takes.left, c.at.ensures.peeks.left);
  looks = omega (arith, c.type_arg.ensures.takes.looks, c.at.ensures.peeks.looks);
  marker = (c.type_arg.ensures.reads On).does.innermost _ (c.at.ensures.peeks.same.innermost _ c.requires.innermost);
}

pub generic_args::new_arg-returns-then-at-2-clause-reads : goal.generic_args::new_arg-returns-then-at-2-clause-reads
unfolding look_of begins_below whole rule items statements expressions patterns types paths there_at shift passes is_silent begins in_mode from_start row one_of any_of no_longer longest is_longer
generic_args::new_arg-returns-then-at-2-clause-reads t c = λ cond. reads-here (saw-so (c.at.ensures.sees cond) c.if-at.false and saw-before c.at.ensures.peeks.same (saw-so (c.at-2.ensures.sees cond) c.if-at-2.true) and nothing) (after-look _ c.at.ensures.peeks.same (after-look _ c.at-2.ensures.peeks.same (c.block_arg.ensures.reads cond)))

pub generic_args::new_arg-returns-then-at-2-clause-takes : goal.generic_args::new_arg-returns-then-at-2-clause-takes
generic_args::new_arg-returns-then-at-2-clause-takes t c = record {
  left = omega (arith, c.block_arg.ensures.takes.left, c.at.ensures.peeks.left, c.at-2.ensures.peeks.left);
  looks = omega (arith, c.block_arg.ensures.takes.looks, c.at.ensures.peeks.looks, c.at-2.ensures.peeks.looks);
  marker = (c.block_arg.ensures.reads On).does.innermost _ (c.at-2.ensures.peeks.same.innermost _ (c.at.ensures.peeks.same.innermost _ c.requires.innermost));
}

pub generic_args::new_arg-named_arg-requires : goal.generic_args::new_arg-named_arg-requires
generic_args::new_arg-named_arg-requires t c = (omega arith, (c.opt_type_args.ensures.reads On).does.innermost _ ((c.name_ref.ensures.gives On).does.innermost _ (c.at-2.ensures.peeks.same.innermost _ (c.at.ensures.peeks.same.innermost _ c.requires.innermost))))

pub generic_args::new_arg-returns-clause-reads : goal.generic_args::new_arg-returns-clause-reads
unfolding look_of begins_below whole rule items statements expressions patterns types paths there_at shift passes is_silent begins in_mode from_start row one_of any_of no_longer longest is_longer
generic_args::new_arg-returns-clause-reads t c = λ cond. reads-here (saw-so (c.at.ensures.sees cond) c.if-at.false and saw-before c.at.ensures.peeks.same (saw-so (c.at-2.ensures.sees cond) c.if-at-2.false) and nothing) (after-look _ c.at.ensures.peeks.same (after-look _ c.at-2.ensures.peeks.same (reads-then _ (reads-call _ (c.name_ref.ensures.gives cond)) (reads-then _ (c.opt_type_args.ensures.reads cond) (c.named_arg.ensures.reads cond)))))

pub generic_args::block_arg-complete-requires : goal.generic_args::block_arg-complete-requires
generic_args::block_arg-complete-requires t c = (c.block.ensures.gives On).does.innermost _ c.start-node.ensures.marker

pub generic_args::block_arg-returns-clause-reads : goal.generic_args::block_arg-returns-clause-reads
generic_args::block_arg-returns-clause-reads t c = λ cond. reads-node _ c.start-node.ensures.opens (reads-call _ (c.block.ensures.gives cond)) c.complete.ensures.closes

pub generic_args::named_arg-wrap-requires : goal.generic_args::named_arg-wrap-requires
generic_args::named_arg-wrap-requires t c = (c.const_or_type.ensures.reads On).does.innermost _ ((c.take.ensures.reads On).does.innermost _ (c.at.ensures.peeks.same.innermost _ c.requires.innermost))

pub generic_args::named_arg-wrap-requires-then-at_single_colon : goal.generic_args::named_arg-wrap-requires-then-at_single_colon
generic_args::named_arg-wrap-requires-then-at_single_colon t c = (c.bounds.ensures.gives On).does.innermost _ ((c.take-then-at_single_colon.ensures.reads On).does.innermost _ (c.at_single_colon.ensures.peeks.same.innermost _ (c.at.ensures.peeks.same.innermost _ c.requires.innermost)))

pub generic_args::named_arg-front_of_type-requires : goal.generic_args::named_arg-front_of_type-requires
generic_args::named_arg-front_of_type-requires t c = (omega arith, c.at_single_colon.ensures.peeks.same.innermost _ (c.at.ensures.peeks.same.innermost _ c.requires.innermost))

pub generic_args::named_arg-returns-then-at-clause-reads : goal.generic_args::named_arg-returns-then-at-clause-reads
unfolding look_of begins_below whole rule items statements expressions patterns types paths there_at shift passes is_silent begins in_mode from_start row one_of any_of no_longer longest is_longer
generic_args::named_arg-returns-then-at-clause-reads t c = λ cond. reads-here (saw-so (c.at.ensures.sees cond) c.if-at.true and nothing) (after-look _ c.at.ensures.peeks.same (reads-wrap _ (reads-then _ (c.take.ensures.reads cond) (c.const_or_type.ensures.reads cond)) c.wrap.ensures.wraps))

pub generic_args::named_arg-returns-then-at_single_colon-clause-reads : goal.generic_args::named_arg-returns-then-at_single_colon-clause-reads
unfolding look_of begins_below whole rule items statements expressions patterns types paths there_at shift passes is_silent begins in_mode from_start row one_of any_of no_longer longest is_longer
generic_args::named_arg-returns-then-at_single_colon-clause-reads t c = λ cond. reads-here (saw-so (c.at.ensures.sees cond) c.if-at.false and saw-before c.at.ensures.peeks.same (saw-so (c.at_single_colon.ensures.sees cond) c.if-at_single_colon.true) and nothing) (after-look _ c.at.ensures.peeks.same (after-look _ c.at_single_colon.ensures.peeks.same (reads-wrap _ (reads-then _ (c.take-then-at_single_colon.ensures.reads cond) (reads-call _ (c.bounds.ensures.gives cond))) c.wrap-then-at_single_colon.ensures.wraps)))

pub generic_args::named_arg-returns-clause-reads : goal.generic_args::named_arg-returns-clause-reads
unfolding look_of begins_below whole rule items statements expressions patterns types paths there_at shift passes is_silent begins in_mode from_start row one_of any_of no_longer longest is_longer
generic_args::named_arg-returns-clause-reads t c = λ cond. reads-here (saw-so (c.at.ensures.sees cond) c.if-at.false and saw-before c.at.ensures.peeks.same (saw-so (c.at_single_colon.ensures.sees cond) c.if-at_single_colon.false) and nothing) (after-look _ c.at.ensures.peeks.same (after-look _ c.at_single_colon.ensures.peeks.same (c.front_of_type.ensures.reads cond)))

pub generic_args::const_or_type-returns-then-at_const_value-clause-reads : goal.generic_args::const_or_type-returns-then-at_const_value-clause-reads
unfolding look_of begins_below whole rule items statements expressions patterns types paths there_at shift passes is_silent begins in_mode from_start row one_of any_of no_longer longest is_longer
generic_args::const_or_type-returns-then-at_const_value-clause-reads t c = λ cond. reads-here (saw-so (c.at_const_value.ensures.sees cond) c.if-at_const_value.true and nothing) (after-look _ c.at_const_value.ensures.peeks.same (c.const_arg.ensures.reads cond))

pub generic_args::const_or_type-returns-clause-reads : goal.generic_args::const_or_type-returns-clause-reads
unfolding look_of begins_below whole rule items statements expressions patterns types paths there_at shift passes is_silent begins in_mode from_start row one_of any_of no_longer longest is_longer
generic_args::const_or_type-returns-clause-reads t c = λ cond. reads-here (saw-so (c.at_const_value.ensures.sees cond) c.if-at_const_value.false and nothing) (after-look _ c.at_const_value.ensures.peeks.same (c.expect_part.ensures.reads cond))

pub generic_args::front_of_type-next_segments-frame-requires : goal.generic_args::front_of_type-next_segments-frame-requires
generic_args::front_of_type-next_segments-frame-requires t c = (omega arith, c.wrap-frame-2.ensures.marker)

pub generic_args::front_of_type-returns-clause-reads : goal.generic_args::front_of_type-returns-clause-reads
generic_args::front_of_type-returns-clause-reads t c = λ cond. reads-then _ (reads-wrap _ (reads-nothing _ (does-nothing _)) c.wrap-frame.ensures.wraps) (reads-then _ (reads-wrap _ (reads-nothing _ (does-nothing _)) c.wrap-frame-2.ensures.wraps) (reads-then _ (c.next_segments-frame.ensures.reads cond) (reads-then _ (c.type_of_path-frame.ensures.reads cond) (reads-then _ (c.opt_plus_bounds-frame.ensures.reads cond) (reads-wrap _ (reads-nothing _ (does-nothing _)) c.wrap.ensures.wraps)))))
